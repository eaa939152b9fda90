use Rattle.std.proofs.Common.{◌≡◌, ◌+◌, length, arith, ap, subst}
use Rattle.memberlist_wrap.specs.Lzw.{StandsFor}
use Rattle.memberlist_wrap.specs.Dictionary.{DecoderState, decoder_state, again}
use Rattle.memberlist_wrap.proofs.Cutting.{length-again, read_ends, Stands-read}
use Rattle.memberlist_wrap.proofs.Keeping.{made_kept, AreKept-kept, few_words}
use Rattle.memberlist_wrap.proofs.dictionary.Dictionary.append_again.Goals as goal

pub returns-then-place-len-clause-bad : goal.returns-then-place-len-clause-bad
returns-then-place-len-clause-bad c e =
    let inside = c.self.inside in
    omega (arith, c.len.ensures, inside.starts.ok.0, few_words inside.output.items inside.starts.items c.args.self.now c.self.view_is)

pub overflow_sub-to : goal.overflow_sub-to
overflow_sub-to c =
    let inside = c.self.inside in
    let ends =
    read_ends inside.output.items inside.starts.items c.deref.result.now c.args.place c.len.result c.len-start.result
    c.index-from.result.now c.start_after-to.result
    c.self.invariant.0 (omega (arith, c.len.ensures, inside.starts.ok.0)) c.if-place-len.false
    (omega (arith, c.len-start.ensures, inside.output.ok.0)) c.deref.ensures.value c.index-from.ensures c.start_after-to.ensures
    in
    omega (arith, ends.some)

pub returns-then-to-from-clause-large : goal.returns-then-to-from-clause-large
returns-then-to-from-clause-large c e =
    let inside = c.self.inside in
    let ends =
    read_ends inside.output.items inside.starts.items c.deref.result.now c.args.place c.len.result c.len-start.result
    c.index-from.result.now c.start_after-to.result
    c.self.invariant.0 (omega (arith, c.len.ensures, inside.starts.ok.0)) c.if-place-len.false
    (omega (arith, c.len-start.ensures, inside.output.ok.0)) c.deref.ensures.value c.index-from.ensures c.start_after-to.ensures
    in
    let word = again inside.output.items c.index-from.result.now c.start_after-to.result in
    let P : DecoderState → Type 0 = λ m. StandsFor m.words (258 + c.args.place) word in
    let stands : P (decoder_state inside.output.items inside.starts.items) =
    Stands-read 3839 inside.output.items inside.starts.items c.args.place _ _ c.self.invariant.0
    (omega (arith, c.len.ensures, inside.starts.ok.0)) (omega arith) ends in
    let start : c.len-start.result ≡ length c.args.self.now.output =
    omega (arith, c.len-start.ensures, inside.output.ok.0, ap (λ (m : DecoderState). length m.output) c.self.view_is) in (
      word,
      subst P c.self.view_is stands,
      omega (
        arith,
        start,
        ends.some,
        c.requires.short,
        length-again inside.output.items c.index-from.result.now c.start_after-to.result ends.some
            ends.within,
      ),
    )

pub copy_again-requires-clause-some : goal.copy_again-requires-clause-some
copy_again-requires-clause-some c =
    let inside = c.self.inside in
    let ends =
    read_ends inside.output.items inside.starts.items c.deref.result.now c.args.place c.len.result c.len-start.result
    c.index-from.result.now c.start_after-to.result
    c.self.invariant.0 (omega (arith, c.len.ensures, inside.starts.ok.0)) c.if-place-len.false
    (omega (arith, c.len-start.ensures, inside.output.ok.0)) c.deref.ensures.value c.index-from.ensures c.start_after-to.ensures
    in
    ends.some

pub copy_again-requires-clause-inside : goal.copy_again-requires-clause-inside
copy_again-requires-clause-inside c =
    let inside = c.self.inside in
    let ends =
    read_ends inside.output.items inside.starts.items c.deref.result.now c.args.place c.len.result c.len-start.result
    c.index-from.result.now c.start_after-to.result
    c.self.invariant.0 (omega (arith, c.len.ensures, inside.starts.ok.0)) c.if-place-len.false
    (omega (arith, c.len-start.ensures, inside.output.ok.0)) c.deref.ensures.value c.index-from.ensures c.start_after-to.ensures
    in
    omega (arith, ends.within, inside.output.ok.0)

pub invariant_of-self-2 : goal.invariant_of-self-2
invariant_of-self-2 c =
    let inside = c.self.inside in
    let ends =
    read_ends inside.output.items inside.starts.items c.deref.result.now c.args.place c.len.result c.len-start.result
    c.index-from.result.now c.start_after-to.result
    c.self.invariant.0 (omega (arith, c.len.ensures, inside.starts.ok.0)) c.if-place-len.false
    (omega (arith, c.len-start.ensures, inside.output.ok.0)) c.deref.ensures.value c.index-from.ensures c.start_after-to.ensures
    in
    let start : c.len-start.result ≡ length inside.output.items = omega (arith, c.len-start.ensures, inside.output.ok.0) in
    let word = again inside.output.items c.index-from.result.now c.start_after-to.result in
    AreKept-kept inside.output.items word c.copy_again.new.output.items inside.starts.items c.keep_start.new.starts.items
    c.len-start.result start c.self.invariant
    c.in_ok-copy_again.ensures.ok
    (omega (arith, length-again inside.output.items c.index-from.result.now c.start_after-to.result ends.some ends.within))
    c.in_ok-keep_start.ensures.ok

pub returns-clause-appends : goal.returns-clause-appends
returns-clause-appends c =
    let inside = c.self.inside in
    let ends =
    read_ends inside.output.items inside.starts.items c.deref.result.now c.args.place c.len.result c.len-start.result
    c.index-from.result.now c.start_after-to.result
    c.self.invariant.0 (omega (arith, c.len.ensures, inside.starts.ok.0)) c.if-place-len.false
    (omega (arith, c.len-start.ensures, inside.output.ok.0)) c.deref.ensures.value c.index-from.ensures c.start_after-to.ensures
    in
    let start : c.len-start.result ≡ length inside.output.items = omega (arith, c.len-start.ensures, inside.output.ok.0) in
    let word = again inside.output.items c.index-from.result.now c.start_after-to.result in
    let P : DecoderState → Type 0 = λ m. StandsFor m.words (258 + c.args.place) word in
    let stands : P (decoder_state inside.output.items inside.starts.items) =
    Stands-read 3839 inside.output.items inside.starts.items c.args.place _ _ c.self.invariant.0
    (omega (arith, c.len.ensures, inside.starts.ok.0)) (omega arith) ends in (
      word,
      subst P c.self.view_is stands,
      made_kept inside.output.items inside.starts.items word c.copy_again.new.output.items c.keep_start.new.starts.items
          c.len-start.result c.args.self.now start c.self.view_is
          c.self.invariant c.in_ok-copy_again.ensures.ok c.in_ok-keep_start.ensures.ok,
    )
