use Rattle.std.proofs.Common.{◌≡◌, [], ◌∷◌, ◌++◌, ◌+◌, ap, append_assoc, append-nil, arith, drop, length, refl, subst, sym, ◌∙◌}
use Rattle.std.specs.List.{slice_range}
use Rattle.std.proofs.lemmas.List.{length-append}
use Rattle.std.proofs.lemmas.List.Folds.{drop_split}
use Rattle.swim_wire.specs.Streams.{StateTexts}
use Rattle.swim_wire.specs.Streams.StateTexts.{none}
use Rattle.memberlist_member.proofs.Lines.{texts_more}
use Rattle.memberlist_member.proofs.member.tables.read_stream.Goals as goal

pub loop-init : goal.loop-init
loop-init c =
    let (text, head_text, is) = c.in-Ok.ensures.takes in (
      text,
      [],
      sym c.new-inlet.ensures ∙ is ∙ ap (λ t. t ++ c.read_header.new.inlet) (sym (append-nil text)),
      head_text,
      subst (StateTexts []) (sym c.new-claims.ensures.items) none,
      ap length c.new-claims.ensures.items,
    )

pub loop-preserved : goal.loop-preserved
loop-preserved c =
    let (head, records, is, head_text, texts, count) = c.loop.invariant in
    let (text, state_text, more) = c.in-Ok-read_state.ensures.takes in
    let items = c.in_ok-push-in-Ok-read_state.ensures.items in (
      head,
      records ++ text,
      is ∙ ap (λ r. head ++ records ++ r) more ∙ sym (append_assoc (head ++ records) text c.read_state.new.inlet)
          ∙ ap (λ t. t ++ c.read_state.new.inlet) (append_assoc head records text),
      head_text,
      subst (StateTexts (records ++ text)) (sym items)
          (texts_more records text c.loop.claims.items c.in-Ok-read_state.claim texts state_text),
      ap length items ∙ length-append c.loop.claims.items (c.in-Ok-read_state.claim ∷ []) ∙ ap (λ n. n + 1) count,
    )

pub returns-in_ok-to_vec-in-Some : goal.returns-in_ok-to_vec-in-Some
returns-in_ok-to_vec-in-Some c =
    let (head, records, is, head_text, texts, count) = c.loop.invariant in
    let (low, high, state_is, state_len) = c.in-Some.ensures.lookup.0 in
    let n = c.in-Ok.header.user_len in
    let state = c.in-Some.state.now in
    let left = drop n c.loop.inlet in
    let front : state ≡ slice_range c.loop.inlet 0 n = state_is ∙ ap (λ xs. slice_range xs 0 n) c.rest.ensures in
    let whole : c.loop.inlet ≡ state ++ left = drop_split c.loop.inlet 0 n low ∙ ap (λ t. t ++ left) (sym front) in (
      head ++ records ++ state,
      left,
      c.in-Ok.header.join,
      is ∙ ap (λ r. head ++ records ++ r) whole ∙ sym (append_assoc (head ++ records) state left),
      record {
        header = c.in-Ok.header;
        head = head;
        records = records;
        user = state;
        bytes = refl;
        head_text = head_text;
        flag = refl;
        nodes = omega (arith, count, c.loop-test.false, c.loop.auto.counter-end);
        record_texts = texts;
        user_len = omega (arith, state_len);
      },
    )
