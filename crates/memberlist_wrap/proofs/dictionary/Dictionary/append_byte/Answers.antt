use Rattle.std.proofs.Common.{◌≡◌, length, [], ◌∷◌, arith}
use Rattle.memberlist_wrap.proofs.Keeping.{made_kept, AreKept-kept}
use Rattle.memberlist_wrap.proofs.dictionary.Dictionary.append_byte.Goals as goal

pub invariant_of-self-2 : goal.invariant_of-self-2
invariant_of-self-2 c =
    let inside = c.self.inside in
    let start : c.len-start.result ≡ length inside.output.items = omega (arith, c.len-start.ensures, inside.output.ok.0) in
    AreKept-kept inside.output.items (c.args.byte ∷ []) c.push.new.self.items inside.starts.items c.keep_start.new.starts.items
    c.len-start.result start c.self.invariant
    c.in_ok-push.ensures.items (omega arith) c.in_ok-keep_start.ensures.ok

pub returns-clause-appends : goal.returns-clause-appends
returns-clause-appends c =
    let inside = c.self.inside in
    let start : c.len-start.result ≡ length inside.output.items = omega (arith, c.len-start.ensures, inside.output.ok.0) in
    made_kept inside.output.items inside.starts.items (c.args.byte ∷ []) c.push.new.self.items c.keep_start.new.starts.items
    c.len-start.result c.args.self.now start c.self.view_is
    c.self.invariant c.in_ok-push.ensures.items c.in_ok-keep_start.ensures.ok
