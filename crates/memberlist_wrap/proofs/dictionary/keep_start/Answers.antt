use Rattle.std.proofs.Common.{◌≤◌, ◌++◌, [], ◌∷◌, length, sym, ◌∙◌, arith}
use Rattle.std.proofs.lemmas.List.{length-append, take_all, take-append-le}
use Rattle.memberlist_wrap.proofs.dictionary.keep_start.Goals as goal

pub returns-in_ok-push-clause-ok : goal.returns-in_ok-push-clause-ok
returns-in_ok-push-clause-ok c =
    let starts = c.args.starts.now.items in
    c.in_ok-push.ensures.items
    ∙ sym (take_all 3840 (starts ++ c.args.start ∷ [])
    (omega (arith, c.len.ensures, c.args.starts.now.ok.0, length-append starts (c.args.start ∷ []))))

pub returns-else-len-lt-MAX_STARTS-clause-ok : goal.returns-else-len-lt-MAX_STARTS-clause-ok
returns-else-len-lt-MAX_STARTS-clause-ok c =
    let starts = c.args.starts.now.items in
    let most : 3840 ≤ length starts = omega (arith, c.len.ensures, c.args.starts.now.ok.0) in
    let few : length starts ≤ 3840 = omega (arith, c.requires, c.args.starts.now.ok.0) in
    sym (take-append-le 3840 starts (c.args.start ∷ []) most ∙ take_all 3840 starts few)
