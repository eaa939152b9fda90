use Rattle.std.proofs.Common.{◌≡◌, ◌∙◌, [], ◌∷◌, ◌++◌, append-nil, refl, sym, inl, inr, rules}
use Rattle.std.specs.Prelude.{string_bytes}
use Rattle.swimunwrap.specs.Outcome.{IsOutcome}
use Rattle.swimunwrap.proofs.Outcomes.{shown}
use Rattle.swimunwrap.proofs.lines.Unwrapped.add.Goals as goal

pub returns-in_ok-extend_from_slice-in-Text : goal.returns-in_ok-extend_from_slice-in-Text
returns-in_ok-extend_from_slice-in-Text c =
    let read : IsOutcome c.args.clear c.args.keys.now c.args.line.now c.in_ok-text.field-0 = search rules in
    let text : c.extend_from_slice.new.self.items ≡ c.args.self.now.text ++ string_bytes c.in-Text.text = search rules in
    let causes : c.self.inside.left_out.items ≡ c.args.self.now.causes ++ [] = search (rules, append-nil) in
    (string_bytes c.in-Text.text, [], inl (rw c.in-Text.is at read, refl), shown _ _ _ _ text causes)

pub returns-in_ok-push-in-Unread : goal.returns-in_ok-push-in-Unread
returns-in_ok-push-in-Unread c =
    let read : IsOutcome c.args.clear c.args.keys.now c.args.line.now c.in_ok-text.field-0 = search rules in
    let text : c.self.inside.text.items ≡ c.args.self.now.text ++ [] = search (rules, append-nil) in
    let causes : c.push.new.self.items ≡ c.args.self.now.causes ++ c.in-Unread.cause ∷ [] = search rules in (
      [],
      c.in-Unread.cause ∷ [],
      inr (
        c.in-Unread.cause,
        rw c.in-Unread.is at read,
        rw (sym c.leaves_out.ensures ∙ c.if-leaves_out.true) (refl, refl),
      ),
      shown _ _ _ _ text causes,
    )

pub returns-in_ok-extend_from_slice-in-Unread : goal.returns-in_ok-extend_from_slice-in-Unread
returns-in_ok-extend_from_slice-in-Unread c =
    let read : IsOutcome c.args.clear c.args.keys.now c.args.line.now c.in_ok-text.field-0 = search rules in
    let text : c.extend_from_slice-else-leaves_out.new.self.items ≡ c.args.self.now.text ++ c.args.line.now = search rules in
    let causes : c.self.inside.left_out.items ≡ c.args.self.now.causes ++ [] = search (rules, append-nil) in (
      c.args.line.now,
      [],
      inr (
        c.in-Unread.cause,
        rw c.in-Unread.is at read,
        rw (sym c.leaves_out.ensures ∙ c.if-leaves_out.false) (refl, refl),
      ),
      shown _ _ _ _ text causes,
    )
