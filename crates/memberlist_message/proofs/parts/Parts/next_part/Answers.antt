use Rattle.std.proofs.Common.{◌≡◌, ◌∷◌, List, ℕ, length, sym, ap, ◌∙◌}
use Rattle.std.specs.Int.{w16, from_be_bytes}
use Rattle.memberlist_message.specs.Compounds.{PartsValue, lengths_in, truncated_in}
use Rattle.memberlist_message.proofs.Divided.{first_length, taken}
use Rattle.memberlist_message.proofs.parts.Parts.next_part.Goals as goal

pub returns-clause-truncated : goal.returns-clause-truncated
returns-clause-truncated c =
    let a = c.in_ok-len.ensures.cases in
    let b = c.in_ok-part.ensures.cases in
    let view = ap (λ (p : PartsValue). truncated_in p.lens p.bytes) c.self.view_is in
    let len : c.from.result ≡ from_be_bytes w16 c.in_ok-len.len.now = c.from.ensures ∙ c.from_be_bytes.ensures in
    let split = first_length c.self.inside.lens.now _ _ a.0 a.1 a.2 ∙ ap (λ n. n ∷ lengths_in c.in_ok-len.lens.now) (sym len) in
    ap (λ (bytes : List ℕ). truncated_in (lengths_in c.in_ok-len.lens.now) bytes) b.2
    ∙ sym (taken c.from.result (lengths_in c.in_ok-len.lens.now) c.self.inside.bytes.now b.0)
    ∙ sym (ap (λ (lens : List ℕ). truncated_in lens c.self.inside.bytes.now) split) ∙ view

pub returns-clause-kept : goal.returns-clause-kept
returns-clause-kept c =
    let a = c.in_ok-len.ensures.cases in
    let view = ap (λ (p : PartsValue). length p.lens) c.self.view_is in
    sym view ∙ ap (λ (lens : List ℕ). length lens) (first_length c.self.inside.lens.now _ _ a.0 a.1 a.2)
