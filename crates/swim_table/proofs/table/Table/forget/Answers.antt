use Rattle.std.proofs.Common.{◌∙◌, sym, ap, subst, refl, rules, arith}
use Rattle.swim_table.specs.Table.{get, Reduced, IsLegalTable}
use Rattle.swim_table.proofs.Place.{get_at, get_in_gap}
use Rattle.swim_table.proofs.Forgetting.{entry_forgotten, entry_forgotten_kept, none_forgotten}
use Rattle.swim_table.proofs.table.Table.forget.Goals as goal

-- the entry that was removed is the one that the name is found at
pub invariant_of-self : goal.invariant_of-self
invariant_of-self c =
    (entry_forgotten _ _ _ _ _ c.self.view_is c.self.invariant c.in-Ok.ensures.found c.remove_at.ensures.items).legal

pub returns-in-Ok-clause-kept : goal.returns-in-Ok-clause-kept
returns-in-Ok-clause-kept c =
    let without = entry_forgotten_kept _ _ _ _ c.self.view_is c.self.invariant c.in-Ok.ensures.found in
    search (rules, without)

pub returns-in-Ok-clause-all : goal.returns-in-Ok-clause-all
returns-in-Ok-clause-all c =
    (entry_forgotten _ _ _ _ _ c.self.view_is c.self.invariant c.in-Ok.ensures.found c.remove_at.ensures.items).all

pub returns-in-Ok-clause-had : goal.returns-in-Ok-clause-had
returns-in-Ok-clause-had c =
    let found = get_at _ _ _ c.remove_at.result c.self.invariant.own.ascending c.in-Ok.ensures.found in
    let here = ap (λ t. get t c.args.name.now) (sym c.self.view_is) ∙ found in
    rw here (λ _. refl, λ _. refl)

pub returns-in-Ok-clause-absent : goal.returns-in-Ok-clause-absent
returns-in-Ok-clause-absent c = λ none.
    let found = get_at _ _ _ c.remove_at.result c.self.invariant.own.ascending c.in-Ok.ensures.found in
    let here = ap (λ t. get t c.args.name.now) (sym c.self.view_is) ∙ found in
    absurd (cc (here, none))

pub returns-in-Err-clause-kept : goal.returns-in-Err-clause-kept
returns-in-Err-clause-kept c =
    (none_forgotten _ _ _ _ c.self.view_is c.self.invariant c.in-Err.ensures.absent).all (Reduced c.args.self.now)
    (subst IsLegalTable c.self.view_is c.self.invariant).own

pub returns-in-Err-clause-all : goal.returns-in-Err-clause-all
returns-in-Err-clause-all c = (none_forgotten _ _ _ _ c.self.view_is c.self.invariant c.in-Err.ensures.absent).all

pub returns-in-Err-clause-had : goal.returns-in-Err-clause-had
returns-in-Err-clause-had c =
    let here = ap (λ t. get t c.args.name.now) (sym c.self.view_is) ∙ get_in_gap _ _ _ c.in-Err.ensures.absent in
    rw here (λ h. absurd (grind arith), λ h. absurd (grind arith))
