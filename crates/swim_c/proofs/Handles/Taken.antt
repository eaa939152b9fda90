-- `into_..` of a handle's type meets its contract: `into_meets`. Assumes `Logic`.
-- What a handle owns says whether it holds a box (`holds`): by its four cases (`into_cases`) one of `into_full` and `into_empty` of
-- Into.antt applies, or there is no such handle. What the call returns is then handed to the caller with the clauses (`into_ends`,
-- by the kit's `leaves`).
--     Taken      what a proof of `into_..` has to show of its handle: what the handle holds, and what the contract says of it
use Rattle.std.proofs.Common.{◌≡◌, List, [], ◌∷◌, ◌++◌, refl, sym, ap, Bool, true, false, Option, Some, None, ◌⊎◌, inl, inr}
use seplogic.Ra.Ura.{Ura}
use mir.Syntax.{Callee}
use mir.Val.{Val, vcons, vnil}
use types.Logic.{Logic, sem}
use base.Logic.{ent, emp, never_e}
use base.Fml.{Fml, ftrue, ffalse, fsep}
use prog.Model.{Model}
use prog.Wired.{AllWired, and, end}
use prog.Wp.{Closed}
use contract.Running.{Running, MachineTables, tables}
use types.Kit.{Sq, ‵, raw, ◌⊛◌, ◌$◌, ◌∵◌, !, qed, by, use0, move, keep, drop, split, rewrite, regoal, fsplit, fjoin}
use types.Match.{live}
use denote.Exit.{yes}
use denote.Signature.{plain}
use denote.Steps.{nothing}
use denote.Triple.Clauses.{Clauses, Ended, at_exit, closing}
use denote.Triple.Spec.{Meets}
use denote.Triple.Statement.{Contract}
use denote.Triple.Walked.{Stays, stay_dropped, walk_of, Goes-dropped}
use Rattle.std.proofs.raw_atomic.Walks.{proved_at, leaves}
use Rattle.std.proofs.BoxSteps.Form.{Bx, D}
use Rattle.std.specs.contracts.alloc.Global as heap
use Rattle.std.specs.declared.alloc.Global.{Global}
use Rattle.std.proofs.boxed.Box.from_raw.Symbol as from_raw
use Rattle.std.proofs.boxed.Box.from_raw.Met.{met as from_raw_met}
use Rattle.std.proofs.impls.GlobalAllocator.TheImpl.Met.{passed as passed_heap}
use Rattle.std.proofs.impls.GlobalAllocator.allocate.Symbol as allocate
use Rattle.std.proofs.impls.GlobalAllocator.deallocate.Symbol as deallocate
use Rattle.std.proofs.impls.GlobalAllocator.grow.Symbol as grow
use Rattle.std.proofs.impls.GlobalAllocator.shrink.Symbol as shrink
use Rattle.swim_c.proofs.Destruct++none.drop.Symbol as none
use Rattle.swim_c.specs.Handle.{holds}
use Rattle.swim_c.proofs.Drops.{heap_goes}
use Rattle.swim_c.proofs.Handles.Shape.{Content, Handle, Out, both, box_of}
use Rattle.swim_c.proofs.Handles.Steps.{fields_out, heap_tells}
use Rattle.swim_c.proofs.Handles.Into.{FromRawMeets, Runs, RunsOn, into_empty, into_fn, into_full, the_heap}

module _ (C : Content) {M : Type 1} (𝓤 : Ura M) (𝓛 : Logic 𝓤) (𝓜 : Model 𝓤 𝓛.H) (𝓡 : Running 𝓤 𝓛.H 𝓜) (H : Handle) where
  abbrev E : Bx
  E = box_of C

  abbrev 𝓣 : MachineTables 𝓤 𝓛.H 𝓜
  𝓣 = tables 𝓤 𝓛.H 𝓜 𝓡 𝓡.env

  abbrev ended : Ended
  ended = record {
    signature = record {
      lifetimes = 0;
      outlives = [];
      params = plain (λ _. H.row) ∷ plain (λ _. heap.the_row) ∷ [];
      result = plain (λ _. Out C);
    };
    kept = (yes, (yes, tt));
  }

  module _ (c : Clauses 𝓤 ended) where
    abbrev stays : Stays ended.signature.params ended.kept
    stays = (stay_dropped _ yes, (stay_dropped _ yes, tt))

    abbrev walk : Contract 𝓤
    walk = walk_of 𝓛 ended stays c

    -- the contract says this of a call with these arguments and this result
    abbrev Says : (h : H.row.Denot) (a : Global) (g : (c tt (h, (a, tt))).ghost) → Option (D E) → Type 1
    Says h a g r = ent 𝓤 (emp 𝓤) ((c tt (h, (a, tt))).ensures g r (at_exit ended tt (h, (a, tt)) (H.last h, (tt, tt))))

    -- what the handle holds, and what the contract says of it. Or there is no such handle
    abbrev pub Taken : (h : H.row.Denot) (a : Global) (g : (c tt (h, (a, tt))).ghost) → Type 1
    Taken h a g = ((held : Option C.row.Denot) × (H.owns h ≡ holds C.row (H.at h) (H.held h) held)
        × ((d : D E) → held ≡ Some d.value → Says h a g (Some d)) × (held ≡ None → Says h a g None))
        ⊎ (H.owns h ≡ ffalse)

    into_ends : (z : walk.Ghost) (r : Option (D E)) (v : Val) → Says z.0.3.0 z.0.3.1.0 z.1 r
        → ent 𝓤 (sem 𝓛 ((Out C).own_val r (v ∷ []))) (walk.post z v)
    into_ends z r v says =
        qed 𝓛 (‵ ((Out C).own_val r (v ∷ [])) ∷ []) ∵
        use0 𝓛 (raw ((c tt z.0.3).ensures z.1 r (at_exit ended tt z.0.3 (H.last z.0.3.0, (tt, tt))))) says $ move ! (1 ∷ 0 ∷ []) $
        nothing ! $ nothing ! $ fjoin ! $ nothing ! $ fjoin ! $ nothing !
        $ by ! (leaves 𝓛 ended stays c z v r (H.last z.0.3.0, (tt, tt)) (tt, (tt, tt)))

    into_cases : (z : walk.Ghost) (y : Bool) (held : Option C.row.Denot)
        → ((d : D E) → held ≡ Some d.value → Says z.0.3.0 z.0.3.1.0 z.1 (Some d))
        → (held ≡ None → Says z.0.3.0 z.0.3.1.0 z.1 None) → FromRawMeets C 𝓤 𝓛 𝓜 𝓡
        → Sq 𝓛 (‵ (holds C.row (H.at z.0.3.0) y held) ∷ the_heap C 𝓤 𝓛 𝓜 𝓡 z.0.3.1.0 ∷ [])
        (RunsOn C 𝓤 𝓛 𝓜 𝓡 H.name (H.at z.0.3.0) y (walk.post z))
    into_cases z true (Some x) full empty known =
        rewrite ! 0 (λ (F : Fml). ‵ F) (C.same_owns (H.at z.0.3.0) x) refl $
        into_full C 𝓤 𝓛 𝓜 𝓡 H.name (walk.post z) known (H.at z.0.3.0) x z.0.3.1.0
        (λ d u same. into_ends z (Some d) (live 1 (vcons u vnil)) (full d (ap Some (sym same))))
    into_cases z false None full empty known =
        drop ! $ drop ! $
        into_empty C 𝓤 𝓛 𝓜 𝓡 H.name (walk.post z) (H.at z.0.3.0) (into_ends z None (live 0 vnil) (empty refl))
    into_cases z true None full empty known = keep ! (0 ∷ []) $ by ! (never_e 𝓤 _)
    into_cases z false (Some x) full empty known = keep ! (0 ∷ []) $ by ! (never_e 𝓤 _)

    into_taken : (z : walk.Ghost) → Taken z.0.3.0 z.0.3.1.0 z.1 → FromRawMeets C 𝓤 𝓛 𝓜 𝓡
        → Sq 𝓛 (‵ (H.owns z.0.3.0) ∷ the_heap C 𝓤 𝓛 𝓜 𝓡 z.0.3.1.0 ∷ [])
        (RunsOn C 𝓤 𝓛 𝓜 𝓡 H.name (H.at z.0.3.0) (H.held z.0.3.0) (walk.post z))
    into_taken z (inl t) known = rewrite ! 0 (λ (F : Fml). ‵ F) t.1 refl $ into_cases z (H.held z.0.3.0) t.0 t.2 t.3 known
    into_taken z (inr never) known = rewrite ! 0 (λ (F : Fml). ‵ F) never refl $ keep ! (0 ∷ []) $ by ! (never_e 𝓤 _)

    pub into_meets : (k : Callee) → Closed 𝓤 𝓛.H 𝓣.C 𝓣.Λ k (into_fn C H.name)
        → AllWired 𝓡.env (and from_raw.code
        (and allocate.code (and deallocate.code
        (and grow.code (and shrink.code (and none.code end))))))
        → ((h : H.row.Denot) (a : Global) (g : (c tt (h, (a, tt))).ghost) → Taken h a g)
        → Meets 𝓛 ended.signature (𝓣.C k) (closing 𝓛 ended c)
    into_meets k closed calls taken =
        let known = from_raw_met 𝓤 𝓛 𝓜 𝓡 calls.0 E.row E.al.row E.laws E.al.laws E.al.g E.al.d E.al.drops
        (passed_heap 𝓡.env calls.1.0 calls.1.1.0 calls.1.1.1.0 calls.1.1.1.1.0 _ 𝓤 𝓛 𝓜 𝓡) (heap_goes 𝓤 𝓛 𝓜 𝓡 calls.1.1.1.1.1.0) in
        proved_at 𝓛 ended stays c 𝓜 𝓡 (
          Goes-dropped 𝓛 0 (plain (λ _. H.row)) yes (λ κs. H.silent),
          (Goes-dropped 𝓛 0 (plain (λ _. heap.the_row)) yes (λ κs x w. refl), tt),
        ) k (into_fn C H.name) closed
        (λ z are.
        let h = z.0.3.0 in let a = z.0.3.1.0 in let hs = z.0.4.0 in let vs = z.0.4.1.0 in
        qed 𝓛 ((‵ ftrue ⊛ ‵ (fsep (H.row.own_val h hs) (fsep ((heap.the_row).own_val a vs) ftrue)))
        ∷ raw ((c tt z.0.3).requires z.1) ∷ []) ∵
        split ! $ drop ! $ fsplit ! $ rewrite ! 0 (λ (F : Fml). ‵ F) (H.opened h hs) refl $
        fields_out ! H.name (H.at h) (H.held h) hs
        (λ is_h. move ! (1 ∷ []) $ fsplit ! $ heap_tells ! a vs (λ is_a. keep ! (2 ∷ 0 ∷ []) $
        regoal ! (λ (us : List Val). Runs C 𝓤 𝓛 𝓜 𝓡 H.name (us ++ (vs ++ [])) (walk.post z)) is_h refl $
        regoal ! (λ (us : List Val). Runs C 𝓤 𝓛 𝓜 𝓡 H.name (both (H.at h) (H.held h) ∷ (us ++ [])) (walk.post z)) is_a refl $
        into_taken z (taken h a z.1) known)))
