-- `of` of a handle's type makes a handle that holds a box: `of_meets`. Assumes `Logic`.
-- The code calls `Box::into_raw` and stores the pointer beside `true`. `of_box` walks through it: the box is opened to its machine
-- value (`box_tells`), the call gives the pointer and what the box owned (`calls_at` with the contract of `into_raw`), and the
-- fields are stored. `of_meets` puts fields and content together as what the handle owns, and hands it to the caller (`leaves`).
use Rattle.std.proofs.Common.{◌≡◌, List, [], ◌∷◌, ◌++◌, refl, sym, ap, true}
use seplogic.Ra.Ura.{Ura}
use mir.Syntax.{Callee, Sym, Fn, Args, a_type, dcons, dnil, local, value_local, place, copy, assign, rv_opd, seq, return, call}
use mir.Syntax.{aggregate, opd_true, ty_ptr}
use mir.Val.{Val}
use types.Logic.{Logic, sem}
use base.Logic.{SProp, ent, emp, id⊢}
use base.Fml.{Fml, ftrue, fsep}
use base.Fraction.{full_share}
use prog.Model.{Model}
use prog.Wired.{AllWired, and, end}
use prog.Wp.{WpFn, Closed}
use contract.Running.{Running, MachineTables, tables}
use types.Kit.{Sq, ‵, raw, ◌⊛◌, some, later, prop, ◌$◌, ◌∵◌, !, qed, by, use0, use1, move, keep, drop, split, join, rewrite, regoal}
use types.Kit.{pick, await, fsplit, fjoin, feq_l}
use types.Part.{agg}
use types.Run.{true_lit, no_more, and_then, of_opd, returns, enter}
use types.ByLocal.{alloc_all, pass_all, free_all, look_at, get, sets, lands_as}
use denote.Exit.{yes}
use denote.RawPtr.{Ptr, RawPtr}
use denote.Signature.{plain}
use denote.Steps.{nothing, only}
use denote.Param.{bounded}
use denote.Triple.Call.{calls_at}
use denote.Triple.Clauses.{Clauses, Ended, Lasts, lasts, at_exit, closing}
use denote.Triple.Spec.{Meets, triple_of}
use denote.Triple.Statement.{Triple, Contract}
use denote.Triple.Table.{framed}
use denote.Triple.Walked.{Stays, stay_dropped, walk_of, Goes-dropped}
use Rattle.std.proofs.raw_atomic.Walks.{proved_at, leaves}
use Rattle.std.proofs.BoxSteps.Form.{Bx, D, B}
use Rattle.std.specs.contracts.boxed.Box.into_raw as open_box
use Rattle.std.proofs.boxed.Box.into_raw.Symbol as into_raw
use Rattle.std.proofs.boxed.Box.into_raw.Met.{met as into_raw_met}
use Rattle.std.proofs.impls.GlobalAllocator.TheImpl.Met.{passed as passed_heap}
use Rattle.std.proofs.impls.GlobalAllocator.allocate.Symbol as allocate
use Rattle.std.proofs.impls.GlobalAllocator.deallocate.Symbol as deallocate
use Rattle.std.proofs.impls.GlobalAllocator.grow.Symbol as grow
use Rattle.std.proofs.impls.GlobalAllocator.shrink.Symbol as shrink
use Rattle.swim_c.proofs.Destruct++none.drop.Symbol as none
use Rattle.swim_c.proofs.Drops.{heap_goes}
use Rattle.swim_c.proofs.Handles.Shape.{Content, Handle, both, box_good, box_of, box_ty, box_val, boxed, content_at, fields, pair_good}
use Rattle.swim_c.proofs.Handles.Shape.{pair_ty, pointer_good}
use Rattle.swim_c.proofs.Handles.Steps.{Tokens, box_tells, fields_in, outlived, tokens_in}

module _ (C : Content) where
  abbrev E : Bx
  E = box_of C

  -- what the call of `into_raw` passes
  abbrev args_dropped : Args
  args_dropped = bounded (a_type ∷ a_type ∷ []) (E.row, (E.al.row, tt)) (dcons E.al.d (dcons E.al.drops (dcons C.drops dnil)))

  -- the code of `of` of a handle of this name
  abbrev of_fn : Sym → Fn
  of_fn name = record {
    lifetimes = 0;
    outlives = [];
    ty_params = [];
    givens = 0;
    params = 1;
    locals = local (pair_ty name) value_local ∷ local (box_ty C) value_local ∷ local ty_ptr value_local
        ∷ local (box_ty C) value_local ∷ local ty_ptr value_local ∷ [];
    body =
        seq (assign (place 3 []) (rv_opd (copy (place 1 []))))
        (seq (call (into_raw.name args_dropped) (copy (place 3 []) ∷ []) (place 2 []))
        (seq (assign (place 4 []) (rv_opd (copy (place 2 []))))
        (seq (assign (place 0 []) (aggregate (copy (place 4 []) ∷ opd_true ∷ []))) return)));
  }

  -- what is known of `into_raw`
  abbrev raw_ended : Ended
  raw_ended = open_box.ended E.row E.al.row E.al.g E.al.d E.al.drops C.drops

  module _ {M : Type 1} (𝓤 : Ura M) (𝓛 : Logic 𝓤) (𝓜 : Model 𝓤 𝓛.H) (𝓡 : Running 𝓤 𝓛.H 𝓜) where
    abbrev 𝓣 : MachineTables 𝓤 𝓛.H 𝓜
    𝓣 = tables 𝓤 𝓛.H 𝓜 𝓡 𝓡.env

    abbrev raw_contract : Contract 𝓤
    raw_contract = triple_of 𝓛 raw_ended.signature (open_box.spec E.row E.al.row E.al.g E.al.d E.al.drops C.drops 𝓛 𝓜.mem 𝓡.returns)

    of_box : (name : Sym) (Post : Val → SProp 𝓤) → Triple 𝓤 (𝓣.C (into_raw.name args_dropped)) raw_contract
        → (d : D E) (vs : List Val) → ((p : Ptr) → ent 𝓤 (sem 𝓛 (content_at C d.alloc p d.value)) (Post (both p true)))
        → Sq 𝓛 (‵ ((B E).own_val d vs) ∷ ‵ ftrue ∷ []) (prop (WpFn 𝓤 𝓛.H 𝓣.C 𝓣.Λ (of_fn name) (vs ++ []) Post))
    of_box name Post known d vs told =
        box_tells C ! d vs (λ b o is. let at = box_val C b o in
        regoal ! (λ (us : List Val). prop (WpFn 𝓤 𝓛.H 𝓣.C 𝓣.Λ (of_fn name) us Post)) (ap (λ (us : List Val). us ++ []) is) refl $
        let y : raw_contract.Ghost = ((([], ([], tt)), (full_share, (full_share, tt)), tt, (d, tt), (at ∷ [], tt)), tt) in
        enter ! _ _ _ _ _ $ alloc_all ! (λ l. pass_all ! refl (box_good C b o, tt) $ sets ! (of_opd ! (get ! refl)) refl (box_good C b o) $
        -- [the box; nothing; the locals]
        fjoin ! $ tokens_in ! $ join ! $ nothing ! $ outlived C ! $ move ! (1 ∷ 0 ∷ []) $ join ! $
        use1 𝓛 (raw (raw_contract.pre y)) (id⊢ 𝓤 _) $
        calls_at ! (framed 𝓤 𝓛.H 𝓜 𝓣) raw_contract known y (and_then ! (get ! refl) (no_more !)) (λ u.
        use1 𝓛 (later (some (λ (p : Ptr). (Tokens 𝓤 ⊛ ‵ (RawPtr.own_val p (u ∷ []))) ⊛
        some (λ (ws : Lasts raw_ended y.0.0 y.0.3). ‵ (lasts raw_ended y.0.0 y.0.3 ws) ⊛ ‵ (content_at C d.alloc p d.value)))))
        (id⊢ 𝓤 _) $
        await ! tt $ pick ! (λ p. split ! $ split ! $ drop ! $ feq_l ! (λ is_p. pick ! (λ ws. split ! $ drop ! $
        lands_as ! (ap only is_p) refl (pointer_good p) $
        sets ! (of_opd ! (get ! refl)) refl (pointer_good p) $
        sets ! (agg ! (and_then ! (get ! refl) (and_then ! (true_lit !) (no_more !)))) refl (pair_good name p true) $
        returns ! (look_at ! 0 refl) $ free_all ! refl $ by ! (told p)))))))

    module _ (H : Handle) where
      abbrev ended : Ended
      ended = record {
        signature = record {
          lifetimes = 0;
          outlives = [];
          params = plain (λ _. boxed C.row) ∷ [];
          result = plain (λ _. H.row);
        };
        kept = (yes, tt);
      }

      pub of_meets : (c : Clauses 𝓤 ended) (k : Callee) → Closed 𝓤 𝓛.H 𝓣.C 𝓣.Λ k (of_fn H.name)
          → AllWired 𝓡.env (and into_raw.code
          (and allocate.code (and deallocate.code
          (and grow.code (and shrink.code (and none.code (and C.drop_code end)))))))
          → (made : D E → Ptr → H.row.Denot)
          → ((d : D E) (p : Ptr) (vs : List Val)
          → fsep ((fields H.name).own_val (p, (true, tt)) vs) (content_at C d.alloc p d.value) ≡ H.row.own_val (made d p) vs)
          → ((d : D E) (p : Ptr) (g : (c tt (d, tt)).ghost)
          → ent 𝓤 (emp 𝓤) ((c tt (d, tt)).ensures g (made d p) (at_exit ended tt (d, tt) (tt, tt))))
          → Meets 𝓛 ended.signature (𝓣.C k) (closing 𝓛 ended c)
      of_meets c k closed calls made is says =
          let stays : Stays ended.signature.params ended.kept = (stay_dropped _ yes, tt) in let W = walk_of 𝓛 ended stays c in
          let known = into_raw_met 𝓤 𝓛 𝓜 𝓡 calls.0 E.row E.al.row E.laws E.al.laws E.al.g E.al.d E.al.drops C.drops
          (passed_heap 𝓡.env calls.1.0 calls.1.1.0 calls.1.1.1.0 calls.1.1.1.1.0 _ 𝓤 𝓛 𝓜 𝓡)
          (heap_goes 𝓤 𝓛 𝓜 𝓡 calls.1.1.1.1.1.0) (C.goes 𝓤 𝓛 𝓜 𝓡 calls.1.1.1.1.1.1.0) in
          proved_at 𝓛 ended stays c 𝓜 𝓡 (Goes-dropped 𝓛 0 (plain (λ _. boxed C.row)) yes (λ κs x w. refl), tt) k (of_fn H.name) closed
          (λ z are.
          let d : D E = z.0.3.0 in let vs = z.0.4.0 in
          qed 𝓛 ((‵ ftrue ⊛ ‵ (fsep ((boxed C.row).own_val d vs) ftrue)) ∷ raw ((c tt z.0.3).requires z.1) ∷ []) ∵
          split ! $ drop ! $ fsplit ! $
          rewrite ! 0 (λ (F : Fml). ‵ F) (sym (C.same d vs)) refl $ keep ! (0 ∷ 1 ∷ []) $ of_box H.name (W.post z) known d vs (λ p.
          qed 𝓛 (‵ (content_at C d.alloc p d.value) ∷ []) ∵
          fields_in ! H.name p true $ rewrite ! 0 (λ (F : Fml). ‵ F) (is d p (both p true ∷ [])) refl $
          use0 𝓛 (raw ((c tt z.0.3).ensures z.1 (made d p) (at_exit ended tt z.0.3 (tt, tt)))) (says d p z.1) $ move ! (1 ∷ 0 ∷ []) $
          nothing ! $ nothing ! $ fjoin ! $ nothing ! $ by ! (leaves 𝓛 ended stays c z (both p true) (made d p) (tt, tt) (tt, tt))))
