-- `into_..` of a handle's type takes the box out: what its code does, for a handle with a box and for an empty one. Assumes `Logic`.
-- The code reads the pointer and the flag. Where the flag is false it returns `None` (`into_empty`, one branch). Where it is true it
-- calls `Box::from_raw` and returns `Some` of the box (`into_full`: `calls_at_last` with the contract of `from_raw`, which gives a
-- box of the same content; `box_tells` gives its machine value; the kit's `Some-of` puts it into `Some`). Taken.antt has the contract.
use Rattle.std.proofs.Common.{◌≡◌, List, [], ◌∷◌, refl, sym, ap, subst, lit<, Bool, true, false, Some, None}
use seplogic.Ra.Ura.{Ura}
use mir.Syntax.{Sym, Fn, Body, local, value_local, place, field, copy, assign, rv_opd, op1, bit_not, cond, seq, return, skip}
use mir.Syntax.{block, call, aggregate, int, w8, ty_ptr, ty_bool}
use mir.Val.{Val, vcons, vnil}
use types.Logic.{Logic, sem}
use base.Logic.{SProp, ent, id⊢}
use base.Fml.{Fml}
use base.Fraction.{full_share}
use prog.Model.{Model}
use prog.Wp.{WpFn}
use contract.Monad.{fact}
use contract.Running.{Running, MachineTables, tables}
use types.Kit.{Sq, Item, Goal, ‵, raw, ◌⊛◌, some, later, prop, at_ret, ◌$◌, !, by, use0, use1, move, drop, split, join, rewrite, pick}
use types.Kit.{await, fjoin, feq_i}
use types.Match.{live}
use types.Part.{whole, sub, agg}
use types.Run.{stop, fld, lit, un, first, blocks, branches, skips, exec, no_more, and_then, of_opd, returns, returns_within, enter}
use types.ByLocal.{alloc_all, pass_all, free_all, look_at, get, get_in, sets, lands_last, env}
use denote.RawPtr.{Ptr, ptr_val}
use denote.Steps.{nothing, only, heard}
use denote.Triple.Call.{calls_at_last}
use denote.Triple.Clauses.{Ended, Lasts, lasts}
use denote.Triple.Spec.{triple_of}
use denote.Triple.Statement.{Triple, Contract}
use denote.Triple.Table.{framed}
use Rattle.std.proofs.BoxSteps.Form.{Bx, D, B, args}
use Rattle.std.proofs.cell.Inside.{Good}
use Rattle.std.proofs.Handle.{heap_val}
use Rattle.std.proofs.option.Made.{Some-of, none_of}
use Rattle.std.proofs.ResultValues.{and_tt}
use Rattle.std.specs.contracts.alloc.Global as heap
use Rattle.std.specs.contracts.boxed.Box.from_raw as shut
use Rattle.std.proofs.boxed.Box.from_raw.Symbol as from_raw
use Rattle.std.specs.declared.alloc.Global.{Global}
use Rattle.swim_c.proofs.Handles.Shape.{Content, Out, both, box_good, box_of, box_ty, boxed, content_at, heap_good, heap_ty}
use Rattle.swim_c.proofs.Handles.Shape.{out_ty, pair_good, pair_ty, pointer_good}
use Rattle.swim_c.proofs.Handles.Steps.{Tokens, box_tells, outlived, tokens_in}

module _ (C : Content) where
  abbrev E : Bx
  E = box_of C

  -- the code that takes the box out of a handle of this name, and its last parts
  abbrev into_end : Body
  into_end = seq (assign (place 7 []) (rv_opd (copy (place 8 []))))
      (seq (assign (place 0 []) (aggregate (int w8 1 ∷ copy (place 7 []) ∷ []))) return)

  abbrev into_rest : Body
  into_rest = seq
      (block (seq (assign (place 9 []) (rv_opd (copy (place 2 []))))
      (seq (assign (place 10 []) (rv_opd (copy (place 3 []))))
      (seq (assign (place 11 []) (rv_opd (copy (place 10 []))))
      (call (from_raw.name (args E)) (copy (place 9 []) ∷ copy (place 11 []) ∷ []) (place 8 [])))))) into_end

  abbrev pub into_fn : Sym → Fn
  into_fn name = record {
    lifetimes = 0;
    outlives = [];
    ty_params = [];
    givens = 0;
    params = 2;
    locals = local (out_ty C) value_local ∷ local (pair_ty name) value_local ∷ local heap_ty value_local
        ∷ local ty_ptr value_local ∷ local ty_bool value_local ∷ local ty_bool value_local ∷ local ty_bool value_local
        ∷ local (box_ty C) value_local ∷ local (box_ty C) value_local
        ∷ local heap_ty value_local ∷ local ty_ptr value_local ∷ local ty_ptr value_local ∷ [];
    body =
        seq (assign (place 3 []) (rv_opd (copy (place 1 (field 0 ∷ [])))))
        (seq (assign (place 4 []) (rv_opd (copy (place 1 (field 1 ∷ [])))))
        (seq (assign (place 5 []) (rv_opd (copy (place 4 [])))) (seq (assign (place 6 []) (op1 bit_not (copy (place 5 []))))
        (seq (cond (copy (place 6 [])) (seq (assign (place 0 []) (aggregate (int w8 0 ∷ []))) return) skip) into_rest))));
  }

  -- what is known of `from_raw`
  abbrev raw_ended : Ended
  raw_ended = shut.ended E.row E.al.row E.al.g E.al.d E.al.drops

  module _ {M : Type 1} (𝓤 : Ura M) (𝓛 : Logic 𝓤) (𝓜 : Model 𝓤 𝓛.H) (𝓡 : Running 𝓤 𝓛.H 𝓜) where
    abbrev 𝓣 : MachineTables 𝓤 𝓛.H 𝓜
    𝓣 = tables 𝓤 𝓛.H 𝓜 𝓡 𝓡.env

    abbrev raw_contract : Contract 𝓤
    raw_contract = triple_of 𝓛 raw_ended.signature (shut.spec E.row E.al.row E.al.g E.al.d E.al.drops 𝓛 𝓜.mem 𝓡.returns)

    abbrev pub FromRawMeets : Type 1
    FromRawMeets = Triple 𝓤 (𝓣.C (from_raw.name (args E))) raw_contract

    -- the C library's heap, as the caller passes it
    abbrev pub the_heap : Global → Item 𝓤
    the_heap a = ‵ ((heap.the_row).own_val a (heap_val ∷ []))

    -- the code ends in this way on these arguments, and on a handle with these fields
    abbrev pub Runs : Sym → List Val → (Val → SProp 𝓤) → Goal 𝓤 𝓛.H
    Runs name vs Post = prop (WpFn 𝓤 𝓛.H 𝓣.C 𝓣.Λ (into_fn name) vs Post)

    abbrev pub RunsOn : Sym → Ptr → Bool → (Val → SProp 𝓤) → Goal 𝓤 𝓛.H
    RunsOn name p y Post = Runs name (both p y ∷ heap_val ∷ []) Post

    -- the box of a handle that has one
    pub into_full : (name : Sym) (Post : Val → SProp 𝓤) → FromRawMeets → (p : Ptr) (x : C.row.Denot) (a : Global)
        → ((d : D E) (u : Val) → d.value ≡ x
        → ent 𝓤 (sem 𝓛 ((Out C).own_val (Some d) (live 1 (vcons u vnil) ∷ []))) (Post (live 1 (vcons u vnil))))
        → Sq 𝓛 (‵ (content_at C a p x) ∷ the_heap a ∷ []) (RunsOn name p true Post)
    into_full name Post known p x a told =
        let y : raw_contract.Ghost =
        ((([], ([], tt)), (full_share, (full_share, tt)), tt, (a, (p, tt)), (heap_val ∷ [], (ptr_val p ∷ [], tt))), x) in
        enter ! _ _ _ _ _ $ alloc_all ! (λ l. pass_all ! refl (pair_good name p true, (heap_good, tt))
        $ let Ev = env (into_fn name).locals l in
        sets ! (of_opd ! (get_in ! (fld ! refl (stop !)) (sub ! 0 refl (whole !)))) refl (pointer_good p) $
        sets ! (of_opd ! (get_in ! (fld ! refl (stop !)) (sub ! 1 refl (whole !)))) refl (tt, tt) $
        sets ! (of_opd ! (get ! refl)) refl (tt, tt) $ sets ! (un ! (get ! refl) tt) refl (tt, tt) $
        first ! $ branches ! (get ! refl) (λ none. absurd none)
        (λ held. skips ! $ exec ! 𝓣.C 𝓣.Λ Ev into_rest (at_ret Ev Post) $
        first ! $ blocks ! $
        sets ! (of_opd ! (get ! refl)) refl heap_good $ sets ! (of_opd ! (get ! refl)) refl (pointer_good p)
        $ sets ! (of_opd ! (get ! refl)) refl (pointer_good p) $
        -- [what the handle owned; the allocator; the locals]
        outlived C ! $ nothing ! $ feq_i ! (List Val) (ptr_val p ∷ []) (ptr_val p ∷ []) refl $ fjoin ! $ move ! (2 ∷ 0 ∷ []) $ fjoin !
        $ tokens_in ! $ join ! $ join ! $
        use1 𝓛 (raw (raw_contract.pre y)) (id⊢ 𝓤 _) $
        calls_at_last ! (framed 𝓤 𝓛.H 𝓜 𝓣) raw_contract known y (and_then ! (get ! refl) (and_then ! (get ! refl) (no_more !))) (λ u.
        use1 𝓛 (later (some (λ (d : D E). (Tokens 𝓤 ⊛ ‵ ((B E).own_val d (u ∷ []))) ⊛
        some (λ (ws : Lasts raw_ended y.0.0 y.0.3). ‵ (lasts raw_ended y.0.0 y.0.3 ws) ⊛ raw (fact 𝓤 (d.value ≡ x)) ⊛ raw
        (fact 𝓤 (d.alloc ≡ a)))))) (id⊢ 𝓤 _) $
        await ! tt $ pick !
        (λ d. split ! $ split ! $ drop ! $ move ! (1 ∷ [])
        $ pick ! (λ ws. split ! $ drop ! $ split ! $ heard ! (d.value ≡ x) (λ same. drop ! $
        box_tells C ! d (u ∷ []) (λ b o is_u. rewrite ! 0 (λ (us : List Val). ‵ ((B E).own_val d us)) (sym is_u) refl $
        let good = subst (λ (v : Val). Good (box_ty C) v) (sym (ap only is_u)) (box_good C b o) in
        let out : Val = live 1 (vcons u vnil) in
        let good_out : Good (out_ty C) out = (and_tt _ good.0, (record { fits = lit< tt }, (good.1, tt))) in
        lands_last ! refl good $ exec ! 𝓣.C 𝓣.Λ Ev into_end (at_ret Ev Post) $
        sets ! (of_opd ! (get ! refl)) refl good $
        sets ! (agg ! (and_then ! (lit ! tt) (and_then ! (get ! refl) (no_more !)))) refl good_out $
        returns ! (look_at ! 0 refl) $ free_all ! refl $
        rewrite ! 0 (λ (F : Fml). ‵ F) (C.same d (u ∷ [])) refl
        $ use1 𝓛 (‵ ((Out C).own_val (Some d) (out ∷ []))) (Some-of 𝓛 (boxed C.row) d u)
        $ by ! (told d u same))))))))

    -- nothing, from an empty handle
    pub into_empty : (name : Sym) (Post : Val → SProp 𝓤) (p : Ptr)
        → ent 𝓤 (sem 𝓛 ((Out C).own_val None (live 0 vnil ∷ []))) (Post (live 0 vnil))
        → Sq 𝓛 [] (RunsOn name p false Post)
    into_empty name Post p told =
        let good : Good (out_ty C) (live 0 vnil) = (tt, (record { fits = lit< tt }, tt)) in
        enter ! _ _ _ _ _ $ alloc_all ! (λ l. pass_all ! refl (pair_good name p false, (heap_good, tt)) $
        sets ! (of_opd ! (get_in ! (fld ! refl (stop !)) (sub ! 0 refl (whole !)))) refl (pointer_good p) $
        sets ! (of_opd ! (get_in ! (fld ! refl (stop !)) (sub ! 1 refl (whole !)))) refl (tt, tt) $
        sets ! (of_opd ! (get ! refl)) refl (tt, tt) $ sets ! (un ! (get ! refl) tt) refl (tt, tt) $
        first ! $ branches ! (get ! refl)
        (λ none. sets ! (agg ! (and_then ! (lit ! tt) (no_more !))) refl good $
        returns_within ! Post refl (look_at ! 0 refl) $ free_all ! refl $
        use0 𝓛 (‵ ((Out C).own_val None (live 0 vnil ∷ []))) (none_of 𝓛 (boxed C.row)) $ by ! told)
        (λ held. absurd held))
