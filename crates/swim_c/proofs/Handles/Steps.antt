-- Steps that the proofs of `of` and `into_..` share. Assumes `Logic`.
--     heap_tells, box_tells      the heap's handle, and a box, are one machine value: by `peeks`, and by the kit's `box_out`, `box_in`
--     fields_out, fields_in      the fields of a handle are one machine value, for whatever it owns beside them
--     tokens_in, outlived        what a call of a box's function takes beside its arguments
use Rattle.std.proofs.Common.{◌≡◌, List, [], ◌∷◌, ◌++◌, refl, ap, ◌∙◌, ℕ, Bool}
use seplogic.Ra.Ura.{Ura}
use mir.Syntax.{Sym}
use mir.Val.{Val, vbool, vstruct, of_list}
use types.Logic.{Logic}
use base.Logic.{emp}
use base.Fml.{Fml, ftrue, fsep, flft}
use base.Fraction.{full_share}
use contract.BorrowLft.{◌⊑◌}
use contract.Monad.{fact, fact_i}
use types.Kit.{Item, Goal, Seq, Step, step, ‵, raw, ◌⊛◌, ◌$◌, use0, move, drop, join, rewrite, fsplit, fjoin, fpick, fpack}
use types.Kit.{feq_i, feq_l}
use denote.Builtin.{RawPtr, bool}
use denote.Laws.{Is, shows}
use denote.RattleType.{Valss}
use denote.RawPtr.{Ptr, ptr_val}
use denote.Steps.{nothing, only, peeks}
use denote.Struct.Struct.{within}
use Rattle.std.proofs.BoxSteps.Form.{D, B, word}
use Rattle.std.proofs.BoxSteps.Steps.{box_out, box_in}
use Rattle.std.proofs.Handle.{heap_val, heap_Tells}
use Rattle.std.proofs.alloc.Global.TheLaws as heap_laws
use Rattle.std.specs.contracts.alloc.Global as heap
use Rattle.swim_c.proofs.Drops.{passed}
use Rattle.swim_c.proofs.Handles.Shape.{Content, both, box_of, box_val, fields}

-- what a function over a box takes beside its arguments: two lifetimes, which may be static
abbrev pub Tokens : {M : Type 1} (𝓤 : Ura M) → Item 𝓤
Tokens 𝓤 = ‵ (flft [] full_share) ⊛ ‵ (flft [] full_share) ⊛ ‵ ftrue

module _ {M : Type 1} {𝓤 : Ura M} {𝓛 : Logic 𝓤} {K : Type 0} {Γ : List (Item 𝓤)} {G : Goal 𝓤 𝓛.H} where
  pub heap_tells : K → (a : (heap.the_row).Denot) (vs : List Val)
      → (vs ≡ heap_val ∷ [] → Seq K 𝓛 (‵ ((heap.the_row).own_val a (heap_val ∷ [])) ∷ Γ) G)
      → Seq K 𝓛 (‵ ((heap.the_row).own_val a vs) ∷ Γ) G
  heap_tells t a vs k = peeks t heap.the_row (Is heap.the_row) (shows 𝓛 heap.the_row) a vs (λ is.
      rewrite t 0 (λ (us : List Val). ‵ ((heap.the_row).own_val a us)) (heap_Tells a vs is) refl $ k (heap_Tells a vs is))

  pub fields_out : K → (name : Sym) (p : Ptr) (y : Bool) (vs : List Val) {F : Fml}
      → (vs ≡ both p y ∷ [] → Seq K 𝓛 (‵ F ∷ Γ) G)
      → Seq K 𝓛 (‵ (fsep ((fields name).own_val (p, (y, tt)) vs) F) ∷ Γ) G
  fields_out t name p y vs k =
      fsplit t $ fpick t (λ vss. fsplit t $ feq_l t (λ ev. fsplit t $ feq_l t (λ ep. fsplit t $ feq_l t (λ eb. drop t $
      k (ev ∙ (λ i. vstruct (of_list (ep i ++ (eb i ++ []))) ∷ []))))))

  pub fields_in : K → (name : Sym) (p : Ptr) (y : Bool) {F : Fml}
      → Step K 𝓛 (‵ (fsep ((fields name).own_val (p, (y, tt)) (both p y ∷ [])) F) ∷ Γ) G (‵ F ∷ Γ) G
  fields_in t name p y = step (λ s.
      nothing t $ feq_i t (List Val) (vbool y ∷ []) (vbool y ∷ []) refl $ fjoin t
      $ feq_i t (List Val) (ptr_val p ∷ []) (ptr_val p ∷ []) refl $ fjoin t
      $ feq_i t (List Val) (both p y ∷ []) (both p y ∷ []) refl $ fjoin t $
      fpack t (Valss (RawPtr ∷ bool ∷ []))
      (within (record { name = name; args = []; types = []; fields = RawPtr ∷ bool ∷ [] })
      (p, (y, tt)) (both p y ∷ [])) (ptr_val p ∷ [], (vbool y ∷ [], tt)) $ fjoin t $ s)

  pub tokens_in : K → Step K 𝓛 (Tokens 𝓤 ∷ Γ) G Γ G
  tokens_in t = step (λ s.
      nothing t $ use0 𝓛 (‵ (flft [] full_share)) (𝓛.lfts.lft-nil full_share) $ join t $
      use0 𝓛 (‵ (flft [] full_share)) (𝓛.lfts.lft-nil full_share) $ join t $ s)

module _ (C : Content) {M : Type 1} {𝓤 : Ura M} {𝓛 : Logic 𝓤} {K : Type 0} {Γ : List (Item 𝓤)} {G : Goal 𝓤 𝓛.H} where
  pub box_tells : K → (d : D (box_of C)) (vs : List Val)
      → ((b o : ℕ) → vs ≡ box_val C b o ∷ [] → Seq K 𝓛 (‵ ((B (box_of C)).own_val d (box_val C b o ∷ [])) ∷ Γ) G)
      → Seq K 𝓛 (‵ ((B (box_of C)).own_val d vs) ∷ Γ) G
  box_tells t d vs k = box_out (box_of C) t d vs
      (λ b o hv e is fits. move t (2 ∷ [])
      $ heap_tells t d.alloc (hv ∷ []) (λ one. move t (1 ∷ 2 ∷ []) $
      box_in (box_of C) t d b o d.value e refl $ k b o (is ∙ ap (λ (v : Val). word (box_of C) v b o ∷ []) (ap only one))))

  -- the content and the heap may outlive each lifetime
  pub outlived : K → {i : Item 𝓤}
      → Step K 𝓛 ((raw (fact 𝓤 ([] ⊑ (passed C.row).lives)) ⊛ raw (fact 𝓤 ([] ⊑ heap.the_row.lives)) ⊛ i) ∷ Γ) G (i ∷ Γ) G
  outlived t = step (λ s.
      use0 𝓛 (raw (fact 𝓤 ([] ⊑ heap.the_row.lives))) (fact_i 𝓤 ([] ⊑ heap.the_row.lives) (emp 𝓤) (heap_laws.the_within [])) $ join t $
      use0 𝓛 (raw (fact 𝓤 ([] ⊑ (passed C.row).lives))) (fact_i 𝓤 ([] ⊑ (passed C.row).lives) (emp 𝓤) C.lives) $ join t $ s)
