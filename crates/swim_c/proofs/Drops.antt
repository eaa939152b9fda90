-- How a value is dropped, which the functions that take a box need to know. Assumes `Logic`.
use Rattle.std.proofs.Common.{List, [], ◌∷◌, ◌≡◌, refl}
use seplogic.Ra.Ura.{Ura}
use mir.Raw.{raw as bare}
use mir.Syntax.{Callee, Dict, impl, method, tnil, tcons, dnil, no_args}
use prog.Model.{Model}
use prog.Routine.{◌≼⁺◌}
use prog.Wired.{Wired}
use contract.BorrowLft.{◌⊑◌}
use contract.Lifetimes.{Lfts}
use contract.Running.{Running}
use types.Logic.{Logic}
use denote.Exit.{no, yes}
use denote.Laws.{Lawful}
use denote.RattleType.{RattleType}
use denote.Signature.{Signature}
use denote.Param.{arg, layout}
use denote.Param.Laws.{Laws, arg_laws}
use denote.Param.Glue.{Met}
use denote.Param.Mute.{Mute}
use denote.Param.NoDrop.{glues}
use denote.Triple.Clauses.{Ended, AtExit, Lasts, lasts, at_exit}
use denote.Triple.Walked.{Fit}
use borrow.Kind.Owned.{p_owned}
use borrow.Fn.Function.{S}
use borrow.Fn.Glue.{glue_ps, glue_by}
use borrow.Fn.Impl.{via_longer, method_Known}
use borrow.Fn.Kind.{ParamKind}
use borrow.Fn.Kinds.{In, Out, ended_of, stays, r_unit}
use borrow.Fn.Picked.{KnownAs}
use borrow.Fn.Run.{Over}
use borrow.Fn.World.{World, Pr, ArgsD, ResD}
use borrow.Fn.Written.{Holds}
use borrow.Table.OneValue.{One}
use Rattle.std.specs.contracts.alloc.Global as heap
use Rattle.std.proofs.alloc.Global.TheLaws as heap_laws
use Rattle.swim_c.proofs.Destruct++none.drop.Code as none

-- a row as a call passes it
abbrev pub passed : RattleType → RattleType
passed X = arg (bare (layout X)) no X

abbrev pub passed_laws : (X : RattleType) → Laws X → bare (bare (layout X)) ≡ bare (layout X) → Laws (passed X)
passed_laws X L same = arg_laws (bare (layout X)) no X L same

abbrev pub heap_row : RattleType
heap_row = passed heap.the_row

abbrev pub heap_row_laws : Laws heap_row
heap_row_laws = passed_laws heap.the_row heap_laws.the_row_laws refl

abbrev pub heap_drops : Dict
heap_drops = impl ("swim_c::Destruct++none::drop" ∷ []) (tcons (bare (layout heap.the_row)) tnil) dnil

pub heap_goes : {M : Type 1} (𝓤 : Ura M) (𝓛 : Logic 𝓤) (𝓜 : Model 𝓤 𝓛.H) (𝓡 : Running 𝓤 𝓛.H 𝓜)
    → Wired 𝓡.env none.code → Met 𝓛 𝓜 𝓡 𝓡.env heap_row heap_drops
unfolding none.code
heap_goes {M} 𝓤 𝓛 𝓜 𝓡 wired = glues "swim_c::Destruct++none::drop" 𝓡.env wired heap_row heap_row_laws M 𝓤 𝓛 𝓜 𝓡

-- A type's own `drop` is what code calls to drop it. The kinds, and what is known of the `drop`, are
-- those of its generated modules.
module _ (X : RattleType) (L : Laws (passed X)) (drops : Dict) (one : One X) (mute : Mute (X.exit yes))
    (lf : (M : Type 1) (𝓤 : Ura M) (𝓛 : Logic 𝓤) → Lawful 𝓛 X) where
  abbrev ps : List (ParamKind 0)
  ps = p_owned X one yes mute lf ∷ []

  abbrev Sg : Signature
  Sg = S 0 ps r_unit [] 0

  abbrev En : Ended
  En = ended_of 0 ps r_unit

  pub goes : (kinds : List (ParamKind 0)) → ps ≡ kinds
      → (req : (κs : Lfts 0) → ArgsD Sg κs → Unit {0} → (w : World) → Pr w) (ens : (κs : Lfts 0)
      → ArgsD Sg κs → Unit {0} → ResD Sg κs → AtExit En κs → (w : World) → Pr w)
      (Asked : In 0 ps) (Learnt : Out 0 ps r_unit) → KnownAs 0 ps r_unit (Unit {0}) req ens Asked Learnt
      → ((κs : Lfts 0) (a : ArgsD Sg κs) → Asked κs a)
      → (w : World) (s : Callee) → w.𝓡.env s ≼⁺ w.𝓡.env (method drops 0 no_args)
      → Holds 0 ps r_unit (Unit {0}) req ens w (w.𝓡.run (w.𝓡.env s))
      → Met w.𝓛 w.𝓜 w.𝓡 w.𝓡.env (passed X) drops
  goes kinds same req ens Asked Learnt known asks w s le met =
      let k = method drops 0 no_args in
      glue_by (passed X) L w drops w.𝓡.env (λ κs a. Lasts En tt a) (λ κs a. lasts En tt a)
      (λ κs a x ws. Fit En (stays ps) tt a ws × Learnt tt a x (at_exit En tt a ws))
      (λ κs a. κs.0 ⊑ X.lives) 0 tt (λ κs a h. h)
      (via_longer w.𝓛 (Over w.𝓛 w.𝓜 w.𝓡 w.𝓡.env) 1 (glue_ps (passed X) L) r_unit (λ κs a. Lasts En tt a)
      (λ κs a. lasts En tt a) (λ κs a x ws. Fit En (stays ps) tt a ws
      × Learnt tt a x (at_exit En tt a ws))
      (λ κs a. κs.0 ⊑ X.lives) k 0 tt (λ κs. tt) (λ κs a. Asked tt a) (λ κs a p. (tt, asks tt a))
      (λ κs bd within a vss qs. method_Known 0 ps r_unit req ens Asked Learnt known w s k le met ((tt, qs, tt, a, vss), tt)))
