-- `none` of a handle's type makes an empty handle: `none_meets`. Assumes `Logic`.
-- The code stores a null pointer and `false`. With these its fields own nothing, so what the handle owns is built from nothing
-- (`fields_in`), and the kit's `leaves` hands it to the caller with the clauses.
use Rattle.std.proofs.Common.{◌≡◌, List, [], ◌∷◌, refl, false}
use seplogic.Ra.Ura.{Ura}
use mir.Syntax.{Callee, Sym, Fn, local, value_local, place, assign, seq, return, aggregate, int, w64, opd_false}
use mir.Val.{Val}
use types.Logic.{Logic}
use base.Logic.{ent, emp}
use base.Fml.{ftrue, fsep}
use prog.Model.{Model}
use prog.Wp.{Closed}
use contract.Running.{Running, MachineTables, tables}
use types.Kit.{‵, raw, ◌$◌, ◌∵◌, !, qed, by, use0, move, drop, rewrite}
use types.Part.{agg}
use types.Run.{lit, false_lit, no_more, and_then, returns, enter}
use types.ByLocal.{alloc_all, pass_all, free_all, look_at, sets}
use base.Fml.{Fml}
use denote.RawPtr.{null_ptr}
use denote.Signature.{plain}
use denote.Steps.{nothing}
use denote.Triple.Clauses.{Clauses, Ended, at_exit, closing}
use denote.Triple.Entry.{on_entry}
use denote.Triple.Spec.{Meets}
use Rattle.std.proofs.raw_atomic.Walks.{proved_at, leaves}
use Rattle.swim_c.proofs.Handles.Shape.{Handle, both, fields, pair_good, pair_ty}
use Rattle.swim_c.proofs.Handles.Steps.{fields_in}

-- the code of `none` of a handle of this name
abbrev none_fn : Sym → Fn
none_fn name = record {
  lifetimes = 0;
  outlives = [];
  ty_params = [];
  givens = 0;
  params = 0;
  locals = local (pair_ty name) value_local ∷ [];
  body = seq (assign (place 0 []) (aggregate (int w64 0 ∷ opd_false ∷ []))) return;
}

module _ {M : Type 1} (𝓤 : Ura M) (𝓛 : Logic 𝓤) (𝓜 : Model 𝓤 𝓛.H) (𝓡 : Running 𝓤 𝓛.H 𝓜) (H : Handle) where
  abbrev 𝓣 : MachineTables 𝓤 𝓛.H 𝓜
  𝓣 = tables 𝓤 𝓛.H 𝓜 𝓡 𝓡.env

  abbrev ended : Ended
  ended = record { signature = record { lifetimes = 0; outlives = []; params = []; result = plain (λ _. H.row) }; kept = tt }

  pub none_meets : (c : Clauses 𝓤 ended) (k : Callee) → Closed 𝓤 𝓛.H 𝓣.C 𝓣.Λ k (none_fn H.name) → (made : H.row.Denot)
      → ((vs : List Val) → fsep ((fields H.name).own_val (null_ptr, (false, tt)) vs) ftrue ≡ H.row.own_val made vs)
      → ((g : (c tt tt).ghost) → ent 𝓤 (emp 𝓤) ((c tt tt).ensures g made (at_exit ended tt tt tt)))
      → Meets 𝓛 ended.signature (𝓣.C k) (closing 𝓛 ended c)
  none_meets c k closed made is says =
      let v = both null_ptr false in
      proved_at 𝓛 ended tt c 𝓜 𝓡 tt k (none_fn H.name) closed (λ z are.
      qed 𝓛 (raw (on_entry 𝓛 ended.signature z.0.0 z.0.1 z.0.3 z.0.4) ∷ raw ((c tt z.0.3).requires z.1) ∷ []) ∵ drop ! $ drop ! $
      enter ! _ _ _ _ _ $ alloc_all ! (λ l. pass_all ! refl tt $
      sets ! (agg ! (and_then ! (lit ! tt) (and_then ! (false_lit !) (no_more !)))) refl (pair_good H.name null_ptr false) $
      returns ! (look_at ! 0 refl) $ free_all ! refl $
      nothing ! $ fields_in ! H.name null_ptr false $ rewrite ! 0 (λ (F : Fml). ‵ F) (is (v ∷ [])) refl $
      use0 𝓛 (raw ((c tt tt).ensures z.1 made (at_exit ended tt tt tt))) (says z.1) $ move ! (1 ∷ 0 ∷ []) $
      nothing ! $ nothing ! $ by ! (leaves 𝓛 ended tt c z v made tt tt)))
