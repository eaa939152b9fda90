-- What a handle is to the proofs of its functions: a pointer and a flag, which own a box on the C library's heap.
--     Content, Handle      what the box holds, and a handle's type; Contents.antt has those of this crate
--     both, box_val        the machine values of a handle's fields and of a box; `.._good` says that they have their types
--     box_of, Out          a box as a call passes it, and what the function that takes the box out returns
use Rattle.std.proofs.Common.{◌≡◌, List, [], ◌∷◌, ℕ, lit<, Bool}
use seplogic.Ra.Ura.{Ura}
use mir.Syntax.{Sym, Ty, Dict, ty_ptr, ty_bool, ty_struct, tnil, tcons}
use mir.Val.{Val, vbool, vstruct, vcons, vnil}
use types.Logic.{Logic}
use base.Fml.{Fml, ftrue, fsep}
use prog.Model.{Model}
use prog.Wired.{Code, Wired}
use contract.BorrowLft.{◌⊑◌}
use contract.Running.{Running}
use denote.Builtin.{RawPtr, bool}
use denote.Exit.{yes, Last, left}
use denote.RattleType.{RattleType}
use denote.RawPtr.{Ptr, block_ptr, null_ptr, ptr_val}
use denote.Param.{layout}
use denote.Param.Glue.{Met}
use denote.Param.Laws.{Laws}
use denote.Struct.Struct.{Struct}
use Rattle.std.proofs.BoxSteps.Form.{Bx, B, R, word}
use Rattle.std.proofs.cell.Inside.{Good}
use Rattle.std.proofs.Handle.{heap_val}
use Rattle.std.specs.Box.Ownership.{box_owns}
use Rattle.std.specs.contracts.alloc.Global as heap
use Rattle.std.specs.contracts.boxed.Box as box
use Rattle.std.specs.contracts.option.Option as option
use Rattle.std.specs.contracts.impls.GlobalAllocator.TheImpl.{ghosts, dict}
use Rattle.std.specs.declared.alloc.Global.{Global}
use Rattle.std.specs.declared.boxed.Box.{Box}
use Rattle.swim_c.specs.Handle.{heap as heap_value}
use Rattle.swim_c.proofs.Drops.{passed, heap_row, heap_row_laws, heap_drops}

-- ---- the machine values

-- a handle's pointer and flag
abbrev pub both : Ptr → Bool → Val
both p y = vstruct (vcons (ptr_val p) (vcons (vbool y) vnil))

abbrev pub pair_ty : Sym → Ty
pair_ty name = ty_struct name (tcons ty_ptr (tcons ty_bool tnil))

pub pair_good : (name : Sym) (p : Ptr) (y : Bool) → Good (pair_ty name) (both p y)
pair_good name (block_ptr b o) y = (tt, (tt, (tt, tt)))
pair_good name null_ptr y = (tt, (record { fits = lit< tt }, (tt, tt)))

pub pointer_good : (p : Ptr) → Good ty_ptr (ptr_val p)
pointer_good (block_ptr b o) = (tt, tt)
pointer_good null_ptr = (tt, record { fits = lit< tt })

abbrev pub heap_ty : Ty
heap_ty = layout heap.the_row

pub heap_good : Good heap_ty heap_val
heap_good = (tt, ((tt, tt), tt))

-- ---- the types

-- the fields of a handle of this name: the pointer, and whether there is a box
abbrev pub fields : Sym → RattleType
fields name = Struct (record { name = name; args = []; types = []; fields = RawPtr ∷ bool ∷ [] })

-- A handle's type: its row and its name, its fields, and what it owns beside them. The last three
-- compute at each type.
pub record Handle : Type 2 where
  pub row : RattleType
  pub name : Sym
  pub at : row.Denot → Ptr
  pub held : row.Denot → Bool
  pub owns : row.Denot → Fml
  pub opened : (h : row.Denot) (vs : List Val) → row.own_val h vs ≡ fsep ((fields name).own_val (at h, (held h, tt)) vs) (owns h)
  pub last : (h : row.Denot) → Last (row.exit yes) h
  pub silent : (h : row.Denot) (f : Last (row.exit yes) h) → left (row.exit yes) h f ≡ ftrue

-- a box of this row on the C library's heap, as code keeps it
abbrev pub boxed : RattleType → RattleType
boxed X = box.the_row X heap.the_row ghosts

-- the same as a call passes it
abbrev pub boxes : (X : RattleType) → Laws (passed X) → Bx
boxes X L = record {
  row = passed X;
  laws = L;
  al = record { row = heap_row; laws = heap_row_laws; g = ghosts; d = dict; drops = heap_drops };
}

-- A type that handles hold a box of: its row, its `drop`, and that a box of it is the same in code
-- and in a call. The last two are `refl` at each type.
pub record Content : Type 2 where
  pub row : RattleType
  pub laws : Laws (passed row)
  pub lives : [] ⊑ row.lives
  pub drops : Dict
  pub drop_code : Code
  pub goes : {M : Type 1} (𝓤 : Ura M) (𝓛 : Logic 𝓤) (𝓜 : Model 𝓤 𝓛.H) (𝓡 : Running 𝓤 𝓛.H 𝓜)
      → Wired 𝓡.env drop_code → Met 𝓛 𝓜 𝓡 𝓡.env (passed row) drops
  pub same_owns : (p : Ptr) (x : row.Denot)
      → box_owns (ghosts.dealloc_token heap_value) row p x ≡ box_owns (ghosts.dealloc_token heap_value)
      (R (boxes row laws)) p x
  pub same : (d : Box row.Denot Global) (vs : List Val) → (B (boxes row laws)).own_val d vs ≡ (boxed row).own_val d vs

-- ---- the box of a content

module _ (C : Content) where
  abbrev pub box_of : Bx
  box_of = boxes C.row C.laws

  -- its type as code writes it, and its value
  abbrev pub box_ty : Ty
  box_ty = layout (boxed C.row)

  abbrev pub box_val : ℕ → ℕ → Val
  box_val b o = word box_of heap_val b o

  pub box_good : (b o : ℕ) → Good box_ty (box_val b o)
  box_good b o = (tt, (tt, (heap_good.1, tt)))

  -- what is owned of the content behind a pointer, with the right to free its block
  abbrev pub content_at : Global → Ptr → C.row.Denot → Fml
  content_at a p x = box_owns (ghosts.dealloc_token a) (R box_of) p x

  -- maybe a box
  abbrev pub Out : RattleType
  Out = option.the_row (boxed C.row)

  abbrev pub out_ty : Ty
  out_ty = layout Out
