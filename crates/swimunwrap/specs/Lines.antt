-- What becomes of lines.
use Rattle.std.specs.Prelude.{◌≡◌, ◌⊎◌, ◌<◌, ℕ, Bool, true, false, List, [], ◌∷◌, ◌++◌, length, take}
use Rattle.memberlist_transport.specs.declared.in_the_clear.InTheClear.{InTheClear}
use Rattle.swimunwrap.specs.declared.cause.Cause.{Cause}
use Rattle.swimunwrap.specs.Cause.{leaves_out}
use Rattle.swimunwrap.specs.Packet.{ReadsLine, Fails}

-- a line that cannot be read stays as it is; if it is left out it is empty, and its cause is kept
abbrev pub Stays : Bool → List ℕ → Cause → List ℕ → List Cause → Type 0
Stays false line cause text causes = (text ≡ line) × (causes ≡ [])
Stays true line cause text causes = (text ≡ []) × (causes ≡ cause ∷ [])

-- the outcome of a line, and why it was left out, if it was
abbrev pub Becomes : InTheClear → List (List ℕ) → Bool → List ℕ → List ℕ → List Cause → Type 0
Becomes policy keys skip line text causes =
    (ReadsLine policy keys line text × (causes ≡ []))
    ⊎ ((cause : Cause) × Fails policy keys line cause × Stays (leaves_out skip cause) line cause text causes)

-- the outcome of lines, with a line feed between each two
abbrev pub AllBecome : InTheClear → List (List ℕ) → Bool → List (List ℕ) → List ℕ → List Cause → Type 0
AllBecome policy keys skip [] text causes = (text ≡ []) × (causes ≡ [])
AllBecome policy keys skip (line ∷ []) text causes = Becomes policy keys skip line text causes
AllBecome policy keys skip (line ∷ next ∷ lines) text causes =
    (own : List ℕ) × (rest : List ℕ) × (first : List Cause) × (more : List Cause)
    × Becomes policy keys skip line own first × AllBecome policy keys skip (next ∷ lines) rest more
    × (text ≡ own ++ 10 ∷ rest) × (causes ≡ first ++ more)

-- the first lines, this many of them, become a text that is longer than the limit
pub record BecomeTooLong (policy : InTheClear) (keys : List (List ℕ)) (skip : Bool) (limit : ℕ) (lines : List (List ℕ))
    : Type 0 where
  pub count : ℕ
  pub text : List ℕ
  pub causes : List Cause
  pub become : AllBecome policy keys skip (take count lines) text causes
  pub long : limit < length text
