-- Push/pull streams: which bytes are a stream of which claims.
use Rattle.std.specs.Prelude.{◌≡◌, ℕ, Bool, List, [], ◌∷◌, ◌++◌, length}
use Rattle.swim_claim.specs.declared.claim.Claim.{Claim}
use Rattle.swim_wire.specs.declared.stream.Header.{Header}
use Rattle.swim_wire.specs.Texts.{HeaderText, StateText}

-- The bytes are the state records of these claims, one after the other.
pub data StateTexts : List ℕ → List Claim → Type 0 where
  none : StateTexts [] []
  one : (b rest : List ℕ) (c : Claim) (claims : List Claim) → StateText b c → StateTexts rest claims
      → StateTexts (b ++ rest) (c ∷ claims)

-- The bytes b are a stream of these claims with this join flag: a header, as many state records as
-- it announces, and as many bytes of user state, which may be anything.
pub record StreamText (b : List ℕ) (claims : List Claim) (join : Bool) : Type 0 where
  pub header : Header
  pub head : List ℕ
  pub records : List ℕ
  pub user : List ℕ
  pub bytes : b ≡ head ++ records ++ user
  pub head_text : HeaderText head header
  pub flag : header.join ≡ join
  pub nodes : length claims ≡ header.nodes
  pub record_texts : StateTexts records claims
  pub user_len : length user ≡ header.user_len
