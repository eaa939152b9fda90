use Rattle.std.proofs.Common.{◌≡◌, ℕ, List, ◌∷◌, length, sym, ap, ◌∙◌, arith}
use Rattle.memberlist_cipher.specs.Encryption.{head}
use Rattle.memberlist_cipher.proofs.Sixteen.{four}
use Rattle.memberlist_cipher.proofs.encrypt.head_of.Goals as goal

pub returns : goal.returns
unfolding head
returns c =
    let d = c.to_be_bytes-digits.result in
    let size : length d ≡ 4 = omega arith in
    ap (λ (x : List ℕ). 10 ∷ x) (sym (four d size) ∙ c.to_be_bytes-digits.ensures)
