use Rattle.std.proofs.Common.{ℕ, [], ◌∷◌, ap, ◌∙◌}
use Rattle.std.specs.Int.{w128, from_be_bytes}
use Rattle.memberlist_cipher.specs.Gcm.{block}
use Rattle.memberlist_cipher.proofs.Sixteen.{cons}
use Rattle.memberlist_cipher.proofs.ghash.padded.Goals as goal

pub returns : goal.returns
unfolding block
returns c =
    c.from_be_bytes.ensures
    ∙ ap (from_be_bytes w128) (cons c.at.ensures
    (cons c.at-2.ensures
    (cons c.at-3.ensures
    (cons c.at-4.ensures
    (cons c.at-5.ensures
    (cons c.at-6.ensures
    (cons c.at-7.ensures
    (cons c.at-8.ensures
    (cons c.at-9.ensures
    (cons c.at-10.ensures
    (cons c.at-11.ensures
    (cons c.at-12.ensures (cons c.at-13.ensures
    (cons c.at-14.ensures (cons c.at-15.ensures
    (ap (λ (z : ℕ). z ∷ []) c.at-16.ensures))))))))))))))))
