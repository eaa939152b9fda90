-- How the parts of a prepared key follow from its bytes.
use Rattle.std.proofs.Common.{◌≡◌, inl, inr, ℕ, ◌+◌, ◌-◌, ◌*◌, ◌/◌, ◌<◌, ◌≤◌, List, length, take, replicate, subst, sym}
use Rattle.std.proofs.Common.{ap, ap₂, ◌∙◌, arith}
use Rattle.std.specs.Int.{w128, from_be_bytes}
use Rattle.memberlist_cipher.specs.Block.{cipher, schedule, aes}
use Rattle.memberlist_cipher.specs.Gcm.{hash_key}
use Rattle.memberlist_cipher.specs.Encryption.{IsKey}
use Rattle.memberlist_cipher.specs.Prepared.{scheduled_key, IsPrepared}
use Rattle.memberlist_cipher.proofs.Scheduling.{length-schedule, scheduled_is}

-- the cipher with these words is that with the key
cipher_is : (key words : List ℕ) (n : ℕ) → words ≡ schedule key → n ≡ length key / 4 + 5 → cipher words n ≡ aes key
unfolding aes
cipher_is key words n is count = ap₂ cipher is count

pub prepared_is : (key words w : List ℕ) (n h : ℕ) → IsKey key → words ≡ schedule key → w ≡ words → n ≡ length key / 4 + 5
    → h ≡ from_be_bytes w128 (cipher w n (replicate 16 0)) → IsPrepared (scheduled_key words) words h
unfolding hash_key
prepared_is key words w n h good is same count made =
    let P : List ℕ → Type 0 = λ k. IsPrepared k words h in
    let block = ap (λ (f : List ℕ → List ℕ). from_be_bytes w128 (f (replicate 16 0))) (cipher_is key w n (same ∙ is) count) in
    subst P (sym (scheduled_is key words good is)) (record { good_key = good; schedule_is = is; block_is = made ∙ block })

-- the parts of a key whose bytes are seen
seen : (key words : List ℕ) (h : ℕ) → scheduled_key words ≡ key → IsPrepared (scheduled_key words) words h → IsPrepared key words h
seen key words h view is =
    let P : List ℕ → Type 0 = λ k. IsPrepared k words h in
    subst P view is

few_rounds : (key : List ℕ) → IsKey key → length key / 4 + 5 < 14
few_rounds key (inl e) = omega arith
few_rounds key (inr (inl e)) = omega arith
few_rounds key (inr (inr e)) = omega arith

-- what is known of the words of a prepared key, as they are read, and of the hash's block
pub record Known (key w : List ℕ) (h : ℕ) : Type 0 where
  pub good : IsKey key
  pub some : 2 ≤ length w / 16
  pub few : length w / 16 - 2 < 14
  pub words : 16 * (length w / 16 - 2) + 32 ≤ length w
  pub under : cipher w (length w / 16 - 2) ≡ aes key
  pub block : h ≡ hash_key (cipher w (length w / 16 - 2))

pub known : (key words w : List ℕ) (h : ℕ) → scheduled_key words ≡ key
    → IsPrepared (scheduled_key words) words h → w ≡ words → Known key w h
known key words w h view prepared same =
    let p = seen key words h view prepared in
    let is : w ≡ schedule key = same ∙ p.schedule_is in
    let size : length w ≡ 112 + 16 * (length key / 4) = ap length is ∙ length-schedule key p.good_key in
    let count : length w / 16 - 2 ≡ length key / 4 + 5 = omega arith in
    let under = cipher_is key w (length w / 16 - 2) is count in
    let few = few_rounds key p.good_key in
    record {
      good = p.good_key;
      some = omega arith;
      few = omega arith;
      words = omega arith;
      under = under;
      block = p.block_is ∙ sym (ap hash_key under);
    }

-- the schedule begins with the key, and is longer
pub front_is : (key words w : List ℕ) (n h : ℕ) → scheduled_key words ≡ key
    → IsPrepared (scheduled_key words) words h → w ≡ words → n ≡ length w
    → (take (n / 4 - 28) w ≡ key) × (28 ≤ n / 4)
unfolding scheduled_key
front_is key words w n h view prepared same count =
    let p = seen key words h view prepared in
    let size : length w ≡ 112 + 16 * (length key / 4) = ap length (same ∙ p.schedule_is) ∙ length-schedule key p.good_key in
    (ap (λ (m : ℕ). take (m / 4 - 28) w) count ∙ ap (λ (v : List ℕ). take (length v / 4 - 28) v) same ∙ view, omega arith)
