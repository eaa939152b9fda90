-- Decrypting what was encrypted, and padding.
use Rattle.std.proofs.Common.{◌≡◌, ℕ, ◌+◌, ◌-◌, ◌*◌, ◌/◌, ◌%◌, ◌<◌, ◌≤◌, List, ◌++◌, length, get_or, take, drop, sym, ap, ap₂, ◌∙◌, arith}
use Rattle.std.proofs.Math.ListN.{replicate}
use Rattle.std.proofs.Math.Seq.{drop-append_seam, get_or-append_right}
use Rattle.std.proofs.lemmas.List.{get_or-replicate, length-append, length-replicate, length-take-le, take-append-drop}
use Rattle.std.proofs.lemmas.List.{take_all, length-drop}
use Rattle.memberlist_cipher.specs.Block.{cipher, schedule, aes}
use Rattle.memberlist_cipher.specs.Gcm.{ctr, tag}
use Rattle.memberlist_cipher.specs.Encryption.{IsKey, sealed, padded}
use Rattle.memberlist_cipher.proofs.Scheduling.{length-schedule}
use Rattle.memberlist_cipher.proofs.Twice.{length-cipher, ctr_twice}

pub aes_sizes : (key : List ℕ) → length (schedule key) ≡ 112 + 16 * (length key / 4) → (s : List ℕ) → length (aes key s) ≡ 16
unfolding aes
aes_sizes key size s = length-cipher (schedule key) (length key / 4 + 5) s (omega (arith, size))

pub good_sizes : (key : List ℕ) → IsKey key → (s : List ℕ) → length (aes key s) ≡ 16
good_sizes key good = aes_sizes key (length-schedule key good)

-- a tag and a text by the schedule are those by the key
pub tag_is : (key w words nonce aad ciphertext t : List ℕ) → w ≡ words → words ≡ schedule key
    → t ≡ tag (cipher w (length key / 4 + 5)) nonce aad ciphertext → t ≡ tag (aes key) nonce aad ciphertext
unfolding aes
tag_is key w words nonce aad ciphertext t same is e = e ∙ ap
    (λ (x : List ℕ). tag (cipher x (length key / 4 + 5)) nonce aad ciphertext) (same ∙ is)

pub ctr_is : (key w words nonce ciphertext t : List ℕ) → w ≡ words → words ≡ schedule key
    → t ≡ ctr (cipher w (length key / 4 + 5)) nonce ciphertext → t ≡ ctr (aes key) nonce ciphertext
unfolding aes
ctr_is key w words nonce ciphertext t same is e = e ∙ ap (λ (x : List ℕ). ctr (cipher x (length key / 4 + 5)) nonce ciphertext) (same ∙ is)

-- bytes with their tag are the encrypted message
pub seal_again : (key nonce aad c t m : List ℕ) → ((s : List ℕ) → length (aes key s) ≡ 16)
    → t ≡ tag (aes key) nonce aad c → m ≡ ctr (aes key) nonce c → c ++ t ≡ sealed key nonce aad m
unfolding sealed
seal_again key nonce aad c t m sizes is plain =
    let back : ctr (aes key) nonce m ≡ c = ap (ctr (aes key) nonce) plain ∙ ctr_twice (aes key) sizes nonce c in
    ap (λ (x : List ℕ). c ++ x) is ∙ sym (ap (λ (x : List ℕ). x ++ tag (aes key) nonce aad x) back)

pub pad_back : (items : List ℕ) (more : ℕ) → length items % 16 ≡ 0 → 0 < more → more ≤ 16 → more ≤ length items
    → drop (length items - more) items ≡ replicate more more → padded (take (length items - more) items) ≡ items
unfolding padded
pad_back items more whole some few fits is =
    let m = take (length items - more) items in
    let size : length m ≡ length items - more = length-take-le (length items - more) items (omega arith) in
    let count : 16 - length m % 16 ≡ more = omega (arith, size) in
    ap (λ k. m ++ replicate k k) count ∙ ap (λ (x : List ℕ). m ++ x) (sym is) ∙ take-append-drop (length items - more) items

pub pad_is : (items d : List ℕ) (n more : ℕ) → n ≡ length items → d ≡ items → more ≤ n
    → take (n - (n - more)) (drop (n - more) d) ≡ replicate (length (take (n - (n - more)) (drop (n - more) d))) more
    → drop (length items - more) items ≡ replicate more more
pad_is items d n more size same fits is =
    let part = drop (n - more) d in
    let long : length part ≡ more = length-drop (n - more) d ∙ omega (arith, ap length same) in
    let all : take (n - (n - more)) part ≡ part = take_all (n - (n - more)) part (omega arith) in
    ap₂ (λ k (x : List ℕ). drop (k - more) x) (sym size) (sym same) ∙ sym all ∙ is ∙ ap (λ k. replicate k more) (ap length all ∙ long)

pub pad_length : (m : List ℕ) → length (padded m) ≡ length m + (16 - length m % 16)
unfolding padded
pad_length m =
    let k = 16 - length m % 16 in
    length-append m (replicate k k) ∙ ap (λ j. length m + j) (length-replicate {A = ℕ} k k)

pub pad_last : (m : List ℕ) → get_or (padded m) (length (padded m) - 1) 0 ≡ 16 - length m % 16
unfolding padded
pad_last m =
    let k = 16 - length m % 16 in
    let whole = length-append m (replicate k k) in
    let count = length-replicate {A = ℕ} k k in
    get_or-append_right m (replicate k k) (length (m ++ replicate k k) - 1) 0 (omega arith)
    ∙ get_or-replicate k (length (m ++ replicate k k) - 1 - length m) k 0 (omega arith)

-- what follows the message is its padding
pub pad_end : (m d : List ℕ) (n more : ℕ) → padded m ≡ d → n ≡ length d → more ≡ 16 - length m % 16
    → (take (n - (n - more)) (drop (n - more) d) ≡ replicate (length (take (n - (n - more)) (drop (n - more) d))) more)
unfolding padded
pad_end m d n more e size is =
    let k = 16 - length m % 16 in
    let count = length-replicate {A = ℕ} k k in
    let whole = length-append m (replicate k k) in
    let same = ap length e in
    let place : n - more ≡ length m = omega arith in
    let part : drop (n - more) d ≡ replicate k k = ap₂ drop place (sym e) ∙ drop-append_seam m (replicate k k) in
    let all : take (n - (n - more)) (drop (n - more) d) ≡ replicate k k =
    ap (take (n - (n - more))) part ∙ take_all (n - (n - more)) (replicate k k) (omega arith) in
    all ∙ ap₂ replicate (sym (ap length all ∙ count)) (sym is)
