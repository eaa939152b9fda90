-- A cause of a refusal other than running out of memory leaves no message.
use Rattle.std.proofs.Common.{IfErr, Result, Ok, Err, ◌≡◌, ◌≢◌, ℕ, ◌+◌, ◌<◌, ◌≤◌, inl, inr, List, [], ◌∷◌, ◌++◌, length}
use Rattle.std.proofs.Common.{slice_index, refl, sym, ap, subst, ◌∙◌, arith, length-append}
use Rattle.std.proofs.lemmas.Nat.{from_be_bytes-to_be_bytes_4}
use Rattle.memberlist_cipher.specs.declared.fault.CipherFault.{CipherFault}
use Rattle.memberlist_cipher.specs.declared.fault.CipherFault.TheVariants.{BadKey, TooLong, TooShort, WrongVersion}
use Rattle.memberlist_cipher.specs.declared.fault.CipherFault.TheVariants.{WrongTag, BadPadding, NotEncrypted, Trailing}
use Rattle.memberlist_cipher.specs.declared.fault.CipherFault.TheVariants.{Memory}
use Rattle.memberlist_cipher.specs.Block.{aes}
use Rattle.memberlist_cipher.specs.Gcm.{tag}
use Rattle.memberlist_cipher.specs.Encryption.{IsKey, IsWithin, Encryption, head, IsStream, StreamEncryption}
use Rattle.memberlist_cipher.specs.Refusal.{PacketParts, FormCause, PacketCause, announced, HeadCause, StreamCause}
use Rattle.memberlist_cipher.proofs.Sealing.{good_sizes}
use Rattle.memberlist_cipher.proofs.Refusing.{length-tag, Made, made, bad_tag, bad_padding}

abbrev pub layout : (bytes : List ℕ) (v : ℕ) (n i m : List ℕ) → v < 2 → length n ≡ 12 → length m ≡ 16
    → bytes ≡ v ∷ (n ++ (i ++ m)) → PacketParts bytes
layout bytes v n i m known a b e = record {
  version = v;
  nonce = n;
  ciphertext = i;
  tag = m;
  known = known;
  nonce_size = a;
  tag_size = b;
  text = e;
}

pub form_cause : (fault : CipherFault) (key aad bytes : List ℕ) → IsKey key → IsWithin aad bytes
    → FormCause fault bytes → PacketCause fault key aad bytes
form_cause TooShort key aad bytes good within short = (good, within, short)
form_cause WrongVersion key aad bytes good within wrong = (good, within, wrong.0, wrong.1)
form_cause BadKey key aad bytes good within h = absurd h
form_cause TooLong key aad bytes good within h = absurd h
form_cause WrongTag key aad bytes good within h = absurd h
form_cause BadPadding key aad bytes good within h = absurd h
form_cause NotEncrypted key aad bytes good within h = absurd h
form_cause Trailing key aad bytes good within h = absurd h
form_cause Memory key aad bytes good within h = absurd h

shape : (key aad bytes message : List ℕ) → Encryption key aad bytes message → Made key aad bytes message
shape key aad bytes message e = made key aad bytes message (good_sizes key e.good_key) e

long : (key aad bytes message : List ℕ) → Encryption key aad bytes message → 29 ≤ length bytes
long key aad bytes message e =
    let x = shape key aad bytes message e in
    let t = tag (aes key) x.nonce aad x.ciphertext in
    let whole = ap length x.text in
    omega (
      arith,
      whole,
      x.size,
      length-append x.nonce (x.ciphertext ++ t),
      length-append x.ciphertext t,
      length-tag (aes key) (good_sizes key e.good_key) x.nonce aad x.ciphertext,
    )

low : (key aad bytes message : List ℕ) → Encryption key aad bytes message → slice_index bytes 0 < 2
low key aad bytes message e =
    let x = shape key aad bytes message e in
    let first : slice_index bytes 0 ≡ x.version = ap (λ (b : List ℕ). slice_index b 0) x.text in
    omega (arith, first, x.small)

pub no_message : (fault : CipherFault) (key aad bytes message : List ℕ) → fault ≢ Memory → PacketCause fault key aad bytes
    → ¬ Encryption key aad bytes message
no_message BadKey key aad bytes message other c e = c e.good_key
no_message TooLong key aad bytes message other c e = c.1 e.within
no_message TooShort key aad bytes message other c e = omega (arith, c.2, long key aad bytes message e)
no_message WrongVersion key aad bytes message other c e = omega (arith, c.3, low key aad bytes message e)
no_message WrongTag key aad bytes message other c e =
    let l = c.2 in
    bad_tag key aad bytes message (good_sizes key e.good_key) l.version l.nonce l.ciphertext l.tag l.nonce_size l.tag_size l.text c.3 e
no_message BadPadding key aad bytes message other c e =
    let l = c.2 in
    bad_padding key aad bytes message (good_sizes key e.good_key) l.version l.nonce l.ciphertext l.tag
    l.nonce_size l.tag_size l.text c.4 (c.5 message) e
no_message Memory key aad bytes message other c e = other refl
no_message NotEncrypted key aad bytes message other c e = c
no_message Trailing key aad bytes message other c e = c

pub lacking : {A : Type 0} (r : Result A CipherFault) (key aad bytes : List ℕ) → IfErr r (λ fault. PacketCause fault key aad bytes)
    → IfErr r (λ fault. fault ≢ Memory → (message : List ℕ) → ¬ Encryption key aad bytes message)
lacking (Ok x) key aad bytes h = h
lacking (Err fault) key aad bytes h = λ other message. no_message fault key aad bytes message other h

pub length-head : (n : ℕ) → length (head n) ≡ 5
unfolding head
length-head n = refl

stream_size : (bytes ciphertext : List ℕ) → IsStream bytes ciphertext → length bytes ≡ 5 + length ciphertext
stream_size bytes ciphertext s = ap length s.text ∙ length-append (head (length ciphertext)) ciphertext
    ∙ omega (arith, length-head (length ciphertext))

stream_first : (bytes ciphertext : List ℕ) → IsStream bytes ciphertext → slice_index bytes 0 ≡ 10
unfolding head
stream_first bytes ciphertext s = ap (λ (b : List ℕ). slice_index b 0) s.text

stream_announced : (bytes ciphertext : List ℕ) → IsStream bytes ciphertext → announced bytes ≡ length ciphertext
unfolding head
stream_announced bytes ciphertext s = ap announced s.text ∙ from_be_bytes-to_be_bytes_4 (length ciphertext) (omega (arith, s.few))

no_stream : (fault : CipherFault) (bytes ciphertext : List ℕ) → HeadCause fault bytes → ¬ IsStream bytes ciphertext
no_stream TooShort bytes ciphertext (inl h) s = omega (arith, stream_size bytes ciphertext s)
no_stream TooShort bytes ciphertext (inr h) s = omega (arith, h.2, stream_size bytes ciphertext s, stream_announced bytes ciphertext s)
no_stream NotEncrypted bytes ciphertext h s = h.1 (stream_first bytes ciphertext s)
no_stream TooLong bytes ciphertext h s = omega (arith, h.1, s.few, stream_announced bytes ciphertext s)
no_stream Trailing bytes ciphertext h s = omega (arith, h.2, stream_size bytes ciphertext s, stream_announced bytes ciphertext s)
no_stream BadKey bytes ciphertext h s = h
no_stream WrongVersion bytes ciphertext h s = h
no_stream WrongTag bytes ciphertext h s = h
no_stream BadPadding bytes ciphertext h s = h
no_stream Memory bytes ciphertext h s = h

append_head : (a b x y : List ℕ) → length a ≡ length b → a ++ x ≡ b ++ y → x ≡ y
append_head [] [] x y size e = e
append_head [] (q ∷ b) x y size e = absurd (omega arith)
append_head (p ∷ a) [] x y size e = absurd (omega arith)
append_head (p ∷ a) (q ∷ b) x y size e =
    let tails : a ++ x ≡ b ++ y = cc in
    append_head a b x y (omega arith) tails

-- a stream has one content
pub one_inner : (bytes x y : List ℕ) → IsStream bytes x → IsStream bytes y → x ≡ y
one_inner bytes x y a b =
    append_head (head (length x)) (head (length y)) x y (length-head (length x) ∙ sym (length-head (length y))) (sym a.text ∙ b.text)

pub encryption_along : (key label x y message : List ℕ) → x ≡ y → Encryption key (head (length x) ++ label) x message
    → Encryption key (head (length y) ++ label) y message
encryption_along key label x y message e h = let P : List ℕ
    → Type 0 = λ i. Encryption key (head (length i) ++ label) i message in subst P e h

pub no_stream_message : (fault : CipherFault) (key label bytes message : List ℕ) → fault ≢ Memory → StreamCause fault key label bytes
    → ¬ StreamEncryption key label bytes message
no_stream_message fault key label bytes message other (inl h) s = no_stream fault bytes s.ciphertext h s.stream
no_stream_message fault key label bytes message other (inr h) s =
    let e = encryption_along key label s.ciphertext h.0 message (one_inner bytes s.ciphertext h.0 s.stream h.1) s.encryption in
    elim h.2 [
      | inl memory ↦ other memory
      | inr c ↦ no_message fault key (head (length h.0) ++ label) h.0 message other c e
    ]

pub lacking_stream : {A : Type 0} (r : Result A CipherFault) (key label bytes : List ℕ)
    → IfErr r (λ fault. StreamCause fault key label bytes)
    → IfErr r (λ fault. fault ≢ Memory → (message : List ℕ) → ¬ StreamEncryption key label bytes message)
lacking_stream (Ok x) key label bytes h = h
lacking_stream (Err fault) key label bytes h = λ other message. no_stream_message fault key label bytes message other h
