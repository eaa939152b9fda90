-- What a keyring opens: a packet or a stream that was encrypted under one of its keys.
use Rattle.std.specs.Prelude.{◌≡◌, List, ◌∷◌, ◌++◌, ℕ}
use Rattle.std.specs.List.{Contains}
use Rattle.memberlist_cipher.specs.Encryption.{Encryption, StreamEncryption}
use Rattle.memberlist_cipher.specs.Label.{IsLabelled}

-- After their label the bytes encrypt the message under one of the keys, by the cipher's
-- definition of a packet or of a stream.
pub record OpensAs (Encrypts : List ℕ → List ℕ → List ℕ → List ℕ → Type 0) (keys : List (List ℕ))
    (bytes message : List ℕ) : Type 0 where
  pub label : List ℕ
  pub rest : List ℕ
  pub labelled : IsLabelled bytes label rest
  pub key : List ℕ
  pub ours : Contains keys key
  pub encryption : Encrypts key label rest message

-- After its label, the packet is an encryption of this message under one of the keys; the label is
-- authenticated.
abbrev pub Opens : List (List ℕ) → List ℕ → List ℕ → Type 0
Opens keys bytes message = OpensAs Encryption keys bytes message

-- After its label, the stream is an encrypted stream with this message under one of the keys.
abbrev pub OpensStream : List (List ℕ) → List ℕ → List ℕ → Type 0
OpensStream keys bytes message = OpensAs StreamEncryption keys bytes message

-- The message is that of the first key that decrypts it.
pub record IsFirst (Opened : List ℕ → List ℕ → Type 0) (keys : List (List ℕ)) (message : List ℕ)
    : Type 0 where
  pub before : List (List ℕ)
  pub key : List ℕ
  pub after : List (List ℕ)
  pub parts : keys ≡ before ++ key ∷ after
  pub earlier : (k : List ℕ) → Contains before k → (m : List ℕ) → ¬ Opened k m
  pub opened : Opened key message

-- After their label the bytes encrypt the message under the first key under which they encrypt any.
pub record OpensFirstAs (Encrypts : List ℕ → List ℕ → List ℕ → List ℕ → Type 0)
    (keys : List (List ℕ)) (bytes message : List ℕ) : Type 0 where
  pub label : List ℕ
  pub rest : List ℕ
  pub labelled : IsLabelled bytes label rest
  pub first : IsFirst (λ key m. Encrypts key label rest m) keys message

-- the message of a packet, under the first key that decrypts it
abbrev pub OpensFirst : List (List ℕ) → List ℕ → List ℕ → Type 0
OpensFirst keys bytes message = OpensFirstAs Encryption keys bytes message

-- the same of a stream
abbrev pub OpensStreamFirst : List (List ℕ) → List ℕ → List ℕ → Type 0
OpensStreamFirst keys bytes message = OpensFirstAs StreamEncryption keys bytes message

-- after this label, or from the start if it is empty, the bytes are a stream of the message
abbrev pub OpensReplyFirst : List (List ℕ) → List ℕ → List ℕ → List ℕ → Type 0
OpensReplyFirst keys label bytes message =
    (stream : List ℕ) × IsLabelled stream label bytes × OpensStreamFirst keys stream message
