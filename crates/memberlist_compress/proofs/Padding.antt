-- The last bits in a byte.
use Rattle.std.proofs.Common.{◌≡◌, ℕ, ◌-◌, ◌<◌, List, [], ◌∷◌, ◌++◌, length, sym, ap, ◌∙◌, append_assoc, arith}
use Rattle.std.proofs.lemmas.List.{append-nil}
use Rattle.memberlist_wrap.specs.Bits.{bits, bits_of}
use Rattle.memberlist_wrap.proofs.Polynomials.{length-bits}
use Rattle.memberlist_compress.specs.Writing.{IsPadded}

pub bits_of-push : (bytes : List ℕ) (byte : ℕ) → bits_of (bytes ++ byte ∷ []) ≡ bits_of bytes ++ bits 8 byte
bits_of-push [] byte = append-nil (bits 8 byte)
bits_of-push (b ∷ bytes) byte =
    ap (λ (x : List ℕ). bits 8 b ++ x) (bits_of-push bytes byte) ∙ sym (append_assoc (bits 8 b) (bits_of bytes) (bits 8 byte))

pub pads_nothing : (bytes held after : List ℕ) → held ≡ [] → after ≡ bytes → IsPadded (bits_of bytes ++ held) after
pads_nothing bytes held after none same = record {
  padding = [];
  short = omega arith;
  is = ap bits_of same ∙ sym (append-nil (bits_of bytes)) ∙ ap (λ x. bits_of bytes ++ x) (sym none)
      ∙ sym (append-nil (bits_of bytes ++ held));
}

pub pads_byte : (bytes held after : List ℕ) (byte : ℕ) → length held < 8
    → (0 < length held) × (bits 8 byte ≡ held ++ bits (8 - length held) 0) → after ≡ bytes ++ byte ∷ []
    → IsPadded (bits_of bytes ++ held) after
pads_byte bytes held after byte few last more =
    let some = last.0 in record {
      padding = bits (8 - length held) 0;
      short = omega (arith, length-bits (8 - length held) 0);
      is = ap bits_of more ∙ bits_of-push bytes byte ∙ ap (λ x. bits_of bytes ++ x) last.1
          ∙ sym (append_assoc (bits_of bytes) held (bits (8 - length held) 0));
    }
