-- No message is a proper prefix of another of its kind, and each has one value.
use Rattle.std.proofs.Common.{◌≡◌, ℕ, false, cond, eqb, List, [], ◌∷◌, ◌++◌, length, flat_map, Err, refl, sym, ap, subst, ◌∙◌, append_assoc}
use Rattle.std.proofs.lemmas.List.{append_cancel_right}
use Rattle.std.specs.Int.{w16, to_be_bytes}
use Rattle.swim_claim.specs.declared.claim.Claim.{Claim}
use Rattle.swim_pack.specs.Composing.{then_read, ◌>>=◌, gives}
use Rattle.swim_wire.specs.declared.fault.WireFault.TheVariants.{Ended}
use Rattle.swim_wire.specs.declared.stream.Header.{Header}
use Rattle.swim_wire.specs.Datagrams.{compound_at}
use Rattle.swim_wire.specs.Packet.{PacketValue}
use Rattle.swim_wire.specs.Reading.{Reading, packet_at, header_at, state_at}
use Rattle.swim_wire.specs.Texts.{PacketText, HeaderText, StateText, DatagramText}
use Rattle.swim_wire.specs.Texts.DatagramText.{packet, compound}
use Rattle.swim_wire.proofs.Readings.{read, read_value, read_rest}
use Rattle.swim_wire.proofs.PacketTexts.{packet_again}
use Rattle.swim_wire.proofs.StreamTexts.{header_again, state_again}
use Rattle.swim_wire.proofs.DatagramTexts.{begins, compound_again}

-- two texts that one reading consumes are the same
same_text : {A : Type 0} (reading : Reading A) (a b x y : List ℕ) (v w : A) → reading (a ++ x) ≡ read v x → reading
    (b ++ y) ≡ read w y → a ++ x ≡ b ++ y → (a ≡ b) × (v ≡ w)
same_text reading a b x y v w p q e =
    let both : read v x ≡ read w y = sym p ∙ ap reading e ∙ q in
    let rest = read_rest v w x y both in
    (append_cancel_right a b y (subst (λ z. a ++ z ≡ b ++ y) rest e), read_value v w x y both)

pub packet_one : (a b x y : List ℕ) (p q : PacketValue) → PacketText a p → PacketText b q → a ++ x ≡ b ++ y → (a ≡ b) × (p ≡ q)
packet_one a b x y p q s t e = same_text packet_at a b x y p q (packet_again a x p s) (packet_again b y q t) e

pub header_one : (a b x y : List ℕ) (g h : Header) → HeaderText a g → HeaderText b h → a ++ x ≡ b ++ y → (a ≡ b) × (g ≡ h)
header_one a b x y g h s t e = same_text header_at a b x y g h (header_again a x g s) (header_again b y h t) e

pub state_one : (a b x y : List ℕ) (c d : Claim) → StateText a c → StateText b d → a ++ x ≡ b ++ y → (a ≡ b) × (c ≡ d)
state_one a b x y c d s t e = same_text state_at a b x y c d (state_again a x c s) (state_again b y d t) e

-- a datagram at the start of the bytes
abbrev one_more : Reading PacketValue → Reading (List PacketValue)
one_more reading = reading >>= (λ p. gives (p ∷ []))

abbrev datagram_at : Reading (List PacketValue)
datagram_at [] = Err Ended
datagram_at (first ∷ bytes) = cond (eqb first 7) (compound_at bytes) (one_more packet_at (first ∷ bytes))

no_compound : (first : ℕ) (bytes : List ℕ) → eqb first 7 ≡ false → datagram_at (first ∷ bytes) ≡ one_more packet_at (first ∷ bytes)
no_compound first bytes t = rw t refl

datagram_again_at : (b rest : List ℕ) (packets : List PacketValue) → DatagramText b packets → datagram_at (b ++ rest) ≡ read packets rest
datagram_again_at b rest packets (packet p text is) =
    let t = begins b p text in
    ap (λ (bytes : List ℕ). datagram_at (bytes ++ rest)) t.2 ∙ no_compound t.0 (t.1 ++ rest) t.3
    ∙ ap (λ (bytes : List ℕ). one_more packet_at (bytes ++ rest)) (sym t.2)
    ∙ ap (then_read (λ q. gives (q ∷ []))) (packet_again b rest p text) ∙ ap (λ (ps : List PacketValue). read ps rest) (sym is)
datagram_again_at b rest packets (compound parts few short is texts) =
    let again = compound_again parts packets rest short texts in
    rw (is, append_assoc (flat_map (λ part. to_be_bytes w16 (length part)) parts) (flat_map (λ part. part) parts) rest) again

pub datagram_one : (a b x y : List ℕ) (packets others : List PacketValue) → DatagramText a packets → DatagramText b others
    → a ++ x ≡ b ++ y → (a ≡ b) × (packets ≡ others)
datagram_one a b x y packets others s t e = same_text datagram_at a b x y packets others
    (datagram_again_at a x packets s) (datagram_again_at b y others t) e
