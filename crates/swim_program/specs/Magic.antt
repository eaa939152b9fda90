-- The first bytes of captures.
use Rattle.std.specs.Prelude.{◌≡◌, ◌≤◌, ◌⊎◌, ℕ, List, length, slice_index}

abbrev pub AreBytes : (a b c d w x y z : ℕ) → Type 0
AreBytes a b c d w x y z = (a ≡ w) × (b ≡ x) × (c ≡ y) × (d ≡ z)

-- the magic number of pcap, in both byte orders, with microseconds and with nanoseconds; and the
-- type of the first block of pcapng
abbrev pub IsCaptureMagic : (a b c d : ℕ) → Type 0
IsCaptureMagic a b c d =
    AreBytes a b c d 0xa1 0xb2 0xc3 0xd4
    ⊎ AreBytes a b c d 0xd4 0xc3 0xb2 0xa1
    ⊎ AreBytes a b c d 0xa1 0xb2 0x3c 0x4d
    ⊎ AreBytes a b c d 0x4d 0x3c 0xb2 0xa1
    ⊎ AreBytes a b c d 0x0a 0x0d 0x0d 0x0a

abbrev pub BeginsAsCapture : List ℕ → Type 0
BeginsAsCapture bytes =
    (4 ≤ length bytes) × IsCaptureMagic (slice_index bytes 0) (slice_index bytes 1)
    (slice_index bytes 2) (slice_index bytes 3)
