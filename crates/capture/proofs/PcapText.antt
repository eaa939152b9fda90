-- Files of pcap are read back.
use Rattle.std.proofs.Common.{◌≡◌, ℕ, ◌-◌, ◌%◌, ◌^◌, ◌<◌, ◌≤◌, false, nat_lt, List, [], ◌∷◌, ◌++◌, length, Ok}
use Rattle.std.proofs.Common.{refl, arith}
use Rattle.std.proofs.lemmas.Bool.{le-ltb}
use Rattle.capture.specs.declared.order.Order.{Order}
use Rattle.capture.specs.declared.order.Order.TheVariants.{Big, Little}
use Rattle.capture.specs.declared.pcap.Pcap.{Pcap}
use Rattle.capture.specs.declared.pcap.Precision.{Precision}
use Rattle.capture.specs.declared.pcap.Precision.TheVariants.{Microseconds, Nanoseconds}
use Rattle.capture.specs.Captures.{begin_at, pcap_file, step_at}
use Rattle.capture.specs.Captures.CaptureState.{pcap}
use Rattle.capture.specs.Pcap.{RecordText, pcap_behind, pcap_record}
use Rattle.capture.specs.PcapText.{number_bytes, file_bytes, packet_bytes, packet_record, PacketsText, PcapText}
use Rattle.capture.specs.PcapText.PacketsText.{nothing, packet}
use Rattle.capture.specs.PcapText.PcapText.{file}
use Rattle.capture.specs.Taking.{field, next_header, captured_at}
use Rattle.capture.specs.Whole.{ReadsRecords, ReadsWhole, holding}
use Rattle.capture.proofs.NumberBytes.{number_back}
use Rattle.capture.proofs.Parts.{next_part-whole}
use Rattle.capture.proofs.Whole.{here, stop, find, begun}

-- a header that is there
pub header_whole : (n : ℕ) (text rest : List ℕ) → length text ≡ n → 0 < n → next_header n (text ++ rest) ≡ Ok (text, rest)
unfolding next_header
header_whole n [] rest long some = absurd (omega (arith, long, some))
header_whole n (x ∷ text) rest long some = rw (next_part-whole (n - 1) text rest (omega (arith, long))) refl

-- captured bytes that are there
pub captured_whole : (bytes rest : List ℕ) → length bytes ≤ 262144 → captured_at (length bytes) (bytes ++ rest) ≡ Ok (bytes, rest)
unfolding captured_at
captured_whole bytes rest few =
    let e : nat_lt 262144 (length bytes) ≡ false = le-ltb _ _ few in
    rw (e, next_part-whole (length bytes) bytes rest refl) refl

-- ---- a packet

-- four numbers of 4 bytes
abbrev pub four_bytes : Order → ℕ → ℕ → ℕ → ℕ → List ℕ
four_bytes order a b c d = number_bytes order 4 a ++ number_bytes order 4 b ++ number_bytes order 4 c ++ number_bytes order 4 d

pub four_len : (order : Order) (a b c d : ℕ) → length (four_bytes order a b c d) ≡ 16
four_len Big a b c d = refl
four_len Little a b c d = refl

pub four_apart : (order : Order) (a b c d : ℕ) (bytes rest : List ℕ)
    → (number_bytes order 4 a ++ number_bytes order 4 b ++ number_bytes order 4 c ++ number_bytes order 4 d ++ bytes) ++ rest
    ≡ four_bytes order a b c d ++ (bytes ++ rest)
four_apart Big a b c d bytes rest = refl
four_apart Little a b c d bytes rest = refl

abbrev FourAre : Order → ℕ → ℕ → ℕ → ℕ → Type 0
FourAre order a b c d = (field order 0 4 (four_bytes order a b c d) ≡ a) × (field order 4 4 (four_bytes order a b c d) ≡ b)
    × (field order 8 4 (four_bytes order a b c d) ≡ c) × (field order 12 4 (four_bytes order a b c d) ≡ d)

four_are : (order : Order) (a b c d : ℕ) → a < 2 ^ 32 → b < 2 ^ 32 → c < 2 ^ 32 → d < 2 ^ 32 → FourAre order a b c d
four_are Big a b c d ha hb hc hd = (
  number_back Big 4 a (number_bytes Big 4 b ++ number_bytes Big 4 c ++ number_bytes Big 4 d) ha,
  number_back Big 4 b (number_bytes Big 4 c ++ number_bytes Big 4 d) hb,
  number_back Big 4 c (number_bytes Big 4 d) hc,
  number_back Big 4 d [] hd,
)
four_are Little a b c d ha hb hc hd = (
  number_back Little 4 a (number_bytes Little 4 b ++ number_bytes Little 4 c ++ number_bytes Little 4 d) ha,
  number_back Little 4 b (number_bytes Little 4 c ++ number_bytes Little 4 d) hb,
  number_back Little 4 c (number_bytes Little 4 d) hc,
  number_back Little 4 d [] hd,
)

packet_back : (f : Pcap) (seconds fraction original : ℕ) (captured more : List ℕ)
    → seconds < 2 ^ 32 → fraction < 2 ^ 32 → original < 2 ^ 32 → length captured ≤ 262144
    → pcap_record f (packet_bytes f.order seconds fraction original captured ++ more)
    ≡ Ok (packet_record f seconds fraction original captured, more)
unfolding pcap_record
packet_back f seconds fraction original captured more hs hf ho few =
    let header = four_bytes f.order seconds fraction (length captured) original in
    let are = four_are f.order seconds fraction (length captured) original hs hf (omega (arith, few)) ho in
    rw (
      four_apart f.order seconds fraction (length captured) original captured more,
      header_whole 16 header (captured ++ more) (four_len f.order seconds fraction (length captured) original) (omega arith),
      are.2,
      captured_whole captured more few,
      are.0,
      are.1,
      are.3,
    ) refl

packets_read : (f : Pcap) (bytes : List ℕ) (records : List RecordText) → PacketsText f bytes records
    → ReadsRecords (pcap f) (holding bytes) records
unfolding step_at pcap_record next_header
packets_read f bytes records nothing = stop (pcap f) (here (pcap f) []) refl
packets_read f bytes records (packet seconds fraction original captured more behind hs hf ho few text) =
    let now = packet_bytes f.order seconds fraction original captured ++ more in
    find (pcap f) (pcap f) now more (packet_record f seconds fraction original captured) (here (pcap f) now)
    (rw (packet_back f seconds fraction original captured more hs hf ho few) refl)
    (packets_read f more behind text)

-- ---- the file

abbrev pub rest_bytes : Order → ℕ → ℕ → ℕ → ℕ → ℕ → List ℕ
rest_bytes order minor reserved also_reserved snap link = number_bytes order 2 2 ++ number_bytes order 2 minor
    ++ number_bytes order 4 reserved ++ number_bytes order 4 also_reserved ++ number_bytes order 4 snap ++ number_bytes order 4 link

abbrev pub made : Order → Precision → ℕ → Pcap
made order precision link = record { order = order; precision = precision; link = link % 65536 }

rest_len : (order : Order) (minor reserved also_reserved snap link : ℕ)
    → length (rest_bytes order minor reserved also_reserved snap link) ≡ 20
rest_len Big minor reserved also_reserved snap link = refl
rest_len Little minor reserved also_reserved snap link = refl

rest_version : (order : Order) (minor reserved also_reserved snap link : ℕ)
    → field order 0 2 (rest_bytes order minor reserved also_reserved snap link) ≡ 2
rest_version Big minor reserved also_reserved snap link = refl
rest_version Little minor reserved also_reserved snap link = refl

rest_link : (order : Order) (minor reserved also_reserved snap link : ℕ) → link < 2 ^ 32
    → field order 16 4 (rest_bytes order minor reserved also_reserved snap link) ≡ link
rest_link Big minor reserved also_reserved snap link low = number_back Big 4 link [] low
rest_link Little minor reserved also_reserved snap link low = number_back Little 4 link [] low

behind_back : (order : Order) (precision : Precision) (minor reserved also_reserved snap link : ℕ) (bytes : List ℕ) → link < 2 ^ 32
    → pcap_file order precision (rest_bytes order minor reserved also_reserved snap link ++ bytes)
    ≡ Ok (pcap (made order precision link), bytes)
unfolding pcap_file pcap_behind
behind_back order precision minor reserved also_reserved snap link bytes low =
    let header = rest_bytes order minor reserved also_reserved snap link in
    rw (
      next_part-whole 20 header bytes (rest_len order minor reserved also_reserved snap link),
      rest_version order minor reserved also_reserved snap link,
      rest_link order minor reserved also_reserved snap link low,
    ) refl

file_back : (order : Order) (precision : Precision) (minor reserved also_reserved snap link : ℕ) (bytes : List ℕ) → link < 2 ^ 32
    → begin_at (file_bytes order precision minor reserved also_reserved snap link ++ bytes)
    ≡ Ok (pcap (made order precision link), bytes)
unfolding begin_at
file_back Big Microseconds minor reserved also_reserved snap link bytes low =
    rw (header_whole 4 (0xa1 ∷ 0xb2 ∷ 0xc3 ∷ 0xd4 ∷ []) (rest_bytes Big minor reserved also_reserved snap link ++ bytes) refl (omega arith))
    (behind_back Big Microseconds minor reserved also_reserved snap link bytes low)
file_back Little Microseconds minor reserved also_reserved snap link bytes low =
    rw (header_whole 4 (0xd4 ∷ 0xc3 ∷ 0xb2 ∷ 0xa1 ∷ []) (rest_bytes Little minor reserved also_reserved snap link ++ bytes) refl
    (omega arith))
    (behind_back Little Microseconds minor reserved also_reserved snap link bytes low)
file_back Big Nanoseconds minor reserved also_reserved snap link bytes low =
    rw (header_whole 4 (0xa1 ∷ 0xb2 ∷ 0x3c ∷ 0x4d ∷ []) (rest_bytes Big minor reserved also_reserved snap link ++ bytes) refl (omega arith))
    (behind_back Big Nanoseconds minor reserved also_reserved snap link bytes low)
file_back Little Nanoseconds minor reserved also_reserved snap link bytes low =
    rw (header_whole 4 (0x4d ∷ 0x3c ∷ 0xb2 ∷ 0xa1 ∷ []) (rest_bytes Little minor reserved also_reserved snap link ++ bytes) refl
    (omega arith))
    (behind_back Little Nanoseconds minor reserved also_reserved snap link bytes low)

pub pcap_back : (bytes : List ℕ) (records : List RecordText) → PcapText bytes records → ReadsWhole bytes records
pcap_back bytes records (file order precision minor reserved also_reserved snap link rest behind low text) =
    begun (pcap (made order precision link)) (file_bytes order precision minor reserved also_reserved snap link ++ rest) rest
    (file_back order precision minor reserved also_reserved snap link rest low)
    (packets_read (made order precision link) rest behind text)
