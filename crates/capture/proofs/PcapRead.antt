-- What is read of a file of pcap is its text.
use Rattle.std.proofs.Common.{◌≡◌, ℕ, ◌^◌, ◌<◌, ◌≤◌, List, ◌++◌, length, drop, Ok}
use Rattle.std.proofs.Common.{refl, sym, ap, ap₂, subst, ◌∙◌, append-nil, arith}
use Rattle.std.proofs.lemmas.List.{drop_all}
use Rattle.capture.specs.declared.order.Order.{Order}
use Rattle.capture.specs.declared.order.Order.TheVariants.{Big, Little}
use Rattle.capture.specs.declared.pcap.Pcap.{Pcap}
use Rattle.capture.specs.declared.pcap.Precision.{Precision}
use Rattle.capture.specs.Captures.{CaptureState, pcap_file}
use Rattle.capture.specs.Captures.CaptureState.{pcap}
use Rattle.capture.specs.Pcap.{RecordText, pcap_behind, pcap_record}
use Rattle.capture.specs.PcapText.{number_bytes, packet_bytes, packet_record}
use Rattle.capture.specs.Taking.{field, next_part, next_header, captured_at, checked_version}
use Rattle.capture.specs.Whole.{AreBytes}
use Rattle.capture.proofs.Inverting.{parted, part_read, header_read, captured_read, version_read}
use Rattle.capture.proofs.NumberBytes.{part_written, front_written, number_low, bytes_drop, bytes_front}
use Rattle.capture.proofs.PcapText.{four_bytes, four_apart, rest_bytes, made}
use Rattle.capture.proofs.Prompting.{same_value, same_rest}

four_right : (order : Order) (a b c d : ℕ)
    → number_bytes order 4 a ++ (number_bytes order 4 b ++ (number_bytes order 4 c ++ number_bytes order 4 d)) ≡ four_bytes order a b c d
four_right Big a b c d = refl
four_right Little a b c d = refl

pub four_written : (order : Order) (h : List ℕ) → AreBytes h → length h ≡ 16
    → h ≡ four_bytes order (field order 0 4 h) (field order 4 4 h) (field order 8 4 h) (field order 12 4 h)
four_written order h are long =
    let last : drop 12 h ≡ number_bytes order 4 (field order 12 4 h) =
    part_written order 12 4 h are (omega (arith, long))
    ∙ ap (λ (l : List ℕ). number_bytes order 4 (field order 12 4 h) ++ l) (drop_all 16 h (omega (arith, long)))
    ∙ append-nil (number_bytes order 4 (field order 12 4 h)) in
    front_written order 4 h are (omega (arith, long))
    ∙ ap (λ (l : List ℕ). number_bytes order 4 (field order 0 4 h) ++ l) (part_written order 4 4 h are (omega (arith, long))
    ∙ ap (λ (l : List ℕ). number_bytes order 4 (field order 4 4 h) ++ l) (part_written order 8 4 h are (omega (arith, long))
    ∙ ap (λ (l : List ℕ). number_bytes order 4 (field order 8 4 h) ++ l) last))
    ∙ four_right order (field order 0 4 h) (field order 4 4 h) (field order 8 4 h) (field order 12 4 h)

-- a packet's record, and the bytes of it
pub record IsPacket (f : Pcap) (bytes : List ℕ) (r : RecordText) (rest : List ℕ) : Type 0 where
  pub seconds : ℕ
  pub fraction : ℕ
  pub original : ℕ
  pub captured : List ℕ
  pub low : (seconds < 2 ^ 32) × (fraction < 2 ^ 32) × (original < 2 ^ 32) × (length captured ≤ 262144)
  pub bytes_are : bytes ≡ packet_bytes f.order seconds fraction original captured ++ rest
  pub is : r ≡ packet_record f seconds fraction original captured

pub record_read : (f : Pcap) (bytes rest : List ℕ) (r : RecordText) → AreBytes bytes → pcap_record f bytes ≡ Ok (r, rest)
    → IsPacket f bytes r rest
unfolding pcap_record
record_read f bytes rest r are e =
    let p = parted (next_header 16) _ bytes r rest e in
    let header = p.middle in
    let front = header_read 16 bytes header p.left (omega arith) p.front in
    let q = parted (captured_at (field f.order 8 4 header)) _ p.left r rest p.back in
    let body = captured_read (field f.order 8 4 header) p.left q.middle q.left q.front in
    let few : field f.order 8 4 header ≤ 262144 = body.0 in
    let are_header : AreBytes header = bytes_front header p.left (subst AreBytes front.1 are) in
    let order = f.order in
    let s = field order 0 4 header in
    let n = field order 4 4 header in
    let o = field order 12 4 header in
    let left : q.left ≡ rest = same_rest _ r q.left rest q.back in
    let written : header ≡ four_bytes order s n (length q.middle) o =
    four_written order header are_header front.0 ∙ ap (λ k. four_bytes order s n k o) (sym body.1) in
    record {
      seconds = s;
      fraction = n;
      original = o;
      captured = q.middle;
      low = (
        number_low order 4 (drop 0 header) (bytes_drop 0 header are_header),
        number_low order 4 (drop 4 header) (bytes_drop 4 header are_header),
        number_low order 4 (drop 12 header) (bytes_drop 12 header are_header),
        omega (arith, body.0, body.1),
      );
      bytes_are = front.1 ∙ ap (λ (l : List ℕ). l ++ p.left) written
          ∙ ap (λ (l : List ℕ). four_bytes order s n (length q.middle) o ++ l) (body.2 ∙ ap (λ (l : List ℕ). q.middle ++ l) left)
          ∙ sym (four_apart order s n (length q.middle) o q.middle rest);
      is = sym (same_value _ r q.left rest q.back);
    }

-- ---- the file

rest_right : (order : Order) (version minor reserved also_reserved snap link : ℕ)
    → number_bytes order 2 version ++ (number_bytes order 2 minor ++ (number_bytes order 4 reserved
    ++ (number_bytes order 4 also_reserved ++ (number_bytes order 4 snap ++ number_bytes order 4 link))))
    ≡ number_bytes order 2 version ++ number_bytes order 2 minor ++ number_bytes order 4 reserved
    ++ number_bytes order 4 also_reserved ++ number_bytes order 4 snap ++ number_bytes order 4 link
rest_right Big version minor reserved also_reserved snap link = refl
rest_right Little version minor reserved also_reserved snap link = refl

rest_written : (order : Order) (b : List ℕ) → AreBytes b → length b ≡ 20 → field order 0 2 b ≡ 2
    → b ≡ rest_bytes order (field order 2 2 b) (field order 4 4 b) (field order 8 4 b) (field order 12 4 b) (field order 16 4 b)
rest_written order b are long two =
    let minor = field order 2 2 b in
    let reserved = field order 4 4 b in
    let also_reserved = field order 8 4 b in
    let snap = field order 12 4 b in
    let link = field order 16 4 b in
    let last : drop 16 b ≡ number_bytes order 4 link =
    part_written order 16 4 b are (omega (arith, long))
    ∙ ap (λ (l : List ℕ). number_bytes order 4 link ++ l) (drop_all 20 b (omega (arith, long)))
    ∙ append-nil (number_bytes order 4 link) in
    front_written order 2 b are (omega (arith, long))
    ∙ ap (λ (l : List ℕ). number_bytes order 2 (field order 0 2 b) ++ l) (part_written order 2 2 b are (omega (arith, long))
    ∙ ap (λ (l : List ℕ). number_bytes order 2 minor ++ l) (part_written order 4 4 b are (omega (arith, long))
    ∙ ap (λ (l : List ℕ). number_bytes order 4 reserved ++ l) (part_written order 8 4 b are (omega (arith, long))
    ∙ ap (λ (l : List ℕ). number_bytes order 4 also_reserved ++ l) (part_written order 12 4 b are (omega (arith, long))
    ∙ ap (λ (l : List ℕ). number_bytes order 4 snap ++ l) last))))
    ∙ rest_right order (field order 0 2 b) minor reserved also_reserved snap link
    ∙ ap (λ n. number_bytes order 2 n ++ number_bytes order 2 minor ++ number_bytes order 4 reserved
    ++ number_bytes order 4 also_reserved ++ number_bytes order 4 snap ++ number_bytes order 4 link) two

pub record IsFile (order : Order) (precision : Precision) (bytes : List ℕ) (at : CaptureState) (rest : List ℕ) : Type 0 where
  pub minor : ℕ
  pub reserved : ℕ
  pub also_reserved : ℕ
  pub snap : ℕ
  pub link : ℕ
  pub low : link < 2 ^ 32
  pub state : pcap (made order precision link) ≡ at
  pub parts : bytes ≡ rest_bytes order minor reserved also_reserved snap link ++ rest

pub file_read : (order : Order) (precision : Precision) (bytes : List ℕ) (at : CaptureState) (rest : List ℕ) → AreBytes bytes
    → pcap_file order precision bytes ≡ Ok (at, rest) → IsFile order precision bytes at rest
unfolding pcap_file pcap_behind
file_read order precision bytes at rest are e =
    let p = parted (pcap_behind order precision) _ bytes at rest e in
    let h = parted (next_part 20) _ bytes p.middle p.left p.front in
    let b = h.middle in
    let front = part_read 20 bytes b h.left h.front in
    let v = parted (checked_version 2 (field order 0 2 b)) _ h.left p.middle p.left h.back in
    let two = version_read 2 (field order 0 2 b) h.left v.left v.front in
    let are_b : AreBytes b = bytes_front b h.left (subst AreBytes front.1 are) in
    let link = field order 16 4 b in
    let made_is : made order precision link ≡ p.middle = same_value (made order precision link) p.middle v.left p.left v.back in
    let over : h.left ≡ rest =
    two.1 ∙ same_rest (made order precision link) p.middle v.left p.left v.back ∙ same_rest (pcap p.middle) at p.left rest p.back in
    record {
      minor = field order 2 2 b;
      reserved = field order 4 4 b;
      also_reserved = field order 8 4 b;
      snap = field order 12 4 b;
      link = link;
      low = number_low order 4 (drop 16 b) (bytes_drop 16 b are_b);
      state = ap pcap made_is ∙ same_value (pcap p.middle) at p.left rest p.back;
      parts = front.1 ∙ ap₂ (λ (x y : List ℕ). x ++ y) (rest_written order b are_b front.0 two.0) over;
    }
