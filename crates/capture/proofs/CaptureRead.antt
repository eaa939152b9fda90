-- What is read of a capture to its end is the capture's text.
use Rattle.std.proofs.Common.{◌≡◌, ℕ, ◌+◌, ◌==◌, List, ◌++◌, length, true, Ok}
use Rattle.std.proofs.Common.{inl, inr, refl, sym, ap, ap₂, subst, ◌∙◌, append_assoc, arith}
use Rattle.std.specs.Prelude.{if◌then◌else◌}
use Rattle.std.proofs.lemmas.Bool.{eqb-true}
use Rattle.swim_pack.specs.Composing.{Reading, refuses}
use Rattle.capture.specs.declared.capture_fault.CaptureFault.TheVariants.{NotCapture}
use Rattle.capture.specs.declared.order.Order.{Order}
use Rattle.capture.specs.declared.order.Order.TheVariants.{Big, Little}
use Rattle.capture.specs.declared.pcap.Precision.{Precision}
use Rattle.capture.specs.declared.pcap.Precision.TheVariants.{Microseconds, Nanoseconds}
use Rattle.capture.specs.declared.stop.Stop.{Stop}
use Rattle.capture.specs.declared.stop.Stop.TheVariants.{Fault}
use Rattle.capture.specs.CaptureText.{CaptureText}
use Rattle.capture.specs.Captures.{CaptureState, begin_at, pcap_file, pcapng_file, new_section}
use Rattle.capture.specs.Pcap.{RecordText}
use Rattle.capture.specs.PcapText.{number_bytes, magic_of, file_bytes, PcapText, PcapText as pcaps}
use Rattle.capture.specs.Pcapng.{section_at}
use Rattle.capture.specs.PcapngText.{section_body, block_bytes, PcapngText, PcapngText as pcapngs}
use Rattle.capture.specs.PcapngText.IsSection.{header}
use Rattle.capture.specs.Taking.{field, next_part, next_header}
use Rattle.capture.specs.Whole.{AreBytes, ReadsWhole}
use Rattle.capture.proofs.Exact.{RestText, yields_text}
use Rattle.capture.proofs.Inverting.{parted, chosen, part_read, header_read}
use Rattle.capture.proofs.NumberBytes.{bytes_front, bytes_behind}
use Rattle.capture.proofs.PcapRead.{file_read}
use Rattle.capture.proofs.PcapText.{rest_bytes}
use Rattle.capture.proofs.PcapngBlocks.{joined}
use Rattle.capture.proofs.PcapngRead.{whole_number, section_read}
use Rattle.capture.proofs.PcapngText.{head_bytes}
use Rattle.capture.proofs.Prompting.{same_value, same_rest}
use Rattle.capture.proofs.Yielding.{whole_yields}

abbrev magic_4 : ℕ → Reading Stop CaptureState
magic_4 magic = if magic == 0x0a0d0d0a then pcapng_file else refuses (Fault NotCapture)

abbrev magic_3 : ℕ → Reading Stop CaptureState
magic_3 magic = if magic == 0x4d3cb2a1 then pcap_file Little Nanoseconds else magic_4 magic

abbrev magic_2 : ℕ → Reading Stop CaptureState
magic_2 magic = if magic == 0xa1b23c4d then pcap_file Big Nanoseconds else magic_3 magic

abbrev magic_1 : ℕ → Reading Stop CaptureState
magic_1 magic = if magic == 0xd4c3b2a1 then pcap_file Little Microseconds else magic_2 magic

-- records behind the start of a capture are those of the capture
record Begins (bytes : List ℕ) (at : CaptureState) (rest : List ℕ) : Type 0 where
  are : AreBytes rest
  text : (records : List RecordText) → RestText at rest records → CaptureText bytes records

file_apart : (order : Order) (precision : Precision) (minor reserved also_reserved snap link : ℕ) (rest : List ℕ)
    → number_bytes order 4 (magic_of precision) ++ (rest_bytes order minor reserved also_reserved snap link ++ rest)
    ≡ file_bytes order precision minor reserved also_reserved snap link ++ rest
file_apart Big precision minor reserved also_reserved snap link rest = refl
file_apart Little precision minor reserved also_reserved snap link rest = refl

pcap_begins : (order : Order) (precision : Precision) (bytes magic left : List ℕ) (at : CaptureState) (rest : List ℕ)
    → bytes ≡ magic ++ left → magic ≡ number_bytes order 4 (magic_of precision) → AreBytes left
    → pcap_file order precision left ≡ Ok (at, rest) → Begins bytes at rest
pcap_begins order precision bytes magic left at rest parts magic_is are e =
    let k = file_read order precision left at rest are e in
    let front = rest_bytes order k.minor k.reserved k.also_reserved k.snap k.link in
    let all : bytes ≡ file_bytes order precision k.minor k.reserved k.also_reserved k.snap k.link ++ rest =
    parts ∙ ap₂ (λ (a b : List ℕ). a ++ b) magic_is k.parts
    ∙ file_apart order precision k.minor k.reserved k.also_reserved k.snap k.link rest in
    subst (λ (s : CaptureState). Begins bytes s rest) k.state
    (record {
      are = bytes_behind front rest (subst AreBytes k.parts are);
      text = λ records behind. inl (subst (λ (b : List ℕ). PcapText b records) (sym all)
          (pcaps.file order precision k.minor k.reserved k.also_reserved k.snap k.link rest records k.low behind));
    })

kind_is : (order : Order) → number_bytes Big 4 0x0a0d0d0a ≡ number_bytes order 4 0x0a0d0d0a
kind_is Big = refl
kind_is Little = refl

pcapng_begins : (bytes magic left : List ℕ) (at : CaptureState) (rest : List ℕ) → bytes ≡ magic ++ left
    → magic ≡ number_bytes Big 4 0x0a0d0d0a → AreBytes left → pcapng_file left ≡ Ok (at, rest) → Begins bytes at rest
unfolding pcapng_file
pcapng_begins bytes magic left at rest parts magic_is are e =
    let p = parted (next_part 4) _ left at rest e in
    let claimed = part_read 4 left p.middle p.left p.front in
    let q = parted (section_at p.middle) _ p.left at rest p.back in
    let order = q.middle in
    let are_claimed : AreBytes p.middle = bytes_front p.middle p.left (subst AreBytes claimed.1 are) in
    let are_left : AreBytes p.left = bytes_behind p.middle p.left (subst AreBytes claimed.1 are) in
    let k = section_read order p.middle p.left q.left are_claimed claimed.0 are_left q.front in
    let body = section_body order k.minor k.size k.options in
    let total = 12 + length body in
    let front = block_bytes order 0x0a0d0d0a body in
    let over : q.left ≡ rest = same_rest (new_section order) at q.left rest q.back in
    let whole : bytes ≡ (magic ++ p.middle) ++ p.left =
    parts ∙ ap (λ (l : List ℕ). magic ++ l) claimed.1 ∙ sym (append_assoc magic p.middle p.left) in
    let head_is : magic ++ p.middle ≡ head_bytes order 0x0a0d0d0a total =
    ap₂ (λ (a b : List ℕ). a ++ b) (magic_is ∙ kind_is order) k.total in
    let all : bytes ≡ front ++ q.left =
    joined order 0x0a0d0d0a total body (magic ++ p.middle) p.left bytes q.left whole head_is k.parts refl in
    let tail = number_bytes order 4 total ++ q.left in
    let are_rest : AreBytes q.left =
    bytes_behind (number_bytes order 4 total) q.left (bytes_behind body tail (subst AreBytes k.parts are_left)) in
    subst (λ (s : CaptureState). Begins bytes s rest) (same_value (new_section order) at q.left rest q.back)
    (subst (λ (l : List ℕ). Begins bytes (new_section order) l) over
    (record {
      are = are_rest;
      text = λ records behind. inr (subst (λ (b : List ℕ). PcapngText b records) (sym all)
          (pcapngs.file order front q.left records (header k.minor k.size k.options k.body) behind));
    }))

begin_read : (bytes : List ℕ) (at : CaptureState) (rest : List ℕ) → AreBytes bytes → begin_at bytes ≡ Ok (at, rest) → Begins bytes at rest
unfolding begin_at
begin_read bytes at rest are e =
    let P = Begins bytes at rest in
    let p = parted (next_header 4) _ bytes at rest e in
    let front = header_read 4 bytes p.middle p.left (omega arith) p.front in
    let magic = field Big 0 4 p.middle in
    let are_magic : AreBytes p.middle = bytes_front p.middle p.left (subst AreBytes front.1 are) in
    let are_left : AreBytes p.left = bytes_behind p.middle p.left (subst AreBytes front.1 are) in
    let whole : p.middle ≡ number_bytes Big 4 magic = whole_number Big p.middle are_magic front.0 in
    let told : (n : ℕ) → (magic == n) ≡ true → p.middle ≡ number_bytes Big 4 n =
    λ n is. whole ∙ ap (number_bytes Big 4) (eqb-true magic n is) in
    chosen P (magic == 0xa1b2c3d4) (pcap_file Big Microseconds) (magic_1 magic) p.left rest at p.back
    (λ is more. pcap_begins Big Microseconds bytes p.middle p.left at rest front.1 (told 0xa1b2c3d4 is) are_left more)
    (λ n1 e1. chosen P (magic == 0xd4c3b2a1) (pcap_file Little Microseconds) (magic_2 magic) p.left rest at e1
    (λ is more. pcap_begins Little Microseconds bytes p.middle p.left at rest front.1 (told 0xd4c3b2a1 is) are_left more)
    (λ n2 e2. chosen P (magic == 0xa1b23c4d) (pcap_file Big Nanoseconds) (magic_3 magic) p.left rest at e2
    (λ is more. pcap_begins Big Nanoseconds bytes p.middle p.left at rest front.1 (told 0xa1b23c4d is) are_left more)
    (λ n3 e3. chosen P (magic == 0x4d3cb2a1) (pcap_file Little Nanoseconds) (magic_4 magic) p.left rest at e3
    (λ is more. pcap_begins Little Nanoseconds bytes p.middle p.left at rest front.1 (told 0x4d3cb2a1 is) are_left more)
    (λ n4 e4. chosen P (magic == 0x0a0d0d0a) pcapng_file (refuses (Fault NotCapture)) p.left rest at e4
    (λ is more. pcapng_begins bytes p.middle p.left at rest front.1 (told 0x0a0d0d0a is) are_left more)
    (λ n5 absent. absurd cc)))))

pub capture_text : (bytes : List ℕ) (records : List RecordText) → AreBytes bytes → ReadsWhole bytes records → CaptureText bytes records
capture_text bytes records are whole =
    let w = whole_yields bytes records whole in
    let b = begin_read bytes w.at w.rest are w.begins in
    b.text records (yields_text w.at w.rest records b.are w.yields)
