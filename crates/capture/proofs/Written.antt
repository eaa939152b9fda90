-- What was written is read back.
use Rattle.std.proofs.Common.{◌≡◌, ◌≢◌, ◌⊎◌, inl, inr, ℕ, ◌+◌, ◌-◌, ◌*◌, ◌/◌, ◌%◌, ◌^◌, ◌<◌, ◌≤◌, ◌==◌, true, false, nat_lt, eqb}
use Rattle.std.proofs.Common.{List, [], ◌∷◌, ◌++◌, length, take, drop, refl, sym, ap, ◌∙◌, arith, append_assoc, length-append}
use Rattle.std.specs.Prelude.{None, Ok, Err, ◌||◌}
use Rattle.std.proofs.Math.Seq.{take-append_seam, take-length, drop-append_seam, drop-append-add}
use Rattle.std.proofs.lemmas.Bool.{lt-ltb, le-ltb, ne_eqb}
use Rattle.std.proofs.lemmas.Bool.Decides.{nat_tests}
use Rattle.std.proofs.lemmas.List.{take_at, drop_at}
use Rattle.byteorder.specs.Endian.{big_bytes}
use Rattle.byteorder.specs.Numbers.{big_number-reads_back}
use Rattle.capture.specs.declared.fault.NotCarried.TheVariants.{Fragment}
use Rattle.capture.specs.declared.link.Link.{Link}
use Rattle.capture.specs.declared.link.Link.TheVariants.{Ethernet, Raw, Cooked, Cooked2, Loopback}
use Rattle.capture.specs.declared.network.Version.{Version}
use Rattle.capture.specs.declared.network.Version.TheVariants.{Ip4, Ip6, Either}
use Rattle.capture.specs.Packets.{field, byte, udp_of, tcp_of, ip4_of, ip6_of}
use Rattle.capture.specs.Packets.{ip_of, packet_in, behind_type, version_of, is_tag, transport_of}
use Rattle.capture.specs.Packets.{is_extension, extension_len, is_ip6_fragment, behind_extensions, IpText}
use Rattle.capture.specs.Packets.{TransportText, udp, tcp, carried_of, plain_of}
use Rattle.capture.specs.Written.{udp_bytes, tcp_bytes, Family, ip4_bytes}
use Rattle.capture.specs.Written.{FitsFour, ip6_bytes, HasOptions, ExtensionsText, ExtensionsText as ext}
use Rattle.capture.specs.Written.{PacketText, PacketText as packets, FragmentText, FragmentText as fragments, IsTag, TypeText, FrameText}
use Rattle.capture.specs.Written.{DatagramReadBack, SegmentReadBack, FragmentRefused}
use Rattle.capture.specs.Written.Family.{four, six}
use Rattle.capture.specs.Written.TypeText.{untagged, tagged}
use Rattle.capture.specs.Written.FrameText.{ethernet, cooked, cooked_2, raw}
use Rattle.capture.proofs.Stepping.{type_found, tag_step, extension_none, extension_step, extension_divides}

-- a datagram
pub udp_back : (source destination sum : ℕ) (payload : List ℕ) → source < 2 ^ 16 → destination < 2 ^ 16
    → 8 + length payload < 2 ^ 16
    → udp_of (udp_bytes source destination sum payload)
    ≡ Ok (record { source = source; destination = destination; payload = payload })
unfolding udp_of
udp_back source destination sum payload small low short =
    let bytes = udp_bytes source destination sum payload in
    let from : field 0 2 bytes ≡ source =
    big_number-reads_back 2 source (big_bytes 2 destination ++ big_bytes 2 (8 + length payload) ++ big_bytes 2 sum ++ payload) small in
    let to : field 2 2 bytes ≡ destination =
    big_number-reads_back 2 destination (big_bytes 2 (8 + length payload) ++ big_bytes 2 sum ++ payload) low in
    let size : field 4 2 bytes ≡ 8 + length payload =
    big_number-reads_back 2 (8 + length payload) (big_bytes 2 sum ++ payload) short in
    let long : nat_lt (length bytes) 8 ≡ false = le-ltb (length bytes) 8 (omega arith) in
    let header : nat_lt (8 + length payload) 8 ≡ false = le-ltb (8 + length payload) 8 (omega arith) in
    let all : nat_lt (length bytes) (8 + length payload) ≡ false = le-ltb (length bytes) (8 + length payload) (omega arith) in
    let count : (8 + length payload) - 8 ≡ length payload = omega arith in
    let rest : take (length payload) payload ≡ payload = take-length payload in
    rw (long, size, header, all, from, to, count, rest) refl

-- a segment
pub tcp_back : (source destination seq ack words flags window sum urgent : ℕ) (options payload : List ℕ)
    → source < 2 ^ 16 → destination < 2 ^ 16 → seq < 2 ^ 32 → 4 * words ≡ 20 + length options
    → tcp_of (tcp_bytes source destination seq ack words flags window sum urgent options payload)
    ≡ Ok (record {
      source = source;
      destination = destination;
      seq = seq;
      syn = flags / 2 % 2 == 1;
      fin = flags % 2 == 1;
      psh = flags / 8 % 2 == 1;
      rst = flags / 4 % 2 == 1;
      payload = payload;
    })
unfolding tcp_of
tcp_back source destination seq ack words flags window sum urgent options payload small low fits words_is =
    let bytes = tcp_bytes source destination seq ack words flags window sum urgent options payload in
    let behind = big_bytes 4 ack ++ (words * 16 ∷ flags ∷ []) ++ big_bytes 2 window ++ big_bytes 2 sum
    ++ big_bytes 2 urgent ++ options ++ payload in
    let from : field 0 2 bytes ≡ source = big_number-reads_back 2 source (big_bytes 2 destination ++ big_bytes 4 seq ++ behind) small in
    let to : field 2 2 bytes ≡ destination = big_number-reads_back 2 destination (big_bytes 4 seq ++ behind) low in
    let number : field 4 4 bytes ≡ seq = big_number-reads_back 4 seq behind fits in
    let header : words * 16 / 16 * 4 ≡ 20 + length options = omega (arith, words_is) in
    let long : nat_lt (length bytes) 20 ≡ false = le-ltb (length bytes) 20 (omega arith) in
    let enough : nat_lt (20 + length options) 20 ≡ false = le-ltb (20 + length options) 20 (omega arith) in
    let all : nat_lt (length bytes) (20 + length options) ≡ false =
    le-ltb (length bytes) (20 + length options) (omega (arith, length-append options payload)) in
    let rest : drop (20 + length options) bytes ≡ payload =
    drop-append-add (take 20 bytes) (options ++ payload) (length options) ∙ drop-append_seam options payload in
    rw (long, header, enough, all, from, to, number, rest) refl

-- ---- packets

-- what a packet holds, whatever follows it
abbrev held : List ℕ → List ℕ → ℕ → List ℕ → IpText
held source destination protocol body = record { source = source; destination = destination; protocol = protocol; body = body }

four_back : (words service id bits life protocol sum source destination : ℕ) (options body padding : List ℕ)
    → FitsFour words options body → bits < 2 ^ 16 → bits % 2 ^ 14 ≡ 0
    → ip4_of (ip4_bytes words service id bits life protocol sum source destination options body ++ padding)
    ≡ Ok (held (big_bytes 4 source) (big_bytes 4 destination) protocol body)
unfolding ip4_of
four_back words service id bits life protocol sum source destination options body padding fits small whole =
    let bytes = ip4_bytes words service id bits life protocol sum source destination options body ++ padding in
    let size = 20 + length options in
    let end = 20 + length options + length body in
    let behind = big_bytes 2 id ++ big_bytes 2 bits ++ (life ∷ protocol ∷ []) ++ big_bytes 2 sum ++ big_bytes 4 source
    ++ big_bytes 4 destination ++ options ++ body ++ padding in
    let total : field 2 2 bytes ≡ end =
    big_number-reads_back 2 (4 * words + length body) behind fits.2 ∙ omega (arith, fits.0) in
    let flags : field 6 2 bytes ≡ bits =
    big_number-reads_back 2 bits ((life ∷ protocol ∷ []) ++ big_bytes 2 sum ++ big_bytes 4 source ++ big_bytes 4 destination
    ++ options ++ body ++ padding) small in
    let header : (0x40 + words) % 16 * 4 ≡ size = omega (arith, fits.0, fits.1) in
    let some : (end == 0) ≡ false = ne_eqb end 0 (λ e. omega (arith, e)) in
    let long : nat_lt (length bytes) 20 ≡ false = le-ltb (length bytes) 20 (omega arith) in
    let enough : nat_lt size 20 ≡ false = le-ltb size 20 (omega arith) in
    let inside : nat_lt end size ≡ false = le-ltb end size (omega arith) in
    let all : nat_lt (length bytes) end ≡ false =
    le-ltb (length bytes) end (omega (arith, length-append (options ++ body) padding, length-append options body)) in
    let count : end - size ≡ length body = omega arith in
    let start : drop size bytes ≡ body ++ padding =
    drop-append-add (take 20 bytes) ((options ++ body) ++ padding) (length options)
    ∙ ap (drop (length options)) (append_assoc options body padding) ∙ drop-append_seam options (body ++ padding) in
    rw (long, header, enough, total, some, inside, flags, whole, all, count, start, take-append_seam body padding) refl

four_refused : (words service id bits life protocol sum source destination : ℕ) (options body padding : List ℕ)
    → FitsFour words options body → bits < 2 ^ 16 → bits % 2 ^ 14 ≢ 0
    → ip4_of (ip4_bytes words service id bits life protocol sum source destination options body ++ padding) ≡ Err Fragment
unfolding ip4_of
four_refused words service id bits life protocol sum source destination options body padding fits small part =
    let bytes = ip4_bytes words service id bits life protocol sum source destination options body ++ padding in
    let size = 20 + length options in
    let end = 20 + length options + length body in
    let behind = big_bytes 2 id ++ big_bytes 2 bits ++ (life ∷ protocol ∷ []) ++ big_bytes 2 sum ++ big_bytes 4 source
    ++ big_bytes 4 destination ++ options ++ body ++ padding in
    let total : field 2 2 bytes ≡ end =
    big_number-reads_back 2 (4 * words + length body) behind fits.2 ∙ omega (arith, fits.0) in
    let flags : field 6 2 bytes ≡ bits =
    big_number-reads_back 2 bits ((life ∷ protocol ∷ []) ++ big_bytes 2 sum ++ big_bytes 4 source ++ big_bytes 4 destination
    ++ options ++ body ++ padding) small in
    let header : (0x40 + words) % 16 * 4 ≡ size = omega (arith, fits.0, fits.1) in
    let some : (end == 0) ≡ false = ne_eqb end 0 (λ e. omega (arith, e)) in
    let long : nat_lt (length bytes) 20 ≡ false = le-ltb (length bytes) 20 (omega arith) in
    let enough : nat_lt size 20 ≡ false = le-ltb size 20 (omega arith) in
    let inside : nat_lt end size ≡ false = le-ltb end size (omega arith) in
    let divides : nat_lt 0 (bits % 16384) ≡ true = lt-ltb 0 (bits % 16384) (omega (arith, part)) in
    rw (long, header, enough, total, some, inside, flags, divides) refl

-- a header before the rest of the headers
over : (kind next : ℕ) (header rest : List ℕ) → is_extension kind ≡ true → is_ip6_fragment kind (header ++ rest) ≡ false
    → extension_len kind (header ++ rest) ≡ length header → 8 ≤ length header → byte 0 (header ++ rest) ≡ next
    → behind_extensions kind (header ++ rest) ≡ behind_extensions next rest
over kind next header rest is whole size long next_is =
    let all = length-append header rest in
    let step = extension_step kind (header ++ rest) is (omega (arith, all, long)) whole (omega (arith, all, size)) in
    step ∙ ap (λ n. behind_extensions n (drop (extension_len kind (header ++ rest)) (header ++ rest))) next_is
    ∙ ap (behind_extensions next) (drop_at header rest (extension_len kind (header ++ rest)) (sym size))

has_options : (kind : ℕ) → HasOptions kind → (is_extension kind ≡ true) × (eqb kind 44 ≡ false) × (eqb kind 51 ≡ false)
has_options kind (inl e) = rw e (refl, refl, refl)
has_options kind (inr (inl e)) = rw e (refl, refl, refl)
has_options kind (inr (inr e)) = rw e (refl, refl, refl)

extensions_over : (kind last : ℕ) (headers body : List ℕ) → ExtensionsText kind headers last
    → behind_extensions kind (headers ++ body) ≡ behind_extensions last body
extensions_over kind last headers body (ext.nothing k) = refl
extensions_over kind last headers body (ext.options k next units l value more has long text) =
    let header = next ∷ units ∷ value in
    let h = has_options k has in
    let not_divided : is_ip6_fragment k (header ++ (more ++ body)) ≡ false = rw h.1 refl in
    let size : extension_len k (header ++ (more ++ body)) ≡ length header = rw (h.1, h.2) (omega (arith, long)) in
    ap (behind_extensions k) (append_assoc header more body)
    ∙ over k next header (more ++ body) h.0 not_divided size (omega (arith, long)) refl
    ∙ extensions_over next l more body text
extensions_over kind last headers body (ext.authentication next units l value more long text) =
    let header = next ∷ units ∷ value in
    let size : extension_len 51 (header ++ (more ++ body)) ≡ length header = omega (arith, long) in
    ap (behind_extensions 51) (append_assoc header more body)
    ∙ over 51 next header (more ++ body) refl refl size (omega (arith, long)) refl
    ∙ extensions_over next l more body text
extensions_over kind last headers body (ext.whole next reserved bits id l more small even text) =
    let header = (next ∷ reserved ∷ []) ++ big_bytes 2 bits ++ big_bytes 4 id in
    let number : field 2 2 (header ++ (more ++ body)) ≡ bits =
    big_number-reads_back 2 bits (big_bytes 4 id ++ (more ++ body)) (omega (arith, small)) in
    let offset : bits / 8 ≡ 0 = omega (arith, small) in
    let not_divided : is_ip6_fragment 44 (header ++ (more ++ body)) ≡ false = rw (number, offset, even) refl in
    ap (behind_extensions 44) (append_assoc header more body)
    ∙ over 44 next header (more ++ body) refl not_divided refl (omega arith) refl
    ∙ extensions_over next l more body text

six_back : (label next limit source destination protocol : ℕ) (extensions body padding : List ℕ)
    → ExtensionsText next extensions protocol → is_extension protocol ≡ false → length extensions + length body < 2 ^ 16
    → ip6_of (ip6_bytes label next limit source destination extensions body ++ padding)
    ≡ Ok (held (big_bytes 16 source) (big_bytes 16 destination) protocol body)
unfolding ip6_of
six_back label next limit source destination protocol extensions body padding text upper short =
    let bytes = ip6_bytes label next limit source destination extensions body ++ padding in
    let rest = extensions ++ body in
    let count : length rest ≡ length extensions + length body = length-append extensions body in
    let size : field 4 2 bytes ≡ length extensions + length body =
    big_number-reads_back 2 (length extensions + length body)
    ((next ∷ limit ∷ []) ++ big_bytes 16 source ++ big_bytes 16 destination ++ extensions ++ body ++ padding) short in
    let long : nat_lt (length bytes) 40 ≡ false = le-ltb (length bytes) 40 (omega arith) in
    let all : nat_lt (length bytes) (40 + (length extensions + length body)) ≡ false =
    le-ltb (length bytes) (40 + (length extensions + length body)) (omega (arith, length-append rest padding, count)) in
    let width : 40 + (length extensions + length body) - 40 ≡ length extensions + length body = omega arith in
    let inside : take (length extensions + length body) (rest ++ padding) ≡ rest =
    take_at rest padding (length extensions + length body) count in
    let found : behind_extensions next rest ≡ Ok (protocol, body) =
    extensions_over next protocol extensions body text ∙ extension_none protocol body upper in
    rw (long, size, all, width, inside, found) refl

abbrev divided : ℕ → ℕ → ℕ → ℕ → List ℕ → List ℕ
divided after reserved bits id body = (after ∷ reserved ∷ []) ++ big_bytes 2 bits ++ big_bytes 4 id ++ body

part_refused : (after reserved bits id : ℕ) (body : List ℕ) → bits < 2 ^ 16 → (bits / 8 ≢ 0) ⊎ (bits % 2 ≡ 1)
    → behind_extensions 44 (divided after reserved bits id body) ≡ Err Fragment
part_refused after reserved bits id body small is =
    let bytes = divided after reserved bits id body in
    let number : field 2 2 bytes ≡ bits = big_number-reads_back 2 bits (big_bytes 4 id ++ body) small in
    let divides : is_ip6_fragment 44 bytes ≡ true = rw number (either is) in
    extension_divides 44 bytes refl (omega arith) divides
  where
    either : (bits / 8 ≢ 0) ⊎ (bits % 2 ≡ 1) → (nat_lt 0 (bits / 8) || (bits % 2 == 1)) ≡ true
    either (inl some) = let e : nat_lt 0 (bits / 8) ≡ true = lt-ltb 0 (bits / 8) (omega (arith, some)) in rw e refl
    either (inr more) = grind (arith, nat_tests, more)

six_refused : (label next limit source destination after reserved bits id : ℕ) (extensions body padding : List ℕ)
    → ExtensionsText next extensions 44 → bits < 2 ^ 16 → (bits / 8 ≢ 0) ⊎ (bits % 2 ≡ 1)
    → length extensions + (8 + length body) < 2 ^ 16
    → ip6_of (ip6_bytes label next limit source destination extensions (divided after reserved bits id body) ++ padding) ≡ Err Fragment
unfolding ip6_of
six_refused label next limit source destination after reserved bits id extensions body padding text small is short =
    let part = divided after reserved bits id body in
    let bytes = ip6_bytes label next limit source destination extensions part ++ padding in
    let rest = extensions ++ part in
    let count : length rest ≡ length extensions + length part = length-append extensions part in
    let size : field 4 2 bytes ≡ length extensions + length part =
    big_number-reads_back 2 (length extensions + length part)
    ((next ∷ limit ∷ []) ++ big_bytes 16 source ++ big_bytes 16 destination ++ extensions ++ part ++ padding) (omega (arith, short)) in
    let long : nat_lt (length bytes) 40 ≡ false = le-ltb (length bytes) 40 (omega arith) in
    let all : nat_lt (length bytes) (40 + (length extensions + length part)) ≡ false =
    le-ltb (length bytes) (40 + (length extensions + length part)) (omega (arith, length-append rest padding, count)) in
    let width : 40 + (length extensions + length part) - 40 ≡ length extensions + length part = omega arith in
    let inside : take (length extensions + length part) (rest ++ padding) ≡ rest =
    take_at rest padding (length extensions + length part) count in
    let found : behind_extensions next rest ≡ Err Fragment =
    extensions_over next 44 extensions part text ∙ part_refused after reserved bits id body small is in
    rw (long, size, all, width, inside, found) refl

-- ---- frames

abbrev version : Family → Version
version four = Ip4
version six = Ip6

abbrev seen_as : Link → Family → Version
seen_as Raw family = Either
seen_as Ethernet family = version family
seen_as Cooked family = version family
seen_as Cooked2 family = version family
seen_as Loopback family = version family

tag_is : (kind : ℕ) → IsTag kind → (version_of kind ≡ None) × (is_tag kind ≡ true) × (kind < 2 ^ 16)
tag_is kind (inl e) = rw e (refl, refl, omega arith)
tag_is kind (inr (inl e)) = rw e (refl, refl, omega arith)
tag_is kind (inr (inr e)) = rw e (refl, refl, omega arith)

type_back : (family : Family) (type rest : List ℕ) → TypeText family type → behind_type (type ++ rest) ≡ Ok (version family, rest)
type_back four type rest untagged = type_found (big_bytes 2 0x800 ++ rest) Ip4 (omega arith) refl
type_back six type rest untagged = type_found (big_bytes 2 0x86dd ++ rest) Ip6 (omega arith) refl
type_back family type rest (tagged kind control more is text) =
    let bytes = (big_bytes 2 kind ++ big_bytes 2 control ++ more) ++ rest in
    let t = tag_is kind is in
    let number : field 0 2 bytes ≡ kind = big_number-reads_back 2 kind (big_bytes 2 control ++ (more ++ rest)) t.2 in
    tag_step bytes (omega arith) (ap version_of number ∙ t.0) (ap is_tag number ∙ t.1) ∙ type_back family more rest text

frame_back : (family : Family) (bytes frame : List ℕ) (link : Link) → FrameText family bytes link frame
    → packet_in link frame ≡ Ok (seen_as link family, bytes)
unfolding packet_in
frame_back family bytes frame link (ethernet to from type text) =
    let whole = big_bytes 6 to ++ big_bytes 6 from ++ type ++ bytes in
    let long : nat_lt (length whole) 12 ≡ false = le-ltb (length whole) 12 (omega arith) in
    rw (long, type_back family type bytes text) refl
frame_back family bytes frame link (cooked sent kind len address type text) =
    let whole = big_bytes 2 sent ++ big_bytes 2 kind ++ big_bytes 2 len ++ big_bytes 8 address ++ type ++ bytes in
    let long : nat_lt (length whole) 14 ≡ false = le-ltb (length whole) 14 (omega arith) in
    rw (long, type_back family type bytes text) refl
frame_back four bytes frame link (cooked_2 reserved interface kind sent len address) =
    let whole = big_bytes 2 0x800 ++ big_bytes 2 reserved ++ big_bytes 4 interface ++ big_bytes 2 kind ++ big_bytes 1 sent
    ++ big_bytes 1 len ++ big_bytes 8 address ++ bytes in
    let long : nat_lt (length whole) 20 ≡ false = le-ltb (length whole) 20 (omega arith) in
    rw long refl
frame_back six bytes frame link (cooked_2 reserved interface kind sent len address) =
    let whole = big_bytes 2 0x86dd ++ big_bytes 2 reserved ++ big_bytes 4 interface ++ big_bytes 2 kind ++ big_bytes 1 sent
    ++ big_bytes 1 len ++ big_bytes 8 address ++ bytes in
    let long : nat_lt (length whole) 20 ≡ false = le-ltb (length whole) 20 (omega arith) in
    rw long refl
frame_back family bytes frame link raw = refl

-- ---- a packet in a frame

ip4_seen : (link : Link) (bytes : List ℕ) → nat_lt (length bytes) 1 ≡ false → byte 0 bytes / 16 ≡ 4
    → ip_of (seen_as link four) bytes ≡ ip4_of bytes
unfolding ip_of
ip4_seen Raw bytes long is = rw (long, is) refl
ip4_seen Ethernet bytes long is = rw (long, is) refl
ip4_seen Cooked bytes long is = rw (long, is) refl
ip4_seen Cooked2 bytes long is = rw (long, is) refl
ip4_seen Loopback bytes long is = rw (long, is) refl

ip6_seen : (link : Link) (bytes : List ℕ) → nat_lt (length bytes) 1 ≡ false → byte 0 bytes / 16 ≡ 6
    → ip_of (seen_as link six) bytes ≡ ip6_of bytes
unfolding ip_of
ip6_seen Raw bytes long is = rw (long, is) refl
ip6_seen Ethernet bytes long is = rw (long, is) refl
ip6_seen Cooked bytes long is = rw (long, is) refl
ip6_seen Cooked2 bytes long is = rw (long, is) refl
ip6_seen Loopback bytes long is = rw (long, is) refl

first_6 : (label : ℕ) → label < 2 ^ 28 → (6 * 2 ^ 28 + label) / 16777216 % 256 / 16 ≡ 6
first_6 label low = omega (arith, low)

packet_back : (link : Link) (protocol : ℕ) (family : Family) (source destination body packet padding : List ℕ)
    → PacketText protocol body family source destination packet
    → ip_of (seen_as link family) (packet ++ padding) ≡ Ok (held source destination protocol body)
packet_back link protocol family source destination body packet padding
    (packets.ip4 words service id bits life sum from to options fits small whole) =
    let bytes = ip4_bytes words service id bits life protocol sum from to options body ++ padding in
    let long : nat_lt (length bytes) 1 ≡ false = le-ltb (length bytes) 1 (omega arith) in
    ip4_seen link bytes long (omega (arith, fits.1))
    ∙ four_back words service id bits life protocol sum from to options body padding fits small whole
packet_back link protocol family source destination body packet padding
    (packets.ip6 label next limit from to extensions low text upper short) =
    let bytes = ip6_bytes label next limit from to extensions body ++ padding in
    let long : nat_lt (length bytes) 1 ≡ false = le-ltb (length bytes) 1 (omega arith) in
    ip6_seen link bytes long (first_6 label low)
    ∙ six_back label next limit from to protocol extensions body padding text upper short

part_back : (link : Link) (family : Family) (packet padding : List ℕ) → FragmentText family packet
    → ip_of (seen_as link family) (packet ++ padding) ≡ Err Fragment
part_back link family packet padding (fragments.ip4 words service id bits life protocol sum from to options body fits small part) =
    let bytes = ip4_bytes words service id bits life protocol sum from to options body ++ padding in
    let long : nat_lt (length bytes) 1 ≡ false = le-ltb (length bytes) 1 (omega arith) in
    ip4_seen link bytes long (omega (arith, fits.1))
    ∙ four_refused words service id bits life protocol sum from to options body padding fits small part
part_back link family packet padding
    (fragments.ip6 label next limit from to after reserved bits id extensions body low text small is short) =
    let bytes = ip6_bytes label next limit from to extensions (divided after reserved bits id body) ++ padding in
    let long : nat_lt (length bytes) 1 ≡ false = le-ltb (length bytes) 1 (omega arith) in
    ip6_seen link bytes long (first_6 label low)
    ∙ six_refused label next limit from to after reserved bits id extensions body padding text small is short

-- what a frame carries, by what its packet does
plain_back : (link : Link) (protocol : ℕ) (family : Family) (source destination body packet padding frame : List ℕ) (t : TransportText)
    → PacketText protocol body family source destination packet → FrameText family (packet ++ padding) link frame
    → transport_of protocol body ≡ Ok t
    → plain_of link frame ≡ Ok (record { source = source; destination = destination; transport = t })
unfolding plain_of
plain_back link protocol family source destination body packet padding frame t p f is =
    rw (
      frame_back family
          (packet ++ padding) frame link f,
      packet_back link protocol family source destination body packet padding p,
      is,
    ) refl

-- a datagram in a packet in a frame
pub datagram_back : DatagramReadBack
unfolding carried_of transport_of
datagram_back link family source destination packet frame source_port destination_port sum payload padding low high short p f =
    let body = udp_bytes source_port destination_port sum payload in
    let t = udp (record { source = source_port; destination = destination_port; payload = payload }) in
    let is : transport_of 17 body ≡ Ok t = rw (udp_back source_port destination_port sum payload low high short) refl in
    rw (plain_back link 17 family source destination body packet padding frame t p f is) refl

-- a segment in a packet in a frame
pub segment_back : SegmentReadBack
unfolding carried_of transport_of
segment_back link family source destination packet frame source_port destination_port seq ack words flags window sum urgent options
    payload padding low high fits words_is p f =
    let body = tcp_bytes source_port destination_port seq ack words flags window sum urgent options payload in
    let t = tcp (record {
      source = source_port;
      destination = destination_port;
      seq = seq;
      syn = flags / 2 % 2 == 1;
      fin = flags % 2 == 1;
      psh = flags / 8 % 2 == 1;
      rst = flags / 4 % 2 == 1;
      payload = payload;
    }) in
    let is : transport_of 6 body ≡ Ok t =
    rw (tcp_back source_port destination_port seq ack words flags window sum urgent options payload low high fits words_is) refl in
    rw (plain_back link 6 family source destination body packet padding frame t p f is) refl

-- a part of a packet in a frame
pub fragment_back : FragmentRefused
unfolding carried_of plain_of
fragment_back link family packet padding frame p f =
    rw (frame_back family (packet ++ padding) frame link f, part_back link family packet padding p) refl
