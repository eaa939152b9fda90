-- What a message around a compression unwraps to.
use Rattle.std.proofs.Common.{◌≡◌, ℕ, ◌+◌, ◌-◌, ◌^◌, ◌<◌, ◌≤◌, Bool, true, false, cond, ltb, List, [], ◌∷◌, ◌++◌, length, codes, refl, sym, ap, ◌∙◌}
use Rattle.std.proofs.Common.{arith, subst}
use Rattle.std.proofs.lemmas.Bool.{lt-ltb, le-ltb}
use Rattle.std.proofs.lemmas.List.{length-append}
use Rattle.byteorder.specs.Endian.{big_bytes}
use Rattle.byteorder.specs.Numbers.{length-bytes_high_first}
use Rattle.swim_pack.specs.Spelling.{raw_text, number_text, count_text}
use Rattle.swim_wire.proofs.SpelledLengths.{length-raw_text}
use Rattle.memberlist_wrap.specs.Wrapping.{Wrapper, WrapText, CompressedText, Wrapped, Wraps, UnwrapsIn}
use Rattle.memberlist_wrap.specs.Wrapping.Wrapper.{compression}
use Rattle.memberlist_wrap.proofs.Unwrapping.{one_wrapper, one_inner}
use Rattle.memberlist_compress.specs.Compressed.{IsCompression, IsSent, map_bytes, raw_bytes}
use Rattle.memberlist_compress.specs.Compressed.IsSent.{as_it_is, shorter}
use Rattle.memberlist_compress.proofs.Maps.{CompressionText-written}

-- ---- there

held : (limit : ℕ) (made message : List ℕ) (c : IsCompression made message) → length message ≤ limit
    → CompressedText limit (map_bytes c.packed) message
held limit made message c within = record {
  packed = c.packed;
  map = CompressionText-written c.packed c.small;
  lzw = c.lzw;
  within = within;
}

pub Wrapped-compression : (limit : ℕ) (made message : List ℕ) → IsCompression made message → length message ≤ limit
    → Wrapped limit (compression ∷ []) made message
Wrapped-compression limit made message c within = (map_bytes c.packed, message, c.text, held limit made message c within, refl)

pub unwraps_there : (depth limit : ℕ) (made message inner : List ℕ) → IsCompression made message → length message ≤ limit
    → UnwrapsIn depth limit message inner → UnwrapsIn (depth + 1) limit made inner
unwraps_there depth limit made message inner c within u =
    let few = u.few in
    let wraps = u.wraps in record {
      wrappers = compression ∷ u.wrappers;
      few = omega arith;
      wraps = record {
        wrapped = (map_bytes c.packed, message, c.text, held limit made message c within, wraps.wrapped);
        bare = wraps.bare;
        within = wraps.within;
      };
    }

-- ---- back

back_by : (depth limit : ℕ) (made message inner : List ℕ) (wrappers : List Wrapper) → IsCompression made message
    → length wrappers ≤ depth + 1 → Wraps limit wrappers made inner → UnwrapsIn depth limit message inner
back_by depth limit made message inner [] c few wraps = absurd (wraps.bare compression (map_bytes c.packed) (sym wraps.wrapped ∙ c.text))
back_by depth limit made message inner (v ∷ vs) c few wraps =
    let outer = wraps.wrapped in
    let one = one_wrapper v compression made outer.0 (map_bytes c.packed) outer.2 c.text in
    let text : WrapText limit compression (map_bytes c.packed) outer.1 = rw (one.0, one.1) at outer.3 in
    let ours : WrapText (length message) compression (map_bytes c.packed) message =
    held (length message) made message c (omega arith) in
    let mid = one_inner limit (length message) compression (map_bytes c.packed) outer.1 message text ours in
    let P : List ℕ → Type 0 = λ m. Wrapped limit vs m inner in
    record {
      wrappers = vs;
      few = omega arith;
      wraps = record { wrapped = subst P mid outer.4; bare = wraps.bare; within = wraps.within };
    }

pub unwraps_back : (depth limit : ℕ) (made message inner : List ℕ) → IsCompression made message
    → UnwrapsIn (depth + 1) limit made inner → UnwrapsIn depth limit message inner
unwraps_back depth limit made message inner c u = back_by depth limit made message inner u.wrappers c u.few u.wraps

-- ---- what is sent

more_depth : (depth more limit : ℕ) (bytes inner : List ℕ) → depth ≤ more → UnwrapsIn depth limit bytes inner
    → UnwrapsIn more limit bytes inner
more_depth depth more limit bytes inner up u =
    let few = u.few in record { wrappers = u.wrappers; few = omega arith; wraps = u.wraps }

sent_there_by : (depth limit : ℕ) (message made inner : List ℕ) (is_shorter : Bool) → IsCompression made message
    → length message ≤ limit → UnwrapsIn depth limit message inner
    → UnwrapsIn (depth + 1) limit (cond is_shorter made message) inner
sent_there_by depth limit message made inner true c within u = unwraps_there depth limit made message inner c within u
sent_there_by depth limit message made inner false c within u = more_depth depth (depth + 1) limit message inner (omega arith) u

pub sent_there : (depth limit : ℕ) (message sent inner : List ℕ) → IsSent message sent → length message ≤ limit
    → UnwrapsIn depth limit message inner → UnwrapsIn (depth + 1) limit sent inner
sent_there depth limit message sent inner (as_it_is long is) within u =
    rw is (more_depth depth (depth + 1) limit message inner (omega arith) u)
sent_there depth limit message sent inner (shorter few made c is) within u =
    rw is (sent_there_by depth limit message made inner (ltb (length made) (length message)) c within u)

made_back : (depth limit : ℕ) (message made inner : List ℕ) → IsCompression made message → UnwrapsIn depth limit made inner
    → UnwrapsIn depth limit message inner
made_back depth limit message made inner c u =
    more_depth (depth - 1) depth limit message inner (omega arith)
    (unwraps_back (depth - 1) limit made message inner c (more_depth depth (depth - 1 + 1) limit made inner (omega arith) u))

sent_back_by : (depth limit : ℕ) (message made inner : List ℕ) (is_shorter : Bool) → IsCompression made message
    → UnwrapsIn depth limit (cond is_shorter made message) inner → UnwrapsIn depth limit message inner
sent_back_by depth limit message made inner true c u = made_back depth limit message made inner c u
sent_back_by depth limit message made inner false c u = u

pub sent_back : (depth limit : ℕ) (message sent inner : List ℕ) → IsSent message sent → UnwrapsIn depth limit sent inner
    → UnwrapsIn depth limit message inner
sent_back depth limit message sent inner (as_it_is long is) u = rw is at u
sent_back depth limit message sent inner (shorter few made c is) u =
    sent_back_by depth limit message made inner (ltb (length made) (length message)) c (rw is at u)

pub sends_made : (message made : List ℕ) → length message < 2 ^ 30 → IsCompression made message → length made < length message
    → IsSent message made
sends_made message made few c less =
    shorter few made c (sym (ap (λ b. cond b made message) (lt-ltb (length made) (length message) less)))

pub sends_message : (message made : List ℕ) → length message < 2 ^ 30 → IsCompression made message → length message ≤ length made
    → IsSent message message
sends_message message made few c no_less =
    shorter few made c (sym (ap (λ b. cond b made message) (le-ltb (length made) (length message) no_less)))

-- ---- how long it is

length-raw_bytes_by : (s : List ℕ) (is_short : Bool) → length (cond is_short (raw_text s) ((0xdb ∷ big_bytes 4 (length s)) ++ s)) ≤ length s + 5
length-raw_bytes_by s true = omega (arith, length-raw_text s)
length-raw_bytes_by s false =
    omega (arith, length-append (0xdb ∷ big_bytes 4 (length s)) s, length-bytes_high_first 4 (length s))

front_len : length (count_text 2 ++ raw_text (codes "Algo") ++ number_text 0 ++ raw_text (codes "Buf")) ≡ 11
unfolding raw_text number_text
front_len = refl

pub length-map_bytes : (packed : List ℕ) → length (map_bytes packed) ≤ length packed + 16
length-map_bytes packed =
    let front = count_text 2 ++ raw_text (codes "Algo") ++ number_text 0 ++ raw_text (codes "Buf") in
    let value : length (raw_bytes packed) ≤ length packed + 5 = length-raw_bytes_by packed (ltb (length packed) (2 ^ 16)) in
    let front_is : length front ≡ 11 = front_len in
    omega (arith, length-append front (raw_bytes packed))
