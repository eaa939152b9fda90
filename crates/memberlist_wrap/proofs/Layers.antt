-- Wrappers that were removed, and those that are left.
use Rattle.std.proofs.Common.{◌≡◌, ℕ, ◌+◌, ◌-◌, ◌<◌, ◌≤◌, List, [], ◌∷◌, ◌++◌, length, drop, Err, refl, sym, ap, subst}
use Rattle.std.proofs.Common.{◌∙◌, arith, append_assoc, inl, inr}
use Rattle.std.proofs.lemmas.List.{length-append, drop_at}
use Rattle.swim_wire.specs.declared.fault.WireFault.{WireFault}
use Rattle.swim_wire.specs.Compression.{CompressionText, whole_compression}
use Rattle.memberlist_cipher.specs.Label.{IsLabelled}
use Rattle.memberlist_wrap.specs.declared.fault.WrapFault.{WrapFault}
use Rattle.memberlist_wrap.specs.declared.fault.WrapFault.TheVariants.{TooLarge}
use Rattle.memberlist_wrap.specs.declared.wrappers.Core.{Core}
use Rattle.memberlist_wrap.specs.declared.wrappers.Core.TheVariants as cores
use Rattle.memberlist_wrap.specs.Reasons.{fault_of_map, FailsHere, ReasonForIn, AsksMemory}
use Rattle.memberlist_wrap.specs.Reasons.FailsHere.{broken, large}
use Rattle.memberlist_wrap.specs.Peeling.{EndsWith, Holds, PackedUnwraps, PackedFails}
use Rattle.memberlist_wrap.specs.Peeling.PackedFails.{here, inside}
use Rattle.memberlist_wrap.specs.Wrapping.{Wrapper, kind, WrapText, Wrapped, IsBare, UnwrapsIn}
use Rattle.memberlist_wrap.specs.Wrapping.Wrapper.{compression, label}
use Rattle.memberlist_wrap.proofs.Unwrapping.{Wrapped-then}

pub EndsWith-then : (a b c : List ℕ) → EndsWith a b → EndsWith b c → EndsWith a c
EndsWith-then a b c p q = (p.0 ++ q.0, p.1 ∙ ap (λ (x : List ℕ). p.0 ++ x) q.1 ∙ sym (append_assoc p.0 q.0 c))

-- a suffix is what follows the bytes before it
pub behind_front : (a b : List ℕ) → EndsWith a b → drop (length a - length b) a ≡ b
behind_front a b p =
    let size : length p.0 ≡ length a - length b = omega (arith, ap length p.1, length-append p.0 b) in
    ap (drop (length a - length b)) p.1 ∙ drop_at p.0 b (length a - length b) size

pub no_longer : (a b : List ℕ) → EndsWith a b → length b ≤ length a
no_longer a b p = omega (arith, ap length p.1, length-append p.0 b)

-- what is labelled follows its label
pub off_label : (bytes rest name inner : List ℕ) → bytes ≡ 244 ∷ rest → IsLabelled bytes name inner
    → EndsWith bytes inner × WrapText 0 label rest inner
off_label bytes rest name inner begins (inl none) = absurd (none.2 rest begins)
off_label bytes rest name inner begins (inr some) = ((244 ∷ length name ∷ name, some.1), (name, (some.0, sym begins ∙ some.1)))

-- ---- one more wrapper around what is left

pub Holds-more : (depth : ℕ) (bytes inner : List ℕ) (w : Wrapper) (rest : List ℕ) (core : Core) → 0 < depth
    → EndsWith bytes inner → bytes ≡ kind w ∷ rest
    → ((limit : ℕ) → WrapText limit w rest inner) → Holds (depth - 1) inner core → Holds depth bytes core
Holds-more depth bytes inner w rest (cores.Message message) some ends is text holds = (
  EndsWith-then bytes inner message.now ends holds.0,
  holds.1,
  (w ∷ holds.2.0, (let few = holds.2.1 in omega arith), λ limit. (rest, inner, is, text limit, holds.2.2 limit)),
)
Holds-more depth bytes inner w rest (cores.Compression map left) some ends is text holds =
    (w ∷ holds.0, (let few = holds.1 in omega arith), λ limit. (rest, inner, is, text limit, holds.2 limit))

pub ReasonFor-more : (depth limit : ℕ) (fault : WrapFault) (bytes inner : List ℕ) (w : Wrapper) (rest : List ℕ) → 0 < depth
    → bytes ≡ kind w ∷ rest → WrapText limit w rest inner
    → ReasonForIn (depth - 1) limit fault inner → ReasonForIn depth limit fault bytes
ReasonFor-more depth limit fault bytes inner w rest some is text why =
    let few = why.few in
    let P : ℕ → Type 0 = λ d. FailsHere d limit fault why.inner in
    let left : depth - 1 - length why.wrappers ≡ depth - length (w ∷ why.wrappers) = omega arith in record {
      wrappers = w ∷ why.wrappers;
      inner = why.inner;
      few = omega arith;
      wrapped = (rest, inner, is, text, why.wrapped);
      fails = subst P left why.fails;
    }

pub ReasonFor-here : (depth limit : ℕ) (fault : WrapFault) (bytes : List ℕ)
    → FailsHere depth limit fault bytes → ReasonForIn depth limit fault bytes
ReasonFor-here depth limit fault bytes fails =
    let P : ℕ → Type 0 = λ d. FailsHere d limit fault bytes in
    let all : depth ≡ depth - 0 = omega arith in record {
      wrappers = [];
      inner = bytes;
      few = omega arith;
      wrapped = refl;
      fails = subst P all fails;
    }

-- ---- a message

pub message_unwraps : (depth limit : ℕ) (bytes message : List ℕ) (ws : List Wrapper) → length ws ≤ depth
    → Wrapped limit ws bytes message → IsBare message → length message ≤ limit
    → UnwrapsIn depth limit bytes message
message_unwraps depth limit bytes message ws few wrapped bare within =
    record { wrappers = ws; few = few; wraps = record { wrapped = wrapped; bare = bare; within = within } }

pub message_large : (depth limit : ℕ) (bytes message : List ℕ) (ws : List Wrapper) → length ws ≤ depth
    → Wrapped limit ws bytes message → IsBare message → limit < length message
    → ReasonForIn depth limit TooLarge bytes
message_large depth limit bytes message ws few wrapped bare long =
    record { wrappers = ws; inner = message; few = few; wrapped = wrapped; fails = large bare long refl }

-- ---- a compression

lengths : (a b : List Wrapper) → length (a ++ b) ≡ length a + length b
lengths [] b = omega arith
lengths (w ∷ a) b = omega (arith, lengths a b)

pub map_fails : (depth limit left : ℕ) (bytes map : List ℕ) (ws : List Wrapper)
    → length ws + (left + 1) ≡ depth → Wrapped limit ws bytes (9 ∷ map)
    → (cause : WireFault) (fault : WrapFault) → whole_compression map ≡ Err cause
    → fault ≡ fault_of_map cause → ReasonForIn depth limit fault bytes
map_fails depth limit left bytes map ws count wrapped cause fault no_map is =
    record {
      wrappers = ws;
      inner = 9 ∷ map;
      few = omega arith;
      wrapped = wrapped;
      fails = broken compression map refl (omega arith) (inl (cause, no_map, is));
    }

pub packed_unwraps : (depth limit left : ℕ) (bytes map : List ℕ) (ws : List Wrapper)
    → length ws + (left + 1) ≡ depth → Wrapped limit ws bytes (9 ∷ map)
    → (packed message : List ℕ) → CompressionText map packed → PackedUnwraps left limit packed message → UnwrapsIn depth limit bytes message
packed_unwraps depth limit left bytes map ws count wrapped packed message text p =
    let few = p.unwraps.few in
    message_unwraps depth limit bytes message (ws ++ compression ∷ p.unwraps.wrappers)
    (omega (arith, lengths ws (compression ∷ p.unwraps.wrappers)))
    (Wrapped-then limit ws (compression ∷ p.unwraps.wrappers) bytes (9 ∷ map) message wrapped
    (map, p.inner, refl, record { packed = packed; map = text; lzw = p.lzw; within = p.within }, p.unwraps.wraps.wrapped))
    p.unwraps.wraps.bare p.unwraps.wraps.within

pub packed_fails : (depth limit left : ℕ) (bytes map : List ℕ) (ws : List Wrapper)
    → length ws + (left + 1) ≡ depth → Wrapped limit ws bytes (9 ∷ map)
    → (packed : List ℕ) (fault : WrapFault) → CompressionText map packed
    → PackedFails left limit fault packed → ReasonForIn depth limit fault bytes
packed_fails depth limit left bytes map ws count wrapped packed fault text (here why) =
    record {
      wrappers = ws;
      inner = 9 ∷ map;
      few = omega arith;
      wrapped = wrapped;
      fails = broken compression map refl (omega arith) (inr (packed, text, why));
    }
packed_fails depth limit left bytes map ws count wrapped packed fault text (inside inner lzw within why) =
    let few = why.few in
    let size = lengths ws (compression ∷ why.wrappers) in
    let P : ℕ → Type 0 = λ d. FailsHere d limit fault why.inner in
    let same : left - length why.wrappers ≡ depth - length (ws ++ compression ∷ why.wrappers) = omega arith in record {
      wrappers = ws ++ compression ∷ why.wrappers;
      inner = why.inner;
      few = omega arith;
      wrapped =
          Wrapped-then limit ws (compression ∷ why.wrappers) bytes (9 ∷ map) why.inner wrapped
          (map, inner, refl, record { packed = packed; map = text; lzw = lzw; within = within }, why.wrapped);
      fails = subst P same why.fails;
    }

-- ---- memory

pub message_asks : (depth limit : ℕ) (bytes message : List ℕ) (ws : List Wrapper) → length ws ≤ depth
    → Wrapped limit ws bytes message → IsBare message → length message ≤ limit
    → AsksMemory depth limit bytes
message_asks depth limit bytes message ws few wrapped bare within =
    record { wrappers = ws; inner = message; few = few; wrapped = wrapped; asks = inl (bare, within) }

pub compression_asks : (depth limit left : ℕ) (bytes map : List ℕ) (ws : List Wrapper) → length ws + (left + 1) ≡ depth
    → Wrapped limit ws bytes (9 ∷ map) → AsksMemory depth limit bytes
compression_asks depth limit left bytes map ws count wrapped =
    record { wrappers = ws; inner = 9 ∷ map; few = omega arith; wrapped = wrapped; asks = inr (omega arith, map, refl) }
