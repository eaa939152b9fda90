-- One step of the definitions that iterate over tags and extension headers.
use Rattle.std.proofs.Common.{◌≡◌, ℕ, zero, suc, ◌-◌, ◌<◌, ◌≤◌, List, [], ◌∷◌, length, drop, take, true, false, nat_lt}
use Rattle.std.proofs.Common.{refl, sym, arith, length-drop}
use Rattle.std.specs.Prelude.{Some, None, Ok, Err}
use Rattle.std.proofs.lemmas.Bool.Decides.{nat_tests}
use Rattle.std.proofs.lemmas.List.{take_rest}
use Rattle.capture.specs.declared.fault.NotCarried.TheVariants.{Cut, Malformed, Fragment}
use Rattle.capture.specs.declared.network.Version.{Version}
use Rattle.capture.specs.Packets.{version_of, is_tag, other_type, behind_type, is_extension, is_ip6_fragment}
use Rattle.capture.specs.Packets.{extension_len, behind_headers, behind_extensions, field, byte}

-- too short for a type
pub type_short : (bytes : List ℕ) → length bytes < 2 → behind_type bytes ≡ Err Cut
unfolding behind_type
type_short [] short = refl
type_short (a ∷ []) short = refl
type_short (a ∷ b ∷ rest) short = absurd (omega (arith, short))

-- a type of IP
pub type_found : (bytes : List ℕ) (v : Version) → 2 ≤ length bytes → version_of (field 0 2 bytes) ≡ Some v
    → behind_type bytes ≡ Ok (v, drop 2 bytes)
unfolding behind_type
type_found [] v long is = absurd (omega (arith, long))
type_found (a ∷ []) v long is = absurd (omega (arith, long))
type_found (a ∷ b ∷ []) v long is = rw is refl
type_found (a ∷ b ∷ c ∷ []) v long is = rw is refl
type_found (a ∷ b ∷ c ∷ d ∷ rest) v long is = rw is refl

-- the same, as the code slices it
pub type_cut_off : (bytes : List ℕ) (v : Version) → 2 ≤ length bytes → version_of (field 0 2 bytes) ≡ Some v
    → behind_type bytes ≡ Ok (v, take (length bytes - 2) (drop 2 bytes))
type_cut_off bytes v long is = rw (take_rest bytes 2) (type_found bytes v long is)

-- a type of something else
pub type_other : (bytes : List ℕ) → 2 ≤ length bytes → version_of (field 0 2 bytes) ≡ None
    → is_tag (field 0 2 bytes) ≡ false → behind_type bytes ≡ Err (other_type (field 0 2 bytes))
unfolding behind_type
type_other [] long none untagged = absurd (omega (arith, long))
type_other (a ∷ []) long none untagged = absurd (omega (arith, long))
type_other (a ∷ b ∷ []) long none untagged = rw (none, untagged) refl
type_other (a ∷ b ∷ c ∷ []) long none untagged = rw (none, untagged) refl
type_other (a ∷ b ∷ c ∷ d ∷ rest) long none untagged = rw (none, untagged) refl

-- a tag that is cut
pub tag_short : (bytes : List ℕ) → 2 ≤ length bytes → length bytes < 4 → version_of (field 0 2 bytes) ≡ None
    → is_tag (field 0 2 bytes) ≡ true → behind_type bytes ≡ Err Cut
unfolding behind_type
tag_short [] long short none is = absurd (omega (arith, long))
tag_short (a ∷ []) long short none is = absurd (omega (arith, long))
tag_short (a ∷ b ∷ []) long short none is = rw (none, is) refl
tag_short (a ∷ b ∷ c ∷ []) long short none is = rw (none, is) refl
tag_short (a ∷ b ∷ c ∷ d ∷ rest) long short none is = absurd (omega (arith, short))

-- a tag is skipped
pub tag_step : (bytes : List ℕ) → 4 ≤ length bytes → version_of (field 0 2 bytes) ≡ None
    → is_tag (field 0 2 bytes) ≡ true → behind_type bytes ≡ behind_type (drop 4 bytes)
unfolding behind_type
tag_step [] long none is = absurd (omega (arith, long))
tag_step (a ∷ []) long none is = absurd (omega (arith, long))
tag_step (a ∷ b ∷ []) long none is = absurd (omega (arith, long))
tag_step (a ∷ b ∷ c ∷ []) long none is = absurd (omega (arith, long))
tag_step (a ∷ b ∷ c ∷ d ∷ rest) long none is = rw (none, is) refl

-- the same, as the code slices it
pub tag_cut_off : (bytes : List ℕ) → 4 ≤ length bytes → version_of (field 0 2 bytes) ≡ None
    → is_tag (field 0 2 bytes) ≡ true
    → behind_type bytes ≡ behind_type (take (length bytes - 4) (drop 4 bytes))
tag_cut_off bytes long none is = rw (take_rest bytes 4) (tag_step bytes long none is)

-- an extension header has at least 8 bytes
extension_long : (next : ℕ) (body : List ℕ) → 8 ≤ extension_len next body
extension_long next body = grind (arith, nat_tests)

-- more steps than headers change nothing
pub headers_enough : (n m next : ℕ) (body : List ℕ) → length body < n → length body < m
    → behind_headers n next body ≡ behind_headers m next body
unfolding behind_headers
headers_enough zero m next body some other = absurd (omega (arith, some))
headers_enough (suc n) zero next body some other = absurd (omega (arith, other))
headers_enough (suc n) (suc m) next [] some other = refl
headers_enough (suc n) (suc m) next (x ∷ rest) some other =
    let len = extension_len next (x ∷ rest) in
    let long : 8 ≤ len = extension_long next (x ∷ rest) in
    let short : length (drop len (x ∷ rest)) ≡ length (x ∷ rest) - len = length-drop len (x ∷ rest) in
    let same : behind_headers n x (drop len (x ∷ rest)) ≡ behind_headers m x (drop len (x ∷ rest)) =
    headers_enough n m x (drop len (x ∷ rest)) (omega arith) (omega arith) in
    rw same refl

-- an extension header is skipped
pub extension_step : (next : ℕ) (body : List ℕ) → is_extension next ≡ true → 8 ≤ length body
    → is_ip6_fragment next body ≡ false → extension_len next body ≤ length body
    → behind_extensions next body ≡ behind_extensions (byte 0 body) (drop (extension_len next body) body)
unfolding behind_headers
extension_step next body is long whole all =
    let eight : nat_lt (length body) 8 ≡ false = grind (arith, nat_tests, long) in
    let inside : nat_lt (length body) (extension_len next body) ≡ false = grind (arith, nat_tests, all) in
    let some : 8 ≤ extension_len next body = extension_long next body in
    let rest = drop (extension_len next body) body in
    let short : length rest ≡ length body - extension_len next body = length-drop (extension_len next body) body in
    let same : behind_headers (length body) (byte 0 body) rest ≡ behind_headers (suc (length rest)) (byte 0 body) rest =
    headers_enough (length body) (suc (length rest)) (byte 0 body) rest (omega arith) (omega arith) in
    rw (is, eight, whole, inside) same

-- the same, as the code slices it
pub extension_cut_off : (next : ℕ) (body : List ℕ) (len : ℕ) → len ≡ extension_len next body → is_extension next ≡ true
    → 8 ≤ length body → is_ip6_fragment next body ≡ false → len ≤ length body
    → behind_extensions next body ≡ behind_extensions (byte 0 body) (take (length body - len) (drop len body))
extension_cut_off next body len len_is is long whole all =
    rw (take_rest body len, len_is) (extension_step next body is long whole (rw (sym len_is) all))

-- no extension header
pub extension_none : (next : ℕ) (body : List ℕ) → is_extension next ≡ false → behind_extensions next body ≡ Ok (next, body)
unfolding behind_headers
extension_none next body none = rw none refl

-- an extension header that is shorter than any of them can be
pub extension_short : (next : ℕ) (body : List ℕ) → is_extension next ≡ true → length body < 8
    → behind_extensions next body ≡ Err Malformed
unfolding behind_headers
extension_short next body is short =
    let eight : nat_lt (length body) 8 ≡ true = grind (arith, nat_tests, short) in
    rw (is, eight) refl

-- a fragment
pub extension_divides : (next : ℕ) (body : List ℕ) → is_extension next ≡ true → 8 ≤ length body
    → is_ip6_fragment next body ≡ true → behind_extensions next body ≡ Err Fragment
unfolding behind_headers
extension_divides next body is long divides =
    let eight : nat_lt (length body) 8 ≡ false = grind (arith, nat_tests, long) in
    rw (is, eight, divides) refl

-- an extension header that is longer than the bytes
pub extension_over : (next : ℕ) (body : List ℕ) (len : ℕ) → len ≡ extension_len next body → is_extension next ≡ true
    → 8 ≤ length body → is_ip6_fragment next body ≡ false → length body < len
    → behind_extensions next body ≡ Err Malformed
unfolding behind_headers
extension_over next body len len_is is long whole over =
    let eight : nat_lt (length body) 8 ≡ false = grind (arith, nat_tests, long) in
    let more : length body < extension_len next body = rw (sym len_is) over in
    let outside : nat_lt (length body) (extension_len next body) ≡ true = grind (arith, nat_tests, more) in
    rw (is, eight, whole, outside) refl
