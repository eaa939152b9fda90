-- A listing shows all that its table says.
use Rattle.std.proofs.Common.{◌≡◌, ◌≢◌, ℕ, ◌<◌, ◌≤◌, ◌^◌, Option, Some, None, List, [], ◌∷◌, ◌++◌, Contains, true}
use Rattle.std.proofs.Common.{false, codes, decimal, get_or, length, length-append, append_assoc, refl, sym, ap, subst}
use Rattle.std.proofs.Common.{◌∙◌, arith}
use Rattle.std.specs.List.{list_all}
use Rattle.std.specs.Prelude.{IfSome, ◌==◌, not}
use Rattle.std.proofs.lemmas.Bool.Decides.{nat_tests}
use Rattle.std.proofs.lemmas.Fmt.{decimal_injective}
use Rattle.std.proofs.lemmas.List.Elements.{All-nil, All-cons, All-append, All-weaker, All-contains, Contains-append_right}
use Rattle.std.proofs.lemmas.List.Sums.{AllPass-from_list_all}
use Rattle.hex.specs.Hex.{encode_lower}
use Rattle.percent_encoding.specs.AsciiSet.{should_percent_encode}
use Rattle.percent_encoding.specs.Percent.{percent_encode, percent_decode}
use Rattle.percent_encoding.proofs.PercentLemmas.{IsEscapeByte, All-percent_encode, round_trip}
use Rattle.swim_claim.specs.declared.claim.Claim.{Claim}
use Rattle.swim_claim.specs.declared.claim.Claim.TheVariants.{Alive, Suspect, Confirm, Leave}
use Rattle.swim_claim.specs.declared.claim.Kind.{Kind}
use Rattle.swim_claim.specs.declared.claim.Kind.TheVariants as kind
use Rattle.swim_claim.specs.Bytes.{AreBytes}
use Rattle.swim_claim.specs.Claim.{name_of, inc_of, kind_of, IsLegalClaim}
use Rattle.swim_claim.specs.Details.{DetailsValue, IsLegalDetails}
use Rattle.swim_table.specs.declared.listing.TheConstants.{ESCAPED}
use Rattle.swim_table.specs.Standing.{Standing}
use Rattle.swim_table.specs.Table.{Entries, IsAlive, IsHomeOf, IsStandingOf, Reduced, IsLegalTable}
use Rattle.swim_table.specs.Listing.{state_word, address_text, home_text, line, listing}
use Rattle.swim_table.proofs.Fields.{Lacks, same_first, All-decimal, All-encode_lower, encode_lower_injective}
use Rattle.swim_table.proofs.Lookups.{get_contained}
use Rattle.swim_table.proofs.Tables.{alive_top_is_home}

-- ---- what no field contains

kept_is_no_space : (b : ℕ) → should_percent_encode ESCAPED b ≡ false → b ≢ 32
unfolding should_percent_encode
kept_is_no_space b kept is = let at_space : should_percent_encode ESCAPED 32 ≡ false = subst
    (λ x. should_percent_encode ESCAPED x ≡ false) is kept in cc

escape_is_no_space : (b : ℕ) → IsEscapeByte b → b ≢ 32
escape_is_no_space b escape is = absurd (grind arith)

name_lacks_space : (name : List ℕ) → Lacks 32 (percent_encode ESCAPED name)
name_lacks_space name = All-percent_encode (λ b. b ≢ 32) ESCAPED name kept_is_no_space escape_is_no_space

lacks_by_test : (separator : ℕ) (text : List ℕ) → list_all (λ b. not (b == separator)) text ≡ true → Lacks separator text
lacks_by_test separator text passed =
    All-weaker (λ b. not (b == separator) ≡ true) (λ b. b ≢ separator) (λ b test is. grind (arith, nat_tests)) text
    (AllPass-from_list_all (λ b. not (b == separator)) text passed)

state_lacks_space : (k : Kind) → Lacks 32 (state_word k)
state_lacks_space kind.Alive = lacks_by_test 32 (codes "alive") refl
state_lacks_space kind.Suspect = lacks_by_test 32 (codes "suspect") refl
state_lacks_space kind.Confirm = lacks_by_test 32 (codes "confirm") refl
state_lacks_space kind.Leave = lacks_by_test 32 (codes "leave") refl

number_lacks : (separator n : ℕ) → separator < 48 → n < 2 ^ 64 → Lacks separator (decimal n)
number_lacks separator n low small =
    All-weaker (λ b. (48 ≤ b) × (b ≤ 57)) (λ b. b ≢ separator) (λ b digit is. absurd (omega arith)) (decimal n) (All-decimal n small)

bytes_lack : (separator : ℕ) (bytes : List ℕ) → separator < 48 → AreBytes bytes → Lacks separator (encode_lower bytes)
bytes_lack separator bytes low small =
    All-weaker (λ b. (48 ≤ b) × (b ≤ 102)) (λ b. b ≢ separator)
    (λ b digit is. absurd (omega arith)) (encode_lower bytes) (All-encode_lower bytes small)

slash_lacks : (separator : ℕ) → separator < 45 → Lacks separator (codes "/")
slash_lacks separator low = All-cons (λ b. b ≢ separator) 47 [] (λ is. absurd (omega arith)) (All-nil (λ b. b ≢ separator))

-- numbers of 32 bits fit into 64
wider : (n : ℕ) → n < 2 ^ 32 → n < 2 ^ 64
wider n small = omega arith

address_lacks : (separator inc : ℕ) (d : DetailsValue) → separator < 45 → inc < 2 ^ 32 → IsLegalDetails d
    → Lacks separator (address_text inc d)
address_lacks separator inc d low small legal =
    let P : ℕ → Type 0 = λ b. b ≢ separator in
    let below : separator < 48 = omega arith in
    let slash = slash_lacks separator low in
    All-append P
    (decimal inc ++ codes "/" ++ encode_lower d.addr ++ codes "/" ++ decimal d.port ++ codes "/" ++ encode_lower d.meta ++ codes "/")
    (encode_lower d.vsn)
    (All-append P (decimal inc ++ codes "/" ++ encode_lower d.addr ++ codes "/" ++ decimal d.port
    ++ codes "/" ++ encode_lower d.meta) (codes "/")
    (All-append P (decimal inc ++ codes "/" ++ encode_lower d.addr ++ codes "/" ++ decimal d.port ++ codes "/") (encode_lower d.meta)
    (All-append P (decimal inc ++ codes "/" ++ encode_lower d.addr ++ codes "/" ++ decimal d.port) (codes "/")
    (All-append P (decimal inc ++ codes "/" ++ encode_lower d.addr ++ codes "/") (decimal d.port)
    (All-append P (decimal inc ++ codes "/" ++ encode_lower d.addr) (codes "/")
    (All-append P (decimal inc ++ codes "/") (encode_lower d.addr)
    (All-append P (decimal inc) (codes "/") (number_lacks separator inc below (wider inc small)) slash)
    (bytes_lack separator d.addr below legal.addr_bytes)) slash)
    (number_lacks separator d.port below (omega (arith, legal.port)))) slash)
    (bytes_lack separator d.meta below legal.meta_bytes)) slash)
    (bytes_lack separator d.vsn below legal.vsn_bytes)

-- ---- what a line shows

-- an Alive about the name, within its limits
pub record IsHomeFor (name : List ℕ) (home : Claim) : Type 0 where
  pub alive : IsAlive home
  pub about : name_of home ≡ name
  pub legal : IsLegalClaim home

-- an entry like those of a table
pub record IsSound (s : Standing) : Type 0 where
  pub top : IsLegalClaim s.top
  pub home : IfSome s.home (IsHomeFor (name_of s.top))
  pub alive : IsAlive s.top → s.home ≡ Some s.top

home_lacks : (separator : ℕ) (name : List ℕ) (home : Option Claim) → separator < 45
    → IfSome home (IsHomeFor name) → Lacks separator (home_text home)
home_lacks separator name None low h = All-cons (λ b. b ≢ separator) 45 [] (λ is. absurd (omega arith)) (All-nil (λ b. b ≢ separator))
home_lacks separator name (Some (Alive n i d)) low h = address_lacks separator i d low h.legal.inc h.legal.details
home_lacks separator name (Some (Suspect n i)) low h = absurd h.alive
home_lacks separator name (Some (Confirm n i)) low h = absurd h.alive
home_lacks separator name (Some (Leave n i)) low h = absurd h.alive

same_name : (xs ys : List ℕ) → AreBytes xs → AreBytes ys → percent_encode ESCAPED xs ≡ percent_encode ESCAPED ys → xs ≡ ys
same_name xs ys h g same =
    let first = round_trip ESCAPED xs refl h in
    let second = round_trip ESCAPED ys refl g in
    let text = ap percent_decode same in
    cc (first, second, text)

-- the words differ in their first letters
by_initials : (k l : Kind) → get_or (state_word k) 0 0 ≡ get_or (state_word l) 0 0 → k ≡ l
by_initials kind.Alive kind.Alive same = refl
by_initials kind.Alive kind.Suspect same = absurd (omega arith)
by_initials kind.Alive kind.Confirm same = absurd (omega arith)
by_initials kind.Alive kind.Leave same = absurd (omega arith)
by_initials kind.Suspect kind.Alive same = absurd (omega arith)
by_initials kind.Suspect kind.Suspect same = refl
by_initials kind.Suspect kind.Confirm same = absurd (omega arith)
by_initials kind.Suspect kind.Leave same = absurd (omega arith)
by_initials kind.Confirm kind.Alive same = absurd (omega arith)
by_initials kind.Confirm kind.Suspect same = absurd (omega arith)
by_initials kind.Confirm kind.Confirm same = refl
by_initials kind.Confirm kind.Leave same = absurd (omega arith)
by_initials kind.Leave kind.Alive same = absurd (omega arith)
by_initials kind.Leave kind.Suspect same = absurd (omega arith)
by_initials kind.Leave kind.Confirm same = absurd (omega arith)
by_initials kind.Leave kind.Leave same = refl

same_kind : (k l : Kind) → state_word k ≡ state_word l → k ≡ l
same_kind k l same = by_initials k l (ap (λ word. get_or word 0 0) same)

same_number : (m n : ℕ) → m < 2 ^ 32 → n < 2 ^ 32 → decimal m ≡ decimal n → m ≡ n
same_number m n small small' = decimal_injective m n (wider m small) (wider n small')

address_is : (i : ℕ) (d : DetailsValue) → address_text i d ≡ decimal i ++ 47 ∷
    (encode_lower d.addr ++ 47 ∷ (decimal d.port ++ 47 ∷ (encode_lower d.meta ++ 47 ∷ encode_lower d.vsn)))
address_is i d = simp append_assoc

same_address : (i j : ℕ) (d e : DetailsValue) → i < 2 ^ 32 → j < 2 ^ 32 → IsLegalDetails d → IsLegalDetails e
    → address_text i d ≡ address_text j e → (i ≡ j) × (d ≡ e)
same_address i j d e small small' h g same =
    let slash : 47 < 48 = omega arith in
    let ports : d.port < 2 ^ 32 = omega (arith, h.port) in
    let ports' : e.port < 2 ^ 32 = omega (arith, g.port) in
    let whole = sym (address_is i d) ∙ same ∙ address_is j e in
    let inc = same_first 47 (decimal i) (decimal j) _ _ (number_lacks 47 i slash (wider i small))
    (number_lacks 47 j slash (wider j small')) whole in
    let addr =
    same_first 47 (encode_lower d.addr) (encode_lower e.addr) _ _ (bytes_lack 47 d.addr slash h.addr_bytes)
    (bytes_lack 47 e.addr slash g.addr_bytes) inc.1 in
    let port =
    same_first 47 (decimal d.port) (decimal e.port) _ _ (number_lacks 47 d.port slash (wider d.port ports))
    (number_lacks 47 e.port slash (wider e.port ports')) addr.1 in
    let meta =
    same_first 47 (encode_lower d.meta) (encode_lower e.meta) _ _ (bytes_lack 47 d.meta slash h.meta_bytes)
    (bytes_lack 47 e.meta slash g.meta_bytes) port.1 in
    let same_addr = encode_lower_injective d.addr e.addr h.addr_bytes g.addr_bytes addr.0 in
    let same_port = same_number d.port e.port ports ports' port.0 in
    let same_meta = encode_lower_injective d.meta e.meta h.meta_bytes g.meta_bytes meta.0 in
    let same_vsn = encode_lower_injective d.vsn e.vsn h.vsn_bytes g.vsn_bytes meta.1 in
    (same_number i j small small' inc.0, λ k. record { addr = same_addr k; port = same_port k; meta = same_meta k; vsn = same_vsn k })

-- no address is the sign for none
no_address : (i : ℕ) (d : DetailsValue) → address_text i d ≢ codes "-"
no_address i d same =
    let long = ap length (sym (address_is i d) ∙ same) in
    absurd (omega (arith, length-append {A = ℕ}, simp length-append at long))

same_home : (name : List ℕ) (a b : Option Claim) → IfSome a (IsHomeFor name) → IfSome b (IsHomeFor name) → home_text a ≡ home_text b → a ≡ b
same_home name None None h g same = refl
same_home name None (Some (Alive n i d)) h g same = absurd (no_address i d (sym same))
same_home name None (Some (Suspect n i)) h g same = absurd g.alive
same_home name None (Some (Confirm n i)) h g same = absurd g.alive
same_home name None (Some (Leave n i)) h g same = absurd g.alive
same_home name (Some (Alive n i d)) None h g same = absurd (no_address i d same)
same_home name (Some (Suspect n i)) b h g same = absurd h.alive
same_home name (Some (Confirm n i)) b h g same = absurd h.alive
same_home name (Some (Leave n i)) b h g same = absurd h.alive
same_home name (Some (Alive n i d)) (Some (Suspect m j)) h g same = absurd g.alive
same_home name (Some (Alive n i d)) (Some (Confirm m j)) h g same = absurd g.alive
same_home name (Some (Alive n i d)) (Some (Leave m j)) h g same = absurd g.alive
same_home name (Some (Alive n i d)) (Some (Alive m j e)) h g same =
    let parts = same_address i j d e h.legal.inc g.legal.inc h.legal.details g.legal.details same in
    let names : n ≡ m = h.about ∙ sym g.about in
    let incs = parts.0 in
    let details = parts.1 in
    cc (names, incs, details)

-- claims with one name, kind and incarnation are the same if an Alive among them is the home
same_top : (c d : Claim) (a b : Option Claim) → name_of c ≡ name_of d → kind_of c ≡ kind_of d → inc_of c ≡ inc_of d →
    (IsAlive c → a ≡ Some c) → (IsAlive d → b ≡ Some d) → a ≡ b → c ≡ d
same_top (Alive n i x) (Alive m j y) a b name kinds incs h g homes =
    let first = h tt in
    let second = g tt in
    let is : Some (Alive n i x) ≡ Some (Alive m j y) = sym first ∙ homes ∙ second in
    cc (is)
same_top (Suspect n i) (Suspect m j) a b name kinds incs h g homes = cc (name, incs)
same_top (Confirm n i) (Confirm m j) a b name kinds incs h g homes = cc (name, incs)
same_top (Leave n i) (Leave m j) a b name kinds incs h g homes = cc (name, incs)
same_top (Alive n i x) (Suspect m j) a b name kinds incs h g homes = cc (kinds)
same_top (Alive n i x) (Confirm m j) a b name kinds incs h g homes = cc (kinds)
same_top (Alive n i x) (Leave m j) a b name kinds incs h g homes = cc (kinds)
same_top (Suspect n i) (Alive m j y) a b name kinds incs h g homes = cc (kinds)
same_top (Suspect n i) (Confirm m j) a b name kinds incs h g homes = cc (kinds)
same_top (Suspect n i) (Leave m j) a b name kinds incs h g homes = cc (kinds)
same_top (Confirm n i) (Alive m j y) a b name kinds incs h g homes = cc (kinds)
same_top (Confirm n i) (Suspect m j) a b name kinds incs h g homes = cc (kinds)
same_top (Confirm n i) (Leave m j) a b name kinds incs h g homes = cc (kinds)
same_top (Leave n i) (Alive m j y) a b name kinds incs h g homes = cc (kinds)
same_top (Leave n i) (Suspect m j) a b name kinds incs h g homes = cc (kinds)
same_top (Leave n i) (Confirm m j) a b name kinds incs h g homes = cc (kinds)

line_is : (s : Standing) (after : List ℕ) → line s ++ after ≡ percent_encode ESCAPED (name_of s.top) ++ 32 ∷
    (state_word (kind_of s.top) ++ 32 ∷ (decimal (inc_of s.top) ++ 32 ∷ (home_text s.home ++ 10 ∷ after)))
line_is s after = simp append_assoc

-- equal listings have the same first entry, and the same lines after it
same_line : (s t : Standing) (us vs : List ℕ) → IsSound s → IsSound t → line s ++ us ≡ line t ++ vs → (s ≡ t) × (us ≡ vs)
same_line s t us vs h g same =
    let space : 32 < 48 = omega arith in
    let feed : 10 < 45 = omega arith in
    let whole = sym (line_is s us) ∙ same ∙ line_is t vs in
    let name =
    same_first 32 (percent_encode ESCAPED (name_of s.top)) (percent_encode ESCAPED (name_of t.top)) _ _
    (name_lacks_space (name_of s.top)) (name_lacks_space (name_of t.top)) whole in
    let state =
    same_first 32 (state_word (kind_of s.top)) (state_word (kind_of t.top)) _ _
    (state_lacks_space (kind_of s.top)) (state_lacks_space (kind_of t.top)) name.1 in
    let inc =
    same_first 32 (decimal (inc_of s.top)) (decimal (inc_of t.top)) _ _
    (number_lacks 32 (inc_of s.top) space (wider (inc_of s.top) h.top.inc))
    (number_lacks 32 (inc_of t.top) space (wider (inc_of t.top) g.top.inc)) state.1 in
    let home =
    same_first 10 (home_text s.home) (home_text t.home) us vs (home_lacks 10 (name_of s.top) s.home feed h.home)
    (home_lacks 10 (name_of t.top) t.home feed g.home) inc.1 in
    let names = same_name (name_of s.top) (name_of t.top) h.top.name.bytes g.top.name.bytes name.0 in
    let homes = same_home (name_of t.top) s.home t.home (subst (λ n. IfSome s.home (IsHomeFor n)) names h.home) g.home home.0 in
    let tops =
    same_top s.top t.top s.home t.home names (same_kind (kind_of s.top) (kind_of t.top) state.0)
    (same_number (inc_of s.top) (inc_of t.top) h.top.inc g.top.inc inc.0) h.alive g.alive homes in
    (λ k. record { top = tops k; home = homes k }, home.1)

-- ---- what a listing shows

-- every entry of the table is sound
abbrev AreSound : Entries → Type 0
AreSound table = (s : Standing) → Contains table s → IsSound s

sound_first : (s : Standing) (table : Entries) → AreSound (s ∷ table) → IsSound s
sound_first s table all = all s (0, omega arith, refl)

sound_rest : (s : Standing) (table : Entries) → AreSound (s ∷ table) → AreSound table
sound_rest s table all t at = all t (Contains-append_right (s ∷ []) table t at)

no_line : (s : Standing) (after : List ℕ) → line s ++ after ≢ []
no_line s after same =
    let long = ap length (sym (line_is s after) ∙ same) in
    absurd (omega (arith, simp length-append at long))

same_entries : (table other : Entries) → AreSound table → AreSound other → listing table ≡ listing other → table ≡ other
same_entries [] [] h g same = refl
same_entries [] (t ∷ ts) h g same = absurd (no_line t (listing ts) (sym same))
same_entries (s ∷ ss) [] h g same = absurd (no_line s (listing ss) same)
same_entries (s ∷ ss) (t ∷ ts) h g same =
    let both = same_line s t (listing ss) (listing ts) (sound_first s ss h) (sound_first t ts g) same in
    let rest = same_entries ss ts (sound_rest s ss h) (sound_rest t ts g) both.1 in
    let first = both.0 in
    cc (first, rest)

home_sound : (table : Entries) → IsLegalTable table → (name : List ℕ) (home : Option Claim)
    → IsHomeOf (Reduced table) name home → IfSome home (IsHomeFor name)
home_sound table legal name None h = tt
home_sound table legal name (Some a) h = record {
  alive = h.1.alive;
  about = h.0;
  legal = All-contains IsLegalClaim (Reduced table) a legal.claims h.1.made;
}

pub are_sound : (table : Entries) → IsLegalTable table → AreSound table
are_sound table legal s at =
    let says : IsStandingOf (Reduced table)
    (name_of s.top) s = rw (get_contained table s legal.own.ascending at) at
    (legal.own.each (name_of s.top)) in
    record {
      top = All-contains IsLegalClaim (Reduced table) s.top legal.claims says.top.made;
      home = home_sound table legal (name_of s.top) s.home says.home;
      alive = alive_top_is_home (Reduced table) (name_of s.top) s says;
    }

pub same_table_listed : (table other : Entries) → IsLegalTable table → IsLegalTable other → listing table ≡ listing other → table ≡ other
same_table_listed table other h g = same_entries table other (are_sound table h) (are_sound other g)
