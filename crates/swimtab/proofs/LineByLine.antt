-- The claims of the lines, one line after another.
use Rattle.std.proofs.Common.{◌≡◌, ◌⊎◌, inl, inr, ℕ, ◌+◌, ◌<◌, List, [], ◌∷◌, ◌++◌, length, map, get_or, Result, Ok}
use Rattle.std.proofs.Common.{Err, OnOk, IfErr, ◌≢◌, refl, sym, ap, ap₂, subst, ◌∙◌, take, length-take-le, append_assoc}
use Rattle.std.proofs.Common.{append-nil, zero, suc, drop, arith}
use Rattle.std.specs.List.{enumerate_from}
use Rattle.std.specs.Str.Lines.{strip_carriage_return}
use Rattle.std.proofs.lemmas.List.FromFn.{length-enumerate_from, get_or-enumerate_from}
use Rattle.hex.specs.Hex.{decode_of}
use Rattle.hex.specs.declared.error.FromHexError.{FromHexError}
use Rattle.hex.specs.declared.error.FromHexError.TheVariants.{OutOfMemory}
use Rattle.swim_claim.specs.declared.claim.Claim.{Claim}
use Rattle.swim_wire.specs.Packet.{PacketValue}
use Rattle.swim_wire.specs.Texts.{DatagramText}
use Rattle.std.proofs.Math.Seq.{split_at}
use Rattle.swim_table.specs.Table.{Entries, TableOf}
use Rattle.swim_program.specs.declared.report.Place.{Place}
use Rattle.swim_program.specs.declared.report.What.{What}
use Rattle.swim_program.specs.declared.report.What.TheVariants.{Memory}
use Rattle.swim_program.specs.declared.report.Place.TheVariants.{Line}
use Rattle.swim_program.specs.Lines.{input_lines}
use Rattle.swim_program.specs.Report.{TellsDatagram, what_of_hex}
use Rattle.swimtab.specs.Lines.TellsText.{no_hex, no_datagram}
use Rattle.swimtab.specs.Lines.{TextClaims, LineClaims, EachLine, TellsText, IsFirstWrong}

-- the packets of the bytes of a text make its claims
pub text_claims : (text bytes : List ℕ) (packets : List PacketValue) (claims : List Claim) → 0 < length text → decode_of text ≡ Ok bytes
    → DatagramText bytes packets → claims ≡ map (λ p. p.claim) packets → TextClaims text claims
text_claims [] bytes packets claims some e t k = absurd (omega arith)
text_claims (digit ∷ digits) bytes packets claims some e t k = (bytes, packets, e, t, k)

-- if the bytes of a text are not packets, it makes no claims
pub no_text_claims : (text bytes : List ℕ) (claims : List Claim) → 0 < length text → decode_of text ≡ Ok bytes
    → ((packets : List PacketValue) → ¬ DatagramText bytes packets) → ¬ TextClaims text claims
no_text_claims [] bytes claims some e none t = absurd (omega arith)
no_text_claims (digit ∷ digits) bytes claims some e none t =
    let one : Ok t.0 ≡ Ok bytes = sym t.2 ∙ e in
    let same : t.0 ≡ bytes = cc in
    none t.1 (subst (λ b. DatagramText b t.1) same t.3)

-- taking in the claims of the packets of a text takes in those of the text
pub text_taken : {X : Type 0} (text bytes : List ℕ) (old new : Entries) (result : Result X What)
    → 0 < length text → decode_of text ≡ Ok bytes
    → OnOk result ((packets : List PacketValue) × DatagramText bytes packets
    × ((taken : List Claim) → TableOf old taken → TableOf new (taken ++ map (λ p. p.claim) packets)))
    → OnOk result ((claims : List Claim) × TextClaims text claims
    × ((taken : List Claim) → TableOf old taken → TableOf new (taken ++ claims)))
text_taken text bytes old new (Ok done) some e took =
    (map (λ p. p.claim) took.0, text_claims text bytes took.0 (map (λ p. p.claim) took.0) some e took.1 refl, took.2)
text_taken text bytes old new (Err what) some e took = tt

-- and what is refused for packets is refused for the text
pub text_refused : {X : Type 0} (text bytes : List ℕ) (result : Result X What) → 0 < length text → decode_of text ≡ Ok bytes
    → IfErr result (λ what. what ≢ Memory → (packets : List PacketValue) → ¬ DatagramText bytes packets)
    → IfErr result (λ what. what ≢ Memory → (claims : List Claim) → ¬ TextClaims text claims)
text_refused text bytes (Ok done) some e none = tt
text_refused text bytes (Err what) some e none = λ seen claims. no_text_claims text bytes claims some e (none seen)

-- what is reported about a text that is not hexadecimal
pub text_no_hex : (text : List ℕ) (error : FromHexError) (what : What) → (error ≡ OutOfMemory) ⊎ (decode_of text ≡ Err error)
    → what ≡ what_of_hex error → what ≢ Memory → TellsText text what
text_no_hex text OutOfMemory what why is seen = absurd (seen is)
text_no_hex text error what (inl same) is seen = absurd cc
text_no_hex text error what (inr none) is seen = no_hex error none is

-- what is reported about the bytes of a text is reported about the text
pub text_told : {X : Type 0} (text bytes : List ℕ) (result : Result X What) → decode_of text ≡ Ok bytes
    → IfErr result (λ what. what ≢ Memory → TellsDatagram bytes what) → IfErr result (λ what. what ≢ Memory → TellsText text what)
text_told text bytes (Ok done) e told = tt
text_told text bytes (Err what) e told = λ seen. no_datagram bytes e (told seen)

-- one more line
pub EachLine-push : (lines : List (List ℕ)) (line : List ℕ) (claims own : List Claim) → EachLine lines claims
    → LineClaims line own → EachLine (lines ++ line ∷ []) (claims ++ own)
EachLine-push [] line claims own each h = (own, [], h, refl, ap (λ t. t ++ own) each ∙ sym (append-nil own))
EachLine-push (first ∷ lines) line claims own each h = (
  each.0,
  each.1 ++ own,
  each.2,
  EachLine-push lines line each.1 own each.3 h,
  ap (λ t. t ++ own) each.4 ∙ append_assoc each.0 each.1 own,
)

-- each line makes claims
pub EachLine-at : (lines : List (List ℕ)) (n : ℕ) (d : List ℕ) (claims : List Claim) → n < length lines
    → EachLine lines claims → (own : List Claim) × LineClaims (get_or lines n d) own
EachLine-at [] n d claims l each = absurd (omega arith)
EachLine-at (line ∷ lines) zero d claims l each = (each.0, each.2)
EachLine-at (line ∷ lines) (suc n) d claims l each = EachLine-at lines n d each.1 (omega arith) each.3

-- a line that makes no claims, by its index
pub no_claims_at : (lines : List (List ℕ)) (n index : ℕ) (line : List ℕ) (claims : List Claim)
    → (n < length (enumerate_from 0 lines)) × ((index, line) ≡ get_or (enumerate_from 0 lines) n (index, line))
    → ((own : List Claim) → ¬ LineClaims line own) → ¬ EachLine lines claims
no_claims_at lines n index line claims here none each =
    let within : n < length lines = omega (arith, here.0, length-enumerate_from 0 lines) in
    let same : line ≡ get_or lines n line = ap (λ p. p.1) (here.1 ∙ get_or-enumerate_from 0 lines n (index, line) within) in
    let own = EachLine-at lines n line claims within each in
    none own.0 (subst (λ l. LineClaims l own.0) (sym same) own.1)

-- a line that makes no claims, after lines that make some
pub first_wrong : (input : List ℕ) (before : List (List ℕ)) (n index : ℕ) (line : List ℕ)
    (claims : List Claim) (place : Place) (what : What)
    → before ≡ take n (input_lines input)
    → (n < length (enumerate_from 0 (input_lines input))) × ((index, line) ≡ get_or (enumerate_from 0 (input_lines input)) n (index, line))
    → EachLine before claims → ((own : List Claim) → ¬ LineClaims line own) → TellsText (strip_carriage_return line) what
    → place ≡ Line (index + 1) → IsFirstWrong input place what
first_wrong input before n index line claims place what front here each none told named =
    let lines = input_lines input in
    let within : n < length lines = omega (arith, here.0, length-enumerate_from 0 lines) in
    let at : (index, line) ≡ (0 + n, get_or lines n line) = here.1 ∙ get_or-enumerate_from 0 lines n (index, line) within in
    let counted : index ≡ 0 + n = ap (λ (p : ℕ × List ℕ). p.0) at in
    let many : length before ≡ n = ap length front ∙ length-take-le n lines (omega (arith, within)) in
    record {
      before = before;
      line = line;
      after = drop (suc n) lines;
      lines = split_at lines n line within ∙ ap₂ (λ xs x. xs ++ x ∷ drop (suc n) lines) (sym front) (sym (ap (λ (p : ℕ × List ℕ). p.1) at));
      claims = claims;
      right = each;
      wrong = none;
      told = told;
      named = named ∙ ap Line (omega (arith, counted, many));
    }
