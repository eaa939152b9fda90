-- What is reported about lines that are refused.
use Rattle.std.proofs.Common.{◌≡◌, ◌≢◌, inl, inr, ℕ, Bool, true, List, ◌∷◌, None, Result, Ok, Err, length}
use Rattle.std.proofs.Common.{map, get_or, codes, Bor, refl, sym, ap, subst, arith}
use Rattle.std.specs.Prelude.{IfErr}
use Rattle.std.specs.Result.{IsErrAnd}
use Rattle.swim_claim.specs.Details.{DetailsValue, IsLegalDetails}
use Rattle.swim_claim.specs.Name.{IsLegalName}
use Rattle.swim_program.specs.declared.report.What.{What}
use Rattle.swim_program.specs.declared.report.What.TheVariants.{Refused}
use Rattle.swim_program.specs.Report.{TellsDatagram}
use Rattle.swim_script.specs.declared.keyword.Keyword.{Keyword}
use Rattle.swim_script.specs.declared.keyword.Keyword.TheVariants as key
use Rattle.swim_script.specs.Refusals.{NoNumber, NoBytes, NoName, NoDetails, NoNode, RefusesNode, RefusesHear, RefusesEvent, RefusesWords}
use Rattle.swim_script.specs.Refusals.NoNode.{no_addr, no_port, no_meta, no_vsn, no_inc, no_name, no_details}
use Rattle.swim_script.specs.Refusals.RefusesHear.{no_number, no_hex, no_datagram}
use Rattle.swim_script.specs.Refusals.RefusesWords.{hear, other}
use Rattle.swim_script.specs.Script.{Start, SaysNode, NodeFields, NodeWords, HexBytes, NodeNumber}
use Rattle.swim_script.specs.ScriptReading.{RefusesStart, SpellsNode, word_of}
use Rattle.swim_script.proofs.ScriptLines.{two_words, six_words, node_told, details_told, other_line, first_word}

-- what the exit of a `?` returns
pub exit_with : {V : Type 0} (result : Result V What) (what : What) (P : What → Type 0)
    → IsErrAnd result (λ w. w ≡ what) → P what → IfErr result P
exit_with (Ok value) what P is told = absurd is
exit_with (Err error) what P is told = subst P (sym is) told

-- ---- a node

-- one of the six words is wrong
pub node_wrong : (fields : List (Bor (List ℕ))) (d : Bor (List ℕ)) (what : What) → length fields ≡ 6
    → NoNode (get_or fields 0 d).now (get_or fields 1 d).now (get_or fields 2 d).now
    (get_or fields 3 d).now (get_or fields 4 d).now (get_or fields 5 d).now what
    → RefusesNode (map (λ w. w.now) fields) what
node_wrong fields d what l own = inr (
  (get_or fields 0 d).now,
  (get_or fields 1 d).now,
  (get_or fields 2 d).now,
  (get_or fields 3 d).now,
  (get_or fields 4 d).now,
  (get_or fields 5 d).now,
  six_words fields d l,
  own,
)

-- they say this
pub node_spelled : (fields : List (Bor (List ℕ))) (d : Bor (List ℕ)) (start : Start) → length fields ≡ 6
    → SaysNode (get_or fields 0 d).now (get_or fields 1 d).now (get_or fields 2 d).now
    (get_or fields 3 d).now (get_or fields 4 d).now (get_or fields 5 d).now start
    → SpellsNode (map (λ w. w.now) fields) start
node_spelled fields d start l own = (
  (get_or fields 0 d).now,
  (get_or fields 1 d).now,
  (get_or fields 2 d).now,
  (get_or fields 3 d).now,
  (get_or fields 4 d).now,
  (get_or fields 5 d).now,
  six_words fields d l,
  own,
)

-- the words say a name and details that are valid
pub start_right : (fields : List (List ℕ)) (start : Start) → SpellsNode fields start
    → IsLegalName start.name → IsLegalDetails start.details → NodeWords (codes "node" ∷ fields) start
start_right fields start (name, addr, port, meta, vsn, inc, words, said) legal_name legal_details = (
  name,
  addr,
  port,
  meta,
  vsn,
  inc,
  ap (λ t. codes "node" ∷ t) words,
  record { says = said; legal_name = legal_name; legal_details = legal_details },
)

-- the words say a name or details that are invalid
pub start_wrong : (fields : List (List ℕ)) (start : Start) (what : What) → SpellsNode fields start
    → RefusesStart start what → RefusesNode fields what
start_wrong fields start what (name, addr, port, meta, vsn, inc, words, said) bad =
    inr (name, addr, port, meta, vsn, inc, words, wrong bad)
  where
    wrong : RefusesStart start what → NoNode name addr port meta vsn inc what
    wrong (inl name) = no_name start.details start.inc said.addr said.port said.meta said.vsn said.inc
        (subst (λ n. NoName n what) said.name name)
    wrong (inr details) = no_details start.details start.inc said.addr said.port said.meta said.vsn said.inc
        (subst IsLegalName said.name details.0) details.1

-- what is reported says that they are invalid
illegal_name : (name : List ℕ) (what : What) → NoName name what → ¬ IsLegalName name
illegal_name name what (inl empty) legal = omega (arith, ap length empty.0, legal.least)
illegal_name name what (inr long) legal = omega (arith, long.0, legal.most)

illegal_details : (details : DetailsValue) (what : What) → NoDetails details what → ¬ IsLegalDetails details
illegal_details details what (inl addr) legal = addr.0 legal.addr
illegal_details details what (inr (inl meta)) legal = omega (arith, meta.1, legal.meta)
illegal_details details what (inr (inr vsn)) legal = vsn.2 legal.vsn

-- words about which something is reported are not those of a node
not_node : (name addr port meta vsn inc : List ℕ) (what : What) (start : Start)
    → NoNode name addr port meta vsn inc what → ¬ NodeFields name addr port meta vsn inc start
not_node name addr port meta vsn inc what start (no_addr none) own = none.0 start.details.addr own.says.addr
not_node name addr port meta vsn inc what start (no_port a ha none) own = none.0 start.details.port own.says.port
not_node name addr port meta vsn inc what start (no_meta a p ha hp none) own = none.0 start.details.meta own.says.meta
not_node name addr port meta vsn inc what start (no_vsn a m p ha hp hm none) own = none.0 start.details.vsn own.says.vsn
not_node name addr port meta vsn inc what start (no_inc a m v p ha hp hm hv none) own = none.0 start.inc own.says.inc
not_node name addr port meta vsn inc what start (no_name d i ha hp hm hv hi bad) own =
    illegal_name start.name what (subst (λ n. NoName n what) (sym own.says.name) bad) own.legal_name
not_node name addr port meta vsn inc what start (no_details d i ha hp hm hv hi legal bad) own =
    let same = details_told name addr port meta vsn inc start d.addr d.port d.meta d.vsn own.says ha hp hm hv in
    illegal_details d what bad (subst IsLegalDetails same own.legal_details)

pub node_refused : (fields : List (List ℕ)) (what : What) (start : Start) → RefusesNode fields what
    → ¬ NodeWords (codes "node" ∷ fields) start
node_refused fields what start (inl many) own = many.0 (omega (arith, ap length own.6))
node_refused fields what start (inr (name, addr, port, meta, vsn, inc, words, wrong)) own =
    not_node name addr port meta vsn inc what start wrong (node_told fields name addr port meta vsn inc start words own)

-- ---- what is heard

pub hear_no_number : (fields : List (Bor (List ℕ))) (d : Bor (List ℕ)) (what : What) → length fields ≡ 2
    → NoNumber 18446744073709551615 (get_or fields 0 d).now what → RefusesHear (map (λ w. w.now) fields) what
hear_no_number fields d what l none = no_number (get_or fields 0 d).now (get_or fields 1 d).now (two_words fields d l) none

pub hear_no_hex : (fields : List (Bor (List ℕ))) (d : Bor (List ℕ)) (k : ℕ) (what : What) → length fields ≡ 2
    → NodeNumber (get_or fields 0 d).now k → NoBytes (get_or fields 1 d).now what → RefusesHear (map (λ w. w.now) fields) what
hear_no_hex fields d k what l n none = no_hex (get_or fields 0 d).now (get_or fields 1 d).now k (two_words fields d l) n none

pub hear_no_datagram : (fields : List (Bor (List ℕ))) (d : Bor (List ℕ)) (k : ℕ) (bytes : List ℕ) (what : What) → length fields ≡ 2
    → NodeNumber (get_or fields 0 d).now k → HexBytes (get_or fields 1 d).now bytes → TellsDatagram bytes what
    → RefusesHear (map (λ w. w.now) fields) what
hear_no_datagram fields d k bytes what l n h told = no_datagram (get_or fields 0 d).now
    (get_or fields 1 d).now bytes k (two_words fields d l) n h told

-- ---- a line

-- no line begins with the first word
pub unknown_wrong : (nodes : Bool) (first : List ℕ) (fields : List (List ℕ)) (what : What) → ((keyword : Keyword) → first ≢ word_of keyword)
    → what ≡ Refused 31 None → RefusesWords nodes (first ∷ fields) what
unknown_wrong nodes first fields what unknown is =
    other (λ may more e. unknown key.Node (first_word first (codes "node") fields more e))
    (λ more e. unknown key.Hear (first_word first (codes "hear") fields more e)) is

-- a line begins with the first word
pub event_wrong : (nodes : Bool) (keyword : Keyword) (fields : List (List ℕ)) (what : What) → (keyword ≡ key.Node → nodes ≡ true → ⊥)
    → RefusesEvent keyword fields what → RefusesWords nodes (word_of keyword ∷ fields) what
event_wrong nodes key.Node fields what no_node is =
    other (λ may more e. no_node refl may) (λ more e. other_line (codes "node") (codes "hear") fields more refl e) is
event_wrong nodes key.Hear fields what no_node own = hear fields refl own
event_wrong nodes key.Exchange fields what no_node is =
    other (λ may more e. other_line (codes "exchange") (codes "node") fields more refl e)
    (λ more e. other_line (codes "exchange") (codes "hear") fields more refl e) is
event_wrong nodes key.Half fields what no_node is =
    other (λ may more e. other_line (codes "half") (codes "node") fields more refl e)
    (λ more e. other_line (codes "half") (codes "hear") fields more refl e) is
event_wrong nodes key.Refute fields what no_node is =
    other (λ may more e. other_line (codes "refute") (codes "node") fields more refl e)
    (λ more e. other_line (codes "refute") (codes "hear") fields more refl e) is
event_wrong nodes key.Level fields what no_node is =
    other (λ may more e. other_line (codes "level") (codes "node") fields more refl e)
    (λ more e. other_line (codes "level") (codes "hear") fields more refl e) is
