-- One more leaf is read.
use Rattle.std.proofs.Common.{◌≡◌, ℕ, ◌+◌, ◌<◌, List, [], ◌∷◌, ◌++◌, map, take, length, Bor, refl, sym, ap, subst, ◌∙◌}
use Rattle.std.proofs.Common.{append_assoc, append-nil}
use Rattle.std.proofs.lemmas.List.{map-append}
use Rattle.memberlist_message.specs.Messages.{MessageValue, message_of}
use Rattle.swimwatch.specs.Datagrams.{if_read, messages_in, Gives, Reads}

-- the part that a slice has where it ends
abbrev pub no_part : Bor (List ℕ)
no_part = record { ref_ptr = (0, 0); now = [] }

-- the last message is read last
pub message_read : (parts : List (List ℕ)) (part : List ℕ)
    → messages_in (parts ++ part ∷ []) ≡ messages_in parts ++ if_read (message_of part)
message_read [] part = append-nil (if_read (message_of part))
message_read (first ∷ parts) part =
    ap (λ (ms : List MessageValue). if_read (message_of first) ++ ms) (message_read parts part)
    ∙ sym (append_assoc (if_read (message_of first)) (messages_in parts) (if_read (message_of part)))

-- the last leaf is read last
pub leaf_read : (room : ℕ) (parts : List (List ℕ)) (part : List ℕ) (old mid new : List MessageValue)
    (rest left : ℕ) → Reads room parts old mid rest
    → Gives rest part mid new left → Reads room (parts ++ part ∷ []) old new left
leaf_read room [] part old mid new rest left same last = (
  new,
  left,
  subst (λ (r : ℕ). Gives r part old new left) same.1 (subst (λ (ms : List MessageValue). Gives rest part ms new left) same.0 last),
  (refl, refl),
)
leaf_read room (first ∷ parts) part old mid new rest left (next, between, gives, later) last =
    (next, between, gives, leaf_read between parts part next mid new rest left later last)

-- the bytes of one more part
pub one_more_part : (parts : List (Bor (List ℕ))) (i : ℕ) (part : Bor (List ℕ)) → i < length parts
    → take (i + 1) parts ≡ take i parts ++ part ∷ []
    → map (λ (p : Bor (List ℕ)). p.now) (take (i + 1) parts) ≡ map (λ (p : Bor (List ℕ)). p.now) (take i parts) ++ part.now ∷ []
one_more_part parts i part within is =
    ap (λ (ps : List (Bor (List ℕ))). map (λ (p : Bor (List ℕ)). p.now) ps) is ∙ map-append
    (λ (p : Bor (List ℕ)). p.now) (take i parts) (part ∷ [])
