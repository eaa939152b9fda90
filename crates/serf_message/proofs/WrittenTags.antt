-- Tags that are written are read back.
use Rattle.std.proofs.Common.{◌≡◌, ℕ, ◌+◌, ◌<◌, ◌^◌, ltb, List, [], ◌∷◌, ◌++◌, length, Ok, refl, sym, ap, ◌∙◌, append_assoc, append-nil}
use Rattle.std.proofs.lemmas.Bool.{ltb-true}
use Rattle.std.specs.List.{AllByRecursion, flat_map}
use Rattle.byteorder.specs.Endian.{big_bytes}
use Rattle.swim_pack.specs.Spelling.{raw_text}
use Rattle.serf_message.specs.Forms.{form_of, long_form_of}
use Rattle.serf_message.specs.Many.{map_len_of, map_len_at, many_at}
use Rattle.serf_message.specs.Tags.{TagValue, IsShortTag, tag_at, tags_at, tag_text, tags_of, tags_bytes}
use Rattle.serf_message.specs.Writing.{map_len_text}
use Rattle.serf_message.proofs.Again.{read, split, map_form, fixed_again, two_again, text_again}
use Rattle.serf_message.proofs.Skipped.{many_again}

pub map_len_again : (n : ℕ) (rest : List ℕ) → n < 2 ^ 16 → map_len_at (map_len_text n ++ rest) ≡ read n rest
unfolding map_len_at map_len_of form_of long_form_of
map_len_again n rest lt =
    split (ltb n 16) (λ (t : List ℕ). map_len_at (t ++ rest) ≡ read n rest) ((0x80 + n) ∷ []) (0xde ∷ big_bytes 2 n)
    (λ e. rw (map_form n (ltb-true _ _ e)) (fixed_again n rest)) (λ _. two_again n rest lt)

tag_again : (tag : TagValue) (rest : List ℕ) → IsShortTag tag → tag_at (tag_text tag ++ rest) ≡ read tag rest
unfolding tag_at
tag_again tag rest fits = rw (
  append_assoc (raw_text tag.0) (raw_text tag.1) rest,
  text_again tag.0 (raw_text tag.1 ++ rest) fits.0,
  text_again tag.1 rest fits.1,
) refl

pub tags_again : (tags : List TagValue) → length tags < 2 ^ 16 → AllByRecursion IsShortTag tags → tags_of (tags_bytes tags) ≡ Ok tags
unfolding tags_at
tags_again tags few all =
    let many = ap (many_at tag_at (length tags)) (sym (append-nil (flat_map tag_text tags)))
    ∙ many_again tag_at tag_text IsShortTag tag_again tags [] all in
    rw (map_len_again (length tags) (flat_map tag_text tags) few, many) refl
