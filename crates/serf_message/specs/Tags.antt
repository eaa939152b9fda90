-- The tags of a member, and their reading from its metadata (serf.go, decodeTags and encodeTags).
use Rattle.std.specs.Prelude.{ℕ, ◌<◌, ◌^◌, ◌==◌, List, [], ◌∷◌, ◌++◌, length, codes, Result, Ok, if◌then◌else◌}
use Rattle.std.specs.List.{flat_map}
use Rattle.swim_pack.specs.Composing.{◌>>=◌, gives}
use Rattle.swim_pack.specs.Spelling.{raw_text}
use Rattle.serf_message.specs.declared.fault.SerfFault.{SerfFault}
use Rattle.serf_message.specs.declared.tags.Tag.{Tag}
use Rattle.serf_message.specs.Reading.{Reading, text_at, alone}
use Rattle.serf_message.specs.Many.{map_len_at, many_at}
use Rattle.serf_message.specs.Writing.{map_len_text}

-- a tag: its name and its value
abbrev pub TagValue : Type 0
TagValue = List ℕ × List ℕ

abbrev pub tag_value : Tag → TagValue
tag_value tag = (tag.name.items, tag.value.items)

-- a tag: two texts
unfoldable pub tag_at : Reading TagValue
tag_at = do
  name ← text_at
  value ← text_at
  gives (name, value)

-- a map of tags
unfoldable pub tags_at : Reading (List TagValue)
tags_at = do
  n ← map_len_at
  many_at tag_at n

-- metadata without tags is the role of the member
abbrev pub role_of : List ℕ → List TagValue
role_of metadata = (codes "role", metadata) ∷ []

-- the tags in metadata: byte 255 and a map of them
abbrev pub tags_of : List ℕ → Result (List TagValue) SerfFault
tags_of [] = Ok (role_of [])
tags_of (first ∷ body) = if first == 255 then alone (tags_at body) else Ok (role_of (first ∷ body))

-- the bytes of a tag
abbrev pub tag_text : TagValue → List ℕ
tag_text tag = raw_text tag.0 ++ raw_text tag.1

-- the metadata with these tags
abbrev pub tags_bytes : List TagValue → List ℕ
tags_bytes tags = 255 ∷ map_len_text (length tags) ++ flat_map tag_text tags

-- the texts of a tag are short enough for a length in two bytes
abbrev pub IsShortTag : TagValue → Type 0
IsShortTag tag = (length tag.0 < 2 ^ 16) × (length tag.1 < 2 ^ 16)
