-- The readings of lists of values, and of the lengths of lists and maps.
use Rattle.std.specs.Prelude.{ℕ, zero, suc, List, [], ◌∷◌, Option, Some, None, Result, Ok}
use Rattle.swim_pack.specs.Composing.{◌>>=◌, gives, refuses}
use Rattle.serf_message.specs.declared.fault.SerfFault.{SerfFault}
use Rattle.serf_message.specs.declared.fault.SerfFault.TheVariants.{NotMap, NotList}
use Rattle.serf_message.specs.declared.form.Form.{Form}
use Rattle.serf_message.specs.declared.form.Form.TheVariants as forms
use Rattle.serf_message.specs.Forms.{form_of}
use Rattle.serf_message.specs.Reading.{Reading, byte_at, count_at, field_bytes_at, without_rest}

-- this many values, one after the other
unfoldable pub many_at : {A : Type 0} → Reading A → ℕ → Reading (List A)
many_at reading zero = gives []
many_at reading (suc n) = do
  first ← reading
  others ← many_at reading n
  gives (first ∷ others)

-- the number of values of a list of this form; nil is an empty list
unfoldable pub list_len_of : Option Form → Reading ℕ
list_len_of None = refuses NotList
list_len_of (Some forms.Nil) = gives 0
list_len_of (Some (forms.Plain size)) = refuses NotList
list_len_of (Some (forms.Text count)) = refuses NotList
list_len_of (Some (forms.Bytes count)) = refuses NotList
list_len_of (Some (forms.List count)) = count_at count
list_len_of (Some (forms.Map count)) = refuses NotList
list_len_of (Some (forms.Extension count)) = refuses NotList

-- the number of values of a list
unfoldable pub list_len_at : Reading ℕ
list_len_at = do
  first ← byte_at
  list_len_of (form_of first)

-- the number of pairs of a map of this form; nil is an empty map
unfoldable pub map_len_of : Option Form → Reading ℕ
map_len_of None = refuses NotMap
map_len_of (Some forms.Nil) = gives 0
map_len_of (Some (forms.Plain size)) = refuses NotMap
map_len_of (Some (forms.Text count)) = refuses NotMap
map_len_of (Some (forms.Bytes count)) = refuses NotMap
map_len_of (Some (forms.List count)) = refuses NotMap
map_len_of (Some (forms.Map count)) = count_at count
map_len_of (Some (forms.Extension count)) = refuses NotMap

-- the number of pairs of a map
unfoldable pub map_len_at : Reading ℕ
map_len_at = do
  first ← byte_at
  map_len_of (form_of first)

-- the list in the bytes of a value; a value that was not read is an empty list
abbrev pub listed : {A : Type 0} → Reading A → List ℕ → Result (List A) SerfFault
listed reading [] = Ok []
listed reading (first ∷ rest) = without_rest ((list_len_at >>= many_at reading) (first ∷ rest))

-- texts or bytes, each as the value of a field
abbrev pub fresh_bytes_at : Reading (List ℕ)
fresh_bytes_at = field_bytes_at []
