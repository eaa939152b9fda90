-- What the first byte of a MessagePack value announces.
use Rattle.std.specs.Prelude.{ℕ, ◌-◌, Option, Some, None, nat_lt, ◌==◌, if◌then◌else◌}
use Rattle.serf_message.specs.declared.form.Count.TheVariants.{Fixed, One, Two, Four}
use Rattle.serf_message.specs.declared.form.Form.{Form}
use Rattle.serf_message.specs.declared.form.Form.TheVariants.{Nil, Plain, Text, Bytes, List, Map, Extension}

-- the form of a value that starts with c4 to df
unfoldable pub long_form_of : ℕ → Form
long_form_of first =
    if first == 0xc4 then Bytes One else
    if first == 0xc5 then Bytes Two else
    if first == 0xc6 then Bytes Four else
    if first == 0xc7 then Extension One else
    if first == 0xc8 then Extension Two else
    if first == 0xc9 then Extension Four else
    if first == 0xca then Plain 4 else
    if first == 0xcb then Plain 8 else
    if first == 0xcc then Plain 1 else
    if first == 0xcd then Plain 2 else
    if first == 0xce then Plain 4 else
    if first == 0xcf then Plain 8 else
    if first == 0xd0 then Plain 1 else
    if first == 0xd1 then Plain 2 else
    if first == 0xd2 then Plain 4 else
    if first == 0xd3 then Plain 8 else
    if first == 0xd4 then Extension (Fixed 1) else
    if first == 0xd5 then Extension (Fixed 2) else
    if first == 0xd6 then Extension (Fixed 4) else
    if first == 0xd7 then Extension (Fixed 8) else
    if first == 0xd8 then Extension (Fixed 16) else
    if first == 0xd9 then Text One else
    if first == 0xda then Text Two else
    if first == 0xdb then Text Four else
    if first == 0xdc then List Two else
    if first == 0xdd then List Four else
    if first == 0xde then Map Two else Map Four

-- the form of a value by its first byte; no value starts with c1
unfoldable pub form_of : ℕ → Option Form
form_of first =
    if nat_lt first 0x80 then Some (Plain 0) else
    if nat_lt first 0x90 then Some (Map (Fixed (first - 0x80))) else
    if nat_lt first 0xa0 then Some (List (Fixed (first - 0x90))) else
    if nat_lt first 0xc0 then Some (Text (Fixed (first - 0xa0))) else
    if first == 0xc0 then Some Nil else
    if first == 0xc1 then None else
    if nat_lt first 0xc4 then Some (Plain 0) else
    if nat_lt first 0xe0 then Some (long_form_of first) else Some (Plain 0)
