-- How much a program reads and writes.
use Rattle.std.specs.Prelude.{ℕ}

-- bytes of one input or output
abbrev pub max_input_len : ℕ
max_input_len = 268435456

-- interrupted reads of one input that are retried
abbrev pub max_retries : ℕ
max_retries = 1000
