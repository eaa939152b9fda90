-- The push/pull stream in one direction of a connection, and the error if there is none.
use Rattle.std.specs.Prelude.{◌≡◌, ℕ, List, Some, None}
use Rattle.memberlist_cipher.specs.declared.fault.CipherFault.{CipherFault}
use Rattle.memberlist_cipher.specs.declared.fault.CipherFault.TheVariants as cipher
use Rattle.memberlist_cipher.specs.Fault.{cipher_number}
use Rattle.memberlist_transport.specs.declared.in_the_clear.InTheClear.{InTheClear}
use Rattle.memberlist_transport.specs.declared.fault.StreamFault.{StreamFault}
use Rattle.memberlist_transport.specs.declared.fault.StreamFault.TheVariants as stream
use Rattle.memberlist_transport.specs.Stream.{ReasonFor as ReasonForFault, IsStreamIn as IsStreamWithin}
use Rattle.memberlist_wrap.specs.declared.fault.WrapFault.{WrapFault}
use Rattle.memberlist_wrap.specs.declared.fault.WrapFault.TheVariants as wrap
use Rattle.memberlist_wrap.specs.Fault.{wrap_number}
use Rattle.swim_program.specs.declared.report.What.{What}
use Rattle.swim_program.specs.declared.report.What.TheVariants.{Refused, Memory}
use Rattle.swim_program.specs.Limits.{max_input_len}

-- the bytes are the stream, in wrappers, if that is read, or encrypted under the first key that
-- decrypts them
abbrev pub IsStreamIn : InTheClear → List (List ℕ) → List ℕ → List ℕ → Type 0
IsStreamIn policy keys bytes stream = IsStreamWithin max_input_len policy keys bytes stream

-- the number of the fault for a stream that is not encrypted
abbrev pub unencrypted : ℕ
unencrypted = 59

-- the error for bytes that wrap no message
abbrev pub what_of_wrap : WrapFault → What
what_of_wrap wrap.Memory = Memory
what_of_wrap fault = Refused (wrap_number fault) None

-- the error for bytes that no key decrypts
abbrev pub what_of_cipher : CipherFault → What
what_of_cipher cipher.Memory = Memory
what_of_cipher fault = Refused (cipher_number fault) None

-- the error for bytes that hold no stream
abbrev pub what_of_stream : StreamFault → What
what_of_stream (stream.Wrapped fault) = what_of_wrap fault
what_of_stream (stream.Closed fault) = what_of_cipher fault
what_of_stream stream.Unencrypted = Refused unencrypted None
what_of_stream (stream.NoStream first) = Refused 16 (Some first)
what_of_stream stream.Empty = Refused 1 None
what_of_stream stream.Memory = Memory

-- what a refusal says about bytes: the fault for which they hold none
abbrev pub ReasonFor : InTheClear → List (List ℕ) → List ℕ → What → Type 0
ReasonFor policy keys bytes what =
    (fault : StreamFault) × ReasonForFault max_input_len policy keys bytes fault
    × (what ≡ what_of_stream fault)
