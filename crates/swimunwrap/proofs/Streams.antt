-- The error for bytes that hold no stream is not a device fault, and not that of a length.
use Rattle.std.proofs.Common.{ℕ, Option, Some, None, arith}
use Rattle.std.specs.Prelude.{◌≢◌}
use Rattle.memberlist_cipher.specs.declared.fault.CipherFault.{CipherFault}
use Rattle.memberlist_cipher.specs.declared.fault.CipherFault.TheVariants as cipher
use Rattle.memberlist_transport.specs.declared.fault.StreamFault.{StreamFault}
use Rattle.memberlist_transport.specs.declared.fault.StreamFault.TheVariants as stream
use Rattle.memberlist_wrap.specs.declared.fault.WrapFault.{WrapFault}
use Rattle.memberlist_wrap.specs.declared.fault.WrapFault.TheVariants as wrap
use Rattle.swim_program.specs.declared.report.What.{What}
use Rattle.swim_program.specs.declared.report.What.TheVariants.{Refused, Device, Memory}
use Rattle.swimunwrap.specs.Stream.{what_of_wrap, what_of_cipher, what_of_stream}

-- it is not a device fault, and not that of a length
abbrev pub IsOwn : What → Type 0
IsOwn what = (what ≢ Device) × (what ≢ Refused 32 None)

refused_own : (n : ℕ) (found : Option ℕ) → n ≢ 32 → IsOwn (Refused n found)
refused_own n found other = ((λ e. absurd cc), (λ e. other cc))

memory_own : IsOwn Memory
memory_own = ((λ e. absurd cc), (λ e. absurd cc))

wrap_own : (fault : WrapFault) → IsOwn (what_of_wrap fault)
wrap_own wrap.Ended = refused_own 40 None (λ e. absurd (omega (arith, e)))
wrap_own wrap.Trailing = refused_own 41 None (λ e. absurd (omega (arith, e)))
wrap_own wrap.BadCode = refused_own 42 None (λ e. absurd (omega (arith, e)))
wrap_own wrap.BadChecksum = refused_own 43 None (λ e. absurd (omega (arith, e)))
wrap_own wrap.BadMap = refused_own 44 None (λ e. absurd (omega (arith, e)))
wrap_own wrap.BadAlgo = refused_own 45 None (λ e. absurd (omega (arith, e)))
wrap_own wrap.BadLabel = refused_own 46 None (λ e. absurd (omega (arith, e)))
wrap_own wrap.TooLarge = refused_own 47 None (λ e. absurd (omega (arith, e)))
wrap_own wrap.TooDeep = refused_own 48 None (λ e. absurd (omega (arith, e)))
wrap_own wrap.Memory = memory_own

cipher_own : (fault : CipherFault) → IsOwn (what_of_cipher fault)
cipher_own cipher.BadKey = refused_own 50 None (λ e. absurd (omega (arith, e)))
cipher_own cipher.TooLong = refused_own 51 None (λ e. absurd (omega (arith, e)))
cipher_own cipher.TooShort = refused_own 52 None (λ e. absurd (omega (arith, e)))
cipher_own cipher.WrongVersion = refused_own 53 None (λ e. absurd (omega (arith, e)))
cipher_own cipher.WrongTag = refused_own 54 None (λ e. absurd (omega (arith, e)))
cipher_own cipher.BadPadding = refused_own 55 None (λ e. absurd (omega (arith, e)))
cipher_own cipher.NotEncrypted = refused_own 56 None (λ e. absurd (omega (arith, e)))
cipher_own cipher.Trailing = refused_own 57 None (λ e. absurd (omega (arith, e)))
cipher_own cipher.Memory = memory_own

pub own : (fault : StreamFault) → IsOwn (what_of_stream fault)
own (stream.Wrapped fault) = wrap_own fault
own (stream.Closed fault) = cipher_own fault
own stream.Unencrypted = refused_own 59 None (λ e. absurd (omega (arith, e)))
own (stream.NoStream first) = refused_own 16 (Some first) (λ e. absurd (omega (arith, e)))
own stream.Empty = refused_own 1 None (λ e. absurd (omega (arith, e)))
own stream.Memory = memory_own
