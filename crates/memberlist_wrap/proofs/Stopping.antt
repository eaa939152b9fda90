-- Where the reading of codes stops.
use Rattle.std.proofs.Common.{◌≡◌, ◌≢◌, ℕ, ◌+◌, ◌<◌, ◌≤◌, List, ◌++◌, length, arith}
use Rattle.std.proofs.lemmas.List.{length-append}
use Rattle.memberlist_wrap.specs.declared.fault.WrapFault.TheVariants.{Ended, Trailing, BadCode, TooLarge}
use Rattle.memberlist_wrap.specs.Fault.{ReasonForLzw}
use Rattle.memberlist_wrap.specs.Lzw.{NextCode, width, kept_words, StandsFor, CodesGive, Lzw}
use Rattle.memberlist_wrap.specs.Dictionary.{DecoderState}
use Rattle.memberlist_wrap.proofs.Codes.{CodesGive-word}

pub ends : (bytes : List ℕ) (done : DecoderState) (rest more : List ℕ) (code : ℕ) → CodesGive bytes done.output done.words rest
    → NextCode done.words rest code more → code ≡ 257 → length more < 8
    → Lzw bytes done.output
ends bytes done rest more code reaches next is short =
    record { words = done.words; rest = rest; reaches = reaches; ends = record { padding = more; code = rw is at next.is; short = short } }

pub ended : (limit : ℕ) (bytes : List ℕ) (done : DecoderState) (rest : List ℕ) → CodesGive bytes done.output done.words rest
    → length rest < width (length done.words) → ReasonForLzw limit Ended bytes
ended limit bytes done rest reaches few = record { out = done.output; words = done.words; rest = rest; reaches = reaches; stops = few }

pub trailing : (limit : ℕ) (bytes : List ℕ) (done : DecoderState) (rest more : List ℕ) (code : ℕ)
    → CodesGive bytes done.output done.words rest → NextCode done.words rest code more → code ≡ 257
    → 8 ≤ length more → ReasonForLzw limit Trailing bytes
trailing limit bytes done rest more code reaches next is long =
    record { out = done.output; words = done.words; rest = rest; reaches = reaches; stops = (more, rw is at next, long) }

pub bad_code : (limit : ℕ) (bytes : List ℕ) (done : DecoderState) (rest more : List ℕ) (code : ℕ)
    → CodesGive bytes done.output done.words rest → NextCode done.words rest code more
    → code ≢ 256 → code ≢ 257 → ((word : List ℕ) → ¬ StandsFor done.words code word) → ReasonForLzw limit BadCode bytes
bad_code limit bytes done rest more code reaches next no_clear no_end none =
    record { out = done.output; words = done.words; rest = rest; reaches = reaches; stops = (code, more, next, no_clear, no_end, none) }

pub large : (limit : ℕ) (bytes : List ℕ) (done : DecoderState) (rest more : List ℕ) (code : ℕ)
    → CodesGive bytes done.output done.words rest → NextCode done.words rest code more
    → (word : List ℕ) × StandsFor done.words code word × (limit < length done.output + length word) → ReasonForLzw limit TooLarge bytes
large limit bytes done rest more code reaches next long =
    let past = long.2 in record {
      out = done.output ++ long.0;
      words = kept_words done.words long.0;
      rest = more;
      reaches = CodesGive-word bytes done.output done.words rest more long.0 code reaches next long.1;
      stops = omega (arith, length-append done.output long.0);
    }
