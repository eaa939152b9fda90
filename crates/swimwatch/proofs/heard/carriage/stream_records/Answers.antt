use Rattle.std.proofs.Common.{◌≡◌, ℕ, List, subst, sym, ◌∙◌, rules}
use Rattle.std.specs.Prelude.{◌≢◌}
use Rattle.swim_claim.specs.declared.claim.Claim.{Claim}
use Rattle.swim_wire.specs.declared.fault.WireFault.TheVariants as wire
use Rattle.memberlist_transport.specs.declared.in_the_clear.InTheClear.{InTheClear}
use Rattle.memberlist_transport.specs.Stream.{IsStreamIn}
use Rattle.memberlist_transport.proofs.Streams.{one_stream}
use Rattle.swimwatch.specs.Carriage.{IsStreamOf}
use Rattle.swimwatch.specs.Records.{BeginsWithStream}
use Rattle.swimwatch.proofs.heard.carriage.stream_records.Goals as goal

-- what is opened is one stream, which begins with no claims
no_claims : (clear : InTheClear) (keys : List (List ℕ)) (bytes stream text : List ℕ)
    → IsStreamIn 33554432 clear keys bytes stream → text ≡ stream
    → ((claims : List Claim) → ¬ BeginsWithStream text claims) → (claims : List Claim) → ¬ IsStreamOf clear keys bytes claims
no_claims clear keys bytes stream text opened same none claims (other, is, begins) =
    none claims
    (subst (λ (s : List ℕ). BeginsWithStream s claims)
    (one_stream 33554432 33554432 clear clear keys bytes other stream is opened ∙ sym same) begins)

pub returns-in-Err-Ended-clause-none : goal.returns-in-Err-Ended-clause-none
returns-in-Err-Ended-clause-none c = λ other.
    let faulty : c.in-Err-Ended.field-0 ≢ wire.Memory = search rules in
    no_claims c.args.clear c.args.keys.now c.args.bytes.now c.in-Ok.stream.items c.deref.result.now c.in-Ok.ensures.unwraps
    c.deref.ensures.value (c.in-Err-Ended.ensures.none faulty)

pub returns-in-Ok : goal.returns-in-Ok
returns-in-Ok c =
    let faulty : c.in-Err-read_records.fault ≢ wire.Memory = search rules in
    record {
      ok = tt;
      none =
          λ other.
          no_claims c.args.clear c.args.keys.now c.args.bytes.now c.in-Ok.stream.items c.deref.result.now c.in-Ok.ensures.unwraps
          c.deref.ensures.value (c.in-Err-read_records.ensures.none faulty);
    }

pub returns-clause-none : goal.returns-clause-none
returns-clause-none c = λ other claims is. c.in-Err.ensures.refuses (λ e. other (c.cause_of.ensures.1 e)) is.0 is.1
