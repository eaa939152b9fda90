-- Readings of captures that consume no more than determines their value.
use Rattle.std.proofs.Common.{◌≡◌, ℕ, ◌-◌, ◌<◌, ◌==◌, true, false, Bool, ltb, nat_lt, List, [], ◌∷◌, ◌++◌, length, take, drop}
use Rattle.std.proofs.Common.{Ok, Err, Result, refl, sym, ap, ◌∙◌, if◌then◌else◌, length-append, arith}
use Rattle.std.proofs.lemmas.Bool.{ltb-false}
use Rattle.std.proofs.lemmas.List.{take-append-drop, length-take-le}
use Rattle.std.specs.Prelude.{Option}
use Rattle.swim_pack.specs.Composing.{Reading, ConsumesMinimalPrefix, ReadsAs, lift, same}
use Rattle.swim_pack.proofs.Composing.{ConsumedText, Reads-lift, none_shorter}
use Rattle.swim_pack.proofs.Prompt.{IsPrompt, prompt-then, prompt-gives, prompt-refuses, prompt-some_or, prompt-if}
use Rattle.capture.specs.declared.capture_fault.CaptureFault.TheVariants.{NotCapture, Cut}
use Rattle.capture.specs.declared.order.Order.{Order}
use Rattle.capture.specs.declared.order.Order.TheVariants.{Big, Little}
use Rattle.capture.specs.declared.pcap.Pcap.{Pcap}
use Rattle.capture.specs.declared.pcap.Precision.{Precision}
use Rattle.capture.specs.declared.pcap.Precision.TheVariants.{Microseconds, Nanoseconds}
use Rattle.capture.specs.declared.record.Record.{Record}
use Rattle.capture.specs.declared.stop.Stop.{Stop}
use Rattle.capture.specs.declared.stop.Stop.TheVariants.{End, Fault}
use Rattle.capture.specs.Captures.{CaptureState, Step, begin_at, pcap_file, pcapng_file, file_of, step_at, fault_of, fault_cause}
use Rattle.capture.specs.Captures.CaptureState.{pcap, pcapng}
use Rattle.capture.specs.Pcap.{RecordText, pcap_behind, pcap_record}
use Rattle.capture.specs.Pcapng.{SectionText, room_in, closed, section_at, interface_at}
use Rattle.capture.specs.Pcapng.{packet_at, timed_packet, simple_packet, other_at, next_other}
use Rattle.capture.specs.Pcapng.{next_section, next_interface, block_of, block_at}
use Rattle.capture.specs.Taking.{stop_cause, order_of, field, next_part, first_byte, next_header, skipped, captured_at, checked_version}
use Rattle.capture.specs.Whole.{holding}
use Rattle.capture.proofs.Parts.{next_part-cut, next_part-whole, Reads-text}
use Rattle.capture.proofs.Steps.{causes}

abbrev pair_of : {A : Type 0} → A → List ℕ → A × List ℕ
pair_of x r = (x, r)

abbrev pub read : {A : Type 0} → A → List ℕ → Result (A × List ℕ) Stop
read value rest = Ok (value, rest)

pub same_value : {A : Type 0} (x y : A) (r s : List ℕ) → read x r ≡ read y s → x ≡ y
same_value x y r s e = let pairs : pair_of x r ≡ pair_of y s = cc in ap (λ (p : _ × List ℕ). p.0) pairs

pub same_rest : {A : Type 0} (x y : A) (r s : List ℕ) → read x r ≡ read y s → r ≡ s
same_rest x y r s e = let pairs : pair_of x r ≡ pair_of y s = cc in ap (λ (p : _ × List ℕ). p.1) pairs

-- ---- parts

prompt-first : IsPrompt stop_cause first_byte
prompt-first = record { by = taken }
  where
    waiting : (first : ℕ) (front more : List ℕ) → first ∷ [] ≡ front ++ more → 0 < length more → front ≡ []
    waiting first [] more parts some = refl
    waiting first (x ∷ front) more parts some = absurd (omega (arith, ap length parts ∙ length-append (x ∷ front) more, some))

    taken : (bytes value rest : List ℕ) → first_byte bytes ≡ Ok (value, rest)
        → ConsumedText (ConsumesMinimalPrefix {X = List ℕ} stop_cause same first_byte (Ok value)) bytes rest
    taken [] value rest e = absurd cc
    taken (first ∷ bytes) value rest e = record {
      text = first ∷ [];
      is = record {
        determines = λ more. ap (λ v. read v more) (same_value (first ∷ []) value bytes rest e);
        waits = λ free front more parts some. rw (waiting first front more parts some) refl;
      };
      parts = ap (λ (r : List ℕ). first ∷ r) (same_rest (first ∷ []) value bytes rest e);
    }

prompt-part : (n : ℕ) → IsPrompt stop_cause (next_part n)
prompt-part n = record { by = λ bytes value rest e. by_length bytes value rest (ltb (length bytes) n) refl e }
  where
    by_length : (bytes value rest : List ℕ) (b : Bool) → ltb (length bytes) n ≡ b
        → (if b then Err (Fault Cut) else read (take n bytes) (drop n bytes)) ≡ Ok (value, rest)
        → ConsumedText (ConsumesMinimalPrefix {X = List ℕ} stop_cause same (next_part n) (Ok value)) bytes rest
    by_length bytes value rest true is e = absurd cc
    by_length bytes value rest false is e =
        let long : length (take n bytes) ≡ n = length-take-le n bytes (ltb-false _ _ is) in
        record {
          text = take n bytes;
          is = record {
            determines =
                λ more. next_part-whole n (take n bytes) more long ∙ ap (λ (v : List ℕ). read v more)
                (same_value (take n bytes) value (drop n bytes) rest e);
            waits = λ free front more parts some. rw (next_part-cut n front
                (omega (arith, long, ap length parts ∙ length-append front more, some))) refl;
          };
          parts =
              sym (take-append-drop n bytes) ∙ ap
              (λ (r : List ℕ). take n bytes ++ r)
              (same_rest (take n bytes) value (drop n bytes) rest e);
        }

prompt-header : (n : ℕ) → IsPrompt stop_cause (next_header n)
unfolding next_header
prompt-header n = prompt-then prompt-first (λ first. prompt-then (prompt-part (n - 1)) (λ rest. prompt-gives _))

prompt-captured : (n : ℕ) → IsPrompt stop_cause (captured_at n)
unfolding captured_at
prompt-captured n = prompt-if (nat_lt 262144 n) (prompt-refuses _) (prompt-part n)

prompt-version : (wanted major : ℕ) → IsPrompt stop_cause (checked_version wanted major)
prompt-version wanted major = prompt-if _ (prompt-gives _) (prompt-refuses _)

-- ---- pcap

prompt-file : (order : Order) (precision : Precision) → IsPrompt stop_cause (pcap_file order precision)
unfolding pcap_file pcap_behind
prompt-file order precision =
    prompt-then (prompt-then (prompt-part 20) (λ header. prompt-then (prompt-version 2 _) (λ checked. prompt-gives _)))
    (λ file. prompt-gives _)

prompt-record : (file : Pcap) → IsPrompt stop_cause (pcap_record file)
unfolding pcap_record
prompt-record file = prompt-then (prompt-header 16) (λ header. prompt-then (prompt-captured _) (λ bytes. prompt-gives _))

-- ---- pcapng

prompt-room : (fields total : ℕ) → IsPrompt stop_cause (room_in fields total)
prompt-room fields total = prompt-if _ (prompt-if _ (prompt-refuses _) (prompt-gives _)) (prompt-refuses _)

prompt-closed : (order : Order) (n total : ℕ) → IsPrompt stop_cause (closed order n total)
unfolding closed skipped
prompt-closed order n total =
    prompt-then (prompt-then (prompt-part n) (λ bytes. prompt-gives _)) (λ gone. prompt-then (prompt-part 4)
    (λ again. prompt-if _ (prompt-gives _) (prompt-refuses _)))

prompt-section : (claimed : List ℕ) → IsPrompt stop_cause (section_at claimed)
unfolding section_at
prompt-section claimed =
    prompt-then (prompt-part 4) (λ magic. prompt-then (prompt-some_or (Fault NotCapture) (order_of (field Big 0 4 magic)))
    (λ order. prompt-then (prompt-room 16 (field order 0 4 claimed)) (λ room. prompt-then (prompt-part 12)
    (λ version. prompt-then (prompt-version 1 (field order 0 2 version))
    (λ checked. prompt-then (prompt-closed order room (field order 0 4 claimed)) (λ gone. prompt-gives order))))))

prompt-interface : (now : SectionText) (total : ℕ) → IsPrompt stop_cause (interface_at now total)
unfolding interface_at
prompt-interface now total =
    prompt-then (prompt-room 8 total) (λ room. prompt-then (prompt-part 8) (λ fields. prompt-then (prompt-captured room)
    (λ options. prompt-then (prompt-some_or _ _) (λ clock. prompt-then (prompt-closed now.order 0 total)
    (λ gone. prompt-then (prompt-if _ (prompt-gives _) (prompt-refuses _)) (λ place. prompt-gives _))))))

prompt-packet : (order : Order) (total room captured : ℕ) (head : Record) → IsPrompt stop_cause (packet_at order total room captured head)
unfolding packet_at
prompt-packet order total room captured head =
    prompt-then (prompt-if _ (prompt-refuses _) (prompt-gives _)) (λ left. prompt-then (prompt-captured captured)
    (λ bytes. prompt-then (prompt-closed order left total) (λ gone. prompt-gives _)))

prompt-timed : (n : ℕ) (now : SectionText) (total : ℕ) → IsPrompt stop_cause (timed_packet n now total)
unfolding timed_packet
prompt-timed n now total =
    prompt-then (prompt-room 20 total) (λ room. prompt-then (prompt-part 20)
    (λ fields. prompt-then (prompt-some_or _ _) (λ on. prompt-packet now.order total room _ _)))

prompt-simple : (now : SectionText) (total : ℕ) → IsPrompt stop_cause (simple_packet now total)
unfolding simple_packet
prompt-simple now total =
    prompt-then (prompt-room 4 total) (λ room. prompt-then (prompt-part 4)
    (λ fields. prompt-then (prompt-some_or _ _) (λ on. prompt-packet now.order total room _ _)))

prompt-other : (order : Order) (total : ℕ) → IsPrompt stop_cause (next_other order total)
unfolding next_other other_at
prompt-other order total =
    prompt-then (prompt-then (prompt-room 0 total) (λ room. prompt-closed order room total)) (λ gone. prompt-gives _)

prompt-kind : (now : SectionText) (kind total : ℕ) (claimed : List ℕ) → IsPrompt stop_cause (block_of now kind total claimed)
unfolding next_section next_interface
prompt-kind now kind total claimed =
    prompt-if (kind == 0x0a0d0d0a) (prompt-then (prompt-section claimed) (λ order. prompt-gives _))
    (prompt-if (kind == 1) (prompt-then (prompt-interface now total) (λ on. prompt-gives _))
    (prompt-if (kind == 2) (prompt-timed 2 now total) (prompt-if (kind == 3) (prompt-simple now total)
    (prompt-if (kind == 6) (prompt-timed 4 now total) (prompt-other now.order total)))))

prompt-block : (now : SectionText) → IsPrompt stop_cause (block_at now)
unfolding block_at
prompt-block now =
    prompt-then (prompt-header 8)
    (λ head. prompt-kind now (field now.order 0 4 head) (field now.order 4 4 head) (take 4 (drop 4 head)))

-- ---- captures

prompt-magic : (magic : ℕ) → IsPrompt stop_cause (file_of magic)
unfolding pcapng_file
prompt-magic magic =
    prompt-if (magic == 0xa1b2c3d4) (prompt-file Big Microseconds) (prompt-if (magic == 0xd4c3b2a1) (prompt-file Little Microseconds)
    (prompt-if (magic == 0xa1b23c4d) (prompt-file Big Nanoseconds) (prompt-if (magic == 0x4d3cb2a1) (prompt-file Little Nanoseconds)
    (prompt-if (magic == 0x0a0d0d0a)
    (prompt-then (prompt-part 4) (λ claimed. prompt-then (prompt-section claimed) (λ order. prompt-gives _)))
    (prompt-refuses (Fault NotCapture))))))

prompt-begin : IsPrompt stop_cause begin_at
unfolding begin_at
prompt-begin = prompt-then (prompt-header 4) (λ magic. prompt-magic (field Big 0 4 magic))

prompt-step : (at : CaptureState) → IsPrompt stop_cause (step_at at)
unfolding step_at
prompt-step (pcap file) = prompt-then (prompt-record file) (λ read. prompt-gives _)
prompt-step (pcapng now) = prompt-then (prompt-block now) (λ block. prompt-gives _)

-- ---- reads of known bytes

reads_known : {V : Type 0} (reading : Reading Stop V) (value : V) (bytes rest : List ℕ) → IsPrompt stop_cause reading
    → reading bytes ≡ Ok (value, rest) → ReadsAs {X = V} stop_cause same reading (holding bytes) (holding rest) (Ok value)
reads_known reading value bytes rest p e =
    let t = p.by bytes value rest e in
    Reads-text {view = same} {a = holding bytes} {b = holding rest} t.text t.is t.parts (omega arith)

pub begins_known : (at : CaptureState) (bytes rest : List ℕ) → begin_at bytes ≡ Ok (at, rest)
    → ReadsAs {X = CaptureState} fault_cause same (lift fault_of begin_at) (holding bytes) (holding rest) (Ok at)
begins_known at bytes rest e = Reads-lift fault_cause fault_of causes (reads_known begin_at at bytes rest prompt-begin e)

pub steps_known : (at next : CaptureState) (bytes rest : List ℕ) (found : Option RecordText)
    → step_at at bytes ≡ Ok ((next, found), rest)
    → ReadsAs {X = Step} stop_cause same (step_at at) (holding bytes) (holding rest) (Ok (next, found))
steps_known at next bytes rest found e = reads_known (step_at at) (next, found) bytes rest (prompt-step at) e

-- there is no more to read
pub end_known : (at : CaptureState) → step_at at [] ≡ Err End
    → ReadsAs {X = Step} stop_cause same (step_at at) (holding []) (holding []) (Err End)
end_known at e = record {
  rest = ([], refl);
  answer = e;
  takes = (
    [],
    record {
      determines = λ by. absurd cc;
      waits = λ free front more parts some. absurd (none_shorter front more parts some);
    },
    refl,
  );
  fault = λ by. absurd cc;
  faults_stay = omega arith;
}
