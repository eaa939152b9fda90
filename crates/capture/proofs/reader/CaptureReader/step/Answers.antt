use Rattle.std.proofs.Common.{◌≡◌, sym, ap, ◌∙◌}
use Rattle.capture.specs.Blocks.{section_text}
use Rattle.capture.specs.Captures.{state_of}
use Rattle.capture.specs.Captures.CaptureState.{pcap, pcapng}
use Rattle.capture.proofs.reader.CaptureReader.step.Goals as goal
use Rattle.capture.proofs.reader.CaptureReader.step.Goals.{in-Pcap, in-Pcapng}

pub returns-clause-exact : goal.returns-clause-exact
returns-clause-exact g c = elim c.match-self.branch [
  | in-Pcap w ↦
      let state : c.args.self.now ≡ pcap w.in-Pcap.file = sym c.self.view_is ∙ ap state_of w.in-Pcap.is in
      rw (w.self-inside-is, w.bytes-is, w.inlet-is, w.result-is, state) w.step_pcap.ensures
  | in-Pcapng w ↦
      let state : c.args.self.now ≡ pcapng (section_text w.in-Pcapng.section) =
      sym c.self.view_is ∙ ap state_of w.in-Pcapng.is in
      rw (w.self-inside-is, w.bytes-is, w.inlet-is, w.result-is, state) w.step_pcapng.ensures.exact
]
