use Rattle.swim_wire.proofs.SpelledCompounds.{DatagramText-canonical}
use Rattle.swim_wire.proofs.SpelledTexts.{PacketText-canonical, HeaderText-canonical, Fits-legal, StateText-canonical, StateText-beside}
use Rattle.swim_wire.proofs.canonical_law.canonical.Goals as goal

pub returns-clause-packet : goal.returns-clause-packet
returns-clause-packet c = PacketText-canonical

pub returns-clause-header : goal.returns-clause-header
returns-clause-header c = HeaderText-canonical

pub returns-clause-state : goal.returns-clause-state
returns-clause-state c = StateText-canonical

pub returns-clause-state_with : goal.returns-clause-state_with
returns-clause-state_with c claim details legal fits = StateText-beside claim details legal (Fits-legal details fits)

pub returns-clause-compound : goal.returns-clause-compound
returns-clause-compound c = DatagramText-canonical
