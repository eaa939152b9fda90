use Rattle.memberlist_member.proofs.Compounding.{fits}
use Rattle.memberlist_member.proofs.laws.each_datagram_fits.Goals as goal

pub returns : goal.returns
returns c = fits
