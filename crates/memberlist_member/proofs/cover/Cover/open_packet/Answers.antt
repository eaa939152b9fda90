-- Without a want of memory, what is refused has nothing inside.
use Rattle.memberlist_member.proofs.cover.Cover.open_packet.Goals as goal

pub returns-in_default : goal.returns-in_default
returns-in_default c has inner inside = c.in-Err.ensures.refuses (λ same. c.in_default.not-Memory same) inner inside
