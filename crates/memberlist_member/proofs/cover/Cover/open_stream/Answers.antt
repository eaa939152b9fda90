-- Without a want of memory, what is refused has nothing inside.
use Rattle.std.proofs.Common.{sym, subst}
use Rattle.memberlist_transport.specs.Unwrapped.{IsInsideReply}
use Rattle.memberlist_member.proofs.cover.Cover.open_stream.Goals as goal

pub returns-in_default : goal.returns-in_default
returns-in_default c short has inner inside =
    c.in-Err.ensures.refuses (λ same. c.in_default.not-Memory same) inner
    (subst (λ label. IsInsideReply 20971520 c.args.self.now.clear c.args.self.now.keys label c.args.bytes.now inner) (sym c.deref.ensures.value) inside)
