use Rattle.std.proofs.Common.{inl, inr, refl, sym, ◌∙◌}
use Rattle.memberlist_member.proofs.Lines.{line_grows}
use Rattle.memberlist_member.proofs.member.Member.keep_bytes.Goals as goal

pub returns-then-saturating_add-gt-MAX_STREAM-clause-grows : goal.returns-then-saturating_add-gt-MAX_STREAM-clause-grows
returns-then-saturating_add-gt-MAX_STREAM-clause-grows c each came has =
    line_grows c.args.self.now c.args.conn c.in-Some.index c.index_mut-connection.result.now c.index_mut-connection.result.now c.args.bytes.now
    (sym c.index_of.ensures.first ∙ c.in-Some.is) c.index_mut-connection.ensures.value refl (inl refl) each came has

pub returns-in_err-take-clause-grows : goal.returns-in_err-take-clause-grows
returns-in_err-take-clause-grows c each came has =
    line_grows c.args.self.now c.args.conn c.in-Some.index c.index_mut-connection.result.now c.take.new.self c.args.bytes.now
    (sym c.index_of.ensures.first ∙ c.in-Some.is) c.index_mut-connection.ensures.value c.take.ensures.stays.conn
    (inl c.in_err-take.ensures.refused) each came has

pub returns-clause-grows : goal.returns-clause-grows
returns-clause-grows c each came has =
    line_grows c.args.self.now c.args.conn c.in-Some.index c.index_mut-connection.result.now c.take.new.self c.args.bytes.now
    (sym c.index_of.ensures.first ∙ c.in-Some.is) c.index_mut-connection.ensures.value c.take.ensures.stays.conn
    (inr c.in_ok-take.ensures.came) each came has
