use Rattle.swim_c.specs.Exchanges.{OfferedInForm}
use Rattle.swim_c.specs.Forms.{wanted}
use Rattle.swim_c.proofs.exchanging.offer_in_form.Goals as goal

pub returns-in-Ok : goal.returns-in-Ok
returns-in-Ok c = OfferedInForm.in_form (wanted c.in-Ok.form c.args.user.now) c.in-Ok.ensures.ok c.offer_out.ensures
