use Rattle.swimwatch.proofs.Flowing.{on_ok}
use Rattle.swimwatch.proofs.Seats.{alike_later}
use Rattle.swimwatch.proofs.listening.views.Views.show_end.Goals as goal

pub returns-then-len-gt1 : goal.returns-then-len-gt1
returns-then-len-gt1 c =
    let told = alike_later _ _ _ c.in_ok-print_all.ensures.alike c.in_ok-tell_queries.ensures.alike in
    on_ok c.finish_members.result (λ h. alike_later _ _ _ told h) c.finish_members.ensures

pub returns : goal.returns
returns c =
    let told = alike_later _ _ _ c.in_ok-print_all.ensures.alike c.in_ok-tell_queries.ensures.alike in
    on_ok c.finish_view.result (λ h. alike_later _ _ _ told h) c.finish_view.ensures
