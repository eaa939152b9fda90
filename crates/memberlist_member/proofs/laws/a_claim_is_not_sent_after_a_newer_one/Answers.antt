use Rattle.memberlist_member.specs.Runs.Event.{added}
use Rattle.memberlist_member.proofs.Members.{in_from_contains}
use Rattle.memberlist_member.proofs.Running.{not_after_a_newer_one}
use Rattle.memberlist_member.proofs.laws.a_claim_is_not_sent_after_a_newer_one.Goals as goal

pub returns : goal.returns
returns c limit events picked waiting next newer sent run was_added is_picked about =
    not_after_a_newer_one limit events picked waiting next newer sent run (in_from_contains events (added newer) was_added)
    (in_from_contains picked sent is_picked) about
