use Rattle.std.proofs.Common.{◌≡◌, ◌∙◌, ap, length, arith}
use Rattle.swim_sync.proofs.Exchanging.{sent, both_joined}
use Rattle.swim_sync.proofs.push_pull.exchange_few.Goals as goal

pub join_in-requires : goal.join_in-requires
join_in-requires c =
    let theirs : c.in_ok-replied-2.replied ≡ c.args.second.now =
    sent c.in_ok-replied.replied c.deref-2.result.now c.args.second.now c.in_ok-replied-2.replied _ c.len-2.ensures.legal
    c.in_ok-replied.ensures.too_many (c.deref-2.ensures.value ∙ c.in_ok-replied.ensures.canonical) c.in_ok-replied-2.ensures.back
    in
    let same = ap length theirs in
    let own = c.len.ensures.len in
    let other = c.len-2.ensures.len in
    let room = c.in_ok-own_room.ensures in
    omega arith

pub join_in-requires-2 : goal.join_in-requires-2
join_in-requires-2 c =
    let ours : c.in_ok-offered-2.offered ≡ c.args.first.now =
    sent c.in_ok-offered.offered c.deref.result.now c.args.first.now c.in_ok-offered-2.offered _ c.len.ensures.legal
    c.in_ok-offered.ensures.too_many (c.deref.ensures.value ∙ c.in_ok-offered.ensures.canonical) c.in_ok-offered-2.ensures.back in
    let same = ap length ours in
    let own = c.len.ensures.len in
    let other = c.len-2.ensures.len in
    let room = c.in_ok-other_room.ensures in
    omega arith

pub returns-clause-joins : goal.returns-clause-joins
returns-clause-joins c =
    let theirs : c.in_ok-replied-2.replied ≡ c.args.second.now =
    sent c.in_ok-replied.replied c.deref-2.result.now c.args.second.now c.in_ok-replied-2.replied _ c.len-2.ensures.legal
    c.in_ok-replied.ensures.too_many (c.deref-2.ensures.value ∙ c.in_ok-replied.ensures.canonical) c.in_ok-replied-2.ensures.back
    in
    let ours : c.in_ok-offered-2.offered ≡ c.args.first.now =
    sent c.in_ok-offered.offered c.deref.result.now c.args.first.now c.in_ok-offered-2.offered _ c.len.ensures.legal
    c.in_ok-offered.ensures.too_many (c.deref.ensures.value ∙ c.in_ok-offered.ensures.canonical) c.in_ok-offered-2.ensures.back in
    both_joined _ _ _ _ _ _ theirs ours c.join_in.ensures.join c.join_in-2.ensures.join
