-- Why an agent's settings are refused, and copies of its keys.
use Rattle.std.proofs.Common.{◌≡◌, ◌∙◌, ◌<◌, ◌+◌, ℕ, zero, suc, List, [], ◌∷◌, ◌++◌, take, slice_get, Result, Some, Err, ap, arith, refl, subst, sym}
use Rattle.std.proofs.lemmas.List.{take_more}
use Rattle.std.proofs.lemmas.Option.{get_or_from_slice_get, slice_get_within}
use Rattle.std.specs.Prelude.{◌↔◌}
use Rattle.swim_claim.specs.Details.{DetailsValue}
use Rattle.memberlist_member.specs.Configs.{HasIntervals, HasMultipliers, default_lan}
use Rattle.memberlist_member.specs.declared.config.Config.{Config}
use Rattle.memberlist_member.specs.declared.config.ConfigFault.{ConfigFault}
use Rattle.memberlist_member.specs.declared.config.ConfigFault.TheVariants.{NoInterval, BadMultiplier, ShortDatagrams}
use Rattle.swim_c.specs.declared.agent.settings.AgentSettings.{AgentSettings}
use Rattle.swim_c.specs.AgentOpening.{IsNoAgent, config_number, config_of, or_default}

positive : (n default : ℕ) → 0 < default → 0 < or_default n default
positive zero default is = is
positive (suc n) default is = omega arith

-- what is 0 is never an interval of 0
has_intervals : (s : AgentSettings) → HasIntervals (config_of s)
has_intervals s = record {
  probe = positive s.probe_interval default_lan.probe_interval (omega arith);
  timeout = positive s.probe_timeout default_lan.probe_timeout (omega arith);
  push_pull = positive s.push_pull_interval default_lan.push_pull_interval (omega arith);
  gossip = positive s.gossip_interval default_lan.gossip_interval (omega arith);
  tcp = positive s.tcp_timeout default_lan.tcp_timeout (omega arith);
  reconnect = positive s.reconnect_interval default_lan.reconnect_interval (omega arith);
}

by_fault : (name : List ℕ) (details : DetailsValue) (label : List ℕ) (config : Config) (seed : List ℕ)
    (fault : ConfigFault) (made : Result Config ConfigFault) → HasIntervals config → made ≡ Err fault
    → ((made ≡ Err NoInterval) ↔ (¬ HasIntervals config))
    → ((made ≡ Err BadMultiplier) ↔ (HasIntervals config × (¬ HasMultipliers config)))
    → ((made ≡ Err ShortDatagrams) ↔ (HasIntervals config × HasMultipliers config × (config.udp_buffer_size < 576)))
    → IsNoAgent name details label config seed (config_number fault)
by_fault name details label config seed NoInterval made has is none bad short = absurd (none.0 is has)
by_fault name details label config seed BadMultiplier made has is none bad short = IsNoAgent.of_multiplier refl (bad.0 is).1
by_fault name details label config seed ShortDatagrams made has is none bad short =
    IsNoAgent.of_datagrams refl (short.0 is).1 (short.0 is).2

-- the first fault of a configuration from settings is the reason
pub unsettled : (name : List ℕ) (details : DetailsValue) (label : List ℕ) (s : AgentSettings) (seed : List ℕ)
    (config : Config) (fault : ConfigFault) (made : Result Config ConfigFault) → config ≡ config_of s → made ≡ Err fault
    → ((made ≡ Err NoInterval) ↔ (¬ HasIntervals config))
    → ((made ≡ Err BadMultiplier) ↔ (HasIntervals config × (¬ HasMultipliers config)))
    → ((made ≡ Err ShortDatagrams) ↔ (HasIntervals config × HasMultipliers config × (config.udp_buffer_size < 576)))
    → IsNoAgent name details label (config_of s) seed (config_number fault)
unsettled name details label s seed config fault made same is none bad short =
    subst (λ (c : Config). IsNoAgent name details label c seed (config_number fault)) same
    (by_fault name details label config seed fault made (subst (λ (c : Config). HasIntervals c) (sym same) (has_intervals s)) is
    none bad short)

-- a copy of one more key
pub copied : (keys : List (List ℕ)) (i : ℕ) (key : List ℕ) (old new : List (List ℕ)) → slice_get keys i ≡ Some key
    → new ≡ old ++ key ∷ [] → old ≡ take i keys → new ≡ take (i + 1) keys
copied keys i key old new there is was =
    is ∙ ap (λ (xs : List (List ℕ)). xs ++ key ∷ []) was
    ∙ ap (λ (k : List ℕ). take i keys ++ k ∷ []) (sym (get_or_from_slice_get keys i key key there))
    ∙ sym (take_more keys i key (slice_get_within keys i key there))
