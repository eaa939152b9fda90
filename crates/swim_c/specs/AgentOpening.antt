-- What an agent begins with, and why none was made.
use Rattle.std.specs.Prelude.{not, ◌≡◌, ◌≢◌, ◌<◌, ℕ, zero, suc, List, length, replicate, Option, Some, None, ⊤}
use Rattle.swim_claim.specs.Details.{DetailsValue}
use Rattle.memberlist_member.specs.Configs.{HasMultipliers, default_lan}
use Rattle.memberlist_member.specs.declared.config.Config.{Config}
use Rattle.memberlist_member.specs.declared.config.ConfigFault.{ConfigFault}
use Rattle.memberlist_member.specs.declared.config.ConfigFault.TheVariants as config
use Rattle.memberlist_member.specs.declared.fault.StepFault.{StepFault}
use Rattle.memberlist_member.specs.declared.fault.StepFault.TheVariants as step
use Rattle.swim_c.specs.declared.agent.held.HeldAgent.{HeldAgent}
use Rattle.swim_c.specs.declared.agent.settings.AgentSettings.{AgentSettings}
use Rattle.swim_c.specs.declared.agent.opening.AgentFault.{AgentFault}
use Rattle.swim_c.specs.declared.agent.opening.AgentFault.TheVariants as agent
use Rattle.swim_c.specs.Opening.{IsUnmade, open_number}
use Rattle.swim_c.specs.Statuses as statuses

-- a number, or in place of 0 the default one
abbrev pub or_default : ℕ → ℕ → ℕ
or_default zero default = default
or_default (suc n) default = suc n

-- the configuration that settings say: what is 0 is as in a local network
abbrev pub config_of : AgentSettings → Config
config_of s =
    record {
      probe_interval = or_default s.probe_interval default_lan.probe_interval;
      probe_timeout = or_default s.probe_timeout default_lan.probe_timeout;
      indirect_checks = or_default s.indirect_checks default_lan.indirect_checks;
      retransmit_mult = or_default s.retransmit_mult default_lan.retransmit_mult;
      suspicion_mult = or_default s.suspicion_mult default_lan.suspicion_mult;
      suspicion_max_timeout_mult =
          or_default s.suspicion_max_timeout_mult default_lan.suspicion_max_timeout_mult;
      push_pull_interval = or_default s.push_pull_interval default_lan.push_pull_interval;
      awareness_max_multiplier =
          or_default s.awareness_max_multiplier default_lan.awareness_max_multiplier;
      gossip_interval = or_default s.gossip_interval default_lan.gossip_interval;
      gossip_nodes = or_default s.gossip_nodes default_lan.gossip_nodes;
      gossip_to_the_dead_time =
          or_default s.gossip_to_the_dead_time default_lan.gossip_to_the_dead_time;
      udp_buffer_size = or_default s.udp_buffer_size default_lan.udp_buffer_size;
      enable_compression = not s.is_uncompressed;
      tcp_timeout = or_default s.tcp_timeout default_lan.tcp_timeout;
      reconnect_interval = or_default s.reconnect_interval default_lan.reconnect_interval;
      reconnect_timeout = or_default s.reconnect_timeout default_lan.reconnect_timeout;
      is_silent = s.is_silent;
    }

-- the status that says why there is no such configuration
abbrev pub config_number : ConfigFault → ℕ
config_number config.NoInterval = statuses.bad_multiplier
config_number config.BadMultiplier = statuses.bad_multiplier
config_number config.ShortDatagrams = statuses.short_datagrams

-- the status that says why a member does not heed what it is told
abbrev pub step_number : StepFault → ℕ
step_number step.Memory = statuses.memory
step_number step.TooLong = statuses.too_long

-- the status that says why no agent was made
abbrev pub agent_number : AgentFault → ℕ
agent_number (agent.Own fault) = open_number fault
agent_number agent.LabelTooLong = statuses.cipher_too_long
agent_number (agent.Config fault) = config_number fault
agent_number agent.NoSeed = statuses.no_seed
agent_number agent.Memory = statuses.memory

-- the seed of a configuration in which none was drawn
abbrev pub no_seed : List ℕ
no_seed = replicate 32 0

-- the label is too long, or memory was refused
abbrev pub IsNoCover : List ℕ → AgentFault → Type 0
IsNoCover label (agent.Own fault) = ⊥
IsNoCover label agent.LabelTooLong = 255 < length label
IsNoCover label (agent.Config fault) = ⊥
IsNoCover label agent.NoSeed = ⊥
IsNoCover label agent.Memory = ⊤

-- Why no agent was made: what the member says about itself, or a lack of memory (10 to 15); its
-- label (51); a multiplier (75); the datagrams (76); a seed that was never drawn (77).
pub data IsNoAgent (name : List ℕ) (details : DetailsValue) (label : List ℕ)
    (config : Config) (seed : List ℕ) (status : ℕ) : Type 0 where
  of_own : IsUnmade name details status → IsNoAgent name details label config seed status
  of_label : status ≡ statuses.cipher_too_long → 255 < length label
      → IsNoAgent name details label config seed status
  of_multiplier : status ≡ statuses.bad_multiplier → ¬ HasMultipliers config
      → IsNoAgent name details label config seed status
  of_datagrams : status ≡ statuses.short_datagrams → HasMultipliers config
      → config.udp_buffer_size < 576 → IsNoAgent name details label config seed status
  of_seed : status ≡ statuses.no_seed → seed ≡ no_seed → IsNoAgent name details label config seed status

-- A handle with an agent keeps it (65). An empty one gets an agent that accepted no stream (0), and
-- then its seed was drawn; or it stays empty, and the status says why.
abbrev pub AgentOpened : List ℕ → DetailsValue → List ℕ → Config → List ℕ → Option HeldAgent
    → Option HeldAgent → ℕ → Type 0
AgentOpened name details label config seed (Some before) new status =
    (status ≡ statuses.node_there) × (new ≡ Some before)
AgentOpened name details label config seed None (Some after) status =
    (status ≡ 0) × (after.accepted ≡ 0) × (seed ≢ no_seed)
AgentOpened name details label config seed None None status =
    IsNoAgent name details label config seed status
