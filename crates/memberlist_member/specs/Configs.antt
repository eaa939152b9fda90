-- Which configurations a member can have.
use Rattle.std.specs.Prelude.{◌<◌, ◌≤◌, false, true}
use Rattle.memberlist_member.specs.declared.config.Config.{Config}

-- no interval is 0
pub record HasIntervals (c : Config) : Type 0 where
  pub probe : 0 < c.probe_interval
  pub timeout : 0 < c.probe_timeout
  pub push_pull : 0 < c.push_pull_interval
  pub gossip : 0 < c.gossip_interval
  pub tcp : 0 < c.tcp_timeout
  pub reconnect : 0 < c.reconnect_interval

-- no multiplier is 0, and a suspicion wants at most 4 confirmations
pub record HasMultipliers (c : Config) : Type 0 where
  pub retransmit : 0 < c.retransmit_mult
  pub suspicion : 0 < c.suspicion_mult
  pub few : c.suspicion_mult ≤ 6
  pub most : 0 < c.suspicion_max_timeout_mult
  pub awareness : 0 < c.awareness_max_multiplier

-- and a datagram has at least 576 bytes
pub record IsSound (c : Config) : Type 0 where
  pub intervals : HasIntervals c
  pub multipliers : HasMultipliers c
  pub buffer : 576 ≤ c.udp_buffer_size

-- config.go, DefaultLANConfig, with Serf's times for members that were lost
abbrev pub default_lan : Config
default_lan =
    record {
      probe_interval = 1000;
      probe_timeout = 500;
      indirect_checks = 3;
      retransmit_mult = 4;
      suspicion_mult = 4;
      suspicion_max_timeout_mult = 6;
      push_pull_interval = 30_000;
      awareness_max_multiplier = 8;
      gossip_interval = 200;
      gossip_nodes = 3;
      gossip_to_the_dead_time = 30_000;
      udp_buffer_size = 1400;
      enable_compression = true;
      tcp_timeout = 10_000;
      reconnect_interval = 30_000;
      reconnect_timeout = 86_400_000;
      is_silent = false;
    }

-- config.go, DefaultWANConfig
abbrev pub default_wan : Config
default_wan =
    record default_lan {
      probe_interval = 5000;
      probe_timeout = 3000;
      suspicion_mult = 6;
      push_pull_interval = 60_000;
      gossip_interval = 500;
      gossip_nodes = 4;
      gossip_to_the_dead_time = 60_000;
      tcp_timeout = 30_000;
    }

-- config.go, DefaultLocalConfig
abbrev pub default_local : Config
default_local =
    record default_lan {
      probe_timeout = 200;
      indirect_checks = 1;
      retransmit_mult = 2;
      suspicion_mult = 3;
      push_pull_interval = 15_000;
      gossip_interval = 100;
      gossip_to_the_dead_time = 15_000;
      tcp_timeout = 1000;
    }
