-- The five handles and what they hold: a node, keys, kept bytes, a view, an agent. Assumes `Logic`.
use Rattle.std.proofs.Common.{[], ◌∷◌, refl}
use seplogic.Ra.Ura.{Ura}
use mir.Syntax.{Dict, impl, method, tnil, dnil, no_args}
use prog.Model.{Model}
use prog.Wired.{Wired}
use contract.Running.{Running, tables_of}
use types.Logic.{Logic}
use denote.Param.Glue.{Met}
use Rattle.swim_c.specs.contracts.watching.Watched as node
use Rattle.swim_c.proofs.watching.Watched.TheLaws as node_laws
use Rattle.swim_c.proofs.swim_c++watching++Watched+Destruct.drop.Symbol as node_drop
use Rattle.swim_c.proofs.swim_c++watching++Watched+Destruct.drop.Kinds as node_kinds
use Rattle.swim_c.proofs.swim_c++watching++Watched+Destruct.drop.Reads as node_reads
use Rattle.swim_c.proofs.swim_c++watching++Watched+Destruct.drop.Met.{met as node_met}
use Rattle.swim_c.specs.contracts.cluster_keys.ClusterKeys as keys
use Rattle.swim_c.proofs.cluster_keys.ClusterKeys.TheLaws as keys_laws
use Rattle.swim_c.proofs.swim_c++cluster_keys++ClusterKeys+Destruct.drop.Symbol as keys_drop
use Rattle.swim_c.proofs.swim_c++cluster_keys++ClusterKeys+Destruct.drop.Kinds as keys_kinds
use Rattle.swim_c.proofs.swim_c++cluster_keys++ClusterKeys+Destruct.drop.Reads as keys_reads
use Rattle.swim_c.proofs.swim_c++cluster_keys++ClusterKeys+Destruct.drop.Met.{met as keys_met}
use Rattle.swim_c.specs.contracts.kept.Kept as kept
use Rattle.swim_c.proofs.kept.Kept.TheLaws as kept_laws
use Rattle.swim_c.proofs.swim_c++kept++Kept+Destruct.drop.Symbol as kept_drop
use Rattle.swim_c.proofs.swim_c++kept++Kept+Destruct.drop.Kinds as kept_kinds
use Rattle.swim_c.proofs.swim_c++kept++Kept+Destruct.drop.Reads as kept_reads
use Rattle.swim_c.proofs.swim_c++kept++Kept+Destruct.drop.Met.{met as kept_met}
use Rattle.swim_c.specs.contracts.view.held.HeldView as view
use Rattle.swim_c.proofs.view.held.HeldView.TheLaws as view_laws
use Rattle.swim_c.proofs.swim_c++view++held++HeldView+Destruct.drop.Symbol as view_drop
use Rattle.swim_c.proofs.swim_c++view++held++HeldView+Destruct.drop.Kinds as view_kinds
use Rattle.swim_c.proofs.swim_c++view++held++HeldView+Destruct.drop.Reads as view_reads
use Rattle.swim_c.proofs.swim_c++view++held++HeldView+Destruct.drop.Met.{met as view_met}
use Rattle.swim_c.specs.contracts.agent.held.HeldAgent as agent
use Rattle.swim_c.proofs.agent.held.HeldAgent.TheLaws as agent_laws
use Rattle.swim_c.proofs.swim_c++agent++held++HeldAgent+Destruct.drop.Symbol as agent_drop
use Rattle.swim_c.proofs.swim_c++agent++held++HeldAgent+Destruct.drop.Kinds as agent_kinds
use Rattle.swim_c.proofs.swim_c++agent++held++HeldAgent+Destruct.drop.Reads as agent_reads
use Rattle.swim_c.proofs.swim_c++agent++held++HeldAgent+Destruct.drop.Met.{met as agent_met}
use Rattle.swim_c.specs.Handle.{handle_owns}
use Rattle.swim_c.specs.Keyring.{keyring_owns}
use Rattle.swim_c.specs.Kept.{kept_owns}
use Rattle.swim_c.specs.Views.{view_owns}
use Rattle.swim_c.specs.Agents.{agent_owns}
use Rattle.swim_c.specs.contracts.handle.Handle as node_handle
use Rattle.swim_c.specs.contracts.keyring.KeyringHandle as keyring_handle
use Rattle.swim_c.specs.contracts.kept_handle.KeptHandle as kept_handle
use Rattle.swim_c.specs.contracts.view.handle.ViewHandle as view_handle
use Rattle.swim_c.specs.contracts.agent.handle.AgentHandle as agent_handle
use Rattle.swim_c.proofs.Drops.{passed, passed_laws, goes}
use Rattle.swim_c.proofs.Handles.Shape.{Content, Handle}

abbrev pub node_drops : Dict
node_drops = impl ("swim_c::swim_c++watching++Watched+Destruct::drop" ∷ []) tnil dnil

pub node_goes : {M : Type 1} (𝓤 : Ura M) (𝓛 : Logic 𝓤) (𝓜 : Model 𝓤 𝓛.H) (𝓡 : Running 𝓤 𝓛.H 𝓜)
    → Wired 𝓡.env node_drop.code → Met 𝓛 𝓜 𝓡 𝓡.env (passed node.the_row) node_drops
unfolding tables_of
node_goes {M} 𝓤 𝓛 𝓜 𝓡 wired =
    goes node.the_row (passed_laws node.the_row node_laws.the_row_laws refl) node_drops _ _ _ node_kinds.ps
    refl node_reads.requires node_reads.ensures node_reads.Asked node_reads.Learnt node_reads.known
    (λ κs a. tt)
    (record { M = M; 𝓤 = 𝓤; 𝓛 = 𝓛; 𝓜 = 𝓜; 𝓡 = 𝓡 }) node_drop.name
    (node_drop.as_method 𝓡.env wired (method node_drops 0 no_args) refl) (node_met 𝓤 𝓛 𝓜 𝓡 wired)

abbrev pub a_node : Content
a_node = record {
  row = node.the_row;
  laws = passed_laws node.the_row node_laws.the_row_laws refl;
  lives = node_laws.the_within [];
  drops = node_drops;
  drop_code = node_drop.code;
  goes = node_goes;
  same_owns = λ p x. refl;
  same = λ d vs. refl;
}

abbrev pub of_node : Handle
of_node = record {
  row = node_handle.the_row;
  name = node_handle.the_type.name;
  at = λ h. h.at;
  held = λ h. h.held;
  owns = λ h. handle_owns h.at h.held h.node h.changes;
  opened = λ h vs. refl;
  last = λ h. tt;
  silent = λ h f. refl;
}

abbrev pub keys_drops : Dict
keys_drops = impl ("swim_c::swim_c++cluster_keys++ClusterKeys+Destruct::drop" ∷ []) tnil dnil

pub keys_goes : {M : Type 1} (𝓤 : Ura M) (𝓛 : Logic 𝓤) (𝓜 : Model 𝓤 𝓛.H) (𝓡 : Running 𝓤 𝓛.H 𝓜)
    → Wired 𝓡.env keys_drop.code → Met 𝓛 𝓜 𝓡 𝓡.env (passed keys.the_row) keys_drops
unfolding tables_of
keys_goes {M} 𝓤 𝓛 𝓜 𝓡 wired =
    goes keys.the_row (passed_laws keys.the_row keys_laws.the_row_laws refl) keys_drops _ _ _ keys_kinds.ps
    refl keys_reads.requires keys_reads.ensures keys_reads.Asked keys_reads.Learnt keys_reads.known
    (λ κs a. tt)
    (record { M = M; 𝓤 = 𝓤; 𝓛 = 𝓛; 𝓜 = 𝓜; 𝓡 = 𝓡 }) keys_drop.name
    (keys_drop.as_method 𝓡.env wired (method keys_drops 0 no_args) refl) (keys_met 𝓤 𝓛 𝓜 𝓡 wired)

abbrev pub some_keys : Content
some_keys = record {
  row = keys.the_row;
  laws = passed_laws keys.the_row keys_laws.the_row_laws refl;
  lives = keys_laws.the_within [];
  drops = keys_drops;
  drop_code = keys_drop.code;
  goes = keys_goes;
  same_owns = λ p x. refl;
  same = λ d vs. refl;
}

abbrev pub of_keys : Handle
of_keys = record {
  row = keyring_handle.the_row;
  name = keyring_handle.the_type.name;
  at = λ h. h.at;
  held = λ h. h.held;
  owns = λ h. keyring_owns h.at h.held h.keys;
  opened = λ h vs. refl;
  last = λ h. tt;
  silent = λ h f. refl;
}

abbrev pub kept_drops : Dict
kept_drops = impl ("swim_c::swim_c++kept++Kept+Destruct::drop" ∷ []) tnil dnil

pub kept_goes : {M : Type 1} (𝓤 : Ura M) (𝓛 : Logic 𝓤) (𝓜 : Model 𝓤 𝓛.H) (𝓡 : Running 𝓤 𝓛.H 𝓜)
    → Wired 𝓡.env kept_drop.code → Met 𝓛 𝓜 𝓡 𝓡.env (passed kept.the_row) kept_drops
unfolding tables_of
kept_goes {M} 𝓤 𝓛 𝓜 𝓡 wired =
    goes kept.the_row (passed_laws kept.the_row kept_laws.the_row_laws refl) kept_drops _ _ _ kept_kinds.ps
    refl kept_reads.requires kept_reads.ensures kept_reads.Asked kept_reads.Learnt kept_reads.known
    (λ κs a. tt)
    (record { M = M; 𝓤 = 𝓤; 𝓛 = 𝓛; 𝓜 = 𝓜; 𝓡 = 𝓡 }) kept_drop.name
    (kept_drop.as_method 𝓡.env wired (method kept_drops 0 no_args) refl) (kept_met 𝓤 𝓛 𝓜 𝓡 wired)

abbrev pub a_kept : Content
a_kept = record {
  row = kept.the_row;
  laws = passed_laws kept.the_row kept_laws.the_row_laws refl;
  lives = kept_laws.the_within [];
  drops = kept_drops;
  drop_code = kept_drop.code;
  goes = kept_goes;
  same_owns = λ p x. refl;
  same = λ d vs. refl;
}

abbrev pub of_kept : Handle
of_kept = record {
  row = kept_handle.the_row;
  name = kept_handle.the_type.name;
  at = λ h. h.at;
  held = λ h. h.held;
  owns = λ h. kept_owns h.at h.held h.kept;
  opened = λ h vs. refl;
  last = λ h. tt;
  silent = λ h f. refl;
}

abbrev pub view_drops : Dict
view_drops = impl ("swim_c::swim_c++view++held++HeldView+Destruct::drop" ∷ []) tnil dnil

pub view_goes : {M : Type 1} (𝓤 : Ura M) (𝓛 : Logic 𝓤) (𝓜 : Model 𝓤 𝓛.H) (𝓡 : Running 𝓤 𝓛.H 𝓜)
    → Wired 𝓡.env view_drop.code → Met 𝓛 𝓜 𝓡 𝓡.env (passed view.the_row) view_drops
unfolding tables_of
view_goes {M} 𝓤 𝓛 𝓜 𝓡 wired =
    goes view.the_row (passed_laws view.the_row view_laws.the_row_laws refl) view_drops _ _ _ view_kinds.ps
    refl view_reads.requires view_reads.ensures view_reads.Asked view_reads.Learnt view_reads.known
    (λ κs a. tt)
    (record { M = M; 𝓤 = 𝓤; 𝓛 = 𝓛; 𝓜 = 𝓜; 𝓡 = 𝓡 }) view_drop.name
    (view_drop.as_method 𝓡.env wired (method view_drops 0 no_args) refl) (view_met 𝓤 𝓛 𝓜 𝓡 wired)

abbrev pub a_view : Content
a_view = record {
  row = view.the_row;
  laws = passed_laws view.the_row view_laws.the_row_laws refl;
  lives = view_laws.the_within [];
  drops = view_drops;
  drop_code = view_drop.code;
  goes = view_goes;
  same_owns = λ p x. refl;
  same = λ d vs. refl;
}

abbrev pub of_view : Handle
of_view = record {
  row = view_handle.the_row;
  name = view_handle.the_type.name;
  at = λ h. h.at;
  held = λ h. h.held;
  owns = λ h. view_owns h.at h.held h.view;
  opened = λ h vs. refl;
  last = λ h. tt;
  silent = λ h f. refl;
}

abbrev pub agent_drops : Dict
agent_drops = impl ("swim_c::swim_c++agent++held++HeldAgent+Destruct::drop" ∷ []) tnil dnil

pub agent_goes : {M : Type 1} (𝓤 : Ura M) (𝓛 : Logic 𝓤) (𝓜 : Model 𝓤 𝓛.H) (𝓡 : Running 𝓤 𝓛.H 𝓜)
    → Wired 𝓡.env agent_drop.code → Met 𝓛 𝓜 𝓡 𝓡.env (passed agent.the_row) agent_drops
unfolding tables_of
agent_goes {M} 𝓤 𝓛 𝓜 𝓡 wired =
    goes agent.the_row (passed_laws agent.the_row agent_laws.the_row_laws refl) agent_drops _ _ _ agent_kinds.ps
    refl agent_reads.requires agent_reads.ensures agent_reads.Asked agent_reads.Learnt agent_reads.known
    (λ κs a. tt)
    (record { M = M; 𝓤 = 𝓤; 𝓛 = 𝓛; 𝓜 = 𝓜; 𝓡 = 𝓡 }) agent_drop.name
    (agent_drop.as_method 𝓡.env wired (method agent_drops 0 no_args) refl) (agent_met 𝓤 𝓛 𝓜 𝓡 wired)

abbrev pub an_agent : Content
an_agent = record {
  row = agent.the_row;
  laws = passed_laws agent.the_row agent_laws.the_row_laws refl;
  lives = agent_laws.the_within [];
  drops = agent_drops;
  drop_code = agent_drop.code;
  goes = agent_goes;
  same_owns = λ p x. refl;
  same = λ d vs. refl;
}

abbrev pub of_agent : Handle
of_agent = record {
  row = agent_handle.the_row;
  name = agent_handle.the_type.name;
  at = λ h. h.at;
  held = λ h. h.held;
  owns = λ h. agent_owns h.at h.held h.agent;
  opened = λ h vs. refl;
  last = λ h. tt;
  silent = λ h f. refl;
}
