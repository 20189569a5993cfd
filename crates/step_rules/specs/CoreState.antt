-- The state of a core: the logs of its machines and sessions, and the clocks of the notices.
use Rattle.std.specs.Prelude.{ℕ, List, [], ◌∷◌, ◌++◌, slice_set}
use Rattle.vector_stamp.specs.declared.clock.Clock.{Clock}
use Rattle.program_defs.specs.declared.script.Script.{Script}
use Rattle.weave_entries.specs.declared.gate_log.GateDeed.{GateDeed}
use Rattle.weave_entries.specs.declared.shard_log.ShardDeed.{ShardDeed}
use Rattle.weave_entries.specs.declared.session_log.SessionDeed.{SessionDeed}
use Rattle.weave_account.specs.declared.account.Account.{Account}
use Rattle.weave_account.specs.Account.{gate_log, shard_log, session_log}
use Rattle.weave_account.specs.NoLogs.{no_logs}

-- the logs, and the notices in the order of the steps that said them: the first one has the number 1
pub record CoreState : Type 0 where
  pub account : Account
  pub notices : List Clock

-- before the first step: nothing is in any log, and there is no notice
abbrev pub start_state : Script → CoreState
start_state script = record { account = no_logs script; notices = [] }

-- One more entry

-- a gatekeeper's log gains a deed of this author
abbrev pub with_gate_deed : Account → ℕ → ℕ → GateDeed → Account
with_gate_deed account home author deed =
    record account {
      gates = slice_set account.gates home (gate_log account home
          ++ record { author = author; deed = deed } ∷ []);
    }

-- a shard's log gains a deed, of author 0
abbrev pub with_shard_deed : Account → ℕ → ShardDeed → Account
with_shard_deed account shard deed =
    record account {
      shards = slice_set account.shards shard (shard_log account shard
          ++ record { author = 0; deed = deed } ∷ []);
    }

-- a session's log gains a deed, whose author is the session's number
abbrev pub with_session_deed : Account → ℕ → SessionDeed → Account
with_session_deed account session deed =
    record account {
      sessions = slice_set account.sessions session (session_log account session
          ++ record { author = session; deed = deed } ∷ []);
    }
