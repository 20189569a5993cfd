-- A core in its parts: what a client's values are by its log, and which parts can be joined.
use Rattle.std.specs.Prelude.{◌≡◌, ◌<◌, ℕ, List, length, map, Contains, slice_get, Option, None, Some, if◌then◌else◌}
use Rattle.std.specs.List.{range_with_len}
use Rattle.std.specs.Option.{ForSome, option_and_then, option_map}
use Rattle.weave_data.specs.Limits.{most_sessions}
use Rattle.vector_stamp.specs.declared.clock.Stamp.{Stamp}
use Rattle.gatekeeper.specs.Gates.{GateView}
use Rattle.shard_node.specs.Shards.{ShardView}
use Rattle.program_defs.specs.declared.program.Program.{Program}
use Rattle.program_defs.specs.declared.script.Request.{Request}
use Rattle.program_defs.specs.declared.script.Script.{Script}
use Rattle.program_defs.specs.Limits.{IsWithinLimits}
use Rattle.program_defs.specs.Works.{is_look}
use Rattle.report_rules.specs.Lookups.{is_some_and, request_at}
use Rattle.report_rules.specs.declared.report.Reply.{Reply}
use Rattle.report_rules.specs.declared.report.StepAnswer.{StepAnswer}
use Rattle.report_rules.specs.declared.report.StepAnswer.TheVariants as answer
use Rattle.weave_entries.specs.declared.session_log.SessionEntry.{SessionEntry}
use Rattle.weave_entries.specs.declared.session_log.SessionDeed.{SessionDeed}
use Rattle.weave_entries.specs.declared.session_log.SessionDeed.TheVariants.{Begun, Replied}
use Rattle.weave_entries.specs.SessionReplay.{replied_in, session_of}
use Rattle.weave_account.specs.declared.account.Account.{Account}
use Rattle.weave_account.specs.Account.{reads_of, session_log, NoneInFlight}
use Rattle.weave_account.specs.Report.{IsReplyInAccount}
use Rattle.weave_account.specs.Sessions.{requests_of_session}
use Rattle.step_rules.specs.CoreState.{CoreState}
use Rattle.step_rules.specs.IsCore.{IsCore}
use Rattle.weaver_core.specs.Sessions.{SessionValues, last_entry, log_of_client, requests_in, values_at, with_reply_at}
use Rattle.weaver_core.specs.Cores.{MachinesView}
use Rattle.weaver_core.specs.Finishing.{IsReplyOfProgram}
use Rattle.weaver_core.specs.GateTable as gates
use Rattle.weaver_core.specs.ShardTable as shards
use Rattle.weaver_core.specs.Walks.{HasReadAll, IsLookAt}
use Rattle.weaver_core.specs.declared.client.Client.{Client}
use Rattle.weaver_core.specs.declared.split.Split.{Split}
use Rattle.weaver_core.specs.declared.walks.Running.{Running}

-- The values of a client. `account` has the logs that the client knows: those of a whole core, or what a hand has seen.

-- the request that a deed began, with its stamp
abbrev pub begun_by_session : SessionDeed → Option (ℕ × Stamp)
begun_by_session (Begun r stamp) = Some (r, stamp)
begun_by_session (Replied r) = None

-- The begun request that has no reply yet. In a session's log a begin and its reply come in turn, so it is that of the
-- last entry, if this is a begin.
abbrev pub waiting_in : List SessionEntry → Option (ℕ × Stamp)
waiting_in log = option_and_then (λ (entry : SessionEntry). begun_by_session entry.deed) (last_entry log)

-- the same, if it is a program
abbrev pub program_waiting : Script → List SessionEntry → Option (ℕ × Stamp)
program_waiting script log =
    option_and_then (λ (begun : ℕ × Stamp).
    if is_some_and (λ (request : Request). is_look request.work) (request_at script begun.0)
    then Some begun else None)
    (waiting_in log)

-- a program is running exactly if one waits, and then it is that one, with its stamp; its walk is of the request's
-- program, and has read the states that the visits of the request read and no others
pub record IsRunningByLog (script : Script) (account : Account) (log : List SessionEntry)
    (running : Option Running) : Type 0 where
  pub waits : option_map (λ (one : Running). (one.request, one.stamp)) running ≡ program_waiting script log
  pub fed : ForSome running (λ (one : Running). (program : Program) → IsLookAt script one.request program
      → HasReadAll one.walk program (reads_of account one.request))

-- there is one reply for each `Replied`, in their order, with the stamp and the state that the request has by the logs:
-- a transaction's by the store's log, a program's by what it read
pub record AreRepliesByLog (script : Script) (account : Account) (log : List SessionEntry)
    (replies : List Reply) : Type 0 where
  pub requests : map (λ (reply : Reply). reply.request) replies ≡ replied_in log
  pub each : (reply : Reply) → Contains replies reply → IsReplyInAccount script account reply

-- a client's values are those of its log
pub record IsClientByLog (script : Script) (account : Account) (client : Client) : Type 0 where
  pub session : client.session ≡ session_of client.session.requests client.log.items
  pub running : IsRunningByLog script account client.log.items client.running
  pub replies : AreRepliesByLog script account client.log.items client.replies.items

-- The parts

-- the logs of the parts
abbrev pub account_of : Split → Account
account_of split = record {
  gates = map gates.log_of_gate split.gates.items;
  store = split.store;
  oracle = split.oracle;
  shards = map shards.log_of_shard split.shards.items;
  sessions = map log_of_client split.clients.items;
}

-- and with the notices
abbrev pub state_of : Split → CoreState
state_of split = record { account = account_of split; notices = split.notices.items }

-- a gatekeeper of this home, made for the script's numbers of gatekeepers and shards
pub record IsGateFor (script : Script) (home : ℕ) (gate : GateView) : Type 0 where
  pub home_is : gate.home ≡ home
  pub gates_are : gate.gates ≡ script.gates
  pub shards_are : gate.shards ≡ script.shards

-- a shard of this number, made for the script's number of gatekeepers
pub record IsShardFor (script : Script) (number : ℕ) (shard : ShardView) : Type 0 where
  pub number_is : shard.number ≡ number
  pub gates_are : shard.gates ≡ script.gates

-- there are as many gatekeepers, shards and clients as a core of the script starts with, in the same order, with
-- those homes, numbers and requests
pub record ArePartsFor (script : Script) (split : Split) : Type 0 where
  pub gate_count : length split.gates.items ≡ script.gates
  pub gates : (home : ℕ) (gate : GateView) → slice_get split.gates.items home ≡ Some gate → IsGateFor script home gate
  pub shard_count : length split.shards.items ≡ script.shards
  pub shards : (number : ℕ) (shard : ShardView) → slice_get split.shards.items number ≡ Some shard
      → IsShardFor script number shard
  pub requests : map requests_in split.clients.items ≡ map (requests_of_session script) (range_with_len 0 most_sessions)

-- Parts that can be joined: they are those of their script, their logs are an account in which no transaction is in
-- flight, each notice is a clock that is known there, and each client's values are those of its log.
pub record CanBeJoined (split : Split) : Type 0 where
  pub limits : IsWithinLimits split.script
  pub parts : ArePartsFor split.script split
  pub core : IsCore split.script (state_of split)
  pub clients : (client : Client) → Contains split.clients.items client
      → IsClientByLog split.script (account_of split) client
  pub landed : NoneInFlight (account_of split)

-- What a core keeps. No public contract cites what follows.

-- a session's values are those of its log
pub record AreValuesByLog (script : Script) (account : Account) (log : List SessionEntry)
    (values : SessionValues) : Type 0 where
  pub running : IsRunningByLog script account log values.running
  pub replies : AreRepliesByLog script account log values.replies

-- those of all sessions
pub record AreAllByLog (script : Script) (account : Account) (values : List SessionValues) : Type 0 where
  pub many : length values ≡ most_sessions
  pub each : (session : ℕ) → session < most_sessions
      → AreValuesByLog script account (session_log account session) (values_at values session)

-- a program was finished: it was running in its session, which has the reply with its answer
pub record FinishesProgram (old new : MachinesView) (session r : ℕ) : Type 0 where
  pub running : Running
  pub running_is : (values_at old.values session).running ≡ Some running
  pub request_is : running.request ≡ r
  pub reply : Reply
  pub is_reply : IsReplyOfProgram running reply
  pub values : new.values ≡ with_reply_at old.values session reply

-- what `reply` of a program leaves of the values of its session, by its answer
abbrev pub ValuesAfterFinish : MachinesView → MachinesView → ℕ → ℕ → StepAnswer → Type 0
ValuesAfterFinish old new session r answer.Ok = FinishesProgram old new session r
ValuesAfterFinish old new session r _ = new.values ≡ old.values

-- of the script's request
abbrev pub RepliesToProgram : Script → ℕ → MachinesView → MachinesView → StepAnswer → Type 0
RepliesToProgram script r old new a =
    (request : Request) → request_at script r ≡ Some request → ValuesAfterFinish old new request.session r a
