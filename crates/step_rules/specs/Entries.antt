-- The entries that an atomic step makes when it answers `Ok`: one of its own log; at `judge` and `visit` the oracle's
-- besides, if a pair is added; at `begin` and `reply` the session's. A `reply` to a transaction makes the session's
-- alone, and `say` makes a notice and no entry.
use Rattle.std.specs.Prelude.{ℕ, ◌+◌, Bool, true, false, List, [], ◌∷◌, ◌++◌, map, Option, None, Some, if◌then◌else◌}
use Rattle.weave_data.specs.declared.name.Name.{Name}
use Rattle.weave_data.specs.Names.{shard_of}
use Rattle.graph_ops.specs.declared.op.Op.{Op}
use Rattle.vector_stamp.specs.declared.clock.Clock.{Clock}
use Rattle.vector_stamp.specs.declared.clock.Stamp.{Stamp}
use Rattle.vector_stamp.specs.Seeing.{seen_of, last_seen}
use Rattle.shard_queue.specs.Outbox.{sent_as}
use Rattle.program_defs.specs.declared.script.Request.{Request}
use Rattle.program_defs.specs.declared.script.Script.{Script}
use Rattle.program_defs.specs.declared.script.Step.{Step}
use Rattle.program_defs.specs.declared.script.Step.TheVariants.{Begin, Judge, Send, Say, Hear, Nop, Deliver, Apply, Visit, Reply, Collect, Epoch, Restart}
use Rattle.program_defs.specs.declared.script.Work.{Work}
use Rattle.program_defs.specs.declared.script.Work.TheVariants.{Change, Look}
use Rattle.report_rules.specs.Lookups.{request_at}
use Rattle.weave_entries.specs.declared.gate_log.GateDeed.{GateDeed}
use Rattle.weave_entries.specs.declared.gate_log.GateDeed.TheVariants as gate
use Rattle.weave_entries.specs.declared.message.Message.{Message}
use Rattle.weave_entries.specs.declared.oracle_log.OracleEntry.{OracleEntry}
use Rattle.weave_entries.specs.declared.shard_log.ShardDeed.TheVariants as shard
use Rattle.weave_entries.specs.declared.session_log.SessionDeed.TheVariants as session
use Rattle.weave_entries.specs.declared.store_log.StoreDeed.TheVariants.{Judged}
use Rattle.weave_entries.specs.declared.verdict.Verdict.{Verdict}
use Rattle.weave_entries.specs.GateReplay.{BegunRequest, begun_stamp, next_stamp, next_number, clock_of, flight_of, running_of, channel_of, low_mark, program_begun}
use Rattle.weave_entries.specs.Sending.{messages_of}
use Rattle.weave_entries.specs.StoreReplay.{Judgement, judgement_of}
use Rattle.weave_entries.specs.StoreRule.{LastCommit, lasts_of, asked_stamps, asked_vertices, verdict_on, entries_of_settling, settled_if}
use Rattle.weave_entries.specs.ShardReplay.{Update, processed_count, updates_of, bound_of}
use Rattle.weave_account.specs.declared.account.Account.{Account}
use Rattle.weave_account.specs.Account.{gate_log, shard_log, pairs_in, commits_in}
use Rattle.step_rules.specs.CoreState.{CoreState, with_gate_deed, with_shard_deed, with_session_deed}
use Rattle.step_rules.specs.Requests.{has_ended, last_begun, next_vertex, ops_in}

-- Transactions

-- the deed by which a gatekeeper begins a request
abbrev pub begin_deed : ℕ → Stamp → Work → GateDeed
begin_deed r stamp (Change ops) = gate.BeganTx r stamp
begin_deed r stamp (Look program) = gate.BeganProgram r stamp

-- the stamp with which a request begins now: that of its session's last begun request is heard before the tick
abbrev pub stamp_to_begin : Account → Request → Stamp
stamp_to_begin account request =
    begun_stamp request.gate (clock_of request.gate (gate_log account request.gate))
    (last_begun account request.session)

-- the request is begun with this stamp
abbrev pub with_begin : Account → ℕ → Request → Stamp → Account
with_begin account r request stamp =
    with_session_deed (with_gate_deed account request.gate 0 (begin_deed r stamp request.work)) request.session
    (session.Begun r stamp)

-- `begin R`
abbrev pub after_begin : Account → ℕ → Request → Account
after_begin account r request = with_begin account r request (stamp_to_begin account request)

-- the last commits at the vertices that these operations name
abbrev pub lasts_in : Account → List Op → List LastCommit
lasts_in account ops = lasts_of ops (commits_in account)

-- the verdict on a transaction now, by the rule of the store
abbrev pub verdict_in : Account → Stamp → List Op → Verdict
verdict_in account stamp ops = verdict_on (pairs_in account) (commits_in account) stamp ops

-- the flight is judged by the rule of the store, in the name of the author of its begin; the oracle puts the last
-- commits of which the store asks before a commit
abbrev pub with_judgement : Account → BegunRequest → List Op → Account
with_judgement account flight ops = record account {
  store = account.store ++ record {
    author = flight.author;
    deed = Judged flight.request flight.stamp ops (asked_vertices flight.stamp (lasts_in account ops))
        (verdict_in account flight.stamp ops);
  } ∷ [];
  oracle = account.oracle ++ settled_if (verdict_in account flight.stamp ops)
      (entries_of_settling flight.author (pairs_in account) (asked_stamps flight.stamp (lasts_in account ops))
      flight.stamp);
}

-- `judge G`, by the flight there
abbrev pub after_judge : Script → Account → Option BegunRequest → Account
after_judge script account None = account
after_judge script account (Some flight) = with_judgement account flight (ops_in (request_at script flight.request))

-- the judgement of the transaction in flight, if it has one
abbrev pub judgement_in_flight : Account → Option BegunRequest → Option Judgement
judgement_in_flight account None = None
judgement_in_flight account (Some flight) = judgement_of flight.request account.store

-- `send G`, by the flight there and its judgement: its messages go out, in the name of the author of its begin
abbrev pub after_send : Script → Account → ℕ → Option BegunRequest → Option Judgement → Account
after_send script account home (Some flight) (Some judged) =
    with_gate_deed account home flight.author (gate.Sent flight.request
    (messages_of script.shards (gate_log account home) flight judged.ops judged.verdict))
after_send script account home _ _ = account

-- Clocks

-- `hear G K`, by the notice
abbrev pub after_hear : Account → ℕ → Option Clock → Account
after_hear account home None = account
after_hear account home (Some notice) = with_gate_deed account home 0 (gate.Heard notice)

-- Messages

-- an empty message of this stamp goes out
abbrev pub with_nop : Account → ℕ → ℕ → Stamp → Account
with_nop account home shard stamp =
    with_gate_deed account home 0 (gate.Nop shard (next_number shard (gate_log account home)) stamp
    (low_mark stamp (running_of (gate_log account home))))

-- `deliver G S N`, by the message of that number
abbrev pub after_deliver : Account → ℕ → ℕ → ℕ → Option Message → Account
after_deliver account home s number None = account
after_deliver account home s number (Some message) = with_shard_deed account s (shard.Arrived home number message)

-- Programs

-- whether the oracle made an entry
abbrev pub made_entry : List OracleEntry → Bool
made_entry [] = false
made_entry (entry ∷ entries) = true

-- the program of this stamp reads the vertex after that many of its updates, and the oracle made these entries
abbrev pub with_visit : Account → ℕ → ℕ → Stamp → Name → ℕ → List OracleEntry → Account
with_visit account s r stamp v updates entries =
    with_shard_deed (record account {
      oracle = account.oracle
          ++ entries;
    }) s (shard.Visited r stamp v updates (made_entry entries))

-- after how many of these updates it reads now
abbrev pub seen_in : Account → Stamp → List Stamp → ℕ
seen_in account stamp updates = seen_of (pairs_in account) stamp updates

-- it reads what it sees of the vertex's updates; the last of these is put before it, unless that one precedes it
-- already
abbrev pub with_visit_of : Account → ℕ → ℕ → Stamp → Name → List Stamp → Account
with_visit_of account s r stamp v updates =
    with_visit account s r stamp v (seen_in account stamp updates)
    (entries_of_settling 0 (pairs_in account) (last_seen (seen_in account stamp updates) updates) stamp)

-- the stamps of the updates applied to a vertex at its shard
abbrev pub update_stamps_at : Account → ℕ → Name → List Stamp
update_stamps_at account s v = map (λ (update : Update). update.stamp) (updates_of v (shard_log account s))

-- `visit R`, by the program as it was begun and its next vertex
abbrev pub after_visit : Script → Account → ℕ → Option BegunRequest → Option Name → Account
after_visit script account r (Some begun) (Some v) =
    with_visit_of account (shard_of v script.shards) r begun.stamp v
    (update_stamps_at account (shard_of v script.shards) v)
after_visit script account r _ _ = account

-- Replies

-- a program is finished in the name of the author of its begin
abbrev pub with_finish : Account → ℕ → ℕ → Option BegunRequest → Account
with_finish account r home None = account
with_finish account r home (Some begun) = with_gate_deed account home begun.author (gate.Finished r)

-- the gatekeeper's entry at a reply: a program that is not finished yet is finished
abbrev pub after_work : Account → ℕ → Request → Work → Account
after_work account r request (Change ops) = account
after_work account r request (Look program) =
    if has_ended account r request then account else with_finish account r request.gate
    (program_begun r (gate_log account request.gate))

-- `reply R`
abbrev pub after_reply : Account → ℕ → Request → Account
after_reply account r request =
    with_session_deed (after_work account r request request.work) request.session (session.Replied r)

-- Each step

-- a step on a request of the script
abbrev pub at_request : (Request → Account) → Account → Option Request → Account
at_request after account None = account
at_request after account (Some request) = after request

-- the logs after a step that is done
abbrev pub account_with : Script → CoreState → Step → Account
account_with script state (Begin r) = at_request (after_begin state.account r) state.account (request_at script r)
account_with script state (Judge home) = after_judge script state.account (flight_of (gate_log state.account home))
account_with script state (Send home) =
    after_send script state.account home (flight_of (gate_log state.account home))
    (judgement_in_flight state.account (flight_of (gate_log state.account home)))
account_with script state (Say home) = state.account
account_with script state (Hear home notice) = after_hear state.account home (sent_as notice state.notices)
account_with script state (Nop home s) =
    with_nop state.account home s (next_stamp home (clock_of home (gate_log state.account home)))
account_with script state (Deliver home s number) =
    after_deliver state.account home s number (sent_as number (channel_of s (gate_log state.account home)))
account_with script state (Apply s home) =
    with_shard_deed state.account s (shard.Applied home (processed_count home (shard_log state.account s) + 1))
account_with script state (Visit r) =
    at_request (λ request. after_visit script state.account r (program_begun r (gate_log state.account request.gate))
    (next_vertex state.account r request.work)) state.account (request_at script r)
account_with script state (Reply r) = at_request (after_reply state.account r) state.account (request_at script r)
account_with script state (Collect s) =
    with_shard_deed state.account s (shard.Collected (bound_of script.gates (shard_log state.account s)))
account_with script state (Epoch home epoch) = with_gate_deed state.account home 0 (gate.Raised epoch)
account_with script state (Restart home epoch) = with_gate_deed state.account home 0 (gate.Raised epoch)

-- the notices after a step that is done: `say` adds the gatekeeper's clock
abbrev pub notices_with : CoreState → Step → List Clock
notices_with state (Say home) = state.notices ++ clock_of home (gate_log state.account home) ∷ []
notices_with state step = state.notices

-- the state after a step that is done
abbrev pub state_with : Script → CoreState → Step → CoreState
state_with script state step = record { account = account_with script state step; notices = notices_with state step }
