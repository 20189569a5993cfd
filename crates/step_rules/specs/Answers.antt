-- What an atomic step answers. Its other answers are tried in their order; if none of them holds, the answer is `Ok`.
use Rattle.std.specs.Prelude.{ℕ, not, ◌||◌, is_some, nat_lt, Option, None, Some, if◌then◌else◌}
use Rattle.weave_data.specs.declared.name.Name.{Name}
use Rattle.weave_data.specs.Names.{shard_of}
use Rattle.shard_queue.specs.Outbox.{sent_as}
use Rattle.program_defs.specs.declared.script.Request.{Request}
use Rattle.program_defs.specs.declared.script.Script.{Script}
use Rattle.program_defs.specs.declared.script.Step.{Step}
use Rattle.program_defs.specs.declared.script.Step.TheVariants.{Begin, Judge, Send, Say, Hear, Nop, Deliver, Apply, Visit, Reply, Collect, Epoch, Restart}
use Rattle.report_rules.specs.Lookups.{request_at}
use Rattle.report_rules.specs.declared.report.StepAnswer.{StepAnswer}
use Rattle.report_rules.specs.declared.report.StepAnswer.TheVariants.{Ok, Twice, Early, Busy, Idle, Old, Unknown, Repeat, Empty, Waits, Again}
use Rattle.weave_entries.specs.declared.message.Message.{Message}
use Rattle.weave_entries.specs.GateReplay.{BegunRequest, clock_of, flight_of, channel_of, program_begun}
use Rattle.weave_entries.specs.ShardReplay.{arrived_at, head_of, waits_at, first_unready}
use Rattle.weave_account.specs.declared.account.Account.{Account}
use Rattle.weave_account.specs.Account.{gate_log, shard_log}
use Rattle.step_rules.specs.CoreState.{CoreState}
use Rattle.step_rules.specs.Requests.{has_begun, has_reply, waits_for_earlier, finds_flight, is_answered, is_judged, next_vertex}

-- Transactions

-- `begin R`: `twice` if R has begun, `early` if an earlier request of its session has no reply, `busy` if R is a
-- transaction and one is in flight there
abbrev pub answer_of_begin : Script → Account → ℕ → Request → StepAnswer
answer_of_begin script account r request =
    if has_begun account r request then Twice
    else if waits_for_earlier script account r request then Early
    else if finds_flight account request then Busy
    else Ok

-- `judge G`, by the flight there: `idle` if there is none, or it has its verdict
abbrev pub answer_of_judge : Account → Option BegunRequest → StepAnswer
answer_of_judge account None = Idle
answer_of_judge account (Some flight) = if is_judged account flight.request then Idle else Ok

-- `send G`, by the flight there: `idle` if there is none, or it has no verdict
abbrev pub answer_of_send : Account → Option BegunRequest → StepAnswer
answer_of_send account None = Idle
answer_of_send account (Some flight) = if is_judged account flight.request then Ok else Idle

-- `reply R`: `idle` if R has not begun, has its reply, is a transaction not yet sent, or a program with a next vertex
abbrev pub answer_of_reply : Account → ℕ → Request → StepAnswer
answer_of_reply account r request =
    if not (has_begun account r request) || has_reply account r request || not
    (is_answered account r request request.work) then Idle else Ok

-- Messages

-- `deliver G S N`, by the message of that number as it was sent, and as it arrived: `unknown` if it was not sent,
-- `repeat` if it arrived before
abbrev pub answer_of_deliver : Option Message → Option Message → StepAnswer
answer_of_deliver None arrived = Unknown
answer_of_deliver (Some message) (Some earlier) = Repeat
answer_of_deliver (Some message) None = Ok

-- a head waits for the first vertex whose count differs, if there is one
abbrev pub waits_or_ok : Option Name → StepAnswer
waits_or_ok None = Ok
waits_or_ok (Some v) = Waits v

-- `apply S G`, by the head of that channel: `empty` if there is none, or `waits V`
abbrev pub answer_of_apply : Account → ℕ → Option Message → StepAnswer
answer_of_apply account shard None = Empty
answer_of_apply account shard (Some head) = waits_or_ok (waits_at head (shard_log account shard))

-- Programs

-- `again S G`: G is the least gatekeeper of which neither the last processed message nor the head is after the
-- program's stamp
abbrev pub again_or_ok : ℕ → Option ℕ → StepAnswer
again_or_ok shard None = Ok
again_or_ok shard (Some gate) = Again shard gate

-- `visit R`, by the program as it was begun and its next vertex: `idle` if R is no begun program or has no next vertex,
-- or `again S G`
abbrev pub answer_of_visit : Script → Account → Option BegunRequest → Option Name → StepAnswer
answer_of_visit script account None next = Idle
answer_of_visit script account (Some begun) None = Idle
answer_of_visit script account (Some begun) (Some v) =
    again_or_ok (shard_of v script.shards) (first_unready script.gates begun.stamp
    (shard_log account (shard_of v script.shards)))

-- Epochs

-- `epoch G E` and `restart G E`: `old` if E is not above G's epoch
abbrev pub answer_of_epoch : Account → ℕ → ℕ → StepAnswer
answer_of_epoch account gate epoch = if nat_lt (clock_of gate (gate_log account gate)).epoch epoch then Ok else Old

-- Each step

-- a step on a request of the script
abbrev pub for_request : (Request → StepAnswer) → Option Request → StepAnswer
for_request answer None = Idle
for_request answer (Some request) = answer request

-- the answer of a step
abbrev pub answer_of : Script → CoreState → Step → StepAnswer
answer_of script state (Begin r) = for_request (answer_of_begin script state.account r) (request_at script r)
answer_of script state (Judge gate) = answer_of_judge state.account (flight_of (gate_log state.account gate))
answer_of script state (Send gate) = answer_of_send state.account (flight_of (gate_log state.account gate))
answer_of script state (Say gate) = Ok
answer_of script state (Hear gate notice) = if is_some (sent_as notice state.notices) then Ok else Unknown
answer_of script state (Nop gate shard) = if is_some (flight_of (gate_log state.account gate)) then Busy else Ok
answer_of script state (Deliver gate shard number) =
    answer_of_deliver (sent_as number (channel_of shard (gate_log state.account gate)))
    (arrived_at gate number (shard_log state.account shard))
answer_of script state (Apply shard gate) =
    answer_of_apply state.account shard (head_of gate (shard_log state.account shard))
answer_of script state (Visit r) =
    for_request (λ request. answer_of_visit script state.account (program_begun r (gate_log state.account request.gate))
    (next_vertex state.account r request.work)) (request_at script r)
answer_of script state (Reply r) = for_request (answer_of_reply state.account r) (request_at script r)
answer_of script state (Collect shard) = Ok
answer_of script state (Epoch gate epoch) = answer_of_epoch state.account gate epoch
answer_of script state (Restart gate epoch) = answer_of_epoch state.account gate epoch
