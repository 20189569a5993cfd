-- What a turn of a client's worker answers, and what it leaves. No public contract cites this except for `stand`.
use Rattle.std.specs.Prelude.{◌≡◌, ◌≢◌, ◌+◌, ◌-◌, ◌^◌, ℕ, ◌<◌, List, length, min, nat_lt, if◌then◌else◌, ◌∷◌, ◌++◌, [], Bool, true, false, Option, None, Some, ⊤}
use Rattle.std.specs.Option.{option_and_then, ForSome}
use Rattle.program_defs.specs.declared.script.Request.{Request}
use Rattle.program_defs.specs.declared.script.Script.{Script}
use Rattle.path_program.specs.AnyPrograms.{next_read}
use Rattle.report_rules.specs.declared.report.ReplyState.{ReplyState}
use Rattle.vector_stamp.specs.declared.clock.Stamp.{Stamp}
use Rattle.weave_entries.specs.SessionReplay.{with_begun, with_reply}
use Rattle.weaver_core.specs.declared.client.Client.{Client}
use Rattle.weaver_core.specs.declared.walks.Running.{Running}
use Rattle.weaver_core.specs.Sessions.{log_of_client, requests_in, unanswered_in, IsClientOf}
use Rattle.weaver_locks.specs.declared.hand.Hand.{Hand}
use Rattle.weaver_locks.specs.declared.shared.Shared.{Shared}
use Rattle.weaver_locks.specs.Locks.{gate_count, shard_count}
use Rattle.weaver_hands.specs.declared.fault.HandFault.{HandFault}
use Rattle.weaver_hands.specs.declared.fault.HandFault.TheVariants as fault
use Rattle.weaver_hands.specs.Programs.{FoundNotReady, IsRunning, Visits}
use Rattle.weaver_hands.specs.Transactions.{FoundBusy}
use Rattle.weaver_workers.specs.declared.ended.Ended.{Ended}
use Rattle.weaver_workers.specs.declared.ended.Ended.TheVariants as ended
use Rattle.weaver_workers.specs.declared.reading.Read.{Read}
use Rattle.weaver_workers.specs.declared.reading.Read.TheVariants as read
use Rattle.weaver_workers.specs.declared.tried.Tried.{Tried}
use Rattle.weaver_workers.specs.declared.tried.Tried.TheVariants as tried
use Rattle.weaver_workers.specs.ClientWork.{begun_entry, most_busy_turns, replied_entry, reply_with, DoesCarry, FindsBusy, FoundGateBusy, FoundUnready, HasHeardOf, IsNextRequest, IsSameSession, WorkerGoesOn, Stand}
use Rattle.weaver_workers.specs.Keeping.{KeepsClient}

-- a hand and its client
abbrev pub stand : Hand → Client → Stand
stand hand client = record { hand = hand; client = client }

-- if a program is running it is of a request before `upto`
abbrev pub RunsRequestBelow : ℕ → Client → Type 0
RunsRequestBelow upto client = ForSome client.running (λ (running : Running). running.request < upto)

-- Reading

-- a program of the hand is running in the client
pub record RunsIn (shared : Shared) (at : Stand) : Type 0 where
  pub running : Running
  pub running_is : at.client.running ≡ Some running
  pub runs : IsRunning shared at.hand running

-- whichever the session is, the worker went on with it
abbrev pub KeepsOn : Shared → Stand → Stand → Type 0
KeepsOn shared old new = (script : Script) (number upto : ℕ) → KeepsClient shared script number old.hand old.client
    → WorkerGoesOn shared script number upto old new

-- what came of a read by its refusal, if it was one of a shard that was not ready
abbrev pub read_of_fault : HandFault → Option Read
read_of_fault (fault.NotYet shard gate) = Some (read.NotYet shard gate)
read_of_fault fault.Busy = None
read_of_fault fault.Empty = None
read_of_fault (fault.Waits vertex) = None
read_of_fault fault.Memory = None

-- what a read leaves of the hand and the program
abbrev pub ReadsNextVertex : ℕ → ℕ → Hand → Hand → Running → Running → Read → Type 0
ReadsNextVertex gates shards old new was is read.Over = ((new ≡ old) × (is ≡ was)) × (next_read is.walk ≡ None)
ReadsNextVertex gates shards old new was is read.More = Visits gates shards old new was is
ReadsNextVertex gates shards old new was is (read.NotYet shard gate) =
    FoundNotReady gates shards old new was is shard gate

-- the running program has read all that it visits
pub record ProgramHasReadAll (at : Stand) : Type 0 where
  pub running : Running
  pub running_is : at.client.running ≡ Some running
  pub over : next_read running.walk ≡ None

-- what a read answers
abbrev pub ReadAs : Shared → Stand → Read → Type 0
ReadAs shared new read.Over = ProgramHasReadAll new
ReadAs shared new read.More = ⊤
ReadAs shared new (read.NotYet shard gate) = FoundUnready shared new shard gate

-- after a read of a shard that was not ready the hand has only carried, and the same program runs
abbrev pub RunsAfterRead : Stand → Stand → Read → Type 0
RunsAfterRead old new read.Over = ⊤
RunsAfterRead old new read.More = ⊤
RunsAfterRead old new (read.NotYet shard gate) = DoesCarry old new

-- The shard of the running program's next vertex was not ready, though each gatekeeper below this number but the
-- program's home has heard of the program.
pub record FoundUnreadyAfterNudge (shared : Shared) (bound : ℕ) (new : Stand) (shard gate : ℕ) : Type 0 where
  pub found : FoundUnready shared new shard gate
  pub heard : (other : ℕ) → other < bound → other ≢ found.running.stamp.home
      → HasHeardOf shared new.hand found.running other

-- What a read answers that is tried once more, if its shard was not ready, after a nudge of the gatekeepers below
-- `bound`.
abbrev pub ReadAfterNudgeAs : Shared → ℕ → Stand → Read → Type 0
ReadAfterNudgeAs shared bound new read.Over = ProgramHasReadAll new
ReadAfterNudgeAs shared bound new read.More = ⊤
ReadAfterNudgeAs shared bound new (read.NotYet shard gate) = FoundUnreadyAfterNudge shared bound new shard gate

-- whether a vertex was read
abbrev pub is_more : Read → Bool
is_more read.Over = false
is_more read.More = true
is_more (read.NotYet shard gate) = false

-- the shard that was not ready
abbrev pub unready_in : Read → Option ℕ
unready_in read.Over = None
unready_in read.More = None
unready_in (read.NotYet shard gate) = Some shard

-- Tries

-- the try ended, since a shard was not ready
abbrev pub tried_by : Read → Option Tried
tried_by read.Over = None
tried_by read.More = None
tried_by (read.NotYet shard gate) = Some (tried.NotYet shard gate)

-- `transact` refuses for no other reason: another transaction is in flight, or out of memory
abbrev pub RefusesTransaction : HandFault → Type 0
RefusesTransaction fault.Busy = ⊤
RefusesTransaction (fault.NotYet shard gate) = ⊥
RefusesTransaction fault.Empty = ⊥
RefusesTransaction (fault.Waits vertex) = ⊥
RefusesTransaction fault.Memory = ⊤

-- `visit` refuses for no other reason: the shard is not ready, or out of memory
abbrev pub RefusesVisit : HandFault → Type 0
RefusesVisit fault.Busy = ⊥
RefusesVisit (fault.NotYet shard gate) = ⊤
RefusesVisit fault.Empty = ⊥
RefusesVisit (fault.Waits vertex) = ⊥
RefusesVisit fault.Memory = ⊤

-- a transaction was not begun since another one was in flight at its gatekeeper
abbrev pub tried_at : ℕ → HandFault → Option Tried
tried_at gate fault.Busy = Some (tried.Busy gate)
tried_at gate (fault.NotYet shard at) = None
tried_at gate fault.Empty = None
tried_at gate (fault.Waits vertex) = None
tried_at gate fault.Memory = None

-- the client has the reply to a request that was begun with this stamp
pub record GainsReply (number : ℕ) (old new : Client) (r : ℕ) (stamp : Stamp) (state : ReplyState) : Type 0 where
  pub at_end : IsClientOf number new.session new.log.items
  pub session : new.session ≡ with_reply (with_begun stamp old.session)
  pub requests : requests_in new ≡ requests_in old
  pub log : log_of_client new ≡ (log_of_client old ++ begun_entry number r stamp ∷ []) ++ replied_entry number r ∷ []
  pub running : new.running ≡ None
  pub replies : new.replies.items ≡ old.replies.items ++ reply_with r stamp state ∷ []

-- The try was one hold of the gatekeeper, in which it found a transaction in flight and made no entry. The client has
-- the same session and replies, and runs no program, as before.
pub record TriedBusyGate (shared : Shared) (script : Script) (upto : ℕ) (old new : Stand) (gate : ℕ) : Type 0 where
  pub found : FoundGateBusy script upto new gate
  pub hold : FoundBusy (shard_count shared) old.hand new.hand gate
  pub same : IsSameSession old.client new.client
  pub none_before : old.client.running ≡ None
  pub none_after : new.client.running ≡ None

-- what holds after a try of a request, by its outcome
abbrev pub TriedAs : Shared → Script → ℕ → Stand → Stand → Tried → Type 0
TriedAs shared script upto old new tried.Replied = ⊤
TriedAs shared script upto old new (tried.Busy gate) = TriedBusyGate shared script upto old new gate
TriedAs shared script upto old new (tried.NotYet shard gate) =
    FoundUnreadyAfterNudge shared (gate_count shared) new shard gate

-- a request was tried, and the worker went on with its session's requests before `upto`
pub record Tries (shared : Shared) (script : Script) (number upto : ℕ) (old new : Stand) (answer : Tried) : Type 0 where
  pub goes : WorkerGoesOn shared script number upto old new
  pub answered : TriedAs shared script upto old new answer

-- the session's first request without a reply, if it comes before `upto`
abbrev pub below_in : ℕ → Client → Option ℕ
below_in upto client =
    option_and_then (λ r. if nat_lt r upto then Some r else None)
    (unanswered_in (requests_in client) (log_of_client client))

-- in how many turns one after another the gatekeeper was busy, after one more try
abbrev pub busy_turns : ℕ → Tried → ℕ
busy_turns busy tried.Replied = 0
busy_turns busy (tried.Busy gate) = min (busy + 1) (2 ^ 32 - 1)
busy_turns busy (tried.NotYet shard gate) = 0

-- how a client's worker ends after a try and this many busy turns, if it ends
abbrev pub ended_after : Tried → ℕ → Option Ended
ended_after tried.Replied busy = None
ended_after (tried.Busy gate) busy = if nat_lt busy most_busy_turns then None else Some (ended.Busy gate)
ended_after (tried.NotYet shard gate) busy = Some (ended.NotYet shard gate)

-- Busy turns

-- the session's next request is at this gatekeeper
pub record IsNextAt (script : Script) (upto : ℕ) (client : Client) (gate : ℕ) : Type 0 where
  pub r : ℕ
  pub asked : Request
  pub next : IsNextRequest script upto client r asked
  pub gate_is : asked.gate ≡ gate

-- the last so many turns up to this hand found the gatekeeper busy
pub record WasBusy (shared : Shared) (gate busy : ℕ) (new : Hand) : Type 0 where
  pub from : Hand
  pub holds : List Hand
  pub many : length holds ≡ busy
  pub each : FindsBusy (shard_count shared) gate from holds new

-- they found the one of the session's next request busy
abbrev pub WasBusyForNext : Shared → Script → ℕ → Stand → ℕ → Type 0
WasBusyForNext shared script upto new busy = (gate : ℕ) → IsNextAt script upto new.client gate
    → WasBusy shared gate busy new.hand

-- A client's worker has gone on, turn by turn. The last `busy` turns, fewer than make it stop, found the gatekeeper of
-- its session's next request busy.
pub record GoesInTurns (shared : Shared) (script : Script) (number upto : ℕ) (old new : Stand) (busy : ℕ) : Type 0
  where
    pub goes : WorkerGoesOn shared script number upto old new
    pub few : busy < most_busy_turns
    pub was_busy : WasBusyForNext shared script upto new busy
