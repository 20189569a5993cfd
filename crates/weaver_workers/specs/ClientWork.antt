-- What a client's worker does, one thing after another, and how it ends.
use Rattle.std.specs.Prelude.{◌≡◌, ◌≢◌, ◌⊎◌, ℕ, ◌<◌, List, [], ◌∷◌, ◌++◌, length, Contains, IsTrue, Option, None, Some}
use Rattle.graph_ops.specs.declared.op.Op.{Op}
use Rattle.weave_data.specs.declared.name.Name.{Name}
use Rattle.weave_data.specs.Names.{shard_of}
use Rattle.vector_stamp.specs.declared.clock.Stamp.{Stamp}
use Rattle.program_defs.specs.declared.program.Answer.{Answer}
use Rattle.program_defs.specs.declared.program.Program.{Program}
use Rattle.program_defs.specs.declared.script.Request.{Request}
use Rattle.program_defs.specs.declared.script.Script.{Script}
use Rattle.program_defs.specs.declared.script.Work.TheVariants.{Change, Look}
use Rattle.program_defs.specs.Visits.{next_visit}
use Rattle.path_program.specs.declared.any.AnyProgram.{AnyProgram}
use Rattle.path_program.specs.AnyPrograms.{any_of, next_read, HasRead}
use Rattle.report_rules.specs.declared.report.Reply.{Reply}
use Rattle.report_rules.specs.declared.report.ReplyState.{ReplyState}
use Rattle.report_rules.specs.declared.report.ReplyState.TheVariants.{Finished}
use Rattle.report_rules.specs.Lookups.{request_at}
use Rattle.weave_entries.specs.declared.gate_log.GateEntry.{GateEntry}
use Rattle.weave_entries.specs.declared.session_log.SessionEntry.{SessionEntry}
use Rattle.weave_entries.specs.declared.session_log.SessionDeed.TheVariants.{Begun, Replied}
use Rattle.weave_entries.specs.declared.verdict.Verdict.{Verdict}
use Rattle.weave_entries.specs.GateReplay.{clock_of, flight_of, programs_of, BegunRequest}
use Rattle.weave_entries.specs.SessionReplay.{has_reply_in}
use Rattle.weave_entries.specs.ShardReplay.{first_unready}
use Rattle.weave_account.specs.Account.{gate_log, shard_log}
use Rattle.weave_account.specs.GoesOn.{IsBeginningOf}
use Rattle.weave_account.specs.Report.{state_by_verdict}
use Rattle.seen_logs.specs.Seen.{entries_since}
use Rattle.weaver_core.specs.declared.client.Client.{Client}
use Rattle.weaver_core.specs.declared.walks.Running.{Running}
use Rattle.weaver_core.specs.Sessions.{log_of_client, requests_in, IsInTurn}
use Rattle.weaver_locks.specs.declared.hand.Hand.{Hand}
use Rattle.weaver_locks.specs.declared.shared.Shared.{Shared}
use Rattle.weaver_locks.specs.Hands.{hand_number, seen_by}
use Rattle.weaver_locks.specs.Locks.{gate_count, shard_count, start_of}
use Rattle.weaver_hands.specs.Programs.{own_reads, HandFinishes, ReadsNoMore, Visits}
use Rattle.weaver_hands.specs.Transactions.{FoundBusy, Starts, Transacts}
use Rattle.weaver_workers.specs.declared.ended.Ended.{Ended}
use Rattle.weaver_workers.specs.declared.ended.Ended.TheVariants.{Done, Busy, NotYet}
use Rattle.weaver_workers.specs.Carrying.{HasTold, OnlyCarries}
use Rattle.weaver_workers.specs.Keeping.{KeepsClient}

-- a hand and its client at some time
pub record Stand : Type 0 where
  pub hand : Hand
  pub client : Client

-- the session's entries of a begin and of a reply
abbrev pub begun_entry : ℕ → ℕ → Stamp → SessionEntry
begun_entry number r stamp = record { author = number; deed = Begun r stamp }

abbrev pub replied_entry : ℕ → ℕ → SessionEntry
replied_entry number r = record { author = number; deed = Replied r }

-- the reply of a request with this stamp
abbrev pub reply_with : ℕ → Stamp → ReplyState → Reply
reply_with r stamp state = record { request = r; stamp = Some stamp; state = state }

-- this request of the script is the session's next one, and is before `upto`
pub record IsNextRequest (script : Script) (upto : ℕ) (client : Client) (r : ℕ) (asked : Request) : Type 0 where
  pub request_is : request_at script r ≡ Some asked
  pub turn : IsInTurn client.session r
  pub below : r < upto

-- One thing done

-- The session's next request, a transaction, was begun after the session's last stamp, judged and sent. The session has
-- its reply by the verdict.
pub record DoesChange (shared : Shared) (script : Script) (number upto : ℕ) (old new : Stand) : Type 0 where
  pub r : ℕ
  pub asked : Request
  pub next : IsNextRequest script upto old.client r asked
  pub ops : List Op
  pub work_is : asked.work ≡ Change ops
  pub stamp : Stamp
  pub verdict : Verdict
  pub transacts : Transacts (shard_count shared) old.hand new.hand asked.gate r ops old.client.session.last stamp
      verdict
  pub requests : requests_in new.client ≡ requests_in old.client
  pub log : log_of_client new.client
      ≡ (log_of_client old.client ++ begun_entry number r stamp ∷ []) ++ replied_entry number r ∷ []
  pub running : new.client.running ≡ None
  pub replies : new.client.replies.items
      ≡ old.client.replies.items ++ reply_with r stamp (state_by_verdict verdict) ∷ []

-- The session's next request, a program, was begun after the session's last stamp. It is running, and has read nothing.
pub record DoesStart (shared : Shared) (script : Script) (number upto : ℕ) (old new : Stand) : Type 0 where
  pub r : ℕ
  pub asked : Request
  pub next : IsNextRequest script upto old.client r asked
  pub program : Program
  pub work_is : asked.work ≡ Look program
  pub stamp : Stamp
  pub starts : Starts (shard_count shared) old.hand new.hand asked.gate r old.client.session.last stamp
  pub walk : AnyProgram
  pub program_is : any_of walk ≡ program
  pub unread : HasRead walk []
  pub requests : requests_in new.client ≡ requests_in old.client
  pub log : log_of_client new.client ≡ log_of_client old.client ++ begun_entry number r stamp ∷ []
  pub running : new.client.running ≡ Some (record { request = r; stamp = stamp; walk = walk })
  pub replies : new.client.replies.items ≡ old.client.replies.items

-- the client has the same session and replies, whatever runs
pub record IsSameSession (was is : Client) : Type 0 where
  pub session : is.session ≡ was.session
  pub log : log_of_client is ≡ log_of_client was
  pub replies : is.replies.items ≡ was.replies.items

-- The session's running program read its next vertex.
pub record DoesVisit (shared : Shared) (old new : Stand) : Type 0 where
  pub before : Running
  pub before_is : old.client.running ≡ Some before
  pub after : Running
  pub after_is : new.client.running ≡ Some after
  pub visits : Visits (gate_count shared) (shard_count shared) old.hand new.hand before after
  pub same : IsSameSession old.client new.client

-- The session's running program was finished, and the session has its reply with the answer.
pub record DoesFinish (shared : Shared) (number : ℕ) (old new : Stand) : Type 0 where
  pub before : Running
  pub before_is : old.client.running ≡ Some before
  pub answer : Answer
  pub finishes : HandFinishes (shard_count shared) old.hand new.hand before answer
  pub requests : requests_in new.client ≡ requests_in old.client
  pub log : log_of_client new.client ≡ log_of_client old.client ++ replied_entry number before.request ∷ []
  pub running : new.client.running ≡ None
  pub replies : new.client.replies.items
      ≡ old.client.replies.items ++ reply_with before.request before.stamp (Finished answer) ∷ []

-- the same program runs and has read the same, or none runs
abbrev pub RunsSameProgram : Option Running → Option Running → Type 0
RunsSameProgram None is = is ≡ None
RunsSameProgram (Some was) None = ⊥
RunsSameProgram (Some was) (Some is) = ReadsNoMore was is

-- The hand passed on clocks, sent empty messages, brought messages and had them processed, or did nothing.
pub record DoesCarry (old new : Stand) : Type 0 where
  pub only : OnlyCarries old.hand new.hand
  pub same : IsSameSession old.client new.client
  pub running : RunsSameProgram old.client.running new.client.running

-- one of these
abbrev pub DoesOneCall : Shared → Script → ℕ → ℕ → Stand → Stand → Type 0
DoesOneCall shared script number upto old new = DoesChange shared script number upto old new
    ⊎ (DoesStart shared script number upto old new
    ⊎ (DoesVisit shared old new
    ⊎ (DoesFinish shared number old new
    ⊎ DoesCarry old new)))

-- One after another

-- These stands lead from `old` to `new`: each comes from the one before by one thing done, and the last is `new`.
-- With none they are the same.
abbrev pub Goes : Shared → Script → ℕ → ℕ → Stand → List Stand → Stand → Type 0
Goes shared script number upto old [] new = old ≡ new
Goes shared script number upto old (next ∷ path) new =
    (DoesOneCall shared script number upto old next × KeepsClient shared script number next.hand next.client)
    × Goes shared script number upto next path new

-- A worker went on with its session: all that it did to the logs and to its client is this, and it can go on.
pub record WorkerGoesOn (shared : Shared) (script : Script) (number upto : ℕ) (old new : Stand) : Type 0 where
  pub path : List Stand
  pub went : Goes shared script number upto old path new
  pub keeps : KeepsClient shared script number new.hand new.client

-- How it ends

-- each request of the session before `upto` has its reply
abbrev pub HasReplies : ℕ → Client → Type 0
HasReplies upto client =
    (r : ℕ) → Contains (requests_in client) r → r < upto → IsTrue (has_reply_in r (log_of_client client))

-- The session's next request is a transaction at this gatekeeper, where one of another hand was in flight, as this hand
-- has seen.
pub record FoundGateBusy (script : Script) (upto : ℕ) (new : Stand) (gate : ℕ) : Type 0 where
  pub r : ℕ
  pub asked : Request
  pub next : IsNextRequest script upto new.client r asked
  pub ops : List Op
  pub work_is : asked.work ≡ Change ops
  pub gate_is : asked.gate ≡ gate
  pub flight : BegunRequest
  pub busy : flight_of (gate_log (seen_by new.hand) gate) ≡ Some flight
  pub other : flight.author ≢ hand_number new.hand

-- These hands lead from `old` to `new`, each by a hold of the gatekeeper in which it found a transaction in flight and
-- made no entry.
abbrev pub FindsBusy : ℕ → ℕ → Hand → List Hand → Hand → Type 0
FindsBusy shards gate old [] new = old ≡ new
FindsBusy shards gate old (next ∷ path) new = FoundBusy shards old next gate × FindsBusy shards gate next path new

-- a client stops when it has found its gatekeeper busy in this many turns one after another
abbrev pub most_busy_turns : ℕ
most_busy_turns = 16

-- The hand has found the gatekeeper of the session's next request busy in that many holds one after another, up to the
-- last one. A hold without an entry may leave the hand as it was: that they are as many turns, no definition can say.
pub record StopsAtBusyGate (shared : Shared) (script : Script) (upto : ℕ) (new : Stand) (gate : ℕ) : Type 0 where
  pub found : FoundGateBusy script upto new gate
  pub from : Hand
  pub holds : List Hand
  pub many : length holds ≡ most_busy_turns
  pub each : FindsBusy (shard_count shared) gate from holds new.hand

-- The session's program is running, and the shard of its next vertex, the next visit after what the hand's visits read,
-- was not ready for it, as the hand has seen: this is the least gatekeeper for which it was not.
pub record FoundUnready (shared : Shared) (new : Stand) (shard gate : ℕ) : Type 0 where
  pub running : Running
  pub running_is : new.client.running ≡ Some running
  pub vertex : Name
  pub next_is : next_read running.walk ≡ Some vertex
  pub in_turn : next_visit (own_reads new.hand running.request) (any_of running.walk) ≡ Some vertex
  pub shard_is : shard ≡ shard_of vertex (shard_count shared)
  pub unready : first_unready (gate_count shared) running.stamp (shard_log (seen_by new.hand) shard) ≡ Some gate

-- Since the locks' start the gatekeeper has heard from the hand a clock that the program's home had said after the
-- program was begun there.
pub record HasHeardOf (shared : Shared) (hand : Hand) (running : Running) (gate : ℕ) : Type 0 where
  pub said : List GateEntry
  pub seen : IsBeginningOf said (gate_log (seen_by hand) running.stamp.home)
  pub after : Contains (programs_of said)
      (record { author = hand_number hand; request = running.request; stamp = running.stamp })
  pub told : HasTold hand gate (clock_of running.stamp.home said)
  pub since : Contains (entries_since (gate_log (start_of shared) gate) (gate_log (seen_by hand) gate)) told.entry

-- The shard of the running program's next vertex was not ready, and each gatekeeper but the program's home has heard of
-- the program.
pub record StopsAtUnreadyShard (shared : Shared) (upto : ℕ) (new : Stand) (shard gate : ℕ) : Type 0 where
  pub found : FoundUnready shared new shard gate
  pub below : found.running.request < upto
  pub heard : (other : ℕ) → other < gate_count shared → other ≢ found.running.stamp.home
      → HasHeardOf shared new.hand found.running other

-- how a client's worker ends
abbrev pub WorkerEndsAs : Shared → Script → ℕ → Stand → Ended → Type 0
WorkerEndsAs shared script upto new Done = HasReplies upto new.client
WorkerEndsAs shared script upto new (Busy gate) = StopsAtBusyGate shared script upto new gate
WorkerEndsAs shared script upto new (NotYet shard gate) = StopsAtUnreadyShard shared upto new shard gate
