-- What the parts of driving reach, and what gets less with each turn of their loops. No public contract cites this.
use Rattle.std.specs.Prelude.{◌≡◌, ℕ, zero, suc, ◌+◌, ◌-◌, ◌<◌, ◌≤◌, Bool, true, false, length, Contains, IsTrue, is_some, Option, None, Some, if◌then◌else◌}
use Rattle.vector_stamp.specs.declared.clock.Stamp.{Stamp}
use Rattle.vector_stamp.specs.Order.{stamp_before}
use Rattle.shard_queue.specs.Outbox.{sent_as}
use Rattle.program_defs.specs.declared.program.Program.{Program}
use Rattle.program_defs.specs.declared.script.Request.{Request}
use Rattle.program_defs.specs.declared.script.Script.{Script}
use Rattle.program_defs.specs.declared.script.Work.TheVariants.{Look}
use Rattle.program_defs.specs.Limits.{IsWithinLimits}
use Rattle.program_defs.specs.Visits.{next_visit}
use Rattle.report_rules.specs.Lookups.{request_at}
use Rattle.report_rules.specs.declared.report.StepAnswer.{StepAnswer}
use Rattle.report_rules.specs.declared.report.StepAnswer.TheVariants.{Ok, Repeat}
use Rattle.weave_entries.specs.declared.message.Addressed.{Addressed}
use Rattle.weave_entries.specs.GateReplay.{BegunRequest, addressed_to, channel_of, program_begun, stamps_of}
use Rattle.weave_entries.specs.ShardReplay.{arrived_at, first_unready, processed_count}
use Rattle.weave_account.specs.declared.account.Account.{Account}
use Rattle.weave_account.specs.Account.{gate_log, reads_of, shard_log, NoneInFlight}
use Rattle.step_rules.specs.CoreState.{CoreState}
use Rattle.step_rules.specs.IsCore.{IsCore}
use Rattle.weaver_core.specs.Cores.{CoreView}
use Rattle.drive_rules.specs.Heads.{AllArrived, AllProcessed, CanApply}
use Rattle.drive_rules.specs.Links.{link_count}
use Rattle.weave_drive.specs.Driving.{AreReplied}

-- Steps

-- before and after a step there is a core of one script
pub record AreCores (old new : CoreView) : Type 0 where
  pub limits : IsWithinLimits old.script
  pub before : IsCore old.script old.state
  pub after : IsCore old.script new.state

-- the message was sent: it has arrived now, or had before
abbrev pub is_known : StepAnswer → Bool
is_known Ok = true
is_known Repeat = true
is_known _ = false

-- Deliveries

-- the messages of a channel before this number have arrived
abbrev pub HaveArrived : Account → ℕ → ℕ → ℕ → Type 0
HaveArrived account shard gate number =
    (n : ℕ) → 1 ≤ n → n < number → IsTrue (is_some (arrived_at gate n (shard_log account shard)))

-- the message of this number was to arrive: it is there, if it was sent
pub record DeliversMessage (gate shard number : ℕ) (old new : Account) (sent : Bool) : Type 0 where
  pub same_gates : new.gates ≡ old.gates
  pub sent_is : sent ≡ is_some (sent_as number (channel_of shard (gate_log old gate)))
  pub arrived : IsTrue sent → IsTrue (is_some (arrived_at gate number (shard_log new shard)))

-- all messages of a channel have arrived
pub record DeliversAll (gate shard : ℕ) (old new : Account) : Type 0 where
  pub same_gates : new.gates ≡ old.gates
  pub arrived : HaveArrived new shard gate (length (channel_of shard (gate_log new gate)) + 1)

-- all messages to a shard have arrived
pub record DeliversTo (shard : ℕ) (old new : Account) : Type 0 where
  pub same_gates : new.gates ≡ old.gates
  pub arrived : AllArrived new shard

-- Applications

-- how many messages of the first n gatekeepers to a shard are not processed
abbrev pub left_of : ℕ → Account → ℕ → ℕ
left_of zero account shard = 0
left_of (suc g) account shard =
    left_of g account shard + (length (channel_of shard (gate_log account g))
    - processed_count g (shard_log account shard))

-- a channel's heads were to be processed, while they can be: there are fewer messages left, or it was stuck
pub record AppliesChannel (gates shard gate : ℕ) (old new : CoreState) (moved : Bool) : Type 0 where
  pub same_gates : new.account.gates ≡ old.account.gates
  pub fewer : IsTrue moved → left_of gates new.account shard < left_of gates old.account shard
  pub same : moved ≡ false → new ≡ old
  pub stuck : moved ≡ false → ¬ CanApply old.account shard gate

-- the same for the first n channels
pub record AppliesRound (gates shard n : ℕ) (old new : CoreState) (moved : Bool) : Type 0 where
  pub same_gates : new.account.gates ≡ old.account.gates
  pub fewer : IsTrue moved → left_of gates new.account shard < left_of gates old.account shard
  pub same : moved ≡ false → new ≡ old
  pub stuck : moved ≡ false → (gate : ℕ) → gate < n → ¬ CanApply old.account shard gate

-- all that was sent to a shard is processed
pub record AppliesAll (shard : ℕ) (old new : Account) : Type 0 where
  pub same_gates : new.gates ≡ old.gates
  pub processed : AllProcessed new shard

-- Readiness

-- a message after the stamp was sent to the shard
pub record IsSentAfter (account : Account) (shard : ℕ) (stamp : Stamp) (home : ℕ) : Type 0 where
  pub addressed : Addressed
  pub sent : Contains (addressed_to shard (gate_log account home)) addressed
  pub later : IsTrue (stamp_before stamp addressed.message.stamp)

-- for each stamp that the home had made, a gatekeeper has sent a later message to the shard
abbrev pub Nudges : ℕ → ℕ → ℕ → Account → Account → Type 0
Nudges home gate shard old new =
    (stamp : Stamp) → Contains (stamps_of (gate_log old home)) stamp → IsSentAfter new shard stamp gate

-- the shard is ready for each stamp that the home had made
abbrev pub MakesReady : Script → ℕ → ℕ → Account → Account → Type 0
MakesReady script home shard old new = (stamp : Stamp) → Contains (stamps_of (gate_log old home)) stamp
    → first_unready script.gates stamp (shard_log new shard) ≡ None

-- Reading

-- the request is a program of this gatekeeper, and has begun there
pub record IsReading (script : Script) (r home : ℕ) (account : Account) : Type 0 where
  pub request : Request
  pub program : Program
  pub begun : BegunRequest
  pub request_is : request_at script r ≡ Some request
  pub gate_is : request.gate ≡ home
  pub work_is : request.work ≡ Look program
  pub begun_is : program_begun r (gate_log account home) ≡ Some begun
  pub stamped : Contains (stamps_of (gate_log account home)) begun.stamp

-- how many of the first n shards aren't ready for a stamp
abbrev pub unready_of : ℕ → ℕ → Stamp → Account → ℕ
unready_of zero gates stamp account = 0
unready_of (suc s) gates stamp account =
    unready_of s gates stamp account + (if is_some (first_unready gates stamp (shard_log account s)) then 1 else 0)

-- vertices that a program may still read, and shards that are not ready for it
abbrev pub reading_left_of : Script → ℕ → Account → Option BegunRequest → ℕ
reading_left_of script r account None = 0
reading_left_of script r account (Some begun) =
    (1 + link_count script + unready_of script.shards script.gates begun.stamp account) - length (reads_of account r)

abbrev pub reading_left : Script → ℕ → ℕ → Account → ℕ
reading_left script r home account = reading_left_of script r account (program_begun r (gate_log account home))

-- the request, if it is a program, has no next vertex
abbrev pub HasNoNextVertex : Script → ℕ → Account → Type 0
HasNoNextVertex script r account =
    (request : Request) (program : Program) → request_at script r ≡ Some request → request.work ≡ Look program
    → next_visit (reads_of account r) program ≡ None

-- a vertex was read, or a shard became ready; or there is no next vertex
pub record ReadsOnward (script : Script) (r home : ℕ) (old new : Account) (more : Bool) : Type 0 where
  pub less : IsTrue more → reading_left script r home new < reading_left script r home old
  pub whole : more ≡ false → HasNoNextVertex script r new

-- Answers

-- no transaction is in flight, and each request below n has its reply
pub record AreAnsweredBelow (script : Script) (n : ℕ) (account : Account) : Type 0 where
  pub quiet : NoneInFlight account
  pub replied : AreReplied script n account
