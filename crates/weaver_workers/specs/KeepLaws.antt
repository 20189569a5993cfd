-- The laws of the crates below that a client's worker relies on, in one record. No public contract cites this.
use Rattle.std.specs.Prelude.{◌≡◌, ◌≢◌, ◌↔◌, ◌==◌, ℕ, ◌<◌, List, [], ◌∷◌, ◌++◌, take, Contains, IsTrue, Option}
use Rattle.std.specs.List.{filter}
use Rattle.graph_ops.specs.declared.op.Op.{Op}
use Rattle.program_defs.specs.declared.program.Answer.{Answer}
use Rattle.vector_stamp.specs.declared.clock.Stamp.{Stamp}
use Rattle.path_program.specs.declared.any.AnyProgram.{AnyProgram}
use Rattle.path_program.specs.AnyPrograms.{HasRead}
use Rattle.weave_entries.specs.declared.gate_log.GateEntry.{GateEntry}
use Rattle.weave_entries.specs.declared.session_log.SessionEntry.{SessionEntry}
use Rattle.weave_entries.specs.declared.verdict.Verdict.{Verdict}
use Rattle.weave_entries.specs.GateReplay.{BegunRequest, begun_by}
use Rattle.weave_entries.specs.SessionReplay.{has_reply_in, replied_count, replied_in, session_after, session_of, IsSessionLog}
use Rattle.weave_account.specs.Account.{gate_log}
use Rattle.weaver_core.specs.declared.walks.Running.{Running}
use Rattle.weaver_locks.specs.declared.hand.Hand.{Hand}
use Rattle.weaver_locks.specs.declared.shared.Shared.{Shared}
use Rattle.weaver_locks.specs.Following.{HasNotBegun}
use Rattle.weaver_locks.specs.Hands.{hand_number, made_by, seen_by, with_gate_entries, IsHand}
use Rattle.weaver_locks.specs.Locks.{gate_count, shard_count}
use Rattle.weaver_hands.specs.Leaving.{LeavesAlone, MakesNoVisit}
use Rattle.weaver_hands.specs.Programs.{own_reads, HandFinishes, IsRunning, Visits}
use Rattle.weaver_hands.specs.Transactions.{Starts, Transacts}

pub record KeepLaws : Type 0 where
  -- What a hand made
  pub own_at_gate : (shared : Shared) (hand : Hand) → IsHand shared hand → (home : ℕ) → gate_log (made_by hand) home
      ≡ filter (λ (entry : GateEntry). entry.author == hand_number hand) (gate_log (seen_by hand) home)
  -- What was not begun
  pub at_gate : (old new : Hand) (gate : ℕ) (added : List GateEntry)
      → made_by new ≡ with_gate_entries gate added (made_by old) → (r : ℕ)
      → ((entry : GateEntry) (begun : BegunRequest) → Contains added entry
      → Contains (begun_by entry.author entry.deed) begun → begun.request ≢ r)
      → HasNotBegun old r → HasNotBegun new r
  pub elsewhere : (old new : Hand) → (made_by new).gates ≡ (made_by old).gates
      → (r : ℕ) → HasNotBegun old r → HasNotBegun new r
  -- What is left alone
  pub runs : (shared : Shared) (old new : Hand) (running : Running) → IsHand shared old → IsHand shared new
      → LeavesAlone old new running.request → IsRunning shared old running → IsRunning shared new running
  pub reads : (shared : Shared) (old new : Hand) (r : ℕ) → IsHand shared old → IsHand shared new
      → MakesNoVisit old new r → own_reads new r ≡ own_reads old r
  pub transact : (shards : ℕ) (old new : Hand) (gate request : ℕ) (ops : List Op) (last : Option Stamp) (stamp : Stamp)
      (verdict : Verdict) → Transacts shards old new gate request ops last stamp verdict → (r : ℕ)
      → LeavesAlone old new r
  pub start : (shards : ℕ) (old new : Hand) (gate request : ℕ) (last : Option Stamp) (stamp : Stamp)
      → Starts shards old new gate request last stamp → (r : ℕ) → LeavesAlone old new r
  pub visit : (gates shards : ℕ) (old new : Hand) (was is : Running) → Visits gates shards old new was is → (r : ℕ)
      → r ≢ was.request → LeavesAlone old new r
  pub finish : (shards : ℕ) (old new : Hand) (running : Running) (answer : Answer)
      → HandFinishes shards old new running answer → (r : ℕ) → MakesNoVisit old new r
  -- Programs that were begun
  pub begun : (shared : Shared) (old new : Hand) (gate request : ℕ) (last : Option Stamp) (stamp : Stamp)
      (walk : AnyProgram) → IsHand shared old → IsHand shared new → gate < gate_count shared
      → HasNotBegun old request → own_reads old request ≡ []
      → Starts (shard_count shared) old new gate request last stamp → HasRead walk []
      → IsRunning shared new (record { request = request; stamp = stamp; walk = walk })
  -- Sessions
  pub replay : (requests : List ℕ) (log : List SessionEntry) (entry : SessionEntry)
      → session_of requests (log ++ entry ∷ []) ≡ session_after (session_of requests log) entry.deed
  pub replied_first : (number : ℕ) (requests : List ℕ) (log : List SessionEntry) → IsSessionLog number requests log
      → replied_in log ≡ take (replied_count (session_of requests log)) requests
  pub has_reply : (request : ℕ) (log : List SessionEntry) → IsTrue (has_reply_in request log)
      ↔ Contains (replied_in log) request
