-- What the calls of a worker in `hands` rely on: laws of the crates below, in one record. For tests: no public contract
-- cites this.
use Rattle.std.specs.Prelude.{◌≡◌, ◌≢◌, ◌<◌, ℕ, List, [], Contains, Option}
use Rattle.vector_stamp.specs.declared.clock.Stamp.{Stamp}
use Rattle.path_program.specs.declared.any.AnyProgram.{AnyProgram}
use Rattle.path_program.specs.AnyPrograms.{HasRead}
use Rattle.weave_entries.specs.declared.gate_log.GateEntry.{GateEntry}
use Rattle.weave_entries.specs.GateReplay.{BegunRequest, begun_by}
use Rattle.weave_account.specs.Account.{reads_of}
use Rattle.weaver_core.specs.declared.walks.Running.{Running}
use Rattle.weaver_locks.specs.declared.hand.Hand.{Hand}
use Rattle.weaver_locks.specs.declared.shared.Shared.{Shared}
use Rattle.weaver_locks.specs.Following.{HasNotBegun, MayHear}
use Rattle.weaver_locks.specs.Hands.{made_by, seen_by, with_gate_entries, IsHand}
use Rattle.weaver_locks.specs.Locks.{gate_count, shard_count}
use Rattle.weaver_hands.specs.Leaving.{LeavesAlone, MakesNoVisit}
use Rattle.weaver_hands.specs.Programs.{own_reads, IsRunning}
use Rattle.weaver_hands.specs.Transactions.{Starts}

-- what was not begun stays so, stamps may be heard again, and programs run until they are finished
pub record OwnRequestLaws : Type 0 where
  pub fresh_at_gate : (old new : Hand) (gate : ℕ) (added : List GateEntry)
      → made_by new ≡ with_gate_entries gate added (made_by old) → (r : ℕ)
      → ((entry : GateEntry) (begun : BegunRequest) → Contains added entry
      → Contains (begun_by entry.author entry.deed) begun → begun.request ≢ r)
      → HasNotBegun old r → HasNotBegun new r
  pub fresh_elsewhere : (old new : Hand) → (made_by new).gates ≡ (made_by old).gates
      → (r : ℕ) → HasNotBegun old r → HasNotBegun new r
  pub heard_at_gate : (shared : Shared) (old new : Hand) (gate : ℕ) (added : List GateEntry)
      → made_by new ≡ with_gate_entries gate added (made_by old)
      → (stamp : Stamp) → MayHear shared old stamp → MayHear shared new stamp
  pub heard_elsewhere : (shared : Shared) (old new : Hand) → (made_by new).gates ≡ (made_by old).gates
      → (stamp : Stamp) → MayHear shared old stamp → MayHear shared new stamp
  pub nothing_read : (hand : Hand) (r : ℕ) → reads_of (seen_by hand) r ≡ [] → own_reads hand r ≡ []
  pub same_reads : (shared : Shared) (old new : Hand) (r : ℕ) → IsHand shared old → IsHand shared new
      → MakesNoVisit old new r → own_reads new r ≡ own_reads old r
  pub runs : (shared : Shared) (old new : Hand) (running : Running) → IsHand shared old → IsHand shared new
      → LeavesAlone old new running.request → IsRunning shared old running → IsRunning shared new running
  pub starts : (shared : Shared) (old new : Hand) (gate request : ℕ) (last : Option Stamp) (stamp : Stamp)
      (walk : AnyProgram) → IsHand shared old → IsHand shared new → gate < gate_count shared
      → HasNotBegun old request → own_reads old request ≡ []
      → Starts (shard_count shared) old new gate request last stamp → HasRead walk []
      → IsRunning shared new (record { request = request; stamp = stamp; walk = walk })
