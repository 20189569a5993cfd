-- The laws of the crates below on what a hand reads and leaves alone, in one. No public contract cites this.
use Rattle.std.specs.Prelude.{◌≡◌, ◌≢◌, ◌↔◌, ℕ, List, ◌∷◌, ◌++◌, take, Contains, IsTrue, Option, Some}
use Rattle.weave_data.specs.declared.name.Name.{Name}
use Rattle.graph_ops.specs.declared.op.Op.{Op}
use Rattle.graph_ops.specs.Mentions.{is_among}
use Rattle.graph_ops.specs.Operations.{State}
use Rattle.vector_stamp.specs.declared.clock.Stamp.{Stamp}
use Rattle.program_defs.specs.declared.program.Answer.{Answer}
use Rattle.program_defs.specs.declared.program.Program.{Program}
use Rattle.program_defs.specs.Visits.{next_visit, AreFirstVisits}
use Rattle.weave_entries.specs.declared.session_log.SessionEntry.{SessionEntry}
use Rattle.weave_entries.specs.declared.verdict.Verdict.{Verdict}
use Rattle.weave_entries.specs.SessionReplay.{replied_count, replied_in, session_of, IsSessionLog}
use Rattle.weaver_core.specs.declared.walks.Running.{Running}
use Rattle.weaver_locks.specs.declared.hand.Hand.{Hand}
use Rattle.weaver_locks.specs.declared.shared.Shared.{Shared}
use Rattle.weaver_locks.specs.Following.{VisitsItsOwnPrograms}
use Rattle.weaver_locks.specs.Hands.{IsHand}
use Rattle.weaver_locks.specs.Locks.{gate_count, shard_count}
use Rattle.weaver_hands.specs.Leaving.{MakesNoVisit}
use Rattle.weaver_hands.specs.Programs.{own_reads, HandFinishes, IsRunning, Visits}
use Rattle.weaver_hands.specs.Transactions.{Starts, Transacts}

pub record ReadLaws : Type 0 where
  -- What is left alone
  pub reads : (shared : Shared) (old new : Hand) (r : ℕ) → IsHand shared old → IsHand shared new
      → MakesNoVisit old new r → own_reads new r ≡ own_reads old r
  pub transact : (shards : ℕ) (old new : Hand) (gate request : ℕ) (ops : List Op) (last : Option Stamp) (stamp : Stamp)
      (verdict : Verdict) → Transacts shards old new gate request ops last stamp verdict → (r : ℕ)
      → MakesNoVisit old new r
  pub start : (shards : ℕ) (old new : Hand) (gate request : ℕ) (last : Option Stamp) (stamp : Stamp)
      → Starts shards old new gate request last stamp → (r : ℕ) → MakesNoVisit old new r
  pub visit : (gates shards : ℕ) (old new : Hand) (was is : Running) → Visits gates shards old new was is → (r : ℕ)
      → r ≢ was.request → MakesNoVisit old new r
  pub finish : (shards : ℕ) (old new : Hand) (running : Running) (answer : Answer)
      → HandFinishes shards old new running answer → (r : ℕ) → MakesNoVisit old new r
  -- A hand's own programs
  pub none_visited : (shared : Shared) (old new : Hand) → IsHand shared old → IsHand shared new
      → ((r : ℕ) → MakesNoVisit old new r) → VisitsItsOwnPrograms shared old → VisitsItsOwnPrograms shared new
  pub own_visited : (shared : Shared) (old new : Hand) (was is : Running) → IsHand shared old → IsHand shared new
      → IsRunning shared old was → Visits (gate_count shared) (shard_count shared) old new was is
      → VisitsItsOwnPrograms shared old → VisitsItsOwnPrograms shared new
  -- Programs
  pub visits_go_on : (program : Program) (front back : List (Name × State)) (v : Name) (state : State)
      → AreFirstVisits (front ++ back) program → next_visit (front ++ back) program ≡ Some v
      → AreFirstVisits (front ++ (v, state) ∷ back) program
  pub among_tested : (names : List Name) (v : Name) → IsTrue (is_among names v) ↔ Contains names v
  -- Sessions
  pub replied_first : (number : ℕ) (requests : List ℕ) (log : List SessionEntry) → IsSessionLog number requests log
      → replied_in log ≡ take (replied_count (session_of requests log)) requests
