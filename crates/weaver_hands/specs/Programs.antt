-- What a hand's visits and the finish of a program have done, and when a program is running.
use Rattle.std.specs.Prelude.{◌≡◌, ◌≢◌, ◌∷◌, ◌++◌, ◌==◌, ℕ, List, [], map, filter, take, Contains}
use Rattle.std.specs.Prelude.{None, Some, Result, Ok, Err}
use Rattle.std.specs.List.{flat_map}
use Rattle.weave_data.specs.declared.name.Name.{Name}
use Rattle.weave_data.specs.Names.{shard_of}
use Rattle.graph_ops.specs.Operations.{State}
use Rattle.program_defs.specs.declared.program.Answer.{Answer}
use Rattle.program_defs.specs.Agreement.{AreSameReads}
use Rattle.program_defs.specs.PlainAnswer.{IsPlainAnswer}
use Rattle.program_defs.specs.Visits.{graph_read, next_visit}
use Rattle.path_program.specs.AnyPrograms.{any_of, next_read, HasRead}
use Rattle.shard_node.specs.declared.fault.VisitFault.TheVariants.{Again}
use Rattle.weave_entries.specs.declared.gate_log.GateEntry.{GateEntry}
use Rattle.weave_entries.specs.declared.gate_log.GateDeed.TheVariants.{Finished}
use Rattle.weave_entries.specs.declared.shard_log.ShardEntry.{ShardEntry}
use Rattle.weave_entries.specs.GateReplay.{programs_of}
use Rattle.weave_entries.specs.ShardReplay.{Visit, state_of_updates, updates_of}
use Rattle.weave_account.specs.Account.{gate_log}
use Rattle.weave_account.specs.GoesOn.{visits_by}
use Rattle.seen_logs.specs.Seen.{entries_since}
use Rattle.weaver_core.specs.declared.walks.Running.{Running}
use Rattle.weaver_core.specs.Visiting.{HasReadMore}
use Rattle.weaver_locks.specs.declared.hand.Hand.{Hand}
use Rattle.weaver_locks.specs.declared.shared.Shared.{Shared}
use Rattle.weaver_locks.specs.GateHolds.{gate_entry_by, WasAtGate}
use Rattle.weaver_locks.specs.Hands.{hand_number, seen_by}
use Rattle.weaver_locks.specs.Locks.{start_of}
use Rattle.weaver_locks.specs.ShardHolds.{VisitsIn}
use Rattle.weaver_hands.specs.declared.fault.HandFault.{HandFault}
use Rattle.weaver_hands.specs.declared.fault.HandFault.TheVariants.{Busy, NotYet, Empty, Waits, Memory}
use Rattle.weaver_hands.specs.Leaving.{MadeNone}

-- Programs that are running

-- the entries of a shard's log that have this author
abbrev pub entries_of_author : ℕ → List ShardEntry → List ShardEntry
entries_of_author number log = filter (λ (entry : ShardEntry). entry.author == number) log

-- what an author's visits for a request read in a shard: each vertex, in the state after the updates that it saw
abbrev pub own_reads_in : ℕ → ℕ → List ShardEntry → List (Name × State)
own_reads_in number r log =
    map (λ (visit : Visit). (visit.vertex, state_of_updates (take visit.updates (updates_of visit.vertex log))))
    (visits_by r (entries_of_author number log))

-- what the hand's visits for a request read, in all shards
abbrev pub own_reads : Hand → ℕ → List (Name × State)
own_reads hand r = flat_map (own_reads_in (hand_number hand) r) (seen_by hand).shards

-- The hand began the program since the start, and has not finished it. The program has read what the hand's visits for
-- it read, and nothing else.
pub record IsRunning (shared : Shared) (hand : Hand) (running : Running) : Type 0 where
  pub begun : (let home = running.stamp.home in
      Contains (programs_of (entries_since (gate_log (start_of shared) home) (gate_log (seen_by hand) home)))
      (record { author = hand_number hand; request = running.request; stamp = running.stamp }))
  pub unfinished : (entry : GateEntry) → Contains (gate_log (seen_by hand) running.stamp.home) entry
      → entry.author ≡ hand_number hand → entry.deed ≢ Finished running.request
  pub reads : List (Name × State)
  pub walk : HasRead running.walk reads
  pub same : AreSameReads reads (own_reads hand running.request)

-- Visits

-- what was read has one more read
pub record GainsRead (old new : List (Name × State)) (read : Name × State) : Type 0 where
  pub front : List (Name × State)
  pub back : List (Name × State)
  pub was : old ≡ front ++ back
  pub is : new ≡ front ++ read ∷ back

-- the program is as it was, except for its room
pub record ReadsNoMore (old new : Running) : Type 0 where
  pub request_is : new.request ≡ old.request
  pub stamp_is : new.stamp ≡ old.stamp
  pub program_is : any_of new.walk ≡ any_of old.walk
  pub next_is : next_read new.walk ≡ next_read old.walk
  pub reads : (reads : List (Name × State)) → HasRead old.walk reads → HasRead new.walk reads

-- The program's next vertex was read in one hold of its shard, and the program was fed the state that was read there.
-- It is the next visit after what the hand's visits had read, and they have read one more state.
pub record Visits (gates shards : ℕ) (old new : Hand) (was is : Running) : Type 0 where
  pub vertex : Name
  pub next_is : next_read was.walk ≡ Some vertex
  pub in_turn : next_visit (own_reads old was.request) (any_of was.walk) ≡ Some vertex
  pub state : State
  pub visits : VisitsIn gates shards old new (shard_of vertex shards) was.request was.stamp vertex (Ok state)
  pub fed : HasReadMore was is vertex state
  pub more : GainsRead (own_reads old was.request) (own_reads new was.request) (vertex, state)

-- The shard of the program's next vertex was not ready for it in this call's hold: this is the least gatekeeper for
-- which it was not. The vertex is the next visit after what the hand's visits had read. Nothing was done.
pub record FoundNotReady (gates shards : ℕ) (old new : Hand) (was is : Running) (shard gate : ℕ) : Type 0 where
  pub vertex : Name
  pub next_is : next_read was.walk ≡ Some vertex
  pub in_turn : next_visit (own_reads old was.request) (any_of was.walk) ≡ Some vertex
  pub shard_is : shard ≡ shard_of vertex shards
  pub visits : VisitsIn gates shards old new shard was.request was.stamp vertex (Err (Again gate))
  pub still : ReadsNoMore was is

-- what `visit` answers
abbrev pub VisitsAs : ℕ → ℕ → Hand → Hand → Running → Running → Result (Unit {0}) HandFault → Type 0
VisitsAs gates shards old new was is (Ok done) = Visits gates shards old new was is
VisitsAs gates shards old new was is (Err (NotYet shard gate)) = FoundNotReady gates shards old new was is shard gate
VisitsAs gates shards old new was is (Err Memory) = MadeNone old new × ReadsNoMore was is
VisitsAs gates shards old new was is (Err Busy) = ⊥
VisitsAs gates shards old new was is (Err Empty) = ⊥
VisitsAs gates shards old new was is (Err (Waits vertex)) = ⊥

-- The finish of a program

-- The program was finished in one hold of its gatekeeper. The hand's visits had read all that it visits, and this is
-- the plain answer over what they had read.
pub record HandFinishes (shards : ℕ) (old new : Hand) (running : Running) (answer : Answer) : Type 0 where
  pub before : List GateEntry
  pub was : WasAtGate shards old new running.stamp.home before (gate_entry_by old (Finished running.request) ∷ [])
  pub whole : next_visit (own_reads old running.request) (any_of running.walk) ≡ None
  pub plain : IsPlainAnswer (graph_read (own_reads old running.request)) (any_of running.walk) answer

-- what `finish` answers
abbrev pub FinishesAs : ℕ → Hand → Hand → Running → Result Answer HandFault → Type 0
FinishesAs shards old new running (Ok answer) = HandFinishes shards old new running answer
FinishesAs shards old new running (Err Memory) = MadeNone old new
FinishesAs shards old new running (Err Busy) = ⊥
FinishesAs shards old new running (Err (NotYet shard at)) = ⊥
FinishesAs shards old new running (Err Empty) = ⊥
FinishesAs shards old new running (Err (Waits vertex)) = ⊥
