-- A program that shows a vertex has read all that it reads once it has visited it.
-- Used by `visit`.
use Rattle.std.proofs.Common.{◌≡◌, ◌==◌, ℕ, true, List, [], ◌∷◌, filter, take, refl, sym, subst, eq-eqb}
use Rattle.std.specs.Prelude.{Option, Ok, Contains}
use Rattle.std.proofs.lemmas.Cmp.{eq_by_cmp_equiv, nat_list_cmp_total}
use Rattle.weave_data.proofs.Members.{has_filter, has_flat, has_head, has_last, has_map, only}
use Rattle.weave_data.specs.declared.name.Name.{Name}
use Rattle.weave_data.specs.Names.{same_name}
use Rattle.graph_ops.specs.declared.record.Record.{Record}
use Rattle.graph_ops.specs.Operations.{State}
use Rattle.program_defs.specs.declared.program.Program.TheVariants.{Show}
use Rattle.vector_stamp.specs.declared.clock.Stamp.{Stamp}
use Rattle.weave_entries.specs.declared.shard_log.ShardDeed.TheVariants.{Visited}
use Rattle.weave_entries.specs.declared.shard_log.ShardEntry.{ShardEntry}
use Rattle.weave_entries.specs.ShardReplay.{Visit, reads_in, state_of_updates, updates_of, visit_by, visits_of}
use Rattle.weave_account.specs.declared.account.Account.{Account}
use Rattle.weave_account.specs.Account.{reads_of, shard_log}
use Rattle.weave_account.proofs.Beginning.{list-there}
use Rattle.seen_logs.specs.References.{EndsAsSeen}
use Rattle.weave_entries.specs.OracleReplay.{pairs_of_log}
use Rattle.weave_entries.specs.ShardRules.{is_settled_by, updates_read}
use Rattle.weaver_locks.specs.declared.hand.Hand.{Hand}
use Rattle.weaver_locks.specs.Hands.{hand_number, seen_by}
use Rattle.weaver_locks.specs.ShardHolds.{VisitsIn}

-- a visit in a shard's log is a read
module _ (log : List ShardEntry) (by r : ℕ) (stamp : Stamp) (vertex : Name) where
  abbrev read-as : Visit → Name × State
  read-as visit = (visit.vertex, state_of_updates (take visit.updates (updates_of visit.vertex log)))

  read-there : (updates : ℕ) (settled : _) → Contains log (record { author = by; deed = Visited r stamp vertex updates settled })
      → Contains (reads_in r log) (vertex, state_of_updates (take updates (updates_of vertex log)))
  read-there updates settled there =
      let visit : Visit = record { author = by; request = r; stamp = stamp; vertex = vertex; updates = updates; settled = settled } in
      let visited = has_flat (λ (e : ShardEntry). visit_by e.author e.deed) log
      (record { author = by; deed = Visited r stamp vertex updates settled }) visit there (has_head visit []) in
      has_map read-as (filter (λ (v : Visit). v.request == r) (visits_of log)) visit
      (has_filter (λ (v : Visit). v.request == r) (visits_of log) visit visited (eq-eqb r r refl))

-- once a visit for a request was seen, the request has read all that a program reads which shows the vertex
pub shown-ends : (seen : Account) (shard by r : ℕ) (stamp : Stamp) (vertex : Name) (updates : ℕ) (settled : _)
    → Contains (shard_log seen shard) (record { author = by; deed = Visited r stamp vertex updates settled }) → EndsAsSeen seen r
shown-ends seen shard by r stamp vertex updates settled there =
    let log = shard_log seen shard in
    let one : Name × State = (vertex, state_of_updates (take updates (updates_of vertex log))) in
    let itself : same_name vertex vertex ≡ true = (eq_by_cmp_equiv nat_list_cmp_total).refl vertex in
    record {
      program = Show vertex;
      reads = one ∷ [];
      read = λ other h. subst (Contains (reads_of seen r)) (only one other h)
          (has_flat (reads_in r) seen.shards log one
          (list-there seen.shards shard (record { author = by; deed = Visited r stamp vertex updates settled }) there)
          (read-there log by r stamp vertex updates settled there));
      whole = rw itself refl;
    }

-- a program that visited its vertex
pub visited-ends : (gates shards : ℕ) (old new : Hand) (shard request : ℕ) (stamp : Stamp) (vertex : Name) (state : Option Record)
    → VisitsIn gates shards old new shard request stamp vertex (Ok state) → EndsAsSeen (seen_by new) request
visited-ends gates shards old new shard request stamp vertex state visits =
    let updates = updates_read (pairs_of_log visits.settled) stamp vertex visits.before in
    let settled = is_settled_by (pairs_of_log visits.settled) stamp vertex visits.before in
    let entry : ShardEntry = record { author = hand_number old; deed = Visited request stamp vertex updates settled } in
    shown-ends (seen_by new) shard (hand_number old) request stamp vertex updates settled
    (subst (λ (l : List ShardEntry). Contains l entry) (sym visits.was.left) (has_last visits.before entry))
