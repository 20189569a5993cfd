-- The conditions of calls, as tests find them: the stamps of updates are among those of what arrived.
-- Used by `+are_elsewhere`, `expect_kept` and `visit_for`.
use Rattle.std.proofs.Common.{◌≡◌, ◌≢◌, ℕ, ◌≤◌, true, false, List, [], ◌∷◌, ◌++◌, length, slice_get, get_or, All, Contains, IsTrue, Some, inl, inr, sym, ap, subst, ◌∙◌, arith}
use Rattle.std.specs.Option.{IsSomeAnd}
use Rattle.std.proofs.lemmas.List.{length-drop, length-map}
use Rattle.std.proofs.lemmas.List.Elements.{All-cons, All-contains, All-contains_itself, Contains-append_left, Contains-append_right, Contains-append_cases}
use Rattle.weave_data.proofs.Members.{has_none, has_read, has_head, has_tail, only, filter_has, find_has, map_has, flat_has, has_flat, drop_has, filter_map_has}
use Rattle.weave_data.proofs.Options.{map_some}
use Rattle.weave_data.specs.Names.{same_name}
use Rattle.weave_data.specs.declared.name.Name.{Name}
use Rattle.graph_ops.specs.declared.part.Part.{Part}
use Rattle.graph_ops.proofs.Vertices.{same_name-refl}
use Rattle.vector_stamp.specs.declared.clock.Stamp.{Stamp}
use Rattle.vector_stamp.specs.Order.{id_of, stamp_before}
use Rattle.vector_stamp.specs.Coherence.{AreCoherent}
use Rattle.weave_entries.specs.declared.message.Message.{Message}
use Rattle.weave_entries.specs.declared.shard_log.ShardEntry.{ShardEntry}
use Rattle.weave_entries.specs.declared.shard_log.ShardDeed.{ShardDeed}
use Rattle.weave_entries.specs.declared.shard_log.ShardDeed.TheVariants.{Arrived, Applied, Visited, Collected}
use Rattle.weave_entries.specs.ShardReplay.{Arrival, arrival_by, arrivals_of, arrived_at, processed_of, applied_messages, Update, updates_in, updates_of, kept_of}
use Rattle.weave_entries.specs.ShardRules.{dropped_of, update_stamps, kept_stamps, IsKeptFor}
use Rattle.machine_tests.specs.ArrivedStamps.{stamp_if, stamps_brought_by, arrived_stamps}

-- Stamps

stamp_there : (stamp : Stamp) (parts : List Part) (part : Part) → Contains parts part → Contains (stamp_if stamp parts) stamp
stamp_there stamp [] part has = absurd (has_none part has)
stamp_there stamp (first ∷ parts) part has = has_head stamp []

brought : (deed : ShardDeed) (arrival : Arrival) (part : Part) → Contains (arrival_by deed) arrival → Contains arrival.message.parts part → Contains (stamps_brought_by deed) arrival.message.stamp
brought (Arrived gate number message) arrival part has of =
    let same : message ≡ arrival.message = ap (λ (one : Arrival). one.message) (only (record { gate = gate; number = number; message = message }) arrival has) in
    subst (λ (one : Message). Contains (stamp_if message.stamp message.parts) one.stamp) same (stamp_there message.stamp message.parts part (subst (λ (one : Message). Contains one.parts part) (sym same) of))
brought (Applied gate number) arrival part has of = absurd (has_none arrival has)
brought (Visited request stamp vertex updates settled) arrival part has of = absurd (has_none arrival has)
brought (Collected bound) arrival part has of = absurd (has_none arrival has)

arrived_has : (gate number : ℕ) (log : List ShardEntry) (message : Message) (part : Part) → arrived_at gate number log ≡ Some message → Contains message.parts part → Contains (arrived_stamps log) message.stamp
arrived_has gate number log message part is of =
    let found = map_some (λ (arrival : Arrival). arrival.message) _ message is in
    let there = find_has _ (arrivals_of log) found.0 found.1 in
    let by = flat_has (λ (entry : ShardEntry). arrival_by entry.deed) log found.0 there.0 in
    let brings : Contains (stamps_brought_by by.0.deed) message.stamp = subst (λ (one : Message). Contains (stamps_brought_by by.0.deed) one.stamp) found.2 (brought by.0.deed found.0 part by.2 (subst (λ (one : Message). Contains one.parts part) (sym found.2) of)) in
    has_flat (λ (entry : ShardEntry). stamps_brought_by entry.deed) log by.0 message.stamp by.1 brings

-- the stamp of each kept update of a vertex is that of a message that arrived
pub update_arrived : (v : Name) (log : List ShardEntry) (stamp : Stamp) → Contains (kept_stamps v log) stamp → Contains (arrived_stamps log) stamp
update_arrived v log stamp kept =
    let has = drop_has (dropped_of v log) (update_stamps v log) stamp kept in
    let update = map_has (λ (one : Update). one.stamp) (updates_of v log) stamp has in
    let message = flat_has (updates_in v) (applied_messages log) update.0 update.1 in
    let part = map_has (λ (one : Part). record { stamp = message.0.stamp; ops = one.ops }) _ update.0 message.2 in
    let at = filter_map_has (λ (of : ℕ × ℕ). arrived_at of.0 of.1 log) (processed_of log) message.0 message.1 in
    let same : message.0.stamp ≡ stamp = ap (λ (one : Update). one.stamp) part.2 ∙ update.2 in
    let of = filter_has (λ (one : Part). same_name one.vertex v) message.0.parts part.0 part.1 in
    subst (Contains (arrived_stamps log)) same (arrived_has at.0.0 at.0.1 log message.0 part.0 at.2 of.0)

-- if no message that arrived has the program's id, no kept update of a vertex has it
pub all_others : (v : Name) (log : List ShardEntry) (program : Stamp) → All (λ (event : Stamp). id_of event ≢ id_of program) (arrived_stamps log) → All (λ (event : Stamp). id_of event ≢ id_of program) (kept_stamps v log)
all_others v log program all k d below =
    let stamp = get_or (kept_stamps v log) k d in
    All-contains (λ (event : Stamp). id_of event ≢ id_of program) (arrived_stamps log) stamp all (update_arrived v log stamp (All-contains_itself (kept_stamps v log) k d below))

-- if a program, all that arrived and what is known are coherent, so are it, a vertex's kept updates and what is known
pub are_coherent_too : (v : Name) (log : List ShardEntry) (program : Stamp) (known : List Stamp) → AreCoherent (program ∷ arrived_stamps log ++ known) → AreCoherent (program ∷ kept_stamps v log ++ known)
are_coherent_too v log program known all = record {
  homes = λ a has. all.homes a (among a has);
  one_of_id = λ a b has_a has_b. all.one_of_id a b (among a has_a) (among b has_b);
  by_ids = λ a b has_a has_b. all.by_ids a b (among a has_a) (among b has_b);
}
  where
    among : (a : Stamp) → Contains (program ∷ kept_stamps v log ++ known) a → Contains (program ∷ arrived_stamps log ++ known) a
    among a has = elim (has_read program (kept_stamps v log ++ known) a has) [
      | inl same ↦ subst (Contains (program ∷ arrived_stamps log ++ known)) same (has_head program (arrived_stamps log ++ known))
      | inr later ↦ has_tail program (arrived_stamps log ++ known) a (elim (Contains-append_cases (kept_stamps v log) known a later) [
        | inl of ↦ Contains-append_left (arrived_stamps log) known a (update_arrived v log a of)
        | inr knows ↦ Contains-append_right (arrived_stamps log) known a knows
      ])
    ]

-- What is kept

first_before : (stamps : List Stamp) (program : Stamp) → 1 ≤ length stamps → ((one : Stamp) → Contains stamps one → IsTrue (stamp_before one program)) → IsSomeAnd (slice_get stamps 0) (λ oldest. IsTrue (stamp_before oldest program))
first_before [] program some all = absurd (omega (arith, some))
first_before (stamp ∷ stamps) program some all = all stamp (has_head stamp stamps)

-- if at least one version of a vertex is kept, and all updates that arrived are before a program, what is kept reaches
-- back far enough for it
pub kept_before : (v : Name) (log : List ShardEntry) (program : Stamp) → 1 ≤ kept_of v log → ((one : Stamp) → Contains (arrived_stamps log) one → IsTrue (stamp_before one program)) → IsKeptFor program v log
kept_before v log program some all dropped =
    let long : 1 ≤ length (kept_stamps v log) = omega (arith, some, length-drop (dropped_of v log) (update_stamps v log), length-map (updates_of v log) (λ (update : Update). update.stamp)) in
    first_before (kept_stamps v log) program long (λ one has. all one (update_arrived v log one has))

-- Messages

-- one more part that is of another vertex
pub elsewhere-cons : (v : Name) (part : Part) (others parts : List Part) → parts ≡ part ∷ others → same_name v part.vertex ≡ false → All (λ (one : Part). v ≢ one.vertex) others → All (λ (one : Part). v ≢ one.vertex) parts
elsewhere-cons v part others parts is apart rest =
    let differ : v ≢ part.vertex = λ same. let is : same_name v part.vertex ≡ true = ap (same_name v) (sym same)
    ∙ same_name-refl v in absurd cc in
    subst (All (λ (one : Part). v ≢ one.vertex)) (sym is) (All-cons (λ (one : Part). v ≢ one.vertex) part others differ rest)
