-- What a shard keeps of a vertex was begun by transactions, in what it has seen of the gatekeepers' logs.
-- Used by Visits.
use Rattle.std.proofs.Common.{◌≡◌, ◌≢◌, inl, inr, ℕ, ◌≤◌, ◌==◌, ◌&&◌, List, [], ◌∷◌, length, map, get_or, Contains, sym, ap, ◌∙◌, subst}
use Rattle.std.specs.Prelude.{All}
use Rattle.std.specs.List.{filter, find, flat_map}
use Rattle.std.proofs.lemmas.List.Elements.{Contains-get_or}
use Rattle.weave_data.proofs.Members.{cut_at, find_has, flat_has, has_map, has_none, has_read, map_has, only, drop_has, filter_map_has}
use Rattle.weave_data.proofs.Options.{map_some}
use Rattle.weave_data.specs.Names.{same_name}
use Rattle.weave_data.specs.declared.name.Name.{Name}
use Rattle.graph_ops.specs.declared.part.Part.{Part}
use Rattle.vector_stamp.specs.declared.clock.Stamp.{Stamp}
use Rattle.vector_stamp.specs.Order.{id_of}
use Rattle.weave_entries.specs.declared.message.Addressed.{Addressed}
use Rattle.weave_entries.specs.declared.message.Message.{Message}
use Rattle.weave_entries.specs.declared.shard_log.ShardDeed.{ShardDeed}
use Rattle.weave_entries.specs.declared.shard_log.ShardDeed.TheVariants.{Arrived, Applied, Visited, Collected}
use Rattle.weave_entries.specs.declared.shard_log.ShardEntry.{ShardEntry}
use Rattle.weave_entries.specs.GateReplay.{BegunRequest, begun_in, programs_of, txs_of}
use Rattle.weave_entries.specs.GateRules.{IsGateLog}
use Rattle.weave_entries.specs.ShardReplay.{Arrival, Update, applied_messages, arrival_by, arrivals_of, arrived_at, processed_of, updates_in, updates_of}
use Rattle.weave_entries.specs.ShardRules.{dropped_of, kept_stamps, update_stamps}
use Rattle.weave_account.specs.declared.account.Account.{Account}
use Rattle.weave_account.specs.Account.{IsBegunStamp, gate_log, shard_log}
use Rattle.seen_logs.specs.References.{ArrivesAsSeen, ShardRefersAs}
use Rattle.seen_logs.specs.Seen.{ShardRefersWithin}
use Rattle.shard_lock.specs.VisitLaws.{VisitLaws}
use Rattle.shard_lock.proofs.Begins.{all-programs, all-txs, sent-of-tx, tx-and-program}

-- the update is of a transaction that was begun
pub record IsUpdateOfTx (seen : Account) (update : Update) : Type 0 where
  pub home : ℕ
  pub tx : BegunRequest
  pub begun : Contains (txs_of (gate_log seen home)) tx
  pub stamp_is : tx.stamp ≡ update.stamp

module _ (shards : ℕ) (seen : Account) (shard : ℕ) (log : List ShardEntry) (own : shard_log seen shard ≡ log)
    (refers : ShardRefersWithin shards seen shard) (rules : (home : ℕ) → IsGateLog home shards (gate_log seen home)) where
  of-deed : (before : List ShardEntry) (author : ℕ) (deed : ShardDeed) → ShardRefersAs seen shards shard before author deed
      → (arrival : Arrival) → Contains (arrival_by deed) arrival → ArrivesAsSeen seen shards shard arrival.gate arrival.number arrival.message
  of-deed before author (Arrived home number message) fits arrival h =
      subst (λ (a : Arrival). ArrivesAsSeen seen shards shard a.gate a.number a.message)
      (only (record { gate = home; number = number; message = message }) arrival h) fits
  of-deed before author (Applied home number) fits arrival h = absurd (has_none arrival h)
  of-deed before author (Visited r stamp v updates settled) fits arrival h = absurd (has_none arrival h)
  of-deed before author (Collected bound) fits arrival h = absurd (has_none arrival h)

  -- what arrived was sent
  arrival-seen : (arrival : Arrival) → Contains (arrivals_of log) arrival → ArrivesAsSeen seen shards shard arrival.gate arrival.number arrival.message
  arrival-seen arrival h =
      let from = flat_has (λ (e : ShardEntry). arrival_by e.deed) log arrival h in
      let cut = cut_at log from.0 from.1 in
      of-deed cut.before from.0.author from.0.deed (refers cut.before from.0 cut.after (own ∙ cut.is)) arrival from.2

  message-seen : (message : Message) → Contains (applied_messages log) message
      → (arrival : Arrival) × (ArrivesAsSeen seen shards shard arrival.gate arrival.number arrival.message) × (arrival.message ≡ message)
  message-seen message h =
      let of = filter_map_has (λ (of : ℕ × ℕ). arrived_at of.0 of.1 log) (processed_of log) message h in
      let test = λ (arrival : Arrival). (arrival.gate == of.0.0) && (arrival.number == of.0.1) in
      let found = map_some (λ (arrival : Arrival). arrival.message) (find test (arrivals_of log)) message of.2 in
      (found.0, arrival-seen found.0 (find_has test (arrivals_of log) found.0 found.1).0, found.2)

  -- each update is of a transaction
  pub update-of-tx : (v : Name) (update : Update) → Contains (updates_of v log) update → IsUpdateOfTx seen update
  update-of-tx v update h =
      let from = flat_has (updates_in v) (applied_messages log) update h in
      let message = from.0 in
      let there = message-seen message from.1 in
      let arrival = there.0 in
      let addressed : Addressed = record { shard = shard; number = arrival.number; message = arrival.message } in
      let of-part = λ (part : Part). (let made : Update = record { stamp = message.stamp; ops = part.ops } in made) in
      let part = map_has of-part (filter (λ (part : Part). same_name part.vertex v) message.parts) update from.2 in
      elim (sent-of-tx arrival.gate shards shard (gate_log seen arrival.gate) (rules arrival.gate) addressed there.1.sent) [
        | inl empty ↦
            let none : message.parts ≡ [] = ap (λ (m : Message). m.parts) (sym there.2) ∙ empty in
            absurd (has_none update (subst (λ (parts : List Part). Contains (map of-part (filter (λ (part : Part). same_name part.vertex v) parts)) update) none from.2))
        | inr of ↦ record {
          home = arrival.gate;
          tx = of.tx;
          begun = of.begun;
          stamp_is = of.stamp_is ∙ (ap (λ (m : Message). m.stamp) there.2 ∙ ap (λ (u : Update). u.stamp) part.2);
        }
      ]

  kept-of-tx : (v : Name) (stamp : Stamp) → Contains (kept_stamps v log) stamp → (update : Update) × (IsUpdateOfTx seen update) × (update.stamp ≡ stamp)
  kept-of-tx v stamp h =
      let from = map_has (λ (update : Update). update.stamp) (updates_of v log) stamp
      (drop_has (dropped_of v log) (update_stamps v log) stamp h) in
      (from.0, update-of-tx v from.0 from.1, from.2)

  module _ (home : ℕ) (program : BegunRequest) (begun : Contains (programs_of (gate_log seen home)) program) (v : Name) where
    -- what is kept, and the program's stamp, were begun
    pub asked-begun : (event : Stamp) → Contains (program.stamp ∷ kept_stamps v log) event → IsBegunStamp seen event
    asked-begun event h = elim (has_read program.stamp (kept_stamps v log) event h) [
      | inl same ↦ subst (λ (s : Stamp). IsBegunStamp seen s) same
          (has_map (λ (b : BegunRequest). b.stamp) (flat_map begun_in seen.gates) program (all-programs seen.gates home program begun))
      | inr kept ↦
          let of = kept-of-tx v event kept in
          let tx = of.1 in
          subst (λ (s : Stamp). IsBegunStamp seen s) (tx.stamp_is ∙ of.2)
          (has_map (λ (b : BegunRequest). b.stamp) (flat_map begun_in seen.gates) tx.tx (all-txs seen.gates tx.home tx.tx tx.begun))
    ]

    -- with at most eight gatekeepers, the ids of all updates kept of the vertex differ from the program's
    pub other-ids : VisitLaws → length seen.gates ≤ 8 → All (λ update. id_of update ≢ id_of program.stamp) (kept_stamps v log)
    other-ids laws few = λ k d low. fact (get_or (kept_stamps v log) k d) (Contains-get_or (kept_stamps v log) k d low)
      where
        fact : (stamp : Stamp) → Contains (kept_stamps v log) stamp → id_of stamp ≢ id_of program.stamp
        fact stamp h =
            let of = kept-of-tx v stamp h in
            let tx = of.1 in
            subst (λ (s : Stamp). id_of s ≢ id_of program.stamp) (tx.stamp_is ∙ of.2)
            (tx-and-program seen.gates (laws.ids shards seen few rules) tx.home home tx.tx program tx.begun begun)
