-- What the inboxes and the chains of a shard say is what the replay of its log says.
-- Used by `apply`, `arrive`, `kept` and `visit`.
use Rattle.std.proofs.Common.{◌≡◌, ℕ, suc, ◌+◌, ◌-◌, Bool, true, false, cond, List, [], ◌∷◌, length, slice_get, get_or, Option, None, Some, is_some, inl, inr, refl, sym, ap, subst, ◌∙◌, arith}
use Rattle.std.specs.Prelude.{◌==◌, ◌||◌, not, All, IsTrue, ◌<◌, ◌≤◌}
use Rattle.std.specs.List.{find, range_with_len}
use Rattle.std.specs.Option.{option_map}
use Rattle.std.proofs.lemmas.Bool.Decides.{eqb_tells}
use Rattle.std.proofs.lemmas.List.Elements.{All-contains_itself}
use Rattle.std.proofs.lemmas.List.{length-drop, length-map}
use Rattle.std.proofs.lemmas.Option.{slice_get_read}
use Rattle.weave_data.proofs.Members.{find_lacks}
use Rattle.weave_data.specs.declared.name.Name.{Name}
use Rattle.graph_ops.specs.declared.part.Part.{Part}
use Rattle.graph_ops.specs.Operations.{State}
use Rattle.graph_ops.specs.VertexOps.{none_refused}
use Rattle.vector_stamp.specs.declared.clock.Stamp.{Stamp}
use Rattle.vector_stamp.specs.Precedence.{GivenPair}
use Rattle.vector_stamp.specs.Seeing.{seen_of}
use Rattle.version_chain.specs.Chains.{ChainView, update_count, stamps_of_versions, newest_state}
use Rattle.version_graph.specs.Graphs.{Chains, chain_of, chain_or_new, AreNextUpdates}
use Rattle.shard_queue.specs.Inbox.{Incoming, has_arrived, waiting_head}
use Rattle.weave_entries.specs.declared.message.Message.{Message}
use Rattle.weave_entries.specs.declared.shard_log.ShardEntry.{ShardEntry}
use Rattle.weave_entries.specs.ShardReplay.{Update, arrived_at, processed_count, head_of, last_of, updates_of, waits_at, state_of_updates, is_past, is_ready_for, first_unready, kept_of}
use Rattle.weave_entries.specs.ShardRules.{dropped_of, update_stamps, kept_stamps, updates_read, PassesAt}
use Rattle.shard_node.specs.declared.waiting.Waiting.{Waiting}
use Rattle.shard_node.specs.Keeping.{versions_from, chain_in, head_in, first_differing, is_after, is_channel_ready, first_not_ready, IsInboxOf, IsShardReplay}
use Rattle.weave_entries.proofs.ShardLogs.{processed_are_few}
use Rattle.shard_node.proofs.Updates.{chain_from, or_new, count-is, newest-state-is, kept-stamps-are, length-versions}
use Rattle.shard_node.proofs.Leading.{stamp_in, leads-some}
use Rattle.shard_node.proofs.Keeping.{has-arrived, head-leads, head-is, head-stamp}

none_mapped : {A B : Type 0} (f : A → B) (x : Option A) → option_map f x ≡ None → x ≡ None
none_mapped f None none = refl
none_mapped f (Some x) none = absurd cc

-- What became of a message

-- a message that isn't there is none
pub not_there : (x : Option Message) → is_some x ≡ false → x ≡ None
not_there None none = refl
not_there (Some message) none = absurd cc

-- Channels

after-is : (stamp : Stamp) (found : Option Message) → is_after stamp (option_map stamp_in found) ≡ is_past stamp found
after-is stamp None = refl
after-is stamp (Some message) = refl

ready-is : (stamp : Stamp) (gate : ℕ) (log : List ShardEntry) (inbox : Incoming Waiting) → IsInboxOf gate log inbox → is_channel_ready stamp inbox ≡ is_ready_for stamp log gate
ready-is stamp gate log inbox kept =
    (λ i. is_after stamp (kept.last i) || is_after stamp (head-stamp gate log inbox kept i))
    ∙ (λ i. after-is stamp (last_of gate log) i || after-is stamp (head_of gate log) i)

turned : {A : Type 0} (ready : Bool) (x y : A) → cond ready x y ≡ cond (not ready) y x
turned true x y = refl
turned false x y = refl

unready-from : (place : ℕ) (stamp : Stamp) (inboxes : List (Incoming Waiting)) (log : List ShardEntry) → ((k : ℕ) (inbox : Incoming Waiting) → slice_get inboxes k ≡ Some inbox → is_channel_ready stamp inbox ≡ is_ready_for stamp log (place + k)) → first_not_ready place stamp inboxes ≡ find (λ gate. not (is_ready_for stamp log gate)) (range_with_len place (length inboxes))
unready-from place stamp [] log each = refl
unready-from place stamp (inbox ∷ inboxes) log each =
    let at_place : place + 0 ≡ place = omega arith in
    let here : is_channel_ready stamp inbox ≡ is_ready_for stamp log place = each 0 inbox refl ∙ ap (is_ready_for stamp log) at_place in
    let rest : first_not_ready (place + 1) stamp inboxes ≡ find (λ gate. not (is_ready_for stamp log gate)) (range_with_len (place + 1) (length inboxes)) =
    unready-from (place + 1) stamp inboxes log (λ k one at. each (suc k) one at ∙ ap (is_ready_for stamp log) (omega arith)) in
    (λ i. cond (here i) (rest i) (Some place)) ∙ turned (is_ready_for stamp log place) (find (λ gate. not (is_ready_for stamp log gate)) (range_with_len (place + 1) (length inboxes))) (Some place)

module _ (gates : ℕ) (inboxes : List (Incoming Waiting)) (chains : Chains) (log : List ShardEntry) (kept : IsShardReplay gates inboxes chains log) where
  -- the inbox of a gatekeeper is in its place
  pub at_gate : (gate : ℕ) (inbox : Incoming Waiting) → gate < gates → inbox ≡ get_or inboxes gate inbox → slice_get inboxes gate ≡ Some inbox
  at_gate gate inbox below is = let count = kept.count in slice_get_read inboxes _ gate inbox refl (omega (arith, below, count)) is

  -- a number from 1 has arrived in a gatekeeper's inbox exactly if its message has arrived by the log
  pub arrived-is : (gate number : ℕ) (inbox : Incoming Waiting) → slice_get inboxes gate ≡ Some inbox → 1 ≤ number → has_arrived number inbox ≡ is_some (arrived_at gate number log)
  arrived-is gate number inbox at some = has-arrived gate log inbox (kept.channels gate inbox at) number some

  -- the first channel that isn't ready for a stamp by the inboxes is the first one by the log
  pub unready-is : (stamp : Stamp) → first_not_ready 0 stamp inboxes ≡ first_unready gates stamp log
  unready-is stamp =
      unready-from 0 stamp inboxes log (λ k inbox at. ready-is stamp k log inbox (kept.channels k inbox at) ∙ ap (is_ready_for stamp log) (omega arith))
      ∙ ap (λ n. find (λ gate. not (is_ready_for stamp log gate)) (range_with_len 0 n)) kept.count

  -- the head of a gatekeeper's inbox, in the log, is the head of its channel
  pub inbox-head : (gate : ℕ) (inbox : Incoming Waiting) → slice_get inboxes gate ≡ Some inbox → head_in log inbox ≡ head_of gate log
  inbox-head gate inbox at = head-is gate log inbox (kept.channels gate inbox at)

  -- what was found in the log's items is the head
  pub head-found : (gate : ℕ) (inbox : Incoming Waiting) (items : List ShardEntry) (found : Option Message) → slice_get inboxes gate ≡ Some inbox → items ≡ log → found ≡ head_in items inbox → head_of gate log ≡ found
  head-found gate inbox items found at same is = sym (inbox-head gate inbox at) ∙ ap (λ (l : List ShardEntry). head_in l inbox) (sym same) ∙ sym is

  -- where a channel has a head by the log, something waits in its inbox
  pub head-waits : (gate : ℕ) (inbox : Incoming Waiting) (head : Message) → slice_get inboxes gate ≡ Some inbox → head_of gate log ≡ Some head → is_some (waiting_head inbox) ≡ true
  head-waits gate inbox head at is = leads-some log (waiting_head inbox) (head_of gate log) (head-leads gate log inbox (kept.channels gate inbox at)) ∙ ap is_some is

  -- its next number is one more than what was processed, which the log bounds
  pub number-is : (gate : ℕ) (inbox : Incoming Waiting) → slice_get inboxes gate ≡ Some inbox → inbox.processed ≡ processed_count gate log
  number-is gate inbox at = (kept.channels gate inbox at).processed

  -- an inbox has processed at most as many messages as the log has entries
  pub processed-few : (gate : ℕ) (inbox : Incoming Waiting) → slice_get inboxes gate ≡ Some inbox → inbox.processed ≤ length log
  processed-few gate inbox at = let few = processed_are_few gate log in subst (λ n. n ≤ length log) (sym (number-is gate inbox at)) few

  -- Chains

  chain-from : (v : Name) → chain_of chains v ≡ chain_from (dropped_of v log) (updates_of v log)
  chain-from v = kept.chains_are v

  -- the chain of a vertex, or a new one if it has none, is that of the log
  pub seen-chain : (v : Name) → chain_or_new (chain_of chains v) ≡ chain_in v log
  seen-chain v = ap chain_or_new (chain-from v) ∙ or_new (dropped_of v log) (updates_of v log) (kept.some_kept v)

  -- the versions that it keeps have the stamps that the log says are kept
  pub seen-stamps : (v : Name) → stamps_of_versions (chain_or_new (chain_of chains v)).kept ≡ kept_stamps v log
  seen-stamps v = ap (λ (chain : ChainView). stamps_of_versions chain.kept) (seen-chain v) ∙ kept-stamps-are v log

  -- a program reads at most the updates that were applied
  pub read-few : ((pairs : List GivenPair) (program : Stamp) (updates : List Stamp) → seen_of pairs program updates ≤ length updates) → (pairs : List GivenPair) (program : Stamp) (v : Name) → updates_read pairs program v log ≤ length (updates_of v log)
  read-few within pairs program v =
      let few = within pairs program (kept_stamps v log) in
      let some = kept.some_kept v in
      omega (arith, few, some, length-drop (dropped_of v log) (update_stamps v log), length-map (updates_of v log) (λ (update : Update). update.stamp))

  count-at : (v : Name) → update_count (chain_or_new (chain_of chains v)) ≡ length (updates_of v log)
  count-at v = ap (λ (chain : Option ChainView). update_count (chain_or_new chain)) (chain-from v) ∙ count-is (dropped_of v log) (updates_of v log) (kept.some_kept v)

  -- a vertex's chain keeps as many versions as the log says
  pub kept-is : (v : Name) → length (chain_or_new (chain_of chains v)).kept ≡ kept_of v log
  kept-is v =
      ap (λ (chain : ChainView). length chain.kept) (seen-chain v)
      ∙ length-drop (dropped_of v log) (versions_from None (updates_of v log))
      ∙ ap (λ n. n - dropped_of v log) (length-versions None (updates_of v log))

  -- A head

  -- the first vertex of a head whose count differs from its chain's updates is the one where it waits by the log
  pub waits-is : (head : Message) → first_differing chains head.parts ≡ waits_at head log
  waits-is head = (λ i. option_map (λ (part : Part). part.vertex) (find (λ (part : Part). not (part.before == count-at part.vertex i)) head.parts))

  -- the newest state of a vertex is that after its updates
  pub state-at : (v : Name) → newest_state (chain_or_new (chain_of chains v)).kept ≡ state_of_updates (updates_of v log)
  state-at v = ap (λ (chain : Option ChainView). newest_state (chain_or_new chain).kept) (chain-from v) ∙ newest-state-is (dropped_of v log) (updates_of v log) (kept.some_kept v)

  -- operations that pass on the newest states pass after the updates
  pub all-pass : (head : Message) → All (λ (part : Part). IsTrue (none_refused part.ops (newest_state (chain_or_new (chain_of chains part.vertex)).kept))) head.parts → PassesAt log head
  all-pass head all = λ k d below. subst (λ (state : State). IsTrue (none_refused (get_or head.parts k d).ops state)) (state-at (get_or head.parts k d).vertex) (all k d below)

  -- a head that doesn't wait, and whose operations pass, has the next updates of its vertices
  pub next-updates : (gate : ℕ) (head : Message) → head_of gate log ≡ Some head → waits_at head log ≡ None → PassesAt log head → AreNextUpdates chains head.parts
  next-updates gate head is none passes =
      let takable = kept.takable gate (processed_count gate log + 1) head is in
      record {
        apart = takable.apart;
        next = λ k d below. record {
          count = counted k d below;
          small = takable.small k d below;
          passes = subst (λ (state : State). IsTrue (none_refused (get_or head.parts k d).ops state)) (sym (state-at (get_or head.parts k d).vertex)) (passes k d below);
        };
      }
    where
      counted : (k : ℕ) (d : Part) → k < length head.parts → (get_or head.parts k d).before ≡ update_count (chain_or_new (chain_of chains (get_or head.parts k d).vertex))
      counted k d below =
          let part = get_or head.parts k d in
          let found : find (λ (each : Part). not (each.before == length (updates_of each.vertex log))) head.parts ≡ None = none_mapped (λ (each : Part). each.vertex) (find (λ (each : Part). not (each.before == length (updates_of each.vertex log))) head.parts) none in
          elim (eqb_tells part.before (length (updates_of part.vertex log))) [
            | inl same ↦ same.1 ∙ sym (count-at part.vertex)
            | inr differ ↦ absurd (find_lacks (λ (each : Part). not (each.before == length (updates_of each.vertex log))) head.parts part found (All-contains_itself head.parts k d below) (ap not differ.0))
          ]
