-- What a shard keeps goes on being the replay of its log, with each deed.
-- Used by `apply`, `arrive`, `collect`, `new`, `visit` and Ready.
use Rattle.std.proofs.Common.{◌≡◌, ◌≢◌, ℕ, ◌+◌, ◌-◌, ◌<◌, ◌≤◌, Bool, true, false, cond, List, [], ◌∷◌, ◌++◌, length, slice_get, slice_set, Option, None, Some, is_some, inl, inr, refl, sym, ap, subst, ◌∙◌, arith}
use Rattle.std.specs.Prelude.{All}
use Rattle.std.specs.Option.{option_map}
use Rattle.std.proofs.lemmas.Bool.{cases_eq, cases_lt, eq-eqb, ne_eqb}
use Rattle.std.proofs.lemmas.Bool.Decides.{leb_tells}
use Rattle.std.proofs.lemmas.List.{length-set}
use Rattle.std.proofs.lemmas.Option.{slice_get_within, get_or_from_slice_get, same_Some}
use Rattle.weave_data.proofs.Entries.{each_none, each_push}
use Rattle.weave_data.proofs.Members.{has_none}
use Rattle.weave_data.proofs.Lists.{get_set_here, get_set_other}
use Rattle.weave_data.specs.declared.name.Name.{Name}
use Rattle.vector_stamp.specs.declared.clock.Clock.{Clock}
use Rattle.vector_stamp.specs.declared.clock.Stamp.{Stamp}
use Rattle.version_chain.specs.Chains.{ChainView}
use Rattle.shard_queue.specs.Inbox.{Incoming, nothing_arrived, waiting_at, has_arrived, after_arrival, after_head, WaitingLaws, waiting_head}
use Rattle.version_graph.specs.Graphs.{Chains, chain_of, after_parts}
use Rattle.weave_entries.specs.declared.message.Message.{Message}
use Rattle.weave_entries.specs.declared.shard_log.ShardEntry.{ShardEntry}
use Rattle.weave_entries.specs.declared.shard_log.ShardDeed.TheVariants.{Arrived, Applied, Visited, Collected}
use Rattle.weave_entries.specs.ShardReplay.{arrived_at, processed_by, processed_count, head_of, updates_in, updates_of, waits_at, dropped_after, bound_of}
use Rattle.weave_entries.specs.ShardRules.{dropped_of, IsTakable, PassesAt, FitsShard, ArrivesOnce, IsReadRightly}
use Rattle.shard_node.specs.declared.waiting.Waiting.{Waiting}
use Rattle.shard_node.specs.Keeping.{chain_in_if, collected_if, head_in, LeadsTo, IsInboxOf, IsShardReplay}
use Rattle.shard_node.proofs.Leading.{stamp_in, stamp_at, leads-new, leads-some, leads-stamp, leads-message, leads-still}
use Rattle.weave_entries.proofs.ShardLogs.{arrived-still, arrived-new, arrived-others, count-still, count-applied, updates-still, updates-applied, all-still, all-applied, dropped-push}
use Rattle.shard_node.proofs.Updates.{chain_from, parts-on, still-few}
use Rattle.shard_node.proofs.Collecting.{collected-from, few-dropped}

-- An inbox

module _ (gate : ℕ) (log : List ShardEntry) (inbox : Incoming Waiting) (kept : IsInboxOf gate log inbox) where
  -- a number that has not arrived is above the processed ones
  above_processed : (number : ℕ) → 1 ≤ number → arrived_at gate number log ≡ None → processed_count gate log < number
  above_processed number some none = elim (cases_lt (processed_count gate log) number) [
    | inl above ↦ above
    | inr within ↦ let there : false ≡ true = sym (ap is_some none) ∙ kept.arrived number some within in absurd cc
  ]

  -- a number from 1 has arrived in the inbox exactly if its message has arrived by the log
  pub has-arrived : (number : ℕ) → 1 ≤ number → has_arrived number inbox ≡ is_some (arrived_at gate number log)
  has-arrived number some = elim (leb_tells number inbox.processed) [
    | inl within ↦ rw within.0 (sym (kept.arrived number some (subst (λ n. number ≤ n) kept.processed within.1)))
    | inr above ↦ rw above.0 (leads-some log (waiting_at number inbox) (arrived_at gate number log) (kept.waits number (subst (λ n. n < number) kept.processed above.1)))
  ]

  -- its head leads to the head of the channel
  pub head-leads : LeadsTo log (waiting_head inbox) (head_of gate log)
  head-leads = subst (λ (found : Option Waiting). LeadsTo log found (head_of gate log)) (sym (ap (λ n. waiting_at (n + 1) inbox) kept.processed)) (kept.waits (processed_count gate log + 1) (omega arith))

  -- the head of the inbox, in the log, is the head of the channel
  pub head-is : head_in log inbox ≡ head_of gate log
  head-is = leads-message log (waiting_head inbox) (head_of gate log) head-leads

  -- and its stamp is that of the channel's head
  pub head-stamp : option_map stamp_at (waiting_head inbox) ≡ option_map stamp_in (head_of gate log)
  head-stamp = leads-stamp log (waiting_head inbox) (head_of gate log) head-leads

  -- a number that waits leads to what it led to in a longer log, if that has the same message under it
  waits-still : (entry : ShardEntry) (number : ℕ) → processed_count gate log < number → arrived_at gate number (log ++ entry ∷ []) ≡ arrived_at gate number log → LeadsTo (log ++ entry ∷ []) (waiting_at number inbox) (arrived_at gate number (log ++ entry ∷ []))
  waits-still entry number above same = subst (LeadsTo (log ++ entry ∷ []) (waiting_at number inbox)) (sym same) (leads-still log (entry ∷ []) (waiting_at number inbox) (arrived_at gate number log) (kept.waits number above))

  -- it is that of a longer log, if nothing happened on the channel
  inbox-still : (entry : ShardEntry) → processed_count gate (log ++ entry ∷ []) ≡ processed_count gate log → ((number : ℕ) → arrived_at gate number (log ++ entry ∷ []) ≡ arrived_at gate number log) → IsInboxOf gate (log ++ entry ∷ []) inbox
  inbox-still entry count same = record {
    processed = kept.processed ∙ sym count;
    last = kept.last ∙ ap (option_map stamp_in) (sym (ap (λ n. arrived_at gate n (log ++ entry ∷ [])) count ∙ same (processed_count gate log)));
    waits = λ number above. waits-still entry number (subst (λ n. n < number) count above) (same number);
    arrived = λ number some within. ap is_some (same number) ∙ kept.arrived number some (subst (λ n. number ≤ n) count within);
    from_one = same 0 ∙ kept.from_one;
  }

  -- a message arrived
  inbox-arrives : WaitingLaws stamp_at → (author number : ℕ) (message : Message) (waiting : Waiting) → waiting.place ≡ length log → waiting.stamp ≡ message.stamp → 1 ≤ number → arrived_at gate number log ≡ None → IsInboxOf gate (log ++ record { author = author; deed = Arrived gate number message } ∷ []) (after_arrival number waiting inbox)
  inbox-arrives laws author number message waiting place stamp some none =
      let entry : ShardEntry = record { author = author; deed = Arrived gate number message } in
      let above = above_processed number some none in
      let new : has_arrived number inbox ≡ false = has-arrived number some ∙ ap is_some none in
      let count : processed_count gate (log ++ entry ∷ []) ≡ processed_count gate log = count-still log entry refl gate in
      let others : (k : ℕ) → number ≢ k → arrived_at gate k (log ++ entry ∷ []) ≡ arrived_at gate k log = λ k differ. arrived-others log author gate number message gate k (λ same. differ same.1) in
      record {
        processed = laws.processed number waiting inbox ∙ kept.processed ∙ sym count;
        last = laws.last number waiting inbox ∙ kept.last ∙ ap (option_map stamp_in) (sym (ap (λ n. arrived_at gate n (log ++ entry ∷ [])) count ∙ others (processed_count gate log) (λ same. omega (arith, same, above))));
        waits = λ k over. elim (cases_eq k number) [
          | inl same ↦
              let found : waiting_at k (after_arrival number waiting inbox) ≡ Some waiting = ap (λ n. waiting_at n (after_arrival number waiting inbox)) same ∙ laws.arrived number waiting inbox new in
              let there : arrived_at gate k (log ++ entry ∷ []) ≡ Some message = ap (λ n. arrived_at gate n (log ++ entry ∷ [])) same ∙ arrived-new log author gate number message none in
              subst (λ (x : Option Waiting). LeadsTo (log ++ entry ∷ []) x (arrived_at gate k (log ++ entry ∷ []))) (sym found) (subst (LeadsTo (log ++ entry ∷ []) (Some waiting)) (sym there) (leads-new log author gate number message waiting place stamp))
          | inr differ ↦ subst (λ (x : Option Waiting). LeadsTo (log ++ entry ∷ []) x (arrived_at gate k (log ++ entry ∷ []))) (sym (laws.others number k waiting inbox differ)) (waits-still entry k (subst (λ n. n < k) count over) (others k (λ same. differ (sym same))))
        ];
        arrived = λ k from_one within. let below = subst (λ n. k ≤ n) count within in ap is_some (others k (λ same. omega (arith, same, above, below))) ∙ kept.arrived k from_one below;
        from_one = others 0 (λ same. omega (arith, same, some)) ∙ kept.from_one;
      }

  -- its head was processed
  inbox-advances : WaitingLaws stamp_at → (author : ℕ) (head : Message) → head_of gate log ≡ Some head → IsInboxOf gate (log ++ record { author = author; deed = Applied gate (processed_count gate log + 1) } ∷ []) (after_head stamp_at inbox)
  inbox-advances laws author head is =
      let entry : ShardEntry = record { author = author; deed = Applied gate (processed_count gate log + 1) } in
      let count : processed_count gate (log ++ entry ∷ []) ≡ processed_count gate log + 1 = count-applied log author gate (processed_count gate log + 1) gate ∙ ap (λ (b : Bool). processed_count gate log + cond b 1 0) (eq-eqb gate gate refl) in
      let same : (number : ℕ) → arrived_at gate number (log ++ entry ∷ []) ≡ arrived_at gate number log = λ number. arrived-still log entry refl gate number in
      let processed_is = kept.processed in
      record {
        processed = ap (λ n. n + 1) processed_is ∙ sym count;
        last = head-stamp ∙ ap (option_map stamp_in) (sym (same (processed_count gate log + 1)) ∙ ap (λ n. arrived_at gate n (log ++ entry ∷ [])) (sym count));
        waits = λ k over.
            let over_next = subst (λ n. n < k) count over in
            subst (λ (x : Option Waiting). LeadsTo (log ++ entry ∷ []) x (arrived_at gate k (log ++ entry ∷ []))) (sym (laws.still k inbox (λ at. omega (arith, at, over_next, processed_is)))) (waits-still entry k (omega (arith, over_next)) (same k));
        arrived = λ k from_one within. let below = subst (λ n. k ≤ n) count within in elim (cases_eq k (processed_count gate log + 1)) [
          | inl at ↦ ap (λ n. is_some (arrived_at gate n (log ++ entry ∷ []))) at ∙ ap is_some (same (processed_count gate log + 1) ∙ is)
          | inr before ↦ ap is_some (same k) ∙ kept.arrived k from_one (elim (cases_lt k (processed_count gate log + 1)) [
            | inl less ↦ omega (arith, less)
            | inr over ↦ absurd (before (omega (arith, over, below)))
          ])
        ];
        from_one = same 0 ∙ kept.from_one;
      }

-- an inbox to which nothing came is that of the empty log
pub inbox-new : (gate : ℕ) → IsInboxOf gate [] nothing_arrived
inbox-new gate = record {
  processed = refl;
  last = refl;
  waits = λ number above. tt;
  arrived = λ number some within. absurd (omega (arith, some, within));
  from_one = refl;
}

-- the processed number of another channel stays
other_count : (author gate : ℕ) (log : List ShardEntry) (other : ℕ) → gate ≢ other → processed_count other (log ++ record { author = author; deed = Applied gate (processed_count gate log + 1) } ∷ []) ≡ processed_count other log
other_count author gate log other differ =
    count-applied log author gate (processed_count gate log + 1) other ∙ ap (λ (b : Bool). processed_count other log + cond b 1 0) (ne_eqb gate other differ) ∙ omega arith

-- a collection drops what its deed says
collected-by : (bound : Option Clock) (v : Name) (log : List ShardEntry) (dropped : ℕ) → collected_if bound (chain_from dropped (updates_of v log)) ≡ chain_from (dropped_after v log (Collected bound) dropped) (updates_of v log)
collected-by None v log dropped = refl
collected-by (Some bound) v log dropped = collected-from bound dropped (updates_of v log)

few-by : (bound : Option Clock) (v : Name) (log : List ShardEntry) (dropped : ℕ) → dropped ≤ length (updates_of v log) - 1 → dropped_after v log (Collected bound) dropped ≤ length (updates_of v log) - 1
few-by None v log dropped few = few
few-by (Some bound) v log dropped few = few-dropped bound dropped (updates_of v log) few

-- All that is kept

module _ (gates : ℕ) (inboxes : List (Incoming Waiting)) (chains : Chains) (log : List ShardEntry) (kept : IsShardReplay gates inboxes chains log) where
  -- a deed that drops nothing leaves the number dropped as it was
  dropped-same : (entry : ShardEntry) → ((v : Name) (dropped : ℕ) → dropped_after v log entry.deed dropped ≡ dropped) → (v : Name) → dropped_of v (log ++ entry ∷ []) ≡ dropped_of v log
  dropped-same entry still v = dropped-push v [] log entry 0 ∙ still v (dropped_of v log)

  -- the chains stay, if nothing is processed and nothing dropped
  chains-still : (entry : ShardEntry) → processed_by entry.deed ≡ [] → ((v : Name) (dropped : ℕ) → dropped_after v log entry.deed dropped ≡ dropped) → (v : Name) → chain_of chains v ≡ chain_in_if v (log ++ entry ∷ [])
  chains-still entry none still v =
      kept.chains_are v
      ∙ sym (λ i. chain_from (dropped-same entry still v i) (updates-still log entry none kept.all_arrived v i))

  -- and at least the newest version is kept
  some-still : (entry : ShardEntry) → processed_by entry.deed ≡ [] → ((v : Name) (dropped : ℕ) → dropped_after v log entry.deed dropped ≡ dropped) → (v : Name) → dropped_of v (log ++ entry ∷ []) ≤ length (updates_of v (log ++ entry ∷ [])) - 1
  some-still entry none still v =
      let few = kept.some_kept v in
      let same = dropped-same entry still v in
      let long : length (updates_of v (log ++ entry ∷ [])) ≡ length (updates_of v log) = ap length (updates-still log entry none kept.all_arrived v) in
      omega (arith, few, same, long)

  -- with an inbox in its place the others stay
  placed : (gate : ℕ) (next : Incoming Waiting) (longer : List ShardEntry) → gate < gates → IsInboxOf gate longer next → ((other : ℕ) (inbox : Incoming Waiting) → other ≢ gate → IsInboxOf other log inbox → IsInboxOf other longer inbox) → (other : ℕ) (inbox : Incoming Waiting) → slice_get (slice_set inboxes gate next) other ≡ Some inbox → IsInboxOf other longer inbox
  placed gate next longer below here others other inbox at =
      let count = kept.count in
      elim (cases_eq other gate) [
        | inl same ↦
            let is : next ≡ inbox = same_Some _ _
            (sym (get_set_here inboxes gate next (omega (arith, below, count)))
            ∙ ap (slice_get (slice_set inboxes gate next)) (sym same) ∙ at) in
            subst (λ n. IsInboxOf n longer inbox) (sym same) (subst (IsInboxOf gate longer) is here)
        | inr differ ↦ others other inbox differ (kept.channels other inbox (sym (get_set_other inboxes gate other next differ) ∙ at))
      ]

  module _ (laws : WaitingLaws stamp_at) (author gate number : ℕ) (message : Message) (inbox next : Incoming Waiting)
      (longer : List ShardEntry) where
    -- a shard that put an arrived message into its inbox follows its log with the arrival
    pub keeps_arrived : (waiting : Waiting) → waiting.place ≡ length log → waiting.stamp ≡ message.stamp
        → ArrivesOnce gates log gate number message → slice_get inboxes gate ≡ Some inbox
        → next ≡ after_arrival number waiting inbox
        → longer ≡ log ++ record { author = author; deed = Arrived gate number message } ∷ []
        → IsShardReplay gates (slice_set inboxes gate next) chains longer
    keeps_arrived waiting place stamp once at is longer_is =
        let entry : ShardEntry = record { author = author; deed = Arrived gate number message } in
        let here : IsInboxOf gate (log ++ entry ∷ []) next = subst (IsInboxOf gate (log ++ entry ∷ [])) (sym is)
        (inbox-arrives gate log inbox
        (kept.channels gate inbox at) laws author number message waiting place stamp once.from_one once.new) in
        let still : (v : Name) (dropped : ℕ) → dropped_after v log entry.deed dropped ≡ dropped = λ v dropped. refl in
        subst (λ (l : List ShardEntry). IsShardReplay gates (slice_set inboxes gate next) chains l) (sym longer_is) (record {
          some_gate = kept.some_gate;
          few_gates = kept.few_gates;
          count = length-set inboxes gate next ∙ kept.count;
          channels = placed gate next (log ++ entry ∷ []) once.gate_is here
              (λ other one differ of. inbox-still other log one of entry (count-still log entry refl other)
              (λ k. arrived-others log author gate number message other k (λ same. differ (sym same.0))));
          chains_are = chains-still entry refl still;
          takable = λ at_gate k one arrived. elim (cases_eq gate at_gate) [
            | inl same ↦ elim (cases_eq number k) [
              | inl also ↦
                  let found : Some message ≡ Some one = sym (arrived-new log author gate number message once.new)
                  ∙ (λ i. arrived_at (same i) (also i) (log ++ entry ∷ [])) ∙ arrived in
                  subst IsTakable (same_Some _ _ found) once.takable
              | inr differ ↦ kept.takable at_gate k one (sym (arrived-others log author gate number message at_gate k (λ both. differ both.1)) ∙ arrived)
            ]
            | inr differ ↦ kept.takable at_gate k one (sym (arrived-others log author gate number message at_gate k (λ both. differ both.0)) ∙ arrived)
          ];
          all_arrived = all-still log entry refl kept.all_arrived;
          some_kept = some-still entry refl still;
          rules = each_push (λ before one. FitsShard gates before one.deed) log entry kept.rules once;
        })

    -- a shard that took the head of an inbox and applied its parts follows its log with the processing
    pub keeps_applied : (after : Chains) → gate < gates → head_of gate log ≡ Some message → waits_at message log ≡ None
        → PassesAt log message → slice_get inboxes gate ≡ Some inbox → next ≡ after_head stamp_at inbox
        → number ≡ inbox.processed + 1 →
        ((v : Name) → chain_of after v ≡ after_parts message.stamp v (chain_of chains v) message.parts)
        → longer ≡ log ++ record { author = author; deed = Applied gate number } ∷ []
        → IsShardReplay gates (slice_set inboxes gate next) after longer
    keeps_applied after below is in_turn passes at next_is number_is applied longer_is =
        let channel = kept.channels gate inbox at in
        let entry : ShardEntry = record { author = author; deed = Applied gate (processed_count gate log + 1) } in
        let own : number ≡ processed_count gate log + 1 = number_is ∙ ap (λ n. n + 1) channel.processed in
        let whole : longer ≡ log ++ entry ∷ [] = longer_is ∙ ap (λ (n : ℕ). log ++ record { author = author; deed = Applied gate n } ∷ []) own in
        let here : IsInboxOf gate (log ++ entry ∷ []) next = subst (IsInboxOf gate (log ++ entry ∷ [])) (sym next_is)
        (inbox-advances gate log inbox channel laws author message is) in
        let still : (v : Name) (dropped : ℕ) → dropped_after v log entry.deed dropped ≡ dropped = λ v dropped. refl in
        subst (λ (l : List ShardEntry). IsShardReplay gates (slice_set inboxes gate next) after l) (sym whole) (record {
          some_gate = kept.some_gate;
          few_gates = kept.few_gates;
          count = length-set inboxes gate next ∙ kept.count;
          channels = placed gate next (log ++ entry ∷ []) below here (λ other one differ of. inbox-still other log one of entry (other_count author gate log other (λ same. differ (sym same))) (λ k. arrived-still log entry refl other k));
          chains_are = λ v.
              applied v
              ∙ ap (λ (chain : Option ChainView). after_parts message.stamp v chain message.parts) (kept.chains_are v)
              ∙ parts-on message.stamp v (dropped_of v log) (updates_of v log) message.parts (kept.some_kept v)
              ∙ sym (λ i. chain_from (dropped-same entry still v i)
              (updates-applied log author gate (processed_count gate log + 1) message is kept.all_arrived v i));
          takable = λ at_gate k one arrived. kept.takable at_gate k one (sym (arrived-still log entry refl at_gate k) ∙ arrived);
          all_arrived = all-applied log author gate (processed_count gate log + 1) message is kept.all_arrived;
          some_kept = λ v.
              let few = still-few (dropped_of v log) (updates_of v log) (updates_in v message) (kept.some_kept v) in
              let same = dropped-same entry still v in
              let long : length (updates_of v (log ++ entry ∷ [])) ≡ length
              (updates_of v log ++ updates_in v message) = ap length
              (updates-applied log author gate (processed_count gate log + 1) message is kept.all_arrived v) in
              omega (arith, few, same, long);
          rules = each_push (λ before one. FitsShard gates before one.deed) log entry kept.rules
              (record { gate_is = below; number_is = refl; message = message; head = is; in_turn = in_turn; passes = passes });
        })

  -- a program read a vertex
  pub keeps_visited : (author request : ℕ) (stamp : Stamp) (vertex : Name) (updates : ℕ) (settled : Bool) (longer : List ShardEntry)
      → IsReadRightly gates log stamp vertex updates settled
      → longer ≡ log ++ record { author = author; deed = Visited request stamp vertex updates settled } ∷ []
      → IsShardReplay gates inboxes chains longer
  keeps_visited author request stamp vertex updates settled longer right longer_is =
      let entry : ShardEntry = record { author = author; deed = Visited request stamp vertex updates settled } in
      let still : (v : Name) (dropped : ℕ) → dropped_after v log entry.deed dropped ≡ dropped = λ v dropped. refl in
      subst (λ (l : List ShardEntry). IsShardReplay gates inboxes chains l) (sym longer_is) (record {
        some_gate = kept.some_gate;
        few_gates = kept.few_gates;
        count = kept.count;
        channels = λ gate inbox at. inbox-still gate log inbox (kept.channels gate inbox at) entry (count-still log entry refl gate) (λ k. arrived-still log entry refl gate k);
        chains_are = chains-still entry refl still;
        takable = λ at_gate k one arrived. kept.takable at_gate k one (sym (arrived-still log entry refl at_gate k) ∙ arrived);
        all_arrived = all-still log entry refl kept.all_arrived;
        some_kept = some-still entry refl still;
        rules = each_push (λ before one. FitsShard gates before one.deed) log entry kept.rules right;
      })

  -- a shard whose chains were collected by the bound follows its log with the collection
  pub keeps_collected : (author : ℕ) (bound : Option Clock) (after : Chains) (longer : List ShardEntry)
      → bound ≡ bound_of gates log → ((v : Name) → chain_of after v ≡ collected_if bound (chain_of chains v))
      → longer ≡ log ++ record { author = author; deed = Collected bound } ∷ []
      → IsShardReplay gates inboxes after longer
  keeps_collected author bound after longer bound_is collected_are longer_is =
      let entry : ShardEntry = record { author = author; deed = Collected bound } in
      let dropped : (v : Name) → dropped_of v (log ++ entry ∷ []) ≡ dropped_after v log (Collected bound) (dropped_of v log) = λ v. dropped-push v [] log entry 0 in
      let same : (v : Name) → updates_of v (log ++ entry ∷ []) ≡ updates_of v log = λ v. updates-still log entry refl kept.all_arrived v in
      subst (λ (l : List ShardEntry). IsShardReplay gates inboxes after l) (sym longer_is) (record {
        some_gate = kept.some_gate;
        few_gates = kept.few_gates;
        count = kept.count;
        channels = λ gate inbox at. inbox-still gate log inbox (kept.channels gate inbox at) entry (count-still log entry refl gate) (λ k. arrived-still log entry refl gate k);
        chains_are = λ v.
            collected_are v
            ∙ ap (collected_if bound) (kept.chains_are v)
            ∙ collected-by bound v log (dropped_of v log)
            ∙ sym (λ i. chain_from (dropped v i) (same v i));
        takable = λ at_gate k one arrived. kept.takable at_gate k one (sym (arrived-still log entry refl at_gate k) ∙ arrived);
        all_arrived = all-still log entry refl kept.all_arrived;
        some_kept = λ v.
            let few = few-by bound v log (dropped_of v log) (kept.some_kept v) in
            let now = dropped v in
            let long : length (updates_of v (log ++ entry ∷ [])) ≡ length (updates_of v log) = ap length (same v) in
            omega (arith, few, now, long);
        rules = each_push (λ before one. FitsShard gates before one.deed) log entry kept.rules bound_is;
      })

-- before the first entry nothing has arrived, and no vertex has updates
pub keeps_none : (gates : ℕ) (inboxes : List (Incoming Waiting)) (chains : Chains) (log : List ShardEntry) → log ≡ [] → 1 ≤ gates → gates ≤ 8 → length inboxes ≡ gates → All (λ (inbox : Incoming Waiting). inbox ≡ nothing_arrived) inboxes → ((v : Name) → chain_of chains v ≡ None) → IsShardReplay gates inboxes chains log
keeps_none gates inboxes chains log log_is some few count empty none =
    subst (λ (l : List ShardEntry). IsShardReplay gates inboxes chains l) (sym log_is) (record {
      some_gate = some;
      few_gates = few;
      count = count;
      channels = λ gate inbox at.
          let new : inbox ≡ nothing_arrived = subst (λ (one : Incoming Waiting). one ≡ nothing_arrived) (get_or_from_slice_get inboxes gate inbox inbox at) (empty gate inbox (slice_get_within inboxes gate inbox at)) in
          subst (IsInboxOf gate []) (sym new) (inbox-new gate);
      chains_are = none;
      takable = λ gate number message arrived. let never : None ≡ Some message = arrived in absurd cc;
      all_arrived = λ of has. absurd (has_none of has);
      some_kept = λ v. omega arith;
      rules = each_none (λ before one. FitsShard gates before one.deed);
    })
