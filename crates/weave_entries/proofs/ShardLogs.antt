-- The replay of a shard's log with one more entry.
-- Used by `arrivals_stay`, `the_shard_replay_goes_on`, `updates_go_on` and crate shard_node.
use Rattle.std.proofs.Common.{◌≡◌, ℕ, ◌+◌, ◌≤◌, Bool, true, false, cond, List, [], ◌∷◌, ◌++◌, length, Contains, Option, None, Some, is_some, inl, inr, refl, sym, ap, subst, ◌∙◌, arith}
use Rattle.std.specs.Prelude.{◌==◌, ◌&&◌, count_by, filter_map}
use Rattle.std.specs.List.{cons_option, find, flat_map}
use Rattle.std.specs.Option.{option_map, option_or}
use Rattle.std.proofs.lemmas.Bool.{eq-eqb}
use Rattle.std.proofs.lemmas.Bool.Decides.{eqb_tells}
use Rattle.std.proofs.lemmas.List.{append_assoc, append-nil, length-append}
use Rattle.std.proofs.lemmas.List.Elements.{filter_map-append, Contains-append_cases}
use Rattle.std.proofs.lemmas.List.Folds.{find-append}
use Rattle.weave_data.proofs.Ends.{by_last, count_push, flat_push}
use Rattle.weave_data.proofs.Entries as entries
use Rattle.weave_data.proofs.Members.{has_none, has_head, has_tail, only}
use Rattle.weave_data.proofs.Options.{map-or, or_none, or_there}
use Rattle.weave_data.specs.declared.name.Name.{Name}
use Rattle.weave_entries.specs.declared.message.Message.{Message}
use Rattle.weave_entries.specs.declared.shard_log.ShardEntry.{ShardEntry}
use Rattle.weave_entries.specs.declared.shard_log.ShardDeed.{ShardDeed}
use Rattle.weave_entries.specs.declared.shard_log.ShardDeed.TheVariants.{Arrived, Applied, Visited, Collected}
use Rattle.weave_entries.specs.ShardReplay.{Arrival, arrival_by, arrivals_of, arrived_at, processed_by, processed_of, processed_count, applied_messages, updates_in, updates_of, dropped_after, dropped_from, ProcessedArrived}
use Rattle.weave_entries.specs.ShardRules.{FitsShard, IsShardLog}

-- functions that agree on all elements choose the same
filter_map-same : {A B : Type 0} (f g : A → Option B) (xs : List A) → ((x : A) → Contains xs x → f x ≡ g x) → filter_map f xs ≡ filter_map g xs
filter_map-same f g [] same = refl
filter_map-same f g (x ∷ xs) same =
    (λ i. cons_option (same x (has_head x xs) i) (filter_map f xs)) ∙ ap (cons_option (g x)) (filter_map-same f g xs (λ y has. same y (has_tail x xs y has)))

-- the first of these arrivals with this gatekeeper and number
abbrev arrived_in : ℕ → ℕ → List Arrival → Option Message
arrived_in gate number arrivals = option_map (λ (arrival : Arrival). arrival.message) (find (λ (arrival : Arrival). (arrival.gate == gate) && (arrival.number == number)) arrivals)

-- What arrived

module _ (log : List ShardEntry) (entry : ShardEntry) where
  arrivals-push : arrivals_of (log ++ entry ∷ []) ≡ arrivals_of log ++ arrival_by entry.deed
  arrivals-push = flat_push (λ (one : ShardEntry). arrival_by one.deed) log entry

  -- what arrived with one more entry
  pub arrived-push : (gate number : ℕ) → arrived_at gate number (log ++ entry ∷ []) ≡ option_or (arrived_at gate number log) (arrived_in gate number (arrival_by entry.deed))
  arrived-push gate number =
      ap (arrived_in gate number) arrivals-push
      ∙ ap (option_map (λ (arrival : Arrival). arrival.message)) (find-append (λ (arrival : Arrival). (arrival.gate == gate) && (arrival.number == number)) (arrivals_of log) (arrival_by entry.deed))
      ∙ map-or (λ (arrival : Arrival). arrival.message) (find (λ (arrival : Arrival). (arrival.gate == gate) && (arrival.number == number)) (arrivals_of log)) (find (λ (arrival : Arrival). (arrival.gate == gate) && (arrival.number == number)) (arrival_by entry.deed))

  -- a message that has arrived is still found under its number with one more entry
  pub arrived-stays : (gate number : ℕ) → is_some (arrived_at gate number log) ≡ true → arrived_at gate number (log ++ entry ∷ []) ≡ arrived_at gate number log
  arrived-stays gate number there = arrived-push gate number ∙ or_there (arrived_at gate number log) (arrived_in gate number (arrival_by entry.deed)) there

  -- a deed that brings nothing leaves what arrived
  pub arrived-still : arrival_by entry.deed ≡ [] → (gate number : ℕ) → arrived_at gate number (log ++ entry ∷ []) ≡ arrived_at gate number log
  arrived-still none gate number =
      arrived-push gate number ∙ ap (λ (arrivals : List Arrival). option_or (arrived_at gate number log) (arrived_in gate number arrivals)) none ∙ or_none (arrived_at gate number log)

module _ (log : List ShardEntry) (author gate number : ℕ) (message : Message) where
  -- the message that arrives is there under its number
  pub arrived-new : arrived_at gate number log ≡ None → arrived_at gate number (log ++ record { author = author; deed = Arrived gate number message } ∷ []) ≡ Some message
  arrived-new none =
      let here : ((gate == gate) && (number == number)) ≡ true = rw (eq-eqb gate gate refl) (eq-eqb number number refl) in
      arrived-push log (record { author = author; deed = Arrived gate number message }) gate number
      ∙ ap (λ (before : Option Message). option_or before (arrived_in gate number (arrival_by (Arrived gate number message)))) none
      ∙ ap (λ (b : Bool). option_map (λ (arrival : Arrival). arrival.message) (cond b (Some (record { gate = gate; number = number; message = message })) None)) here

  -- what arrived under any other number or gatekeeper is as before the arrival
  pub arrived-others : (at_gate at_number : ℕ) → ((gate ≡ at_gate) × (number ≡ at_number) → ⊥) → arrived_at at_gate at_number (log ++ record { author = author; deed = Arrived gate number message } ∷ []) ≡ arrived_at at_gate at_number log
  arrived-others at_gate at_number other =
      let off : ((gate == at_gate) && (number == at_number)) ≡ false = elim (eqb_tells gate at_gate) [
        | inl same ↦ rw same.0 (elim (eqb_tells number at_number) [
          | inl also ↦ absurd (other (same.1, also.1))
          | inr differ ↦ differ.0
        ])
        | inr differ ↦ rw differ.0 refl
      ] in
      arrived-push log (record { author = author; deed = Arrived gate number message }) at_gate at_number
      ∙ ap (λ (b : Bool). option_or (arrived_at at_gate at_number log) (option_map (λ (arrival : Arrival). arrival.message) (cond b (Some (record { gate = gate; number = number; message = message })) None))) off
      ∙ or_none (arrived_at at_gate at_number log)

-- What was processed

module _ (log : List ShardEntry) (entry : ShardEntry) where
  -- with one more entry its message is processed last
  pub processed-push : processed_of (log ++ entry ∷ []) ≡ processed_of log ++ processed_by entry.deed
  processed-push = flat_push (λ (one : ShardEntry). processed_by one.deed) log entry

  processed-still : processed_by entry.deed ≡ [] → processed_of (log ++ entry ∷ []) ≡ processed_of log
  processed-still none = processed-push ∙ ap (λ ofs. processed_of log ++ ofs) none ∙ append-nil (processed_of log)

  -- a deed that processes nothing leaves each processed number
  pub count-still : processed_by entry.deed ≡ [] → (gate : ℕ) → processed_count gate (log ++ entry ∷ []) ≡ processed_count gate log
  count-still none gate = ap (count_by (λ (of : ℕ × ℕ). of.0 == gate)) (processed-still none)

  messages-still : processed_by entry.deed ≡ [] → ProcessedArrived log → applied_messages (log ++ entry ∷ []) ≡ applied_messages log
  messages-still none all =
      ap (filter_map (λ (of : ℕ × ℕ). arrived_at of.0 of.1 (log ++ entry ∷ []))) (processed-still none)
      ∙ filter_map-same (λ (of : ℕ × ℕ). arrived_at of.0 of.1 (log ++ entry ∷ [])) (λ (of : ℕ × ℕ). arrived_at of.0 of.1 log) (processed_of log) (λ of has. arrived-stays log entry of.0 of.1 (all of has))

  -- a deed that processes nothing leaves the updates of each vertex
  pub updates-still : processed_by entry.deed ≡ [] → ProcessedArrived log → (v : Name) → updates_of v (log ++ entry ∷ []) ≡ updates_of v log
  updates-still none all v = ap (flat_map (updates_in v)) (messages-still none all)

  -- each message that was processed had still arrived
  pub all-still : processed_by entry.deed ≡ [] → ProcessedArrived log → ProcessedArrived (log ++ entry ∷ [])
  all-still none all of has =
      let there = all of (subst (λ ofs. Contains ofs of) (processed-still none) has) in
      ap is_some (arrived-stays log entry of.0 of.1 there) ∙ there

module _ (log : List ShardEntry) (author gate number : ℕ) where
  -- a message that is processed adds one to its gatekeeper's processed number, and nothing to the others'
  pub count-applied : (at_gate : ℕ) → processed_count at_gate (log ++ record { author = author; deed = Applied gate number } ∷ []) ≡ processed_count at_gate log + cond (gate == at_gate) 1 0
  count-applied at_gate =
      ap (count_by (λ (of : ℕ × ℕ). of.0 == at_gate)) (processed-push log (record { author = author; deed = Applied gate number }))
      ∙ count_push (λ (of : ℕ × ℕ). of.0 == at_gate) (processed_of log) (gate, number)

  module _ (head : Message) (arrived : arrived_at gate number log ≡ Some head) where
    messages-applied : ProcessedArrived log → applied_messages (log ++ record { author = author; deed = Applied gate number } ∷ []) ≡ applied_messages log ++ head ∷ []
    messages-applied all =
        let entry : ShardEntry = record { author = author; deed = Applied gate number } in
        let now : arrived_at gate number (log ++ entry ∷ []) ≡ Some head = arrived-still log entry refl gate number ∙ arrived in
        ap (filter_map (λ (of : ℕ × ℕ). arrived_at of.0 of.1 (log ++ entry ∷ []))) (processed-push log entry)
        ∙ filter_map-append (λ (of : ℕ × ℕ). arrived_at of.0 of.1 (log ++ entry ∷ [])) (processed_of log) ((gate, number) ∷ [])
        ∙ (λ i. filter_map-same (λ (of : ℕ × ℕ). arrived_at of.0 of.1 (log ++ entry ∷ [])) (λ (of : ℕ × ℕ). arrived_at of.0 of.1 log) (processed_of log) (λ of has. arrived-stays log entry of.0 of.1 (all of has)) i ++ cons_option (now i) [])

    -- the updates that its message has are the last ones
    pub updates-applied : ProcessedArrived log → (v : Name) → updates_of v (log ++ record { author = author; deed = Applied gate number } ∷ []) ≡ updates_of v log ++ updates_in v head
    updates-applied all v = ap (flat_map (updates_in v)) (messages-applied all) ∙ flat_push (updates_in v) (applied_messages log) head

    -- and so had the one that is processed now
    pub all-applied : ProcessedArrived log → ProcessedArrived (log ++ record { author = author; deed = Applied gate number } ∷ [])
    all-applied all of has =
        let entry : ShardEntry = record { author = author; deed = Applied gate number } in
        elim (Contains-append_cases (processed_of log) ((gate, number) ∷ []) of (subst (λ ofs. Contains ofs of) (processed-push log entry) has)) [
          | inl before ↦ ap is_some (arrived-still log entry refl of.0 of.1) ∙ all of before
          | inr new ↦
              let same : (gate, number) ≡ of = only (gate, number) of new in
              subst (λ (one : ℕ × ℕ). is_some (arrived_at one.0 one.1 (log ++ entry ∷ [])) ≡ true) same (ap is_some (arrived-still log entry refl gate number ∙ arrived))
        ]

one_at_most : (b : Bool) → cond b 1 0 ≤ 1
one_at_most true = omega arith
one_at_most false = omega arith

few_more : (gate : ℕ) (log : List ShardEntry) (author : ℕ) (deed : ShardDeed) → processed_count gate log ≤ length log → processed_count gate (log ++ record { author = author; deed = deed } ∷ []) ≤ length (log ++ record { author = author; deed = deed } ∷ [])
few_more gate log author (Arrived from number message) few =
    let entry : ShardEntry = record { author = author; deed = Arrived from number message } in
    omega (arith, few, count-still log entry refl gate, length-append log (entry ∷ []))
few_more gate log author (Applied from number) few =
    let entry : ShardEntry = record { author = author; deed = Applied from number } in
    omega (arith, few, count-applied log author from number gate, one_at_most (from == gate), length-append log (entry ∷ []))
few_more gate log author (Visited request stamp vertex updates settled) few =
    let entry : ShardEntry = record { author = author; deed = Visited request stamp vertex updates settled } in
    omega (arith, few, count-still log entry refl gate, length-append log (entry ∷ []))
few_more gate log author (Collected bound) few =
    let entry : ShardEntry = record { author = author; deed = Collected bound } in
    omega (arith, few, count-still log entry refl gate, length-append log (entry ∷ []))

-- no more were processed than the log has entries
pub processed_are_few : (gate : ℕ) (log : List ShardEntry) → processed_count gate log ≤ length log
processed_are_few gate = by_last (λ log. processed_count gate log ≤ length log) (omega arith) (λ log entry few. few_more gate log entry.author entry.deed few)

-- What was dropped

-- how many versions are dropped with one more entry
pub dropped-push : (v : Name) (before log : List ShardEntry) (entry : ShardEntry) (dropped : ℕ) → dropped_from v before (log ++ entry ∷ []) dropped ≡ dropped_after v (before ++ log) entry.deed (dropped_from v before log dropped)
dropped-push v before [] entry dropped = ap (λ (log : List ShardEntry). dropped_after v log entry.deed dropped) (sym (append-nil before))
dropped-push v before (one ∷ log) entry dropped =
    dropped-push v (before ++ one ∷ []) log entry (dropped_after v before one.deed dropped)
    ∙ ap (λ (all : List ShardEntry). dropped_after v all entry.deed (dropped_from v (before ++ one ∷ []) log (dropped_after v before one.deed dropped))) (append_assoc before (one ∷ []) log)

-- A log that keeps the rules

arrives_on : (gates : ℕ) (log : List ShardEntry) (author : ℕ) (deed : ShardDeed) → FitsShard gates log deed → ProcessedArrived log → ProcessedArrived (log ++ record { author = author; deed = deed } ∷ [])
arrives_on gates log author (Arrived gate number message) fits all = all-still log (record { author = author; deed = Arrived gate number message }) refl all
arrives_on gates log author (Applied gate number) fits all =
    let arrived : arrived_at gate number log ≡ Some fits.message = ap (λ n. arrived_at gate n log) fits.number_is ∙ fits.head in
    all-applied log author gate number fits.message arrived all
arrives_on gates log author (Visited request stamp vertex updates settled) fits all = all-still log (record { author = author; deed = Visited request stamp vertex updates settled }) refl all
arrives_on gates log author (Collected bound) fits all = all-still log (record { author = author; deed = Collected bound }) refl all

-- each message that was processed had arrived
pub all_arrived : (gates : ℕ) (log : List ShardEntry) → IsShardLog gates log → ProcessedArrived log
all_arrived gates =
    entries.by_entries (λ before (one : ShardEntry). FitsShard gates before one.deed) ProcessedArrived (λ of has. absurd (has_none of has))
    (λ log entry right fits so_far. arrives_on gates log entry.author entry.deed fits so_far)

-- a message that arrived is still there with one more entry
pub arrived-keeps : (log : List ShardEntry) (entry : ShardEntry) (gate number : ℕ) (message : Message) → arrived_at gate number log ≡ Some message → arrived_at gate number (log ++ entry ∷ []) ≡ Some message
arrived-keeps log entry gate number message there = arrived-stays log entry gate number (ap is_some there) ∙ there
