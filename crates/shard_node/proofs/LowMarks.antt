-- The low marks that a shard keeps stay those of the last processed messages, and their meet is its bound.
-- Used by `apply`, `arrive`, `collect`, `new` and `visit`.
use Rattle.std.proofs.Common.{◌≡◌, ◌≢◌, ℕ, suc, ◌+◌, ◌<◌, ◌≤◌, Bool, true, false, cond, List, [], ◌∷◌, ◌++◌, map, length, slice_get, slice_set, Option, None, Some, is_some, All, inl, inr, refl, sym, ap, subst, ◌∙◌, arith}
use Rattle.std.specs.List.{range_with_len}
use Rattle.std.specs.Option.{option_map}
use Rattle.std.proofs.lemmas.Bool.{cases_eq, eq-eqb, ne_eqb}
use Rattle.std.proofs.lemmas.List.{length-set}
use Rattle.std.proofs.lemmas.Option.{slice_get_within, get_or_from_slice_get, same_Some}
use Rattle.weave_data.proofs.Lists.{get_set_here, get_set_other}
use Rattle.vector_stamp.specs.declared.clock.Clock.{Clock}
use Rattle.weave_entries.specs.declared.message.Message.{Message}
use Rattle.weave_entries.specs.declared.shard_log.ShardEntry.{ShardEntry}
use Rattle.weave_entries.specs.declared.shard_log.ShardDeed.TheVariants.{Arrived, Applied}
use Rattle.weave_entries.specs.ShardReplay.{arrival_by, arrived_at, processed_by, processed_count, head_of, last_of, meet_of_all, bound_of}
use Rattle.shard_node.specs.Keeping.{low_of, AreLowMarks}
use Rattle.weave_entries.proofs.ShardLogs.{arrived-still, arrived-others, count-still, count-applied}

-- The last processed messages

-- they stay if a deed brings and processes nothing
pub last-still : (log : List ShardEntry) (entry : ShardEntry) → arrival_by entry.deed ≡ [] → processed_by entry.deed ≡ [] → (gate : ℕ) → last_of gate (log ++ entry ∷ []) ≡ last_of gate log
last-still log entry none unprocessed gate =
    ap (λ n. arrived_at gate n (log ++ entry ∷ [])) (count-still log entry unprocessed gate) ∙ arrived-still log entry none gate (processed_count gate log)

-- and if a message arrives, since its number is past those that were processed
pub last-arrived : (log : List ShardEntry) (author gate number : ℕ) (message : Message) → 1 ≤ number → arrived_at gate number log ≡ None
    → ((n : ℕ) → 1 ≤ n → n ≤ processed_count gate log → is_some (arrived_at gate n log) ≡ true)
    → (other : ℕ) → last_of other (log ++ record { author = author; deed = Arrived gate number message } ∷ []) ≡ last_of other log
last-arrived log author gate number message some new arrived other =
    let entry : ShardEntry = record { author = author; deed = Arrived gate number message } in
    ap (λ n. arrived_at other n (log ++ entry ∷ [])) (count-still log entry refl other)
    ∙ arrived-others log author gate number message other (processed_count other log) (λ same.
    let there : is_some (arrived_at gate number log) ≡ true = arrived number some (subst (λ g. number ≤ processed_count g log) (sym same.0) (omega (arith, same.1))) in
    let never : false ≡ true = sym (ap is_some new) ∙ there in absurd cc)

-- A head that was processed is the last one of its channel, and the others stay
module _ (log : List ShardEntry) (author gate : ℕ) where
  abbrev applied : ShardEntry
  applied = record { author = author; deed = Applied gate (processed_count gate log + 1) }

  -- the head that was processed is then the last processed message of its channel
  pub last-applied : last_of gate (log ++ applied ∷ []) ≡ head_of gate log
  last-applied =
      ap (λ n. arrived_at gate n (log ++ applied ∷ [])) (count-applied log author gate (processed_count gate log + 1) gate ∙ ap (λ (b : Bool). processed_count gate log + cond b 1 0) (eq-eqb gate gate refl))
      ∙ arrived-still log applied refl gate (processed_count gate log + 1)

  -- the last processed messages of the other channels stay
  pub last-others : (other : ℕ) → other ≢ gate → last_of other (log ++ applied ∷ []) ≡ last_of other log
  last-others other differ =
      let count : processed_count other (log ++ applied ∷ []) ≡ processed_count other log = count-applied log author gate (processed_count gate log + 1) other ∙ ap (λ (b : Bool). processed_count other log + cond b 1 0) (ne_eqb gate other (λ same. differ (sym same))) ∙ omega arith in
      ap (λ n. arrived_at other n (log ++ applied ∷ [])) count ∙ arrived-still log applied refl other (processed_count other log)

-- The low marks

-- a list of which each element is known
list-is : {A : Type 0} (f : ℕ → A) (place : ℕ) (xs : List A) → ((k : ℕ) (x : A) → slice_get xs k ≡ Some x → x ≡ f (place + k)) → xs ≡ map f (range_with_len place (length xs))
list-is f place [] each = refl
list-is f place (x ∷ xs) each =
    let at_place : place + 0 ≡ place = omega arith in
    let first : x ≡ f place = each 0 x refl ∙ ap f at_place in
    let rest : xs ≡ map f (range_with_len (place + 1) (length xs)) = list-is f (place + 1) xs (λ k y at. each (suc k) y at ∙ ap f (omega arith)) in
    λ i. first i ∷ rest i

-- before the first entry, the low marks of the log are one for each gatekeeper, all empty
pub no-marks : (gates : ℕ) (lows : List (Option Clock)) (log : List ShardEntry) → log ≡ [] → length lows ≡ gates → All (λ (low : Option Clock). low ≡ None) lows → AreLowMarks gates lows log
no-marks gates lows log log_is count none = subst (AreLowMarks gates lows) (sym log_is) (record {
  count = count;
  each = λ gate low at. subst (λ (one : Option Clock). one ≡ None) (get_or_from_slice_get lows gate low low at) (none gate low (slice_get_within lows gate low at));
})

module _ (gates : ℕ) (lows : List (Option Clock)) (log : List ShardEntry) (marks : AreLowMarks gates lows log) where
  -- they stay if the last processed messages do
  pub marks-still : (longer : List ShardEntry) → ((gate : ℕ) → last_of gate longer ≡ last_of gate log) → AreLowMarks gates lows longer
  marks-still longer same = record {
    count = marks.count;
    each = λ gate low at. marks.each gate low at ∙ ap (option_map (λ (message : Message). message.low)) (sym (same gate));
  }

  -- when a head is processed, its low mark becomes the one of its gatekeeper
  pub marks-applied : (author gate number : ℕ) (head : Message) (longer : List ShardEntry) → gate < gates → number ≡ processed_count gate log + 1 → head_of gate log ≡ Some head
      → longer ≡ log ++ record { author = author; deed = Applied gate number } ∷ [] → AreLowMarks gates (slice_set lows gate (Some head.low)) longer
  marks-applied author gate number head longer below number_is is longer_is =
      let count = marks.count in
      let whole : longer ≡ log ++ applied log author gate ∷ [] = longer_is ∙ ap (λ n. log ++ record { author = author; deed = Applied gate n } ∷ []) number_is in
      subst (AreLowMarks gates (slice_set lows gate (Some head.low))) (sym whole) (record {
        count = length-set lows gate (Some head.low) ∙ count;
        each = λ other low at. elim (cases_eq other gate) [
          | inl same ↦
              let found : Some head.low ≡ low = same_Some _ _
              (sym (get_set_here lows gate (Some head.low) (omega (arith, below, count)))
              ∙ ap (slice_get (slice_set lows gate (Some head.low))) (sym same) ∙ at) in
              sym found ∙ ap (option_map (λ (message : Message). message.low)) (sym (last-applied log author gate ∙ is)) ∙ ap (low_of (log ++ applied log author gate ∷ [])) (sym same)
          | inr differ ↦
              marks.each other low (sym (get_set_other lows gate other (Some head.low) differ) ∙ at)
              ∙ ap (option_map (λ (message : Message). message.low)) (sym (last-others log author gate other differ))
        ];
      })

  -- the meet of all low marks is the bound of the log
  pub bound-is : meet_of_all lows ≡ bound_of gates log
  bound-is =
      let each : lows ≡ map (low_of log) (range_with_len 0 (length lows)) = list-is (low_of log) 0 lows (λ k low at. marks.each k low at ∙ ap (low_of log) (omega arith)) in
      ap meet_of_all (each ∙ ap (λ n. map (low_of log) (range_with_len 0 n)) marks.count)
