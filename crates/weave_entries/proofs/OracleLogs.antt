-- The log of the oracle grows by right entries, its pairs make no cycle, and the stamps of each pair are unordered.
-- Used by `an_oracle_log_goes_on` and `an_oracle_log_has_no_cycle`.
use Rattle.std.proofs.Common.{◌≡◌, ◌≢◌, ℕ, zero, suc, List, [], ◌∷◌, ◌++◌, All, Contains, IsTrue, None, Some, slice_get, inl, inr, refl, sym, ap, subst, ◌∙◌, append_assoc, arith}
use Rattle.std.specs.List.{filter_map}
use Rattle.std.specs.Option.{option_map}
use Rattle.std.proofs.lemmas.List.{append-nil}
use Rattle.std.proofs.lemmas.List.Elements.{All-contains, Contains-append_cases}
use Rattle.weave_data.proofs.Members.{has_none}
use Rattle.vector_stamp.specs.declared.clock.Stamp.{Stamp}
use Rattle.vector_stamp.specs.Order.{id_of, unordered}
use Rattle.vector_stamp.specs.Precedence.{GivenPair, IsAcyclic}
use Rattle.vector_stamp.specs.Settling.{refused_place, additions_from, places_of, pairs_of, SettledEntry}
use Rattle.weave_entries.specs.declared.oracle_log.OracleEntry.{OracleEntry}
use Rattle.weave_entries.specs.OracleReplay.{settled_entry, pairs_of_entry, pairs_of_log}
use Rattle.weave_entries.specs.OracleRules.{IsRightEntry, IsRightFrom}

-- a right log with one more right entry is right
pub right-push : (pairs : List GivenPair) (log : List OracleEntry) (entry : OracleEntry) → IsRightFrom pairs log → IsRightEntry (pairs ++ pairs_of_log log) (settled_entry entry) → IsRightFrom pairs (log ++ entry ∷ [])
right-push pairs [] entry right last = (subst (λ (ps : List GivenPair). IsRightEntry ps (settled_entry entry)) (append-nil pairs) last, tt)
right-push pairs (first ∷ log) entry right last =
    (right.0, right-push (pairs ++ pairs_of_entry (settled_entry first)) log entry right.1 (subst (λ (ps : List GivenPair). IsRightEntry ps (settled_entry entry)) (sym (append_assoc pairs (pairs_of_entry (settled_entry first)) (pairs_of_log log))) last))

-- each beginning of a right log is right
pub right-before : (pairs : List GivenPair) (log rest : List OracleEntry) → IsRightFrom pairs (log ++ rest) → IsRightFrom pairs log
right-before pairs [] rest right = tt
right-before pairs (first ∷ log) rest right = (right.0, right-before (pairs ++ pairs_of_entry (settled_entry first)) log rest right.1)

-- What a call adds

entry_pairs : (earlier : List Stamp) (later : Stamp) (events : List (ℕ × Stamp)) → ((place : ℕ) (event : Stamp) → Contains events (place, event) → slice_get earlier place ≡ Some event) → filter_map (λ (place : ℕ). option_map (λ (event : Stamp). (event, later)) (slice_get earlier place)) (places_of events) ≡ pairs_of events later
entry_pairs earlier later [] there = refl
entry_pairs earlier later (event ∷ events) there =
    rw (there event.0 event.1 (zero, omega arith, refl)) (ap (λ (ps : List GivenPair). (event.1, later) ∷ ps) (entry_pairs earlier later events (λ n e h. there n e (suc h.0, omega (arith, h.1), h.2))))

-- the laws on what is added, which are those of `settling_puts_all_before` and `no_cycle_arises`
pub record SettlingLaws : Type 0 where
  pub in_place : (pairs : List GivenPair) (earlier : List Stamp) (later : Stamp) (place : ℕ) (event : Stamp) → Contains (additions_from 0 pairs earlier later) (place, event) → slice_get earlier place ≡ Some event
  pub left_open : (pairs : List GivenPair) (earlier : List Stamp) (later a b : Stamp) → refused_place pairs earlier later ≡ None → Contains (pairs_of (additions_from 0 pairs earlier later) later) (a, b) → IsTrue (unordered a b)
  pub of_earlier : (pairs : List GivenPair) (earlier : List Stamp) (later a b : Stamp) → Contains (pairs_of (additions_from 0 pairs earlier later) later) (a, b) → Contains earlier a × (b ≡ later)
  pub settled : (pairs : List GivenPair) (earlier : List Stamp) (later : Stamp) → IsAcyclic pairs → ((event : Stamp) → Contains earlier event → event ≢ later) → refused_place pairs earlier later ≡ None → IsAcyclic (pairs ++ pairs_of (additions_from 0 pairs earlier later) later)

others_than : (events : List Stamp) (later : Stamp) → All (λ event. id_of event ≢ id_of later) events → (event : Stamp) → Contains events event → event ≢ later
others_than events later others event has same = All-contains (λ (e : Stamp). id_of e ≢ id_of later) events event others has (ap id_of same)

module _ (laws : SettlingLaws) where
  -- the pairs of a right entry are those that were added
  pub right_pairs : (pairs : List GivenPair) (entry : SettledEntry) → entry.places ≡ places_of (additions_from 0 pairs entry.earlier entry.later) → pairs_of_entry entry ≡ pairs_of (additions_from 0 pairs entry.earlier entry.later) entry.later
  right_pairs pairs entry added =
      ap (λ (places : List ℕ). pairs_of_entry (record { author = entry.author; earlier = entry.earlier; later = entry.later; places = places })) added
      ∙ entry_pairs entry.earlier entry.later (additions_from 0 pairs entry.earlier entry.later) (laws.in_place pairs entry.earlier entry.later)

  -- pairs that make no cycle still make none with those of a log of right entries after them
  pub log_acyclic : (pairs : List GivenPair) (log : List OracleEntry) → IsAcyclic pairs → IsRightFrom pairs log → IsAcyclic (pairs ++ pairs_of_log log)
  log_acyclic pairs [] none right = subst IsAcyclic (sym (append-nil pairs)) none
  log_acyclic pairs (entry ∷ log) none right =
      let first = settled_entry entry in
      let put = right_pairs pairs first right.0.added in
      let after = laws.settled pairs first.earlier first.later none (others_than first.earlier first.later right.0.others) right.0.permitted in
      let still : IsAcyclic (pairs ++ pairs_of_entry first) = subst (λ (ps : List GivenPair). IsAcyclic (pairs ++ ps)) (sym put) after in
      subst IsAcyclic (append_assoc pairs (pairs_of_entry first) (pairs_of_log log)) (log_acyclic (pairs ++ pairs_of_entry first) log still right.1)

  -- the stamps of a pair are unordered
  pub all_open : (pairs : List GivenPair) (log : List OracleEntry) → IsRightFrom pairs log → (a b : Stamp) → Contains (pairs_of_log log) (a, b) → IsTrue (unordered a b)
  all_open pairs [] right a b has = absurd (has_none (a, b) has)
  all_open pairs (entry ∷ log) right a b has =
      let first = settled_entry entry in
      elim (Contains-append_cases (pairs_of_entry first) (pairs_of_log log) (a, b) has) [
        | inl here ↦ laws.left_open pairs first.earlier first.later a b right.0.permitted (subst (λ (ps : List GivenPair). Contains ps (a, b)) (right_pairs pairs first right.0.added) here)
        | inr later ↦ all_open (pairs ++ pairs_of_entry first) log right.1 a b later
      ]

  -- the two stamps of each pair of a log that follows the rules have different ids
  pub all_apart : (pairs : List GivenPair) (log : List OracleEntry) → IsRightFrom pairs log → (a b : Stamp) → Contains (pairs_of_log log) (a, b) → id_of a ≢ id_of b
  all_apart pairs [] right a b has = absurd (has_none (a, b) has)
  all_apart pairs (entry ∷ log) right a b has =
      let first = settled_entry entry in
      elim (Contains-append_cases (pairs_of_entry first) (pairs_of_log log) (a, b) has) [
        | inl here ↦
            let from = laws.of_earlier pairs first.earlier first.later a b (subst (λ (ps : List GivenPair). Contains ps (a, b)) (right_pairs pairs first right.0.added) here) in
            λ same. All-contains (λ (e : Stamp). id_of e ≢ id_of first.later) first.earlier a right.0.others from.0 (same ∙ ap id_of from.1)
        | inr later ↦ all_apart (pairs ++ pairs_of_entry first) log right.1 a b later
      ]
