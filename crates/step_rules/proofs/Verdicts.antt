-- The last commits at the vertices that a transaction names, and what the oracle adds for them.
-- Used by JudgeStep and VisitStep.
use Rattle.std.proofs.Common.{◌≡◌, ◌≢◌, ℕ, List, [], ◌∷◌, ◌++◌, map, length, Contains, IsTrue, None, ◌⊎◌, inl, inr, refl, sym, ap, subst, ◌∙◌, get_or}
use Rattle.std.specs.Prelude.{All}
use Rattle.std.specs.List.{find, position_or_len}
use Rattle.std.proofs.lemmas.Bool.{cases_Bool, cases_lt, and_from, not_from_false, cond-false, le-ltb}
use Rattle.std.proofs.lemmas.List.{append-nil}
use Rattle.std.proofs.lemmas.List.Elements.{Contains-get_or}
use Rattle.std.proofs.lemmas.List.Sums.{passes_at_first}
use Rattle.weave_data.proofs.Members.{filter_has, find_lacks, has_filter, has_map, has_none, has_read}
use Rattle.graph_ops.specs.declared.op.Op.{Op}
use Rattle.vector_stamp.specs.declared.clock.Stamp.{Stamp}
use Rattle.vector_stamp.specs.Order.{id_of, stamp_before, unordered}
use Rattle.vector_stamp.specs.Precedence.{GivenPair, Precedes, ByStamps, precedes}
use Rattle.vector_stamp.specs.Settling.{SettledEntry, refused_place, additions_from, entries_of_call, pairs_of, places_of}
use Rattle.weave_entries.specs.declared.oracle_log.OracleEntry.{OracleEntry}
use Rattle.weave_entries.specs.OracleReplay.{oracle_entry_of, pairs_of_log, settled_entry}
use Rattle.weave_entries.specs.OracleRules.{IsOracleLog, IsRightEntry}
use Rattle.weave_entries.specs.StoreReplay.{Commit}
use Rattle.weave_entries.specs.StoreRule.{LastCommit, asked_of, asked_stamps, entries_of_settling, lasts_of}
use Rattle.step_rules.specs.LowerLaws.{LawsForSteps}
use Rattle.step_rules.proofs.Clashes.{not-empty}

-- none of the earlier events is preceded by the later one
pub none-refused : (pairs : List GivenPair) (events : List Stamp) (later : Stamp) → ((event : Stamp) → Contains events event → ¬ IsTrue (precedes pairs later event)) → refused_place pairs events later ≡ None
none-refused pairs events later none =
    let n = position_or_len (precedes pairs later) events in
    elim (cases_lt n (length events)) [
      | inl below ↦ absurd (none (get_or events n later) (Contains-get_or events n later below) (passes_at_first (precedes pairs later) events later below))
      | inr over ↦ cond-false _ _ _ (le-ltb n (length events) over)
    ]

-- of two stamps one is before the other, or they are unordered
pub three : (a b : Stamp) → IsTrue (stamp_before a b) ⊎ (IsTrue (stamp_before b a) ⊎ IsTrue (unordered a b))
three a b = elim (cases_Bool (stamp_before a b)) [
  | inl before ↦ inl before
  | inr neither ↦ elim (cases_Bool (stamp_before b a)) [
    | inl back ↦ inr (inl back)
    | inr nor ↦ inr (inr (and_from _ _ (not_from_false _ neither) (not_from_false _ nor)))
  ]
]

-- The last commits

module _ (ops : List Op) (commits : List Commit) where
  module _ (laws : LawsForSteps) (stamp : Stamp) where
    -- a last commit of which the oracle is asked is one of the last commits, and unordered with the new stamp
    pub asked-is : (last : LastCommit) → Contains (asked_of stamp (lasts_of ops commits)) last → Contains (lasts_of ops commits) last × IsTrue (unordered last.commit.stamp stamp)
    asked-is last h = filter_has (λ (l : LastCommit). unordered l.commit.stamp stamp) (lasts_of ops commits) last h

    -- once the asked ones are put before it, each last commit precedes the stamp, unless the stamp is before one of them
    pub all-precede : (pairs : List GivenPair) → find (λ (last : LastCommit). stamp_before stamp last.commit.stamp) (lasts_of ops commits) ≡ None
        → (last : LastCommit) → Contains (lasts_of ops commits) last → Precedes (pairs ++ pairs_of (additions_from 0 pairs (asked_stamps stamp (lasts_of ops commits)) stamp) stamp) last.commit.stamp stamp
    all-precede pairs no-later last h = elim (three last.commit.stamp stamp) [
      | inl before ↦ ByStamps _ _ before
      | inr (inl after) ↦ absurd (find_lacks (λ (l : LastCommit). stamp_before stamp l.commit.stamp) (lasts_of ops commits) last no-later h after)
      | inr (inr neither) ↦
          (laws.stamps.precedence_tested (pairs ++ pairs_of (additions_from 0 pairs (asked_stamps stamp (lasts_of ops commits)) stamp) stamp) last.commit.stamp stamp).1
          (laws.stamps.settled_all_precede pairs (asked_stamps stamp (lasts_of ops commits)) stamp last.commit.stamp
          (has_map (λ (l : LastCommit). l.commit.stamp) (asked_of stamp (lasts_of ops commits)) last (has_filter (λ (l : LastCommit). unordered l.commit.stamp stamp) (lasts_of ops commits) last h neither)))
    ]

-- What the oracle adds for one call

-- its log stays right, its pairs are those added, and each new entry is of this call
pub record IsSettled (author : ℕ) (log : List OracleEntry) (earlier : List Stamp) (later : Stamp) (entries : List OracleEntry) : Type 0 where
  pub right : IsOracleLog (log ++ entries)
  pub pairs : pairs_of_log (log ++ entries) ≡ pairs_of_log log ++ pairs_of (additions_from 0 (pairs_of_log log) earlier later) later
  pub of_call : (entry : OracleEntry) → Contains entries entry → (settled_entry entry).later ≡ later × ((settled_entry entry).earlier ≡ earlier)

module _ (laws : LawsForSteps) (author : ℕ) (log : List OracleEntry) (earlier : List Stamp) (later : Stamp) where
  -- a call whose later event is and precedes none of the earlier ones keeps the oracle's log right, with its pairs
  pub settles : IsOracleLog log → All (λ event. id_of event ≢ id_of later) earlier → refused_place (pairs_of_log log) earlier later ≡ None
      → IsSettled author log earlier later (entries_of_settling author (pairs_of_log log) earlier later)
  settles right others permitted = at (places_of (additions_from 0 (pairs_of_log log) earlier later)) refl
    where
      no-pairs : (adds : List (ℕ × Stamp)) → places_of adds ≡ [] → pairs_of adds later ≡ []
      no-pairs [] e = refl
      no-pairs (add ∷ adds) e = absurd (not-empty add.0 (places_of adds) e)

      at : (ps : List ℕ) → ps ≡ places_of (additions_from 0 (pairs_of_log log) earlier later) → IsSettled author log earlier later (map oracle_entry_of (entries_of_call author earlier later ps))
      at [] e = record {
        right = subst IsOracleLog (sym (append-nil log)) right;
        pairs = ap pairs_of_log (append-nil log) ∙ sym (append-nil (pairs_of_log log)) ∙ ap (λ more. pairs_of_log log ++ more) (sym (no-pairs (additions_from 0 (pairs_of_log log) earlier later) (sym e)));
        of_call = λ entry h. absurd (has_none entry h);
      }
      at (p ∷ ps) e =
          let settled : SettledEntry = record { author = author; earlier = earlier; later = later; places = p ∷ ps } in
          let is-right : IsRightEntry (pairs_of_log log) settled = record { others = others; permitted = permitted; added = e; some = not-empty p ps } in
          record {
            right = laws.logs.oracle_right log (oracle_entry_of settled) right is-right;
            pairs = laws.logs.oracle_pairs log (oracle_entry_of settled) ∙ ap (λ more. pairs_of_log log ++ more) (laws.logs.oracle_added (pairs_of_log log) settled is-right);
            of_call = λ entry h. elim (has_read (oracle_entry_of settled) [] entry h) [
              | inl same ↦ (sym (ap (λ (x : OracleEntry). (settled_entry x).later) same), sym (ap (λ (x : OracleEntry). (settled_entry x).earlier) same))
              | inr none ↦ absurd (has_none entry none)
            ];
          }
