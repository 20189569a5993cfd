-- The oracle's log, by what a judge's log has more; and what a look-up of a judgement says.
-- Used by `is_judged`, `judge_in`, `send_in` and `state_of_begun`.
use Rattle.std.proofs.Common.{◌≡◌, ℕ, true, false, List, [], ◌∷◌, ◌++◌, map, Option, None, Some, is_some, refl, sym, ap, ◌∙◌}
use Rattle.std.specs.Option.{option_map}
use Rattle.std.proofs.lemmas.List.{map-append}
use Rattle.vector_stamp.specs.declared.clock.Stamp.{Stamp}
use Rattle.vector_stamp.specs.Precedence.{GivenPair}
use Rattle.weave_entries.specs.declared.oracle_log.OracleEntry.{OracleEntry}
use Rattle.weave_entries.specs.declared.store_log.StoreEntry.{StoreEntry}
use Rattle.weave_entries.specs.declared.verdict.Verdict.{Verdict}
use Rattle.weave_entries.specs.declared.verdict.Verdict.TheVariants.{Committed, Conflict, Refused}
use Rattle.graph_ops.specs.declared.op.Op.{Op}
use Rattle.program_defs.specs.declared.script.Script.{Script}
use Rattle.weave_entries.specs.GateReplay.{BegunRequest, flight_of}
use Rattle.weave_entries.specs.OracleReplay.{oracle_entry_of, pairs_of_log, settled_entry}
use Rattle.weave_entries.specs.StoreReplay.{Judgement, judged_by, judgement_of}
use Rattle.weave_entries.specs.StoreRule.{entries_of_settling, settled_if}
use Rattle.backing_store.specs.Commits.{asked_at, entries_added, judged_entry, verdict_at}
use Rattle.weaver_core.specs.GateTable.{GateTable, gate_log_at}
use Rattle.weaver_core.specs.Judging.{IsJudgedNow, ops_in_flight, verdict_on_flight}

module _ (back : (entry : OracleEntry) → oracle_entry_of (settled_entry entry) ≡ entry) where
  all-back : (log : List OracleEntry) → log ≡ map oracle_entry_of (map settled_entry log)
  all-back [] = refl
  all-back (entry ∷ log) = λ i. sym (back entry) i ∷ all-back log i

  added-back : (verdict : Verdict) (author : ℕ) (pairs : List GivenPair) (earlier : List Stamp) (later : Stamp) → map oracle_entry_of (entries_added verdict author pairs earlier later) ≡ settled_if verdict (entries_of_settling author pairs earlier later)
  added-back (Committed number answers counts) author pairs earlier later = refl
  added-back (Conflict vertex newer) author pairs earlier later = refl
  added-back (Refused op reason at) author pairs earlier later = refl

  -- the log has the entries of the store's rule more
  pub log-is : (old new : List OracleEntry) (verdict : Verdict) (author : ℕ) (pairs : List GivenPair) (earlier : List Stamp) (later : Stamp)
      → map settled_entry new ≡ map settled_entry old ++ entries_added verdict author pairs earlier later
      → new ≡ old ++ settled_if verdict (entries_of_settling author pairs earlier later)
  log-is old new verdict author pairs earlier later is =
      all-back new ∙ ap (map oracle_entry_of) is ∙ map-append oracle_entry_of (map settled_entry old) (entries_added verdict author pairs earlier later)
      ∙ (λ i. sym (all-back old) i ++ added-back verdict author pairs earlier later i)

-- the entry of a request as its judgement
abbrev pub as-judged : Option StoreEntry → Option Judgement
as-judged o = option_map (λ (entry : StoreEntry). judged_by entry.author entry.deed) o

-- what isn't there is none
pub none-of : {A : Type 0} (o : Option A) → is_some o ≡ false → o ≡ None
none-of None none = refl
none-of (Some x) none = absurd (let e : true ≡ false = none in cc)

module _ (script : Script) (gates : GateTable) (store then_store : List StoreEntry) (oracle then_oracle : List OracleEntry) (home : ℕ)
    (flight : BegunRequest) (ops : List Op) (verdict : Verdict) (flies : flight_of (gate_log_at gates home) ≡ Some flight)
    (unjudged : judgement_of flight.request store ≡ None) (ops-are : ops ≡ ops_in_flight script flight)
    (verdict-is : verdict ≡ verdict_at (pairs_of_log oracle) store flight.stamp ops) where
  on-flight : verdict ≡ verdict_on_flight script store oracle flight
  on-flight = verdict-is ∙ ap (verdict_at (pairs_of_log oracle) store flight.stamp) ops-are

  -- a verdict on the flight, by the operations that were handed in
  pub judged-now : then_store ≡ store ++ judged_entry flight.author flight.request flight.stamp ops store verdict ∷ []
      → then_oracle ≡ oracle ++ settled_if verdict (entries_of_settling flight.author (pairs_of_log oracle) (asked_at store flight.stamp ops) flight.stamp)
      → IsJudgedNow script gates store then_store oracle then_oracle home
  judged-now store-is oracle-is = record {
    flight = flight;
    flies = flies;
    unjudged = unjudged;
    store_is = store-is ∙ (λ i. store ++ judged_entry flight.author flight.request flight.stamp (ops-are i) store (on-flight i) ∷ []);
    oracle_is = oracle-is ∙ (λ i. oracle ++ settled_if (on-flight i) (entries_of_settling flight.author (pairs_of_log oracle) (asked_at store flight.stamp (ops-are i)) flight.stamp));
  }
