-- The oracle is lent to a shard and comes back, in a hold of its lock.
-- Used by `visit_over` and `visit_with`.
use Rattle.std.proofs.Common.{◌≡◌, inl, inr, ℕ, zero, suc, List, [], ◌∷◌, ◌++◌, map, Contains, true, IsTrue, refl, sym, ap, ◌∙◌, subst, append-nil, take, false, None}
use Rattle.std.specs.Prelude.{Result, Ok, Err, OnErr, OnOk, IfErr, IfOk, IsSome}
use Rattle.std.proofs.lemmas.List.{map-append}
use Rattle.weave_data.proofs.Members.{has_head, has_none, has_read, has_tail, only}
use Rattle.weave_data.specs.declared.name.Name.{Name}
use Rattle.vector_stamp.specs.declared.clock.Stamp.{Stamp}
use Rattle.vector_stamp.specs.Precedence.{GivenPair}
use Rattle.vector_stamp.specs.Seeing.{last_seen, seen_of}
use Rattle.vector_stamp.specs.Settling.{SettledEntry, additions_from, places_of}
use Rattle.weave_entries.specs.declared.gate_log.GateEntry.{GateEntry}
use Rattle.weave_entries.specs.declared.oracle_log.OracleDeed.{OracleDeed}
use Rattle.weave_entries.specs.declared.oracle_log.OracleEntry.{OracleEntry}
use Rattle.weave_entries.specs.declared.shard_log.ShardEntry.{ShardEntry}
use Rattle.weave_entries.specs.OracleReplay.{oracle_entry_of, settled_entry, pairs_of_log}
use Rattle.weave_entries.specs.OracleRules.{IsOracleLog}
use Rattle.weave_entries.specs.ShardRules.{entries_of_visit, kept_stamps, last_read, is_judge_asked_by_visit, is_settled_by, pairs_after_visit, updates_read}
use Rattle.weave_account.specs.Account.{IsBegunStamp}
use Rattle.chronicle.specs.Logs.{Follows, Log, entries_of}
use Rattle.seen_logs.specs.Entries.{oracle_pair, oracle_pairs, oracle_entries}
use Rattle.oracle_lock.specs.Seen.{OracleIsKept, of_gates}
use Rattle.oracle_lock.proofs.CallEntries.{call-by, call-events, none-by, KeepsGained}
use Rattle.oracle_lock.proofs.Settling.{pairs_back}
use mathlib.Core.List.{IsPrefix}
use Rattle.graph_ops.specs.Operations.{State}
use Rattle.weave_entries.specs.declared.shard_log.ShardDeed.TheVariants.{Visited}
use Rattle.weave_entries.specs.ShardReplay.{first_unready, state_of_updates, updates_of}
use Rattle.shard_node.specs.Shards.{AddsEntry, IsRightlyUnread, ShardView}
use Rattle.shard_node.specs.declared.fault.VisitFault.{VisitFault}
use Rattle.shard_lock.specs.Visited.{VisitsOver}

-- What is asked of

last-in : (n : ℕ) (updates : List Stamp) (event : Stamp) → Contains (last_seen n updates) event → Contains updates event
last-in zero updates event h = absurd (has_none event h)
last-in (suc n) [] event h = absurd (has_none event h)
last-in (suc zero) (update ∷ updates) event h =
    subst (λ (s : Stamp). Contains (update ∷ updates) s) (only update event h) (has_head update updates)
last-in (suc (suc n)) (update ∷ updates) event h = has_tail update updates event (last-in (suc n) updates event h)

module _ (pairs : List GivenPair) (author : ℕ) (stamp : Stamp) (v : Name) (log : List ShardEntry) where
  abbrev asked : List Stamp
  asked = last_read pairs stamp v log

  abbrev entries : List SettledEntry
  entries = entries_of_visit pairs author stamp v log

  visit-events : (entry : SettledEntry) (event : Stamp) → Contains entries entry → Contains (entry.later ∷ entry.earlier) event
      → Contains (stamp ∷ kept_stamps v log) event
  visit-events entry event h has =
      elim (has_read stamp asked event (call-events author asked stamp (places_of (additions_from 0 pairs asked stamp)) entry event h has)) [
        | inl same ↦ subst (λ (s : Stamp). Contains (stamp ∷ kept_stamps v log) s) same (has_head stamp (kept_stamps v log))
        | inr one ↦ has_tail stamp (kept_stamps v log) event (last-in (seen_of pairs stamp (kept_stamps v log)) (kept_stamps v log) event one)
      ]

  module _ (before after : List OracleEntry)
      (log_is : (entries : List SettledEntry) → map settled_entry after ≡ map settled_entry before ++ entries → after ≡ before ++ map oracle_entry_of entries) where
    -- what a judge's log says of the oracle's
    pub logged : {A F : Type 0} (r : Result A F) → OnOk r (IsTrue true → map settled_entry after ≡ map settled_entry before ++ entries)
        → OnOk r (after ≡ before ++ map oracle_entry_of entries)
    logged (Ok state) h = log_is entries (h refl)
    logged (Err fault) h = tt

    -- if the visit failed and left the judge's log as it was, the oracle's log is as it was
    pub not-logged : {A F : Type 0} (r : Result A F) → OnErr r (IsTrue true → map settled_entry after ≡ map settled_entry before)
        → OnErr r (after ≡ before)
    not-logged (Ok state) h = tt
    not-logged (Err fault) h = log_is [] (h refl ∙ sym (append-nil (map settled_entry before))) ∙ append-nil before

    -- after a visit all that the oracle's entries refer to is still seen
    pub visited-keeps : {A F : Type 0} (shards : ℕ) (gates : List (List GateEntry))
        → KeepsGained shards gates before after → (r : Result A F) → OracleIsKept shards gates before
        → OnOk r (IsTrue true → map settled_entry after ≡ map settled_entry before ++ entries)
        → OnErr r (IsTrue true → map settled_entry after ≡ map settled_entry before) → IsOracleLog after
        → ((event : Stamp) → Contains (stamp ∷ kept_stamps v log) event → IsBegunStamp (of_gates gates) event)
        → OracleIsKept shards gates after
    visited-keeps {A} {F} shards gates keeps (Ok state) kept more same right begun =
        keeps entries (more refl) right (λ entry event h has. begun event (visit-events entry event h has))
    visited-keeps {A} {F} shards gates keeps (Err fault) kept more same right begun =
        subst (λ (l : List OracleEntry). OracleIsKept shards gates l) (sym (not-logged {A = A} (Err fault) same)) kept

-- The oracle's log in its hold

-- what a visit adds to the oracle's log is of its author
pub follows : {A F : Type 0} (number author : ℕ) (entered : Log OracleDeed) (before after : List OracleEntry) (pairs : List GivenPair)
    (stamp : Stamp) (v : Name) (log : List ShardEntry) (r : Result A F) → author ≡ number → entered ≡ oracle_pairs before
    → OnOk r (after ≡ before ++ map oracle_entry_of (entries_of_visit pairs author stamp v log)) → OnErr r (after ≡ before)
    → Follows number entered (oracle_pairs after)
follows number author entered before after pairs stamp v log (Ok state) same is logged kept =
    let more = map oracle_entry_of (entries_of_visit pairs author stamp v log) in
    let asked = last_read pairs stamp v log in (
      oracle_pairs more,
      ap (λ (l : Log OracleDeed). l ++ oracle_pairs more) is ∙ (sym (map-append oracle_pair before more)
          ∙ ap (λ (l : List OracleEntry). oracle_pairs l) (sym logged)),
      call-by number author asked stamp (places_of (additions_from 0 pairs asked stamp)) same,
    )
follows number author entered before after pairs stamp v log (Err fault) same is logged kept = (
  [],
  append-nil entered ∙ (is ∙ ap (λ (l : List OracleEntry). oracle_pairs l) (sym kept)),
  none-by number,
)

-- What the visit did

on-ok : {A F : Type 0} {P Q : Type 0} (r : Result A F) → (P → Q) → OnOk r P → OnOk r Q
on-ok (Ok a) go h = go h
on-ok (Err e) go h = tt

on-err : {A F : Type 0} {P Q : Type 0} (r : Result A F) → (P → Q) → OnErr r P → OnErr r Q
on-err (Ok a) go h = tt
on-err (Err e) go h = go h

-- what a visit does to which the oracle was lent, over the oracle's log before it and after it
pub record VisitsLent (author request : ℕ) (stamp : Stamp) (v : Name) (old new : ShardView)
    (before after : List OracleEntry)
    (result : Result State VisitFault) : Type 0 where
  pub ready : OnOk result (first_unready old.gates stamp old.log ≡ None)
  pub state : IfOk result (λ state. state
      ≡ state_of_updates (take (updates_read (pairs_of_log before) stamp v old.log) (updates_of v old.log)))
  pub entry : OnOk result (AddsEntry old new author (Visited request stamp v
      (updates_read (pairs_of_log before) stamp v old.log) (is_settled_by (pairs_of_log before) stamp v old.log)))
  pub logged : OnOk result (after ≡ before ++ map oracle_entry_of
      (entries_of_visit (pairs_of_log before) author stamp v old.log))
  pub pairs : OnOk result (pairs_of_log after ≡ pairs_after_visit (pairs_of_log before) stamp v old.log)
  pub not_ready : IsSome (first_unready old.gates stamp old.log) → after ≡ before
  pub not_asked : is_judge_asked_by_visit stamp v old.log ≡ false → after ≡ before
  pub refused : IfErr result (λ fault. IsRightlyUnread old.gates stamp old.log fault)
  pub unchanged : OnErr result (new ≡ old)
  pub oracle : OnErr result (after ≡ before)

module _ (number author request : ℕ) (stamp : Stamp) (v : Name) (old new : ShardView) (had own entered has : Log OracleDeed)
    (before after : List OracleEntry) (result : Result State VisitFault) (same : author ≡ number) (is : entered ≡ oracle_pairs before)
    (left : has ≡ oracle_pairs after) where
  abbrev pairs-before : List GivenPair
  pairs-before = pairs_of_log before

  still : after ≡ before → has ≡ oracle_pairs before
  still e = left ∙ ap (λ (l : List OracleEntry). oracle_pairs l) e

  -- a visit in this hold of the oracle's lock
  pub visited-over : IsPrefix had entered → entries_of number entered ≡ own
      → VisitsLent author request stamp v old new before after result
      → VisitsOver number request stamp v old new had own has before result
  visited-over begins own_then lent = record {
    begins = subst (λ (l : Log OracleDeed). IsPrefix had l) is begins;
    own_then = ap (λ (l : Log OracleDeed). entries_of number l) (sym is) ∙ own_then;
    ready = lent.ready;
    state = lent.state;
    entry = subst (λ (n : ℕ). OnOk result (AddsEntry old new n (Visited request stamp v (updates_read pairs-before stamp v old.log)
        (is_settled_by pairs-before stamp v old.log)))) same lent.entry;
    logged = on-ok result (λ e. left ∙ (ap (λ (l : List OracleEntry). oracle_pairs l) e
        ∙ ap (λ (n : ℕ). oracle_pairs (before ++ map oracle_entry_of
        (entries_of_visit pairs-before n stamp v old.log))) same)) lent.logged;
    pairs = on-ok result (λ e. ap (λ (l : Log OracleDeed). pairs_of_log (oracle_entries l)) left ∙ (ap (λ (l : List OracleEntry). pairs_of_log l)
        (pairs_back after) ∙ e)) lent.pairs;
    not_ready = λ some. still (lent.not_ready some);
    not_asked = λ none. still (lent.not_asked none);
    refused = lent.refused;
    unchanged = lent.unchanged;
    oracle = on-err result still lent.oracle;
  }
