-- A judgement under both locks: the logs go on, and what the store's judgements refer to is still seen.
-- Used by `commit` and `judge_over`.
use Rattle.std.proofs.Common.{◌≡◌, ℕ, List, [], ◌∷◌, ◌++◌, map, Contains, sym, ap, ◌∙◌, subst, append-nil}
use Rattle.std.specs.Prelude.{Result, Ok, Err, IfOk, OnErr}
use Rattle.std.proofs.lemmas.List.{map-append}
use mathlib.Core.List.{IsPrefix}
use Rattle.weave_data.proofs.Entries.{each_push}
use Rattle.graph_ops.specs.declared.op.Op.{Op}
use Rattle.vector_stamp.specs.declared.clock.Stamp.{Stamp}
use Rattle.vector_stamp.specs.Precedence.{GivenPair}
use Rattle.vector_stamp.specs.Settling.{additions_from, places_of}
use Rattle.weave_entries.specs.declared.gate_log.GateEntry.{GateEntry}
use Rattle.weave_entries.specs.declared.oracle_log.OracleDeed.{OracleDeed}
use Rattle.weave_entries.specs.declared.oracle_log.OracleEntry.{OracleEntry}
use Rattle.weave_entries.specs.declared.store_log.StoreEntry.{StoreEntry}
use Rattle.weave_entries.specs.declared.verdict.Verdict.{Verdict}
use Rattle.weave_entries.specs.declared.verdict.Verdict.TheVariants.{Committed, Conflict, Refused}
use Rattle.weave_entries.specs.Logs.{AtEachEntry}
use Rattle.weave_entries.specs.GateReplay.{txs_of}
use Rattle.weave_entries.specs.OracleReplay.{oracle_entry_of, pairs_of_log}
use Rattle.weave_entries.specs.OracleRules.{IsOracleLog}
use Rattle.weave_entries.specs.StoreRule.{IsStoreLog}
use Rattle.backing_store.specs.Commits.{asked_at, entries_added, judged_entry, pairs_added, verdict_at}
use Rattle.weave_account.specs.declared.account.Account.{Account}
use Rattle.weave_account.specs.Account.{gate_log}
use Rattle.weave_account.specs.GoesOn.{IsBeginningOf}
use Rattle.seen_logs.specs.References.{StoreRefersAs}
use Rattle.seen_logs.specs.Seen.{GatesGoOn, StoreRefersWithin}
use Rattle.chronicle.specs.Logs.{Log, Follows, entries_of}
use Rattle.chronicle.proofs.Logs.{prefix_trans}
use Rattle.lock_row.proofs.Lists.{mapped_on}
use Rattle.seen_logs.specs.Entries.{oracle_entries, oracle_pair, oracle_pairs, oracle_entry}
use Rattle.oracle_lock.specs.Seen.{of_gates}
use Rattle.oracle_lock.proofs.CallEntries.{AllBy, call-by, none-by}
use Rattle.oracle_lock.proofs.Settling.{pairs_back}
use Rattle.store_lock.specs.Judged.{JudgesOver}
use Rattle.store_lock.specs.Seen.{store_seen, StoreIsKept}
use Rattle.store_lock.specs.VerdictLaws.{VerdictLaws}
use Rattle.store_lock.proofs.Keeping.{Stays}
use Rattle.store_lock.proofs.Verdicts.{right-verdict}

-- The oracle's log in its hold

added-by : (number author : ℕ) (verdict : Verdict) (pairs : List GivenPair) (asked : List Stamp) (stamp : Stamp) → author ≡ number
    → AllBy number (oracle_pairs (map oracle_entry_of (entries_added verdict author pairs asked stamp)))
added-by number author (Committed n answers counts) pairs asked stamp same =
    call-by number author asked stamp (places_of (additions_from 0 pairs asked stamp)) same
added-by number author (Conflict vertex newer) pairs asked stamp same = none-by number
added-by number author (Refused op reason at) pairs asked stamp same = none-by number

-- what a judgement adds to the oracle's log is of its author
pub follows : {E : Type 0} (number author : ℕ) (entered : Log OracleDeed) (before after : List OracleEntry) (pairs : List GivenPair)
    (asked : List Stamp) (stamp : Stamp) (result : Result Verdict E) → author ≡ number → entered ≡ oracle_pairs before
    → IfOk result (λ verdict. after ≡ before ++ map oracle_entry_of (entries_added verdict author pairs asked stamp))
    → OnErr result (after ≡ before) → Follows number entered (oracle_pairs after)
follows number author entered before after pairs asked stamp (Ok verdict) same is logged kept =
    let more = map oracle_entry_of (entries_added verdict author pairs asked stamp) in (
      oracle_pairs more,
      ap (λ (l : Log OracleDeed). l ++ oracle_pairs more) is ∙ (sym (map-append oracle_pair before more)
          ∙ ap (λ (l : List OracleEntry). oracle_pairs l) (sym logged)),
      added-by number author verdict pairs asked stamp same,
    )
follows number author entered before after pairs asked stamp (Err fault) same is logged kept = (
  [],
  append-nil entered ∙ (is ∙ ap (λ (l : List OracleEntry). oracle_pairs l) (sym kept)),
  none-by number,
)

-- What the judgement did

if-ok : {A E : Type 0} {P Q : A → Type 0} (r : Result A E) → ((a : A) → P a → Q a) → IfOk r P → IfOk r Q
if-ok (Ok a) go h = go a h
if-ok (Err e) go h = tt

on-err : {A E : Type 0} {P Q : Type 0} (r : Result A E) → (P → Q) → OnErr r P → OnErr r Q
on-err (Ok a) go h = tt
on-err (Err e) go h = go h

-- what a judgement does in a hold of the oracle, over the oracle's log before it and after it
pub record Judges {E : Type 0} (author request : ℕ) (stamp : Stamp) (ops : List Op) (old new : List StoreEntry)
    (before after : List OracleEntry) (result : Result Verdict E) : Type 0 where
  pub verdict : IfOk result (λ verdict. verdict ≡ verdict_at (pairs_of_log before) old stamp ops)
  pub entry : IfOk result (λ verdict. new ≡ old ++ judged_entry author request stamp ops old verdict ∷ [])
  pub logged : IfOk result (λ verdict. after ≡ before
      ++ map oracle_entry_of (entries_added verdict author (pairs_of_log before) (asked_at old stamp ops) stamp))
  pub pairs : IfOk result (λ verdict. pairs_of_log after
      ≡ pairs_of_log before ++ pairs_added verdict (pairs_of_log before) (asked_at old stamp ops) stamp)
  pub store : OnErr result (new ≡ old)
  pub oracle : OnErr result (after ≡ before)

-- a judgement in this hold of the oracle's lock
pub judged-over : {E : Type 0} (number author request : ℕ) (stamp : Stamp) (ops : List Op) (old new : List StoreEntry)
    (had own entered has : Log OracleDeed) (before after : List OracleEntry) (result : Result Verdict E) → author ≡ number
    → entered ≡ oracle_pairs before → has ≡ oracle_pairs after → IsPrefix had entered → entries_of number entered ≡ own
    → Judges author request stamp ops old new before after result
    → JudgesOver number request stamp ops old new had own has before result
judged-over number author request stamp ops old new had own entered has before after result same is left begins own_then judges =
    let pairs = pairs_of_log before in
    let asked = asked_at old stamp ops in record {
      begins = subst (λ (l : Log OracleDeed). IsPrefix had l) is begins;
      own_then = ap (λ (l : Log OracleDeed). entries_of number l) (sym is) ∙ own_then;
      verdict = judges.verdict;
      entry = subst (λ (n : ℕ). IfOk result (λ verdict. new ≡ old ++ judged_entry n request stamp ops old verdict ∷ [])) same judges.entry;
      logged = if-ok result (λ verdict e. left ∙ (ap (λ (l : List OracleEntry). oracle_pairs l) e
          ∙ ap (λ (n : ℕ). oracle_pairs (before ++ map oracle_entry_of (entries_added verdict n pairs asked stamp))) same)) judges.logged;
      pairs = if-ok result (λ verdict e. ap (λ (l : Log OracleDeed). pairs_of_log (oracle_entries l)) left
          ∙ (ap (λ (l : List OracleEntry). pairs_of_log l) (pairs_back after) ∙ e)) judges.pairs;
      store = judges.store;
      oracle = on-err result (λ e. left ∙ ap (λ (l : List OracleEntry). oracle_pairs l) e) judges.oracle;
    }

-- Lists that go on

begins : (a b : Log OracleDeed) → IsPrefix a b → IsBeginningOf (oracle_entries a) (oracle_entries b)
begins = mapped_on oracle_entry

module _ (E : Type 0) (author request : ℕ) (stamp : Stamp) (ops : List Op) (old new : List StoreEntry) (had own has : Log OracleDeed)
    (before : List OracleEntry) where
  -- the oracle's log goes on
  goes-on : (result : Result Verdict E) → JudgesOver author request stamp ops old new had own has before result
      → IsPrefix (oracle_pairs before) has
  goes-on (Ok verdict) judges =
      let more = map oracle_entry_of (entries_added verdict author (pairs_of_log before) (asked_at old stamp ops) stamp) in
      (oracle_pairs more, sym (map-append oracle_pair before more) ∙ sym judges.logged)
  goes-on (Err fault) judges = ([], append-nil (oracle_pairs before) ∙ sym judges.oracle)

  -- a judgement since less had been seen
  pub judges-since : (result : Result Verdict E) (number : ℕ) (was : List StoreEntry) (first mine last : Log OracleDeed) → author ≡ number
      → old ≡ was → IsPrefix first had → own ≡ mine → has ≡ last → JudgesOver author request stamp ops old new had own has before result
      → JudgesOver number request stamp ops was new first mine last before result
  judges-since result number was first mine last author_is old_is on own_is has_is judges =
      let moved : JudgesOver author request stamp ops old new first own has before result = record {
        begins = prefix_trans first had (oracle_pairs before) on judges.begins;
        own_then = judges.own_then;
        verdict = judges.verdict;
        entry = judges.entry;
        logged = judges.logged;
        pairs = judges.pairs;
        store = judges.store;
        oracle = judges.oracle;
      } in
      subst (λ (z : ℕ × List StoreEntry × Log OracleDeed × Log OracleDeed). JudgesOver z.0 request stamp ops z.1 new first z.2 z.3 before result)
      (λ i. (author_is i, old_is i, own_is i, has_is i)) moved

  module _ (laws : VerdictLaws) (stays : Stays) (shards : ℕ) (gates : List (List GateEntry)) (noted : Log OracleDeed)
      (kept : StoreIsKept shards gates (oracle_entries noted) old) (on : IsPrefix noted had)
      (begun : (home : ℕ) × Contains (txs_of (gate_log (of_gates gates) home)) (record { author = author; request = request; stamp = stamp })) where
    abbrev seen : Account
    seen = store_seen gates (oracle_entries noted) old

    abbrev next : Account
    next = store_seen gates (oracle_entries has) new

    abbrev Refers : List StoreEntry → StoreEntry → Type 0
    Refers front entry = StoreRefersAs next front entry.author entry.deed

    gates-on : GatesGoOn seen next
    gates-on home = ([], sym (append-nil (gate_log (of_gates gates) home)))

    -- what the older judgements refer to is still seen
    older : IsPrefix (oracle_pairs before) has → IsPrefix had (oracle_pairs before) → AtEachEntry Refers old
    older more first front entry rest at =
        stays seen next gates-on (begins noted has
        (prefix_trans noted (oracle_pairs before) has (prefix_trans noted had (oracle_pairs before) on first) more))
        front entry.author entry.deed (kept.refers front entry rest at)

    refers : (result : Result Verdict E) → JudgesOver author request stamp ops old new had own has before result → StoreRefersWithin next
    refers (Ok verdict) judges =
        subst (λ (log : List StoreEntry). AtEachEntry Refers log) (sym judges.entry)
        (each_push Refers old (judged_entry author request stamp ops old verdict) (older (goes-on (Ok verdict) judges) judges.begins)
        (record {
          home = begun.0;
          begun = begun.1;
          right = right-verdict laws next (pairs_of_log before) old stamp ops verdict judges.verdict judges.pairs;
        }))
    refers (Err fault) judges =
        subst (λ (log : List StoreEntry). AtEachEntry Refers log) (sym judges.store) (older (goes-on (Err fault) judges) judges.begins)

    -- if the logs are legal after a judgement or its refusal, the store has still seen what its log refers to
    pub commit-keeps : (result : Result Verdict E) → JudgesOver author request stamp ops old new had own has before result → IsStoreLog new
        → IsOracleLog (oracle_entries has) → StoreIsKept shards gates (oracle_entries has) new
    commit-keeps result judges right oracle_right = record {
      refers = refers result judges;
      legal = record {
        gate_logs = kept.legal.gate_logs;
        hears = kept.legal.hears;
        store_log = right;
        oracle_log = oracle_right;
        shard_logs = kept.legal.shard_logs;
      };
    }
