-- At the end all entries refer to what is in the logs, and no two visits asked for one pair, since it is so of what
-- each
-- of the hands has seen.
-- Used by `closed_logs_refer_within`, `programs_read_what_was_seen`, ExampleRun and Reading.
use Rattle.std.proofs.Common.{◌≡◌, ◌≢◌, ℕ, ◌<◌, ◌≤◌, List, ◌∷◌, ◌++◌, length, Contains, IsTrue, inl, inr, refl, sym, ap, subst, arith}
use Rattle.std.proofs.lemmas.Bool.{cases_lt}
use Rattle.weave_data.proofs.Members.{flat_has, has_flat, drop_has}
use Rattle.weave_data.proofs.Ordered.{pairs_cases}
use Rattle.vector_stamp.specs.Order.{id_of}
use Rattle.weave_entries.specs.declared.gate_log.GateEntry.{GateEntry}
use Rattle.weave_entries.specs.declared.oracle_log.OracleEntry.{OracleEntry}
use Rattle.weave_entries.specs.declared.shard_log.ShardEntry.{ShardEntry}
use Rattle.weave_entries.specs.declared.store_log.StoreEntry.{StoreEntry}
use Rattle.weave_entries.specs.GateReplay.{BegunRequest, program_by, programs_of}
use Rattle.weave_entries.specs.ShardReplay.{Visit}
use Rattle.weave_entries.specs.ShardRules.{IsShardLog}
use Rattle.weave_account.specs.declared.account.Account.{Account}
use Rattle.weave_account.specs.Account.{all_begun, gate_log, shard_log}
use Rattle.weave_account.specs.Oracle.{seen_last}
use Rattle.weave_account.proofs.GoesOn.{has-on, longer, flat-on}
use Rattle.seen_logs.specs.LowerLaws.{LawsForSeenLogs}
use Rattle.seen_logs.specs.References.{GateRefersAs, IsAskedAsSeen, OracleRefersAs, ShardRefersAs, StoreRefersAs}
use Rattle.seen_logs.specs.Closed.{AreOfHands, IsOfHands}
use Rattle.seen_logs.specs.Seen.{AnswersFor, AreLegal, HasAsked, IsOwn, IsSeenByHand, entries_since, visit_entry}
use Rattle.seen_logs.proofs.Asking.{program-begun}
use Rattle.seen_logs.proofs.Going.{asked-stays, gate-stays, oracle-stays, shard-stays, store-stays}
use Rattle.seen_logs.proofs.Onward.{earlier-place}
use Rattle.seen_logs.proofs.Within.{itself}

-- a hand that has seen an entry and answers for it
record IsAnsweredBy {E : Type 0} (hands : ℕ) (start : List E) (seen_by : ℕ → List E) (before : List E) (author number : ℕ) : Type 0 where
  known : number < hands
  seen : length before < length (seen_by number)
  answers : AnswersFor number start before author

-- some hand is so
someone : {E : Type 0} (hands : ℕ) (start : List E) (seen_by : ℕ → List E) (before : List E) (author : ℕ) → 1 ≤ hands
    → length start ≤ length (seen_by 0) → IsOfHands hands start seen_by before author
    → (number : ℕ) × IsAnsweredBy hands start seen_by before author number
someone hands start seen_by before author some few (inl given) =
    (0, record { known = omega (arith, some); seen = omega (arith, few, given); answers = inr given })
someone hands start seen_by before author some few (inr own) =
    (author, record { known = own.0; seen = own.1; answers = inl refl })

-- what the lemmas on closed logs are given
pub record IsEnd (gates shards hands : ℕ) (start : Account) (seen_by : ℕ → Account) (closed : Account) : Type 0 where
  pub laws : LawsForSeenLogs
  pub few : length closed.gates ≤ 8
  pub legal : AreLegal gates shards closed
  pub of : AreOfHands shards hands start seen_by closed

module _ {gates shards hands : ℕ} {start : Account} {seen_by : ℕ → Account} {closed : Account} (end : IsEnd gates shards hands start seen_by closed) where
  laws : LawsForSeenLogs
  laws = end.laws

  legal : (shard : ℕ) → IsShardLog gates (shard_log closed shard)
  legal = end.legal.shard_logs

  of : AreOfHands shards hands start seen_by closed
  of = end.of

  -- the first hand
  first : IsSeenByHand shards 0 start (seen_by 0)
  first = of.seen 0 (let some = of.some in omega (arith, some))

  gate-entry : (home : ℕ) (before : List GateEntry) (entry : GateEntry) (after : List GateEntry) → gate_log closed home ≡ before ++ entry ∷ after
      → GateRefersAs closed shards before entry.author entry.deed
  gate-entry home before entry after at =
      let by = someone hands (gate_log start home) (λ number. gate_log (seen_by number) home) before entry.author of.some
      (longer _ _ (first.starts.gates home)) (of.gate_entries home before entry after at) in
      let on = of.within by.0 (by.1).known in
      let place = earlier-place (gate_log (seen_by by.0) home) (gate_log closed home) (on.gates home) before entry after at (by.1).seen in
      gate-stays laws (seen_by by.0) closed on.gates on.store on.shards gates legal shards before entry.author entry.deed
      ((of.seen by.0 (by.1).known).gate_entries home before entry place.0 place.1 (by.1).answers)

  store-entry : (before : List StoreEntry) (entry : StoreEntry) (after : List StoreEntry) → closed.store ≡ before ++ entry ∷ after
      → StoreRefersAs closed before entry.author entry.deed
  store-entry before entry after at =
      let by = someone hands start.store (λ number. (seen_by number).store) before entry.author of.some (longer _ _ first.starts.store)
      (of.store_entries before entry after at) in
      let on = of.within by.0 (by.1).known in
      let place = earlier-place (seen_by by.0).store closed.store on.store before entry after at (by.1).seen in
      store-stays laws (seen_by by.0) closed on.gates on.oracle before entry.author entry.deed
      ((of.seen by.0 (by.1).known).store_entries before entry place.0 place.1 (by.1).answers)

  oracle-entry : (before : List OracleEntry) (entry : OracleEntry) (after : List OracleEntry) → closed.oracle ≡ before ++ entry ∷ after
      → OracleRefersAs closed entry.deed × IsAskedAsSeen closed entry
  oracle-entry before entry after at =
      let by = someone hands start.oracle (λ number. (seen_by number).oracle) before entry.author of.some (longer _ _ first.starts.oracle)
      (of.oracle_entries before entry after at) in
      let on = of.within by.0 (by.1).known in
      let place = earlier-place (seen_by by.0).oracle closed.oracle on.oracle before entry after at (by.1).seen in
      let was = (of.seen by.0 (by.1).known).oracle_entries before entry place.0 place.1 (by.1).answers in
      (oracle-stays laws (seen_by by.0) closed on.gates entry.deed was.0, asked-stays laws (seen_by by.0) closed on.store on.shards gates legal entry was.1)

  shard-entry : (shard : ℕ) (before : List ShardEntry) (entry : ShardEntry) (after : List ShardEntry) → shard_log closed shard ≡ before ++ entry ∷ after
      → ShardRefersAs closed shards shard before entry.author entry.deed
  shard-entry shard before entry after at =
      let by = someone hands (shard_log start shard) (λ number. shard_log (seen_by number) shard) before entry.author of.some
      (longer _ _ (first.starts.shards shard)) (of.shard_entries shard before entry after at) in
      let on = of.within by.0 (by.1).known in
      let place = earlier-place (shard_log (seen_by by.0) shard) (shard_log closed shard) (on.shards shard) before entry after at (by.1).seen in
      shard-stays laws (seen_by by.0) closed on.gates on.store on.oracle shards shard before entry.author entry.deed
      ((of.seen by.0 (by.1).known).shard_entries shard before entry place.0 place.1 (by.1).answers)

  -- Visits that asked

  -- a visit that one of the hands made and has seen
  pub record IsOfHand (shard : ℕ) (before : List ShardEntry) (author : ℕ) : Type 0 where
    pub known : author < hands
    pub less : length before < length (shard_log (seen_by author) shard)
    pub own : IsOwn author (shard_log start shard) before author

  asked-by : (number shard : ℕ) (before : List ShardEntry) (visit : Visit) (after : List ShardEntry) → number < hands
      → shard_log closed shard ≡ before ++ visit_entry visit ∷ after → IsTrue visit.settled
      → length before < length (shard_log (seen_by number) shard) → AnswersFor number (shard_log start shard) before visit.author
      → HasAsked number start (seen_by number) shard before visit
  asked-by number shard before visit after known at marked less answers =
      let on = of.within number known in
      let place = earlier-place (shard_log (seen_by number) shard) (shard_log closed shard) (on.shards shard) before (visit_entry visit) after at less in
      record { after = place.0; at = place.1; answers = answers; marked = marked }

  -- a visit at the start has asked by what each hand has seen
  at-start : (number shard : ℕ) (before : List ShardEntry) (visit : Visit) (after : List ShardEntry) → number < hands
      → shard_log closed shard ≡ before ++ visit_entry visit ∷ after → IsTrue visit.settled
      → length before < length (shard_log start shard) → HasAsked number start (seen_by number) shard before visit
  at-start number shard before visit after known at marked given =
      let all = longer _ _ ((of.seen number known).starts.shards shard) in
      asked-by number shard before visit after known at marked (omega (arith, given, all)) (inr given)

  -- any other entry is one that its author has seen
  pub since-start : (shard : ℕ) (before : List ShardEntry) (entry : ShardEntry) (after : List ShardEntry)
      → shard_log closed shard ≡ before ++ entry ∷ after → length (shard_log start shard) ≤ length before
      → IsOfHand shard before entry.author
  since-start shard before entry after at new =
      elim (of.shard_entries shard before entry after at) [
        | inl given ↦ absurd (omega (arith, new, given))
        | inr own ↦ record { known = own.0; less = own.1; own = (refl, new) }
      ]

  by-author : (shard : ℕ) (before : List ShardEntry) (visit : Visit) (after : List ShardEntry)
      → shard_log closed shard ≡ before ++ visit_entry visit ∷ after → IsTrue visit.settled → IsOfHand shard before visit.author
      → HasAsked visit.author start (seen_by visit.author) shard before visit
  by-author shard before visit after at marked is-of = asked-by visit.author shard before visit after is-of.known at marked is-of.less (inl refl)

  -- the program of such a visit was begun by its author, since the start
  pub begun-since : (shard : ℕ) (before : List ShardEntry) (visit : Visit) (after : List ShardEntry)
      → shard_log closed shard ≡ before ++ visit_entry visit ∷ after → IsOfHand shard before visit.author
      → (home : ℕ) × Contains (programs_of (entries_since (gate_log start home) (gate_log (seen_by visit.author) home)))
      (record { author = visit.author; request = visit.request; stamp = visit.stamp })
  begun-since shard before visit after at is-of =
      let on = of.within visit.author is-of.known in
      let place = earlier-place (shard_log (seen_by visit.author) shard) (shard_log closed shard) (on.shards shard) before
      (visit_entry visit) after at is-of.less in
      of.own_visits visit.author is-of.known shard before (visit_entry visit) place.0 place.1 is-of.own

  -- what a hand began since the start is among all
  pub since-begun : (number : ℕ) → number < hands → (home : ℕ) (begun : BegunRequest)
      → Contains (programs_of (entries_since (gate_log start home) (gate_log (seen_by number) home))) begun → Contains (all_begun closed) begun
  since-begun number known home begun h =
      let on = of.within number known in
      let log = gate_log (seen_by number) home in
      let entry = flat_has (λ (e : GateEntry). program_by e.author e.deed) (entries_since (gate_log start home) log) begun h in
      let there = has_flat (λ (e : GateEntry). program_by e.author e.deed) log entry.0 begun
      (drop_has (length (gate_log start home)) log entry.0 entry.1) entry.2 in
      program-begun closed home begun
      (has-on (programs_of log) (programs_of (gate_log closed home))
      (flat-on (λ (e : GateEntry). program_by e.author e.deed) log (gate_log closed home) (on.gates home)) begun there)

  -- so visits for programs of one stamp are of one hand
  same-author : (shard other : ℕ) (before rest : List ShardEntry) (a b : Visit) (after later : List ShardEntry)
      → shard_log closed shard ≡ before ++ visit_entry a ∷ after → shard_log closed other ≡ rest ++ visit_entry b ∷ later
      → IsOfHand shard before a.author → IsOfHand other rest b.author → a.stamp ≡ b.stamp → a.author ≡ b.author
  same-author shard other before rest a b after later at_a at_b of_a of_b stamps =
      let first = begun-since shard before a after at_a of_a in
      let second = begun-since other rest b later at_b of_b in
      elim (pairs_cases (λ (x y : BegunRequest). id_of x.stamp ≢ id_of y.stamp) (all_begun closed) (laws.seen_ids shards closed end.few end.legal.gate_logs) _ _
      (since-begun a.author of_a.known first.0 _ first.1) (since-begun b.author of_b.known second.0 _ second.1)) [
        | inl one ↦ ap (λ (x : BegunRequest). x.author) one
        | inr (inl differ) ↦ absurd (differ (ap id_of stamps))
        | inr (inr differ) ↦ absurd (differ (sym (ap id_of stamps)))
      ]

  once : (shard other : ℕ) (before rest : List ShardEntry) (a b : Visit) (after later : List ShardEntry)
      → shard_log closed shard ≡ before ++ visit_entry a ∷ after → shard_log closed other ≡ rest ++ visit_entry b ∷ later
      → IsTrue a.settled → IsTrue b.settled → a.stamp ≡ b.stamp → seen_last before a ≡ seen_last rest b
      → (shard ≡ other) × (length before ≡ length rest)
  once shard other before rest a b after later at_a at_b marked_a marked_b stamps lasts =
      elim (cases_lt (length before) (length (shard_log start shard))) [
        | inl a_given ↦ elim (cases_lt (length rest) (length (shard_log start other))) [
          | inl b_given ↦
              let known : 0 < hands = let some = of.some in omega (arith, some) in
              first.asks_once shard other before rest a b (at-start 0 shard before a after known at_a marked_a a_given)
              (at-start 0 other rest b later known at_b marked_b b_given) stamps lasts
          | inr b_new ↦
              let of_b = since-start other rest (visit_entry b) later at_b b_new in
              (of.seen b.author of_b.known).asks_once shard other before rest a b
              (at-start b.author shard before a after of_b.known at_a marked_a a_given) (by-author other rest b later at_b marked_b of_b) stamps lasts
        ]
        | inr a_new ↦
            let of_a = since-start shard before (visit_entry a) after at_a a_new in
            let asked_a = by-author shard before a after at_a marked_a of_a in
            elim (cases_lt (length rest) (length (shard_log start other))) [
              | inl b_given ↦
                  (of.seen a.author of_a.known).asks_once shard other before rest a b asked_a
                  (at-start a.author other rest b later of_a.known at_b marked_b b_given) stamps lasts
              | inr b_new ↦
                  let of_b = since-start other rest (visit_entry b) later at_b b_new in
                  let same = same-author shard other before rest a b after later at_a at_b of_a of_b stamps in
                  let asked_b = by-author other rest b later at_b marked_b of_b in
                  let moved : HasAsked a.author start (seen_by a.author) other rest b = subst
                  (λ number. HasAsked number start (seen_by number) other rest b) (sym same) asked_b in
                  (of.seen a.author of_a.known).asks_once shard other before rest a b asked_a moved stamps lasts
            ]
      ]

  -- the logs are what a hand has seen that starts with them
  pub hand-after : (number : ℕ) → IsSeenByHand shards number closed closed
  hand-after number =
      record {
        starts = itself closed;
        gate_entries = λ home before entry after at mine. gate-entry home before entry after at;
        store_entries = λ before entry after at mine. store-entry before entry after at;
        oracle_entries = λ before entry after at mine. oracle-entry before entry after at;
        shard_entries = λ shard before entry after at mine. shard-entry shard before entry after at;
        asks_once = λ shard other before rest a b asked_a asked_b stamps lasts.
            once shard other before rest a b asked_a.after asked_b.after asked_a.at asked_b.at asked_a.marked asked_b.marked stamps lasts;
      }
