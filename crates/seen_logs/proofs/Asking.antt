-- In an account no two visits asked for one pair, so an account is what a hand may have seen.
-- Used by `accounts_refer_within`, Closing, MakesAccount and Reading.
use Rattle.std.proofs.Common.{◌≡◌, ◌≢◌, ℕ, ◌<◌, List, [], ◌∷◌, ◌++◌, length, map, Contains, IsTrue, AllPairs, inl, inr, refl, sym, ap, subst, ◌∙◌}
use Rattle.std.specs.List.{filter}
use Rattle.std.proofs.lemmas.Bool.{cases_order}
use Rattle.std.proofs.lemmas.Bool.Decides.{eqb_tells}
use Rattle.std.proofs.lemmas.List.{map-append}
use Rattle.std.proofs.lemmas.List.Concat.{flat_map-append}
use Rattle.std.proofs.lemmas.List.Elements.{Contains-append_right, filter-append}
use Rattle.weave_data.proofs.Members.{flat_has, has_cut, has_filter, has_flat, has_head, has_map}
use Rattle.weave_data.proofs.Ordered.{pairs_across}
use Rattle.vector_stamp.specs.declared.clock.Stamp.{Stamp}
use Rattle.vector_stamp.specs.Order.{id_of}
use Rattle.program_defs.specs.declared.script.Script.{Script}
use Rattle.program_defs.specs.Limits.{IsWithinLimits}
use Rattle.weave_entries.specs.declared.gate_log.GateEntry.{GateEntry}
use Rattle.weave_entries.specs.declared.shard_log.ShardEntry.{ShardEntry}
use Rattle.weave_entries.specs.GateReplay.{BegunRequest, begun_by, begun_in, program_by, programs_of, tx_by}
use Rattle.weave_entries.specs.ShardReplay.{Visit, visit_by, visits_of}
use Rattle.weave_entries.specs.ShardRules.{IsShardLog}
use Rattle.weave_account.specs.declared.account.Account.{Account}
use Rattle.weave_account.specs.Account.{all_begun, gate_log, shard_log}
use Rattle.weave_account.specs.IsAccount.{IsAccount}
use Rattle.weave_account.specs.Oracle.{marked_in, seen_last}
use Rattle.weave_account.specs.Shards.{IsRightVisit}
use Rattle.weave_account.proofs.Beginning.{list-there}
use Rattle.seen_logs.specs.LowerLaws.{LawsForSeenLogs}
use Rattle.seen_logs.specs.Seen.{HasAsked, IsSeenByHand, visit_entry, without_sessions}
use Rattle.seen_logs.proofs.Going.{asked-stays, gate-stays, oracle-stays, shard-stays, store-stays}
use Rattle.seen_logs.proofs.OfAccount.{gate-refers, last-before, oracle-refers, shard-refers, store-refers}
use Rattle.seen_logs.proofs.Placed.{earlier, list-within, lists-across}
use Rattle.seen_logs.proofs.Within.{itself}

-- what a visit asked for: its program, and what it saw last
abbrev pub what-asked : List ShardEntry → Visit → ℕ × List Stamp
what-asked log visit = (visit.request, seen_last log visit)

-- the marked visits of these entries, by what they saw last up to the end of a log
abbrev pub marked-of : List ShardEntry → List ShardEntry → List (ℕ × List Stamp)
marked-of log entries = map (what-asked log) (filter (λ (visit : Visit). visit.settled) (visits_of entries))

-- the marked visits of entries and of more entries after them are those of the first, then those of the others
pub marked-append : (log xs ys : List ShardEntry) → marked-of log (xs ++ ys) ≡ marked-of log xs ++ marked-of log ys
marked-append log xs ys =
    ap (λ vs. map (what-asked log) (filter (λ (visit : Visit). visit.settled) vs)) (flat_map-append (λ (e : ShardEntry). visit_by e.author e.deed) xs ys)
    ∙ ap (map (what-asked log)) (filter-append (λ (visit : Visit). visit.settled) (visits_of xs) (visits_of ys))
    ∙ map-append (what-asked log) (filter (λ (visit : Visit). visit.settled) (visits_of xs)) (filter (λ (visit : Visit). visit.settled) (visits_of ys))

marked-there : (log before : List ShardEntry) (visit : Visit) (after : List ShardEntry) → IsTrue visit.settled
    → Contains (marked-of log (before ++ visit_entry visit ∷ after)) (what-asked log visit)
marked-there log before visit after marked =
    has_map (what-asked log) (filter (λ (v : Visit). v.settled) (visits_of (before ++ visit_entry visit ∷ after))) visit
    (has_filter (λ (v : Visit). v.settled) (visits_of (before ++ visit_entry visit ∷ after)) visit
    (has_flat (λ (e : ShardEntry). visit_by e.author e.deed) (before ++ visit_entry visit ∷ after) (visit_entry visit) visit
    (has_cut before (visit_entry visit) after) (has_head visit [])) marked)

-- two marked visits at different places of one log asked for different things
in-turn : (log before rest after later : List ShardEntry) (a b : Visit) → AllPairs (λ (x y : ℕ × List Stamp). x ≢ y) (marked_in log)
    → log ≡ before ++ visit_entry a ∷ after → log ≡ rest ++ visit_entry b ∷ later → IsTrue a.settled → IsTrue b.settled
    → length before < length rest → what-asked log a ≢ what-asked log b
in-turn log before rest after later a b pairs at_a at_b marked_a marked_b less =
    let mid = earlier before rest after later (visit_entry a) (visit_entry b) (sym at_a ∙ at_b) less in
    let parts : marked-of log log ≡ marked-of log rest ++ marked-of log (visit_entry b ∷ later) =
    ap (marked-of log) at_b ∙ marked-append log rest (visit_entry b ∷ later) in
    pairs_across (λ (x y : ℕ × List Stamp). x ≢ y) (marked-of log rest) (marked-of log (visit_entry b ∷ later)) (what-asked log a) (what-asked log b)
    (subst (AllPairs (λ (x y : ℕ × List Stamp). x ≢ y)) parts pairs)
    (subst (λ l. Contains (marked-of log l) (what-asked log a)) (sym mid.1) (marked-there log before a mid.0 marked_a))
    (marked-there log [] b later marked_b)

-- a program that was begun at a gatekeeper was begun
pub program-begun : (account : Account) (home : ℕ) (begun : BegunRequest) → Contains (programs_of (gate_log account home)) begun
    → Contains (all_begun account) begun
program-begun account home begun h =
    let from = flat_has (λ (e : GateEntry). program_by e.author e.deed) (gate_log account home) begun h in
    has_flat begun_in account.gates (gate_log account home) begun (list-there account.gates home from.0 from.1)
    (has_flat (λ (e : GateEntry). begun_by e.author e.deed) (gate_log account home) from.0 begun from.1
    (Contains-append_right (tx_by (from.0).author (from.0).deed) (program_by (from.0).author (from.0).deed) begun from.2))

module _ (laws : LawsForSeenLogs) (script : Script) (account : Account) (limits : IsWithinLimits script) (is : IsAccount script account)
    (legal : (shard : ℕ) → IsShardLog script.gates (shard_log account shard)) where
  -- a visit at its place in a log
  record IsAt (shard : ℕ) (before : List ShardEntry) (visit : Visit) : Type 0 where
    after : List ShardEntry
    at : shard_log account shard ≡ before ++ visit_entry visit ∷ after
    marked : IsTrue visit.settled

  right-visit : (shard : ℕ) (before : List ShardEntry) (visit : Visit) → IsAt shard before visit
      → IsRightVisit script account shard before visit.request visit.stamp visit.vertex visit.updates
  right-visit shard before visit is-at = is.shards.deeds shard before (visit_entry visit) is-at.after is-at.at

  last-there : (shard : ℕ) (before : List ShardEntry) (visit : Visit) → IsAt shard before visit
      → seen_last (shard_log account shard) visit ≡ seen_last before visit
  last-there shard before visit is-at =
      last-before laws script account limits is legal shard before (visit_entry visit ∷ is-at.after) is-at.at visit
      (right-visit shard before visit is-at).applied

  -- visits of one stamp are of one program
  same-program : (shard other : ℕ) (before rest : List ShardEntry) (a b : Visit) → IsAt shard before a → IsAt other rest b
      → a.stamp ≡ b.stamp → a.request ≡ b.request
  same-program shard other before rest a b at_a at_b stamps =
      let right_a = right-visit shard before a at_a in
      let right_b = right-visit other rest b at_b in
      elim (eqb_tells a.request b.request) [
        | inl same ↦ same.1
        | inr differ ↦ absurd (laws.ids script account limits is
            (record { author = right_a.author; request = a.request; stamp = a.stamp })
            (record { author = right_b.author; request = b.request; stamp = b.stamp })
            (program-begun account right_a.home _ right_a.begun) (program-begun account right_b.home _ right_b.begun) differ.1 (ap id_of stamps))
      ]

  same-asked : (shard other : ℕ) (before rest : List ShardEntry) (a b : Visit) → IsAt shard before a → IsAt other rest b
      → a.stamp ≡ b.stamp → seen_last before a ≡ seen_last rest b
      → what-asked (shard_log account shard) a ≡ what-asked (shard_log account other) b
  same-asked shard other before rest a b at_a at_b stamps lasts =
      let requests = same-program shard other before rest a b at_a at_b stamps in
      let seen = last-there shard before a at_a ∙ lasts ∙ sym (last-there other rest b at_b) in
      λ i. (requests i, seen i)

  there : (shard : ℕ) (before : List ShardEntry) (visit : Visit) → IsAt shard before visit
      → Contains (marked_in (shard_log account shard)) (what-asked (shard_log account shard) visit)
  there shard before visit is-at =
      subst (λ l. Contains (marked-of (shard_log account shard) l) (what-asked (shard_log account shard) visit)) (sym is-at.at)
      (marked-there (shard_log account shard) before visit is-at.after is-at.marked)

  -- no visit in an earlier shard asked for the same
  not-earlier : (shard other : ℕ) (before rest : List ShardEntry) (a b : Visit) → IsAt shard before a → IsAt other rest b
      → a.stamp ≡ b.stamp → seen_last before a ≡ seen_last rest b → ¬ (shard < other)
  not-earlier shard other before rest a b at_a at_b stamps lasts less =
      lists-across (λ (x y : ℕ × List Stamp). x ≢ y) marked_in refl account.shards is.oracle.once shard other less _ _
      (there shard before a at_a) (there other rest b at_b) (same-asked shard other before rest a b at_a at_b stamps lasts)

  -- nor one at an earlier place of the same shard
  not-before : (shard other : ℕ) (before rest : List ShardEntry) (a b : Visit) → IsAt shard before a → IsAt other rest b
      → a.stamp ≡ b.stamp → seen_last before a ≡ seen_last rest b → shard ≡ other → ¬ (length before < length rest)
  not-before shard other before rest a b at_a at_b stamps lasts same less =
      let log = shard_log account shard in
      let moved : IsAt shard rest b = subst (λ k. IsAt k rest b) (sym same) at_b in
      in-turn log before rest at_a.after moved.after a b
      (list-within (λ (x y : ℕ × List Stamp). x ≢ y) marked_in refl account.shards is.oracle.once shard)
      at_a.at moved.at at_a.marked moved.marked less (same-asked shard shard before rest a b at_a moved stamps lasts)

  once : (shard other : ℕ) (before rest : List ShardEntry) (a b : Visit) → IsAt shard before a → IsAt other rest b
      → a.stamp ≡ b.stamp → seen_last before a ≡ seen_last rest b → (shard ≡ other) × (length before ≡ length rest)
  once shard other before rest a b at_a at_b stamps lasts =
      elim (cases_order shard other) [
        | inr (inl first) ↦ absurd (not-earlier shard other before rest a b at_a at_b stamps lasts first)
        | inr (inr second) ↦ absurd (not-earlier other shard rest before b a at_b at_a (sym stamps) (sym lasts) second)
        | inl same ↦ (
          same,
          elim (cases_order (length before) (length rest)) [
            | inl lengths ↦ lengths
            | inr (inl first) ↦ absurd (not-before shard other before rest a b at_a at_b stamps lasts same first)
            | inr (inr second) ↦ absurd (not-before other shard rest before b a at_b at_a (sym stamps) (sym lasts) (sym same) second)
          ],
        )
      ]

  of-asked : (number shard : ℕ) (before : List ShardEntry) (visit : Visit) → HasAsked number (without_sessions account)
      (without_sessions account) shard before visit → IsAt shard before visit
  of-asked number shard before visit asked = record { after = asked.after; at = asked.at; marked = asked.marked }

  -- an account without its sessions is what each hand has seen that starts with it
  pub hand-sees : (number : ℕ) → IsSeenByHand script.shards number (without_sessions account) (without_sessions account)
  hand-sees number =
      let logs = without_sessions account in
      let on = itself account in
      record {
        starts = itself logs;
        gate_entries = λ home before entry after at mine.
            gate-stays laws account logs on.gates on.store on.shards script.gates legal script.shards before entry.author entry.deed
            (gate-refers laws script account limits is home before entry after at);
        store_entries = λ before entry after at mine.
            store-stays laws account logs on.gates on.oracle before entry.author entry.deed (store-refers laws script account limits is before entry after at);
        oracle_entries = λ before entry after at mine. (
          oracle-stays laws account logs on.gates entry.deed (oracle-refers laws script account limits is before entry after at),
          asked-stays laws account logs on.store on.shards script.gates legal entry
              (is.oracle.asked entry (subst (λ l. Contains l entry) (sym at) (has_cut before entry after))),
        );
        shard_entries = λ shard before entry after at mine.
            shard-stays laws account logs on.gates on.store on.oracle script.shards shard before entry.author entry.deed
            (shard-refers laws script account limits is legal shard before entry after at);
        asks_once = λ shard other before rest a b asked_a asked_b stamps lasts.
            once shard other before rest a b (of-asked number shard before a asked_a) (of-asked number other rest b asked_b) stamps lasts;
      }
