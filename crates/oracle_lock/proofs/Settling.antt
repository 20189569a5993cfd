-- What the oracle's entries speak of was begun, and stays so when it is asked.
-- Used by `known_events_are_begun`, `lend`, `meet`, `pairs_tell_entries`, `settling_keeps` and crates shard_lock,
-- store_lock and weaver_locks.
use Rattle.std.proofs.Common.{◌≡◌, ◌⊎◌, ℕ, ◌≤◌, List, [], ◌∷◌, ◌++◌, length, map, Contains, Option, None, Some, inl, inr, refl, sym, ap, ◌∙◌, subst, arith}
use Rattle.std.specs.Prelude.{slice_get}
use Rattle.std.specs.Option.{option_map}
use Rattle.std.proofs.lemmas.List.{length-append, length-map, map-append}
use Rattle.std.proofs.lemmas.List.Elements.{Contains-append_cases}
use Rattle.weave_data.proofs.Images.{get-has, made-back}
use Rattle.weave_data.proofs.Members.{cut_at, flat_has, has_cut, has_head, has_tail, map_has, filter_map_has}
use Rattle.vector_stamp.specs.declared.clock.Stamp.{Stamp}
use Rattle.vector_stamp.specs.Coherence.{AreCoherent}
use Rattle.vector_stamp.specs.Precedence.{GivenPair}
use Rattle.vector_stamp.specs.Settling.{SettledEntry}
use Rattle.order_graph.specs.Building.{ends_of}
use Rattle.weave_entries.specs.declared.gate_log.GateEntry.{GateEntry}
use Rattle.weave_entries.specs.declared.oracle_log.OracleEntry.{OracleEntry}
use Rattle.weave_entries.specs.declared.oracle_log.OracleDeed.{OracleDeed}
use Rattle.weave_entries.specs.declared.oracle_log.OracleDeed.TheVariants.{Settled}
use Rattle.weave_entries.specs.OracleReplay.{oracle_entry_of, pairs_of_entry, pairs_of_log, settled_by, settled_entry}
use Rattle.weave_entries.specs.OracleRules.{IsOracleLog}
use Rattle.weave_entries.specs.GateRules.{IsGateLog}
use Rattle.weave_entries.specs.ShardRules.{IsShardLog}
use Rattle.weave_account.specs.declared.account.Account.{Account}
use Rattle.weave_account.specs.Account.{IsBegunStamp, begun_stamps, gate_log, shard_log}
use Rattle.seen_logs.specs.References.{OracleRefersAs}
use Rattle.seen_logs.specs.Seen.{GatesGoOn, OracleRefersWithin}
use Rattle.seen_logs.specs.Entries.{oracle_entries, oracle_pairs, gate_entries}
use Rattle.weave_entries.specs.declared.gate_log.GateDeed.{GateDeed}
use Rattle.chronicle.specs.declared.note.Note.{Note}
use Rattle.chronicle.specs.Passes.{lock_noted, seen_by_note}
use Rattle.oracle_lock.specs.Seen.{gates_noted, of_gates, oracle_seen, AreGateLogs, OracleIsKept}

-- the entries come back from the pairs that the lock has
pub pairs_back : (log : List OracleEntry) → oracle_entries (oracle_pairs log) ≡ log
pairs_back [] = refl
pairs_back (entry ∷ log) = ap (λ (l : List OracleEntry). entry ∷ l) (pairs_back log)

-- Pairs

of-event : (earlier : List Stamp) (later : Stamp) (place : ℕ) (pair : GivenPair) (o : Option Stamp) → slice_get earlier place ≡ o
    → option_map (λ (event : Stamp). (event, later)) o ≡ Some pair → Contains earlier pair.0 × (later ≡ pair.1)
of-event earlier later place pair None e is = cc
of-event earlier later place pair (Some event) e is =
    let same : (event, later) ≡ pair = cc in (
      subst (λ (s : Stamp). Contains earlier s) (ap (λ (g : GivenPair). g.0) same) (get-has earlier place event e),
      ap (λ (g : GivenPair). g.1) same,
    )

-- a pair of an entry is of its events
pair-of : (entry : SettledEntry) (pair : GivenPair) → Contains (pairs_of_entry entry) pair → Contains entry.earlier pair.0 × (entry.later ≡ pair.1)
pair-of entry pair h =
    let from = filter_map_has (λ (place : ℕ). option_map (λ (event : Stamp). (event, entry.later))
    (slice_get entry.earlier place)) entry.places pair h in
    of-event entry.earlier entry.later from.0 pair (slice_get entry.earlier from.0) refl from.2

-- Entries

-- the events of an entry
abbrev events_of : SettledEntry → List Stamp
events_of entry = entry.later ∷ entry.earlier

told : (gates : List (List GateEntry)) (log : List OracleEntry) (author : ℕ) (deed : OracleDeed) → OracleRefersAs (oracle_seen gates log) deed
    → (event : Stamp) → Contains (events_of (settled_by author deed)) event → IsBegunStamp (of_gates gates) event
told gates log author (Settled earlier later places) refers event h = refers event h

tell : (gates : List (List GateEntry)) (log : List OracleEntry) (author : ℕ) (deed : OracleDeed)
    → ((event : Stamp) → Contains (events_of (settled_by author deed)) event → IsBegunStamp (of_gates gates) event)
    → OracleRefersAs (oracle_seen gates log) deed
tell gates log author (Settled earlier later places) begun = λ event h. begun event h

-- each event of an entry was begun
entry-begun : (gates : List (List GateEntry)) (log : List OracleEntry) → OracleRefersWithin (oracle_seen gates log) → (entry : OracleEntry)
    → Contains log entry → (event : Stamp) → Contains (events_of (settled_entry entry)) event → IsBegunStamp (of_gates gates) event
entry-begun gates log refers entry h event has =
    let cut = cut_at log entry h in
    told gates log entry.author entry.deed (refers cut.before entry cut.after cut.is) event has

module _ (no_others : (pairs : List GivenPair) (stamp : Stamp) → Contains (ends_of pairs) stamp
    → (pair : GivenPair) × Contains pairs pair × ((pair.0 ≡ stamp) ⊎ (pair.1 ≡ stamp))) where
  -- and so was each event that the pairs join
  pub known-begun : (gates : List (List GateEntry)) (log : List OracleEntry) → OracleRefersWithin (oracle_seen gates log) → (event : Stamp)
      → Contains (ends_of (pairs_of_log log)) event → IsBegunStamp (of_gates gates) event
  known-begun gates log refers event h =
      let pair = no_others (pairs_of_log log) event h in
      let entry = flat_has (λ (e : OracleEntry). pairs_of_entry (settled_entry e)) log pair.0 pair.1 in
      let of = pair-of (settled_entry entry.0) pair.0 entry.2 in
      entry-begun gates log refers entry.0 entry.1 event
      (elim pair.2 [
        | inl first ↦ has_tail (settled_entry entry.0).later (settled_entry entry.0).earlier event
            (subst (λ (s : Stamp). Contains (settled_entry entry.0).earlier s) first of.0)
        | inr second ↦ subst (λ (s : Stamp). Contains (events_of (settled_entry entry.0)) s) (of.1 ∙ second)
            (has_head (settled_entry entry.0).later (settled_entry entry.0).earlier)
      ])

  module _ (coherent : (shards : ℕ) (seen : Account) → length seen.gates ≤ 8
      → ((home : ℕ) → IsGateLog home shards (gate_log seen home))
      → AreCoherent (begun_stamps seen))
      (part : (stamps others : List Stamp) → AreCoherent others
      → ((stamp : Stamp) → Contains stamps stamp → Contains others stamp)
      → AreCoherent stamps) where
    -- with others that were begun they are coherent
    pub known-coherent : (shards : ℕ) (gates : List (List GateEntry)) (log : List OracleEntry) (events : List Stamp)
        → OracleIsKept shards gates log → length gates ≤ 8
        → ((event : Stamp) → Contains events event → IsBegunStamp (of_gates gates) event)
        → AreCoherent (events ++ ends_of (pairs_of_log log))
    known-coherent shards gates log events kept few begun =
        part (events ++ ends_of (pairs_of_log log)) (begun_stamps (of_gates gates)) (coherent shards (of_gates gates) few kept.legal.gate_logs)
        (λ event h. elim (Contains-append_cases events (ends_of (pairs_of_log log)) event h) [
          | inl one ↦ begun event one
          | inr known ↦ known-begun gates log kept.refers event known
        ])

-- The log goes on

module _ (back : (entry : OracleEntry) → oracle_entry_of (settled_entry entry) ≡ entry) where
  -- what a judge's log says of the oracle's
  pub log-is : (before after : List OracleEntry) (entries : List SettledEntry)
      → map settled_entry after ≡ map settled_entry before ++ entries → after ≡ before ++ map oracle_entry_of entries
  log-is before after entries e = sym (made-back oracle_entry_of settled_entry back after) ∙ (ap (λ (l : List SettledEntry). map oracle_entry_of l) e
      ∙ (map-append oracle_entry_of (map settled_entry before) entries
      ∙ ap (λ (l : List OracleEntry). l ++ map oracle_entry_of entries) (made-back oracle_entry_of settled_entry back before)))

  -- all that the oracle's log refers to is seen with new entries too, if it is right and their events were begun
  pub log-keeps : (shards : ℕ) (gates : List (List GateEntry)) (before after : List OracleEntry) (entries : List SettledEntry)
      → OracleIsKept shards gates before → map settled_entry after ≡ map settled_entry before ++ entries → IsOracleLog after
      → ((entry : SettledEntry) (event : Stamp) → Contains entries entry → Contains (entry.later ∷ entry.earlier) event
      → IsBegunStamp (of_gates gates) event)
      → OracleIsKept shards gates after
  log-keeps shards gates before after entries kept e right begun = record {
    refers = λ front entry rest at. tell gates after entry.author entry.deed (λ event h. begun-in entry event h
        (Contains-append_cases before (map oracle_entry_of entries) entry
        (subst (λ (l : List OracleEntry). Contains l entry) (sym at ∙ log-is before after entries e) (has_cut front entry rest))));
    legal = record {
      gate_logs = kept.legal.gate_logs;
      hears = kept.legal.hears;
      store_log = kept.legal.store_log;
      oracle_log = right;
      shard_logs = kept.legal.shard_logs;
    };
  }
    where
      begun-in : (entry : OracleEntry) (event : Stamp) → Contains (events_of (settled_entry entry)) event
          → Contains before entry ⊎ Contains (map oracle_entry_of entries) entry → IsBegunStamp (of_gates gates) event
      begun-in entry event h (inl old) = entry-begun gates before kept.refers entry old event h
      begun-in entry event h (inr new) =
          let from = map_has oracle_entry_of entries entry new in
          begun from.0 event from.1 (subst (λ (one : OracleEntry). Contains (events_of (settled_entry one)) event) (sym from.2) h)

-- More is seen

-- gatekeepers' notes have met passes: they have seen more, what the passes have, which is legal if what both had seen was
pub record GatesMet (shards : ℕ) (notes later : List (Note GateDeed))
    (before after : List (List GateEntry)) : Type 0 where
  pub names : map lock_noted later ≡ map lock_noted notes
  pub notes_on : GatesGoOn (of_gates (gates_noted notes)) (of_gates (gates_noted later))
  pub one : gates_noted later ≡ after
  pub legal : (n : ℕ) → AreGateLogs n (gates_noted notes) → AreGateLogs n before → AreGateLogs n after
  pub legal_before : AreGateLogs shards before

module _ (its : ℕ) (notes later : List (Note GateDeed)) (before after : List (List GateEntry))
    (met : GatesMet its notes later before after) where
  -- as many gatekeepers' logs are noted after the passes met the notes as before
  pub as-many-noted : length (gates_noted later) ≡ length (gates_noted notes)
  as-many-noted =
      let as_noted : Note GateDeed → List GateEntry = λ note. gate_entries (seen_by_note note) in
      let many : length later ≡ length notes =
      sym (length-map later lock_noted) ∙
      (ap (λ (l : List (List ℕ)). length l) met.names ∙ length-map notes lock_noted) in
      length-map later as_noted ∙ (many ∙ sym (length-map notes as_noted))

  -- the gatekeepers' logs that are noted after the meeting are legal if they were before
  pub legal-noted : (shards : ℕ) → shards ≡ its → AreGateLogs shards (gates_noted notes)
      → AreGateLogs shards (gates_noted later)
  legal-noted shards same theirs =
      subst (λ (l : List (List GateEntry)). AreGateLogs shards l) (sym met.one)
      (met.legal shards theirs (subst (λ (n : ℕ). AreGateLogs n before) (sym same) met.legal_before))

-- while the oracle is lent its log is empty, and the notes are legal as before
pub none-kept : (shards : ℕ) (gates : List (List GateEntry)) (log : List OracleEntry) → OracleIsKept shards gates log → OracleIsKept shards gates []
none-kept shards gates log kept = record {
  refers = λ front entry rest at.
      let long : length {A = OracleEntry} [] ≡ length (front ++ entry ∷ rest) = ap (λ (l : List OracleEntry). length l) at in
      absurd (omega (arith, long, length-append front (entry ∷ rest)));
  legal = record {
    gate_logs = kept.legal.gate_logs;
    hears = kept.legal.hears;
    store_log = kept.legal.store_log;
    oracle_log = tt;
    shard_logs = kept.legal.shard_logs;
  };
}

module _ (stays : (seen next : Account) → GatesGoOn seen next → (deed : OracleDeed) → OracleRefersAs seen deed
    → OracleRefersAs next deed) where
  -- with more of the gatekeepers' logs all is still seen
  pub notes-keep : (shards : ℕ) (gates more : List (List GateEntry)) (log : List OracleEntry)
      → OracleIsKept shards gates log
      → GatesGoOn (of_gates gates) (of_gates more) → length more ≡ length gates → AreGateLogs shards more → OracleIsKept shards more log
  notes-keep shards gates more log kept on long legal = record {
    refers = λ front entry rest at. stays (oracle_seen gates log) (oracle_seen more log) on entry.deed (kept.refers front entry rest at);
    legal = record {
      gate_logs = legal.rules;
      hears = legal.hears;
      store_log = kept.legal.store_log;
      oracle_log = kept.legal.oracle_log;
      shard_logs = subst (λ (n : ℕ). (shard : ℕ) → IsShardLog n (shard_log (oracle_seen gates log) shard)) (sym long) kept.legal.shard_logs;
    };
  }

  -- so it is after notes and passes have met
  pub meeting-keeps : (shards its : ℕ) (notes later : List (Note GateDeed)) (before after : List (List GateEntry))
      (log : List OracleEntry)
      → OracleIsKept shards (gates_noted notes) log → shards ≡ its → GatesMet its notes later before after
      → OracleIsKept shards (gates_noted later) log
  meeting-keeps shards its notes later before after log kept same met =
      notes-keep shards (gates_noted notes) (gates_noted later) log kept met.notes_on
      (as-many-noted its notes later before after met)
      (legal-noted its notes later before after met shards same
      (record { rules = kept.legal.gate_logs; hears = kept.legal.hears }))
