-- The store judges over the oracle.
-- Used by `judge`.
use Rattle.std.proofs.Common.{◌≡◌, ℕ, ◌≤◌, List, ◌∷◌, ◌++◌, length, map, Contains, true, IsTrue, inl, inr, refl, sym, ap, subst, arith}
use Rattle.std.specs.Prelude.{Result, Ok, Err, IfOk, OnErr}
use Rattle.std.proofs.lemmas.List.{length-map}
use Rattle.weave_data.proofs.Members.{has_none, has_head, has_read, has_tail}
use Rattle.vector_stamp.specs.declared.clock.Stamp.{Stamp}
use Rattle.vector_stamp.specs.Precedence.{GivenPair}
use Rattle.vector_stamp.specs.Settling.{SettledEntry, additions_from, places_of}
use Rattle.weave_entries.specs.declared.gate_log.GateEntry.{GateEntry}
use Rattle.weave_entries.specs.declared.oracle_log.OracleEntry.{OracleEntry}
use Rattle.weave_entries.specs.declared.verdict.Verdict.{Verdict}
use Rattle.weave_entries.specs.declared.verdict.Verdict.TheVariants.{Committed, Conflict, Refused}
use Rattle.weave_entries.specs.OracleReplay.{settled_entry}
use Rattle.weave_entries.specs.OracleRules.{IsOracleLog}
use Rattle.weave_account.specs.Account.{IsBegunStamp}
use Rattle.backing_store.specs.Commits.{entries_added}
use Rattle.weave_entries.specs.declared.gate_log.GateDeed.{GateDeed}
use Rattle.chronicle.specs.declared.note.Note.{Note}
use Rattle.chronicle.specs.Passes.{seen_by_note}
use Rattle.seen_logs.specs.Entries.{gate_entries}
use Rattle.oracle_lock.specs.Seen.{gates_noted, of_gates, OracleIsKept}
use Rattle.oracle_lock.proofs.CallEntries.{call-events, KeepsGained}

added-events : (verdict : Verdict) (author : ℕ) (pairs : List GivenPair) (asked : List Stamp) (stamp : Stamp) (entry : SettledEntry) (event : Stamp)
    → Contains (entries_added verdict author pairs asked stamp) entry → Contains (entry.later ∷ entry.earlier) event → Contains (stamp ∷ asked) event
added-events (Committed number answers counts) author pairs asked stamp entry event h has =
    call-events author asked stamp (places_of (additions_from 0 pairs asked stamp)) entry event h has
added-events (Conflict vertex newer) author pairs asked stamp entry event h has = absurd (has_none entry h)
added-events (Refused op reason at) author pairs asked stamp entry event h has = absurd (has_none entry h)

-- the stamp and those asked of were begun, if those kept were
pub asked-begun : (gates : List (List GateEntry)) (stamp : Stamp) (asked kept : List Stamp)
    → ((one : Stamp) → Contains asked one → Contains kept one)
    → ((event : Stamp) → Contains (stamp ∷ kept) event → IsBegunStamp (of_gates gates) event)
    → (event : Stamp) → Contains (stamp ∷ asked) event → IsBegunStamp (of_gates gates) event
asked-begun gates stamp asked kept among begun event h = elim (has_read stamp asked event h) [
  | inl same ↦ begun event (subst (λ (s : Stamp). Contains (stamp ∷ kept) s) same (has_head stamp kept))
  | inr more ↦ begun event (has_tail stamp kept event (among event more))
]

-- at most eight notes have at most eight logs
pub few-noted : (notes others : List (Note GateDeed)) → notes ≡ others → length others ≤ 8 → length (gates_noted notes) ≤ 8
few-noted notes others same few =
    let as_noted : Note GateDeed → List GateEntry = λ note. gate_entries (seen_by_note note) in
    omega (arith, length-map notes as_noted, ap (λ (l : List (Note GateDeed)). length l) same, few)

module _ (shards : ℕ) (gates : List (List GateEntry)) (before after : List OracleEntry) (author : ℕ) (pairs : List GivenPair) (asked : List Stamp)
    (stamp : Stamp) where
  -- after a judgement all that the oracle's entries refer to is still seen
  pub judged-keeps : {E : Type 0} → KeepsGained shards gates before after
      → (result : Result Verdict E) → OracleIsKept shards gates before
      → IfOk result (λ verdict. IsTrue true → map settled_entry after ≡ map settled_entry before ++ entries_added verdict author pairs asked stamp)
      → OnErr result (after ≡ before) → IsOracleLog after
      → ((event : Stamp) → Contains (stamp ∷ asked) event → IsBegunStamp (of_gates gates) event)
      → OracleIsKept shards gates after
  judged-keeps keeps (Ok verdict) kept logged same right begun =
      keeps (entries_added verdict author pairs asked stamp) (logged refl) right
      (λ entry event h has. begun event (added-events verdict author pairs asked stamp entry event h has))
  judged-keeps keeps (Err fault) kept logged same right begun = subst (λ (l : List OracleEntry). OracleIsKept shards gates l) (sym same) kept
