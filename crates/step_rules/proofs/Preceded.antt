-- In an oracle's log the earlier events of each entry precede its later one.
-- Used by VisitStep.
use Rattle.std.proofs.Common.{List, [], ◌∷◌, ◌++◌, Contains, IsTrue, inl, inr, sym, subst, append_assoc}
use Rattle.std.proofs.lemmas.List.Elements.{Contains-append_left}
use Rattle.weave_data.proofs.Members.{has_none, has_read}
use Rattle.vector_stamp.specs.declared.clock.Stamp.{Stamp}
use Rattle.vector_stamp.specs.Precedence.{GivenPair, precedes}
use Rattle.weave_entries.specs.declared.oracle_log.OracleEntry.{OracleEntry}
use Rattle.weave_entries.specs.OracleReplay.{pairs_of_entry, pairs_of_log, settled_entry}
use Rattle.weave_entries.specs.OracleRules.{IsRightEntry, IsRightFrom}
use Rattle.step_rules.specs.LowerLaws.{LawsForSteps}

module _ (laws : LawsForSteps) where
  -- those of the first entry
  first-precede : (pairs rest : List GivenPair) (entry : OracleEntry) → IsRightEntry pairs (settled_entry entry) → (x : Stamp) → Contains (settled_entry entry).earlier x
      → IsTrue (precedes (pairs ++ (pairs_of_entry (settled_entry entry) ++ rest)) x (settled_entry entry).later)
  first-precede pairs rest entry right x h =
      let settled = settled_entry entry in
      let now : IsTrue (precedes (pairs ++ pairs_of_entry settled) x settled.later) = subst (λ more. IsTrue (precedes (pairs ++ more) x settled.later)) (sym (laws.logs.oracle_added pairs settled right))
      (laws.stamps.settled_all_precede pairs settled.earlier settled.later x h) in
      laws.stamps.pairs_grows (pairs ++ pairs_of_entry settled) (pairs ++ (pairs_of_entry settled ++ rest))
      (λ a b one. subst (λ ps. Contains ps (a, b)) (append_assoc pairs (pairs_of_entry settled) rest) (Contains-append_left (pairs ++ pairs_of_entry settled) rest (a, b) one)) x settled.later now

  -- if the log follows the rules, what an entry puts before its later stamp precedes it by the pairs of all
  pub each-precede : (pairs : List GivenPair) (log : List OracleEntry) → IsRightFrom pairs log → (entry : OracleEntry) → Contains log entry → (x : Stamp) → Contains (settled_entry entry).earlier x
      → IsTrue (precedes (pairs ++ pairs_of_log log) x (settled_entry entry).later)
  each-precede pairs [] right entry h x has = absurd (has_none entry h)
  each-precede pairs (first ∷ log) right entry h x has = elim (has_read first log entry h) [
    | inl same ↦ subst (λ (e : OracleEntry). IsTrue (precedes (pairs ++ pairs_of_log (first ∷ log)) x (settled_entry e).later)) same
        (first-precede pairs (pairs_of_log log) first right.0 x (subst (λ (e : OracleEntry). Contains (settled_entry e).earlier x) (sym same) has))
    | inr more ↦ subst (λ ps. IsTrue (precedes ps x (settled_entry entry).later)) (append_assoc pairs (pairs_of_entry (settled_entry first)) (pairs_of_log log))
        (each-precede (pairs ++ pairs_of_entry (settled_entry first)) log right.1 entry more x has)
  ]
