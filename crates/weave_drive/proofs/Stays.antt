-- What stays of the report while driving steps are made.
-- Used by `drive`.
use Rattle.std.proofs.Common.{◌≡◌, ℕ, zero, suc, ◌<◌, ◌==◌, true, false, List, [], ◌∷◌, fold, length, Contains, IsTrue, Some, None, inl, inr, refl, sym, ap, subst, ◌∙◌, arith}
use Rattle.std.specs.Prelude.{slice_index_or}
use Rattle.std.specs.List.{find, flat_map}
use Rattle.std.specs.Option.{option_or}
use Rattle.std.proofs.lemmas.List.{map-append}
use Rattle.std.proofs.lemmas.List.Concat.{flat_map-append}
use Rattle.std.proofs.lemmas.List.Elements.{Contains-append_left}
use Rattle.std.proofs.lemmas.List.Folds.{find-append}
use Rattle.weave_data.proofs.Members.{flat_has, has_flat, has_head, has_none, has_read, has_tail}
use Rattle.weave_data.proofs.Numbers.{has-in, in-has}
use Rattle.program_defs.specs.declared.program.Program.{Program}
use Rattle.program_defs.specs.declared.script.Request.{Request}
use Rattle.program_defs.specs.declared.script.Script.{Script}
use Rattle.program_defs.specs.declared.script.Step.{Step}
use Rattle.program_defs.specs.declared.script.Work.{Work}
use Rattle.program_defs.specs.declared.script.Work.TheVariants.{Change, Look}
use Rattle.program_defs.specs.Limits.{IsWithinLimits}
use Rattle.program_defs.specs.Visits.{next_visit}
use Rattle.program_defs.specs.Works.{is_look}
use Rattle.report_rules.specs.Lookups.{request_at}
use Rattle.weave_entries.specs.declared.gate_log.GateEntry.{GateEntry}
use Rattle.weave_entries.specs.declared.oracle_log.OracleEntry.{OracleEntry}
use Rattle.weave_entries.specs.declared.store_log.StoreEntry.{StoreEntry}
use Rattle.weave_entries.specs.GateReplay.{ended_by, ended_in}
use Rattle.weave_entries.specs.OracleReplay.{pairs_of_entry, pairs_of_log, settled_entry}
use Rattle.weave_entries.specs.StoreReplay.{Judgement, judged_by, judgement_of, judgements_of}
use Rattle.weave_account.specs.declared.account.Account.{Account}
use Rattle.weave_account.specs.Account.{gate_log, is_ended, pairs_in, reads_of}
use Rattle.weave_account.specs.GoesOn.{GoesOn, IsBeginningOf}
use Rattle.step_rules.specs.CoreState.{CoreState}
use Rattle.step_rules.specs.IsCore.{IsCore}
use Rattle.step_rules.specs.Trace.{state_after}
use Rattle.weaver_core.specs.Cores.{CoreView}
use Rattle.weave_drive.specs.Driving.{AreDriving, Drives, IsDriven}
use Rattle.weave_drive.specs.LowerLaws.{LawsForDriving}
use Rattle.weave_drive.specs.Staying.{ReportStays}
use Rattle.weave_drive.proofs.Driven.{drives-core, drives-on}

module _ (old new : Account) (on : GoesOn old new) where
  verdict-stays : (r : ℕ) (judged : Judgement) → judgement_of r old.store ≡ Some judged → judgement_of r new.store ≡ Some judged
  verdict-stays r judged is =
      let more = on.store in
      ap (judgement_of r) more.1
      ∙ ap (find (λ (j : Judgement). j.request == r)) (map-append (λ (entry : StoreEntry). judged_by entry.author entry.deed) old.store more.0)
      ∙ find-append (λ (j : Judgement). j.request == r) (judgements_of old.store) (judgements_of more.0)
      ∙ ap (λ o. option_or o (find (λ (j : Judgement). j.request == r) (judgements_of more.0))) is

  pairs-first : IsBeginningOf (pairs_in old) (pairs_in new)
  pairs-first = let more = on.oracle in (pairs_of_log more.0, ap pairs_of_log more.1 ∙ flat_map-append (λ (entry : OracleEntry). pairs_of_entry (settled_entry entry)) old.oracle more.0)

  list-at : {A : Type 0} (xss : List (List A)) (xs : List A) → Contains xss xs → (i : ℕ) × (i < length xss) × (slice_index_or xss i [] ≡ xs)
  list-at [] xs h = absurd (has_none xs h)
  list-at (ys ∷ xss) xs h = elim (has_read ys xss xs h) [
    | inl same ↦ (0, omega arith, same)
    | inr more ↦ (let rest = list-at xss xs more in (suc rest.0, (let less = rest.1 in omega (arith, less)), rest.2))
  ]

  at-list : {A : Type 0} (xss : List (List A)) (i : ℕ) → i < length xss → Contains xss (slice_index_or xss i [])
  at-list [] i less = absurd (omega (arith, less))
  at-list (xs ∷ xss) zero less = has_head xs xss
  at-list (xs ∷ xss) (suc i) less = has_tail xs xss (slice_index_or xss i []) (at-list xss i (omega (arith, less)))

  ended-stays : length new.gates ≡ length old.gates → (r : ℕ) → IsTrue (is_ended old r) → IsTrue (is_ended new r)
  ended-stays many r ended =
      let from = flat_has ended_in old.gates r (has-in (flat_map ended_in old.gates) r ended) in
      let place = list-at old.gates from.0 from.1 in
      let more = on.gates place.0 in
      let there : Contains (ended_in (gate_log new place.0)) r = subst (λ l. Contains l r) (sym (ap ended_in more.1 ∙ flat_map-append (λ (entry : GateEntry). ended_by entry.deed) (gate_log old place.0) more.0))
      (Contains-append_left (ended_in (gate_log old place.0)) (ended_in more.0) r (subst (λ l. Contains (ended_in l) r) (sym place.2) from.2)) in
      in-has (flat_map ended_in new.gates) r (has_flat ended_in new.gates (gate_log new place.0) r (at-list new.gates place.0 (let less = place.1 in omega (arith, less, many))) there)

module _ (laws : LawsForDriving) (script : Script) (limits : IsWithinLimits script) (upto : ℕ) (r : ℕ) (request : Request) (program : Program) (request-is : request_at script r ≡ Some request) (work-is : request.work ≡ Look program) where
  reads-through : (steps : List Step) (state : CoreState) → IsCore script state → AreDriving script upto state steps → next_visit (reads_of state.account r) program ≡ None
      → reads_of (fold (state_after script) state steps).account r ≡ reads_of state.account r
  reads-through [] state core are whole = refl
  reads-through (step ∷ steps) state core are whole =
      let same = laws.whole script state step limits are.1 core r request program request-is work-is whole in
      reads-through steps (state_after script state step) are.2 are.3 (ap (λ reads. next_visit reads program) same ∙ whole) ∙ same

  -- what a finished program has read stays the same while its core is driven
  pub reads-stand : (old new : CoreState) → IsCore script old → IsDriven script upto old new → IsTrue (is_ended old.account r) → reads_of new.account r ≡ reads_of old.account r
  reads-stand old new core driven ended =
      ap (λ (s : CoreState). reads_of s.account r) driven.is
      ∙ reads-through driven.steps old core driven.are ((core.account.programs r request program request-is work-is).whole ended)

-- stamps, verdicts, finished programs with what they read, and the first pairs stay when a core is driven
pub report-stays : (laws : LawsForDriving) (upto : ℕ) (old new : CoreView) → IsWithinLimits old.script → IsCore old.script old.state → Drives upto old new → ReportStays old.script old.state.account new.state.account
report-stays laws upto old new limits core d =
    let on = drives-on upto laws old new limits core d in
    let now = drives-core upto old new core d in
    record {
      stamps = laws.stamps old.script old.state.account new.state.account on now.account.gatekeepers.once;
      verdicts = verdict-stays old.state.account new.state.account on;
      finished = ended-stays old.state.account new.state.account on (let a = core.account.gatekeepers.as_many in let b = now.account.gatekeepers.as_many in omega (arith, a, b));
      answers = λ r request request-is look ended. by r request request-is look ended request.work refl;
      pairs = pairs-first old.state.account new.state.account on;
    }
  where
    by : (r : ℕ) (request : Request) → request_at old.script r ≡ Some request → IsTrue (is_look request.work) → IsTrue (is_ended old.state.account r) → (work : Work) → request.work ≡ work → reads_of new.state.account r ≡ reads_of old.state.account r
    by r request request-is look ended (Change ops) e = let clash : false ≡ true = sym (ap is_look e) ∙ look in cc
    by r request request-is look ended (Look program) e = reads-stand laws old.script limits upto r request program request-is e old.state new.state core d.driven ended
