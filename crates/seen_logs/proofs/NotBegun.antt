-- A request that no gatekeeper began as a program has read nothing, and if it is a program it has not ended.
-- Used by `begun_programs_are_enough` and `only_begun_programs_read`.
use Rattle.std.proofs.Common.{◌≡◌, ◌≢◌, ℕ, ◌==◌, false, List, [], ◌∷◌, ◌++◌, map, Contains, IsTrue, Some, inl, inr, refl, sym, ap, subst, ◌∙◌}
use Rattle.std.specs.Prelude.{◌&&◌}
use Rattle.std.specs.List.{filter, flat_map, list_any}
use Rattle.std.proofs.lemmas.Bool.{and_parts, both_ways, cases_Bool, eq-eqb, eqb-true, ne_eqb}
use Rattle.weave_data.proofs.Entries.{each_before}
use Rattle.weave_data.proofs.Lists.{filter-none}
use Rattle.weave_data.proofs.Members.{any_from, any_has, cut_at, flat_has, has_flat, has_none, only}
use Rattle.weave_data.proofs.Numbers.{has-in}
use Rattle.weave_data.proofs.Ordered.{pairs_none}
use Rattle.weave_data.proofs.ListPlaces.{all-from}
use Rattle.weave_data.specs.declared.name.Name.{Name}
use Rattle.graph_ops.specs.Operations.{State}
use Rattle.program_defs.specs.declared.program.Program.{Program}
use Rattle.program_defs.specs.declared.script.Request.{Request}
use Rattle.program_defs.specs.declared.script.Script.{Script}
use Rattle.program_defs.specs.declared.script.Work.{Work}
use Rattle.program_defs.specs.declared.script.Work.TheVariants.{Look}
use Rattle.program_defs.specs.Works.{is_change}
use Rattle.report_rules.specs.Lookups.{request_at}
use Rattle.weave_entries.specs.declared.gate_log.GateEntry.{GateEntry}
use Rattle.weave_entries.specs.declared.gate_log.GateDeed.{GateDeed}
use Rattle.weave_entries.specs.declared.gate_log.GateDeed.TheVariants.{BeganTx, BeganProgram, Sent, Nop, Heard, Raised, Finished}
use Rattle.weave_entries.specs.declared.shard_log.ShardEntry.{ShardEntry}
use Rattle.weave_entries.specs.Logs.{AtEachEntry}
use Rattle.weave_entries.specs.GateReplay.{BegunRequest, ended_by, ended_in, program_by, programs_of, tx_by, txs_of}
use Rattle.weave_entries.specs.GateRules.{EndsAs, IsGateLog}
use Rattle.weave_entries.specs.ShardReplay.{Visit, reads_in, visit_by, visits_of}
use Rattle.weave_account.specs.declared.account.Account.{Account}
use Rattle.weave_account.specs.Account.{gate_log, is_ended, reads_of, shard_log}
use Rattle.weave_account.specs.Gatekeepers.{BeginsAs}
use Rattle.weave_account.specs.Programs.{ProgramsClause, ReadsInTurn}
use Rattle.seen_logs.specs.FollowsScript.{BegunProgramsReadInTurn}
use Rattle.seen_logs.specs.LowerLaws.{LawsForSeenLogs}
use Rattle.seen_logs.specs.Seen.{ShardRefersWithin, visit_entry}
use Rattle.seen_logs.proofs.MakesAccount.{visit-is}
use Rattle.seen_logs.proofs.OfAccount.{there-and}
use Rattle.weave_account.proofs.VisitsStay.{flat-alike, read-in}
use Rattle.weave_account.proofs.Beginning.{list-there}
use Rattle.weave_account.proofs.Replying.{place-of}
use Rattle.weave_account.proofs.GoesOn.{has-on, flat-on}

-- no gatekeeper began the request as a program
abbrev NotBegun : Account → ℕ → Type 0
NotBegun seen r = (home : ℕ) (begun : BegunRequest) → Contains (programs_of (gate_log seen home)) begun → begun.request ≢ r

module _ (shards : ℕ) (seen : Account) (refers : (shard : ℕ) → ShardRefersWithin shards seen shard) (r : ℕ) (none : NotBegun seen r) where
  no-visit : (shard : ℕ) → filter (λ (visit : Visit). visit.request == r) (visits_of (shard_log seen shard)) ≡ []
  no-visit shard =
      let log = shard_log seen shard in
      filter-none (λ (visit : Visit). visit.request == r) (visits_of log)
      (all-from (λ (visit : Visit). (visit.request == r) ≡ false) (visits_of log)
      (λ visit h. (
      let entry = flat_has (λ (e : ShardEntry). visit_by e.author e.deed) log visit h in
      let cut = cut_at log entry.0 entry.1 in
      let same = visit-is (entry.0).author (entry.0).deed visit entry.2 in
      let at : log ≡ cut.before ++ visit_entry visit ∷ cut.after = cut.is ∙ ap (λ e. cut.before ++ e ∷ cut.after) (sym same) in
      let its = refers shard cut.before (visit_entry visit) cut.after at in
      ne_eqb visit.request r (none its.home _ its.begun))))

  -- a program that was not begun in what was seen has read nothing there
  pub nothing-read : reads_of seen r ≡ []
  nothing-read = flat-alike (reads_in r) refl seen.shards [] (λ shard. ap (map (read-in (shard_log seen shard))) (no-visit shard))

module _ (laws : LawsForSeenLogs) (script : Script) (account : Account)
    (legal : (home : ℕ) → IsGateLog home script.shards (gate_log account home))
    (begins : (home : ℕ) → AtEachEntry (λ before (entry : GateEntry). BeginsAs script account home before entry.deed) (gate_log account home)) where
  -- a transaction that was begun is one of the script
  deed-change : (home : ℕ) (before : List GateEntry) (author : ℕ) (deed : GateDeed) (begun : BegunRequest) → Contains (tx_by author deed) begun
      → BeginsAs script account home before deed
      → (request : Request) × (request_at script begun.request ≡ Some request) × IsTrue (is_change request.work)
  deed-change home before author (BeganTx q stamp) begun h right =
      let same = only (record { author = author; request = q; stamp = stamp }) begun h in
      let there = there-and (λ (request : Request). (request.gate == home) && is_change request.work) (request_at script q) right.own in
      subst (λ (b : BegunRequest). (request : Request) × (request_at script b.request ≡ Some request) × IsTrue (is_change request.work)) same
      (there.0, there.1, (and_parts ((there.0).gate == home) (is_change (there.0).work) there.2).1)
  deed-change home before author (BeganProgram q stamp) begun h right = absurd (has_none begun h)
  deed-change home before author (Sent q messages) begun h right = absurd (has_none begun h)
  deed-change home before author (Nop shard number stamp low) begun h right = absurd (has_none begun h)
  deed-change home before author (Heard clock) begun h right = absurd (has_none begun h)
  deed-change home before author (Raised epoch) begun h right = absurd (has_none begun h)
  deed-change home before author (Finished q) begun h right = absurd (has_none begun h)

  tx-change : (home : ℕ) (before after : List GateEntry) → gate_log account home ≡ before ++ after → (begun : BegunRequest)
      → Contains (txs_of before) begun
      → (request : Request) × (request_at script begun.request ≡ Some request) × IsTrue (is_change request.work)
  tx-change home before after at begun h =
      let entry = flat_has (λ (e : GateEntry). tx_by e.author e.deed) before begun h in
      let cut = cut_at before entry.0 entry.1 in
      deed-change home cut.before (entry.0).author (entry.0).deed begun entry.2
      (each_before (λ earlier (e : GateEntry). BeginsAs script account home earlier e.deed) before after
      (subst (λ l. (x : List GateEntry) (e : GateEntry) (y : List GateEntry) → l ≡ x ++ e ∷ y → BeginsAs script account home x e.deed) at (begins home))
      cut.before entry.0 cut.after cut.is)

  module _ (r : ℕ) (none : NotBegun account r) (request : Request) (program : Program)
      (request_is : request_at script r ≡ Some request) (work_is : request.work ≡ Look program) where
    no-end : (home : ℕ) (before : List GateEntry) (author : ℕ) (deed : GateDeed) (after : List GateEntry)
        → gate_log account home ≡ before ++ record { author = author; deed = deed } ∷ after → EndsAs before author deed
        → ¬ Contains (ended_by deed) r
    no-end home before author (Sent q messages) after at ends h =
        let is = only q r h in
        let other = tx-change home before (record { author = author; deed = Sent q messages } ∷ after) at _ ends.1 in
        let there : request_at script r ≡ Some other.0 = subst (λ n. request_at script n ≡ Some other.0) is other.1 in
        let one : Some other.0 ≡ Some request = sym there ∙ request_is in
        let same : other.0 ≡ request = cc in
        let clash : IsTrue false = subst (λ (work : Work). IsTrue (is_change work)) (ap (λ (q : Request). q.work) same ∙ work_is) other.2 in
        cc
    no-end home before author (Finished q) after at ends h =
        let rest = record { author = author; deed = Finished q } ∷ after in
        none home _
        (has-on (programs_of before) (programs_of (gate_log account home))
        (flat-on (λ (e : GateEntry). program_by e.author e.deed) before (gate_log account home) (rest, at)) _ ends.1) (only q r h)
    no-end home before author (BeganTx q stamp) after at ends h = has_none r h
    no-end home before author (BeganProgram q stamp) after at ends h = has_none r h
    no-end home before author (Nop shard n stamp low) after at ends h = has_none r h
    no-end home before author (Heard clock) after at ends h = has_none r h
    no-end home before author (Raised epoch) after at ends h = has_none r h

    not-ended : ¬ IsTrue (is_ended account r)
    not-ended ended =
        let log = flat_has ended_in account.gates r (has-in (flat_map ended_in account.gates) r ended) in
        let place = place-of account.gates log.0 log.1 in
        let here : Contains (ended_in (gate_log account place.0)) r = subst (λ l. Contains (ended_in l) r) (sym place.1) log.2 in
        let entry = flat_has (λ (e : GateEntry). ended_by e.deed) (gate_log account place.0) r here in
        let cut = cut_at (gate_log account place.0) entry.0 entry.1 in
        no-end place.0 cut.before (entry.0).author (entry.0).deed cut.after cut.is
        (laws.ends place.0 script.shards (gate_log account place.0) (legal place.0) cut.before entry.0 cut.after cut.is) entry.2

    -- so it follows the script
    unbegun-in-turn : reads_of account r ≡ [] → ReadsInTurn (reads_of account r) program (IsTrue (is_ended account r))
    unbegun-in-turn nothing =
        subst (λ (reads : List (Name × State)). ReadsInTurn reads program (IsTrue (is_ended account r))) (sym nothing) (record {
          once = pairs_none (λ (a b : Name × State). a.0 ≢ b.0);
          first_ones = λ v. (λ h. h, λ h. h);
          whole = λ ended. absurd (not-ended ended);
        })

  -- what programs read follows the script if it is so of those that were begun
  pub all-in-turn : ((shard : ℕ) → ShardRefersWithin script.shards account shard) → BegunProgramsReadInTurn script account
      → ProgramsClause script account
  all-in-turn refers of-begun r request program request_is work_is =
      let all = flat_map programs_of account.gates in
      let is = λ (begun : BegunRequest). begun.request == r in
      elim (cases_Bool (list_any is all)) [
        | inl some ↦
            let one = any_has is all some in
            let same : (one.0).request ≡ r = eqb-true (one.0).request r one.2 in
            let log = flat_has programs_of account.gates one.0 one.1 in
            let place = place-of account.gates log.0 log.1 in
            subst (λ n. ReadsInTurn (reads_of account n) program (IsTrue (is_ended account n))) same
            (of-begun place.0 one.0 (subst (λ l. Contains (programs_of l) one.0) (sym place.1) log.2) request program
            (subst (λ n. request_at script n ≡ Some request) (sym same) request_is) work_is)
        | inr not-there ↦
            let none : NotBegun account r = λ home begun h same. both_ways _ not-there
            (any_from is all begun
            (let entry = flat_has (λ (e : GateEntry). program_by e.author e.deed) (gate_log account home) begun h in
            has_flat programs_of account.gates (gate_log account home) begun (list-there account.gates home entry.0 entry.1) h)
            (eq-eqb begun.request r same)) in
            unbegun-in-turn r none request program request_is work_is (nothing-read script.shards account refers r none)
      ]
