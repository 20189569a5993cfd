-- What a phase on threads leaves is a part of a run, and one can start after the phases before it.
-- Used by `end_next`, `run_and_end` and `run_on_threads`.
use Rattle.std.proofs.Common.{◌≡◌, ℕ, zero, suc, ◌+◌, ◌-◌, ◌<◌, ◌≤◌, ◌==◌, false, cond, List, [], ◌∷◌, length, Contains, IsTrue, Option, None, Some, refl, sym, ap, subst, ◌∙◌, arith}
use Rattle.std.specs.Prelude.{slice_get, slice_index_or}
use Rattle.std.proofs.Math.Dec.{eqb-suc-zero}
use Rattle.std.proofs.lemmas.Bool.{lt-ltb}
use Rattle.weave_data.proofs.Members.{has_flat, has_head}
use Rattle.program_defs.specs.declared.script.Script.{Script}
use Rattle.program_defs.specs.Limits.{IsWithinLimits}
use Rattle.weave_script.specs.Scripts.{RiseTo}
use Rattle.weave_entries.specs.declared.gate_log.GateDeed.{GateDeed}
use Rattle.weave_entries.specs.declared.gate_log.GateDeed.TheVariants.{BeganTx, BeganProgram, Sent, Nop, Heard, Raised, Finished}
use Rattle.weave_entries.specs.declared.gate_log.GateEntry.{GateEntry}
use Rattle.weave_entries.specs.GateReplay.{BegunRequest, begun_by, flight_of}
use Rattle.weave_account.specs.declared.account.Account.{Account}
use Rattle.weave_account.specs.Account.{gate_log, NoneInFlight}
use Rattle.weave_account.specs.IsAccount.{IsAccount}
use Rattle.weaver_core.specs.Cores.{CoreView}
use Rattle.weaver_workers.specs.Phases.{phase_end, phase_start}
use Rattle.weaver_workers.specs.Workers.{HasPhase}
use Rattle.weave_phase.specs.Pairs.{AddsOpenPairs, AreBegunByOwnWorkers, GainBelow}
use Rattle.weave_phase.specs.Ready.{IsAnsweredUpTo}
use Rattle.weave_phase.specs.RunsPhase.{RunsPhase}
use Rattle.weave_phase.specs.SessionRuns.{WasRunForSession}
use Rattle.weave_phase.proofs.PhaseRuns.{runs-none}
use Rattle.weave_drive.specs.Driving.{DrivesGates, is_driving_deed}
use Rattle.weaver_top.specs.ByWorkers.{AreRunByWorkers, IsPhaseOfWorkers}
use Rattle.weaver_top.specs.LowerLaws.{LawsForCommands}
use Rattle.weaver_top.specs.PhaseByPhase.{EndsAt, IsRunUpTo, IsWholeRun, RunsBelow}
use Rattle.weaver_top.proofs.Begun.{flight-begun, flight-unanswered}
use Rattle.weaver_top.proofs.Onward.{runs-same, runs-through}
use Rattle.weaver_top.proofs.PhaseEnds.{all-below, ended-next, there-below, whole-run}

-- Ends of phases

there-is : (ends : List ℕ) (n last : ℕ) → n < length ends → slice_get ends n ≡ Some (slice_index_or ends n last)
there-is [] n last less = absurd (omega (arith, less))
there-is (e ∷ ends) zero last less = refl
there-is (e ∷ ends) (suc n) last less = there-is ends n last (omega (arith, less))

ends-within : (low high : ℕ) (ends : List ℕ) (n : ℕ) → RiseTo low high ends → slice_index_or ends n high ≤ high
ends-within low high [] n rise = omega arith
ends-within low high (e ∷ ends) zero rise = rise.1
ends-within low high (e ∷ ends) (suc n) rise = ends-within e high ends n rise.2

last-end : (ends : List ℕ) (last : ℕ) → slice_index_or ends (length ends) last ≡ last
last-end [] last = refl
last-end (e ∷ ends) last = last-end ends last

-- the phase after the last `phase` line ends with the last request
pub whole-end : (script : Script) → phase_end script (length script.phases) ≡ length script.requests
whole-end script = last-end script.phases (length script.requests)

next-start : (script : Script) (phase : ℕ) → phase_start script (phase + 1) ≡ phase_end script phase
next-start script phase = later (phase + 1) (omega arith) ∙ ap (phase_end script) (omega arith)
  where
    none : (n : ℕ) → 1 ≤ n → (n == 0) ≡ false
    none zero some = absurd (omega (arith, some))
    none (suc k) some = eqb-suc-zero k

    later : (n : ℕ) → 1 ≤ n → phase_start script n ≡ phase_end script (n - 1)
    later n some = ap (λ b. cond b 0 (phase_end script (n - 1))) (none n some)

-- the phase is one of the script's
pub has-phase : (script : Script) (phase : ℕ) → phase ≤ length script.phases → RiseTo 0 (length script.requests) script.phases → HasPhase script phase
has-phase script phase number rise = record {
  number = number;
  within = ends-within 0 (length script.requests) script.phases phase rise;
}

-- and so its end is within a script that is the same
pub end-fits : (script seen : Script) (phase end : ℕ) → HasPhase script phase → seen ≡ script → end ≡ phase_end script phase → end ≤ length seen.requests
end-fits script seen phase end has same is =
    subst (λ (s : Script). end ≤ length s.requests) (sym same) (subst (λ n. n ≤ length script.requests) (sym is) has.within)

-- What a phase begins

-- a deed that begins nothing from the bound on and raises no epoch is a driving one
deed-drives : (bound author : ℕ) (deed : GateDeed) → ((b : BegunRequest) → Contains (begun_by author deed) b → b.request < bound)
    → ((epoch : ℕ) → deed ≡ Raised epoch → ⊥) → IsTrue (is_driving_deed bound deed)
deed-drives bound author (BeganTx r stamp) begun epochs = lt-ltb r bound (let b : BegunRequest = record { author = author; request = r; stamp = stamp } in begun b (has_head b []))
deed-drives bound author (BeganProgram r stamp) begun epochs = lt-ltb r bound (let b : BegunRequest = record { author = author; request = r; stamp = stamp } in begun b (has_head b []))
deed-drives bound author (Sent r messages) begun epochs = refl
deed-drives bound author (Nop shard number stamp low) begun epochs = refl
deed-drives bound author (Heard clock) begun epochs = refl
deed-drives bound author (Raised epoch) begun epochs = absurd (epochs epoch refl)
deed-drives bound author (Finished r) begun epochs = refl

drives : (bound : ℕ) (old new : Account) → GainBelow bound old new → DrivesGates bound old new
drives bound old new gain home =
    let its = gain home in (
      its.more,
      its.log,
      λ entry h.
          deed-drives bound entry.author entry.deed
          (λ b begun. its.begun b (has_flat (λ (e : GateEntry). begun_by e.author e.deed) its.more entry b h begun))
          (its.epochs entry h),
    )

module _ (laws : LawsForCommands) (script : Script) (limits : IsWithinLimits script) where
  -- Before a phase

  -- if what has begun has its reply, nothing is in flight
  pub none-flies : (phase bound : ℕ) (account : Account) → IsRunUpTo script phase bound account → NoneInFlight account
  none-flies phase bound account run home = at (flight_of (gate_log account home)) refl
    where
      at : (o : Option BegunRequest) → flight_of (gate_log account home) ≡ o → o ≡ None
      at None flies = refl
      at (Some flight) flies =
          let begun = flight-begun laws script account limits run.is_account home flight flies in
          let early : flight.request < bound = all-below bound account run.deeds flight begun in
          let within = run.within in
          let request = there-below script.requests flight.request (omega (arith, early, within)) in
          absurd (flight-unanswered laws script account limits run.is_account home (request.0).session flight request.0 flies request.1 (run.replied flight.request request.0 early request.1))

  -- in a run that has come to a bound each request below it has its reply, and no other has begun
  pub answered : (phase bound : ℕ) (account : Account) → IsRunUpTo script phase bound account → IsAnsweredUpTo script bound account
  answered phase bound account run = record {
    replied = run.replied;
    unbegun = all-below bound account run.deeds;
  }

  -- a phase without requests has ended when the ones before it have
  pub ended-already : (phase : ℕ) (account : Account) → phase_end script phase ≤ phase_start script phase → IsRunUpTo script phase (phase_start script phase) account
      → EndsAt script (phase_end script phase) account account
  ended-already phase account no-later run = record {
    runs = runs-same laws script limits (phase_end script phase) account run.is_account;
    replied = λ r request less there. run.replied r request (omega (arith, less, no-later)) there;
  }

  -- nothing runs a phase without requests
  pub runs-no-request : (phase : ℕ) (core : CoreView) → core.script ≡ script → phase_end script phase ≤ phase_start script phase → IsRunUpTo script phase (phase_start script phase) core.state.account
      → RunsPhase (phase_end script phase) core core
  runs-no-request phase core is no-later run =
      runs-none (phase_start script phase) (phase_end script phase) core no-later (none-flies phase (phase_start script phase) core.state.account run)
      (subst (λ (s : Script). IsAnsweredUpTo s (phase_start script phase) core.state.account) (sym is) (answered phase (phase_start script phase) core.state.account run))

  -- What a phase leaves

  -- what a phase on threads leaves of a core is a part of a run below the bound
  pub phase-runs : (bound : ℕ) (old new : CoreView) → old.script ≡ script → IsAccount new.script new.state.account → RunsPhase bound old new
      → RunsBelow script bound old.state.account new.state.account
  phase-runs bound old new is account runs = record {
    is_account = subst (λ (s : Script). IsAccount s new.state.account) (runs.script ∙ is) account;
    goes_on = runs.goes_on;
    gates = drives bound old.state.account new.state.account runs.begins;
    pairs = subst (λ (s : Script). AddsOpenPairs s old.state.account new.state.account) is runs.pairs;
  }

  -- a part of a run, and then one that ends with each request below the bound replied, are together one that ends so
  pub runs-then-ends : (bound : ℕ) (a b c : Account) → RunsBelow script bound a b → EndsAt script bound b c → EndsAt script bound a c
  runs-then-ends bound a b c runs ends = record {
    runs = runs-through laws script limits bound a b c runs ends.runs;
    replied = ends.replied;
  }

  -- The phases so far

  -- when the next phase has ended, the run has come to the start of the one after it
  pub next-ends : (phase : ℕ) (account next : Account) → RiseTo 0 (length script.requests) script.phases → phase < length script.phases
      → IsRunUpTo script phase (phase_start script phase) account → EndsAt script (phase_end script phase) account next
      → IsRunUpTo script (phase + 1) (phase_start script (phase + 1)) next
  next-ends phase account next rise there run ends =
      subst (λ k. IsRunUpTo script (phase + 1) k next) (sym (next-start script phase))
      (ended-next laws script limits phase (phase_start script phase) (phase_end script phase) account next rise
      (there-is script.phases phase (length script.requests) there) run ends)

  -- a phase that runs and is driven ends
  pub runs-and-ends : (phase end : ℕ) (old new : CoreView) (last : Account) → old.script ≡ script → IsAccount new.script new.state.account → RunsPhase (phase_end old.script phase) old new
      → end ≡ phase_end old.script phase → EndsAt new.script end new.state.account last → EndsAt script (phase_end script phase) old.state.account last
  runs-and-ends phase end old new last is account runs end-is ends =
      runs-then-ends (phase_end script phase) old.state.account new.state.account last
      (phase-runs (phase_end script phase) old new is account (subst (λ (s : Script). RunsPhase (phase_end s phase) old new) is runs))
      (subst (λ (s : Script). EndsAt script (phase_end s phase) new.state.account last) is
      (subst (λ (s : Script). EndsAt s (phase_end old.script phase) new.state.account last) (runs.script ∙ is)
      (subst (λ n. EndsAt new.script n new.state.account last) end-is ends)))

  -- Workers

  -- what workers leave of a phase and what ends it are a phase of workers
  pub of-workers : (phase end : ℕ) (old new : CoreView) (last : Account) → old.script ≡ script → IsAccount new.script new.state.account → IsRunUpTo script phase (phase_start script phase) old.state.account
      → RunsPhase (phase_end old.script phase) old new → EndsAt new.script end new.state.account last → IsPhaseOfWorkers script phase old.state.account last
  of-workers phase end old new last is account run runs ends = record {
    opens = answered phase (phase_start script phase) old.state.account run;
    left = new.state.account;
    is_account = subst (λ (s : Script). IsAccount s new.state.account) (runs.script ∙ is) account;
    begins_with = runs.goes_on;
    landed = runs.landed;
    own_workers = subst (λ (s : Script). AreBegunByOwnWorkers s old.state.account new.state.account) is runs.workers;
    sessions = λ session. subst (λ (s : Script). WasRunForSession s (phase_end s phase) session old.state.account new.state.account) is (runs.sessions session);
    goes_on = ends.runs.goes_on;
  }

-- one phase more was run by workers
pub one-more : (script : Script) (phase : ℕ) (opening logs : Account) → AreRunByWorkers script phase opening → IsPhaseOfWorkers script phase opening logs → AreRunByWorkers script (phase + 1) logs
one-more script phase opening logs before this =
    subst (λ n. AreRunByWorkers script n logs) (let same : suc phase ≡ phase + 1 = omega arith in same) (opening, before, this)

-- with the phase after the last `phase` line all were, also by the script of a core, if that is the script
pub all-by-workers : (script first second : Script) → first ≡ script → second ≡ first → (phases : ℕ) → phases ≡ length first.phases → (account last : Account)
    → AreRunByWorkers first phases account → IsPhaseOfWorkers second phases account last → AreRunByWorkers script (length script.phases + 1) last
all-by-workers script first second same still phases count account last run this =
    subst (λ (s : Script). AreRunByWorkers s (length s.phases + 1) last) same
    (subst (λ n. AreRunByWorkers first (n + 1) last) count
    (one-more first phases account last run (subst (λ (s : Script). IsPhaseOfWorkers s phases account last) still this)))

-- with the phase after the last `phase` line it is a whole run
pub whole-on-threads : (laws : LawsForCommands) (script first second : Script) → IsWithinLimits script → first ≡ script → second ≡ first → (phases : ℕ) → phases ≡ length first.phases → (account last : Account)
    → IsRunUpTo first phases (phase_start first phases) account → EndsAt second (phase_end second phases) account last → IsWholeRun script last
whole-on-threads laws script first second limits same still phases count account last run ends =
    whole-run laws script first second limits same still (phase_start first phases) (phase_end second phases) account last
    (subst (λ n. phase_end second n ≡ length second.requests) (sym (count ∙ ap (λ (s : Script). length s.phases) (sym still))) (whole-end second))
    (subst (λ n. IsRunUpTo first n (phase_start first phases) account) count run) ends
