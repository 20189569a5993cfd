-- `nop` keeps a core.
-- Used by Stepping.
use Rattle.std.proofs.Common.{◌≡◌, ℕ, ◌+◌, ◌<◌, ◌==◌, cond, List, [], ◌∷◌, ◌++◌, Contains, Option, None, Some, inl, inr, refl, ap, subst, ◌∙◌}
use Rattle.std.specs.Prelude.{count_by, is_some}
use Rattle.std.proofs.lemmas.Bool.{eq-eqb}
use Rattle.std.proofs.lemmas.List.Concat.{flat_map-append}
use Rattle.weave_data.proofs.Ends.{count_push}
use Rattle.weave_data.proofs.Members.{has_none, has_read, only}
use Rattle.vector_stamp.specs.declared.clock.Clock.{Clock}
use Rattle.vector_stamp.specs.declared.clock.Stamp.{Stamp}
use Rattle.program_defs.specs.declared.script.Script.{Script}
use Rattle.program_defs.specs.declared.script.Step.TheVariants.{Nop}
use Rattle.report_rules.specs.declared.report.StepAnswer.TheVariants.{Ok, Busy}
use Rattle.weave_entries.specs.declared.gate_log.GateEntry.{GateEntry}
use Rattle.weave_entries.specs.declared.gate_log.GateDeed.{GateDeed}
use Rattle.weave_entries.specs.declared.gate_log.GateDeed.TheVariants as gate
use Rattle.weave_entries.specs.GateReplay.{BegunRequest, clock_of, clocks_by, flight_of, low_mark, next_number, next_stamp, running_of, stamps_by, stamps_of, ticks_of}
use Rattle.weave_entries.proofs.OwnStamps.{program-begun}
use Rattle.weave_account.specs.declared.account.Account.{Account}
use Rattle.weave_account.specs.Account.{gate_log}
use Rattle.weave_account.specs.Clocks.{IsKnown}
use Rattle.step_rules.specs.CoreState.{CoreState, with_gate_deed}
use Rattle.step_rules.specs.Answers.{answer_of}
use Rattle.step_rules.specs.Entries.{state_with}
use Rattle.step_rules.specs.IsCore.{IsCore}
use Rattle.step_rules.proofs.Basis.{Basis}
use Rattle.step_rules.proofs.Begun.{all-in, inside-log}
use Rattle.step_rules.proofs.Clashes.{not-ok}
use Rattle.step_rules.proofs.QuietGateEntry.{gate-goes-on, known-after, log-here, on}
use Rattle.step_rules.proofs.GateSteps.{deed-keeps}

module _ (script : Script) (state : CoreState) (basis : Basis script state) (g s : ℕ) (inside : g < script.gates) (shard-inside : s < script.shards) where
  abbrev account : Account
  account = state.account

  abbrev log : List GateEntry
  log = gate_log account g

  abbrev clock : Clock
  clock = clock_of g log

  abbrev stamp : Stamp
  stamp = next_stamp g clock

  abbrev deed : GateDeed
  deed = gate.Nop s (next_number s log) stamp (low_mark stamp (running_of log))

  abbrev now : Account
  now = with_gate_deed account g 0 deed

  ticked : ticks_of clock.epoch (gate_log now g) ≡ ticks_of clock.epoch log + 1
  ticked =
      let stamped : stamps_of (gate_log now g) ≡ stamps_of log ++ stamp ∷ [] = ap stamps_of (log-here basis.laws script account basis.limits basis.core.account g inside 0 deed refl)
      ∙ flat_map-append (λ (e : GateEntry). stamps_by e.deed) log (record { author = 0; deed = deed } ∷ []) in
      ap (λ ss. count_by (λ (t : Stamp). t.clock.epoch == clock.epoch) ss) stamped ∙ count_push (λ (t : Stamp). t.clock.epoch == clock.epoch) (stamps_of log) stamp
      ∙ ap (λ b. ticks_of clock.epoch log + cond {A = ℕ} b 1 0) (eq-eqb clock.epoch clock.epoch refl)

  stamp-known : IsKnown now stamp.clock
  stamp-known = basis.further.accounts.ticked script account now basis.limits basis.core.account (on basis.laws script account basis.limits basis.core.account g inside 0 deed refl) g inside clock
      (basis.laws.accounts.known_gatekeepers script account basis.limits basis.core.account g) ticked

  running-known : (b : BegunRequest) → Contains (running_of log) b → IsKnown now b.stamp.clock
  running-known b h =
      let program = (basis.laws.logs.open_running g script.shards log (basis.core.account.gatekeepers.logs g) (basis.further.accounts.each_once script account basis.limits basis.core.account g) b).0 h in
      known-after basis.laws script account basis.limits basis.core.account g inside 0 deed refl b.stamp.clock (basis.laws.accounts.known_begun script account basis.limits basis.core.account b
      (all-in account g b (inside-log basis.laws basis.further script account basis.limits basis.core.account g inside) (program-begun log b program.0)))

  knows : (c : Clock) → Contains (clocks_by deed) c → IsKnown now c
  knows c h = elim (has_read stamp.clock (low_mark stamp (running_of log) ∷ []) c h) [
    | inl same ↦ subst (IsKnown now) same stamp-known
    | inr rest ↦ subst (IsKnown now) (only (low_mark stamp (running_of log)) c rest) (basis.further.accounts.low now stamp (running_of log) stamp-known running-known)
  ]

  -- a `nop` that is done keeps a core
  pub nop-keeps : answer_of script state (Nop g s) ≡ Ok → IsCore script (state_with script state (Nop g s))
  nop-keeps ok = at (flight_of log) refl ok
    where
      at : (o : Option BegunRequest) → flight_of log ≡ o → cond (is_some o) Busy Ok ≡ Ok → IsCore script (state_with script state (Nop g s))
      at (Some flight) e ok = not-ok Busy refl ok
      at None e ok = deed-keeps script state basis g inside 0 deed refl
          (gate-goes-on basis.laws script account basis.limits basis.core.account g inside 0 deed refl
          (record { alone = e; shard_is = shard-inside; stamp_is = refl; number_is = refl; low_is = refl }) knows tt tt (λ r request program there look h. has_none r h))
