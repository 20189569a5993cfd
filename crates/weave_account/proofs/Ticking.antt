-- A tick keeps what is known, once it was made.
-- Used by `clocks_are_known`.
use Rattle.std.proofs.Common.{◌≡◌, ℕ, ◌+◌, ◌<◌, inl, inr, refl, sym, ap, ◌∙◌, arith}
use Rattle.std.proofs.lemmas.Bool.{cases_eq}
use Rattle.vector_stamp.specs.declared.clock.Clock.{Clock}
use Rattle.vector_stamp.specs.Clocks.{clock_after_tick}
use Rattle.vector_stamp.specs.Order.{count_of}
use Rattle.program_defs.specs.declared.script.Script.{Script}
use Rattle.weave_entries.specs.GateReplay.{ticks_of}
use Rattle.weave_account.specs.declared.account.Account.{Account}
use Rattle.weave_account.specs.Account.{gate_log}
use Rattle.weave_account.specs.Clocks.{IsKnown}
use Rattle.weave_account.specs.GoesOn.{GoesOn}
use Rattle.weave_account.specs.LowerLaws.{LawsForAccounts}
use Rattle.weave_account.proofs.Growing.{known-stays}

-- a known clock that ticked is known, if the gatekeeper's log has that tick more
pub tick-known : (script : Script) (laws : LawsForAccounts) (account next : Account) → GoesOn account next → (home : ℕ) → home < 8
    → (clock : Clock) → IsKnown account clock
    → ticks_of clock.epoch (gate_log next home) ≡ ticks_of clock.epoch (gate_log account home) + 1
    → IsKnown next (clock_after_tick home clock)
tick-known script laws account next on home below clock known more =
    let stays = known-stays script account next on clock known in
    record {
      eight = laws.clocks.tick_eight home clock known.eight;
      counts = λ gate.
          let was = known.counts gate in
          let now = stays.counts gate in
          let after = clock_after_tick home clock in
          let epoch : ticks_of after.epoch (gate_log next gate) ≡ ticks_of clock.epoch (gate_log next gate) = refl in
          elim (cases_eq gate home) [
            | inl own ↦
                let count : count_of gate after ≡ count_of gate clock + 1 =
                ap (λ g. count_of g after) own ∙ laws.clocks.tick_counts home clock below known.eight ∙ ap (λ g. count_of g clock + 1) (sym own) in
                let ticks : ticks_of clock.epoch (gate_log next gate) ≡ ticks_of clock.epoch (gate_log account gate) + 1 =
                ap (λ g. ticks_of clock.epoch (gate_log next g)) own ∙ more ∙ ap (λ g. ticks_of clock.epoch (gate_log account g) + 1) (sym own) in
                omega (arith, was, count, ticks, epoch)
            | inr differ ↦
                let count : count_of gate after ≡ count_of gate clock = laws.ticked_others home gate clock differ in
                omega (arith, now, count, epoch)
          ];
      raised = stays.raised;
    }
