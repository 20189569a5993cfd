-- `say`, `hear` and `epoch` keep a core.
-- Used by NopStep, SendStep and Stepping.
use Rattle.std.proofs.Common.{◌≡◌, ℕ, ◌<◌, ◌==◌, Bool, true, false, cond, List, [], ◌∷◌, Contains, Option, None, Some, inl, inr, refl, subst, ◌-◌}
use Rattle.std.specs.Prelude.{is_some, nat_lt, slice_get}
use Rattle.std.proofs.lemmas.Bool.{ltb-true}
use Rattle.std.proofs.lemmas.List.Elements.{Contains-append_cases}
use Rattle.std.proofs.lemmas.Option.{slice_get_within, get_or_from_slice_get, none-some}
use Rattle.weave_data.proofs.Members.{has_none, only}
use Rattle.vector_stamp.specs.declared.clock.Clock.{Clock}
use Rattle.shard_queue.specs.Outbox.{sent_as}
use Rattle.program_defs.specs.declared.script.Script.{Script}
use Rattle.program_defs.specs.declared.script.Step.TheVariants.{Say, Hear, Epoch}
use Rattle.report_rules.specs.declared.report.StepAnswer.TheVariants.{Ok, Unknown, Old}
use Rattle.weave_entries.specs.declared.gate_log.GateDeed.{GateDeed}
use Rattle.weave_entries.specs.declared.gate_log.GateDeed.TheVariants as gate
use Rattle.weave_entries.specs.GateReplay.{begun_by, clock_of}
use Rattle.weave_account.specs.declared.account.Account.{Account}
use Rattle.weave_account.specs.Account.{gate_log}
use Rattle.weave_account.specs.Clocks.{IsKnown}
use Rattle.weave_account.specs.IsAccount.{IsAccount}
use Rattle.step_rules.specs.CoreState.{CoreState, with_gate_deed}
use Rattle.step_rules.specs.Answers.{answer_of}
use Rattle.step_rules.specs.Entries.{state_with, after_hear}
use Rattle.step_rules.specs.IsCore.{IsCore}
use Rattle.step_rules.proofs.Basis.{Basis}
use Rattle.step_rules.proofs.Clashes.{not-ok}
use Rattle.step_rules.proofs.QuietGateEntry.{known-after, gate-goes-on}

get-there : (n : ℕ) (xs : List Clock) (x : Clock) → sent_as n xs ≡ Some x → Contains xs x
get-there n xs x e = at (n == 0) e
  where
    at : (b : Bool) → cond b None (slice_get xs (n - 1)) ≡ Some x → Contains xs x
    at true e = absurd (none-some x e)
    at false e = (n - 1, slice_get_within xs (n - 1) x e, get_or_from_slice_get xs (n - 1) x x e)

module _ (script : Script) (state : CoreState) (basis : Basis script state) where
  abbrev account : Account
  account = state.account

  -- with one more deed of a gatekeeper that begins nothing, the notices stay known
  pub deed-keeps : (g : ℕ) (inside : g < script.gates) (author : ℕ) (deed : GateDeed) (none : begun_by author deed ≡ []) → IsAccount script (with_gate_deed account g author deed)
      → IsCore script (record { account = with_gate_deed account g author deed; notices = state.notices })
  deed-keeps g inside author deed none is = record {
    account = is;
    sessions = basis.core.sessions;
    notices = λ clock h. known-after basis.laws script account basis.limits basis.core.account g inside author deed none clock (basis.core.notices clock h);
  }

  -- a `say` at a gatekeeper of the script keeps a core
  pub say-keeps : (g : ℕ) → g < script.gates → IsCore script (state_with script state (Say g))
  say-keeps g inside = record {
    account = basis.core.account;
    sessions = basis.core.sessions;
    notices = λ clock h. elim (Contains-append_cases state.notices (clock_of g (gate_log account g) ∷ []) clock h) [
      | inl old ↦ basis.core.notices clock old
      | inr new ↦ subst (IsKnown account) (only (clock_of g (gate_log account g)) clock new) (basis.laws.accounts.known_gatekeepers script account basis.limits basis.core.account g)
    ];
  }

  -- a `hear` that is done at a gatekeeper of the script keeps a core
  pub hear-keeps : (g n : ℕ) → g < script.gates → answer_of script state (Hear g n) ≡ Ok → IsCore script (state_with script state (Hear g n))
  hear-keeps g n inside ok = at (sent_as n state.notices) refl ok
    where
      at : (o : Option Clock) → sent_as n state.notices ≡ o → cond (is_some o) Ok Unknown ≡ Ok → IsCore script (record { account = after_hear account g o; notices = state.notices })
      at None e ok = not-ok Unknown refl ok
      at (Some clock) e ok =
          let known = basis.core.notices clock (get-there n state.notices clock e) in
          deed-keeps g inside 0 (gate.Heard clock) refl
          (gate-goes-on basis.laws script account basis.limits basis.core.account g inside 0 (gate.Heard clock) refl known.eight
          (λ c h. subst (IsKnown (with_gate_deed account g 0 (gate.Heard clock))) (only clock c h) (known-after basis.laws script account basis.limits basis.core.account g inside 0 (gate.Heard clock) refl clock known))
          (basis.further.accounts.may_be_heard script account basis.limits basis.core.account g clock inside known) tt (λ r request program there look h. has_none r h))

  -- an `epoch` that is done at a gatekeeper of the script keeps a core
  pub epoch-keeps : (g epoch : ℕ) → g < script.gates → answer_of script state (Epoch g epoch) ≡ Ok → IsCore script (state_with script state (Epoch g epoch))
  epoch-keeps g epoch inside ok = at (nat_lt (clock_of g (gate_log account g)).epoch epoch) refl ok
    where
      at : (b : Bool) → nat_lt (clock_of g (gate_log account g)).epoch epoch ≡ b → cond b Ok Old ≡ Ok → IsCore script (state_with script state (Epoch g epoch))
      at false e ok = not-ok Old refl ok
      at true e ok =
          deed-keeps g inside 0 (gate.Raised epoch) refl
          (gate-goes-on basis.laws script account basis.limits basis.core.account g inside 0 (gate.Raised epoch) refl (ltb-true (clock_of g (gate_log account g)).epoch epoch e)
          (λ c h. absurd (has_none c h)) tt tt (λ r request program there look h. has_none r h))
