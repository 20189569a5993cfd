-- What driving a core does: ordinary steps, of which none begins a request from a bound on, raises an epoch, stops a
-- gatekeeper or collects.
use Rattle.std.specs.Prelude.{◌≡◌, ℕ, ◌<◌, Bool, true, false, nat_lt, List, [], ◌∷◌, ◌++◌, fold, Contains, IsTrue, Some, ⊤}
use Rattle.program_defs.specs.declared.script.Request.{Request}
use Rattle.program_defs.specs.declared.script.Script.{Script}
use Rattle.program_defs.specs.declared.script.Step.{Step}
use Rattle.program_defs.specs.declared.script.Step.TheVariants.{Begin, Collect, Epoch, Restart}
use Rattle.report_rules.specs.Lookups.{request_at}
use Rattle.weave_entries.specs.declared.gate_log.GateEntry.{GateEntry}
use Rattle.weave_entries.specs.declared.gate_log.GateDeed.{GateDeed}
use Rattle.weave_entries.specs.declared.gate_log.GateDeed.TheVariants.{BeganTx, BeganProgram, Raised}
use Rattle.weave_account.specs.declared.account.Account.{Account}
use Rattle.weave_account.specs.Account.{gate_log}
use Rattle.step_rules.specs.CoreState.{CoreState}
use Rattle.step_rules.specs.IsCore.{IsCore, IsStepOf}
use Rattle.step_rules.specs.Requests.{has_reply}
use Rattle.step_rules.specs.Trace.{state_after}
use Rattle.weaver_core.specs.Cores.{CoreView}

-- The steps

-- a step that begins no request from this number on, raises no epoch, stops no gatekeeper and collects nothing
abbrev pub is_driving : ℕ → Step → Bool
is_driving upto (Begin r) = nat_lt r upto
is_driving upto (Collect shard) = false
is_driving upto (Epoch gate epoch) = false
is_driving upto (Restart gate epoch) = false
is_driving upto _ = true

-- steps of the script, one after another: each is a driving one, and leaves a core
abbrev pub AreDriving : Script → ℕ → CoreState → List Step → Type 0
AreDriving script upto state [] = ⊤
AreDriving script upto state (step ∷ steps) =
    IsTrue (is_driving upto step) × IsStepOf script step × IsCore script (state_after script state step)
    × AreDriving script upto (state_after script state step) steps

-- driving steps lead from the first state to the second one
pub record IsDriven (script : Script) (upto : ℕ) (old new : CoreState) : Type 0 where
  pub steps : List Step
  pub are : AreDriving script upto old steps
  pub is : new ≡ fold (state_after script) old steps

-- What they reach

-- each request below this number has its reply
abbrev pub AreReplied : Script → ℕ → Account → Type 0
AreReplied script upto account =
    (r : ℕ) (request : Request) → r < upto → request_at script r ≡ Some request → IsTrue (has_reply account r request)

-- What they leave alone

-- a gatekeeper's deed that begins no request from this number on and raises no epoch
abbrev pub is_driving_deed : ℕ → GateDeed → Bool
is_driving_deed upto (BeganTx r stamp) = nat_lt r upto
is_driving_deed upto (BeganProgram r stamp) = nat_lt r upto
is_driving_deed upto (Raised epoch) = false
is_driving_deed upto _ = true

-- each gatekeeper's log goes on with such deeds alone
abbrev pub DrivesGates : ℕ → Account → Account → Type 0
DrivesGates upto account next =
    (home : ℕ) → (more : List GateEntry) × (gate_log next home ≡ gate_log account home ++ more)
    × ((entry : GateEntry) → Contains more entry → IsTrue (is_driving_deed upto entry.deed))

-- The core

-- the core was driven: its script is the same, and driving steps lead from its old state to its new one.
-- No public contract cites this.
pub record Drives (upto : ℕ) (old new : CoreView) : Type 0 where
  pub script_is : new.script ≡ old.script
  pub driven : IsDriven old.script upto old.state new.state
