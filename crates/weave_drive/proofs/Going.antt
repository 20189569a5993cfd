-- A core that was driven once goes on when it is driven again.
-- Used by `deliver_all`, `deliver_to` and `nudge_all`.
use Rattle.std.proofs.Common.{ℕ, sym, subst}
use Rattle.program_defs.specs.declared.script.Script.{Script}
use Rattle.program_defs.specs.Limits.{IsWithinLimits}
use Rattle.weave_account.specs.GoesOn.{GoesOn}
use Rattle.step_rules.specs.IsCore.{IsCore}
use Rattle.weaver_core.specs.Cores.{CoreView}
use Rattle.weave_drive.specs.Driving.{Drives}
use Rattle.weave_drive.specs.LowerLaws.{LawsForDriving}
use Rattle.weave_drive.proofs.Driven.{drives-core, drives-on}

-- if a core was driven, and then driven on, its logs after the second time go on from those after the first
pub step-on : (m n : ℕ) (laws : LawsForDriving) (old middle new : CoreView) → IsWithinLimits old.script → IsCore old.script old.state → Drives m old middle → Drives n middle new → GoesOn middle.state.account new.state.account
step-on m n laws old middle new limits core before drives =
    drives-on n laws middle new (subst IsWithinLimits (sym before.script_is) limits) (subst (λ (s : Script). IsCore s middle.state) (sym before.script_is) (drives-core m old middle core before)) drives
