-- Driving (running allowed steps, each of which leaves a core) composes, keeps cores, and only extends accounts.
-- Used by `answer`, `apply_all`, `apply_channel`, `apply_round`, `deliver_all`, `deliver_to`, `drive_all`,
-- `end_flight`, `end_flights`, `look`, `make_ready`, `nudge`, `nudge_all`, `step`, `visit`, Applications, Deliveries,
-- Going, Nudging, Quiet, Reading, Replied and Stays.
use Rattle.std.proofs.Common.{◌≡◌, ℕ, ◌≤◌, List, [], ◌∷◌, ◌++◌, fold, IsTrue, refl, sym, ap, subst, ◌∙◌, arith}
use Rattle.std.proofs.lemmas.Bool.{lt-ltb, ltb-true}
use Rattle.std.proofs.lemmas.List.Sums.{fold-append}
use Rattle.program_defs.specs.declared.script.Script.{Script}
use Rattle.program_defs.specs.declared.script.Step.{Step}
use Rattle.program_defs.specs.declared.script.Step.TheVariants.{Begin, Judge, Send, Say, Hear, Nop, Deliver, Apply, Visit, Reply, Collect, Epoch, Restart}
use Rattle.program_defs.specs.Limits.{IsWithinLimits}
use Rattle.report_rules.specs.declared.report.StepAnswer.{StepAnswer}
use Rattle.weave_account.specs.GoesOn.{GoesOn}
use Rattle.step_rules.specs.CoreState.{CoreState}
use Rattle.step_rules.specs.IsCore.{IsCore, IsStepOf}
use Rattle.step_rules.specs.Trace.{state_after}
use Rattle.weaver_core.specs.Cores.{CoreView, DoesStep}
use Rattle.weave_drive.specs.Driving.{AreDriving, Drives, IsDriven, is_driving}
use Rattle.weave_drive.specs.LowerLaws.{LawsForDriving}
use Rattle.step_rules.proofs.StepGoesOn.{goes-further, goes-same}

-- Lists of steps

module _ (script : Script) (upto : ℕ) where
  are-both : (xs ys : List Step) (state : CoreState) → AreDriving script upto state xs → AreDriving script upto (fold (state_after script) state xs) ys → AreDriving script upto state (xs ++ ys)
  are-both [] ys state are more = more
  are-both (x ∷ xs) ys state are more = (are.0, are.1, are.2, are-both xs ys (state_after script state x) are.3 more)

  driven-none : (state : CoreState) → IsDriven script upto state state
  driven-none state = record { steps = []; are = tt; is = refl }

  driven-through : (a b c : CoreState) → IsDriven script upto a b → IsDriven script upto b c → IsDriven script upto a c
  driven-through a b c x y = record {
    steps = x.steps ++ y.steps;
    are = are-both x.steps y.steps a x.are (subst (λ s. AreDriving script upto s y.steps) x.is y.are);
    is = y.is ∙ ap (λ s. fold (state_after script) s y.steps) x.is ∙ sym (fold-append (state_after script) a x.steps y.steps);
  }

  core-after-steps : (steps : List Step) (state : CoreState) → IsCore script state → AreDriving script upto state steps → IsCore script (fold (state_after script) state steps)
  core-after-steps [] state core are = core
  core-after-steps (step ∷ steps) state core are = core-after-steps steps (state_after script state step) are.2 are.3

  -- what a core is driven to is a core
  pub core-after : (old new : CoreState) → IsCore script old → IsDriven script upto old new → IsCore script new
  core-after old new core driven = subst (IsCore script) (sym driven.is) (core-after-steps driven.steps old core driven.are)

  -- and its account goes on
  module _ (laws : LawsForDriving) (limits : IsWithinLimits script) where
    goes-on-steps : (steps : List Step) (state : CoreState) → IsCore script state → AreDriving script upto state steps → GoesOn state.account (fold (state_after script) state steps).account
    goes-on-steps [] state core are = goes-same state.account
    goes-on-steps (step ∷ steps) state core are =
        goes-further state.account (state_after script state step).account (fold (state_after script) (state_after script state step) steps).account (laws.goes_on script state step limits are.1 core) (goes-on-steps steps (state_after script state step) are.2 are.3)

    -- each log of what a core is driven to begins with the core's own
    pub driven-goes-on : (old new : CoreState) → IsCore script old → IsDriven script upto old new → GoesOn old.account new.account
    driven-goes-on old new core driven = subst (λ (s : CoreState). GoesOn old.account s.account) (sym driven.is) (goes-on-steps driven.steps old core driven.are)

-- what drives below a number drives below a higher one
more-driving : (m n : ℕ) → m ≤ n → (step : Step) → IsTrue (is_driving m step) → IsTrue (is_driving n step)
more-driving m n below (Begin r) t = lt-ltb r n (let less = ltb-true r m t in omega (arith, less, below))
more-driving m n below (Judge g) t = refl
more-driving m n below (Send g) t = refl
more-driving m n below (Say g) t = refl
more-driving m n below (Hear g k) t = refl
more-driving m n below (Nop g s) t = refl
more-driving m n below (Deliver g s k) t = refl
more-driving m n below (Apply s g) t = refl
more-driving m n below (Visit r) t = refl
more-driving m n below (Reply r) t = refl
more-driving m n below (Collect s) t = t
more-driving m n below (Epoch g e) t = t
more-driving m n below (Restart g e) t = t

more-are : (script : Script) (m n : ℕ) → m ≤ n → (steps : List Step) (state : CoreState) → AreDriving script m state steps → AreDriving script n state steps
more-are script m n below [] state are = tt
more-are script m n below (step ∷ steps) state are = (more-driving m n below step are.0, are.1, are.2, more-are script m n below steps (state_after script state step) are.3)

-- Cores

-- a core is driven to itself, by no steps
pub drives-none : (upto : ℕ) (old : CoreView) → Drives upto old old
drives-none upto old = record { script_is = refl; driven = driven-none old.script upto old.state }

-- an unchanged core was driven, by no steps
pub drives-same : (upto : ℕ) (old new : CoreView) → new ≡ old → Drives upto old new
drives-same upto old new same = subst (Drives upto old) (sym same) (drives-none upto old)

-- a core that did a driving step of the script, and is a core after it, was driven
pub drives-step : (upto : ℕ) (old new : CoreView) (step : Step) (answer : StepAnswer) → DoesStep step old new answer → IsStepOf old.script step → IsCore new.script new.state → IsTrue (is_driving upto step) → Drives upto old new
drives-step upto old new step answer did there core driving = record {
  script_is = did.script_is;
  driven = record {
    steps = step ∷ [];
    are = (driving, there, subst (IsCore old.script) did.state_is (subst (λ s. IsCore s new.state) did.script_is core), tt);
    is = did.state_is;
  };
}

-- a core that was driven, and then was driven on, was driven
pub drives-through : (upto : ℕ) (a b c : CoreView) → Drives upto a b → Drives upto b c → Drives upto a c
drives-through upto a b c x y = record {
  script_is = y.script_is ∙ x.script_is;
  driven = driven-through a.script upto a.state b.state c.state x.driven (subst (λ s. IsDriven s upto b.state c.state) x.script_is y.driven);
}

-- what was driven below a bound was driven below every higher one
pub drives-more : (m n : ℕ) → m ≤ n → (old new : CoreView) → Drives m old new → Drives n old new
drives-more m n below old new d = record {
  script_is = d.script_is;
  driven = record { steps = d.driven.steps; are = more-are old.script m n below d.driven.steps old.state d.driven.are; is = d.driven.is };
}

-- a driven core is one of the old script
pub drives-core : (upto : ℕ) (old new : CoreView) → IsCore old.script old.state → Drives upto old new → IsCore old.script new.state
drives-core upto old new core d = core-after old.script upto old.state new.state core d.driven

-- when a core is driven, its logs go on from the old ones
pub drives-on : (upto : ℕ) (laws : LawsForDriving) (old new : CoreView) → IsWithinLimits old.script → IsCore old.script old.state → Drives upto old new → GoesOn old.state.account new.state.account
drives-on upto laws old new limits core d = driven-goes-on old.script upto laws limits old.state new.state core d.driven
