use Rattle.std.proofs.Common.{refl}
use Rattle.weave_drive.proofs.Driven.{drives-through}
use Rattle.weave_drive.proofs.Quiet.{flight-ended}
use Rattle.weave_drive.proofs.flights.end_flight.Goals as goal

pub returns-clause-drives : goal.returns-clause-drives
returns-clause-drives c = drives-through 0 c.args.core.now c.step.new.core c.step-2.new.core (c.step.ensures.drives 0 refl) (c.step-2.ensures.drives 0 refl)

pub returns-clause-ends : goal.returns-clause-ends
returns-clause-ends c = flight-ended c.args.core.now c.step.new.core c.step-2.new.core c.args.gate _ _ c.in_ok-step.ensures.cores c.requires c.in_ok-step.ensures.done c.in_ok-step-2.ensures.done
