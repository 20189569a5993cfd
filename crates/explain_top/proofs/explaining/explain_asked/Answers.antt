-- The words ask for a command, or for none.
use Rattle.std.proofs.Common.{inr, refl, sym}
use Rattle.explain_top.proofs.Delivered.{by_command, by_none}
use Rattle.explain_top.proofs.Streams.{takes_none, untouched}
use Rattle.explain_top.proofs.explaining.explain_asked.Goals as goal
use Rattle.weaver_top.specs.declared.status.Status.TheVariants.{Words}

pub returns-in-Some-clause-ends : goal.returns-in-Some-clause-ends
returns-in-Some-clause-ends g c = by_command _ c.in-Some.command _ _ _ _ _ _ _ (sym c.in-Some.ensures) c.explain_by.ensures.ends

pub returns-in-Some-clause-leaves : goal.returns-in-Some-clause-leaves
returns-in-Some-clause-leaves g c = c.explain_by.ensures.leaves

pub returns-in-None-clause-ends : goal.returns-in-None-clause-ends
returns-in-None-clause-ends g c = by_none _ _ _ _ _ _ (sym c.in-None.ensures) refl

pub returns-in-None-clause-leaves : goal.returns-in-None-clause-leaves
returns-in-None-clause-leaves g c = untouched Words _ _ _ refl (inr (inr refl)) (takes_none _ _) (λ is. absurd (cc))
