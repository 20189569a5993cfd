use Rattle.step_rules.proofs.lower_laws.programs_keep_their_laws.Goals as goal

pub returns : goal.returns
returns c = record { visits_go_on = c.visits_go_on.ensures }
