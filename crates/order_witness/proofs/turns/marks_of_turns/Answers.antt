use Rattle.order_witness.proofs.turns.marks_of_turns.Goals as goal

pub returns-clause-after : goal.returns-clause-after
returns-clause-after c place mark = c.in_ok-marks.ensures.marked place (c.in_ok-keep_before_commits.ensures.kept place mark)
