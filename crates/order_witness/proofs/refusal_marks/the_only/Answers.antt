use Rattle.order_witness.proofs.Numbered.{only_one, not_one}
use Rattle.std.proofs.Common.{sym}
use Rattle.order_witness.proofs.refusal_marks.the_only.Goals as goal

pub returns-then-requests-eq1 : goal.returns-then-requests-eq1
returns-then-requests-eq1 c = sym (only_one c.args.requests.now 0 c.if-requests-eq1.true)

pub returns-else-requests-eq1 : goal.returns-else-requests-eq1
returns-else-requests-eq1 c = sym (not_one c.args.requests.now c.if-requests-eq1.false)
