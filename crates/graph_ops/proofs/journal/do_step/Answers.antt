use Rattle.graph_ops.proofs.States.{reads}
use Rattle.graph_ops.proofs.journal.do_step.Goals as goal

pub returns-in-Get-clause-done : goal.returns-in-Get-clause-done
returns-in-Get-clause-done c = rw c.in-Get.is (reads c.in-Get.v _ _ c.in_ok-read.ensures)
