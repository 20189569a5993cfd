use Rattle.std.proofs.Common.{take}
use Rattle.order_witness.specs.Begun.{is_request_before}
use Rattle.order_witness.specs.Choices.{IsBest}
use Rattle.order_witness.proofs.heads.best_of.Given as goal

abbrev pub invariant-loop-request : goal.invariant-loop-request
invariant-loop-request l = IsBest l.report (is_request_before l.report) l.firsts (take l.request-index l.ready) l.best
