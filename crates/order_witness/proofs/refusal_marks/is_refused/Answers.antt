use Rattle.std.proofs.Common.{sym}
use Rattle.order_witness.proofs.Testing.{is_numbered}
use Rattle.order_witness.proofs.refusal_marks.is_refused.Goals as goal

pub work_stops-requires : goal.work_stops-requires
work_stops-requires c = record { numbered = is_numbered c.args.script.now c.requires.numbered c.args.request c.in-Some.request.now (sym c.in-Some.ensures) }
