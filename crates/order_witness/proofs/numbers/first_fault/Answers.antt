use Rattle.std.proofs.Common.{length, ap, arith}
use Rattle.report_rules.specs.declared.report.Reply.{Reply}
use Rattle.order_witness.proofs.Numbered.{numbers_within}
use Rattle.order_witness.proofs.numbers.first_fault.Goals as goal

pub first_out_of_place-requires-clause-room : goal.first_out_of_place-requires-clause-room
first_out_of_place-requires-clause-room c =
    omega (arith, numbers_within c.args.report.now.replies, c.commits.ensures, c.in_ok-seen.ensures.room, ap (length {A = Reply}) c.as_slice.ensures)
