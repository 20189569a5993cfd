use Rattle.std.proofs.Common.{[], ap, ◌∙◌}
use Rattle.std.specs.Prelude.{Some}
use Rattle.weave_report.specs.ReadingLists.{order_from}
use Rattle.weave_report.proofs.ListsRead.{order_is_read}
use Rattle.weave_report.proofs.read.lines.order_in.Goals as goal

pub loop-word-init : goal.loop-word-init
loop-word-init c =
    ap (λ order. order_from c.args.script.now (Some order) c.into_iter-word-iterator.result) c.new.ensures
    ∙ ap (order_from c.args.script.now (Some [])) c.into_iter-word-iterator.ensures.into_iter_gives
    ∙ order_is_read c.args.script.now c.args.words
