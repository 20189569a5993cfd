use Rattle.std.proofs.Common.{Err, refl, ap, ◌∙◌}
use Rattle.weaver_top.specs.declared.command.Command.TheVariants.{Run}
use Rattle.weaver_top.proofs.Unread.{answers_unread}
use Rattle.weaver_top.proofs.top_call.prepare_run.Goals as goal

pub returns-clause-prepared : goal.returns-clause-prepared
returns-clause-prepared g c = answers_unread Run _ _ _ _ refl _ _ c.answer_unread.ensures
    (λ is. c.read_all.ensures.too_long (c.in-Err.is ∙ ap Err is))
    (λ is. (c.read_all.ensures.read (c.in-Err.is ∙ ap Err is), c.read_all.ensures.read_in_time (c.in-Err.is ∙ ap Err is)))
    c.read_all.ensures.stops
