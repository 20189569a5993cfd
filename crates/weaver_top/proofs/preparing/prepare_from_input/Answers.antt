use Rattle.std.proofs.Common.{Err, ap, ◌∙◌}
use Rattle.weaver_top.proofs.Unread.{answers_unread}
use Rattle.weaver_top.proofs.preparing.prepare_from_input.Goals as goal

pub returns : goal.returns
returns g c = answers_unread c.args.command _ _ _ _ c.requires.reads _ _ c.answer_unread.ensures
    (λ is. c.read_all.ensures.too_long (c.in-Err.is ∙ ap Err is))
    (λ is. (c.read_all.ensures.read (c.in-Err.is ∙ ap Err is), c.read_all.ensures.read_in_time (c.in-Err.is ∙ ap Err is)))
    c.read_all.ensures.stops
