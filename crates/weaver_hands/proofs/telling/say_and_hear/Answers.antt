use Rattle.std.proofs.Common.{Err, sym, ap, subst, ◌∙◌}
use Rattle.std.proofs.lemmas.Result.{err_from_is_err_and}
use Rattle.weaver_locks.specs.Locks.{shard_count}
use Rattle.weaver_hands.specs.Telling.{TellsAs}
use Rattle.weaver_hands.proofs.Alone.{none-at-gate, none-then-none}
use Rattle.weaver_hands.proofs.telling.say_and_hear.Goals as goal

pub returns-in_err-hear-clause-told : goal.returns-in_err-hear-clause-told
returns-in_err-hear-clause-told g c =
    let old = c.args.hand.now in
    let told = c.say-clock.new.hand in
    let new = c.hear.new.hand in
    let first = c.say-clock.ensures.hold in
    let second = c.in_err-hear.ensures.hold in
    let p = err_from_is_err_and c.from_residual.result c.from_residual.ensures.1 in
    subst (TellsAs (shard_count c.args.shared.now) old new c.args.from c.args.to) (sym (p.1 ∙ ap Err p.2))
    (none-then-none c.more_is_seen.ensures.later old told new (none-at-gate old told c.args.from first.0 first.1)
    (none-at-gate told new c.args.to second.0 second.1))
