use Rattle.std.proofs.Common.{◌≡◌, true, refl, sym}
use Rattle.std.proofs.lemmas.List.{append-nil}
use Rattle.vector_stamp.specs.Order.{stamp_before}
use Rattle.vector_stamp.specs.Precedence.{precedes}
use Rattle.version_chain.proofs.view.look.Goals as goal

pub returns-in_ok-state_at-in-Before-clause-seen : goal.returns-in_ok-state_at-in-Before-clause-seen
returns-in_ok-state_at-in-Before-clause-seen g c =
    let before : stamp_before c.args.update c.args.program ≡ true = c.compare.ensures.before.0 c.in-Before.is in
    let first : precedes (g.J.Judge.pairs c.args.judge.now) c.args.update c.args.program ≡ true = (c.precedence_is_decided.ensures.closed (g.J.Judge.pairs c.args.judge.now)).has_stamps c.args.update c.args.program before in
    rw (before, first, c.in_ok-state_at-in-Before.ensures) refl

pub returns-in_ok-state_at-in-Before-clause-pairs : goal.returns-in_ok-state_at-in-Before-clause-pairs
returns-in_ok-state_at-in-Before-clause-pairs g c =
    let before : stamp_before c.args.update c.args.program ≡ true = c.compare.ensures.before.0 c.in-Before.is in
    let first : precedes (g.J.Judge.pairs c.args.judge.now) c.args.update c.args.program ≡ true = (c.precedence_is_decided.ensures.closed (g.J.Judge.pairs c.args.judge.now)).has_stamps c.args.update c.args.program before in
    rw first (sym (append-nil (g.J.Judge.pairs c.args.judge.now)))

pub returns-in_ok-state_at-in-Before-clause-logged : goal.returns-in_ok-state_at-in-Before-clause-logged
returns-in_ok-state_at-in-Before-clause-logged g c =
    let before : stamp_before c.args.update c.args.program ≡ true = c.compare.ensures.before.0 c.in-Before.is in
    let first : precedes (g.J.Judge.pairs c.args.judge.now) c.args.update c.args.program ≡ true = (c.precedence_is_decided.ensures.closed (g.J.Judge.pairs c.args.judge.now)).has_stamps c.args.update c.args.program before in
    λ keeps. rw first (sym (append-nil (g.J.Judge.log_of c.args.judge.now)))
