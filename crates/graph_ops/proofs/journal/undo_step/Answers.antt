use Rattle.std.proofs.Common.{sym, ap, ◌∙◌, subst}
use Rattle.std.specs.Option.{option_copied_mut}
use Rattle.graph_ops.specs.TakingBack.{CanTakeBack}
use Rattle.graph_ops.proofs.States.{state_there, taken_back_at, covers_written}
use Rattle.graph_ops.proofs.journal.undo_step.Goals as goal

pub take_back-requires : goal.take_back-requires
take_back-requires c = subst (CanTakeBack c.args.step.back) (sym (state_there c.args.step.v _ _ (sym c.get_mut.ensures.value ∙ ap option_copied_mut c.in-Some.is))) c.requires.fits

pub returns-clause-after : goal.returns-clause-after
returns-clause-after c = taken_back_at c.args.step.v c.args.step.back _ _ _ _ (sym c.get_mut.ensures.value ∙ ap option_copied_mut c.in-Some.is) (((c.get_mut.follows.holds c.take_back.new.state).3 c.requires.place).0) c.take_back.ensures

pub returns-clause-others : goal.returns-clause-others
returns-clause-others c = covers_written c.args.step.v _ _ _ (((c.get_mut.follows.holds c.take_back.new.state).3 c.requires.place).0)
