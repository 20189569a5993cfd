use Rattle.std.proofs.Common.{is_some, sym, ap, ◌∙◌}
use Rattle.std.specs.Option.{option_copied_mut}
use Rattle.graph_ops.proofs.States.{done, kept, refused, as_it_was, covers_written}
use Rattle.graph_ops.proofs.journal.perform.Goals as goal

pub returns-clause-done : goal.returns-clause-done
returns-clause-done c = done c.args.op.now _ c.vertex.ensures _ _ _ _ (sym c.get_mut.ensures.value ∙ ap option_copied_mut c.in-Some.is) (λ h. ((c.get_mut.follows.holds c.do_op.new.state).3 h).0) _ c.do_op.ensures

pub returns-clause-back : goal.returns-clause-back
returns-clause-back c = kept c.args.op.now _ c.vertex.ensures _ _ _ _ (sym c.get_mut.ensures.value ∙ ap option_copied_mut c.in-Some.is) (λ h. ((c.get_mut.follows.holds c.do_op.new.state).3 h).0) _ c.do_op.ensures

pub returns-clause-refused : goal.returns-clause-refused
returns-clause-refused c = refused c.args.op.now _ c.vertex.ensures _ _ _ _ (sym c.get_mut.ensures.value ∙ ap option_copied_mut c.in-Some.is) (λ h. ((c.get_mut.follows.holds c.do_op.new.state).3 h).0) _ c.do_op.ensures

pub returns-clause-unchanged : goal.returns-clause-unchanged
returns-clause-unchanged c = as_it_was c.args.op.now _ c.vertex.ensures _ _ _ _ (sym c.get_mut.ensures.value ∙ ap option_copied_mut c.in-Some.is) (λ h. ((c.get_mut.follows.holds c.do_op.new.state).3 h).0) _ c.do_op.ensures

pub returns-clause-others : goal.returns-clause-others
returns-clause-others c = covers_written c.vertex.result _ _ _ (((c.get_mut.follows.holds c.do_op.new.state).3 (ap is_some (sym c.get_mut.ensures.value ∙ ap option_copied_mut c.in-Some.is))).0)
