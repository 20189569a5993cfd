use Rattle.std.proofs.Common.{◌≡◌, List, Some, IsSome, sym, ap, subst, ◌∙◌, refl}
use Rattle.std.specs.Map.{lookup}
use Rattle.std.specs.Option.{option_copied_mut}
use Rattle.weave_data.specs.Names.{same_name}
use Rattle.weave_data.proofs.Results.{on_ok_map, on_err_map}
use Rattle.graph_ops.specs.declared.op.Op.{Op}
use Rattle.version_chain.specs.Chains.{with_update}
use Rattle.version_graph.proofs.Chains.{updated, same_place, Writes}
use Rattle.version_graph.proofs.table.update.Goals as goal

pub returns-clause-applied : goal.returns-clause-applied
returns-clause-applied c =
    let found : lookup (same_name c.args.part.now.vertex) c.args.table.now.entries ≡ Some c.in-Some.chain.now = sym c.get_mut.ensures.value ∙ ap option_copied_mut c.in-Some.is in
    let writes : Writes c.args.part.now.vertex c.apply_update.new.self c.args.table.now.entries (c.get_mut.follows.lender c.apply_update.new.self).entries = ((c.get_mut.follows.holds c.apply_update.new.self).3 (subst IsSome (sym found) refl)).0 in
    on_ok_map c.apply_update.result _ _ (λ is. updated c.args.stamp c.args.part.now _ _ c.in-Some.chain.now c.apply_update.new.self found writes (is ∙ ap (λ (ops : List Op). with_update c.args.stamp ops c.in-Some.chain.now) c.as_slice.ensures)) c.apply_update.ensures.applied

pub returns-clause-refused : goal.returns-clause-refused
returns-clause-refused c =
    let found : lookup (same_name c.args.part.now.vertex) c.args.table.now.entries ≡ Some c.in-Some.chain.now = sym c.get_mut.ensures.value ∙ ap option_copied_mut c.in-Some.is in
    let writes : Writes c.args.part.now.vertex c.apply_update.new.self c.args.table.now.entries (c.get_mut.follows.lender c.apply_update.new.self).entries = ((c.get_mut.follows.holds c.apply_update.new.self).3 (subst IsSome (sym found) refl)).0 in
    on_err_map c.apply_update.result _ _ (λ is. same_place c.args.part.now.vertex _ _ c.in-Some.chain.now found (subst (λ chain. Writes c.args.part.now.vertex chain c.args.table.now.entries (c.get_mut.follows.lender c.apply_update.new.self).entries) is writes)) c.apply_update.ensures.refused
