use Rattle.order_graph.proofs.Building.{built_acyclic}
use Rattle.order_graph.proofs.laws.no_cycle_is_built.Goals as goal

pub returns : goal.returns
returns c =
    let acyclic = built_acyclic c.no_cycle_arises.ensures.at_first c.no_cycle_arises.ensures.one_pair in
    record {
      none_precedes_itself = λ pairs built stamp coherent way. acyclic pairs built stamp ((c.precedence_is_decided.ensures.tested pairs stamp stamp).0 way);
      acyclic = acyclic;
    }
