use Rattle.vector_stamp.proofs.Pairs.{acyclic_nil, acyclic_push}
use Rattle.vector_stamp.proofs.Settle.{acyclic_after, permitted_none}
use Rattle.vector_stamp.proofs.laws.no_cycle_arises.Goals as goal

pub returns : goal.returns
returns c =
    record {
      at_first = acyclic_nil;
      one_pair = acyclic_push;
      settled = λ pairs earlier later none others permitted. acyclic_after 0 pairs earlier later none (λ event h. (others event h, permitted_none pairs earlier later permitted event h));
    }
