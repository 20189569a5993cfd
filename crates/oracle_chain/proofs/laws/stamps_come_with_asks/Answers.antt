use Rattle.oracle_chain.proofs.Knowing.{known-new, known-by-call}
use Rattle.oracle_chain.proofs.laws.stamps_come_with_asks.Goals as goal

pub returns : goal.returns
returns c = record {
  new = known-new;
  called = λ chain call is may. known-by-call c.parts_and_unions_are_coherent.ensures.part chain is call may;
}
