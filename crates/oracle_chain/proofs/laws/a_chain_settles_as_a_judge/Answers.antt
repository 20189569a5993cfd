use Rattle.oracle_chain.specs.Joining.{chain_pairs_known}
use Rattle.oracle_chain.proofs.Giving.{judge-keeps-tail-pairs}
use Rattle.oracle_chain.proofs.AsJudge.{settles, settled-pairs-stay}
use Rattle.oracle_chain.proofs.laws.a_chain_settles_as_a_judge.Goals as goal

pub returns : goal.returns
returns c =
    let part = c.parts_and_unions_are_coherent.ensures.part in
    record {
      settles = λ chain ask is may. settles part chain ask is may;
      pairs_known = chain_pairs_known;
      pairs_stay = λ chain ask calls is may mays. settled-pairs-stay part chain ask is may calls mays;
      tail_pairs_stay = judge-keeps-tail-pairs part;
    }
