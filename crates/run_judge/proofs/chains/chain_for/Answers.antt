use Rattle.std.proofs.Common.{[], List, length, ap, arith}
use Rattle.std.proofs.lemmas.List.{get_or_past}
use Rattle.run_judge.proofs.chains.chain_for.Goals as goal

pub returns-clause-goes_on : goal.returns-clause-goes_on
returns-clause-goes_on c some =
    absurd (let none = ap (λ (xs : List _). length xs) (get_or_past c.args.lists.now (length c.args.lists.now) [] (omega arith)) in omega (arith, some, none))
