use Rattle.std.proofs.Common.{rules, ◌≡◌, ◌∷◌, ◌++◌, [], List, ap, ◌∙◌}
use Rattle.std.proofs.lemmas.List.{nil_from_length}
use Rattle.vector_stamp.specs.declared.clock.Stamp.{Stamp}
use Rattle.vector_stamp.specs.Precedence.{GivenPair}
use Rattle.machine_tests.specs.PairEnds.{ends_more, ends_stay}
use Rattle.machine_tests.proofs.test_judge.TestJudgeJudge.settle.Goals as goal

pub returns-clause-known : goal.returns-clause-known
returns-clause-known c =
    let alone : c.args.earlier.now ≡ c.in-Some-split_first.event.now ∷ [] = c.in-Some-split_first.ensures.cases.0 ∙ ap (λ (others : List Stamp). c.in-Some-split_first.event.now ∷ others) (nil_from_length c.in-Some-split_first.others.now (search rules)) in
    let added : c.push_reserved.new.self.items ≡ c.args.self.now ++ (c.in-Some-split_first.event.now, c.args.later) ∷ [] = c.push_reserved.ensures.items ∙ ap (λ (pairs : List GivenPair). pairs ++ (c.in-Some-split_first.event.now, c.args.later) ∷ []) (c.in_ok-reserve.ensures.items ∙ c.self.view_is) in
    ends_more c.args.self.now c.push_reserved.new.self.items c.args.earlier.now c.in-Some-split_first.event.now c.args.later alone added

pub returns-clause-stay_known : goal.returns-clause-stay_known
returns-clause-stay_known c =
    let added : c.push_reserved.new.self.items ≡ c.args.self.now ++ (c.in-Some-split_first.event.now, c.args.later) ∷ [] = c.push_reserved.ensures.items ∙ ap (λ (pairs : List GivenPair). pairs ++ (c.in-Some-split_first.event.now, c.args.later) ∷ []) (c.in_ok-reserve.ensures.items ∙ c.self.view_is) in
    ends_stay c.args.self.now c.push_reserved.new.self.items (c.in-Some-split_first.event.now, c.args.later) added
