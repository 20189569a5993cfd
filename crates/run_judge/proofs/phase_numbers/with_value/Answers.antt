use Rattle.std.proofs.Common.{◌∙◌, None}
use Rattle.std.proofs.lemmas.List.{get_or_default}
use Rattle.run_judge.proofs.NumberLaws.{number_more}
use Rattle.run_judge.proofs.phase_numbers.with_value.Goals as goal

pub returns-in-Some : goal.returns-in-Some
returns-in-Some c =
    number_more c.args.values.now c.args.place c.in-Some.number c.args.most c.greater.result c.requires.most (get_or_default c.args.values.now c.args.place None _ c.requires.within ∙ c.in-Some.is) c.greater.ensures
