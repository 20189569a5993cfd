use Rattle.std.proofs.Common.{sym, subst, Some, List}
use Rattle.weave_data.specs.declared.name.Name.{Name}
use Rattle.program_defs.specs.Labels.{bounds_of}
use Rattle.program_defs.specs.PricedAnswer.{IsPricedAnswer}
use Rattle.program_defs.proofs.WalkBack.{no-walk-back, walk-back}
use Rattle.program_defs.proofs.priced.least_walk.Goals as goal

pub returns-in-None : goal.returns-in-None
returns-in-None c = λ graph from key start rows between begin cert all are.
    no-walk-back graph key from c.args.vertices.now rows c.args.labels.now start between begin (sym c.requires.vertices) cert all c.args.parents.now are c.args.to c.in-None.ensures.none

pub returns-in_ok-walk-in-Some : goal.returns-in_ok-walk-in-Some
returns-in_ok-walk-in-Some c = λ graph from key start rows between begin cert all are.
    let there = c.in-Some.ensures.some in
    let gone = c.in_ok-walk-in-Some.ensures in
    subst (λ (walk : List Name). IsPricedAnswer graph from c.args.to key (Some walk) c.in-Some.total (bounds_of c.args.vertices.now c.args.labels.now)) (sym gone.2)
    (walk-back graph key from c.args.vertices.now rows c.args.labels.now start between begin (sym c.requires.vertices) cert all c.args.parents.now are c.args.to c.in-Some.place c.in-Some.total gone.0 there.0 there.1 gone.1)
