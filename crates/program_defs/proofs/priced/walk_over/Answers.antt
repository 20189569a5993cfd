use Rattle.std.proofs.Common.{◌∙◌, sym, ap, reverse, arith}
use Rattle.program_defs.proofs.NumberedRows.{in-table}
use Rattle.program_defs.proofs.WalkBack.{gone-on, gone-all}
use Rattle.program_defs.proofs.priced.walk_over.Goals as goal

pub name_at-requires-in-Some : goal.name_at-requires-in-Some
name_at-requires-in-Some c =
    let falls = c.requires.falling c.loop-before.at c.in-Some.before (sym c.parent_of.ensures ∙ c.in-Some.is) in
    omega (arith, in-table c.args.labels.now c.in-Some.before falls.1 falls.3, c.requires.vertices)

pub loop-before-preserved : goal.loop-before-preserved
loop-before-preserved c =
    let parent = sym c.parent_of.ensures ∙ c.in-Some.is in
    let falls = c.requires.falling c.loop-before.at c.in-Some.before parent in
    record {
      place = in-table c.args.labels.now c.in-Some.before falls.1 falls.3;
      walk = gone-on c.args.vertices.now c.args.parents.now c.args.place c.loop-before.at c.in-Some.before c.loop-before.walk.items c.push-in-Some.new.self.items c.name_at-in-Some.result parent c.name_at-in-Some.ensures c.in_ok-push-2.ensures.items c.loop-before.invariant.walk;
    }

pub returns : goal.returns
returns c =
    let gone = gone-all c.args.vertices.now c.args.parents.now c.args.place c.loop-before.at c.loop-before.walk.items (sym c.parent_of.ensures ∙ c.in_default.is) c.loop-before.invariant.walk in
    (gone.0, gone.1, c.from_vec.ensures ∙ c.reverse.ensures.items ∙ ap reverse gone.2)
