use Rattle.std.proofs.Common.{sym, ◌∙◌, arith}
use Rattle.weave_script.proofs.Numbers.{number_up_to-most}
use Rattle.weave_script.proofs.read.fields.number_in.Goals as goal

pub overflow_cast-n : goal.overflow_cast-n
overflow_cast-n c = omega (arith, number_up_to-most c.from.result c.args.word.now c.in-Number.n (sym c.number_up_to.ensures ∙ c.in-Number.is), c.ranges.most)
