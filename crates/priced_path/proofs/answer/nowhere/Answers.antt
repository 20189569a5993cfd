use Rattle.std.proofs.Common.{sym, subst, List, None}
use Rattle.program_defs.specs.PlainAnswer.{IsPlainAnswer}
use Rattle.program_defs.specs.declared.program.Answer.TheVariants.{Priced}
use Rattle.program_defs.specs.declared.program.Bound.{Bound}
use Rattle.program_defs.specs.declared.program.Program.TheVariants.{Price}
use Rattle.priced_path.proofs.answer.nowhere.Goals as goal

pub returns : goal.returns
returns c = λ graph from to key absent. subst (λ (bounds : List Bound). IsPlainAnswer graph (Price from to key) (Priced None 0 bounds)) (sym c.new.ensures) (c.absent_starts_lead_nowhere.ensures graph from to key absent)
