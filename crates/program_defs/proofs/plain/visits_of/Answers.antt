use Rattle.std.proofs.Common.{IsTrue, sym, subst}
use Rattle.std.specs.Prelude.{◌↔◌}
use Rattle.graph_ops.specs.Graphs.{plain_of}
use Rattle.program_defs.specs.declared.program.Program.{Program}
use Rattle.program_defs.specs.declared.program.Program.TheVariants.{Price}
use Rattle.program_defs.specs.Searching.{has_name}
use Rattle.program_defs.specs.Visits.{IsVisited}
use Rattle.program_defs.proofs.Asking.{visited-of-all}
use Rattle.program_defs.proofs.plain.visits_of.Goals as goal

pub searched-requires-clause-program : goal.searched-requires-clause-program
searched-requires-clause-program c = (Price c.in-Price.from c.in-Price._to c.in-Price.key, c.price-aim.ensures c.in-Price._to)

pub returns : goal.returns
returns c = λ v.
    let program = Price c.in-Price.from c.in-Price._to c.in-Price.key in
    let found = c.in_ok-searched.ensures program (c.price-aim.ensures c.in-Price._to) in
    subst (λ (p : Program). IsTrue (has_name c.searched.new.visits v) ↔ IsVisited (plain_of c.args.graph.now) p v) (sym c.in-Price.is)
    (visited-of-all program (plain_of c.args.graph.now) c.in_ok-searched.field-0 c.searched.new.visits found.all found.noted v)
