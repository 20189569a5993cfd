use Rattle.std.proofs.Common.{IsTrue, sym, subst}
use Rattle.std.specs.Prelude.{◌↔◌}
use Rattle.graph_ops.specs.Graphs.{plain_of}
use Rattle.program_defs.specs.declared.program.Program.TheVariants.{Reach, Around, Path}
use Rattle.program_defs.specs.declared.program.Answer.TheVariants.{Reached, Found, Walk}
use Rattle.graph_ops.specs.Mentions.{is_among}
use Rattle.program_defs.specs.PlainAnswer.{IsPlainAnswer}
use Rattle.program_defs.specs.Searching.{has_name}
use Rattle.program_defs.specs.Visits.{IsVisited, as_set}
use Rattle.program_defs.proofs.Answering.{reach-answer, around-answer}
use Rattle.program_defs.proofs.Asking.{answer-of-all, all-of-walk, visited-of-all}
use Rattle.program_defs.proofs.plain.ask_with_visits.Goals as goal

pub returns-in_ok-search-in-Reach-clause-answer : goal.returns-in_ok-search-in-Reach-clause-answer
returns-in_ok-search-in-Reach-clause-answer c =
    let program = Reach c.in-Reach.from c.in-Reach.to c.in-Reach.pass in
    let found = c.in_ok-search-in-Reach.ensures program c.reach-aim.ensures in let all = found.all in
    subst (λ p. IsPlainAnswer (plain_of c.args.graph.now) p (Reached c.is_present.result)) (sym c.in-Reach.is)
    (subst (λ b. IsPlainAnswer (plain_of c.args.graph.now) program (Reached b)) (sym c.is_present.ensures)
    (answer-of-all program (plain_of c.args.graph.now) c.in_ok-search-in-Reach.search (Reached (is_among c.in_ok-search-in-Reach.search.present c.in-Reach.to)) all (reach-answer c.in-Reach.from c.in-Reach.to c.in-Reach.pass c.in_ok-search-in-Reach.search all.read.reads all.read.searched)))

pub returns-in_ok-present-in-Around-clause-answer : goal.returns-in_ok-present-in-Around-clause-answer
returns-in_ok-present-in-Around-clause-answer c =
    let program = Around c.in-Around.from c.in-Around.bound c.in-Around.pass in
    let found = c.in_ok-search-in-Around.ensures program c.around-aim.ensures in let all = found.all in
    subst (λ p. IsPlainAnswer (plain_of c.args.graph.now) p (Found c.in_ok-present-in-Around.field-0)) (sym c.in-Around.is)
    (subst (λ vs. IsPlainAnswer (plain_of c.args.graph.now) program (Found vs)) (sym (c.in_ok-present-in-Around.ensures all.read.searched.found.once))
    (answer-of-all program (plain_of c.args.graph.now) c.in_ok-search-in-Around.search (Found (as_set c.in_ok-search-in-Around.search.present)) all (around-answer c.in-Around.from c.in-Around.bound c.in-Around.pass c.in_ok-search-in-Around.search all.read.reads all.read.searched)))

pub returns-in_ok-walk-in-Path-clause-answer : goal.returns-in_ok-walk-in-Path-clause-answer
returns-in_ok-walk-in-Path-clause-answer c =
    let program = Path c.in-Path.from c.in-Path.to c.in-Path.bound c.in-Path.pass in
    let found = c.in_ok-search-in-Path.ensures program c.path-aim.ensures in let all = found.all in
    subst (λ p. IsPlainAnswer (plain_of c.args.graph.now) p (Walk c.in_ok-walk-in-Path.field-0)) (sym c.in-Path.is)
    (answer-of-all program (plain_of c.args.graph.now) c.in_ok-search-in-Path.search.search (Walk c.in_ok-walk-in-Path.field-0) (all-of-walk program (plain_of c.args.graph.now) c.in_ok-search-in-Path.search all) (c.in_ok-walk-in-Path.ensures c.in-Path.from c.in-Path.to c.in-Path.bound c.in-Path.pass all.read.reads all.read.walked))

-- Which vertices it visits

pub returns-in_ok-search-in-Reach-clause-visits : goal.returns-in_ok-search-in-Reach-clause-visits
returns-in_ok-search-in-Reach-clause-visits c = λ v.
    let program = Reach c.in-Reach.from c.in-Reach.to c.in-Reach.pass in
    let found = c.in_ok-search-in-Reach.ensures program c.reach-aim.ensures in
    subst (λ p. IsTrue (has_name c.searched.new.visits v) ↔ IsVisited (plain_of c.args.graph.now) p v) (sym c.in-Reach.is)
    (visited-of-all program (plain_of c.args.graph.now) c.in_ok-search-in-Reach.search c.searched.new.visits found.all found.noted v)

pub returns-in_ok-present-in-Around-clause-visits : goal.returns-in_ok-present-in-Around-clause-visits
returns-in_ok-present-in-Around-clause-visits c = λ v.
    let program = Around c.in-Around.from c.in-Around.bound c.in-Around.pass in
    let found = c.in_ok-search-in-Around.ensures program c.around-aim.ensures in
    subst (λ p. IsTrue (has_name c.searched-in-Around.new.visits v) ↔ IsVisited (plain_of c.args.graph.now) p v) (sym c.in-Around.is)
    (visited-of-all program (plain_of c.args.graph.now) c.in_ok-search-in-Around.search c.searched-in-Around.new.visits found.all found.noted v)

pub returns-in_ok-walk-in-Path-clause-visits : goal.returns-in_ok-walk-in-Path-clause-visits
returns-in_ok-walk-in-Path-clause-visits c = λ v.
    let program = Path c.in-Path.from c.in-Path.to c.in-Path.bound c.in-Path.pass in
    let found = c.in_ok-search-in-Path.ensures program c.path-aim.ensures in
    subst (λ p. IsTrue (has_name c.walked.new.visits v) ↔ IsVisited (plain_of c.args.graph.now) p v) (sym c.in-Path.is)
    (visited-of-all program (plain_of c.args.graph.now) c.in_ok-search-in-Path.search.search c.walked.new.visits (all-of-walk program (plain_of c.args.graph.now) c.in_ok-search-in-Path.search found.all) found.noted v)

-- Each search is that of a program

pub searched-requires-clause-program : goal.searched-requires-clause-program
searched-requires-clause-program c = (Reach c.in-Reach.from c.in-Reach.to c.in-Reach.pass, c.reach-aim.ensures)

pub searched-requires-in-Around-clause-program : goal.searched-requires-in-Around-clause-program
searched-requires-in-Around-clause-program c = (Around c.in-Around.from c.in-Around.bound c.in-Around.pass, c.around-aim.ensures)

pub walked-requires-clause-program : goal.walked-requires-clause-program
walked-requires-clause-program c = (Path c.in-Path.from c.in-Path.to c.in-Path.bound c.in-Path.pass, c.path-aim.ensures)
