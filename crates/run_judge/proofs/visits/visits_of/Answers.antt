use Rattle.std.proofs.Common.{IsTrue, sym, subst}
use Rattle.std.specs.Prelude.{◌↔◌}
use Rattle.graph_ops.specs.Graphs.{plain_of}
use Rattle.graph_ops.specs.Mentions.{is_among}
use Rattle.program_defs.specs.declared.program.Program.{Program}
use Rattle.program_defs.specs.declared.program.Program.TheVariants.{Reach, Around, Path, Price}
use Rattle.program_defs.specs.Visits.{IsVisited}
use Rattle.run_judge.proofs.VisitLaws.{on_value}
use Rattle.run_judge.proofs.visits.visits_of.Goals as goal

pub searched-requires-in-Price : goal.searched-requires-in-Price
searched-requires-in-Price c = (Price c.in-Price.from c.in-Price._to c.in-Price.key, c.price-aim.ensures c.in-Price._to)

pub returns-in-Reach : goal.returns-in-Reach
returns-in-Reach c =
    on_value c.searched.result _ _
    (λ visits h v. subst (λ (p : Program). IsTrue (is_among visits.items v) ↔ IsVisited (plain_of c.args.graph.now) p v) (sym c.in-Reach.is) (h (Reach c.in-Reach.from c.in-Reach.to c.in-Reach.pass) c.reach-aim.ensures v)) c.searched.ensures

pub returns-in-Around : goal.returns-in-Around
returns-in-Around c =
    on_value c.searched-in-Around.result _ _
    (λ visits h v. subst (λ (p : Program). IsTrue (is_among visits.items v) ↔ IsVisited (plain_of c.args.graph.now) p v) (sym c.in-Around.is) (h (Around c.in-Around.from c.in-Around.bound c.in-Around.pass) c.around-aim.ensures v)) c.searched-in-Around.ensures

pub returns-in-Path : goal.returns-in-Path
returns-in-Path c =
    on_value c.searched-in-Path.result _ _
    (λ visits h v. subst (λ (p : Program). IsTrue (is_among visits.items v) ↔ IsVisited (plain_of c.args.graph.now) p v) (sym c.in-Path.is) (h (Path c.in-Path.from c.in-Path.to c.in-Path.bound c.in-Path.pass) c.path-aim.ensures v)) c.searched-in-Path.ensures

pub returns-in-Price : goal.returns-in-Price
returns-in-Price c =
    on_value c.searched-in-Price.result _ _
    (λ visits h v. subst (λ (p : Program). IsTrue (is_among visits.items v) ↔ IsVisited (plain_of c.args.graph.now) p v) (sym c.in-Price.is) (h (Price c.in-Price.from c.in-Price._to c.in-Price.key) (c.price-aim.ensures c.in-Price._to) v)) c.searched-in-Price.ensures
