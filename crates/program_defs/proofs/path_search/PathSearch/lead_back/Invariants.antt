use Rattle.std.proofs.Common.{ℕ, ◌≤◌, IsTrue}
use Rattle.graph_ops.specs.Mentions.{is_among}
use Rattle.graph_ops.specs.PlainGraph.{PlainGraph}
use Rattle.program_defs.specs.declared.passing.Passing.{Passing}
use Rattle.program_defs.specs.Visits.{levels_to}
use Rattle.program_defs.specs.LeastWalks.{IsRankedTo, mark_in, parents, ranks}
use Rattle.program_defs.proofs.Backs.{HasLedBack}
use Rattle.program_defs.proofs.path_search.PathSearch.lead_back.Given as goal

abbrev pub invariant-loop-count : goal.invariant-loop-count
invariant-loop-count l = (graph : PlainGraph) (pass : Passing) (d : ℕ) → d ≤ l.bound → IsRankedTo d graph pass l.self.search.aim.from (mark_in l.self.marks) → IsTrue (is_among (levels_to d graph pass l.self.search.aim.from).level l.fn.to)
    → HasLedBack graph pass l.self.search.aim.from (parents (mark_in l.self.marks)) (ranks (mark_in l.self.marks)) d l.fn.to l.v l.walk.items l._count
