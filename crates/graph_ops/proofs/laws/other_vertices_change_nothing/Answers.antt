use Rattle.graph_ops.proofs.Alike.{run-alike}
use Rattle.graph_ops.proofs.Naming.{agree-named}
use Rattle.graph_ops.proofs.laws.other_vertices_change_nothing.Goals as goal

pub returns : goal.returns
returns c = λ ops first second alike. run-alike ops 1 first second (agree-named ops first second alike)
