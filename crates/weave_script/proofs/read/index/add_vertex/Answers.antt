use Rattle.std.proofs.Common.{false, ◌≡◌}
use Rattle.weave_data.specs.Pairs.{has}
use Rattle.weave_script.proofs.Indexing.{set_put, one_longer}
use Rattle.weave_script.proofs.read.index.add_vertex.Goals as goal

pub returns-in_ok-insert : goal.returns-in_ok-insert
returns-in_ok-insert c = λ names set.
    let new : has c.args.name c.args.vertices.now.entries ≡ false = cc (c.contains_key.ensures, c.if-not-contains_key.true) in
    set_put c.args.vertices.now.entries _ names c.args.name tt c.in_ok-insert.ensures.updates.0 (one_longer c.args.name _ _ _ c.in_ok-insert.ensures.old c.in_ok-insert.ensures.len new) set new
