use Rattle.std.proofs.Common.{sym, ap, subst, ◌∙◌}
use Rattle.weave_entries.specs.ShardReplay.{kept_of}
use Rattle.weave_account.specs.Account.{shard_log}
use Rattle.weaver_core.specs.Cores.{AreOf, MachinesView}
use Rattle.weaver_core.proofs.MessagesDone.{shard-there}
use Rattle.weaver_core.proofs.machines.Machines.kept.Goals as goal

pub kept-requires : goal.kept-requires
kept-requires c =
    let m = c.self.inside in
    let script = c.args.script.now in
    let are = subst (λ (v : MachinesView). AreOf script v) (sym c.self.view_is) c.requires.are in
    shard-there script m.gates m.store m.oracle m.shards m.clients m.notices.items are c.args.shard c.requires.shard

pub returns : goal.returns
returns c = c.kept.ensures ∙ ap (λ (v : MachinesView). kept_of c.args.v (shard_log v.state.account c.args.shard)) c.self.view_is
