use Rattle.std.proofs.Common.{◌<◌, sym, ap, subst, ◌∙◌}
use Rattle.weave_entries.specs.ShardReplay.{kept_of}
use Rattle.weave_account.specs.Account.{shard_log}
use Rattle.weaver_core.specs.Cores.{CoreView}
use Rattle.weaver_core.proofs.script_core.Core.kept.Goals as goal

pub kept-requires : goal.kept-requires
kept-requires c = record {
  are = c.self.invariant.0;
  shard = subst (λ (v : CoreView). c.args.shard < v.script.shards) (sym c.self.view_is) c.requires;
}

pub returns : goal.returns
returns c = c.kept.ensures ∙ ap (λ (v : CoreView). kept_of c.args.v (shard_log v.state.account c.args.shard)) c.self.view_is
