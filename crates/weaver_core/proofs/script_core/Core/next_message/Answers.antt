use Rattle.std.proofs.Common.{ℕ, ◌+◌, ◌<◌, ◌≤◌, IsTrue, sym, ap, subst, ◌∙◌}
use Rattle.std.specs.Prelude.{is_some}
use Rattle.weave_entries.specs.ShardReplay.{arrived_at, processed_count}
use Rattle.weave_account.specs.Account.{shard_log}
use Rattle.weaver_core.specs.Cores.{CoreView}
use Rattle.weaver_core.proofs.script_core.Core.next_message.Goals as goal

pub next_message-requires : goal.next_message-requires
next_message-requires c = record {
  are = c.self.invariant.0;
  shard = subst (λ (v : CoreView). c.args.shard < v.script.shards) (sym c.self.view_is) c.requires.shard;
  gate = subst (λ (v : CoreView). c.args.gate < v.script.gates) (sym c.self.view_is) c.requires.gate;
}

pub returns-clause-number : goal.returns-clause-number
returns-clause-number c = c.next_message.ensures.number ∙ ap (λ (v : CoreView). processed_count c.args.gate (shard_log v.state.account c.args.shard) + 1) c.self.view_is

pub returns-clause-arrived : goal.returns-clause-arrived
returns-clause-arrived c =
    subst (λ (v : CoreView). (n : ℕ) → 1 ≤ n → n < c.next_message.result → IsTrue (is_some (arrived_at c.args.gate n (shard_log v.state.account c.args.shard)))) c.self.view_is c.next_message.ensures.arrived
