use Rattle.std.proofs.Common.{ℕ, ◌+◌, ◌<◌, ◌≤◌, IsTrue, sym, ap, subst, ◌∙◌}
use Rattle.std.specs.Prelude.{is_some}
use Rattle.weave_entries.specs.ShardReplay.{arrived_at, processed_count}
use Rattle.weave_account.specs.Account.{shard_log}
use Rattle.weaver_core.specs.Cores.{AreOf, MachinesView}
use Rattle.weaver_core.proofs.MessagesDone.{shard-there}
use Rattle.weaver_core.proofs.Resting.{sender-there}
use Rattle.weaver_core.proofs.machines.Machines.next_message.Goals as goal

pub next_number-requires : goal.next_number-requires
next_number-requires c =
    let m = c.self.inside in
    let script = c.args.script.now in
    let are = subst (λ (v : MachinesView). AreOf script v) (sym c.self.view_is) c.requires.are in
    record {
      there = shard-there script m.gates m.store m.oracle m.shards m.clients m.notices.items are c.args.shard c.requires.shard;
      gate = sender-there script _ c.args.gate are.frame c.requires.gate;
    }

pub returns-clause-number : goal.returns-clause-number
returns-clause-number c = c.next_number.ensures.number ∙ ap (λ (v : MachinesView). processed_count c.args.gate (shard_log v.state.account c.args.shard) + 1) c.self.view_is

pub returns-clause-arrived : goal.returns-clause-arrived
returns-clause-arrived c =
    subst (λ (v : MachinesView). (n : ℕ) → 1 ≤ n → n < c.next_number.result → IsTrue (is_some (arrived_at c.args.gate n (shard_log v.state.account c.args.shard)))) c.self.view_is c.next_number.ensures.arrived
