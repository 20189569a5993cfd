use Rattle.std.proofs.Common.{◌≡◌, ◌<◌, ◌^◌, ◌-◌, ◌∙◌, length, sym, subst, arith}
use Rattle.weave_data.proofs.Results.{on_err_map}
use Rattle.program_defs.specs.declared.script.Step.TheVariants.{Deliver}
use Rattle.report_rules.specs.declared.report.StepAnswer.{StepAnswer}
use Rattle.weave_entries.specs.StoreReplay.{commits_of}
use Rattle.weaver_core.specs.Cores.{MachinesDo, MachinesView, CanBeGiven, machines_of}
use Rattle.weaver_core.specs.Messages.{DeliversToShard}
use Rattle.weaver_core.proofs.MessagesDone.{can-be-taken, deliver-done, shard-there}
use Rattle.weaver_core.proofs.Resting.{gate-there, same-shards, sender-there}
use Rattle.weaver_core.proofs.Results.{if_ok_map}
use Rattle.weaver_core.proofs.machines.Machines.deliver.Goals as goal

pub deliver_in-requires : goal.deliver_in-requires
deliver_in-requires c =
    let m = c.self.inside in
    let script = c.args.script.now in
    let g = c.args.gate in
    let s = c.args.shard in
    let may = subst (λ (v : MachinesView). CanBeGiven script v (Deliver g s c.args.number)) (sym c.self.view_is) c.requires in
    let made = c.commits-commits.ensures.count in
    let small = c.commits-commits.ensures.small in
    let few : length (commits_of m.store) < 2 ^ 64 - 1 = omega (arith, made, small) in
    record {
      there = gate-there script _ g may.are.frame may.there.0;
      shard = shard-there script m.gates m.store m.oracle m.shards m.clients m.notices.items may.are s may.there.1;
      gate = sender-there script _ g may.are.frame may.there.0;
      number = may.there.2;
      takable = can-be-taken script m.gates m.store m.oracle m.shards m.clients m.notices.items c.messages_can_be_taken.ensures.takable may.are few g s c.args.number;
    }

pub returns-clause-done : goal.returns-clause-done
returns-clause-done c =
    let m = c.self.inside in
    let script = c.args.script.now in
    let g = c.args.gate in
    let s = c.args.shard in
    let n = c.args.number in
    let new = c.deliver_in.new.shards in
    if_ok_map c.deliver_in.result (DeliversToShard m.gates m.shards new g s n) _
    (λ (a : StepAnswer) did. subst (λ (v : MachinesView). MachinesDo script (Deliver g s n) v (machines_of m.gates m.store m.oracle new m.clients m.notices.items) a) c.self.view_is
    (deliver-done script m.gates m.store m.oracle m.shards m.clients m.notices.items new g s n a did))
    c.deliver_in.ensures.delivers

pub returns-clause-refused : goal.returns-clause-refused
returns-clause-refused c =
    let m = c.self.inside in
    on_err_map c.deliver_in.result (c.deliver_in.new.shards ≡ m.shards) _ (λ is. same-shards m.gates m.store m.oracle m.shards m.clients m.notices.items c.deliver_in.new.shards is ∙ c.self.view_is) c.deliver_in.ensures.refused
