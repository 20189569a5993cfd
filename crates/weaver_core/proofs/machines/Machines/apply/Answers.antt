use Rattle.std.proofs.Common.{◌≡◌, ◌∙◌, sym, subst}
use Rattle.weave_data.proofs.Results.{on_err_map}
use Rattle.program_defs.specs.declared.script.Step.TheVariants.{Apply}
use Rattle.report_rules.specs.declared.report.StepAnswer.{StepAnswer}
use Rattle.weaver_core.specs.Cores.{MachinesDo, MachinesView, CanBeGiven, machines_of}
use Rattle.weaver_core.specs.Messages.{AppliesAtShard}
use Rattle.weaver_core.proofs.MessagesDone.{apply-done, shard-there}
use Rattle.weaver_core.proofs.Resting.{same-shards, sender-there}
use Rattle.weaver_core.proofs.Results.{if_ok_map}
use Rattle.weaver_core.proofs.machines.Machines.apply.Goals as goal

-- that a head passes whose counts agree is the law of accounts
pub apply_in-requires : goal.apply_in-requires
apply_in-requires c =
    let m = c.self.inside in
    let script = c.args.script.now in
    let s = c.args.shard in
    let g = c.args.gate in
    let may = subst (λ (v : MachinesView). CanBeGiven script v (Apply s g)) (sym c.self.view_is) c.requires in
    record {
      there = shard-there script m.gates m.store m.oracle m.shards m.clients m.notices.items may.are s may.there.0;
      gate = sender-there script _ g may.are.frame may.there.1;
      passes = λ head is waits. c.heads_pass.ensures.passes script _ may.are.limits may.are.core.account s g head is waits;
    }

pub returns-clause-done : goal.returns-clause-done
returns-clause-done c =
    let m = c.self.inside in
    let script = c.args.script.now in
    let s = c.args.shard in
    let g = c.args.gate in
    let new = c.apply_in.new.shards in
    if_ok_map c.apply_in.result (AppliesAtShard m.shards new s g) _
    (λ (a : StepAnswer) did. subst (λ (v : MachinesView). MachinesDo script (Apply s g) v (machines_of m.gates m.store m.oracle new m.clients m.notices.items) a) c.self.view_is
    (apply-done script m.gates m.store m.oracle m.shards m.clients m.notices.items new s g a did))
    c.apply_in.ensures.applies

pub returns-clause-refused : goal.returns-clause-refused
returns-clause-refused c =
    let m = c.self.inside in
    on_err_map c.apply_in.result (c.apply_in.new.shards ≡ m.shards) _ (λ is. same-shards m.gates m.store m.oracle m.shards m.clients m.notices.items c.apply_in.new.shards is ∙ c.self.view_is) c.apply_in.ensures.refused
