use Rattle.std.proofs.Common.{◌≡◌, ◌∙◌, sym, subst}
use Rattle.weave_data.proofs.Results.{on_err_map}
use Rattle.program_defs.specs.declared.script.Step.TheVariants.{Send}
use Rattle.report_rules.specs.declared.report.StepAnswer.{StepAnswer}
use Rattle.weaver_core.specs.Cores.{MachinesDo, MachinesView, CanBeGiven, machines_of}
use Rattle.weaver_core.specs.Sending.{SendsJudgedFlight}
use Rattle.weaver_core.proofs.Resting.{gate-there, same-gates}
use Rattle.weaver_core.proofs.Results.{if_ok_map}
use Rattle.weaver_core.proofs.SendDone.{send-done}
use Rattle.weaver_core.proofs.machines.Machines.send.Goals as goal

pub send_in-requires : goal.send_in-requires
send_in-requires c =
    let script = c.args.script.now in
    let g = c.args.gate in
    let may = subst (λ (v : MachinesView). CanBeGiven script v (Send g)) (sym c.self.view_is) c.requires in
    record {
      there = gate-there script _ g may.are.frame may.there;
      counts = c.judgements_are_of_requests.ensures.counts script _ may.are.limits may.are.core.account;
    }

pub returns-clause-done : goal.returns-clause-done
returns-clause-done c =
    let m = c.self.inside in
    let script = c.args.script.now in
    let g = c.args.gate in
    let may = subst (λ (v : MachinesView). CanBeGiven script v (Send g)) (sym c.self.view_is) c.requires in
    let new = c.send_in.new.gates in
    if_ok_map c.send_in.result (SendsJudgedFlight m.gates new m.store g) _
    (λ (a : StepAnswer) did. subst (λ (v : MachinesView). MachinesDo script (Send g) v (machines_of new m.store m.oracle m.shards m.clients m.notices.items) a) c.self.view_is
    (send-done script m.gates m.store m.oracle m.shards m.clients m.notices.items may.are new g a did))
    c.send_in.ensures.sends

pub returns-clause-refused : goal.returns-clause-refused
returns-clause-refused c =
    let m = c.self.inside in
    on_err_map c.send_in.result (c.send_in.new.gates ≡ m.gates) _ (λ is. same-gates m.gates m.store m.oracle m.shards m.clients m.notices.items c.send_in.new.gates is ∙ c.self.view_is) c.send_in.ensures.refused
