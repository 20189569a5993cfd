use Rattle.std.proofs.Common.{◌≡◌, ◌∙◌, sym, ap, subst}
use Rattle.program_defs.specs.declared.script.Step.TheVariants.{Begin}
use Rattle.report_rules.specs.declared.report.StepAnswer.{StepAnswer}
use Rattle.weaver_core.specs.Beginning.{Begins}
use Rattle.weaver_core.specs.Sessions.{AreSameClients}
use Rattle.weaver_core.specs.Cores.{MachinesDo, MachinesView, CanBeGiven, machines_of}
use Rattle.weaver_core.proofs.BeginDone.{BeginLaws, begin-done, begin-values, ready}
use Rattle.weaver_core.proofs.Resting.{some-request}
use Rattle.weaver_core.proofs.Results.{either_way, if_ok_map, on_err_both}
use Rattle.weaver_core.proofs.machines.Machines.begin.Goals as goal

pub begin_in-requires : goal.begin_in-requires
begin_in-requires c =
    let m = c.self.inside in
    let script = c.args.script.now in
    let may = subst (λ (v : MachinesView). CanBeGiven script v (Begin c.args.request)) (sym c.self.view_is) c.requires in
    let laws : BeginLaws = record {
      requests = record { rise = c.requests_of_a_session_rise.ensures.rise; among = c.requests_of_a_session_rise.ensures.among };
      last = c.stamps_are_begun.ensures.last;
      begun = c.clocks_are_known.ensures.begun;
      may_be_heard = c.clocks_are_known.ensures.may_be_heard;
    } in
    record {
      there = some-request script c.args.request may.there;
      ready = ready script m.gates m.store m.oracle m.shards m.clients m.notices.items may.are c.args.request laws;
    }

pub returns-clause-done : goal.returns-clause-done
returns-clause-done c =
    let m = c.self.inside in
    let script = c.args.script.now in
    let r = c.args.request in
    let may = subst (λ (v : MachinesView). CanBeGiven script v (Begin r)) (sym c.self.view_is) c.requires in
    let new = c.begin_in.new.gates in
    let is = c.begin_in.new.clients in
    if_ok_map c.begin_in.result (Begins script m.gates new m.clients is r) _
    (λ (a : StepAnswer) did. subst (λ (v : MachinesView). MachinesDo script (Begin r) v (machines_of new m.store m.oracle m.shards is m.notices.items) a) c.self.view_is
    (begin-done script m.gates m.store m.oracle m.shards m.clients m.notices.items may.are r new is a did))
    c.begin_in.ensures.begins

pub returns-clause-refused : goal.returns-clause-refused
returns-clause-refused c =
    let m = c.self.inside in
    let is = c.begin_in.new.clients in
    on_err_both c.begin_in.result (c.begin_in.new.gates ≡ m.gates) (AreSameClients m.clients is) _
    (λ gates same. (λ i. machines_of (gates i) m.store m.oracle m.shards (record { requests = same.requests i; logs = same.logs i; spares = is.spares; values = same.values i }) m.notices.items) ∙ c.self.view_is)
    c.begin_in.ensures.gates c.begin_in.ensures.clients

pub returns-clause-values : goal.returns-clause-values
returns-clause-values c =
    let m = c.self.inside in
    let script = c.args.script.now in
    let r = c.args.request in
    let may = subst (λ (v : MachinesView). CanBeGiven script v (Begin r)) (sym c.self.view_is) c.requires in
    let new = c.begin_in.new.gates in
    let is = c.begin_in.new.clients in
    either_way c.begin_in.result (Begins script m.gates new m.clients is r) (AreSameClients m.clients is) _
    (λ (a : StepAnswer) did. begin-values script m.gates m.store m.oracle m.shards m.clients m.notices.items may.are r new is a did)
    (λ same. same.values)
    c.begin_in.ensures.begins c.begin_in.ensures.clients
    ∙ ap (λ (v : MachinesView). v.values) c.self.view_is
