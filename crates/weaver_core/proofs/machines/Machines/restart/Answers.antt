use Rattle.std.proofs.Common.{◌≡◌, ◌∙◌, List, sym, subst}
use Rattle.weave_data.proofs.Results.{on_err_map}
use Rattle.program_defs.specs.declared.script.Request.{Request}
use Rattle.program_defs.specs.declared.script.Step.TheVariants.{Restart}
use Rattle.report_rules.specs.declared.report.StepAnswer.{StepAnswer}
use Rattle.gatekeeper.specs.Stopping.{AreLeftOpen}
use Rattle.weaver_core.specs.Clocks.{Raises}
use Rattle.weaver_core.specs.Cores.{MachinesDo, MachinesView, CanBeGiven, machines_of}
use Rattle.weaver_core.specs.GateTable.{gate_log_at}
use Rattle.weaver_core.specs.Restarting.{open_flight, open_programs}
use Rattle.weaver_core.proofs.ClockDone.{restart-done}
use Rattle.weaver_core.proofs.HandedIn.{OpenLaws, handed-is-left}
use Rattle.weaver_core.proofs.Resting.{gate-there, same-gates}
use Rattle.weaver_core.proofs.Results.{if_ok_map}
use Rattle.weaver_core.proofs.machines.Machines.restart.Goals as goal

pub restart_in-requires : goal.restart_in-requires
restart_in-requires c =
    let m = c.self.inside in
    let script = c.args.script.now in
    let g = c.args.gate in
    let may = subst (λ (v : MachinesView). CanBeGiven script v (Restart g c.args.epoch)) (sym c.self.view_is) c.requires in
    let laws : OpenLaws = record {
      programs = c.sessions_have_what_is_open.ensures.programs;
      no_other_programs = c.sessions_have_what_is_open.ensures.no_other_programs;
      flight = c.sessions_have_what_is_open.ensures.flight;
      no_other_flight = c.sessions_have_what_is_open.ensures.no_other_flight;
    } in
    record {
      there = gate-there script _ g may.are.frame may.there.0;
      left = subst (λ (requests : List Request). AreLeftOpen (open_flight requests g (gate_log_at m.gates g) m.clients.logs) (open_programs requests g m.clients.logs) (gate_log_at m.gates g)) (sym c.as_slice.ensures)
          (handed-is-left c.what_stays.ensures.stay laws script (machines_of m.gates m.store m.oracle m.shards m.clients m.notices.items).state.account may.are.limits may.are.core.account may.are.core.sessions g);
    }

pub returns-clause-done : goal.returns-clause-done
returns-clause-done c =
    let m = c.self.inside in
    let new = c.restart_in.new.gates in
    if_ok_map c.restart_in.result (Raises m.gates new c.args.gate c.args.epoch) _
    (λ (a : StepAnswer) did. subst (λ (v : MachinesView). MachinesDo c.args.script.now (Restart c.args.gate c.args.epoch) v (machines_of new m.store m.oracle m.shards m.clients m.notices.items) a) c.self.view_is
    (restart-done c.args.script.now m.gates m.store m.oracle m.shards m.clients m.notices.items new c.args.gate c.args.epoch a did))
    c.restart_in.ensures.raises

pub returns-clause-refused : goal.returns-clause-refused
returns-clause-refused c =
    let m = c.self.inside in
    on_err_map c.restart_in.result (c.restart_in.new.gates ≡ m.gates) _ (λ is. same-gates m.gates m.store m.oracle m.shards m.clients m.notices.items c.restart_in.new.gates is ∙ c.self.view_is) c.restart_in.ensures.refused
