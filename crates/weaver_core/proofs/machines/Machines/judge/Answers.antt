use Rattle.std.proofs.Common.{◌≡◌, ◌∙◌, sym, subst}
use Rattle.program_defs.specs.declared.script.Step.TheVariants.{Judge}
use Rattle.report_rules.specs.declared.report.StepAnswer.{StepAnswer}
use Rattle.weaver_core.specs.Cores.{MachinesDo, MachinesView, CanBeGiven, machines_of}
use Rattle.weaver_core.specs.Judging.{JudgesFlight}
use Rattle.weaver_core.proofs.JudgeDone.{JudgeLaws, can-be-judged, judge-done}
use Rattle.weaver_core.proofs.Resting.{gate-there}
use Rattle.weaver_core.proofs.Results.{if_ok_map, on_err_both}
use Rattle.weaver_core.proofs.machines.Machines.judge.Goals as goal

pub judge_in-requires : goal.judge_in-requires
judge_in-requires c =
    let m = c.self.inside in
    let script = c.args.script.now in
    let g = c.args.gate in
    let may = subst (λ (v : MachinesView). CanBeGiven script v (Judge g)) (sym c.self.view_is) c.requires in
    let laws : JudgeLaws = record {
      stamps = record { coherent = c.begun_stamps_are_coherent.ensures.coherent; differ = c.begun_stamps_are_coherent.ensures.differ; begun = c.judgements_are_of_requests.ensures.begun };
      asked = record { paired = c.stamps_are_begun.ensures.paired; part = c.parts_and_unions_are_coherent.ensures.part; no_others = c.ends_are_of_pairs.ensures.no_others };
      run = record { once = c.requests_end_or_go_on.ensures.once; running = c.what_has_not_ended_goes_on.ensures.running; flight = c.what_has_not_ended_goes_on.ensures.flight };
      flights = c.requests_end_or_go_on.ensures.flights;
      judged = c.stamps_are_begun.ensures.judged;
      kept = c.what_is_asked_is_kept.ensures.kept;
    } in
    record {
      there = gate-there script _ g may.are.frame may.there;
      ready = can-be-judged script m.gates m.store m.oracle m.shards m.clients m.notices.items may.are g laws may.there;
    }

pub returns-clause-done : goal.returns-clause-done
returns-clause-done c =
    let m = c.self.inside in
    let script = c.args.script.now in
    let g = c.args.gate in
    let may = subst (λ (v : MachinesView). CanBeGiven script v (Judge g)) (sym c.self.view_is) c.requires in
    let store = c.judge_in.new.store in
    let oracle = c.judge_in.new.oracle in
    if_ok_map c.judge_in.result (JudgesFlight script m.gates m.store store m.oracle oracle g) _
    (λ (a : StepAnswer) did. subst (λ (v : MachinesView). MachinesDo script (Judge g) v (machines_of m.gates store oracle m.shards m.clients m.notices.items) a) c.self.view_is
    (judge-done script m.gates m.store m.oracle m.shards m.clients m.notices.items may.are g store oracle a did))
    c.judge_in.ensures.judges

pub returns-clause-refused : goal.returns-clause-refused
returns-clause-refused c =
    let m = c.self.inside in
    on_err_both c.judge_in.result (c.judge_in.new.store ≡ m.store) (c.judge_in.new.oracle ≡ m.oracle) _
    (λ store oracle. (λ i. machines_of m.gates (store i) (oracle i) m.shards m.clients m.notices.items) ∙ c.self.view_is)
    c.judge_in.ensures.store c.judge_in.ensures.oracle
