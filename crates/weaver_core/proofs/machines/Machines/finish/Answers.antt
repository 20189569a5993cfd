use Rattle.std.proofs.Common.{◌≡◌, ℕ, List, Some, is_some, get_or, sym, ap, subst, ◌∙◌}
use Rattle.std.proofs.lemmas.Option.{same_Some}
use Rattle.weave_data.proofs.Results.{on_err_map}
use Rattle.program_defs.specs.declared.script.Request.{Request}
use Rattle.program_defs.specs.declared.script.Script.{Script}
use Rattle.program_defs.specs.declared.script.Step.TheVariants.{Reply}
use Rattle.program_defs.specs.declared.script.Work.TheVariants.{Look}
use Rattle.report_rules.specs.Lookups.{request_at}
use Rattle.report_rules.specs.declared.report.StepAnswer.{StepAnswer}
use Rattle.weaver_core.specs.Cores.{AreOf, MachinesDo, MachinesView, machines_of}
use Rattle.weaver_core.specs.Finishing.{AreSameParts, FinishesInSession}
use Rattle.weaver_core.specs.GateTable.{GateTable}
use Rattle.weaver_core.specs.Splitting.{AreAllByLog, RepliesToProgram}
use Rattle.weaver_core.specs.Walks.{IsLook}
use Rattle.weaver_core.proofs.CitedLaws.{RunLaws}
use Rattle.weaver_core.proofs.FinishDone.{can-be-finished, finish-done, finish-values}
use Rattle.weaver_core.proofs.Resting.{found, same-sessions}
use Rattle.weaver_core.proofs.Results.{if_ok_map}
use Rattle.weaver_core.proofs.machines.Machines.finish.Goals as goal

-- the request that was read is the program
its-work : (script : Script) (r : ℕ) (asked : Request) (look : IsLook script r) → request_at script r ≡ Some asked → asked.work ≡ Look look.program
its-work script r asked look is = ap (λ (request : Request). request.work) (same_Some asked look.look.request (sym is ∙ look.look.request_is)) ∙ look.look.work_is

pub finish_in-requires : goal.finish_in-requires
finish_in-requires c =
    let m = c.self.inside in
    let script = c.args.script.now in
    let r = c.args.request in
    let asked = c.index-as_slice-request.result in
    let at = found script r asked (ap is_some c.requires.look.look.request_is) (c.index-as_slice-request.is ∙ ap (λ (requests : List Request). get_or requests r asked) c.as_slice.ensures) in
    let are = subst (AreOf script) (sym c.self.view_is) c.requires.are in
    let all = subst (λ (v : MachinesView). AreAllByLog script v.state.account v.values) (sym c.self.view_is) c.requires.values in
    let run : RunLaws = record { once = c.requests_end_or_go_on.ensures.once; running = c.what_has_not_ended_goes_on.ensures.running; flight = c.what_has_not_ended_goes_on.ensures.flight } in
    can-be-finished script m.gates m.store m.oracle m.shards m.clients m.notices.items are r asked at c.requires.look.program (its-work script r asked c.requires.look at) c.what_stays.ensures.stay run all

pub returns-clause-done : goal.returns-clause-done
returns-clause-done c =
    let m = c.self.inside in
    let script = c.args.script.now in
    let r = c.args.request in
    let asked = c.index-as_slice-request.result in
    let at = found script r asked (ap is_some c.requires.look.look.request_is) (c.index-as_slice-request.is ∙ ap (λ (requests : List Request). get_or requests r asked) c.as_slice.ensures) in
    let are = subst (AreOf script) (sym c.self.view_is) c.requires.are in
    let all = subst (λ (v : MachinesView). AreAllByLog script v.state.account v.values) (sym c.self.view_is) c.requires.values in
    let run : RunLaws = record { once = c.requests_end_or_go_on.ensures.once; running = c.what_has_not_ended_goes_on.ensures.running; flight = c.what_has_not_ended_goes_on.ensures.flight } in
    let new = c.finish_in.new.gates in
    let is = c.finish_in.new.clients in
    if_ok_map c.finish_in.result (FinishesInSession m.gates new m.clients is asked.gate asked.session r) _
    (λ (a : StepAnswer) did. subst (λ (v : MachinesView). MachinesDo script (Reply r) v (machines_of new m.store m.oracle m.shards is m.notices.items) a) c.self.view_is
    (finish-done script m.gates m.store m.oracle m.shards m.clients m.notices.items are r asked at c.requires.look.program (its-work script r asked c.requires.look at) c.what_stays.ensures.stay run all
    new is c.order_of_reads_is_free.ensures.next a did))
    c.finish_in.ensures.finishes

pub returns-clause-values : goal.returns-clause-values
returns-clause-values c =
    let m = c.self.inside in
    let script = c.args.script.now in
    let r = c.args.request in
    let asked = c.index-as_slice-request.result in
    let at = found script r asked (ap is_some c.requires.look.look.request_is) (c.index-as_slice-request.is ∙ ap (λ (requests : List Request). get_or requests r asked) c.as_slice.ensures) in
    let are = subst (AreOf script) (sym c.self.view_is) c.requires.are in
    let all = subst (λ (v : MachinesView). AreAllByLog script v.state.account v.values) (sym c.self.view_is) c.requires.values in
    let run : RunLaws = record { once = c.requests_end_or_go_on.ensures.once; running = c.what_has_not_ended_goes_on.ensures.running; flight = c.what_has_not_ended_goes_on.ensures.flight } in
    let new = c.finish_in.new.gates in
    let is = c.finish_in.new.clients in
    if_ok_map c.finish_in.result (FinishesInSession m.gates new m.clients is asked.gate asked.session r) _
    (λ (a : StepAnswer) did. subst (λ (v : MachinesView). RepliesToProgram script r v (machines_of new m.store m.oracle m.shards is m.notices.items) a) c.self.view_is
    (finish-values script m.gates m.store m.oracle m.shards m.clients m.notices.items are r asked at c.requires.look.program (its-work script r asked c.requires.look at) c.what_stays.ensures.stay run all
    new is c.order_of_reads_is_free.ensures.next a did))
    c.finish_in.ensures.finishes

pub returns-clause-refused : goal.returns-clause-refused
returns-clause-refused c =
    let m = c.self.inside in
    let new = c.finish_in.new.gates in
    let is = c.finish_in.new.clients in
    on_err_map c.finish_in.result (AreSameParts m.gates new m.clients is) _
    (λ same. ap (λ (t : GateTable). machines_of t m.store m.oracle m.shards is m.notices.items) same.gates_are ∙ same-sessions m.gates m.store m.oracle m.shards m.clients m.notices.items is same.clients_are ∙ c.self.view_is)
    c.finish_in.ensures.refused
