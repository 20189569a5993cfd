use Rattle.std.proofs.Common.{◌≡◌, ◌≤◌, ◌<◌, ℕ, length, sym, subst, ◌∙◌, arith}
use Rattle.std.proofs.Math.Nat.{mod-lt}
use Rattle.weave_data.specs.Names.{shard_of}
use Rattle.weave_data.specs.declared.name.Name.{Name}
use Rattle.weave_data.proofs.Results.{on_err_map}
use Rattle.program_defs.specs.declared.script.Script.{Script}
use Rattle.program_defs.specs.declared.script.Step.TheVariants.{Visit}
use Rattle.report_rules.specs.declared.report.StepAnswer.{StepAnswer}
use Rattle.weaver_core.specs.Cores.{AreOf, MachinesDo, MachinesView, machines_of}
use Rattle.weaver_core.specs.Visiting.{AreSameLogs, VisitsForProgram}
use Rattle.weaver_core.specs.Walks.{IsRunningIn}
use Rattle.weaver_core.proofs.CanVisit.{CanVisitLaws, can-be-visited}
use Rattle.weaver_core.proofs.CitedLaws.{RunLaws}
use Rattle.weaver_core.proofs.VisitDone.{visit-done, visit-stamp}
use Rattle.weaver_core.proofs.VisitAfter.{account-after, request-below, runs-after, runs-if-same}
use Rattle.weaver_core.proofs.Results.{either_way, if_ok_map}
use Rattle.weaver_core.proofs.machines.Machines.visit.Goals as goal

pub visit_next-requires : goal.visit_next-requires
visit_next-requires c =
    let m = c.self.inside in
    let script = c.args.script.now in
    let running = c.args.running.now in
    let are = subst (AreOf script) (sym c.self.view_is) c.requires.are in
    let runs = subst (λ (v : MachinesView). IsRunningIn script v.state.account c.args.request running) (sym c.self.view_is) c.requires.runs in
    let laws : CanVisitLaws = record {
      stamps = record { coherent = c.begun_stamps_are_coherent.ensures.coherent; differ = c.begun_stamps_are_coherent.ensures.differ; begun = c.judgements_are_of_requests.ensures.begun };
      commits = record { work = c.judgements_are_of_requests.ensures.work; whole = c.updates_are_commits.ensures.whole };
      asked = record { paired = c.stamps_are_begun.ensures.paired; part = c.parts_and_unions_are_coherent.ensures.part; no_others = c.ends_are_of_pairs.ensures.no_others };
      updates = c.stamps_are_begun.ensures.updates;
      kept = c.collections_leave_what_programs_see.ensures.kept;
    } in
    let run : RunLaws = record { once = c.requests_end_or_go_on.ensures.once; running = c.what_has_not_ended_goes_on.ensures.running; flight = c.what_has_not_ended_goes_on.ensures.flight } in
    record {
      some = are.limits.some_shard;
      many = are.core.account.shards.as_many;
      ready = λ (v : Name) next. can-be-visited run script (machines_of m.gates m.store m.oracle m.shards m.clients m.notices.items).state.account are.limits are.core.account c.args.request runs.look.request runs.look.request_is runs.program runs.look.work_is
          (record { author = runs.runs.author; request = c.args.request; stamp = running.stamp }) runs.runs.begun runs.runs.runs laws v;
    }

pub returns-clause-done : goal.returns-clause-done
returns-clause-done c =
    let m = c.self.inside in
    let script = c.args.script.now in
    let r = c.args.request in
    let running = c.args.running.now in
    let are = subst (AreOf script) (sym c.self.view_is) c.requires.are in
    let runs = subst (λ (v : MachinesView). IsRunningIn script v.state.account r running) (sym c.self.view_is) c.requires.runs in
    let new = c.visit_next.new.shards in
    let oracle = c.visit_next.new.oracle in
    let now = c.visit_next.new.running in
    if_ok_map c.visit_next.result (VisitsForProgram script.shards m.shards new m.oracle oracle running now) _
    (λ (a : StepAnswer) did. subst (λ (v : MachinesView). MachinesDo script (Visit r) v (machines_of m.gates m.store oracle new m.clients m.notices.items) a) c.self.view_is
    (visit-done script m.gates m.store m.oracle m.shards m.clients m.notices.items are r running runs c.order_of_reads_is_free.ensures.next c.visit_next.ensures.asks are.frame.senders new oracle now a did))
    c.visit_next.ensures.visits

pub returns-clause-refused : goal.returns-clause-refused
returns-clause-refused c =
    let m = c.self.inside in
    on_err_map c.visit_next.result (AreSameLogs m.shards c.visit_next.new.shards m.oracle c.visit_next.new.oracle c.args.running.now c.visit_next.new.running) _
    (λ same. (λ i. machines_of m.gates m.store (same.oracle_is i) (same.shards_are i) m.clients m.notices.items) ∙ c.self.view_is)
    c.visit_next.ensures.refused

-- the shard of each vertex is there
shard-there : (script : Script) (v : Name) (many : ℕ) → many ≡ script.shards → 1 ≤ script.shards → shard_of v script.shards < many
shard-there script v many is some = let below : shard_of v script.shards < script.shards = mod-lt _ (omega (arith, some)) in omega (arith, below, is)

pub returns-clause-runs : goal.returns-clause-runs
returns-clause-runs c =
    let m = c.self.inside in
    let script = c.args.script.now in
    let r = c.args.request in
    let running = c.args.running.now in
    let are = subst (AreOf script) (sym c.self.view_is) c.requires.are in
    let runs = subst (λ (v : MachinesView). IsRunningIn script v.state.account r running) (sym c.self.view_is) c.requires.runs in
    let old = machines_of m.gates m.store m.oracle m.shards m.clients m.notices.items in
    let new = c.visit_next.new.shards in
    let oracle = c.visit_next.new.oracle in
    let now = c.visit_next.new.running in
    let asks = c.visit_next.ensures.asks in
    let free = c.order_of_reads_is_free.ensures.next in
    either_way c.visit_next.result (VisitsForProgram script.shards m.shards new m.oracle oracle running now) (AreSameLogs m.shards new m.oracle oracle running now) _
    (λ (a : StepAnswer) did.
    let done = visit-done script m.gates m.store m.oracle m.shards m.clients m.notices.items are r running runs free asks are.frame.senders new oracle now a did in
    let after = account-after c.what_stays.ensures.core script old (machines_of m.gates m.store oracle new m.clients m.notices.items) (Visit r) are (request-below script r runs.look.request runs.look.request_is) a done in
    runs-after free script m.gates m.store m.oracle m.shards m.clients m.notices.items are r running runs asks new oracle now after.0 (λ v. shard-there script v (length m.shards.logs) are.core.account.shards.as_many are.limits.some_shard) a did)
    (λ same. runs-if-same free script m.gates m.store m.oracle m.shards m.clients m.notices.items are r running runs asks new oracle now same)
    c.visit_next.ensures.visits c.visit_next.ensures.refused

pub returns-clause-same : goal.returns-clause-same
returns-clause-same c =
    let m = c.self.inside in
    let script = c.args.script.now in
    let running = c.args.running.now in
    let new = c.visit_next.new.shards in
    let oracle = c.visit_next.new.oracle in
    let now = c.visit_next.new.running in
    either_way c.visit_next.result (VisitsForProgram script.shards m.shards new m.oracle oracle running now) (AreSameLogs m.shards new m.oracle oracle running now) _
    (λ (a : StepAnswer) did. visit-stamp script.shards m.shards new m.oracle oracle running now a did)
    (λ same. same.program.stamp_is)
    c.visit_next.ensures.visits c.visit_next.ensures.refused
