use Rattle.std.proofs.Common.{List, length, sym, ap, subst, ◌∙◌, arith}
use Rattle.std.specs.Prelude.{slice_get}
use Rattle.program_defs.specs.declared.script.Request.{Request}
use Rattle.report_rules.specs.declared.report.Report.{Report}
use Rattle.weave_account.specs.Report.{MatchesAccount}
use Rattle.weaver_core.specs.Cores.{AreOf, MachinesView}
use Rattle.weaver_core.specs.Reporting.{AreRequestsReplies}
use Rattle.weaver_core.specs.Splitting.{AreAllByLog}
use Rattle.weaver_core.proofs.Results.{if_ok_two}
use Rattle.weaver_core.proofs.Turns.{SessionLaws}
use Rattle.weaver_core.proofs.Unordered.{ReportLaws, homes, many, settled-homes, replies-rise, unordered-matches}
use Rattle.weaver_core.proofs.machines.Machines.unordered.Goals as goal

-- The laws, the machines and the number of requests are the same in both answers. `c.as_slice` is that of the stamps.

pub report_of-requires : goal.report_of-requires
report_of-requires c =
    let m = c.self.inside in
    let script = c.args.script.now in
    let laws : ReportLaws = record {
      stamps = record { coherent = c.begun_stamps_are_coherent.ensures.coherent; differ = c.begun_stamps_are_coherent.ensures.differ; begun = c.judgements_are_of_requests.ensures.begun };
      commits = record { work = c.judgements_are_of_requests.ensures.work; whole = c.updates_are_commits.ensures.whole };
      settled = c.stamps_are_begun.ensures.settled;
      same_stamps = c.equality_is_decided.ensures.stamps;
      placed = c.placed_pairs_are_the_pairs.ensures;
    } in
    let sessions : SessionLaws = record { begun_first = c.sessions_go_in_turn.ensures.begun; replied_first = c.sessions_go_in_turn.ensures.replied; begun_tested = c.begun_and_replied_are_decided.ensures.begun; replied_tested = c.begun_and_replied_are_decided.ensures.replied } in
    let are = subst (λ (v : MachinesView). AreOf script v) (sym c.self.view_is) c.requires.are in
    let requests = ap length c.as_slice-requests.ensures in
    let stamps = c.as_slice.result.now in
    let noted = c.as_slice.ensures.value ∙ c.in_ok-stamps.ensures in
    let most = are.limits.few_requests in
    let kept = subst (λ (v : MachinesView). AreAllByLog script v.state.account v.values) (sym c.self.view_is) c.requires.programs in
    let stay = c.what_stays.ensures.stay in
    record {
      few = omega (arith, most, requests);
      sessions = λ r request at.
          let below = are.limits.sessions r request (ap (λ (all : List Request). slice_get all r) (sym c.as_slice-requests.ensures) ∙ at) in
          let all = are.core.sessions in
          omega (arith, below, all);
      rising = replies-rise laws sessions script m.gates m.store m.oracle m.shards m.clients m.notices.items are (length c.as_slice-requests.result.now) requests stamps noted stay kept;
      many = many laws sessions script m.gates m.store m.oracle m.shards m.clients m.notices.items are (length c.as_slice-requests.result.now) requests stamps noted ∙ sym requests;
      begun = homes laws sessions script m.gates m.store m.oracle m.shards m.clients m.notices.items are (length c.as_slice-requests.result.now) requests stamps noted;
      settled = settled-homes laws sessions script m.gates m.store m.oracle m.shards m.clients m.notices.items are (length c.as_slice-requests.result.now) requests stamps noted;
    }

pub returns-clause-matches : goal.returns-clause-matches
returns-clause-matches c =
    let m = c.self.inside in
    let script = c.args.script.now in
    let laws : ReportLaws = record {
      stamps = record { coherent = c.begun_stamps_are_coherent.ensures.coherent; differ = c.begun_stamps_are_coherent.ensures.differ; begun = c.judgements_are_of_requests.ensures.begun };
      commits = record { work = c.judgements_are_of_requests.ensures.work; whole = c.updates_are_commits.ensures.whole };
      settled = c.stamps_are_begun.ensures.settled;
      same_stamps = c.equality_is_decided.ensures.stamps;
      placed = c.placed_pairs_are_the_pairs.ensures;
    } in
    let sessions : SessionLaws = record { begun_first = c.sessions_go_in_turn.ensures.begun; replied_first = c.sessions_go_in_turn.ensures.replied; begun_tested = c.begun_and_replied_are_decided.ensures.begun; replied_tested = c.begun_and_replied_are_decided.ensures.replied } in
    let are = subst (λ (v : MachinesView). AreOf script v) (sym c.self.view_is) c.requires.are in
    let requests = ap length c.as_slice-requests.ensures in
    let stamps = c.as_slice.result.now in
    let noted = c.as_slice.ensures.value ∙ c.in_ok-stamps.ensures in
    let kept = subst (λ (v : MachinesView). AreAllByLog script v.state.account v.values) (sym c.self.view_is) c.requires.programs in
    let stay = c.what_stays.ensures.stay in
    if_ok_two c.report_of.result _ _ _
    (λ (report : Report) replies pairs. subst (λ (v : MachinesView). MatchesAccount script v.state.account report) c.self.view_is
    (unordered-matches laws sessions script m.gates m.store m.oracle m.shards m.clients m.notices.items are (length c.as_slice-requests.result.now) requests stamps noted stay kept report
    (subst (λ (all : List Request). AreRequestsReplies m.store m.clients.values stamps all (length all) report.replies) c.as_slice-requests.ensures replies) pairs))
    c.report_of.ensures.replies c.report_of.ensures.pairs
