use Rattle.std.proofs.Common.{◌≡◌, sym, subst, ◌∙◌}
use Rattle.report_rules.specs.PrintedOrder.{IsPrintedOrder}
use Rattle.report_rules.specs.declared.report.Report.{Report}
use Rattle.weave_account.specs.Report.{IsReportOfAccount}
use Rattle.weaver_core.specs.Cores.{CoreView}
use Rattle.weaver_core.proofs.Results.{if_ok_map, if_ok_three}
use Rattle.weaver_core.proofs.SameReport.{report-same}
use Rattle.weaver_core.proofs.script_core.Core.report.Goals as goal

-- the machines are those of the script, by the invariant
pub unordered-requires : goal.unordered-requires
unordered-requires c = record { are = c.self.invariant.0; programs = c.self.invariant.1 }

-- the printed order may be asked for
pub with_order-requires : goal.with_order-requires
with_order-requires c =
    let script = c.self.inside.script in
    let account = c.self.inside.machines.state.account in
    let report = c.in_ok-unordered.unordered in
    record {
      replies = c.account_may_be_ordered.ensures.replies script account report c.self.invariant.0.limits c.self.invariant.0.core.account c.in_ok-unordered.ensures.matches;
      acyclic = c.account_may_be_ordered.ensures.acyclic script account report c.self.invariant.0.limits c.self.invariant.0.core.account c.in_ok-unordered.ensures.matches;
    }

pub returns-clause-report : goal.returns-clause-report
returns-clause-report c =
    let script = c.self.inside.script in
    let account = c.self.inside.machines.state.account in
    let report = c.in_ok-unordered.unordered in
    if_ok_three c.with_order.result (λ (ordered : Report). IsPrintedOrder report ordered.order) (λ (ordered : Report). ordered.replies ≡ report.replies) (λ (ordered : Report). ordered.pairs ≡ report.pairs) _
    (λ (ordered : Report) order replies pairs.
    subst (λ (v : CoreView). IsReportOfAccount v.script v.state.account ordered) c.self.view_is
    (report-same report ordered (sym replies) (sym pairs) script account c.in_ok-unordered.ensures.matches
    (c.orders_are_of_replies_and_pairs.ensures report ordered (sym replies) (sym pairs) ordered.order order)))
    c.with_order.ensures.order c.with_order.ensures.replies c.with_order.ensures.pairs

pub returns-clause-answers : goal.returns-clause-answers
returns-clause-answers c = if_ok_map c.with_order.result _ _ (λ (ordered : Report) same. same ∙ c.in_ok-unordered.ensures.answers) c.with_order.ensures.answers
