-- The report of an account is right: its eight clauses, one after another; it is of the script, and its meetings are
-- ordered.
-- Used by `account_is_right` and `account_may_be_ordered`.
use Rattle.std.proofs.Common.{ℕ}
use Rattle.program_defs.specs.declared.script.Script.{Script}
use Rattle.report_rules.specs.declared.report.Report.{Report}
use Rattle.report_rules.specs.Meetings.{MeetingsAreOrdered}
use Rattle.report_rules.specs.ReportOf.{IsReportOf}
use Rattle.report_rules.specs.RightReport.{IsRightReport, replies_clause}
use Rattle.weave_account.specs.declared.account.Account.{Account}
use Rattle.weave_data.specs.Facts.{AllHold}
use Rattle.report_rules.specs.Lookups.{RequestPrecedes}
use Rattle.weave_account.specs.Report.{MatchesAccount, IsReportOfAccount}
use Rattle.weave_account.proofs.Ordering.{not-both}
use Rattle.weave_account.proofs.Replies.{same-precedence, convert}
use Rattle.weave_account.proofs.FormOfScript.{of-script}
use Rattle.weave_account.proofs.ListingClause.{listing, in-order}
use Rattle.weave_account.proofs.Meeting as meeting
use Rattle.weave_account.proofs.NumbersClause.{numbers}
use Rattle.weave_account.proofs.PairsClause.{pairs}
use Rattle.weave_account.proofs.ReplayClause.{replay}
use Rattle.weave_account.proofs.RefusalsClause.{refusals}
use Rattle.weave_account.proofs.RepliesClause.{replies}
use Rattle.weave_account.proofs.ConflictsClause.{conflicts}
use Rattle.weave_account.proofs.VisitedPairs.{visited-pair}
use Rattle.weave_account.proofs.Basis.{Basis}

module _ (script : Script) (account : Account) (basis : Basis script account) (report : Report) (reported : IsReportOfAccount script account report) where
  -- the report of an account satisfies all clauses of a right report
  pub right : IsRightReport script report
  right = (
    replies script account basis report reported.matches,
    (
      listing script account basis report reported.matches reported.order,
      (
        in-order script account basis report reported.matches reported.order,
        (
          replay script account basis report reported,
          (
            pairs script account basis report reported (visited-pair script account basis report reported),
            (
              conflicts script account basis report reported,
              (
                refusals script account basis report reported,
                (numbers script account basis report reported, tt),
              ),
            ),
          ),
        ),
      ),
    ),
  )

  -- of two requests that meet one precedes the other
  pub meetings : MeetingsAreOrdered script report
  meetings = meeting.meetings script account basis report reported

  -- the report has the forms of lines
  pub form : IsReportOf script report
  form = of-script script account basis report reported

-- the printed order may be asked for: the clause on replies holds, and no request precedes itself
pub may-be-ordered : (script : Script) (account : Account) → Basis script account → (report : Report)
    → MatchesAccount script account report → AllHold (replies_clause script report) × ((r : ℕ) → ¬ RequestPrecedes report r r)
may-be-ordered script account basis report reported = (
  replies script account basis report reported,
  λ r p. (let q = convert (same-precedence script account report reported basis r r) p in not-both script account basis r r q q),
)
