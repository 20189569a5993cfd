-- What is said of a report's replies and pairs is so of each report that has the same ones.
-- Used by `report`.
use Rattle.std.proofs.Common.{◌≡◌, List, length, map, subst}
use Rattle.std.specs.List.{AllByRecursion, range_with_len}
use Rattle.report_rules.specs.declared.report.Pair.{Pair}
use Rattle.report_rules.specs.declared.report.Reply.{Reply}
use Rattle.report_rules.specs.declared.report.Report.{Report}
use Rattle.report_rules.specs.PrintedOrder.{IsPrintedOrder}
use Rattle.program_defs.specs.declared.script.Script.{Script}
use Rattle.weave_account.specs.declared.account.Account.{Account}
use Rattle.weave_account.specs.Account.{pairs_in}
use Rattle.weave_account.specs.Pairs.{ArePairsOf}
use Rattle.weave_account.specs.Report.{IsReplyInAccount, IsReportOfAccount, MatchesAccount}

module _ (a b : Report) (replies : a.replies ≡ b.replies) (pairs : a.pairs ≡ b.pairs) (script : Script) (account : Account) (matches : MatchesAccount script account a) where
  matches-same : MatchesAccount script account b
  matches-same = record {
    requests = subst (λ (rs : List Reply). map (λ (reply : Reply). reply.request) rs ≡ range_with_len 0 (length script.requests)) replies matches.requests;
    replies = subst (AllByRecursion (IsReplyInAccount script account)) replies matches.replies;
    pairs = subst (λ (ps : List Pair). ArePairsOf account ps (pairs_in account)) pairs matches.pairs;
  }

  -- so it is the report of the account, whatever its answers are, if its order is the printed one
  pub report-same : IsPrintedOrder b b.order → IsReportOfAccount script account b
  report-same printed = record { matches = matches-same; order = printed }
