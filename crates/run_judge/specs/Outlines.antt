-- The outline of a report: its stamps and pairs, with each request as one that the order may list. No public contract
-- cites it.
use Rattle.std.specs.Prelude.{[], map}
use Rattle.report_rules.specs.declared.report.Report.{Report}
use Rattle.report_rules.specs.declared.report.Reply.{Reply}
use Rattle.report_rules.specs.declared.report.ReplyState.TheVariants.{Committed}

-- the reply without what it says
abbrev pub outline : Reply → Reply
outline reply = record { request = reply.request; stamp = reply.stamp; state = Committed 0 [] }

-- the report without what its replies say, and without its order
abbrev pub outline_of : Report → Report
outline_of report = record { replies = map outline report.replies; pairs = report.pairs; order = []; answers = [] }
