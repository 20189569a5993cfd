use Rattle.std.proofs.Common.{◌∙◌, rules, tests}
use Rattle.std.proofs.lemmas.Iterator.{YieldsList-from_slice}
use Rattle.std.proofs.lemmas.Iterator.Consumers.{YieldsList-at, YieldsList-from_filter, count_from_yields_List}
use Rattle.std.proofs.lemmas.List.Sums.{length-filter}
use Rattle.report_rules.specs.declared.report.Reply.{Reply}
use Rattle.weaver_top.specs.Summaries.{is_refusal}
use Rattle.weaver_top.proofs.summary.refused.Goals as goal

pub returns : goal.returns
returns c =
    count_from_yields_List _ _ c.count.ensures.ran
    (YieldsList-from_filter _ (λ (reply : Reply). is_refusal reply.state)
    (YieldsList-at c.filter.ensures.source (YieldsList-from_slice c.args.report.now.replies (cc)))
    c.filter.ensures.closure (λ x r q k. search (rules, tests)))
    ∙ length-filter (λ (reply : Reply). is_refusal reply.state) c.args.report.now.replies
