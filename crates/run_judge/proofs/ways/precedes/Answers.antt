use Rattle.std.proofs.Common.{List, ap, ◌∙◌, ◌&&◌}
use Rattle.std.specs.Prelude.{is_some}
use Rattle.report_rules.specs.declared.report.Reply.{Reply}
use Rattle.order_witness.specs.Begun.{stamp_in}
use Rattle.order_witness.specs.ByNumber.{list_at}
use Rattle.run_judge.specs.Rows.{is_counted}
use Rattle.run_judge.proofs.WayLaws.{counted_so}
use Rattle.run_judge.proofs.ways.precedes.Goals as goal

pub returns : goal.returns
returns c =
    c.counts_begun.ensures
    ∙ ap (λ (rs : List Reply). is_some (stamp_in rs c.args.a) && (is_some (stamp_in rs c.args.b) && is_counted c.args.ways.now.spots.items (list_at c.args.ways.now.rows.items c.args.b) c.args.a)) c.as_slice.ensures
    ∙ counted_so c.precedence_is_decided.ensures.tested c.args.report.now c.args.ways.now c.requires c.args.a c.args.b
