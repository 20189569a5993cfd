use Rattle.std.proofs.Common.{Option, Some, sym, subst, ap, ◌∙◌}
use Rattle.std.specs.Prelude.{IfOk}
use Rattle.std.specs.Option.{option_and_then}
use Rattle.graph_ops.specs.Graphs.{plain_of}
use Rattle.program_defs.specs.declared.script.Request.{Request}
use Rattle.report_rules.specs.Lookups.{request_at}
use Rattle.report_rules.specs.Replay.{graph_after_commit}
use Rattle.order_witness.specs.Refusals.{IsExpectedGraph}
use Rattle.order_witness.proofs.Testing.{is_numbered}
use Rattle.order_witness.proofs.refusal_marks.commit.Goals as goal

pub work_passes-requires : goal.work_passes-requires
work_passes-requires c = record { numbered = is_numbered c.args.script.now c.requires.numbered c.in-Some.only c.in-Some-request_in.request.now (sym c.in-Some-request_in.ensures) }

pub returns-in-Some-request_in : goal.returns-in-Some-request_in
returns-in-Some-request_in c =
    subst (λ (o : Option Request). IfOk c.work_passes.result (IsExpectedGraph (graph_after_commit o (Some (plain_of c.args.graph.now))) (plain_of c.work_passes.new.graph)))
    (c.in-Some-request_in.ensures ∙ ap (option_and_then (request_at c.args.script.now)) c.in-Some.ensures) c.work_passes.ensures
