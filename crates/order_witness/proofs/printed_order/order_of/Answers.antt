use Rattle.std.proofs.Common.{sym, subst}
use Rattle.std.specs.Prelude.{MatchOption}
use Rattle.std.proofs.lemmas.Result.{IfOk-weaker}
use Rattle.report_rules.specs.PrintedOrder.{TakesAll, begun_requests}
use Rattle.order_witness.specs.Begun.{NonePrecedesItself}
use Rattle.order_witness.specs.Rows.{AreAllTurns}
use Rattle.order_witness.proofs.Replying.{is_numbered}
use Rattle.order_witness.proofs.printed_order.order_of.Goals as goal

pub listed-requires : goal.listed-requires
listed-requires c = is_numbered c.args.script.now c.args.report.now c.requires.replies

pub returns-in-Some : goal.returns-in-Some
returns-in-Some c =
    let all = subst (λ turns. MatchOption turns (¬ NonePrecedesItself c.args.report.now) (λ t. AreAllTurns c.args.report.now t.items)) c.in-Some.is c.in_ok-turns.ensures in
    IfOk-weaker c.listed.result _ _ (λ order is. record {
      taken = c.as_slice.result.now;
      in_turn = subst (TakesAll c.args.report.now (begun_requests c.args.report.now)) (sym c.as_slice.ensures.value) all.0;
      listed = is;
    }) c.listed.ensures

pub returns-in-None : goal.returns-in-None
returns-in-None c =
    absurd ((subst (λ turns. MatchOption turns (¬ NonePrecedesItself c.args.report.now) (λ t. AreAllTurns c.args.report.now t.items)) c.in-None.is c.in_ok-turns.ensures) c.requires.acyclic)
