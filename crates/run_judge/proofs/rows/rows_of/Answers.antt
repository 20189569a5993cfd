use Rattle.std.proofs.Common.{ℕ, List, length, sym, ap, subst, ◌∙◌, arith}
use Rattle.std.proofs.lemmas.List.{length-set}
use Rattle.report_rules.specs.declared.report.Reply.{Reply}
use Rattle.order_witness.specs.Begun.{is_request_before}
use Rattle.order_witness.specs.ByNumber.{list_at}
use Rattle.order_witness.specs.Heads.{item}
use Rattle.order_witness.specs.Preceding.{LeadsBySteps, leads_directly}
use Rattle.run_judge.specs.Rows.{AreTurnRows}
use Rattle.run_judge.proofs.RowLaws.{rows_more}
use Rattle.run_judge.proofs.rows.rows_of.Goals as goal

pub loop-turn-init : goal.loop-turn-init
loop-turn-init c = record {
  size = c.in_ok-rows.ensures.size ∙ ap (λ (rs : List Reply). length rs) c.as_slice.ensures;
  rows = λ b had. absurd (let within = had.within in omega (arith, within));
}

pub row_of-requires-clause-rows : goal.row_of-requires-clause-rows
row_of-requires-clause-rows c =
    subst (λ (rows : List (List ℕ)). AreTurnRows (LeadsBySteps (leads_directly (is_request_before c.args.report.now) (list_at c.args.ends.now))) c.args.chains.now c.args.spots.now c.args.turns.now c.loop-turn.turn rows) (sym c.as_slice-in-loop-turn.ensures.value) c.loop-turn.invariant.rows

pub loop-turn-preserved : goal.loop-turn-preserved
loop-turn-preserved c =
    let n : ℕ = c.loop-turn.turn in
    let rows : List (List ℕ) = c.loop-turn.rows.items in
    let room = c.requires.turns.within n c.loop-turn-test.true in
    let size = c.loop-turn.invariant.size in
    record {
      size = length-set rows (item c.args.turns.now n) c.in_ok-row.row ∙ size;
      rows = rows_more (is_request_before c.args.report.now) (list_at c.args.ends.now) c.args.chains.now c.args.spots.now c.args.turns.now (length c.args.report.now.replies) c.requires.chains c.requires.turns n rows c.in_ok-row.row (omega (arith, room, size)) c.loop-turn.invariant.rows c.in_ok-row.ensures;
    }

pub returns : goal.returns
returns c b had = c.loop-turn.invariant.rows b (record { j = had.j; within = (let within = had.within in omega (arith, within, c.loop-turn-test.false)); event = had.event })
