use Rattle.std.proofs.Common.{ℕ, List, length, subst, ◌∙◌, arith}
use Rattle.std.proofs.lemmas.List.{length-set}
use Rattle.order_witness.specs.Begun.{is_request_before}
use Rattle.order_witness.specs.ByNumber.{list_at}
use Rattle.order_witness.specs.Heads.{item}
use Rattle.order_witness.specs.Preceding.{Test, leads_directly}
use Rattle.order_witness.specs.Rows.{HadTurn, IsRowOfCounts}
use Rattle.order_witness.proofs.Rowing.{counted_if, one_more}
use Rattle.order_witness.proofs.rows.rows_along.Goals as goal

pub loop-turn-preserved : goal.loop-turn-preserved
loop-turn-preserved c =
    let before : Test = is_request_before c.args.report.now in
    let ends : ℕ → List ℕ = list_at c.args.befores.now in
    let turns : List ℕ = c.args.turns.now in
    let n : ℕ = c.loop-turn.turn in
    let rows : List (List ℕ) = c.loop-turn.rows.items in
    let row : List ℕ = c.in_ok-row.row in
    let room = c.requires.turns.within n c.loop-turn-test.true in
    let size = c.loop-turn.invariant.size in
    record {
      size = length-set rows (item turns n) row ∙ size;
      rows = one_more before ends c.args.line.now c.args.runs.now c.args.places.now c.requires.lined turns n rows c.loop-turn-test.true c.args.count c.requires.turns c.loop-turn.invariant.rows row (subst (λ (rs : List (List ℕ)). IsRowOfCounts (leads_directly before ends) c.args.line.now c.args.runs.now turns n rs (item turns n) row) c.as_slice.ensures.value c.in_ok-row.ensures) (omega (arith, room, size));
    }

pub returns : goal.returns
returns c =
    let before : Test = is_request_before c.args.report.now in
    let ends : ℕ → List ℕ = list_at c.args.befores.now in
    let turns : List ℕ = c.args.turns.now in
    let done : (b : ℕ) → HadTurn turns (length turns) b → HadTurn turns c.loop-turn.turn b = λ b is. let less = is.within in record { j = is.j; within = omega (arith, less, c.loop-turn-test.false); event = is.event } in
    record {
      tell = λ a b is. (
        (c.loop-turn.invariant.rows b (done b is)).part.sound a,
        λ h. counted_if before ends c.args.line.now c.args.runs.now c.args.places.now c.requires.lined turns c.loop-turn.turn c.loop-turn.rows.items c.loop-turn.invariant.rows a b h (done b is),
      );
      ended = λ b i is there. (c.loop-turn.invariant.rows b (done b is)).part.ended i there;
    }
