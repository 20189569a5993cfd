use Rattle.std.proofs.Common.{◌+◌, ◌≡◌, ℕ, Bool, List, Contains, get_or, sym, ◌∙◌, subst, arith}
use Rattle.std.specs.Prelude.{◌↔◌}
use Rattle.std.proofs.lemmas.List.{get_or_default, take_all}
use Rattle.graph_ops.specs.Graphs.{plain_of}
use Rattle.graph_ops.specs.PlainGraph.{empty_graph}
use Rattle.weave_data.specs.Facts.{AllHold, BreaksFirstAt}
use Rattle.report_rules.specs.Replay.{replay_from, graph_after}
use Rattle.report_rules.specs.Lookups.{request_at}
use Rattle.order_witness.specs.Replay.{MatchesItsReply, TellsOf}
use Rattle.order_witness.proofs.Replays.{one_more, first_break}
use Rattle.order_witness.proofs.Visiting.{AreMarkedTo, marked_all, marked_next}
use Rattle.order_witness.proofs.replay.first_fault.Goals as goal

pub returns-then-not-holds-clause-first : goal.returns-then-not-holds-clause-first
returns-then-not-holds-clause-first c =
    let order : List ℕ = c.as_slice-request-items.result.now in
    let i : ℕ = c.loop-place.place in
    subst (λ (xs : List ℕ). BreaksFirstAt (replay_from empty_graph c.args.script.now c.args.report.now xs) (i + 1)) c.as_slice-request-items.ensures
    (first_break c.args.script.now c.args.report.now empty_graph order i (get_or order i 0) (plain_of c.loop-place.graph) (plain_of c.replay.new.graph) c.loop-place-test.true c.loop-place.invariant.replayed
    (get_or order i 0) (get_or_default order i 0 _ c.loop-place-test.true)
    (subst (λ (b : Bool). TellsOf (MatchesItsReply (plain_of c.loop-place.graph) c.args.script.now c.args.report.now (get_or order i 0)) (plain_of c.replay.new.graph) (graph_after (plain_of c.loop-place.graph) (request_at c.args.script.now (get_or order i 0))) b) c.if-not-holds.true c.in_ok-holds.ensures.replayed))

pub loop-place-preserved : goal.loop-place-preserved
loop-place-preserved c =
    let order : List ℕ = c.as_slice-request-items.result.now in
    let i : ℕ = c.loop-place.place in
    record {
      replayed =
          one_more c.args.script.now c.args.report.now empty_graph order i (get_or order i 0) (plain_of c.loop-place.graph) (plain_of c.replay.new.graph) c.loop-place-test.true c.loop-place.invariant.replayed
          (get_or order i 0) (get_or_default order i 0 _ c.loop-place-test.true)
          (subst (λ (b : Bool). TellsOf (MatchesItsReply (plain_of c.loop-place.graph) c.args.script.now c.args.report.now (get_or order i 0)) (plain_of c.replay.new.graph) (graph_after (plain_of c.loop-place.graph) (request_at c.args.script.now (get_or order i 0))) b) c.if-not-holds.false c.in_ok-holds.ensures.replayed);
      size = c.in_ok-holds.ensures.size ∙ c.loop-place.invariant.size;
      marked =
          marked_next c.args.script.now c.args.report.now (plain_of c.loop-place.graph) c.list_of-places.result.now c.loop-place.marks.items c.replay.new.marks.items
          c.in_ok-holds.ensures.others (c.in_ok-holds.ensures.size ∙ c.loop-place.invariant.size)
          c.requires.listing order i c.as_slice-request-items.ensures c.loop-place-test.true c.loop-place.invariant.replayed.left
          (λ below place pair at. subst (λ (places : List ℕ). (pair.later ≡ get_or order i 0) ↔ Contains places place) (sym c.list_of-places.ensures) (c.in_ok-meetings.ensures (get_or order i 0) place pair below at))
          c.in_ok-holds.ensures.marked c.loop-place.invariant.marked;
    }

pub returns-clause-first : goal.returns-clause-first
returns-clause-first c =
    let order : List ℕ = c.as_slice-request-items.result.now in
    subst (λ (xs : List ℕ). AllHold (replay_from empty_graph c.args.script.now c.args.report.now xs))
    (take_all c.loop-place.place order (omega (arith, c.loop-place-test.false)) ∙ c.as_slice-request-items.ensures) c.loop-place.invariant.replayed.hold

pub returns-clause-marked : goal.returns-clause-marked
returns-clause-marked c = λ _.
    let order : List ℕ = c.as_slice-request-items.result.now in
    marked_all c.args.script.now c.args.report.now c.requires.replies c.requires.listing c.loop-place.marks.items
    (subst (λ (xs : List ℕ). AreMarkedTo c.args.script.now c.args.report.now xs c.loop-place.marks.items)
    (take_all c.loop-place.place order (omega (arith, c.loop-place-test.false)) ∙ c.as_slice-request-items.ensures) c.loop-place.invariant.marked)
