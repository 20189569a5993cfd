use Rattle.std.proofs.Common.{◌≡◌, ◌+◌, ◌<◌, ◌≤◌, ℕ, List, Bool, Option, Some, None, false, true, get_or, length, inl, inr, sym, ap, ◌∙◌, subst, arith}
use Rattle.std.specs.Prelude.{replicate}
use Rattle.std.specs.Option.{option_and_then}
use Rattle.std.proofs.lemmas.Bool.{cases_lt}
use Rattle.std.proofs.lemmas.List.{get_or-replicate, get_or_past, length-replicate}
use Rattle.graph_ops.specs.Graphs.{plain_of}
use Rattle.graph_ops.specs.PlainGraph.{PlainGraph}
use Rattle.program_defs.specs.declared.script.Script.{Script}
use Rattle.report_rules.specs.declared.report.Report.{Report}
use Rattle.report_rules.specs.declared.report.Reply.{Reply}
use Rattle.report_rules.specs.Lookups.{commits, request_at}
use Rattle.report_rules.specs.Replay.{graph_after_commit, graph_of_commits, the_only}
use Rattle.order_witness.specs.Refusals.{AreMarkedOn, IsExpectedGraph, numbered_in}
use Rattle.order_witness.specs.ByNumber.{HasRefused}
use Rattle.order_witness.proofs.Numbered.{numbers_within}
use Rattle.order_witness.proofs.MarkSteps.{at_start, one_more, at_end, next_commit}
use Rattle.order_witness.proofs.refusal_marks.marks_by_replay.Goals as goal

-- no mark is set at the start
unmarked : (count place : ℕ) → get_or (replicate count false) place false ≡ false
unmarked count place =
    elim (cases_lt place count) [
      | inl within ↦ get_or-replicate count place false false within
      | inr beyond ↦ get_or_past (replicate count false) place false (let l : length (replicate count false) ≤ place = omega (arith, length-replicate {A = Bool} count false, beyond) in l)
    ]

-- the graph after the next commit, over the slice of replies
next_graph : (script : Script) (report : Report) (replies : List Reply) (done : ℕ) (graph : PlainGraph) (requests : List ℕ) → replies ≡ report.replies → graph_of_commits script report done ≡ Some graph → requests ≡ numbered_in (done + 1) replies
    → graph_of_commits script report (done + 1) ≡ graph_after_commit (option_and_then (request_at script) (the_only requests)) (Some graph)
next_graph script report replies done graph requests is there those =
    next_commit script report done ∙ ap (graph_after_commit (option_and_then (request_at script) (the_only (numbered_in (done + 1) report.replies)))) there
    ∙ ap (λ (rs : List Reply). graph_after_commit (option_and_then (request_at script) (the_only (numbered_in (done + 1) rs))) (Some graph)) (sym is)
    ∙ ap (λ (rs : List ℕ). graph_after_commit (option_and_then (request_at script) (the_only rs)) (Some graph)) (sym those)

-- there are no more commits than replies
within : (report : Report) (replies : List Reply) (done count : ℕ) → replies ≡ report.replies → count ≡ commits report → done < count → done + 1 ≤ length replies
within report replies done count is count_is lt = omega (arith, ap (length {A = Reply}) is, count_is, lt, numbers_within report.replies)

there_so : (o : Option PlainGraph) (now : PlainGraph) (b : Bool) → b ≡ true → IsExpectedGraph o now b → o ≡ Some now
there_so o now b is h = subst (IsExpectedGraph o now) is h

not_there : (o : Option PlainGraph) (now : PlainGraph) (b : Bool) → b ≡ false → IsExpectedGraph o now b → o ≡ None
not_there o now b is h = subst (IsExpectedGraph o now) is h

pub mark-requires-clause-places : goal.mark-requires-clause-places
mark-requires-clause-places c =
    subst (HasRefused 0 c.as_slice-replies.result.now) (sym c.list_of-first.ensures) (c.in_ok-refused.ensures 0 (omega arith))

pub mark-requires-in-loop-done-clause-places : goal.mark-requires-in-loop-done-clause-places
mark-requires-in-loop-done-clause-places c =
    let done : ℕ = c.loop-done.done in
    subst (HasRefused (done + 1) c.as_slice-replies.result.now) (sym c.list_of-places.ensures) (c.in_ok-refused.ensures (done + 1) (within c.args.report.now c.as_slice-replies.result.now done c.commits-done-end.result c.as_slice-replies.ensures c.commits-done-end.ensures c.loop-done-test.true))

pub loop-done-init : goal.loop-done-init
loop-done-init c = record {
  size = c.in_ok-mark.ensures.size ∙ ap length c.in_ok-marks.ensures ∙ length-replicate _ _;
  graph = sym (ap Some (ap plain_of c.in_ok-mark.ensures.unchanged ∙ c.new-graph.ensures));
  so_far =
      at_start c.args.script.now c.args.report.now (plain_of c.new-graph.result) c.in_ok-marks.marks.items c.mark.new.marks.items
      (λ place. ap (λ (marks : List Bool). get_or marks place false) c.in_ok-marks.ensures ∙ unmarked _ place)
      (sym (ap Some c.new-graph.ensures))
      (subst (λ (rs : List Reply). AreMarkedOn c.args.script.now (plain_of c.new-graph.result) 0 rs c.in_ok-marks.marks.items c.mark.new.marks.items) c.as_slice-replies.ensures c.in_ok-mark.ensures.marked);
}

pub loop-done-preserved : goal.loop-done-preserved
loop-done-preserved c =
    let done : ℕ = c.loop-done.done in
    let there : graph_of_commits c.args.script.now c.args.report.now (done + 1) ≡ Some (plain_of c.commit.new.graph) =
    next_graph c.args.script.now c.args.report.now c.as_slice-replies.result.now done (plain_of c.loop-done.graph) c.list_of-requests.result.now c.as_slice-replies.ensures c.loop-done.invariant.graph
    (c.list_of-requests.ensures ∙ c.in_ok-committed.ensures (done + 1) (within c.args.report.now c.as_slice-replies.result.now done c.commits-done-end.result c.as_slice-replies.ensures c.commits-done-end.ensures c.loop-done-test.true))
    ∙ there_so _ (plain_of c.commit.new.graph) c.in_ok-there.there c.if-not-there.false c.in_ok-there.ensures in
    record {
      size = c.in_ok-mark-2.ensures.size ∙ c.loop-done.invariant.size;
      graph = there ∙ ap Some (ap plain_of (sym c.in_ok-mark-2.ensures.unchanged));
      so_far =
          one_more c.args.script.now c.args.report.now done (plain_of c.commit.new.graph) c.loop-done.marks.items c.mark-in-loop-done.new.marks.items c.loop-done.invariant.so_far there
          (subst (λ (rs : List Reply). AreMarkedOn c.args.script.now (plain_of c.commit.new.graph) (done + 1) rs c.loop-done.marks.items c.mark-in-loop-done.new.marks.items) c.as_slice-replies.ensures c.in_ok-mark-2.ensures.marked);
    }

pub returns-then-not-there : goal.returns-then-not-there
returns-then-not-there c =
    at_end c.args.script.now c.args.report.now c.loop-done.done _ c.loop-done.marks.items c.loop-done.invariant.so_far
    (next_graph c.args.script.now c.args.report.now c.as_slice-replies.result.now c.loop-done.done (plain_of c.loop-done.graph) c.list_of-requests.result.now c.as_slice-replies.ensures c.loop-done.invariant.graph
    (c.list_of-requests.ensures ∙ c.in_ok-committed.ensures (c.loop-done.done + 1) (within c.args.report.now c.as_slice-replies.result.now c.loop-done.done c.commits-done-end.result c.as_slice-replies.ensures c.commits-done-end.ensures c.loop-done-test.true))
    ∙ not_there _ (plain_of c.commit.new.graph) c.in_ok-there.there c.if-not-there.true c.in_ok-there.ensures)

pub returns : goal.returns
returns c = λ place at reply here is le. c.loop-done.invariant.so_far.marked place at reply here is (omega (arith, le, c.loop-done-test.false, c.commits-done-end.ensures))
