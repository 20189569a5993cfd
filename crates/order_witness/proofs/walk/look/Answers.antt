use Rattle.std.proofs.Common.{◌≡◌, ◌<◌, ℕ, Bool, List, IsTrue, length, false, arith}
use Rattle.std.proofs.lemmas.Bool.{or_left}
use Rattle.order_witness.specs.Begun.{is_request_before}
use Rattle.order_witness.specs.ByNumber.{list_at}
use Rattle.order_witness.specs.Heads.{item, run_at}
use Rattle.order_witness.specs.Preceding.{leads_directly}
use Rattle.order_witness.proofs.Walking.{grown_on, grown_wider, passed_one, stopped_one, all_marked}
use Rattle.order_witness.proofs.walk.look.Goals as goal

pub loop-i-preserved : goal.loop-i-preserved
loop-i-preserved c =
    let before : ℕ → ℕ → Bool = is_request_before c.args.report.now in
    let ends : ℕ → List ℕ = list_at c.args.befores.now in
    let b : ℕ = c.args.request in
    let line : List ℕ = c.args.line.now in
    let i : ℕ = c.loop-i.i in
    let grown = c.in_ok-passed.ensures.grown in
    let so_far = c.loop-i.invariant in
    record {
      passed = passed_one line c.loop-i.marked c.mark_run.new.marked c.args.runs.now c.loop-i.passed grown.stay so_far.passed i c.in_ok-passed.field-0 c.loop-i-test.true c.in_ok-passed.ensures.onward c.in_ok-passed.ensures.marked;
      stopped = stopped_one line c.loop-i.marked c.mark_run.new.marked c.args.runs.now c.loop-i.passed grown.stay so_far.passed i c.in_ok-passed.field-0 c.loop-i-test.true c.in_ok-passed.ensures.onward (λ j next. next < (run_at c.args.runs.now j).end → before (item line next) b ≡ false) so_far.stopped c.in_ok-passed.ensures.stopped;
      ends = λ a h. grown.stay a (so_far.ends a h);
      grown = grown_on (λ a. IsTrue (leads_directly before ends a b)) c.args.marked.now c.loop-i.marked c.mark_run.new.marked c.args.due.now.items c.loop-i.due.items c.mark_run.new.due.items so_far.grown
          (grown_wider (λ a. IsTrue (before a b)) (λ a. IsTrue (leads_directly before ends a b)) c.loop-i.marked c.mark_run.new.marked c.loop-i.due.items c.mark_run.new.due.items (λ a h. or_left (before a b) _ h) grown);
    }

pub returns-clause-all : goal.returns-clause-all
returns-clause-all c =
    all_marked (is_request_before c.args.report.now) (list_at c.args.befores.now) c.args.line.now c.args.runs.now (length c.args.marked.now) c.requires.runs c.loop-i.marked c.loop-i.passed c.args.request c.loop-i.invariant.passed
    (λ j within. c.loop-i.invariant.stopped j (omega (arith, within, c.loop-i-test.false))) c.loop-i.invariant.ends
