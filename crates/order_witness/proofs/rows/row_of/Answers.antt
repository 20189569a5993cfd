use Rattle.std.proofs.Common.{◌≡◌, ◌+◌, ◌-◌, ◌<◌, ◌≤◌, ℕ, List, IsTrue, length, take, get_or, inl, inr, refl, sym, ap, subst, ◌∙◌, arith, false}
use Rattle.std.proofs.lemmas.Bool.{or_left, or_right, both_ways}
use Rattle.std.proofs.lemmas.List.{take_more, length-map}
use Rattle.order_witness.specs.declared.heads.Run.{Run}
use Rattle.report_rules.specs.Lookups.{is_in}
use Rattle.order_witness.specs.Begun.{is_request_before}
use Rattle.order_witness.specs.ByNumber.{list_at}
use Rattle.order_witness.specs.Heads.{IsReached, item, run_at}
use Rattle.order_witness.specs.Preceding.{Test, leads_directly}
use Rattle.order_witness.specs.Rows.{HadTurn, IsCounted, IsIncluded, IsPart, IsRowOfCounts}
use Rattle.order_witness.proofs.Walking.{in_last}
use Rattle.order_witness.proofs.Leading.{item_in}
use Rattle.order_witness.proofs.Rowing.{included_part, stays, itself, row_whole, stopped_more, written_back, part_starts, followed_part}
use Rattle.order_witness.proofs.rows.row_of.Goals as goal
use Rattle.order_witness.proofs.rows.row_of.Goals.{then-row-i, else-row-i}

pub loop-earlier-init : goal.loop-earlier-init
loop-earlier-init c =
    let before : Test = is_request_before c.args.report.now in
    let ends : ℕ → List ℕ = list_at c.args.befores.now in
    let line : List ℕ = c.args.line.now in
    let runs : List Run = c.args.runs.now in
    let places : List ℕ = c.args.places.now in
    let turns : List ℕ = c.args.turns.now in
    let rows : List (List ℕ) = c.args.rows.now in
    let n : ℕ = c.args.turn in
    let b : ℕ = item turns n in
    let first : IsPart (leads_directly before ends) line runs turns n rows b c.as_mut_slice-row.result.now =
    subst (IsPart (leads_directly before ends) line runs turns n rows b) (sym (c.as_mut_slice-row.ensures.value ∙ c.in_ok-storage.ensures)) (part_starts before ends line runs places c.requires.lined turns n rows b) in
    record {
      part = followed_part before ends line runs places c.requires.lined turns n rows c.requires.rows b c.as_mut_slice-row.result.now c.include_before.new.row c.requires.turns first c.include_before.ensures.followed;
      ends = λ a none. absurd (both_ways false refl none);
    }

pub loop-earlier-preserved : goal.loop-earlier-preserved
loop-earlier-preserved c =
    let before : Test = is_request_before c.args.report.now in
    let ends : ℕ → List ℕ = list_at c.args.befores.now in
    let line : List ℕ = c.args.line.now in
    let runs : List Run = c.args.runs.now in
    let places : List ℕ = c.args.places.now in
    let turns : List ℕ = c.args.turns.now in
    let b : ℕ = item turns c.args.turn in
    let list : List ℕ = c.list_of-earlier-items.result.now in
    let same : list ≡ ends b = c.list_of-earlier-items.ensures in
    let i : ℕ = c.loop-earlier.earlier-index in
    let below : i < length list = c.loop-earlier-test.true in
    let a : ℕ = get_or list i 0 in
    let leads : IsTrue (leads_directly before ends a b) = or_right (before a b) _ (subst (λ (xs : List ℕ). IsTrue (is_in a xs)) same (item_in list i below)) in
    let is : HadTurn turns c.args.turn a = c.requires.turns a leads in
    let placed = c.requires.lined.placed a b leads in
    let included : IsIncluded runs c.loop-earlier.row (list_at c.args.rows.now a) c.include.new.row (item places a) =
    subst (λ (xs : List ℕ). IsIncluded runs c.loop-earlier.row xs c.include.new.row (item places a)) c.row_in.ensures (subst (λ p. IsIncluded runs c.loop-earlier.row c.row_in.result.now c.include.new.row p) c.item.ensures c.include.ensures) in
    record {
      part = included_part before ends line runs places c.requires.lined turns c.args.turn c.args.rows.now c.requires.rows b c.loop-earlier.row c.include.new.row a (item places a) is leads placed.0 placed.1 c.loop-earlier.invariant.part included;
      ends = λ x h. elim (in_last x a (take i list) (subst (λ (xs : List ℕ). IsTrue (is_in x xs)) (take_more list i 0 below) (subst (λ (xs : List ℕ). IsTrue (is_in x (take (i + 1) xs))) (sym same) h))) [
        | inl first ↦ stays before ends line runs places c.requires.lined turns c.args.turn c.args.rows.now c.requires.rows b c.loop-earlier.row c.include.new.row a (item places a) is leads placed.0 placed.1 c.loop-earlier.invariant.part included x (c.loop-earlier.invariant.ends x (subst (λ (xs : List ℕ). IsTrue (is_in x (take i xs))) same first))
        | inr here ↦ subst (IsCounted line runs c.include.new.row) (sym here) (itself before ends line runs places c.requires.lined turns c.args.turn c.args.rows.now c.requires.rows b c.loop-earlier.row c.include.new.row a (item places a) is leads placed.0 placed.1 c.loop-earlier.invariant.part included)
      ];
    }

pub loop-i-preserved : goal.loop-i-preserved
loop-i-preserved c =
    let before : Test = is_request_before c.args.report.now in
    let ends : ℕ → List ℕ = list_at c.args.befores.now in
    let line : List ℕ = c.args.line.now in
    let runs : List Run = c.args.runs.now in
    let places : List ℕ = c.args.places.now in
    let turns : List ℕ = c.args.turns.now in
    let rows : List (List ℕ) = c.args.rows.now in
    let n : ℕ = c.args.turn in
    let b : ℕ = item turns n in
    let i : ℕ = c.loop-i.i in
    let there : i < length runs = c.loop-i-test.true in
    let old : List ℕ = c.loop-i.row in
    let next : ℕ = c.passed-next.result in
    let inv = c.loop-i.invariant in
    let low : (run_at runs i).next ≤ item old i = inv.part.started i there in
    let onward : item old i ≤ next = c.passed-next.ensures.onward in
    elim c.if-row-i.branch [
      | then-row-i w ↦
          let new : List ℕ = w.include-then-row-i.new.row in
          let more : item old i < next = w.if-row-i.true in
          let last : ℕ = next - 1 in
          let a : ℕ = item line last in
          let leads : IsTrue (leads_directly before ends a b) = or_left (before a b) _ (c.passed-next.ensures.last more) in
          let is : HadTurn turns n a = c.requires.turns a leads in
          let top = c.passed-next.ensures.within more in
          let in_run : IsReached runs last = record { i = i; there = there; from = omega (arith, low, more); below = omega (arith, more, top) } in
          let included : IsIncluded runs old (list_at rows a) new last =
          subst (λ (xs : List ℕ). IsIncluded runs old xs new last) (w.row_in-then-row-i.ensures ∙ ap (list_at rows) w.item-then-row-i.ensures) w.include-then-row-i.ensures in
          let far : last < item new i = (included.each i there).placed in_run.from in_run.below in
          record {
            part = subst (IsPart (leads_directly before ends) line runs turns n rows b) (sym w.row-is) (included_part before ends line runs places c.requires.lined turns n rows c.requires.rows b old new a last is leads refl in_run inv.part included);
            ends = λ x h. subst (λ (r : List ℕ). IsCounted line runs r x) (sym w.row-is) (stays before ends line runs places c.requires.lined turns n rows c.requires.rows b old new a last is leads refl in_run inv.part included x (inv.ends x h));
            stopped = λ j k less on below. stopped_more before ends line runs places c.requires.lined turns n rows b i next old new there (omega (arith, low, onward)) c.passed-next.ensures.stopped (omega (arith, far, more)) (λ m within. (included.each m within).first) inv.stopped j k less (subst (λ (r : List ℕ). item r j ≤ k) w.row-is on) below;
          }
      | else-row-i w ↦
          let none : next ≤ item old i = omega (arith, w.if-row-i.false) in
          record {
            part = subst (IsPart (leads_directly before ends) line runs turns n rows b) (sym w.row-is) inv.part;
            ends = λ x h. subst (λ (r : List ℕ). IsCounted line runs r x) (sym w.row-is) (inv.ends x h);
            stopped = λ j k less on below. stopped_more before ends line runs places c.requires.lined turns n rows b i next old old there (omega (arith, low, onward)) c.passed-next.ensures.stopped none (λ m within. omega arith) inv.stopped j k less (subst (λ (r : List ℕ). item r j ≤ k) w.row-is on) below;
          }
    ]

pub returns : goal.returns
returns c =
    let before : Test = is_request_before c.args.report.now in
    let ends : ℕ → List ℕ = list_at c.args.befores.now in
    let b : ℕ = item c.args.turns.now c.args.turn in
    let runs : List Run = c.args.runs.now in
    let kept = c.as_mut_slice-row.ensures.len in
    let value = ap (λ (xs : List ℕ). length xs) c.as_mut_slice-row.ensures.value in
    let starts = ap (λ (xs : List ℕ). length xs) c.in_ok-storage.ensures in
    let many = length-map runs (λ (run : Run). run.next) in
    let size = c.loop-i.invariant.part.size in
    let long : length c.loop-i.row ≡ c.in_ok-storage.storage.len = omega (arith, kept, value, starts, many, size) in
    subst (IsRowOfCounts (leads_directly before ends) c.args.line.now runs c.args.turns.now c.args.turn c.args.rows.now b) (sym (c.from_vec.ensures ∙ written_back c.loop-i.row c.in_ok-storage.storage.items c.in_ok-storage.storage.len long))
    (row_whole before ends c.args.line.now runs c.args.places.now c.requires.lined c.args.turns.now c.args.turn c.args.rows.now b c.loop-i.row c.loop-i.invariant.part c.loop-i.invariant.ends (λ i k within. c.loop-i.invariant.stopped i k (omega (arith, within, c.loop-i-test.false))))
