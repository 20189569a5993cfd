use Rattle.std.proofs.Common.{◌≡◌, ◌+◌, ◌-◌, ◌<◌, ◌≤◌, ℕ, List, [], IsTrue, length, take, get_or, inl, inr, refl, sym, ap, subst, ◌∙◌, arith, false}
use Rattle.std.specs.Global.{Global}
use Rattle.std.specs.Prelude.{Vec}
use Rattle.std.proofs.lemmas.Bool.{or_left, or_right, both_ways}
use Rattle.std.proofs.lemmas.List.{get_or_default, length-replicate, take_all, take_more}
use Rattle.report_rules.specs.Lookups.{is_in}
use Rattle.order_witness.specs.Begun.{is_request_before}
use Rattle.order_witness.specs.ByNumber.{list_at}
use Rattle.order_witness.specs.Heads.{item}
use Rattle.order_witness.specs.Preceding.{LeadsBySteps, Test, leads_directly}
use Rattle.order_witness.specs.Preceding.LeadsBySteps.{Directly}
use Rattle.order_witness.specs.Rows.{HadTurn}
use Rattle.order_witness.proofs.Walking.{in_last}
use Rattle.order_witness.proofs.Leading.{item_in}
use Rattle.order_witness.proofs.Strict.{before_trans}
use Rattle.run_judge.specs.declared.chains.Spot.{Spot}
use Rattle.run_judge.specs.Chains.{spot_at}
use Rattle.run_judge.specs.Rows.{IsJoined, IsPartOfRow, IsRow, is_counted}
use Rattle.run_judge.proofs.RowLaws.{counted_itself, grows, has_place, joined_part, part_starts, passed_more, row_whole, stays, stop_after, weaken}
use Rattle.run_judge.proofs.rows.row_of.Goals as goal
use Rattle.run_judge.proofs.rows.row_of.Goals.{then-from-next, else-from-next}

pub join_one_before-requires-clause-part : goal.join_one_before-requires-clause-part
join_one_before-requires-clause-part c =
    part_starts (is_request_before c.args.report.now) (list_at c.args.ends.now) c.args.chains.now c.args.spots.now c.args.turns.now (length c.args.report.now.replies) c.requires.chains c.requires.turns
    (item c.args.turns.now c.args.turn) c.in_ok-row.row.items c.in_ok-row.ensures (ap (λ (xs : List ℕ). length xs) c.in_ok-row.ensures ∙ length-replicate (length c.args.chains.now) 0)

pub loop-earlier-init : goal.loop-earlier-init
loop-earlier-init c = record {
  part = c.join_one_before.ensures;
  ends = λ a none. absurd (both_ways false refl none);
}

pub loop-earlier-preserved : goal.loop-earlier-preserved
loop-earlier-preserved c =
    let before : Test = is_request_before c.args.report.now in
    let ends : ℕ → List ℕ = list_at c.args.ends.now in
    let chains : List (List ℕ) = c.args.chains.now in
    let spots : List Spot = c.args.spots.now in
    let turns : List ℕ = c.args.turns.now in
    let many : ℕ = length c.args.report.now.replies in
    let n : ℕ = c.args.turn in
    let b : ℕ = item turns n in
    let list : List ℕ = c.list_at-earlier-items.result.now in
    let same : list ≡ ends b = c.list_at-earlier-items.ensures in
    let i : ℕ = c.loop-earlier.earlier-index in
    let below : i < length list = c.loop-earlier-test.true in
    let a : ℕ = get_or list i 0 in
    let step : IsTrue (leads_directly before ends a b) = or_right (before a b) _ (subst (λ (xs : List ℕ). IsTrue (is_in a xs)) same (item_in list i below)) in
    let had : HadTurn turns n a = c.requires.turns.after n a c.requires.turn step in
    let at = c.requires.chains.placed a (weaken before ends chains spots turns many c.requires.chains c.requires.turns n a (let less = c.requires.turn in omega (arith, less)) had) in
    let its : IsRow (LeadsBySteps (leads_directly before ends)) chains spots a (list_at c.args.rows.now a) = c.requires.rows a had in
    let joined : IsJoined c.loop-earlier.row.items (list_at c.args.rows.now a) c.join.new.row.items (spot_at spots a).chain (spot_at spots a).place =
    subst (λ (xs : List ℕ). IsJoined c.loop-earlier.row.items xs c.join.new.row.items (spot_at spots a).chain (spot_at spots a).place) c.list_at.ensures
    (subst (λ (spot : Spot). IsJoined c.loop-earlier.row.items c.list_at.result.now c.join.new.row.items spot.chain spot.place) c.spot_of-spot.ensures c.join.ensures) in
    record {
      part = joined_part before ends chains spots turns many c.requires.chains c.requires.turns b c.loop-earlier.row.items (list_at c.args.rows.now a) c.join.new.row.items (spot_at spots a).chain (spot_at spots a).place a at.there at.some at.within at.event (Directly a b step) its c.loop-earlier.invariant.part joined;
      ends = λ x h. elim (in_last x a (take i list) (subst (λ (xs : List ℕ). IsTrue (is_in x xs)) (take_more list i 0 below) (subst (λ (xs : List ℕ). IsTrue (is_in x (take (i + 1) xs))) (sym same) h))) [
        | inl first ↦ stays before ends chains spots turns many c.requires.chains c.requires.turns b c.loop-earlier.row.items (list_at c.args.rows.now a) c.join.new.row.items (spot_at spots a).chain (spot_at spots a).place a at.there at.some at.within at.event (Directly a b step) its c.loop-earlier.invariant.part joined x (c.loop-earlier.invariant.ends x (subst (λ (xs : List ℕ). IsTrue (is_in x (take i xs))) same first))
        | inr here ↦ subst (λ y. IsTrue (is_counted spots c.join.new.row.items y)) (sym here) (counted_itself before ends chains spots turns many c.requires.chains c.requires.turns b c.loop-earlier.row.items (list_at c.args.rows.now a) c.join.new.row.items (spot_at spots a).chain (spot_at spots a).place a at.there at.some at.within at.event (Directly a b step) its c.loop-earlier.invariant.part joined refl refl)
      ];
    }

pub loop-chain-init : goal.loop-chain-init
loop-chain-init c = record {
  part = c.loop-earlier.invariant.part;
  ends = λ a h. c.loop-earlier.invariant.ends a (subst (λ (xs : List ℕ). IsTrue (is_in a xs)) (sym (take_all c.loop-earlier.earlier-index (list_at c.args.ends.now (item c.args.turns.now c.args.turn)) (let past = ap (λ (xs : List ℕ). length xs) c.list_at-earlier-items.ensures in omega (arith, past, c.loop-earlier-test.false)))) h);
  passed = λ k j less. absurd (omega (arith, less));
}

pub loop-chain-preserved : goal.loop-chain-preserved
loop-chain-preserved c =
    let before : Test = is_request_before c.args.report.now in
    let ends : ℕ → List ℕ = list_at c.args.ends.now in
    let chains : List (List ℕ) = c.args.chains.now in
    let spots : List Spot = c.args.spots.now in
    let turns : List ℕ = c.args.turns.now in
    let many : ℕ = length c.args.report.now.replies in
    let n : ℕ = c.args.turn in
    let b : ℕ = item turns n in
    let chain : ℕ = c.loop-chain.chain in
    let there : chain < length chains = c.loop-chain-test.true in
    let old : List ℕ = c.loop-chain.row.items in
    let next : ℕ = c.passed-next.result in
    let inv = c.loop-chain.invariant in
    let transitive = before_trans (record { irreflexive = c.stamps_are_ordered.ensures.irreflexive; transitive = c.stamps_are_ordered.ensures.transitive }) c.args.report.now in
    let list : List ℕ = c.as_slice-list.result.now in
    let is : list ≡ list_at chains chain = c.as_slice-list.ensures ∙ c.index-chains-chain.is ∙ get_or_default chains chain c.index-chains-chain.result [] there in
    let from : c.item-from.result ≡ item old chain = c.item-from.ensures ∙ ap (λ (xs : List ℕ). item xs chain) c.as_slice.ensures.value in
    let last : (k : ℕ) → k < length (list_at chains chain) → IsTrue (before (item (list_at chains chain) k) b) → k < next =
    stop_after before ends chains spots turns many c.requires.chains c.requires.turns transitive b chain next (subst (λ (xs : List ℕ). next < length xs → before (item xs next) b ≡ false) is c.passed-next.ensures.stopped) in
    elim c.if-from-next.branch [
      | then-from-next w ↦
          let new : List ℕ = w.join-then-from-next.new.row.items in
          let more : c.item-from.result < next = w.if-from-next.true in
          let e : ℕ = item (list_at chains chain) (next - 1) in
          let step : IsTrue (leads_directly before ends e b) = or_left (before e b) _ (subst (λ (xs : List ℕ). IsTrue (before (item xs (next - 1)) b)) is (c.passed-next.ensures.last more)) in
          let had : HadTurn turns n e = c.requires.turns.after n e c.requires.turn step in
          let its : IsRow (LeadsBySteps (leads_directly before ends)) chains spots e (list_at c.args.rows.now e) = c.requires.rows e had in
          let inside : next ≤ length (list_at chains chain) = subst (λ (xs : List ℕ). next ≤ length xs) is (c.passed-next.ensures.within more) in
          let joined : IsJoined old (list_at c.args.rows.now e) new chain next =
          subst (λ (xs : List ℕ). IsJoined old xs new chain next) (w.list_at-then-from-next.ensures ∙ ap (list_at c.args.rows.now) (w.item-last.ensures ∙ ap (λ (xs : List ℕ). item xs (next - 1)) is)) w.join-then-from-next.ensures in
          record {
            part = subst (λ (row : Vec ℕ Global). IsPartOfRow (LeadsBySteps (leads_directly before ends)) chains spots b row.items) (sym w.row-is) (joined_part before ends chains spots turns many c.requires.chains c.requires.turns b old (list_at c.args.rows.now e) new chain next e there (omega (arith, more)) inside refl (Directly e b step) its inv.part joined);
            ends = λ x h. subst (λ (row : Vec ℕ Global). IsTrue (is_counted spots row.items x)) (sym w.row-is) (stays before ends chains spots turns many c.requires.chains c.requires.turns b old (list_at c.args.rows.now e) new chain next e there (omega (arith, more)) inside refl (Directly e b step) its inv.part joined x (inv.ends x h));
            passed = λ k j less within holds. subst (λ (row : Vec ℕ Global). j < item row.items k) (sym w.row-is) (passed_more before ends chains spots turns many c.requires.chains c.requires.turns b old new chain next
                (grows before ends chains spots turns many c.requires.chains c.requires.turns b old (list_at c.args.rows.now e) new chain next e there (omega (arith, more)) inside refl (Directly e b step) its inv.part joined)
                (has_place before ends chains spots turns many c.requires.chains c.requires.turns b old (list_at c.args.rows.now e) new chain next e there (omega (arith, more)) inside refl (Directly e b step) its inv.part joined)
                last inv.passed k j less within holds);
          }
      | else-from-next w ↦
          let onward = c.passed-next.ensures.onward in
          let none : next ≤ item old chain = omega (arith, w.if-from-next.false, from) in
          record {
            part = subst (λ (row : Vec ℕ Global). IsPartOfRow (LeadsBySteps (leads_directly before ends)) chains spots b row.items) (sym w.row-is) inv.part;
            ends = λ x h. subst (λ (row : Vec ℕ Global). IsTrue (is_counted spots row.items x)) (sym w.row-is) (inv.ends x h);
            passed = λ k j less within holds. subst (λ (row : Vec ℕ Global). j < item row.items k) (sym w.row-is) (passed_more before ends chains spots turns many c.requires.chains c.requires.turns b old old chain next (λ m. omega arith) none last inv.passed k j less within holds);
          }
    ]

pub returns : goal.returns
returns c =
    let before : Test = is_request_before c.args.report.now in
    let ends : ℕ → List ℕ = list_at c.args.ends.now in
    let turns : List ℕ = c.args.turns.now in
    let b : ℕ = item turns c.args.turn in
    subst (IsRow (LeadsBySteps (leads_directly before ends)) c.args.chains.now c.args.spots.now b) (sym c.from_vec.ensures)
    (row_whole before ends c.args.chains.now c.args.spots.now turns (length c.args.report.now.replies) c.requires.chains c.requires.turns b (record { j = c.args.turn; within = c.requires.turn; event = refl }) c.loop-chain.row.items c.loop-chain.invariant.part c.loop-chain.invariant.ends
    (λ k j less. c.loop-chain.invariant.passed k j (omega (arith, less, c.loop-chain-test.false))))
