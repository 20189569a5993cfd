use Rattle.std.proofs.Common.{◌≡◌, ◌-◌, ◌<◌, ℕ, List, IsTrue, length, refl, ap, subst, ◌∙◌, arith}
use Rattle.std.proofs.lemmas.Bool.{or_left}
use Rattle.order_witness.specs.Begun.{is_request_before}
use Rattle.order_witness.specs.ByNumber.{list_at}
use Rattle.order_witness.specs.Heads.{item}
use Rattle.order_witness.specs.Preceding.{LeadsBySteps, Test, leads_directly}
use Rattle.order_witness.specs.Preceding.LeadsBySteps.{Directly}
use Rattle.order_witness.specs.Rows.{HadTurn}
use Rattle.run_judge.specs.declared.chains.Spot.{Spot}
use Rattle.run_judge.specs.Chains.{spot_at}
use Rattle.run_judge.specs.Rows.{IsJoined, IsRow}
use Rattle.run_judge.proofs.RowLaws.{joined_part}
use Rattle.run_judge.proofs.rows.join_one_before.Goals as goal

pub returns : goal.returns
returns c =
    let before : Test = is_request_before c.args.report.now in
    let ends : ℕ → List ℕ = list_at c.args.ends.now in
    let chains : List (List ℕ) = c.args.chains.now in
    let spots : List Spot = c.args.spots.now in
    let turns : List ℕ = c.args.turns.now in
    let many : ℕ = length c.args.report.now.replies in
    let n : ℕ = c.args.turn in
    let b : ℕ = item turns n in
    let spot : Spot = spot_at spots b in
    let is_spot = c.spot_of-spot.ensures in
    let at = c.requires.chains.placed b (record { j = n; within = c.requires.turn; event = refl }) in
    let within = at.within in
    let place = ap (λ (s : Spot). s.place) is_spot in
    let far : 1 < spot.place = omega (arith, c.if-spot-le1.false, place) in
    let m : ℕ = spot.place - 1 in
    let list : List ℕ = list_at chains spot.chain in
    let e : ℕ = item list (m - 1) in
    let stamp : IsTrue (before e b) = subst (λ x. IsTrue (before e x)) at.event (c.requires.chains.rising spot.chain (m - 1) (spot.place - 1) (omega (arith, far)) (omega (arith, far, within))) in
    let step : IsTrue (leads_directly before ends e b) = or_left (before e b) _ stamp in
    let had : HadTurn turns n e = c.requires.turns.after n e c.requires.turn step in
    let its : IsRow (LeadsBySteps (leads_directly before ends)) chains spots e (list_at c.args.rows.now e) = c.requires.rows e had in
    let last_is : c.item-last.result ≡ e = c.item-last.ensures ∙ ap (λ (xs : List ℕ). item xs (c.spot_of-spot.result.place - 1 - 1)) c.list_at.ensures ∙ ap (λ (s : Spot). item (list_at chains s.chain) (s.place - 1 - 1)) is_spot in
    let joined : IsJoined c.args.row.now.items (list_at c.args.rows.now e) c.join.new.row.items spot.chain m =
    subst (λ (xs : List ℕ). IsJoined c.args.row.now.items xs c.join.new.row.items spot.chain m) (c.list_at-2.ensures ∙ ap (list_at c.args.rows.now) last_is)
    (subst (λ (s : Spot). IsJoined c.args.row.now.items c.list_at-2.result.now c.join.new.row.items s.chain (s.place - 1)) is_spot c.join.ensures) in
    joined_part before ends chains spots turns many c.requires.chains c.requires.turns b c.args.row.now.items (list_at c.args.rows.now e) c.join.new.row.items spot.chain m e at.there (omega (arith, far)) (omega (arith, within)) refl (Directly e b step) its c.requires.part joined
