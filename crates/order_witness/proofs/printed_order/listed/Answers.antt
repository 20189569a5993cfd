use Rattle.std.proofs.Common.{◌++◌, ◌∷◌, [], ℕ, List, take, get_or, sym, ap, ◌∙◌}
use Rattle.std.specs.Prelude.{slice_get}
use Rattle.std.specs.List.{filter}
use Rattle.std.proofs.lemmas.List.{take_more}
use Rattle.std.proofs.lemmas.List.Elements.{filter-append}
use Rattle.report_rules.specs.Lookups.{may_be_listed}
use Rattle.order_witness.specs.Heads.{listed_in}
use Rattle.order_witness.proofs.Taking.{listed_one}
use Rattle.order_witness.proofs.printed_order.listed.Goals as goal

pub loop-turn-preserved : goal.loop-turn-preserved
loop-turn-preserved c =
    let report = c.args.report.now in
    let turns : List ℕ = c.args.turns.now in
    let i : ℕ = c.loop-turn.turn-index in
    let r : ℕ = get_or turns i 0 in
    c.in_ok-add.ensures ∙ ap (λ (xs : List ℕ). xs ++ listed_in (slice_get report.replies r)) c.loop-turn.invariant
    ∙ ap (λ (xs : List ℕ). filter (may_be_listed report) (take i turns) ++ xs) (listed_one report r (c.requires r))
    ∙ sym (filter-append (may_be_listed report) (take i turns) (r ∷ []))
    ∙ sym (ap (filter (may_be_listed report)) (take_more turns i 0 c.loop-turn-test.true))
