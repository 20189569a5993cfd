use Rattle.std.proofs.Common.{◌≡◌, ◌<◌, ◌∙◌, ℕ, List, length, sym, ap, subst}
use Rattle.report_rules.specs.declared.report.Reply.{Reply}
use Rattle.order_witness.specs.Begun.{is_request_before}
use Rattle.order_witness.specs.Heads.{AreEarlierEnds, item}
use Rattle.order_witness.specs.Preceding.{AreStepsOf, LeadsBySteps, direct_steps}
use Rattle.order_witness.specs.Rows.{AreTurns}
use Rattle.order_witness.proofs.Acyclic.{none_itself}
use Rattle.order_witness.proofs.Replying.{differ}
use Rattle.order_witness.proofs.TakenTurns.{are_turns}
use Rattle.order_witness.proofs.Ways.{are_steps}
use Rattle.run_judge.specs.declared.chains.Spot.{Spot}
use Rattle.run_judge.specs.declared.ways.Ways.{Ways}
use Rattle.run_judge.specs.Chains.{AreTurnChains}
use Rattle.run_judge.specs.Rows.{AreTurnRows}
use Rattle.run_judge.proofs.WayLaws.{ends_of_report, ways_tell}
use Rattle.run_judge.proofs.ways.ways_of.Goals as goal

pub turns_of-requires-clause-acyclic : goal.turns_of-requires-clause-acyclic
turns_of-requires-clause-acyclic c =
    let report = c.args.report.now in
    let size : length c.in_ok-ends.ends.items ≡ length report.replies = c.in_ok-ends.ensures.size ∙ ap (λ (rs : List Reply). length rs) c.as_slice-replies.ensures in
    let ends : AreEarlierEnds report c.in_ok-ends.ends.items = ends_of_report report c.as_slice-replies.result.now c.as_slice.result.now c.in_ok-ends.ends.items c.as_slice-replies.ensures c.as_slice.ensures c.in_ok-ends.ensures.ends in
    let steps : AreStepsOf report c.in_ok-ends.ends.items = are_steps report c.in_ok-ends.ends.items size ends c.precedence_is_decided.ensures.closed c.one_pair_joins_its_ends.ensures (differ c.args.script.now report c.requires.replies) c.precedence_is_decided.ensures.tested c.args.script.now in
    none_itself c.args.script.now report c.requires.replies c.requires.listing c.requires.order c.requires.pairs (record { irreflexive = c.stamps_are_ordered.ensures.irreflexive; transitive = c.stamps_are_ordered.ensures.transitive }) c.in_ok-ends.ends.items size ends steps

pub chains_of-requires : goal.chains_of-requires
chains_of-requires c k within =
    let report = c.args.report.now in
    let size : length c.in_ok-ends.ends.items ≡ length report.replies = c.in_ok-ends.ensures.size ∙ ap (λ (rs : List Reply). length rs) c.as_slice-replies.ensures in
    let ends : AreEarlierEnds report c.in_ok-ends.ends.items = ends_of_report report c.as_slice-replies.result.now c.as_slice.result.now c.in_ok-ends.ends.items c.as_slice-replies.ensures c.as_slice.ensures c.in_ok-ends.ensures.ends in
    let steps : AreStepsOf report c.in_ok-ends.ends.items = are_steps report c.in_ok-ends.ends.items size ends c.precedence_is_decided.ensures.closed c.one_pair_joins_its_ends.ensures (differ c.args.script.now report c.requires.replies) c.precedence_is_decided.ensures.tested c.args.script.now in
    let all = are_turns c.args.script.now report c.requires.replies c.in_ok-ends.ends.items size ends c.precedence_is_decided.ensures.closed steps c.in_ok-turns.turns.items c.in_ok-turns.ensures in
    subst (λ (turns : List ℕ). item turns k < length report.replies) (sym c.as_slice-2.ensures.value) (all.within k (subst (λ (turns : List ℕ). k < length turns) c.as_slice-2.ensures.value within))

pub rows_of-requires-clause-chains : goal.rows_of-requires-clause-chains
rows_of-requires-clause-chains c =
    let before = is_request_before c.args.report.now in
    subst (λ (turns : List ℕ). AreTurnChains before turns (length turns) c.as_slice-4.result.now c.as_slice-5.result.now) (c.as_slice-2.ensures.value ∙ sym c.as_slice-6.ensures.value)
    (subst (λ (chains : List (List ℕ)). AreTurnChains before c.as_slice-2.result.now (length c.as_slice-2.result.now) chains c.as_slice-5.result.now) (sym c.as_slice-4.ensures.value)
    (subst (λ (spots : List Spot). AreTurnChains before c.as_slice-2.result.now (length c.as_slice-2.result.now) c.in_ok-chains.chains.lists.items spots) (sym c.as_slice-5.ensures.value) c.in_ok-chains.ensures))

pub rows_of-requires-clause-turns : goal.rows_of-requires-clause-turns
rows_of-requires-clause-turns c =
    let report = c.args.report.now in
    let size : length c.in_ok-ends.ends.items ≡ length report.replies = c.in_ok-ends.ensures.size ∙ ap (λ (rs : List Reply). length rs) c.as_slice-replies.ensures in
    let ends : AreEarlierEnds report c.in_ok-ends.ends.items = ends_of_report report c.as_slice-replies.result.now c.as_slice.result.now c.in_ok-ends.ends.items c.as_slice-replies.ensures c.as_slice.ensures c.in_ok-ends.ensures.ends in
    let steps : AreStepsOf report c.in_ok-ends.ends.items = are_steps report c.in_ok-ends.ends.items size ends c.precedence_is_decided.ensures.closed c.one_pair_joins_its_ends.ensures (differ c.args.script.now report c.requires.replies) c.precedence_is_decided.ensures.tested c.args.script.now in
    subst (λ (turns : List ℕ). AreTurns (direct_steps report c.as_slice-3.result.now) turns (length report.replies)) (sym c.as_slice-6.ensures.value)
    (subst (λ (table : List (List ℕ)). AreTurns (direct_steps report table) c.in_ok-turns.turns.items (length report.replies)) (sym c.as_slice-3.ensures.value)
    (are_turns c.args.script.now report c.requires.replies c.in_ok-ends.ends.items size ends c.precedence_is_decided.ensures.closed steps c.in_ok-turns.turns.items c.in_ok-turns.ensures))

pub returns-clause-tells : goal.returns-clause-tells
returns-clause-tells c =
    let report = c.args.report.now in
    let size : length c.in_ok-ends.ends.items ≡ length report.replies = c.in_ok-ends.ensures.size ∙ ap (λ (rs : List Reply). length rs) c.as_slice-replies.ensures in
    let ends : AreEarlierEnds report c.in_ok-ends.ends.items = ends_of_report report c.as_slice-replies.result.now c.as_slice.result.now c.in_ok-ends.ends.items c.as_slice-replies.ensures c.as_slice.ensures c.in_ok-ends.ensures.ends in
    let steps : AreStepsOf report c.in_ok-ends.ends.items = are_steps report c.in_ok-ends.ends.items size ends c.precedence_is_decided.ensures.closed c.one_pair_joins_its_ends.ensures (differ c.args.script.now report c.requires.replies) c.precedence_is_decided.ensures.tested c.args.script.now in
    let before = is_request_before report in
    let turns : List ℕ = c.in_ok-turns.turns.items in
    let chains : List (List ℕ) = c.in_ok-chains.chains.lists.items in
    let spots : List Spot = c.in_ok-chains.chains.spots.items in
    let rows : List (List ℕ) = c.in_ok-rows.rows.items in
    let ways : Ways = record { turns = c.in_ok-turns.turns; chains = c.in_ok-chains.chains.lists; spots = c.in_ok-chains.chains.spots; rows = c.in_ok-rows.rows } in
    ways_tell c.args.script.now report c.requires.replies c.in_ok-ends.ends.items steps ways c.in_ok-turns.ensures
    (subst (λ (its : List ℕ). AreTurnChains before its (length its) chains spots) c.as_slice-2.ensures.value c.in_ok-chains.ensures)
    (subst (λ (its : List ℕ). AreTurnRows (LeadsBySteps (direct_steps report c.in_ok-ends.ends.items)) chains spots its (length its) rows) c.as_slice-6.ensures.value
    (subst (λ (its : List Spot). AreTurnRows (LeadsBySteps (direct_steps report c.in_ok-ends.ends.items)) chains its c.as_slice-6.result.now (length c.as_slice-6.result.now) rows) c.as_slice-5.ensures.value
    (subst (λ (its : List (List ℕ)). AreTurnRows (LeadsBySteps (direct_steps report c.in_ok-ends.ends.items)) its c.as_slice-5.result.now c.as_slice-6.result.now (length c.as_slice-6.result.now) rows) c.as_slice-4.ensures.value
    (subst (λ (its : List (List ℕ)). AreTurnRows (LeadsBySteps (direct_steps report its)) c.as_slice-4.result.now c.as_slice-5.result.now c.as_slice-6.result.now (length c.as_slice-6.result.now) rows) c.as_slice-3.ensures.value c.in_ok-rows.ensures))))
