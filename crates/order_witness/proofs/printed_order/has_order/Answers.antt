use Rattle.std.proofs.Common.{Vec, Global, ◌≡◌, ℕ, Bool, IsTrue, Option, Some, None, subst}
use Rattle.std.specs.Prelude.{MatchOption, is_some, ◌↔◌}
use Rattle.std.proofs.lemmas.Bool.{both_ways}
use Rattle.weave_data.proofs.FactsLaws.{none_breaks}
use Rattle.report_rules.specs.RightReport.{replies_clause}
use Rattle.order_witness.specs.Judgement.{IsFirstFault}
use Rattle.order_witness.proofs.printed_order.has_order.Goals as goal

-- there is an order if no request precedes itself, and otherwise none
found : (Holds None-precedes : Type 0) (Is : Vec ℕ Global → Type 0) (turns : Option (Vec ℕ Global)) (has : Bool) → has ≡ is_some turns → Holds → MatchOption turns (¬ None-precedes) (λ o. Is o × None-precedes) → IsTrue has ↔ (Holds × None-precedes)
found Holds None-precedes Is None has is holds h = (λ yes. absurd (both_ways _ is yes), λ both. absurd (h both.1))
found Holds None-precedes Is (Some turns) has is holds h = (λ yes. (holds, h.1), λ both. is)

pub taken_in_turn-requires : goal.taken_in_turn-requires
taken_in_turn-requires c = subst (IsFirstFault (replies_clause c.args.script.now c.args.report.now)) c.in_default.is c.in_ok-first_fault.ensures

pub returns-in-Some : goal.returns-in-Some
returns-in-Some c = (λ e. cc, λ both. absurd (none_breaks (replies_clause c.args.script.now c.args.report.now) both.0 c.in-Some.field-0 (subst (IsFirstFault (replies_clause c.args.script.now c.args.report.now)) c.in-Some.is c.in_ok-first_fault.ensures)))

pub returns : goal.returns
returns c = found _ _ _ c.in_ok-turns.turns c.is_some.result c.is_some.ensures (subst (IsFirstFault (replies_clause c.args.script.now c.args.report.now)) c.in_default.is c.in_ok-first_fault.ensures) c.in_ok-turns.ensures
