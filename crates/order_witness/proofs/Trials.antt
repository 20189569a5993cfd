-- A transaction that is tried: where it stops, and why.
-- Used by `stops`.
use Rattle.std.proofs.Common.{◌≡◌, ℕ, Bool, true, false, IsTrue, Ok, Err, refl, ap, sym, ◌∙◌}
use Rattle.std.specs.Prelude.{◌↔◌}
use Rattle.std.proofs.lemmas.Bool.{both_ways}
use Rattle.graph_ops.specs.declared.op.Reason.{Reason}
use Rattle.graph_ops.specs.PlainGraph.{TxOutcome, PassedTx, StoppedTx}
use Rattle.order_witness.specs.Refusals.{Marks}

-- the outcomes, by their constructors
abbrev stop : StoppedTx → TxOutcome
stop s = Err s

abbrev pass : PassedTx → TxOutcome
pass p = Ok p

one_stop : (a b : StoppedTx) → stop a ≡ stop b → a ≡ b
one_stop a b e = cc

never : (passed : PassedTx) (s : StoppedTx) → pass passed ≡ stop s → ⊥
never passed s e = cc

-- one that passes isn't refused
pub passed_so : (outcome : TxOutcome) (passed : PassedTx) (s : StoppedTx) → outcome ≡ Ok passed → ¬ (outcome ≡ Err s)
passed_so outcome passed s is stopped = never passed s (sym is ∙ stopped)

-- what the comparison says of one that is refused
pub told : (b : Bool) (outcome : TxOutcome) (stopped op : ℕ) (cause reason : Reason) → (IsTrue b ↔ ((stopped ≡ op) × (cause ≡ reason)))
    → outcome ≡ Err (record { op = stopped; reason = cause }) → Marks b (outcome ≡ Err (record { op = op; reason = reason }))
told true outcome stopped op cause reason test at =
    let parts = test.0 refl in
    at ∙ ap stop (ap (λ n. (let s : StoppedTx = record { op = n; reason = cause } in s)) parts.0 ∙ ap (λ (r : Reason). (let s : StoppedTx = record { op = op; reason = r } in s)) parts.1)
told false outcome stopped op cause reason test at = λ is.
    let same = one_stop (record { op = stopped; reason = cause }) (record { op = op; reason = reason }) (sym at ∙ is) in
    both_ways false refl (test.1 (ap (λ (s : StoppedTx). s.op) same, ap (λ (s : StoppedTx). s.reason) same))
