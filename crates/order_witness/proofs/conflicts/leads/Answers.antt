use Rattle.std.proofs.Common.{◌≡◌, ◌<◌, ℕ, List, IsTrue, length, false, sym, ◌∙◌, subst}
use Rattle.order_witness.specs.declared.heads.Run.{Run}
use Rattle.order_witness.specs.Heads.{item, run_at}
use Rattle.order_witness.specs.Rows.{is_below_last}
use Rattle.order_witness.proofs.TakenTurns.{leads_so}
use Rattle.order_witness.proofs.conflicts.leads.Goals as goal

pub returns : goal.returns
returns c =
    let report = c.args.report.now in
    let line : List ℕ = c.args.line.now in
    let runs : List Run = c.args.runs.now in
    leads_so report line runs c.args.rows.now c.args.a c.args.b c.precedence_is_decided.ensures.tested c.requires c.in-Some.field-0 (sym c.stamp_at.ensures ∙ c.in-Some.is) c.counts.result
    (λ holds. subst (λ (row : List ℕ). (i : ℕ) × (i < length runs) × IsTrue (is_below_last report line (run_at runs i) (item row i) c.args.a)) c.row_in.ensures (c.counts.ensures.found holds))
    (λ fails. subst (λ (row : List ℕ). (i : ℕ) → i < length runs → is_below_last report line (run_at runs i) (item row i) c.args.a ≡ false) c.row_in.ensures (c.counts.ensures.none fails))
