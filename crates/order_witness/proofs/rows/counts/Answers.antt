use Rattle.std.proofs.Common.{◌≡◌, false, inl, inr, sym, subst, ◌∙◌, arith}
use Rattle.std.proofs.lemmas.Bool.{cases_eq}
use Rattle.order_witness.specs.Heads.{item, run_at}
use Rattle.order_witness.specs.Rows.{is_below_last}
use Rattle.order_witness.proofs.rows.counts.Goals as goal

pub loop-i-preserved : goal.loop-i-preserved
loop-i-preserved c j less =
    elim (cases_eq j c.loop-i.i) [
      | inl same ↦
          subst (λ n. is_below_last c.args.report.now c.args.line.now (run_at c.args.runs.now n) (item c.args.row.now n) c.args.request ≡ false) (sym same)
          (subst (λ top. is_below_last c.args.report.now c.args.line.now (run_at c.args.runs.now c.loop-i.i) top c.args.request ≡ false) c.item.ensures (sym c.is_below_last.ensures ∙ c.if-is_below_last.false))
      | inr other ↦ c.loop-i.invariant j (omega (arith, less, other))
    ]
