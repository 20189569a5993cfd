use Rattle.std.proofs.Common.{sym, subst, List, Option, ℕ}
use Rattle.program_defs.specs.Labels.{label_in, row_in, AreRows, IsCertificate}
use Rattle.priced_path.specs.Kept.{AreRowsKept}
use Rattle.priced_path.proofs.KeptGraph.{absent-start, rows-priced, answered}
use Rattle.priced_path.proofs.answer.answer_of.Goals as goal

pub returns-in_default : goal.returns-in_default
returns-in_default c = λ graph key kept. c.nowhere.ensures graph c.args.from c.args.to key (absent-start graph key c.args.vertices.now c.args.edges.now c.args.from kept c.in_default.ensures.none)

pub least_prices-requires-clause-rows : goal.least_prices-requires-clause-rows
least_prices-requires-clause-rows c =
    subst (λ (rows : List (List (ℕ × ℕ))). AreRows rows) (sym c.as_slice.ensures.value) (rows-priced c.args.vertices.now c.args.edges.now c.in_ok-rows.rows.items c.requires.priced c.in_ok-rows.ensures)

pub priced_answer-requires-clause-rows : goal.priced_answer-requires-clause-rows
priced_answer-requires-clause-rows c =
    subst (λ (rows : List (List (ℕ × ℕ))). AreRows rows) (sym c.as_slice-2.ensures.value) (rows-priced c.args.vertices.now c.args.edges.now c.in_ok-rows.rows.items c.requires.priced c.in_ok-rows.ensures)

pub returns : goal.returns
returns c =
    let start = c.in-Some.start in
    let kept = subst (λ (rows : List (List (ℕ × ℕ))). AreRowsKept c.args.vertices.now c.args.edges.now rows) (sym c.as_slice-2.ensures.value) c.in_ok-rows.ensures in
    let over_rows = subst (λ (rows : List (List (ℕ × ℕ))). IsCertificate (row_in rows) start (label_in c.in_ok-labels.labels.items)) c.as_slice.ensures.value c.in_ok-labels.ensures.labels in
    let lent_rows = subst (λ (rows : List (List (ℕ × ℕ))). IsCertificate (row_in rows) start (label_in c.in_ok-labels.labels.items)) (sym c.as_slice-2.ensures.value) over_rows in
    let certified = subst (λ (labels : List (Option ℕ)). IsCertificate (row_in c.as_slice-2.result.now) start (label_in labels)) (sym c.as_slice-3.ensures.value) lent_rows in
    answered c.args.vertices.now c.args.edges.now c.as_slice-2.result.now c.as_slice-3.result.now start c.args.from c.args.to c.requires.rising kept c.in-Some.ensures.some certified c.priced_answer.result c.priced_answer.ensures
