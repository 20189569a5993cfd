use Rattle.std.proofs.Common.{◌≡◌, ◌∙◌, ◌+◌, ℕ, false, refl, sym, ap, subst, length, List, Option, Some, IfSome, IfNone, IsTrue, is_some, option_copied, slice_get, arith}
use Rattle.std.proofs.lemmas.Option.{slice_get_read}
use Rattle.weave_data.specs.declared.name.Name.{Name}
use Rattle.graph_ops.specs.Graphs.{plain_of}
use Rattle.graph_ops.specs.Mentions.{is_among}
use Rattle.graph_ops.specs.Operations.{State}
use Rattle.program_defs.specs.Labels.{IsRowOf}
use Rattle.program_defs.specs.Prices.{HasEdge, priced_edges}
use Rattle.program_defs.proofs.Placing.{place-among}
use Rattle.program_defs.proofs.RowSteps.{AreRowsSoFar, absent-unheld, rows-are-rows, rows-end, rows-more, unheld}
use Rattle.program_defs.proofs.listed.rows_between.Goals as goal

pub returns-in_default-clause-none : goal.returns-in_default-clause-none
returns-in_default-clause-none c = λ held.
    let v = c.v-item.result in
    let at : slice_get c.args.vertices.now c.loop-v.v-index ≡ Some v = slice_get_read c.args.vertices.now (length c.args.vertices.now) c.loop-v.v-index v refl c.loop-v-test.true c.v-item.is in
    absent-unheld (plain_of c.args.graph.now) c.args.key c.args.vertices.now v (place-among c.args.vertices.now v c.loop-v.v-index at) (sym c.find.ensures ∙ ap option_copied c.in_default.is) held

pub returns-in_default-2-clause-none : goal.returns-in_default-2-clause-none
returns-in_default-2-clause-none c = λ held.
    let v = c.v-item.result in
    let graph = plain_of c.args.graph.now in
    let at : slice_get c.args.vertices.now c.loop-v.v-index ≡ Some v = slice_get_read c.args.vertices.now (length c.args.vertices.now) c.loop-v.v-index v refl c.loop-v-test.true c.v-item.is in
    let state : graph v ≡ Some c.in-Some.found.now = sym c.find.ensures ∙ ap option_copied c.in-Some.is in
    let fails : (price : ℕ) × (w : Name) × HasEdge (priced_edges c.args.key (Some c.in-Some.found.now)) w price × IsTrue (is_some (graph w)) × (is_among c.args.vertices.now w ≡ false) =
    subst (λ (r : Option (List (ℕ × ℕ))). IfNone r ((price : ℕ) × (w : Name) × HasEdge (priced_edges c.args.key (Some c.in-Some.found.now)) w price × IsTrue (is_some (graph w)) × (is_among c.args.vertices.now w ≡ false))) c.in_default-2.is c.in_ok-row.ensures.none in
    unheld graph c.args.key c.args.vertices.now v fails.1 fails.0 (place-among c.args.vertices.now v c.loop-v.v-index at) (subst (λ (s : State). HasEdge (priced_edges c.args.key s) fails.1 fails.0) (sym state) fails.2) fails.3 fails.4 held

pub loop-v-preserved : goal.loop-v-preserved
loop-v-preserved c =
    let v = c.v-item.result in
    let graph = plain_of c.args.graph.now in
    let at : slice_get c.args.vertices.now c.loop-v.v-index ≡ Some v = slice_get_read c.args.vertices.now (length c.args.vertices.now) c.loop-v.v-index v refl c.loop-v-test.true c.v-item.is in
    let state : graph v ≡ Some c.in-Some.found.now = sym c.find.ensures ∙ ap option_copied c.in-Some.is in
    let row : IsRowOf graph c.args.vertices.now (priced_edges c.args.key (Some c.in-Some.found.now)) c.in-Some-2.row = subst (λ (r : Option (List (ℕ × ℕ))). IfSome r (IsRowOf graph c.args.vertices.now (priced_edges c.args.key (Some c.in-Some.found.now)))) c.in-Some-2.is c.in_ok-row.ensures.some in
    subst (λ (rows : List (List (ℕ × ℕ))). AreRowsSoFar graph c.args.key c.args.vertices.now (c.loop-v.v-index + 1) rows) (sym c.in_ok-push.ensures.items)
    (rows-more graph c.args.key c.args.vertices.now c.loop-v.v-index c.loop-v.rows.items v c.in-Some-2.row at (ap is_some state) (subst (λ (s : State). IsRowOf graph c.args.vertices.now (priced_edges c.args.key s) c.in-Some-2.row) (sym state) row) c.loop-v.invariant)

pub returns-clause-some : goal.returns-clause-some
returns-clause-some c =
    let graph = plain_of c.args.graph.now in
    let rows = c.loop-v.rows.items in
    let of_graph = rows-end graph c.args.key c.args.vertices.now c.loop-v.v-index rows c.requires c.loop-v-test.false c.loop-v.invariant in
    let all : length rows ≡ length c.args.vertices.now = omega (arith, c.loop-v.invariant.len, c.loop-v.auto.v-index-end, c.loop-v-test.false) in
    (of_graph, rows-are-rows graph c.args.key c.args.vertices.now rows all of_graph, all)
