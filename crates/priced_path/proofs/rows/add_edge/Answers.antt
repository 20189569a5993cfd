use Rattle.std.proofs.Common.{◌++◌, ◌∷◌, [], ℕ, List, sym, ap, ◌∙◌, inl, inr, arith, slice_set}
use Rattle.std.proofs.lemmas.List.{get_or_default}
use Rattle.std.proofs.lemmas.Option.{slice_get_within}
use Rattle.priced_path.proofs.RowsMade.{skip-edge, put-edge}
use Rattle.priced_path.proofs.rows.add_edge.Goals as goal

pub returns-in_default : goal.returns-in_default
returns-in_default c = λ done are. skip-edge c.args.vertices.now c.requires.rising c.args.edge.now done c.args.rows.now.items are (inl c.in_default.ensures.none)

pub returns-in_default-place_among : goal.returns-in_default-place_among
returns-in_default-place_among c = λ done are. skip-edge c.args.vertices.now c.requires.rising c.args.edge.now done c.args.rows.now.items are (inr c.in_default-place_among.ensures.none)

pub index_mut-requires : goal.index_mut-requires
index_mut-requires c =
    let within = slice_get_within c.args.vertices.now c.in-Some.at c.args.edge.now.from c.in-Some.ensures.some in
    omega (arith, within, c.requires.len, c.args.rows.now.ok.0)

pub returns : goal.returns
returns c = λ done are.
    let rows = c.args.rows.now.items in
    let at = c.in-Some.at in
    let within = slice_get_within c.args.vertices.now at c.args.edge.now.from c.in-Some.ensures.some in
    let one = c.in-Some-place_among.target in
    let was = c.index_mut.ensures.value ∙ sym (get_or_default rows at [] c.index_mut.result.now (omega (arith, within, c.requires.len))) in
    put-edge c.args.vertices.now c.requires.rising c.args.edge.now done rows are at one _ c.in-Some.ensures.some c.in-Some-place_among.ensures.some
    (ap (slice_set rows at) (c.in_ok-push.ensures ∙ ap (λ (row : List (ℕ × ℕ)). row ++ (one, c.args.edge.now.price) ∷ []) was))
