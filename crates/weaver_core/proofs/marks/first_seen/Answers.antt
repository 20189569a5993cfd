use Rattle.std.proofs.Common.{◌≡◌, ◌+◌, ◌∷◌, suc, cond, drop, false, Some, sym, ap, ◌∙◌, arith, drop-cons}
use Rattle.std.specs.List.{find}
use Rattle.std.specs.Option.{option_map}
use Rattle.weave_entries.specs.declared.verdict.Counted.{Counted}
use Rattle.weaver_core.specs.Marks.{first_seen, has_mark}
use Rattle.weaver_core.proofs.marks.first_seen.Goals as goal

-- the next one was not seen
pub loop-counted-preserved : goal.loop-counted-preserved
loop-counted-preserved c =
    let counts = c.args.counts.now in
    let i = c.loop-counted.counted-index in
    let one = c.counted-item.result in
    let entries = c.args.visits.now.entries in
    let r = c.args.request in
    let step : suc i ≡ i + 1 = omega arith in
    let next : drop i counts ≡ one ∷ drop (i + 1) counts = drop-cons counts i one c.loop-counted-test.true ∙ (λ k. sym c.counted-item.is k ∷ drop (step k) counts) in
    let fails : has_mark entries (r, one.vertex, one.before) ≡ false = sym c.contains_key.ensures ∙ c.if-contains_key.false in
    ap (λ b. option_map (λ (counted : Counted). counted.vertex) (cond b (Some one) (find (λ (counted : Counted). has_mark entries (r, counted.vertex, counted.before)) (drop (i + 1) counts)))) (sym fails)
    ∙ ap (first_seen (has_mark entries) r) (sym next)
    ∙ c.loop-counted.invariant
