use Rattle.std.proofs.Common.{◌≡◌, ℕ, List, [], ◌∷◌, ◌++◌, length, inl, inr, sym, ap, ◌∙◌, subst, arith}
use Rattle.std.proofs.lemmas.Bool.{cases_lt}
use Rattle.std.proofs.lemmas.List.{get_or_append_left, length-append}
use Rattle.std.proofs.Math.Seq.{get_or-append_seam}
use Rattle.order_witness.specs.Heads.{item}
use Rattle.run_judge.specs.Numbers.{IsPeak}
use Rattle.run_judge.proofs.NumberLaws.{peak_more}
use Rattle.run_judge.proofs.peaks.peaks_in.Goals as goal

pub loop-place-preserved : goal.loop-place-preserved
loop-place-preserved c =
    let chain : List ℕ = c.args.chain.now in
    let phases : List ℕ = c.args.phases.now in
    let place : ℕ = c.loop-place.place in
    let old : List ℕ = c.loop-place.peaks.items in
    let next : ℕ = c.later-next.result in
    let size = c.loop-place.invariant.size in
    let is : c.push.new.self.items ≡ old ++ next ∷ [] = c.in_ok-push.ensures.items in
    let here : IsPeak phases chain place next = peak_more phases chain place c.loop-place.peak next c.loop-place.invariant.peak c.later-next.ensures.first c.later-next.ensures.second c.later-next.ensures.one in
    let long = length-append old (next ∷ []) in
    record {
      size = ap (λ (xs : List ℕ). length xs) is ∙ omega (arith, long, size);
      so_far = λ k less. elim (cases_lt k place) [
        | inl before ↦ subst (IsPeak phases chain k) (sym (ap (λ (xs : List ℕ). item xs k) is ∙ get_or_append_left old (next ∷ []) 0 k (omega (arith, before, size)))) (c.loop-place.invariant.so_far k before)
        | inr past ↦
            let last : k ≡ place = omega (arith, less, past) in
            subst (IsPeak phases chain k) (sym (ap (λ (xs : List ℕ). item xs k) is ∙ ap (item (old ++ next ∷ [])) (last ∙ sym size) ∙ get_or-append_seam old next [] 0)) (subst (λ n. IsPeak phases chain n next) (sym last) here)
      ];
      peak = subst (λ n. IsPeak phases chain n next) (omega arith) here;
    }
