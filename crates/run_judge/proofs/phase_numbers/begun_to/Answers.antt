use Rattle.std.proofs.Common.{◌≡◌, ◌+◌, ℕ, List, [], ◌∷◌, ◌++◌, length, inl, inr, sym, ap, ◌∙◌, arith}
use Rattle.std.specs.Prelude.{count_by, nat_le}
use Rattle.std.proofs.lemmas.Bool.{cases_lt}
use Rattle.std.proofs.lemmas.List.{get_or_append_left, length-append}
use Rattle.std.proofs.Math.Seq.{get_or-append_seam}
use Rattle.order_witness.specs.Heads.{item}
use Rattle.run_judge.proofs.NumberLaws.{begun_before, begun_more, begun_within, none_before_first, phase_is}
use Rattle.run_judge.proofs.phase_numbers.begun_to.Goals as goal

pub loop-request-init : goal.loop-request-init
loop-request-init c = record {
  size = ap (λ (xs : List ℕ). length xs) c.new-phases.ensures.items;
  sum = sym (none_before_first c.args.starts.now);
  within = omega arith;
  so_far = λ r less. absurd (omega (arith, less));
}

pub loop-request-preserved : goal.loop-request-preserved
loop-request-preserved c =
    let starts : List ℕ = c.args.starts.now in
    let r : ℕ = c.loop-request.request in
    let old : List ℕ = c.loop-request.phases.items in
    let size = c.loop-request.invariant.size in
    let begins = c.requires.each r c.loop-request-test.true in
    let so_far = c.loop-request.invariant.sum in
    let step = begun_more starts r in
    let now : c.loop-request.phase + item c.args.begins.now r ≡ begun_before starts (r + 1) = omega (arith, begins, so_far, step) in
    let many = begun_within starts (r + 1) in
    let is : c.push.new.self.items ≡ old ++ (c.loop-request.phase + item c.args.begins.now r) ∷ [] = c.in_ok-push.ensures.items in
    record {
      size = ap (λ (xs : List ℕ). length xs) is ∙ (let long = length-append old ((c.loop-request.phase + item c.args.begins.now r) ∷ []) in omega (arith, long, size));
      sum = now;
      within = omega (arith, now, many);
      so_far = λ k less. elim (cases_lt k r) [
        | inl before ↦ ap (λ (xs : List ℕ). item xs k) is ∙ get_or_append_left old ((c.loop-request.phase + item c.args.begins.now r) ∷ []) 0 k (omega (arith, before, size)) ∙ c.loop-request.invariant.so_far k before
        | inr past ↦
            let last : k ≡ r = omega (arith, less, past) in
            ap (λ (xs : List ℕ). item xs k) is ∙ ap (λ n. item (old ++ (c.loop-request.phase + item c.args.begins.now r) ∷ []) n) (last ∙ sym size) ∙ get_or-append_seam old (c.loop-request.phase + item c.args.begins.now r) [] 0
            ∙ now ∙ phase_is starts r ∙ ap (λ n. count_by (λ before. nat_le before n) starts) (sym last)
      ];
    }
