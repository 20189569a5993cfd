-- The greatest listed request of each session, one more request at a time.
-- Used by `comes_last` and `put`.
use Rattle.std.proofs.Common.{◌≡◌, ℕ, ◌+◌, ◌<◌, ◌≤◌, Bool, not, ◌||◌, IsTrue, List, [], ◌∷◌, ◌++◌, length, Option, Some, None, inl, inr, refl, sym, ap, ◌∙◌, subst, arith}
use Rattle.std.specs.Prelude.{nat_lt}
use Rattle.std.proofs.lemmas.Bool.{cases_Bool, lt-ltb, or_left, or_right, not_from_false}
use Rattle.std.proofs.lemmas.Option.{same_Some}
use Rattle.weave_data.proofs.Lists.{list_all-from}
use Rattle.program_defs.specs.declared.script.Script.{Script}
use Rattle.program_defs.specs.declared.script.Request.{Request}
use Rattle.report_rules.specs.Lookups.{is_in, request_at, same_session}
use Rattle.order_witness.specs.Heads.{item}
use Rattle.order_witness.specs.Tops.{is_last_of_session, AreBelowTops, IsAtTop, IsPutTop}
use Rattle.order_witness.proofs.InPlace.{of_one}
use Rattle.order_witness.proofs.Printing.{all_from}
use Rattle.order_witness.proofs.Walking.{in_last}

-- a request that is there is put below the number of its session
pub put_there : (script : Script) (r : ℕ) (x : Request) (old new : List ℕ) (surely : Bool) → request_at script r ≡ Some x → length new ≡ length old → ((s : ℕ) → item old s ≤ item new s) → (x.session < length new → r + 1 ≤ item new x.session) → (IsTrue surely → (x.session < length old) × (item old x.session ≤ r)) → IsPutTop script r old new surely
put_there script r x old new surely is size no_less there first =
    record {
      size = size;
      no_less = no_less;
      above = λ y y_is within.
          let same : x ≡ y = same_Some x y (sym is ∙ y_is) in
          subst (λ (z : Request). r < item new z.session) same (let high = there (subst (λ (z : Request). z.session < length new) (sym same) within) in omega (arith, high));
      first = λ holds. subst (λ o. IsAtTop o r old) (sym is) (first holds);
    }

-- nothing is put if the request isn't there
pub put_none : (script : Script) (r : ℕ) (old : List ℕ) (surely : Bool) → request_at script r ≡ None → IsPutTop script r old old surely
put_none script r old surely none =
    record {
      size = refl;
      no_less = λ s. omega arith;
      above = λ x is within. absurd (nothing x (sym none ∙ is));
      first = λ holds. subst (λ o. IsAtTop o r old) (sym none) tt;
    }
  where
    nothing : (x : Request) → None ≡ Some x → ⊥
    nothing x e = cc

module _ (script : Script) (before : List ℕ) (r : ℕ) (old new : List ℕ) (surely : Bool) (put : IsPutTop script r old new surely) (so_far : AreBelowTops script before old) where
  -- it is in the table from then on
  pub below_then : AreBelowTops script (before ++ r ∷ []) new
  below_then e x h is within =
      elim (in_last e r before h) [
        | inl was ↦ let first = so_far e x was is (omega (arith, within, put.size)) in let more = put.no_less x.session in omega (arith, first, more)
        | inr same ↦ subst (λ n. n < item new x.session) (sym same) (put.above x (ap (request_at script) (sym same) ∙ is) within)
      ]

  one_less : (y : Request) (e : ℕ) (o : Option Request) → request_at script r ≡ o → o ≡ Some y → IsAtTop o r old → (x : Request) → request_at script e ≡ Some x → x.session ≡ y.session → IsTrue (is_in e before) → e < r
  one_less y e None r_is o_is top x is same there = absurd (cc)
  one_less y e (Some z) r_is o_is top x is same there =
      let one : z ≡ y = same_Some z y o_is in
      let session : x.session ≡ z.session = same ∙ ap (λ (q : Request). q.session) (sym one) in
      let low = so_far e x there is (subst (λ s. s < length old) (sym session) top.0) in
      let high = top.1 in
      let moved : item old x.session ≡ item old z.session = ap (item old) session in
      omega (arith, low, high, moved)

  -- if the table shows that it is the last of its session, it is
  pub surely_last : IsTrue surely → IsTrue (is_last_of_session script before r)
  surely_last holds =
      list_all-from (λ earlier. not (same_session script earlier r) || nat_lt earlier r) before
      (all_from (λ earlier. IsTrue (not (same_session script earlier r) || nat_lt earlier r)) before (λ e there.
      elim (cases_Bool (same_session script e r)) [
        | inr other ↦ or_left _ _ (not_from_false (same_session script e r) other)
        | inl same ↦
            let both = of_one (request_at script e) (request_at script r) same in
            or_right (not (same_session script e r)) _ (lt-ltb e r (one_less both.y e (request_at script r) refl both.second (put.first holds) both.x both.first both.session there))
      ]))

-- of no listed requests any table has the greatest ones
pub below_none : (script : Script) (tops : List ℕ) → AreBelowTops script [] tops
below_none script tops e x h is within = absurd (cc)
