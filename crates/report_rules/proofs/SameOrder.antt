-- The printed order looks at replies and pairs alone.
-- Used by `orders_are_of_replies_and_pairs`.
use Rattle.std.proofs.Common.{◌≡◌, ℕ, not, List, [], ◌∷◌, IsTrue, sym, ap, subst, ◌∙◌}
use Rattle.std.specs.Prelude.{◌==◌}
use Rattle.std.specs.List.{filter}
use Rattle.weave_data.proofs.Lists.{all-map}
use Rattle.report_rules.specs.declared.report.Pair.{Pair}
use Rattle.report_rules.specs.declared.report.Reply.{Reply}
use Rattle.report_rules.specs.declared.report.Report.{Report}
use Rattle.report_rules.specs.Lookups.{RequestPrecedes, may_be_listed}
use Rattle.report_rules.specs.PrintedOrder.{IsFree, IsNext, IsOfLesserHome, IsPrintedOrder, TakesAll, begun_requests, without_request}

-- a report of these replies and pairs, without order and answers
abbrev bare : List Reply → List Pair → Report
bare replies pairs = record { replies = replies; pairs = pairs; order = []; answers = [] }

-- Each word of the order is that of the bare report, by computing. What remains is to go through the list that is taken.
module _ (a b : Report) (replies : a.replies ≡ b.replies) (pairs : a.pairs ≡ b.pairs) where
  precedes-same : (x y : ℕ) → RequestPrecedes a x y → RequestPrecedes b x y
  precedes-same x y h = subst (λ (ps : List Pair). RequestPrecedes (bare b.replies ps) x y) pairs (subst (λ (rs : List Reply). RequestPrecedes (bare rs a.pairs) x y) replies h)

  precedes-back : (x y : ℕ) → RequestPrecedes b x y → RequestPrecedes a x y
  precedes-back x y h = subst (λ (ps : List Pair). RequestPrecedes (bare a.replies ps) x y) (sym pairs) (subst (λ (rs : List Reply). RequestPrecedes (bare rs b.pairs) x y) (sym replies) h)

  lesser-same : (x y : ℕ) → IsOfLesserHome a x y → IsOfLesserHome b x y
  lesser-same x y h = subst (λ (rs : List Reply). IsOfLesserHome (bare rs b.pairs) x y) replies h

  free-same : (remaining : List ℕ) (r : ℕ) → IsFree a remaining r → IsFree b remaining r
  free-same remaining r free = all-map (λ other. ¬ RequestPrecedes a other r) (λ other. ¬ RequestPrecedes b other r) (λ other not-before h. not-before (precedes-back other r h)) remaining free

  free-back : (remaining : List ℕ) (r : ℕ) → IsFree b remaining r → IsFree a remaining r
  free-back remaining r free = all-map (λ other. ¬ RequestPrecedes b other r) (λ other. ¬ RequestPrecedes a other r) (λ other not-before h. not-before (precedes-same other r h)) remaining free

  next-same : (remaining : List ℕ) (r : ℕ) → IsNext a remaining r → IsNext b remaining r
  next-same remaining r next = record {
    remains = next.remains;
    free = free-same remaining r next.free;
    least = all-map (λ other. IsTrue (not (other == r)) → IsFree a remaining other → IsOfLesserHome a r other) (λ other. IsTrue (not (other == r)) → IsFree b remaining other → IsOfLesserHome b r other)
        (λ other so differ free. lesser-same r other (so differ (free-back remaining other free))) remaining next.least;
  }

  takes-same : (remaining taken : List ℕ) → TakesAll a remaining taken → TakesAll b remaining taken
  takes-same remaining [] none = none
  takes-same remaining (r ∷ taken) takes = (next-same remaining r takes.0, takes-same (without_request r remaining) taken takes.1)

  -- two reports with the same replies and the same pairs have the same printed order
  pub order-same : (order : List ℕ) → IsPrintedOrder a order → IsPrintedOrder b order
  order-same order printed = record {
    taken = printed.taken;
    in_turn = subst (λ (remaining : List ℕ). TakesAll b remaining printed.taken) (ap (λ (rs : List Reply). begun_requests (bare rs [])) replies) (takes-same (begun_requests a) printed.taken printed.in_turn);
    listed = printed.listed ∙ ap (λ (rs : List Reply). filter (may_be_listed (bare rs [])) printed.taken) replies;
  }
