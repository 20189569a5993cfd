-- What leads to a request, found level by level: the first chain found is a shortest one.
-- Used by `chain_in`, `follow`, `link_between` and `spread`.
use Rattle.std.proofs.Common.{◌≡◌, ℕ, zero, suc, ◌+◌, ◌<◌, ◌≤◌, Bool, false, IsTrue, List, [], ◌∷◌, ◌++◌, ◌-◌, length, Some, inl, inr, refl, sym, ◌∙◌, subst, arith, append-nil}
use Rattle.std.specs.Prelude.{slice_get}
use Rattle.std.specs.List.{list_any}
use Rattle.std.proofs.lemmas.Bool.{both_ways, cases_eq, cases_lt, or_cases, or_from, or_left, or_right}
use Rattle.weave_data.proofs.Lists.{append-step}
use Rattle.program_defs.specs.declared.script.Script.{Script}
use Rattle.report_rules.specs.declared.report.Report.{Report}
use Rattle.order_witness.specs.declared.chain.Link.{Link}
use Rattle.order_witness.specs.declared.chain.Link.TheVariants.{Session, Stamp, Joined}
use Rattle.order_witness.specs.Begun.{is_request_before}
use Rattle.order_witness.specs.Chains.{leads_in_one_step, IsLinkOfStamps, IsLinkBetween, IsChain, IsShortestChain}
use Rattle.order_witness.specs.Heads.{item, AreEarlierEnds}
use Rattle.order_witness.specs.Marks.{is_marked, AreMoreMarked, AreAllMarked}
use Rattle.order_witness.specs.Preceding.{Test, LeadsBySteps, direct_steps}
use Rattle.order_witness.specs.Preceding.LeadsBySteps.{Directly, Through}
use Rattle.order_witness.specs.Spreading.{node, IsSpread, IsFoundThrough}
use Rattle.order_witness.specs.Spreading.IsFoundThrough.{AtEnd, Further}
use Rattle.order_witness.proofs.Taking.{place_of}
use Rattle.order_witness.proofs.Ways.{of_pair, pair_of}

-- One node more was looked at

module _ (direct : Test) (b : ℕ) (old new : List Bool) (found more from then : List ℕ) (looked : ℕ) (spread : IsSpread direct b old found from looked) (open_one : looked ≤ length found)
    (grown : AreMoreMarked (λ a. IsTrue (direct a (node b found looked))) old new found more) (all : AreAllMarked direct new (node b found looked))
    (long : length then ≡ length more) (front : (k : ℕ) → k < length from → item then k ≡ item from k) (added : (k : ℕ) → length from ≤ k → k < length more → item then k ≡ looked) where
  same_node : (m : ℕ) → m ≤ length found → node b more m ≡ node b found m
  same_node zero at = refl
  same_node (suc k) at = grown.front k (omega (arith, at))

  -- which of the two a place is in
  module _ (i : ℕ) (within : i < length more) where
    was : i < length found → item then i ≡ item from i
    was before = let size = spread.size in front i (omega (arith, before, size))

    is_new : length found ≤ i → item then i ≡ looked
    is_new past = let size = spread.size in added i (omega (arith, past, size)) within

    low : item then i ≤ looked
    low = elim (cases_lt i (length found)) [
      | inl before ↦ let at = was before in let less = spread.below i before in omega (arith, at, less)
      | inr past ↦ let at = is_new past in omega (arith, at)
    ]

    low_back : item then i ≤ i
    low_back = elim (cases_lt i (length found)) [
      | inl before ↦ let at = was before in let less = spread.back i before in omega (arith, at, less)
      | inr past ↦ let at = is_new past in omega (arith, at, past, open_one)
    ]

    step : IsTrue (direct (item more i) (node b more (item then i)))
    step = elim (cases_lt i (length found)) [
      | inl before ↦
          let less = spread.back i before in
          subst (λ m. IsTrue (direct (item more i) (node b more m))) (sym (was before)) (subst (λ x. IsTrue (direct (item more i) x)) (sym (same_node (item from i) (omega (arith, less, before)))) (subst (λ x. IsTrue (direct x (node b found (item from i)))) (sym (grown.front i before)) (spread.steps i before)))
      | inr past ↦
          subst (λ m. IsTrue (direct (item more i) (node b more m))) (sym (is_new past)) (subst (λ x. IsTrue (direct (item more i) x)) (sym (same_node looked open_one)) (grown.added i past within))
    ]

  rises : (i j : ℕ) → i ≤ j → j < length more → item then i ≤ item then j
  rises i j upto within =
      elim (cases_lt j (length found)) [
        | inl before ↦
            let first = was i (omega (arith, upto, within)) (omega (arith, upto, before)) in
            let second = was j within before in
            let less = spread.rising i j upto before in
            omega (arith, first, second, less)
        | inr past ↦ let at = is_new j within past in let less = low i (omega (arith, upto, within)) in omega (arith, at, less)
      ]

  listed_then : (a : ℕ) → IsTrue (is_marked new a) → (i : ℕ) × (i < length more) × (item more i ≡ a)
  listed_then a mark =
      elim (grown.only a mark) [
        | inr fresh ↦ place_of more a fresh.1
        | inl marked ↦ let at = spread.listed a marked in let longer = grown.longer in (at.0, let inside = at.1 in omega (arith, inside, longer), grown.front at.0 at.1 ∙ at.2)
      ]

  -- with one node more looked at, all that leads to the nodes so far is found
  pub spread_next : IsSpread direct b new more then (looked + 1)
  spread_next =
      record {
        size = long;
        within = let longer = grown.longer in omega (arith, open_one, longer);
        steps = step;
        back = low_back;
        below = λ i within. let at = low i within in omega (arith, at);
        rising = rises;
        listed = listed_then;
        closed = λ m a less h. elim (cases_eq m looked) [
          | inl same ↦
              let at = listed_then a (all a (subst (λ x. IsTrue (direct a x)) (same_node looked open_one) (subst (λ n. IsTrue (direct a (node b more n))) same h))) in
              (at.0, at.1, at.2, let upto = low at.0 at.1 in omega (arith, upto, same))
          | inr other ↦
              let before : m < looked = omega (arith, less, other) in
              let one = spread.closed m a before (subst (λ x. IsTrue (direct a x)) (same_node m (omega (arith, before, open_one))) h) in
              let longer = grown.longer in
              (one.0, let inside = one.1 in omega (arith, inside, longer), grown.front one.0 one.1 ∙ one.2, let kept = was one.0 (let inside = one.1 in omega (arith, inside, longer)) one.1 in let upto = one.3 in omega (arith, kept, upto))
        ];
      }

-- nothing was looked at
pub spread_none : (direct : Test) (b : ℕ) (marked : List Bool) → ((a : ℕ) → is_marked marked a ≡ false) → IsSpread direct b marked [] [] 0
spread_none direct b marked none =
    record {
      size = refl;
      within = omega arith;
      steps = λ i within. absurd (omega (arith, within));
      back = λ i within. absurd (omega (arith, within));
      below = λ i within. absurd (omega (arith, within));
      rising = λ i j upto within. absurd (omega (arith, within));
      listed = λ a mark. absurd (both_ways _ (none a) mark);
      closed = λ m a less h. absurd (omega (arith, less));
    }

-- Chains

-- how many steps a node is from node 0
data Level (from : List ℕ) : ℕ → ℕ → Type 0 where
  AtZero : Level from 0 0
  Above : (i n : ℕ) → Level from (item from i) n → Level from (suc i) (suc n)

-- from a the requests follow one another by direct steps to b
abbrev pub IsWay : Test → ℕ → ℕ → List ℕ → Type 0
IsWay direct b a [] = a ≡ b
IsWay direct b a (x ∷ rest) = IsTrue (direct a x) × IsWay direct b x rest

-- a way of direct steps from a to b
record SomeWay (direct : Test) (b a : ℕ) : Type 0 where
  pub x : ℕ
  pub rest : List ℕ
  pub way : IsWay direct b a (x ∷ rest)

module _ (direct : Test) (b : ℕ) (marked : List Bool) (found from : List ℕ) (spread : IsSpread direct b marked found from (length found + 1)) where
  level_of : (fuel m : ℕ) → m < fuel → m ≤ length found → (n : ℕ) × Level from m n
  level_of zero m less within = absurd (omega (arith, less))
  level_of (suc fuel) zero less within = (0, AtZero)
  level_of (suc fuel) (suc i) less within =
      let back = spread.back i (omega (arith, within)) in
      let rest = level_of fuel (item from i) (omega (arith, less, back)) (omega (arith, back, within)) in
      (suc rest.0, Above i rest.0 rest.1)

  -- a later node is no nearer
  no_nearer : (p q n m : ℕ) → p ≤ q → q ≤ length found → Level from p n → Level from q m → n ≤ m
  no_nearer _ _ _ _ upto within AtZero last = omega arith
  no_nearer _ _ _ _ upto within (Above i n first) AtZero = absurd (omega (arith, upto))
  no_nearer _ _ _ _ upto within (Above i n first) (Above j m last) =
      let back = spread.back j (omega (arith, within)) in
      let less = no_nearer (item from i) (item from j) n m (spread.rising i j (omega (arith, upto)) (omega (arith, within))) (omega (arith, back, within)) first last in
      omega (arith, less)

  -- a node with this request, no further from the end than so many steps
  record IsNear (a most : ℕ) : Type 0 where
    pub i : ℕ
    pub inside : i < length found
    pub is : item found i ≡ a
    pub n : ℕ
    pub level : Level from (suc i) n
    pub near : n ≤ most

  found_at : (a m k : ℕ) → m ≤ length found → IsTrue (direct a (node b found m)) → Level from m k → IsNear a (suc k)
  found_at a m k within h level =
      let one = spread.closed m a (omega (arith, within)) h in
      let back = spread.back one.0 one.1 in
      let inside = one.1 in
      let its = level_of (suc (item from one.0)) (item from one.0) (omega arith) (omega (arith, back, inside)) in
      let less = no_nearer (item from one.0) m its.0 k one.3 within its.1 level in
      record { i = one.0; inside = inside; is = one.2; n = suc its.0; level = Above one.0 its.0 its.1; near = omega (arith, less) }

  -- all that leads to b was found, no further from the end than it takes steps
  near_by : (a x : ℕ) (rest : List ℕ) → IsWay direct b a (x ∷ rest) → IsNear a (length (x ∷ rest))
  near_by a x [] way = found_at a 0 0 (omega arith) (subst (λ y. IsTrue (direct a y)) way.1 way.0) AtZero
  near_by a x (y ∷ rest) way =
      let next = near_by x y rest way.1 in
      let inside = next.inside in
      let near = next.near in
      let one = found_at a (suc next.i) next.n (omega (arith, inside)) (subst (λ z. IsTrue (direct a z)) (sym next.is) way.0) next.level in
      let less = one.near in
      record { i = one.i; inside = one.inside; is = one.is; n = one.n; level = one.level; near = omega (arith, less, near) }

  -- what is followed is a way of so many steps
  followed : (m : ℕ) (chain : List ℕ) → m ≤ length found → IsFoundThrough b found from m chain → IsWay direct b (node b found m) chain × Level from m (length chain)
  followed _ _ within AtEnd = (refl, AtZero)
  followed _ _ within (Further i rest h) =
      let inside : i < length found = omega (arith, within) in
      let back = spread.back i inside in
      let on = followed (item from i) rest (omega (arith, back, inside)) h in
      ((spread.steps i inside, on.0), Above i (length rest) on.1)

  before_way : (a c : ℕ) → LeadsBySteps direct a c → (x : ℕ) (rest : List ℕ) → IsWay direct b c (x ∷ rest) → SomeWay direct b a
  before_way _ _ (Directly a c h) x rest way = record { x = c; rest = x ∷ rest; way = (h, way) }
  before_way _ _ (Through a c d first then) x rest way = let on = before_way c d then x rest way in before_way a c first on.x on.rest on.way

  way_to : (a c : ℕ) → LeadsBySteps direct a c → c ≡ b → SomeWay direct b a
  way_to _ _ (Directly a c h) same = record { x = c; rest = []; way = (h, same) }
  way_to _ _ (Through a c d first then) same = let on = way_to c d then same in before_way a c first on.x on.rest on.way

  -- if a isn't found, it doesn't precede b
  pub not_found : (a : ℕ) → ((k : ℕ) → k < length found → ¬ (item found k ≡ a)) → ¬ LeadsBySteps direct a b
  not_found a none h = let on = way_to a b h refl in let near = near_by a on.x on.rest on.way in none near.i near.inside near.is

  -- the way from the first place at which a was found is a shortest one
  pub shortest : (a place : ℕ) (chain : List ℕ) → place < length found → item found place ≡ a → ((k : ℕ) → k < place → ¬ (item found k ≡ a)) → IsFoundThrough b found from (suc place) chain
      → IsWay direct b a chain × ((other : List ℕ) → ¬ (other ≡ []) → IsWay direct b a other → length chain ≤ length other)
  shortest a place chain inside is first h =
      let along = followed (suc place) chain (omega (arith, inside)) h in
      (subst (λ n. IsWay direct b n chain) is along.0, least along.1)
    where
      least : Level from (suc place) (length chain) → (other : List ℕ) → ¬ (other ≡ []) → IsWay direct b a other → length chain ≤ length other
      least level [] some way = absurd (some refl)
      least level (x ∷ rest) some way =
          let near = near_by a x rest way in
          let within = near.inside in
          let upto : place ≤ near.i = elim (cases_lt near.i place) [ inl before ↦ absurd (first near.i before near.is) | inr past ↦ past ] in
          let less = no_nearer (suc place) (suc near.i) (length chain) near.n (omega (arith, upto)) (omega (arith, within)) level near.level in
          let most = near.near in
          omega (arith, less, most)

-- Chains of a report

module _ (report : Report) (befores : List (List ℕ)) (size : length befores ≡ length report.replies) (ends : AreEarlierEnds report befores) where
  leads_so : (a b : ℕ) → IsTrue (direct_steps report befores a b) → IsTrue (leads_in_one_step report a b)
  leads_so a b h = elim (or_cases (is_request_before report a b) _ h) [ inl stamp ↦ or_left _ _ stamp | inr pair ↦ or_right (is_request_before report a b) _ (pair_of report befores size ends a b pair) ]

  so_leads : (a b : ℕ) → IsTrue (leads_in_one_step report a b) → IsTrue (direct_steps report befores a b)
  so_leads a b h = elim (or_cases (is_request_before report a b) _ h) [ inl stamp ↦ or_left _ _ stamp | inr pair ↦ of_pair report befores size ends a b pair ]

  module _ (b : ℕ) (marked : List Bool) (found from : List ℕ) (spread : IsSpread (direct_steps report befores) b marked found from (length found + 1)) where
    way_chain : (a : ℕ) (chain : List ℕ) → IsWay (direct_steps report befores) b a chain → IsChain report a chain b
    way_chain a [] way = way
    way_chain a (x ∷ rest) way = (leads_so a x way.0, way_chain x rest way.1)

    chain_way : (a : ℕ) (chain : List ℕ) → IsChain report a chain b → IsWay (direct_steps report befores) b a chain
    chain_way a [] way = way
    chain_way a (x ∷ rest) way = (so_leads a x way.0, chain_way x rest way.1)

    -- it is a shortest chain
    pub shortest_chain : (a place : ℕ) (chain : List ℕ) → place < length found → item found place ≡ a → ((k : ℕ) → k < place → ¬ (item found k ≡ a)) → IsFoundThrough b found from (suc place) chain → IsShortestChain report a b chain
    shortest_chain a place chain inside is first h =
        let both = shortest (direct_steps report befores) b marked found from spread a place chain inside is first h in
        record {
          some = not_none chain h;
          is = way_chain a chain both.0;
          least = λ other some way. both.1 other some (chain_way a other way);
        }
      where
        not_none : (chain : List ℕ) → IsFoundThrough b found from (suc place) chain → ¬ (chain ≡ [])
        not_none _ (Further i rest h) e = cc

-- What is followed, from front to end

-- one node more is followed
pub follow_on : (b : ℕ) (found from : List ℕ) (start at next x : ℕ) (chain pushed : List ℕ) → 0 < at → next ≡ item from (at - 1) → x ≡ node b found next → pushed ≡ chain ++ x ∷ []
    → ((rest : List ℕ) → IsFoundThrough b found from at rest → IsFoundThrough b found from start (chain ++ rest)) → (rest : List ℕ) → IsFoundThrough b found from next rest → IsFoundThrough b found from start (pushed ++ rest)
follow_on b found from start at next x chain pushed some next_is x_is pushed_is so_far rest h =
    let same : suc (at - 1) ≡ at = omega (arith, some) in
    let further : IsFoundThrough b found from (suc (at - 1)) (node b found (item from (at - 1)) ∷ rest) = Further (at - 1) rest (subst (λ m. IsFoundThrough b found from m rest) next_is h) in
    let here : IsFoundThrough b found from at (node b found next ∷ rest) = subst (λ m. IsFoundThrough b found from m (node b found next ∷ rest)) same (subst (λ n. IsFoundThrough b found from (suc (at - 1)) (node b found n ∷ rest)) (sym next_is) further) in
    subst (λ (zs : List ℕ). IsFoundThrough b found from start (zs ++ rest)) (sym pushed_is) (subst (IsFoundThrough b found from start) (append-step chain x rest) (so_far (x ∷ rest) (subst (λ y. IsFoundThrough b found from at (y ∷ rest)) (sym x_is) here)))

-- nothing is left to follow
pub followed_all : (b : ℕ) (found from : List ℕ) (start at : ℕ) (chain : List ℕ) → at ≡ 0 → ((rest : List ℕ) → IsFoundThrough b found from at rest → IsFoundThrough b found from start (chain ++ rest)) → IsFoundThrough b found from start chain
followed_all b found from start at chain none so_far = subst (IsFoundThrough b found from start) (append-nil chain) (so_far [] (subst (λ m. IsFoundThrough b found from m []) (sym none) AtEnd))

-- What a step is

-- a step by stamps is that link
pub link_so : (script : Script) (report : Report) (a b : ℕ) (link : Link) → IsTrue (is_request_before report a b) → IsLinkOfStamps script a b link → IsLinkBetween script report a b (Some link)
link_so script report a b Session before is = (before, is)
link_so script report a b Stamp before is = (before, is)
link_so script report a b (Joined place) before is = absurd is

-- no element passes, if none at any place does
pub none_any_at : {A : Type 0} (test : A → Bool) (xs : List A) → ((k : ℕ) (x : A) → slice_get xs k ≡ Some x → test x ≡ false) → list_any test xs ≡ false
none_any_at test [] each = refl
none_any_at test (x ∷ xs) each = or_from (test x) _ (each 0 x refl) (none_any_at test xs (λ k y at. each (suc k) y at))
