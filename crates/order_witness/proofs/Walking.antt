-- Marking what precedes the events of an order.
-- Used by `look`, `mark`, `mark_before`, `mark_ends`, `mark_run`, `row_of`, Listed and Topping.
use Rattle.std.proofs.Common.{◌≡◌, ℕ, zero, suc, ◌+◌, ◌<◌, ◌≤◌, Bool, true, false, IsTrue, List, [], ◌∷◌, ◌++◌, length, get_or, set, Contains, ◌⊎◌, inl, inr, refl, sym, subst, ap, ◌∙◌, arith, get_or-set_same, get_or-set_other}
use Rattle.std.specs.Prelude.{nat_eq}
use Rattle.std.proofs.lemmas.Bool.{cases_eq, cases_lt, both_ways, or_cases, or_left, or_right, eqb-true}
use Rattle.std.proofs.lemmas.List.{get_or_append_left, length-set, length-append}
use Rattle.std.proofs.Math.Seq.{get_or-append_seam}
use Rattle.std.proofs.lemmas.List.Elements.{Contains-push, Contains-push_cases, Contains-append_left}
use Rattle.order_witness.specs.declared.heads.Run.{Run}
use Rattle.order_witness.specs.Preceding.{Test, LeadsBySteps, PrecedesOne, leads_directly}
use Rattle.order_witness.specs.Preceding.LeadsBySteps.{Directly, Through}
use Rattle.report_rules.specs.Lookups.{is_in}
use Rattle.order_witness.specs.Heads.{item, run_at}
use Rattle.order_witness.specs.Marks.{is_marked, not_marked, AreMoreMarked, AreAllMarked, AreLookedAt, ArePreceders, AreRuns, ArePassed, IsMarkedUpTo}

-- Growing

-- nothing was marked
pub grown_none : (MayBe : ℕ → Type 0) (marked : List Bool) (due : List ℕ) → AreMoreMarked MayBe marked marked due due
grown_none MayBe marked due =
    record {
      size = refl;
      stay = λ a h. h;
      only = λ a h. inl h;
      due_stay = λ a h. h;
      longer = omega arith;
      front = λ k lt. refl;
      added = λ k past lt. absurd (omega (arith, past, lt));
      due_only = λ a h. inl h;
      work = omega arith;
    }

-- what may be marked may be marked by a wider rule
pub grown_wider : (MayBe Wider : ℕ → Type 0) (old new : List Bool) (due then_due : List ℕ) → ((a : ℕ) → MayBe a → Wider a) → AreMoreMarked MayBe old new due then_due → AreMoreMarked Wider old new due then_due
grown_wider MayBe Wider old new due then_due wider grown =
    record {
      size = grown.size;
      stay = grown.stay;
      only = λ a h. elim (grown.only a h) [ inl was ↦ inl was | inr is ↦ inr (wider a is.0, is.1) ];
      due_stay = grown.due_stay;
      longer = grown.longer;
      front = grown.front;
      added = λ k past lt. wider (get_or then_due k 0) (grown.added k past lt);
      due_only = grown.due_only;
      work = grown.work;
    }

-- marking and marking again
pub grown_on : (MayBe : ℕ → Type 0) (old mid new : List Bool) (due mid_due then_due : List ℕ) → AreMoreMarked MayBe old mid due mid_due → AreMoreMarked MayBe mid new mid_due then_due → AreMoreMarked MayBe old new due then_due
grown_on MayBe old mid new due mid_due then_due first then =
    record {
      size = then.size ∙ first.size;
      stay = λ a h. then.stay a (first.stay a h);
      only = λ a h. elim (then.only a h) [
        | inl was ↦ elim (first.only a was) [ inl old_one ↦ inl old_one | inr is ↦ inr (is.0, then.due_stay a is.1) ]
        | inr is ↦ inr is
      ];
      due_stay = λ a h. then.due_stay a (first.due_stay a h);
      longer = omega (arith, first.longer, then.longer);
      front = λ k lt. then.front k (omega (arith, lt, first.longer)) ∙ first.front k lt;
      added = λ k past lt. elim (cases_lt k (length mid_due)) [
        | inl before ↦ subst MayBe (sym (then.front k before)) (first.added k past before)
        | inr beyond ↦ then.added k beyond lt
      ];
      due_only = λ a h. elim (then.due_only a h) [
        | inl was ↦ elim (first.due_only a was) [ inl old_one ↦ inl old_one | inr is ↦ inr (then.stay a is) ]
        | inr is ↦ inr is
      ];
      work = omega (arith, first.work, then.work);
    }

-- one event

-- one more is marked, and one less isn't
pub left_less : (marked : List Bool) (k : ℕ) → k < length marked → is_marked marked k ≡ false → not_marked (set marked k true) + 1 ≡ not_marked marked
left_less [] k lt is = absurd (omega arith)
left_less (true ∷ marked) zero lt is = absurd (both_ways _ is refl)
left_less (false ∷ marked) zero lt is = refl
left_less (true ∷ marked) (suc k) lt is = left_less marked k (omega arith) is
left_less (false ∷ marked) (suc k) lt is = ap (λ n. n + 1) (left_less marked k (omega arith) is)

module _ (marked : List Bool) (due : List ℕ) (e : ℕ) (lt : e < length marked) (is : is_marked marked e ≡ false) where
  set_here : IsTrue (is_marked (set marked e true) e)
  set_here = get_or-set_same marked e true false lt

  set_stay : (a : ℕ) → IsTrue (is_marked marked a) → IsTrue (is_marked (set marked e true) a)
  set_stay a h =
      elim (cases_eq a e) [
        | inl here ↦ subst (λ k. IsTrue (is_marked (set marked e true) k)) (sym here) set_here
        | inr other ↦ get_or-set_other marked e a true false other ∙ h
      ]

  set_only : (a : ℕ) → IsTrue (is_marked (set marked e true) a) → IsTrue (is_marked marked a) ⊎ (a ≡ e)
  set_only a h =
      elim (cases_eq a e) [
        | inl here ↦ inr here
        | inr other ↦ inl (sym (get_or-set_other marked e a true false other) ∙ h)
      ]

  -- an event that isn't marked is marked
  pub grown_one : AreMoreMarked (λ a. a ≡ e) marked (set marked e true) due (due ++ e ∷ [])
  grown_one =
      record {
        size = length-set marked e true;
        stay = set_stay;
        only = λ a h. elim (set_only a h) [ inl was ↦ inl was | inr here ↦ inr (here, subst (Contains (due ++ e ∷ [])) (sym here) (Contains-push due e)) ];
        due_stay = λ a h. Contains-append_left due (e ∷ []) a h;
        longer = let long = length-append due (e ∷ []) in omega (arith, long);
        front = λ k below. get_or_append_left due (e ∷ []) 0 k below;
        added = λ k past below. let long = length-append due (e ∷ []) in let last : k ≡ length due = omega (arith, past, below, long) in ap (item (due ++ e ∷ [])) last ∙ get_or-append_seam due e [] 0;
        due_only = λ a h. elim (Contains-push_cases due e a h) [ inl was ↦ inl was | inr here ↦ inr (subst (λ k. IsTrue (is_marked (set marked e true) k)) here set_here) ];
        work = let less = left_less marked e lt is in let long = length-append due (e ∷ []) in omega (arith, less, long);
      }

-- the earlier ends of an event's pairs

-- a number in a list with one more at its end is in the list, or is that one
pub in_last : (a e : ℕ) (xs : List ℕ) → IsTrue (is_in a (xs ++ e ∷ [])) → IsTrue (is_in a xs) ⊎ (a ≡ e)
in_last a e [] h = elim (or_cases (nat_eq a e) false h) [ inl same ↦ inr (eqb-true a e same) | inr none ↦ absurd (both_ways false refl none) ]
in_last a e (x ∷ xs) h =
    elim (or_cases (nat_eq a x) _ h) [
      | inl here ↦ inl (or_left (nat_eq a x) _ here)
      | inr later ↦ elim (in_last a e xs later) [ inl before ↦ inl (or_right (nat_eq a x) _ before) | inr same ↦ inr same ]
    ]

-- Runs

-- a run was passed further
module _ (line : List ℕ) (old new : List Bool) (runs : List Run) (passed : List ℕ) (stay : (a : ℕ) → IsTrue (is_marked old a) → IsTrue (is_marked new a)) (are : ArePassed line old runs passed) (i after : ℕ) (lt : i < length runs) (onward : item passed i ≤ after) where
  there : item (set passed i after) i ≡ after
  there = get_or-set_same passed i after 0 (omega (arith, lt, are.size))

  -- it is passed up to there, and the others as far as they were
  pub passed_one : ((k : ℕ) → item passed i ≤ k → k < after → IsTrue (is_marked new (item line k))) → ArePassed line new runs (set passed i after)
  passed_one marked =
      record {
        size = length-set passed i after ∙ are.size;
        each = λ j within. elim (cases_eq j i) [
          | inl here ↦ subst (λ m. IsMarkedUpTo line new (run_at runs m) (item (set passed i after) m)) (sym here) (subst (IsMarkedUpTo line new (run_at runs i)) (sym there) (
            let start = (are.each i lt).0 in omega (arith, start, onward),
            λ k from below. elim (cases_lt k (item passed i)) [ inl before ↦ stay (item line k) ((are.each i lt).1 k from before) | inr on ↦ marked k on below ],
          ))
          | inr other ↦ subst (IsMarkedUpTo line new (run_at runs j)) (sym (get_or-set_other passed i j after 0 other)) ((are.each j within).0, λ k from below. stay (item line k) ((are.each j within).1 k from below))
        ];
      }

  -- what is so of each run before it is so of it too
  pub stopped_one : (Stops : ℕ → ℕ → Type 0) → ((j : ℕ) → j < i → Stops j (item passed j)) → Stops i after → (j : ℕ) → j < i + 1 → Stops j (item (set passed i after) j)
  stopped_one Stops before here j less =
      elim (cases_eq j i) [
        | inl same ↦ subst (λ m. Stops m (item (set passed i after) m)) (sym same) (subst (Stops i) (sym there) here)
        | inr other ↦ subst (Stops j) (sym (get_or-set_other passed i j after 0 other)) (before j (omega (arith, less, other)))
      ]

module _ (before : Test) (ends : ℕ → List ℕ) (line : List ℕ) (runs : List Run) (count : ℕ) (are : AreRuns before ends line runs count) where
  -- if each run was passed up to an event that isn't before this one, and the earlier ends of its pairs are marked, all
  -- that directly leads to it is marked
  pub all_marked : (marked : List Bool) (passed : List ℕ) (b : ℕ) → ArePassed line marked runs passed → ((i : ℕ) → i < length runs → item passed i < (run_at runs i).end → before (item line (item passed i)) b ≡ false) → ((a : ℕ) → IsTrue (is_in a (ends b)) → IsTrue (is_marked marked a)) → AreAllMarked (leads_directly before ends) marked b
  all_marked marked passed b so_far stopped by_pairs a h =
      elim (or_cases (before a b) _ h) [
        | inr pair ↦ by_pairs a pair
        | inl stamp ↦
            let found = are.found a b stamp in
            let k : ℕ = found.0 in
            let i : ℕ = found.1.i in
            let first : IsTrue (before (item line k) b) = subst (λ x. IsTrue (before x b)) (sym found.2) stamp in
            elim (cases_lt k (item passed i)) [
              | inl passed_by ↦ subst (λ x. IsTrue (is_marked marked x)) found.2 ((so_far.each i found.1.there).1 k found.1.from passed_by)
              | inr on ↦
                  let there : before (item line (item passed i)) b ≡ false = stopped i found.1.there (omega (arith, on, found.1.below)) in
                  elim (cases_eq k (item passed i)) [
                    | inl here ↦ absurd (both_ways _ there (subst (λ n. IsTrue (before (item line n) b)) here first))
                    | inr later ↦ absurd (both_ways _ there (are.transitive (item line (item passed i)) (item line k) b (are.rising i (item passed i) k found.1.there (so_far.each i found.1.there).0 (omega (arith, on, later)) found.1.below) first))
                  ]
            ]
      ]

-- The marks so far

-- what is marked for all the events so far, with none to be looked at, is what precedes one of them
module _ (direct : Test) (order : List ℕ) (count : ℕ) (marked : List Bool) (are : ArePreceders direct order count marked []) where
  no_due : (b : ℕ) → Contains [] b → ⊥
  no_due b (k, within, here) = omega arith

  all_before : (a b : ℕ) → LeadsBySteps direct a b → AreAllMarked direct marked b → IsTrue (is_marked marked a)
  all_before _ _ (Directly a b h) all = all a h
  all_before _ _ (Through a b c first then) all =
      elim (are.looked b (all_before b c then all)) [
        | inl due ↦ absurd (no_due b due)
        | inr closed ↦ all_before a b first closed
      ]

  -- what precedes one of the events so far is marked
  pub marked_if : (a : ℕ) → PrecedesOne direct order count a → IsTrue (is_marked marked a)
  marked_if a one = all_before a (item order one.place) one.precedes (are.listed one.place one.within)

module _ (direct : Test) (order : List ℕ) (old new : List Bool) (due then_due : List ℕ) (b : ℕ) (grown : AreMoreMarked (λ a. IsTrue (direct a b)) old new due then_due) (all : AreAllMarked direct new b) where
  still : (c : ℕ) → AreAllMarked direct old c → AreAllMarked direct new c
  still c are a h = grown.stay a (are a h)

  -- the event at the next place was looked at
  pub looked_first : (place : ℕ) → item order place ≡ b → ArePreceders direct order place old due → ArePreceders direct order (place + 1) new then_due
  looked_first place is are =
      record {
        sound = λ a h. elim (grown.only a h) [
          | inl was ↦ let one = are.sound a was in record { place = one.place; within = omega (arith, one.within); precedes = one.precedes }
          | inr new_one ↦ record { place = place; within = omega arith; precedes = Directly a (item order place) (subst (λ c. IsTrue (direct a c)) (sym is) new_one.0) }
        ];
        listed = λ k lt. elim (cases_eq k place) [
          | inl here ↦ subst (AreAllMarked direct new) (sym (ap (item order) here ∙ is)) all
          | inr other ↦ still (item order k) (are.listed k (omega (arith, lt, other)))
        ];
        looked = λ c h. elim (grown.only c h) [
          | inl was ↦ elim (are.looked c was) [ inl waits ↦ inl (grown.due_stay c waits) | inr closed ↦ inr (still c closed) ]
          | inr new_one ↦ inl new_one.1
        ];
        due_is_marked = λ c h. elim (grown.due_only c h) [ inl was ↦ grown.stay c (are.due_is_marked c was) | inr is ↦ is ];
      }

  -- an event that was to be looked at was looked at
  pub looked_next : (count : ℕ) → ArePreceders direct order count old (due ++ b ∷ []) → ArePreceders direct order count new then_due
  looked_next count are =
      record {
        sound = λ a h. elim (grown.only a h) [
          | inl was ↦ are.sound a was
          | inr new_one ↦
              let one = are.sound b (are.due_is_marked b (Contains-push due b)) in
              record { place = one.place; within = one.within; precedes = Through a b (item order one.place) (Directly a b new_one.0) one.precedes }
        ];
        listed = λ k lt. still (item order k) (are.listed k lt);
        looked = λ c h. elim (grown.only c h) [
          | inl was ↦ elim (are.looked c was) [
            | inl waits ↦ elim (Contains-push_cases due b c waits) [
              | inl before ↦ inl (grown.due_stay c before)
              | inr last ↦ inr (subst (AreAllMarked direct new) last all)
            ]
            | inr closed ↦ inr (still c closed)
          ]
          | inr new_one ↦ inl new_one.1
        ];
        due_is_marked = λ c h. elim (grown.due_only c h) [ inl was ↦ grown.stay c (are.due_is_marked c (Contains-append_left due (b ∷ []) c was)) | inr is ↦ is ];
      }

-- one more was looked at
pub looked_one : (direct : Test) (marked then_marked looked then_looked : List Bool) (b : ℕ) → AreLookedAt direct marked looked → ((a : ℕ) → IsTrue (is_marked marked a) → IsTrue (is_marked then_marked a)) → AreAllMarked direct then_marked b
    → ((a : ℕ) → ¬ (a ≡ b) → is_marked then_looked a ≡ is_marked looked a) → AreLookedAt direct then_marked then_looked
looked_one direct marked then_marked looked then_looked b so_far stay here others e is =
    elim (cases_eq e b) [
      | inl same ↦ subst (AreAllMarked direct then_marked) (sym same) here
      | inr other ↦ λ a leads. stay a (so_far e (sym (others e other) ∙ is) a leads)
    ]
