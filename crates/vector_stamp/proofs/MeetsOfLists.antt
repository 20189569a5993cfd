-- Meets of clocks, in any order, and of lists of clocks.
-- Used by `clocks_keep_the_laws`, `meet_of_a_list_is_greatest_below` and `meets_commute`.
use Rattle.std.proofs.Common.{◌≡◌, ℕ, ◌↔◌, List, [], ◌∷◌, Contains, IsTrue, min, inl, inr, refl, sym, ap, subst, ◌∙◌, arith}
use Rattle.std.proofs.Math.Nat.{min_comm}
use Rattle.std.proofs.lemmas.Bool.{cases_order}
use Rattle.weave_data.proofs.Members.{has_read, has_head, has_tail, has_none}
use Rattle.vector_stamp.specs.declared.clock.Clock.{Clock}
use Rattle.vector_stamp.specs.Order.{HasEightCounts, HaveEightCounts, is_at_most}
use Rattle.vector_stamp.specs.Clocks.{lesser_counts, meet_of, meet_with}
use Rattle.vector_stamp.proofs.Meeting.{meet-first, meet-second, meet-one, meet-eight, meet_at_most-first, meet_at_most-second, at_most-meet}
use Rattle.vector_stamp.proofs.Orders.{at_most_clock-refl, clock_at_most-trans, at_most-antisym}

lesser-comm : (xs ys : List ℕ) → lesser_counts xs ys ≡ lesser_counts ys xs
lesser-comm [] [] = refl
lesser-comm [] (y ∷ ys) = refl
lesser-comm (x ∷ xs) [] = refl
lesser-comm (x ∷ xs) (y ∷ ys) = λ i. min_comm x y i ∷ lesser-comm xs ys i

min-assoc : (x y z : ℕ) → min (min x y) z ≡ min x (min y z)
min-assoc x y z = omega arith

lesser-assoc : (xs ys zs : List ℕ) → lesser_counts (lesser_counts xs ys) zs ≡ lesser_counts xs (lesser_counts ys zs)
lesser-assoc [] ys zs = refl
lesser-assoc (x ∷ xs) [] zs = refl
lesser-assoc (x ∷ xs) (y ∷ ys) [] = refl
lesser-assoc (x ∷ xs) (y ∷ ys) (z ∷ zs) = λ i. min-assoc x y z i ∷ lesser-assoc xs ys zs i

-- the meet of two clocks is the same in either order
pub meet-comm : (a b : Clock) → meet_of a b ≡ meet_of b a
meet-comm a b =
    elim (cases_order a.epoch b.epoch) [
      | inl same ↦ meet-one a b same ∙ (λ i. record { epoch = same i; counts = lesser-comm a.counts b.counts i }) ∙ sym (meet-one b a (sym same))
      | inr (inl less) ↦ meet-first a b less ∙ sym (meet-second b a less)
      | inr (inr less) ↦ meet-second a b less ∙ sym (meet-first b a less)
    ]

-- the meet of three clocks is the same whether the first two or the last two meet first
pub meet-assoc : (a b c : Clock) → meet_of (meet_of a b) c ≡ meet_of a (meet_of b c)
meet-assoc a b c =
    elim (cases_order a.epoch b.epoch) [
      | inl one ↦
          let ab : Clock = record { epoch = a.epoch; counts = lesser_counts a.counts b.counts } in
          let left : meet_of (meet_of a b) c ≡ meet_of ab c = ap (λ x. meet_of x c) (meet-one a b one) in
          elim (cases_order b.epoch c.epoch) [
            | inl two ↦
                let bc : Clock = record { epoch = b.epoch; counts = lesser_counts b.counts c.counts } in
                left ∙ meet-one ab c (one ∙ two) ∙ (λ i. record { epoch = a.epoch; counts = lesser-assoc a.counts b.counts c.counts i })
                ∙ sym (meet-one a bc one) ∙ ap (meet_of a) (sym (meet-one b c two))
            | inr (inl less) ↦ left ∙ meet-first ab c (omega arith) ∙ sym (meet-one a b one) ∙ ap (meet_of a) (sym (meet-first b c less))
            | inr (inr less) ↦ left ∙ meet-second ab c (omega arith) ∙ sym (meet-second a c (omega arith)) ∙ ap (meet_of a) (sym (meet-second b c less))
          ]
      | inr (inl less) ↦
          ap (λ x. meet_of x c) (meet-first a b less)
          ∙ elim (cases_order b.epoch c.epoch) [
            | inl two ↦
                let bc : Clock = record { epoch = b.epoch; counts = lesser_counts b.counts c.counts } in
                meet-first a c (omega arith) ∙ sym (meet-first a bc less) ∙ ap (meet_of a) (sym (meet-one b c two))
            | inr (inl later) ↦ meet-first a c (omega arith) ∙ sym (meet-first a b less) ∙ ap (meet_of a) (sym (meet-first b c later))
            | inr (inr later) ↦ ap (meet_of a) (sym (meet-second b c later))
          ]
      | inr (inr less) ↦
          ap (λ x. meet_of x c) (meet-second a b less)
          ∙ elim (cases_order b.epoch c.epoch) [
            | inl two ↦
                let bc : Clock = record { epoch = b.epoch; counts = lesser_counts b.counts c.counts } in
                meet-one b c two ∙ sym (meet-second a bc less) ∙ ap (meet_of a) (sym (meet-one b c two))
            | inr (inl later) ↦ meet-first b c later ∙ sym (meet-second a b less) ∙ ap (meet_of a) (sym (meet-first b c later))
            | inr (inr later) ↦ meet-second b c later ∙ sym (meet-second a c (omega arith)) ∙ ap (meet_of a) (sym (meet-second b c later))
          ]
    ]

-- Lists

-- the meet of the first two and the rest have eight counts
next_eight : (first next : Clock) (rest : List Clock) → HaveEightCounts (first ∷ next ∷ rest) → HaveEightCounts (meet_of first next ∷ rest)
next_eight first next rest eight clock has =
    elim (has_read (meet_of first next) rest clock has) [
      | inl here ↦ subst HasEightCounts here (meet-eight first next (eight first (has_head first (next ∷ rest))) (eight next (has_tail first (next ∷ rest) next (has_head next rest))))
      | inr there ↦ eight clock (has_tail first (next ∷ rest) clock (has_tail next rest clock there))
    ]

-- the meet of clocks of eight counts each has eight counts
pub meet_with-eight : (first : Clock) (rest : List Clock) → HaveEightCounts (first ∷ rest) → HasEightCounts (meet_with first rest)
meet_with-eight first [] eight = eight first (has_head first [])
meet_with-eight first (next ∷ rest) eight = meet_with-eight (meet_of first next) rest (next_eight first next rest eight)

-- the meet of clocks of eight counts each is at most each of them
pub meet_with-below : (first : Clock) (rest : List Clock) → HaveEightCounts (first ∷ rest) → (clock : Clock) → Contains (first ∷ rest) clock → IsTrue (is_at_most (meet_with first rest) clock)
meet_with-below first [] eight clock has =
    elim (has_read first [] clock has) [
      | inl here ↦ subst (λ (c : Clock). IsTrue (is_at_most first c)) here (at_most_clock-refl first)
      | inr none ↦ absurd (has_none clock none)
    ]
meet_with-below first (next ∷ rest) eight clock has =
    let eight_first = eight first (has_head first (next ∷ rest)) in
    let eight_next = eight next (has_tail first (next ∷ rest) next (has_head next rest)) in
    let met : Clock = meet_with (meet_of first next) rest in
    let each = meet_with-below (meet_of first next) rest (next_eight first next rest eight) in
    let under = each (meet_of first next) (has_head (meet_of first next) rest) in
    elim (has_read first (next ∷ rest) clock has) [
      | inl one ↦ subst (λ (c : Clock). IsTrue (is_at_most met c)) one (clock_at_most-trans met (meet_of first next) first under (meet_at_most-first first next eight_first eight_next))
      | inr more ↦ elim (has_read next rest clock more) [
        | inl two ↦ subst (λ (c : Clock). IsTrue (is_at_most met c)) two (clock_at_most-trans met (meet_of first next) next under (meet_at_most-second first next eight_first eight_next))
        | inr later ↦ each clock (has_tail (meet_of first next) rest clock later)
      ]
    ]

-- a clock that is at most each of several clocks of eight counts is at most their meet
pub meet_with-greatest : (first : Clock) (rest : List Clock) → HaveEightCounts (first ∷ rest) → (low : Clock) → ((clock : Clock) → Contains (first ∷ rest) clock → IsTrue (is_at_most low clock)) → IsTrue (is_at_most low (meet_with first rest))
meet_with-greatest first [] eight low under = under first (has_head first [])
meet_with-greatest first (next ∷ rest) eight low under =
    let in_next = has_tail first (next ∷ rest) next (has_head next rest) in
    let in_first = has_head first (next ∷ rest) in
    meet_with-greatest (meet_of first next) rest (next_eight first next rest eight) low (λ clock has.
    elim (has_read (meet_of first next) rest clock has) [
      | inl here ↦ subst (λ (c : Clock). IsTrue (is_at_most low c)) here (at_most-meet first next (eight first in_first) (eight next in_next) low (under first in_first) (under next in_next))
      | inr there ↦ under clock (has_tail first (next ∷ rest) clock (has_tail next rest clock there))
    ])

-- the same clocks, of eight counts each, have the same meet in whatever order and however often they come
pub meet_with-same : (first other : Clock) (rest others : List Clock) → HaveEightCounts (first ∷ rest) → ((clock : Clock) → Contains (first ∷ rest) clock ↔ Contains (other ∷ others) clock) → meet_with first rest ≡ meet_with other others
meet_with-same first other rest others eight same =
    let eight_others : HaveEightCounts (other ∷ others) = λ clock has. eight clock ((same clock).1 has) in
    at_most-antisym (meet_with first rest) (meet_with other others)
    (meet_with-greatest other others eight_others (meet_with first rest) (λ clock has. meet_with-below first rest eight clock ((same clock).1 has)))
    (meet_with-greatest first rest eight (meet_with other others) (λ clock has. meet_with-below other others eight_others clock ((same clock).0 has)))
