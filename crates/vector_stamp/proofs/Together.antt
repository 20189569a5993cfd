-- Coherence of a part of a list, and of lists together.
-- Used by `coherent_stamps_have_ids` and `parts_and_unions_are_coherent`.
use Rattle.std.proofs.Common.{◌≡◌, ◌≢◌, ℕ, List, ◌++◌, Contains, IsTrue, ◌⊎◌, inl, inr, ap, subst, sym, arith}
use Rattle.std.proofs.lemmas.Bool.{cases_order, or_left, or_right, and_from, eq-eqb, lt-ltb}
use Rattle.std.proofs.lemmas.List.Elements.{Contains-append_cases}
use Rattle.vector_stamp.specs.declared.clock.Stamp.{Stamp}
use Rattle.vector_stamp.specs.declared.clock.EventId.{EventId}
use Rattle.vector_stamp.specs.Order.{id_of, own_count, id_before, stamp_before, unordered}
use Rattle.vector_stamp.specs.Coherence.{AreCoherent}
use Rattle.vector_stamp.proofs.Orders.{not_true}
use Rattle.vector_stamp.proofs.Reading.{both_left, both_right}

-- stamps that are all among coherent ones are coherent
pub part-coherent : (stamps others : List Stamp) → AreCoherent others → ((stamp : Stamp) → Contains stamps stamp → Contains others stamp) → AreCoherent stamps
part-coherent stamps others all among =
    record {
      homes = λ a in_a. all.homes a (among a in_a);
      one_of_id = λ a b in_a in_b. all.one_of_id a b (among a in_a) (among b in_b);
      by_ids = λ a b in_a in_b. all.by_ids a b (among a in_a) (among b in_b);
    }

-- stamps are coherent if, for each home, those of this home are among coherent ones
pub by_homes-coherent : (stamps : List Stamp) (of_home : ℕ → List Stamp) → ((home : ℕ) → AreCoherent (of_home home)) → ((stamp : Stamp) → Contains stamps stamp → Contains (of_home stamp.home) stamp) → AreCoherent stamps
by_homes-coherent stamps of_home all there =
    record {
      homes = λ a in_a. (all a.home).homes a (there a in_a);
      one_of_id = λ a b in_a in_b same. (all a.home).one_of_id a b (there a in_a) (beside a b in_b (ap (λ (i : EventId). i.home) same)) same;
      by_ids = λ a b in_a in_b home. (all a.home).by_ids a b (there a in_a) (beside a b in_b home) home;
    }
  where
    beside : (a b : Stamp) → Contains stamps b → a.home ≡ b.home → Contains (of_home a.home) b
    beside a b in_b home = subst (λ n. Contains (of_home n) b) (sym home) (there b in_b)

-- two lists of coherent stamps without a common home are coherent together
pub two-coherent : (stamps others : List Stamp) → AreCoherent stamps → AreCoherent others → ((a b : Stamp) → Contains stamps a → Contains others b → a.home ≢ b.home) → AreCoherent (stamps ++ others)
two-coherent stamps others first second apart =
    record {
      homes = λ a in_a. elim (Contains-append_cases stamps others a in_a) [ inl here ↦ first.homes a here | inr there ↦ second.homes a there ];
      one_of_id = λ a b in_a in_b same. elim (one_list a b in_a in_b (ap (λ (i : EventId). i.home) same)) [ inl here ↦ first.one_of_id a b here.0 here.1 same | inr there ↦ second.one_of_id a b there.0 there.1 same ];
      by_ids = λ a b in_a in_b home. elim (one_list a b in_a in_b home) [ inl here ↦ first.by_ids a b here.0 here.1 home | inr there ↦ second.by_ids a b there.0 there.1 home ];
    }
  where
    one_list : (a b : Stamp) → Contains (stamps ++ others) a → Contains (stamps ++ others) b → a.home ≡ b.home → (Contains stamps a × Contains stamps b) ⊎ (Contains others a × Contains others b)
    one_list a b in_a in_b home =
        elim (Contains-append_cases stamps others a in_a) [
          | inl a_first ↦ elim (Contains-append_cases stamps others b in_b) [
            | inl b_first ↦ inl (a_first, b_first)
            | inr b_second ↦ absurd (apart a b a_first b_second home)
          ]
          | inr a_second ↦ elim (Contains-append_cases stamps others b in_b) [
            | inl b_first ↦ absurd (apart b a b_first a_second (sym home))
            | inr b_second ↦ inr (a_second, b_second)
          ]
        ]

module _ (stamps : List Stamp) (a b : Stamp) (all : AreCoherent stamps) (in_a : Contains stamps a) (in_b : Contains stamps b) (differ : a ≢ b) where
  -- two different ones of coherent stamps have different ids
  pub ids-differ : id_of a ≢ id_of b
  ids-differ same = differ (all.one_of_id a b in_a in_b same)

  -- those of one home are ordered
  pub home-ordered : a.home ≡ b.home → IsTrue (stamp_before a b) ⊎ IsTrue (stamp_before b a)
  home-ordered home =
      elim (cases_order a.clock.epoch b.clock.epoch) [
        | inl epoch ↦ elim (cases_order (own_count a) (own_count b)) [
          | inl count ↦ absurd (ids-differ (λ i. record { home = home i; epoch = epoch i; count = count i }))
          | inr (inl less) ↦ inl (all.by_ids a b in_a in_b home (or_right _ _ (and_from _ _ (eq-eqb a.clock.epoch b.clock.epoch epoch) (lt-ltb (own_count a) (own_count b) less))))
          | inr (inr more) ↦ inr (all.by_ids b a in_b in_a (sym home) (or_right _ _ (and_from _ _ (eq-eqb b.clock.epoch a.clock.epoch (sym epoch)) (lt-ltb (own_count b) (own_count a) more))))
        ]
        | inr (inl less) ↦ inl (all.by_ids a b in_a in_b home (or_left _ _ (lt-ltb a.clock.epoch b.clock.epoch less)))
        | inr (inr more) ↦ inr (all.by_ids b a in_b in_a (sym home) (or_left _ _ (lt-ltb b.clock.epoch a.clock.epoch more)))
      ]

  -- unordered ones have different homes
  pub homes-differ : IsTrue (unordered a b) → a.home ≢ b.home
  homes-differ left_open home =
      elim (home-ordered home) [
        | inl before ↦ not_true _ (both_left _ _ left_open) before
        | inr after ↦ not_true _ (both_right _ _ left_open) after
      ]
