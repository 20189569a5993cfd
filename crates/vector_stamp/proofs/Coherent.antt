-- The test of coherence is what it says.
-- Used by `coherence_is_decided` and `equality_is_decided`.
use Rattle.std.proofs.Common.{◌≡◌, Bool, true, false, ◌&&◌, ◌||◌, not, nat_lt, ◌==◌, ◌<◌, List, IsTrue, Contains, ap, subst}
use Rattle.std.specs.List.{list_all}
use Rattle.std.proofs.lemmas.Bool.{eqb-true, eq-eqb, ltb-true, lt-ltb, and_from}
use Rattle.std.proofs.lemmas.List.Elements.{All-contains, All-contains_itself, All-weaker}
use Rattle.std.proofs.lemmas.List.Sums.{AllPass-from_list_all, list_all-from_AllPass}
use Rattle.weave_data.proofs.ListPlaces.{unless}
use Rattle.vector_stamp.specs.declared.clock.Stamp.{Stamp}
use Rattle.vector_stamp.specs.declared.clock.EventId.{EventId}
use Rattle.vector_stamp.specs.Order.{id_of, same_id, own_count, id_before, stamp_before, same_stamp}
use Rattle.vector_stamp.specs.Coherence.{AreCoherent, two_coherent, all_coherent}
use Rattle.vector_stamp.proofs.Reading.{both_left, both_right}
use Rattle.vector_stamp.proofs.Orders.{same_stamp-is, same_stamp-refl}

-- if the test of all stamps of a list, two by two, passes, then the test passes for each two of them
pub each_two : (r : Stamp → Stamp → Bool) (stamps : List Stamp) → IsTrue (list_all (λ a. list_all (r a) stamps) stamps) → (a b : Stamp) → Contains stamps a → Contains stamps b → IsTrue (r a b)
each_two r stamps h a b in_a in_b =
    let row = All-contains (λ (x : Stamp). list_all (r x) stamps ≡ true) stamps a (AllPass-from_list_all (λ x. list_all (r x) stamps) stamps h) in_a in
    All-contains (λ (y : Stamp). r a y ≡ true) stamps b (AllPass-from_list_all (r a) stamps row) in_b

-- if a test passes for each two stamps of a list, then the test of all of them, two by two, passes
pub from_each_two : (r : Stamp → Stamp → Bool) (stamps : List Stamp) → ((a b : Stamp) → Contains stamps a → Contains stamps b → IsTrue (r a b)) → IsTrue (list_all (λ a. list_all (r a) stamps) stamps)
from_each_two r stamps each =
    list_all-from_AllPass (λ x. list_all (r x) stamps) stamps (All-weaker (Contains stamps) (λ x. list_all (r x) stamps ≡ true) (λ x in_x. list_all-from_AllPass (r x) stamps (All-weaker (Contains stamps) (λ y. r x y ≡ true) (λ y in_y. each x y in_x in_y) stamps (All-contains_itself stamps))) stamps (All-contains_itself stamps))

-- one of two tests passes if the other does
implied : (p q : Bool) → IsTrue (not p || q) → IsTrue p → IsTrue q
implied true q h g = h
implied false q h g = absurd (cc)

-- stamps that have the same id pass the test of the same id
pub same_id-from : (a b : Stamp) → id_of a ≡ id_of b → IsTrue (same_id a b)
same_id-from a b e =
    and_from _ _ (and_from _ _ (eq-eqb a.home b.home (ap (λ (i : EventId). i.home) e)) (eq-eqb a.clock.epoch b.clock.epoch (ap (λ (i : EventId). i.epoch) e))) (eq-eqb (own_count a) (own_count b) (ap (λ (i : EventId). i.count) e))

-- stamps that pass the test of the same id have the same id
pub same_id-is : (a b : Stamp) → IsTrue (same_id a b) → id_of a ≡ id_of b
same_id-is a b h =
    let two = both_left ((a.home == b.home) && (a.clock.epoch == b.clock.epoch)) (own_count a == own_count b) h in
    let home = eqb-true a.home b.home (both_left _ _ two) in
    let epoch = eqb-true a.clock.epoch b.clock.epoch (both_right (a.home == b.home) _ two) in
    let count = eqb-true (own_count a) (own_count b) (both_right ((a.home == b.home) && (a.clock.epoch == b.clock.epoch)) _ h) in
    λ i. record { home = home i; epoch = epoch i; count = count i }

module _ (a b : Stamp) where
  abbrev of_id : Bool
  of_id = not (same_id a b) || same_stamp a b

  abbrev of_home : Bool
  of_home = not (a.home == b.home && id_before a b) || stamp_before a b

  home_read : IsTrue (two_coherent a b) → a.home < 8
  home_read h = ltb-true a.home 8 (both_left _ _ (both_left (nat_lt a.home 8 && of_id) of_home h))

  id_read : IsTrue (two_coherent a b) → id_of a ≡ id_of b → a ≡ b
  id_read h e = same_stamp-is a b (implied (same_id a b) _ (both_right (nat_lt a.home 8) of_id (both_left (nat_lt a.home 8 && of_id) of_home h)) (same_id-from a b e))

  told_read : IsTrue (two_coherent a b) → a.home ≡ b.home → IsTrue (id_before a b) → IsTrue (stamp_before a b)
  told_read h home told = implied (a.home == b.home && id_before a b) _ (both_right (nat_lt a.home 8 && of_id) of_home h) (and_from _ _ (eq-eqb a.home b.home home) told)

-- each two of coherent stamps pass the test of two
pub two_from : (stamps : List Stamp) → AreCoherent stamps → (a b : Stamp) → Contains stamps a → Contains stamps b → IsTrue (two_coherent a b)
two_from stamps all a b in_a in_b =
    and_from _ _ (and_from _ _ (lt-ltb a.home 8 (all.homes a in_a)) (unless (same_id a b) _ one)) (unless (a.home == b.home && id_before a b) _ told)
  where
    one : IsTrue (same_id a b) → IsTrue (same_stamp a b)
    one h = subst (λ (x : Stamp). IsTrue (same_stamp a x)) (all.one_of_id a b in_a in_b (same_id-is a b h)) (same_stamp-refl a)

    told : IsTrue (a.home == b.home && id_before a b) → IsTrue (stamp_before a b)
    told h = all.by_ids a b in_a in_b (eqb-true a.home b.home (both_left _ _ h)) (both_right (a.home == b.home) _ h)

-- stamps are coherent if each two of them pass the test of two
pub coherent_from : (stamps : List Stamp) → ((a b : Stamp) → Contains stamps a → Contains stamps b → IsTrue (two_coherent a b)) → AreCoherent stamps
coherent_from stamps each =
    record {
      homes = λ a in_a. home_read a a (each a a in_a in_a);
      one_of_id = λ a b in_a in_b. id_read a b (each a b in_a in_b);
      by_ids = λ a b in_a in_b. told_read a b (each a b in_a in_b);
    }

-- coherent stamps pass the test of coherence
pub coherent_tested : (stamps : List Stamp) → AreCoherent stamps → IsTrue (all_coherent stamps)
coherent_tested stamps all = from_each_two two_coherent stamps (two_from stamps all)

-- stamps that pass the test of coherence are coherent
pub tested_coherent : (stamps : List Stamp) → IsTrue (all_coherent stamps) → AreCoherent stamps
tested_coherent stamps h = coherent_from stamps (each_two two_coherent stamps h)
