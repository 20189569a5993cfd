-- The pairs of a report, as stamps and as requests, and that precedence of requests is transitive.
-- Used by Leading, Printing, TakenTurns, Taking and Ways.
use Rattle.std.proofs.Common.{◌≡◌, ℕ, Bool, true, ◌&&◌, IsTrue, List, [], ◌∷◌, Contains, eqb, Option, Some, None, ◌⊎◌, inl, inr, refl, sym, ap, ◌∙◌, subst, arith}
use Rattle.std.specs.Prelude.{is_some}
use Rattle.std.specs.List.{filter_map, cons_option}
use Rattle.std.proofs.lemmas.Bool.{and_parts, and_from, or_cases, or_left, or_right, eqb-true, eq-eqb}
use Rattle.std.proofs.lemmas.Option.{same_Some}
use Rattle.vector_stamp.specs.declared.clock.Stamp.{Stamp}
use Rattle.vector_stamp.specs.Precedence.{GivenPair, IsClosed, precedes}
use Rattle.weave_data.proofs.Members.{has_read, has_head, has_tail}
use Rattle.report_rules.specs.declared.report.Report.{Report}
use Rattle.report_rules.specs.declared.report.Pair.{Pair}
use Rattle.report_rules.specs.Lookups.{are_both, stamp_at, given_by, given_pairs}
use Rattle.order_witness.specs.Preceding.{IsTransitive}
use Rattle.order_witness.specs.Begun.{request_precedes, stamp_in, is_pair_between, pairs_lead}

-- precedence has the order of stamps and the pairs, and is transitive
abbrev pub AreClosed : Type 0
AreClosed = (pairs : List GivenPair) → IsClosed pairs (precedes pairs)

-- one more pair joins its ends and what leads to them
abbrev pub OneMoreJoins : Type 0
OneMoreJoins = (pair : GivenPair) (pairs : List GivenPair) (a b : Stamp) → IsTrue (precedes (pair ∷ pairs) a b)
    → IsTrue (precedes pairs a b) ⊎ (((a ≡ pair.0) ⊎ IsTrue (precedes pairs a pair.0)) × ((pair.1 ≡ b) ⊎ IsTrue (precedes pairs pair.1 b)))

-- two stamps that are there, with a test that holds of them
pub record AreThere (test : Stamp → Stamp → Bool) (first second : Option Stamp) : Type 0 where
  pub x : Stamp
  pub y : Stamp
  pub first_is : first ≡ Some x
  pub second_is : second ≡ Some y
  pub passes : IsTrue (test x y)

-- if a test holds of two stamps that need not be there, both are there and pass it
pub both_there : (test : Stamp → Stamp → Bool) (a b : Option Stamp) → IsTrue (are_both test a b) → AreThere test a b
both_there test None b h = cc
both_there test (Some x) None h = cc
both_there test (Some x) (Some y) h = record { x = x; y = y; first_is = refl; second_is = refl; passes = h }

-- and if both are there and pass it, the test holds of them
pub there_both : (test : Stamp → Stamp → Bool) (a b : Option Stamp) (x y : Stamp) → a ≡ Some x → b ≡ Some y → IsTrue (test x y) → IsTrue (are_both test a b)
there_both test a b x y is_a is_b h = ap (λ s. are_both test s b) is_a ∙ ap (λ s. are_both test (Some x) s) is_b ∙ h

module _ (report : Report) where
  -- The pairs

  abbrev given_of : List Pair → List GivenPair
  given_of pairs = filter_map (λ (pair : Pair). given_by (stamp_at report pair.earlier) (stamp_at report pair.later)) pairs

  some_is : (o : Option Stamp) → IsTrue (is_some o) → (x : Stamp) × (o ≡ Some x)
  some_is None h = cc
  some_is (Some x) h = (x, refl)

  first_given : (rest : List GivenPair) (a b : Option Stamp) (x y : Stamp) → a ≡ Some x → b ≡ Some y → Contains (cons_option (given_by a b) rest) (x, y)
  first_given rest a b x y is_a is_b =
      subst (λ s. Contains (cons_option (given_by s b) rest) (x, y)) (sym is_a) (subst (λ s. Contains (cons_option (given_by (Some x) s) rest) (x, y)) (sym is_b) (has_head (x, y) rest))

  rest_given : (rest : List GivenPair) (o : Option GivenPair) (p : GivenPair) → Contains rest p → Contains (cons_option o rest) p
  rest_given rest None p h = h
  rest_given rest (Some q) p h = has_tail q rest p h

  -- what a pair joins has stamps that are given
  pub joined_given : (pairs : List Pair) (a b : ℕ) → IsTrue (pairs_lead report.replies pairs a b) → AreThere (λ x y. true) (stamp_at report a) (stamp_at report b) × ((x y : Stamp) → stamp_at report a ≡ Some x → stamp_at report b ≡ Some y → Contains (given_of pairs) (x, y))
  joined_given [] a b h = cc
  joined_given (pair ∷ pairs) a b h =
      elim (or_cases (is_pair_between report.replies a b pair) _ h) [
        | inl here ↦
            let parts = and_parts (eqb a pair.earlier && eqb b pair.later) _ here in
            let ends = and_parts (eqb a pair.earlier) (eqb b pair.later) parts.0 in
            let begun = and_parts (is_some (stamp_in report.replies pair.earlier)) (is_some (stamp_in report.replies pair.later)) parts.1 in
            let is_a : a ≡ pair.earlier = eqb-true a pair.earlier ends.0 in
            let is_b : b ≡ pair.later = eqb-true b pair.later ends.1 in
            let x = some_is (stamp_at report pair.earlier) begun.0 in
            let y = some_is (stamp_at report pair.later) begun.1 in (
              record { x = x.0; y = y.0; first_is = ap (stamp_at report) is_a ∙ x.1; second_is = ap (stamp_at report) is_b ∙ y.1; passes = refl },
              λ s t at_a at_b. first_given (given_of pairs) (stamp_at report pair.earlier) (stamp_at report pair.later) s t (ap (stamp_at report) (sym is_a) ∙ at_a) (ap (stamp_at report) (sym is_b) ∙ at_b),
            )
        | inr later ↦
            let more = joined_given pairs a b later in
            (more.0, λ s t at_a at_b. rest_given (given_of pairs) (given_by (stamp_at report pair.earlier) (stamp_at report pair.later)) (s, t) (more.1 s t at_a at_b))
      ]

  -- two requests that a pair joins, with these stamps
  pub record AreJoined (pairs : List Pair) (x y : Stamp) : Type 0 where
    pub earlier : ℕ
    pub later : ℕ
    pub earlier_is : stamp_at report earlier ≡ Some x
    pub later_is : stamp_at report later ≡ Some y
    pub joined : IsTrue (pairs_lead report.replies pairs earlier later)

  with_more : (pair : Pair) (pairs : List Pair) (x y : Stamp) → AreJoined pairs x y → AreJoined (pair ∷ pairs) x y
  with_more pair pairs x y h = record {
    earlier = h.earlier;
    later = h.later;
    earlier_is = h.earlier_is;
    later_is = h.later_is;
    joined = or_right (is_pair_between report.replies h.earlier h.later pair) _ h.joined;
  }

  by_this : (pair : Pair) (pairs : List Pair) (x y : Stamp) → stamp_at report pair.earlier ≡ Some x → stamp_at report pair.later ≡ Some y → AreJoined (pair ∷ pairs) x y
  by_this pair pairs x y is_x is_y = record {
    earlier = pair.earlier;
    later = pair.later;
    earlier_is = is_x;
    later_is = is_y;
    joined = or_left _ _ (and_from _ _ (and_from _ _ (eq-eqb pair.earlier pair.earlier refl) (eq-eqb pair.later pair.later refl)) (and_from _ _ (ap is_some is_x) (ap is_some is_y)));
  }

  read_given : (pair : Pair) (pairs : List Pair) (x y : Stamp) (a b : Option Stamp) → stamp_at report pair.earlier ≡ a → stamp_at report pair.later ≡ b → (Contains (given_of pairs) (x, y) → AreJoined pairs x y) → Contains (cons_option (given_by a b) (given_of pairs)) (x, y) → AreJoined (pair ∷ pairs) x y
  read_given pair pairs x y None b is_a is_b later h = with_more pair pairs x y (later h)
  read_given pair pairs x y (Some s) None is_a is_b later h = with_more pair pairs x y (later h)
  read_given pair pairs x y (Some s) (Some t) is_a is_b later h =
      elim (has_read (s, t) (given_of pairs) (x, y) h) [
        | inl here ↦ by_this pair pairs x y (is_a ∙ ap (λ (g : GivenPair). Some g.0) here) (is_b ∙ ap (λ (g : GivenPair). Some g.1) here)
        | inr rest ↦ with_more pair pairs x y (later rest)
      ]

  -- what is given is of two requests that a pair joins
  pub given_joined : (pairs : List Pair) (x y : Stamp) → Contains (given_of pairs) (x, y) → AreJoined pairs x y
  given_joined [] x y h = absurd (omega (arith, h.1))
  given_joined (pair ∷ pairs) x y h =
      read_given pair pairs x y (stamp_at report pair.earlier) (stamp_at report pair.later) refl refl (given_joined pairs x y) h

  -- if the pairs are closed, precedence of requests is transitive
  pub trans : AreClosed → IsTransitive (request_precedes report)
  trans all_closed a b c g h =
      let ab = both_there (precedes (given_pairs report)) (stamp_at report a) (stamp_at report b) g in
      let bc = both_there (precedes (given_pairs report)) (stamp_at report b) (stamp_at report c) h in
      let same : bc.x ≡ ab.y = same_Some bc.x ab.y (sym bc.first_is ∙ ab.second_is) in
      there_both (precedes (given_pairs report)) (stamp_at report a) (stamp_at report c) ab.x bc.y ab.first_is bc.second_is
      ((all_closed (given_pairs report)).transitive ab.x ab.y bc.y ab.passes (subst (λ s. IsTrue (precedes (given_pairs report) s bc.y)) same bc.passes))
