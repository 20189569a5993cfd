-- Earlier events are put before a later one.
-- Used by `no_cycle_arises` and `settling_puts_all_before`.
use Rattle.std.proofs.Common.{◌≡◌, ℕ, zero, suc, ◌+◌, ◌<◌, Bool, true, false, cond, List, [], ◌∷◌, ◌++◌, length, Contains, IsTrue, inl, inr, refl, sym, ap, subst, ◌∙◌, add-zero, None, Some, slice_get, slice_index, arith}
use Rattle.std.proofs.lemmas.Bool.{cases_Bool, cases_lt, both_ways, lt-ltb, cond-true, cond-false, and_from, not_from_false, false_from_ne_true}
use Rattle.std.proofs.lemmas.List.{append_assoc, append-nil}
use Rattle.std.proofs.lemmas.List.Elements.{Contains-get_or}
use Rattle.std.proofs.lemmas.List.Sums.{fails_before_first}
use Rattle.std.proofs.lemmas.Option.{none-some, slice_get_within, get_or_from_slice_get}
use Rattle.std.specs.List.{position_or_len}
use Rattle.std.specs.List.Sorted.{IsStrictlyIncreasing}
use Rattle.vector_stamp.specs.declared.clock.Stamp.{Stamp}
use Rattle.vector_stamp.specs.Order.{stamp_before, unordered}
use Rattle.vector_stamp.specs.Precedence.{GivenPair, precedes, IsAcyclic}
use Rattle.vector_stamp.specs.Settling.{refused_place, additions_from, places_of, pairs_of}
use Rattle.vector_stamp.proofs.Pairs.{precedes_append, push_read, pushed_precedes, no_way_back, acyclic_push}
use Rattle.weave_data.proofs.Members.{has_head, has_read, has_tail}
use Rattle.vector_stamp.proofs.Closure.{precedes_stamps}

-- the pairs after all of them were put
abbrev pub pairs_after : ℕ → List GivenPair → List Stamp → Stamp → List GivenPair
pairs_after place pairs events later = pairs ++ pairs_of (additions_from place pairs events later) later

module _ (place : ℕ) (pairs : List GivenPair) (event : Stamp) (events : List Stamp) (later : Stamp) where
  -- if the first event precedes the later one already, the additions are those for the rest, from the next place
  pub additions-there : precedes pairs event later ≡ true → additions_from place pairs (event ∷ events) later ≡ additions_from (suc place) pairs events later
  additions-there h = cond-true _ _ _ h

  -- if it doesn't, it is added with its place, and then those for the rest are, with its pair put
  pub additions-put : precedes pairs event later ≡ false → additions_from place pairs (event ∷ events) later ≡ (place, event) ∷ additions_from (suc place) (pairs ++ (event, later) ∷ []) events later
  additions-put h = cond-false _ _ _ h

  -- if the first event precedes the later one already, the pairs after all events are those after the rest
  pub after-settled : precedes pairs event later ≡ true → pairs_after place pairs (event ∷ events) later ≡ pairs_after (suc place) pairs events later
  after-settled h = ap (λ (es : List (ℕ × Stamp)). pairs ++ pairs_of es later) (additions-there h)

  -- if it doesn't, they are those that the rest leaves once the pair of the first is put
  pub after-put : precedes pairs event later ≡ false → pairs_after place pairs (event ∷ events) later ≡ pairs_after (suc place) (pairs ++ (event, later) ∷ []) events later
  after-put h =
      ap (λ (es : List (ℕ × Stamp)). pairs ++ pairs_of es later) (additions-put h)
      ∙ sym (append_assoc pairs ((event, later) ∷ []) (pairs_of (additions_from (suc place) (pairs ++ (event, later) ∷ []) events later) later))

-- one more event: it is put if it doesn't precede by the pairs, those of the events before it included
pub additions-push : (place : ℕ) (pairs : List GivenPair) (events : List Stamp) (event later : Stamp) → additions_from place pairs (events ++ event ∷ []) later ≡ additions_from place pairs events later ++ additions_from (place + length events) (pairs_after place pairs events later) (event ∷ []) later
additions-push place pairs [] event later = rw (add-zero, append-nil) refl
additions-push place pairs (first ∷ events) event later =
    elim (cases_Bool (precedes pairs first later)) [
      | inl h ↦
          let whole = additions-there place pairs first (events ++ event ∷ []) later h in
          let front = additions-there place pairs first events later h in
          let after = after-settled place pairs first events later h in
          whole ∙ additions-push (suc place) pairs events event later ∙ (λ i. sym front i ++ additions_from (next i) (sym after i) (event ∷ []) later)
      | inr h ↦
          let whole = additions-put place pairs first (events ++ event ∷ []) later h in
          let front = additions-put place pairs first events later h in
          let after = after-put place pairs first events later h in
          let rest = additions-push (suc place) (pairs ++ (first, later) ∷ []) events event later in
          whole ∙ (λ i. (place, first) ∷ rest i) ∙ (λ i. sym front i ++ additions_from (next i) (sym after i) (event ∷ []) later)
    ]
  where
    next : suc place + length events ≡ place + length (first ∷ events)
    next = omega arith

-- then all of them precede the later one
pub after_precedes : (place : ℕ) (pairs : List GivenPair) (events : List Stamp) (later event : Stamp) → Contains events event → IsTrue (precedes (pairs_after place pairs events later) event later)
after_precedes place pairs [] later event h = absurd (omega (arith, h.1))
after_precedes place pairs (first ∷ events) later event h =
    elim (cases_Bool (precedes pairs first later)) [
      | inl before ↦ rw (after-settled place pairs first events later before) (elim (has_read first events event h) [
        | inl here ↦ subst (λ x. IsTrue (precedes (pairs_after (suc place) pairs events later) x later)) here (precedes_append pairs (pairs_of (additions_from (suc place) pairs events later) later) first later before)
        | inr there ↦ after_precedes (suc place) pairs events later event there
      ])
      | inr put ↦ rw (after-put place pairs first events later put) (elim (has_read first events event h) [
        | inl here ↦ subst (λ x. IsTrue (precedes (pairs_after (suc place) (pairs ++ (first, later) ∷ []) events later) x later)) here (precedes_append (pairs ++ (first, later) ∷ []) (pairs_of (additions_from (suc place) (pairs ++ (first, later) ∷ []) events later) later) first later (pushed_precedes pairs first later))
        | inr there ↦ after_precedes (suc place) (pairs ++ (first, later) ∷ []) events later event there
      ])
    ]

-- and no cycle arises if the later one precedes none of them
abbrev pub IsPermitted : List GivenPair → List Stamp → Stamp → Type 0
IsPermitted pairs events later = (event : Stamp) → Contains events event → ((event ≡ later → ⊥) × ¬ IsTrue (precedes pairs later event))

-- a pair that is put permits what was permitted
permitted_push : (pairs : List GivenPair) (first later event : Stamp) → (first ≡ later → ⊥) → ¬ IsTrue (precedes pairs later first) → ¬ IsTrue (precedes pairs later event) → ¬ IsTrue (precedes (pairs ++ (first, later) ∷ []) later event)
permitted_push pairs first later event other permitted still h =
    elim (push_read pairs (first, later) later event h) [
      | inl before ↦ still before
      | inr via ↦ no_way_back pairs first later other permitted via.0
    ]

-- no cycle arises when events are put before a later one that is none of them and precedes none of them
pub acyclic_after : (place : ℕ) (pairs : List GivenPair) (events : List Stamp) (later : Stamp) → IsAcyclic pairs → IsPermitted pairs events later → IsAcyclic (pairs_after place pairs events later)
acyclic_after place pairs [] later none permitted = rw append-nil none
acyclic_after place pairs (first ∷ events) later none permitted =
    let head = permitted first (has_head first events) in
    let tail : IsPermitted pairs events later = λ event h. permitted event (has_tail first events event h) in
    elim (cases_Bool (precedes pairs first later)) [
      | inl before ↦ rw (after-settled place pairs first events later before) (acyclic_after (suc place) pairs events later none tail)
      | inr put ↦ rw (after-put place pairs first events later put) (acyclic_after (suc place) (pairs ++ (first, later) ∷ []) events later (acyclic_push pairs first later none head.0 head.1) (λ event h. ((tail event h).0, permitted_push pairs first later event head.0 head.1 (tail event h).1)))
    ]

-- what is put leaves open what was: the later event precedes none that it did not precede
pub permitted_after : (place : ℕ) (pairs : List GivenPair) (events : List Stamp) (later event : Stamp) → IsPermitted pairs events later → ¬ IsTrue (precedes pairs later event) → ¬ IsTrue (precedes (pairs_after place pairs events later) later event)
permitted_after place pairs [] later event permitted still = rw append-nil still
permitted_after place pairs (first ∷ events) later event permitted still =
    let head = permitted first (has_head first events) in
    let tail : IsPermitted pairs events later = λ other h. permitted other (has_tail first events other h) in
    elim (cases_Bool (precedes pairs first later)) [
      | inl before ↦ rw (after-settled place pairs first events later before) (permitted_after (suc place) pairs events later event tail still)
      | inr put ↦ rw (after-put place pairs first events later put) (permitted_after (suc place) (pairs ++ (first, later) ∷ []) events later event (λ other h. ((tail other h).0, permitted_push pairs first later other head.0 head.1 (tail other h).1)) (permitted_push pairs first later event head.0 head.1 still))
    ]

-- no place is refused
pub permitted_none : (pairs : List GivenPair) (events : List Stamp) (later : Stamp) → refused_place pairs events later ≡ None → (event : Stamp) → Contains events event → ¬ IsTrue (precedes pairs later event)
permitted_none pairs events later none event h back =
    let n = position_or_len (precedes pairs later) events in
    elim (cases_lt n (length events)) [
      | inl below ↦ none-some n (sym none ∙ cond-true _ _ _ (lt-ltb n (length events) below))
      | inr over ↦ both_ways (precedes pairs later event) (subst (λ x. precedes pairs later x ≡ false) h.2 (fails_before_first (precedes pairs later) events h.0 event (omega (arith, h.1)))) back
    ]

-- each addition is an event of the list, with its place
pub additions_read : (place : ℕ) (pairs : List GivenPair) (events : List Stamp) (later : Stamp) (put : ℕ × Stamp) → Contains (additions_from place pairs events later) put → (k : ℕ) × (put.0 ≡ place + k) × (slice_get events k ≡ Some put.1)
additions_read place pairs [] later put h = absurd (omega (arith, h.1))
additions_read place pairs (first ∷ events) later put h =
    elim (cases_Bool (precedes pairs first later)) [
      | inl before ↦
          let rest = additions_read (suc place) pairs events later put (subst (λ es. Contains es put) (additions-there place pairs first events later before) h) in
          (suc rest.0, (let e = rest.1 in omega arith), rest.2)
      | inr now ↦ elim (has_read (place, first) (additions_from (suc place) (pairs ++ (first, later) ∷ []) events later) put (subst (λ es. Contains es put) (additions-put place pairs first events later now) h)) [
        | inl here ↦ (0, (let e : place ≡ put.0 = ap (λ (p : ℕ × Stamp). p.0) here in omega arith), ap (λ (p : ℕ × Stamp). Some p.1) here)
        | inr there ↦
            let rest = additions_read (suc place) (pairs ++ (first, later) ∷ []) events later put there in
            (suc rest.0, (let e = rest.1 in omega arith), rest.2)
      ]
    ]

-- of each pair of additions the earlier stamp was added, with some place, and the later is that of the later event
pub pairs_read : (events : List (ℕ × Stamp)) (later a b : Stamp) → Contains (pairs_of events later) (a, b) → (place : ℕ) × Contains events (place, a) × (b ≡ later)
pairs_read [] later a b h = absurd (omega (arith, h.1))
pairs_read (event ∷ events) later a b h =
    elim (has_read (event.1, later) (pairs_of events later) (a, b) h) [
      | inl here ↦ (event.0, subst (λ x. Contains (event ∷ events) (event.0, x)) (ap (λ (p : GivenPair). p.0) here) (has_head event events), sym (ap (λ (p : GivenPair). p.1) here))
      | inr there ↦ let rest = pairs_read events later a b there in (rest.0, has_tail event events (rest.0, a) rest.1, rest.2)
    ]

contained_at : (events : List Stamp) (k : ℕ) (event : Stamp) → slice_get events k ≡ Some event → Contains events event
contained_at events k event h = (k, slice_get_within events k event h, get_or_from_slice_get events k event event h)

-- each pair that is added puts one of the earlier events before the later one
pub pairs_of_earlier : (place : ℕ) (pairs : List GivenPair) (events : List Stamp) (later a b : Stamp) → Contains (pairs_of (additions_from place pairs events later) later) (a, b) → Contains events a × (b ≡ later)
pairs_of_earlier place pairs events later a b h =
    let joined = pairs_read (additions_from place pairs events later) later a b h in
    let stands = additions_read place pairs events later (joined.0, a) joined.1 in
    (contained_at events stands.0 a stands.2, joined.2)

-- in rising order
rising_cons : (n : ℕ) (ns : List ℕ) → ((m : ℕ) → Contains ns m → n < m) → IsStrictlyIncreasing ns → IsStrictlyIncreasing (n ∷ ns)
rising_cons n ns above rising zero h = above (slice_index ns 0) (Contains-get_or ns 0 0 (omega arith))
rising_cons n ns above rising (suc k) h = let e : suc k + 1 ≡ suc (k + 1) = omega arith in rw e (rising k (omega arith))

places_read : (events : List (ℕ × Stamp)) (n : ℕ) → Contains (places_of events) n → (event : Stamp) × Contains events (n, event)
places_read [] n h = absurd (omega (arith, h.1))
places_read (event ∷ events) n h =
    elim (has_read event.0 (places_of events) n h) [
      | inl here ↦ (event.1, subst (λ x. Contains (event ∷ events) (x, event.1)) here (has_head event events))
      | inr there ↦ let rest = places_read events n there in (rest.0, has_tail event events (n, rest.0) rest.1)
    ]

above_place : (place : ℕ) (pairs : List GivenPair) (events : List Stamp) (later : Stamp) (m : ℕ) → Contains (places_of (additions_from (suc place) pairs events later)) m → place < m
above_place place pairs events later m h =
    let event = places_read (additions_from (suc place) pairs events later) m h in
    let stands = additions_read (suc place) pairs events later (m, event.0) event.1 in
    let e = stands.1 in
    omega arith

-- the places for which a pair is added rise strictly
pub places_rise : (place : ℕ) (pairs : List GivenPair) (events : List Stamp) (later : Stamp) → IsStrictlyIncreasing (places_of (additions_from place pairs events later))
places_rise place pairs [] later = λ k h. absurd (omega (arith, h))
places_rise place pairs (first ∷ events) later =
    elim (cases_Bool (precedes pairs first later)) [
      | inl before ↦ rw (additions-there place pairs first events later before) (places_rise (suc place) pairs events later)
      | inr put ↦
          let more = pairs ++ (first, later) ∷ [] in
          rw (additions-put place pairs first events later put) (rising_cons place (places_of (additions_from (suc place) more events later)) (above_place place more events later) (places_rise (suc place) more events later))
    ]

-- what is added for doesn't yet precede, so it is not before
not-before : (place : ℕ) (pairs : List GivenPair) (events : List Stamp) (later a b : Stamp) → Contains (pairs_of (additions_from place pairs events later) later) (a, b) → ¬ IsTrue (stamp_before a b)
not-before place pairs [] later a b h t = absurd (omega (arith, h.1))
not-before place pairs (event ∷ events) later a b h t = at (precedes pairs event later) refl h (λ more k. not-before (suc place) more events later a b k t)
  where
    at : (x : Bool) → precedes pairs event later ≡ x → Contains (pairs_of (cond x (additions_from (suc place) pairs events later) ((place, event) ∷ additions_from (suc place) (pairs ++ (event, later) ∷ []) events later)) later) (a, b) → ((more : List GivenPair) → Contains (pairs_of (additions_from (suc place) more events later) later) (a, b) → ⊥) → ⊥
    at true e g rest = rest pairs g
    at false e g rest = elim (has_read (event, later) _ (a, b) g) [
      | inl same ↦ (let first : event ≡ a = ap (λ (q : GivenPair). q.0) same in let second : later ≡ b = ap (λ (q : GivenPair). q.1) same in
          both_ways _ e (precedes_stamps pairs event later (subst (λ s. IsTrue (stamp_before s later)) (sym first) (subst (λ s. IsTrue (stamp_before a s)) (sym second) t))))
      | inr more ↦ rest (pairs ++ (event, later) ∷ []) more
    ]

-- the stamps of what is added are unordered
pub added-open : (pairs : List GivenPair) (earlier : List Stamp) (later a b : Stamp) → refused_place pairs earlier later ≡ None → Contains (pairs_of (additions_from 0 pairs earlier later) later) (a, b) → IsTrue (unordered a b)
added-open pairs earlier later a b permitted h =
    let from = pairs_of_earlier 0 pairs earlier later a b h in
    let forward : ¬ IsTrue (stamp_before a b) = not-before 0 pairs earlier later a b h in
    let back : ¬ IsTrue (stamp_before b a) = λ t. permitted_none pairs earlier later permitted a from.0 (precedes_stamps pairs later a (subst (λ s. IsTrue (stamp_before s a)) from.1 t)) in
    and_from _ _ (not_from_false _ (false_from_ne_true _ forward)) (not_from_false _ (false_from_ne_true _ back))
