-- How the replicas change: lists go on, and none comes to life again. So each later tail's list goes on the earlier one's.
-- Used by AsJudge, Asking, Changed, Giving, Keeping, Knowing, Levelled, SettleCalls and Views.
use Rattle.std.proofs.Common.{◌≡◌, ◌≢◌, ℕ, zero, suc, ◌<◌, ◌≤◌, true, false, cond, List, [], ◌∷◌, ◌++◌, length, set, Some, IsTrue, inl, inr, ◌⊎◌, refl, sym, ap, subst, ◌∙◌, arith, slice_get, eqb-true, nat_eq, Contains}
use Rattle.std.proofs.lemmas.Bool.{cases_Bool, cases_lt, both_ways, cond-true, cond-false, eqb-false}
use Rattle.std.proofs.lemmas.List.Elements.{Contains-push_cases}
use Rattle.oracle_chain.specs.declared.ask.Ask.{Ask}
use Rattle.oracle_chain.specs.Chain.{ReplicaView, Message, replica_at, is_live, asks_at, asks_of, live_count, head_number, tail_number, tail_asks}
use Rattle.oracle_chain.specs.Calls.{with_ask, levelled}
use Rattle.oracle_chain.specs.IsReplicaChain.{IsPrefixOf, AreOrdered, IsSent, IsListed}
use Rattle.oracle_chain.proofs.Begins.{whole, onward, same-on, get-on, next-begins}
use Rattle.oracle_chain.proofs.Places.{set-here, set-other, tail-last, some-tail, head-first}

-- each list goes on, and what is live was
pub record Grows (rs next : List ReplicaView) : Type 0 where
  pub alive : (i : ℕ) → IsTrue (is_live next i) → IsTrue (is_live rs i)
  pub begins : (i : ℕ) → IsPrefixOf (asks_at rs i) (asks_at next i)

-- nothing has changed
pub grows-none : (rs : List ReplicaView) → Grows rs rs
grows-none rs = record { alive = λ i live. live; begins = λ i. whole (asks_at rs i) }

-- one change after another
pub grows-on : (rs next last : List ReplicaView) → Grows rs next → Grows next last → Grows rs last
grows-on rs next last first second = record {
  alive = λ i live. first.alive i (second.alive i live);
  begins = λ i. onward (asks_at rs i) (asks_at next i) (asks_at last i) (first.begins i) (second.begins i);
}

-- a message that was sent still was
pub sent-on : (rs next : List ReplicaView) (message : Message) → Grows rs next → IsSent rs message → IsSent next message
sent-on rs next message grows sent i before live =
    get-on (asks_at rs i) (asks_at next i) message.position message.ask (grows.begins i) (sent i before (grows.alive i live))

-- and is still in some list
pub kept-on : (rs next : List ReplicaView) (message : Message) → Grows rs next → IsListed rs message → IsListed next message
kept-on rs next message grows kept = (kept.0, get-on (asks_at rs kept.0) (asks_at next kept.0) message.position message.ask (grows.begins kept.0) kept.1)

-- of two live replicas the list of the one that isn't before the other begins the other's
pub not-before-begins : (rs : List ReplicaView) (i j : ℕ) → AreOrdered rs → i ≤ j → IsTrue (is_live rs i) → IsTrue (is_live rs j) → IsPrefixOf (asks_at rs j) (asks_at rs i)
not-before-begins rs i j ordered at-most live-i live-j = elim (cases_lt i j) [
  | inl below ↦ ordered i j below live-i live-j
  | inr over ↦ same-on (asks_at rs j) (asks_at rs i) (ap (λ k. asks_at rs k) (let e : i ≡ j = omega (arith, at-most, over) in e))
]

-- the tail's list goes on from one state to a later one
pub tail-on : (rs next : List ReplicaView) → AreOrdered rs → Grows rs next → 0 < live_count rs → 0 < live_count next → IsPrefixOf (tail_asks rs) (tail_asks next)
tail-on rs next ordered grows some-live next-live =
    let old = some-tail rs some-live in
    let new = some-tail next next-live in
    let last = tail-last rs old.0 old.1 in
    let end = tail-last next new.0 new.1 in
    let alive = grows.alive new.0 end.0 in
    let at-most : new.0 ≤ old.0 = elim (cases_lt old.0 new.0) [ inl after ↦ absurd (last.1 new.0 after alive) | inr over ↦ over ] in
    let earlier : IsPrefixOf (asks_at rs old.0) (asks_at rs new.0) = not-before-begins rs new.0 old.0 ordered at-most alive last.0 in
    let both : IsPrefixOf (asks_at rs old.0) (asks_at next new.0) = onward (asks_at rs old.0) (asks_at rs new.0) (asks_at next new.0) earlier (grows.begins new.0) in
    subst (λ o. IsPrefixOf (asks_of rs o) (tail_asks next)) (sym old.1) (subst (λ o. IsPrefixOf (asks_at rs old.0) (asks_of next o)) (sym new.1) both)

-- the tail's list begins the head's
pub tail-begins-head : (rs : List ReplicaView) → AreOrdered rs → (h t : ℕ) → head_number rs ≡ Some h → tail_number rs ≡ Some t → IsPrefixOf (asks_at rs t) (asks_at rs h)
tail-begins-head rs ordered h t is-head is-tail =
    let first = head-first rs h is-head in
    let last = tail-last rs t is-tail in
    not-before-begins rs h t ordered (elim (cases_lt t h) [ inl below ↦ absurd (first.1 t below last.0) | inr over ↦ over ]) first.0 last.0

-- each live replica's list begins the head's
pub live-begins-head : (rs : List ReplicaView) → AreOrdered rs → (h i : ℕ) → head_number rs ≡ Some h → IsTrue (is_live rs i) → IsPrefixOf (asks_at rs i) (asks_at rs h)
live-begins-head rs ordered h i is-head live =
    let first = head-first rs h is-head in
    not-before-begins rs h i ordered (elim (cases_lt i h) [ inl below ↦ absurd (first.1 i below live) | inr over ↦ over ]) first.0 live

same-or-other : (i j : ℕ) → (j ≡ i) ⊎ (j ≢ i)
same-or-other i j = elim (cases_Bool (nat_eq j i)) [ inl same ↦ inl (eqb-true j i same) | inr other ↦ inr (eqb-false j i other) ]

-- One more ask at a replica

module _ (rs : List ReplicaView) (i : ℕ) (ask : Ask) (within : i < length rs) where
  -- who is live stays
  pub ask-live : (j : ℕ) → is_live (with_ask rs i ask) j ≡ is_live rs j
  ask-live j = elim (same-or-other i j) [
    | inl same ↦ subst (λ k. is_live (with_ask rs i ask) k ≡ is_live rs k) (sym same) (ap (λ (r : ReplicaView). r.live) (set-here rs i _ within))
    | inr other ↦ ap (λ (r : ReplicaView). r.live) (set-other rs i j _ other)
  ]

  -- its list has the ask at the end
  pub ask-here : asks_at (with_ask rs i ask) i ≡ asks_at rs i ++ ask ∷ []
  ask-here = ap (λ (r : ReplicaView). r.asks) (set-here rs i _ within)

  -- and the other lists stay
  pub ask-other : (j : ℕ) → j ≢ i → asks_at (with_ask rs i ask) j ≡ asks_at rs j
  ask-other j other = ap (λ (r : ReplicaView). r.asks) (set-other rs i j _ other)

  -- each list goes on
  pub ask-begins : (j : ℕ) → IsPrefixOf (asks_at rs j) (asks_at (with_ask rs i ask) j)
  ask-begins j = elim (same-or-other i j) [
    | inl same ↦ subst (λ k. IsPrefixOf (asks_at rs k) (asks_at (with_ask rs i ask) k)) (sym same) (ask ∷ [], ask-here)
    | inr other ↦ same-on (asks_at rs j) (asks_at (with_ask rs i ask) j) (ask-other j other)
  ]

  -- and none comes to life
  pub ask-grows : Grows rs (with_ask rs i ask)
  ask-grows = record { alive = λ j live. subst (λ b. IsTrue b) (ask-live j) live; begins = ask-begins }

  -- if each live replica before it has the ask at the next position, the lists are in order then too
  pub ask-ordered : AreOrdered rs → IsTrue (is_live rs i) → ((k : ℕ) → k < i → IsTrue (is_live rs k) → slice_get (asks_at rs k) (length (asks_at rs i)) ≡ Some ask) → AreOrdered (with_ask rs i ask)
  ask-ordered ordered live-i has a b below live-a live-b =
      let was-a : IsTrue (is_live rs a) = subst (λ x. IsTrue x) (ask-live a) live-a in
      let was-b : IsTrue (is_live rs b) = subst (λ x. IsTrue x) (ask-live b) live-b in
      at a b below was-a was-b (same-or-other i a) (same-or-other i b)
    where
      at : (a b : ℕ) → a < b → IsTrue (is_live rs a) → IsTrue (is_live rs b) → (a ≡ i) ⊎ (a ≢ i) → (b ≡ i) ⊎ (b ≢ i) → IsPrefixOf (asks_at (with_ask rs i ask) b) (asks_at (with_ask rs i ask) a)
      at a b below was-a was-b (inl first) (inl second) = absurd (omega (arith, below, first, second))
      at a b below was-a was-b (inl first) (inr other) =
          subst (λ xs. IsPrefixOf xs (asks_at (with_ask rs i ask) a)) (sym (ask-other b other)) (onward (asks_at rs b) (asks_at rs a) (asks_at (with_ask rs i ask) a) (ordered a b below was-a was-b) (ask-begins a))
      at a b below was-a was-b (inr other) (inl second) =
          subst (λ xs. IsPrefixOf (asks_at (with_ask rs i ask) b) xs) (sym (ask-other a other)) (
          subst (λ k. IsPrefixOf (asks_at (with_ask rs i ask) k) (asks_at rs a)) (sym second) (
          subst (λ xs. IsPrefixOf xs (asks_at rs a)) (sym ask-here) (
          next-begins (asks_at rs i) (asks_at rs a) ask (ordered a i (subst (λ k. a < k) second below) was-a live-i) (has a (subst (λ k. a < k) second below) was-a))))
      at a b below was-a was-b (inr other) (inr another) =
          subst (λ xs. IsPrefixOf xs (asks_at (with_ask rs i ask) a)) (sym (ask-other b another)) (
          subst (λ xs. IsPrefixOf (asks_at rs b) xs) (sym (ask-other a other)) (ordered a b below was-a was-b))

  -- a list has no other ask than it had and this one
  pub ask-from : (j : ℕ) (one : Ask) → Contains (asks_at (with_ask rs i ask) j) one → (one ≡ ask) ⊎ Contains (asks_at rs j) one
  ask-from j one has = elim (same-or-other i j) [
    | inl same ↦ (let there : Contains (asks_at rs i ++ ask ∷ []) one = subst (λ xs. Contains xs one) (ap (λ k. asks_at (with_ask rs i ask) k) same ∙ ask-here) has in
        elim (Contains-push_cases (asks_at rs i) ask one there) [
          | inl old ↦ inr (subst (λ k. Contains (asks_at rs k) one) (sym same) old)
          | inr new ↦ inl (sym new)
        ])
    | inr other ↦ inr (subst (λ xs. Contains xs one) (ask-other j other) has)
  ]

-- A replica that stops

module _ (rs : List ReplicaView) (i : ℕ) (within : i < length rs) where
  -- the lists stay
  pub stop-asks : (j : ℕ) → asks_at (set rs i (record { live = false; asks = asks_at rs i })) j ≡ asks_at rs j
  stop-asks j = elim (same-or-other i j) [
    | inl same ↦ subst (λ k. asks_at (set rs i (record { live = false; asks = asks_at rs i })) k ≡ asks_at rs k) (sym same) (ap (λ (r : ReplicaView). r.asks) (set-here rs i _ within))
    | inr other ↦ ap (λ (r : ReplicaView). r.asks) (set-other rs i j _ other)
  ]

  -- what is live was
  pub stop-live : (j : ℕ) → IsTrue (is_live (set rs i (record { live = false; asks = asks_at rs i })) j) → IsTrue (is_live rs j)
  stop-live j live = elim (same-or-other i j) [
    | inl same ↦ absurd (both_ways false refl (subst (λ (r : ReplicaView). IsTrue r.live) (ap (λ k. replica_at (set rs i (record { live = false; asks = asks_at rs i })) k) same ∙ set-here rs i _ within) live))
    | inr other ↦ subst (λ (r : ReplicaView). IsTrue r.live) (set-other rs i j _ other) live
  ]

  -- each list stays, and none comes to life
  pub stop-grows : Grows rs (set rs i (record { live = false; asks = asks_at rs i }))
  stop-grows = record { alive = stop-live; begins = λ j. same-on (asks_at rs j) _ (stop-asks j) }

  -- and the lists are in order
  pub stop-ordered : AreOrdered rs → AreOrdered (set rs i (record { live = false; asks = asks_at rs i }))
  stop-ordered ordered a b below live-a live-b =
      subst (λ xs. IsPrefixOf xs (asks_at (set rs i (record { live = false; asks = asks_at rs i })) a)) (sym (stop-asks b)) (
      subst (λ xs. IsPrefixOf (asks_at rs b) xs) (sym (stop-asks a)) (ordered a b below (stop-live a live-a) (stop-live b live-b)))

-- All live replicas with one list

module _ (asks : List Ask) (rs : List ReplicaView) where
  level-at : (j : ℕ) → replica_at (levelled asks rs) j ≡ cond (is_live rs j) (record { live = true; asks = asks }) (replica_at rs j)
  level-at j = get-map rs j
    where
      get-map : (xs : List ReplicaView) (k : ℕ) → replica_at (levelled asks xs) k ≡ cond (is_live xs k) (record { live = true; asks = asks }) (replica_at xs k)
      get-map [] k = refl
      get-map (x ∷ xs) zero = refl
      get-map (x ∷ xs) (suc k) = get-map xs k

  -- a live replica has the list
  pub level-here : (j : ℕ) → IsTrue (is_live rs j) → asks_at (levelled asks rs) j ≡ asks
  level-here j live = ap (λ (r : ReplicaView). r.asks) (level-at j ∙ cond-true _ _ _ live)

  -- another one the list that it had
  pub level-other : (j : ℕ) → is_live rs j ≡ false → asks_at (levelled asks rs) j ≡ asks_at rs j
  level-other j stopped = ap (λ (r : ReplicaView). r.asks) (level-at j ∙ cond-false _ _ _ stopped)

  -- who is live stays
  pub level-live : (j : ℕ) → is_live (levelled asks rs) j ≡ is_live rs j
  level-live j = elim (cases_Bool (is_live rs j)) [
    | inl live ↦ ap (λ (r : ReplicaView). r.live) (level-at j ∙ cond-true _ _ _ live) ∙ sym live
    | inr stopped ↦ ap (λ (r : ReplicaView). r.live) (level-at j ∙ cond-false _ _ _ stopped)
  ]

  -- the lists are in order then
  pub level-ordered : AreOrdered (levelled asks rs)
  level-ordered a b below live-a live-b =
      same-on (asks_at (levelled asks rs) b) (asks_at (levelled asks rs) a) (
      level-here a (subst (λ x. IsTrue x) (level-live a) live-a) ∙ sym (level-here b (subst (λ x. IsTrue x) (level-live b) live-b)))

  -- and each has gone on, if each live one began the list
  pub level-grows : ((j : ℕ) → IsTrue (is_live rs j) → IsPrefixOf (asks_at rs j) asks) → Grows rs (levelled asks rs)
  level-grows begin = record {
    alive = λ j live. subst (λ x. IsTrue x) (level-live j) live;
    begins = λ j. elim (cases_Bool (is_live rs j)) [
      | inl live ↦ subst (λ xs. IsPrefixOf (asks_at rs j) xs) (sym (level-here j live)) (begin j live)
      | inr stopped ↦ same-on (asks_at rs j) (asks_at (levelled asks rs) j) (level-other j stopped)
    ];
  }

  -- a list has no other ask than it had and those of the list
  pub level-from : (j : ℕ) (one : Ask) → Contains (asks_at (levelled asks rs) j) one → Contains asks one ⊎ Contains (asks_at rs j) one
  level-from j one has = elim (cases_Bool (is_live rs j)) [
    | inl live ↦ inl (subst (λ xs. Contains xs one) (level-here j live) has)
    | inr stopped ↦ inr (subst (λ xs. Contains xs one) (level-other j stopped) has)
  ]
