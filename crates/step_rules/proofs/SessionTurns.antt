-- What a session's log says of its next request, and of the one that waits for its reply.
-- Used by BeginStep, ReplyStep, Replying, ReportedReplies and crates weaver_core and workers_account.
use Rattle.std.proofs.Common.{◌≡◌, ℕ, zero, suc, ◌-◌, ◌<◌, ◌≤◌, Bool, true, false, cond, not, List, [], ◌∷◌, ◌++◌, take, AllPairs, Contains, IsTrue, Some, inl, inr, refl, sym, ap, subst, ◌∙◌, arith}
use Rattle.std.specs.Prelude.{nat_lt, slice_get, ◌&&◌}
use Rattle.std.specs.List.{list_any}
use Rattle.std.proofs.lemmas.Bool.{and_from, both_ways, cases_Bool, cases_lt, lt-ltb, not_from_false}
use Rattle.std.proofs.lemmas.List.Sums.{fold-append}
use Rattle.std.proofs.lemmas.Option.{get_or_from_slice_get, slice_get_within}
use Rattle.weave_data.proofs.Ends.{by_last}
use Rattle.weave_data.proofs.Members.{any_from, has_head, has_none, has_read, has_tail}
use Rattle.weave_data.proofs.Ordered.{pairs_placed}
use Rattle.weave_entries.specs.declared.session_log.SessionEntry.{SessionEntry}
use Rattle.weave_entries.specs.declared.session_log.SessionDeed.{SessionDeed}
use Rattle.weave_entries.specs.declared.session_log.SessionDeed.TheVariants.{Begun, Replied}
use Rattle.weave_entries.specs.SessionReplay.{IsSessionLog, RepliesToLast, SessionState, has_begun_in, has_reply_in, next_request, replied_count, session_after, session_of, session_start}
use Rattle.step_rules.specs.LowerLaws.{LawsForSteps}

-- Places in a list

-- an element of the first n of a list has a place below n
pub take-get : {A : Type 0} (n : ℕ) (xs : List A) (x : A) → Contains (take n xs) x → (i : ℕ) × (i < n) × (slice_get xs i ≡ Some x)
take-get zero xs x h = absurd (has_none x h)
take-get (suc n) [] x h = absurd (has_none x h)
take-get (suc n) (y ∷ xs) x h = elim (has_read y (take n xs) x h) [
  | inl same ↦ (zero, omega arith, ap Some same)
  | inr more ↦ (let rest = take-get n xs x more in let less = rest.1 in (suc rest.0, omega (arith, less), rest.2))
]

-- an element at a place below n is one of the first n
pub get-take : {A : Type 0} (n : ℕ) (xs : List A) (i : ℕ) (x : A) → i < n → slice_get xs i ≡ Some x → Contains (take n xs) x
get-take zero xs i x less e = absurd (omega (arith, less))
get-take (suc n) [] i x less e = cc
get-take (suc n) (y ∷ xs) zero x less e = let same : y ≡ x = cc in subst (λ z. Contains (y ∷ take n xs) z) same (has_head y (take n xs))
get-take (suc n) (y ∷ xs) (suc i) x less e = has_tail y (take n xs) x (get-take n xs i x (omega (arith, less)) e)

-- before the place of an element there is an element at each place
pub get-before : {A : Type 0} (xs : List A) (i j : ℕ) (x : A) → slice_get xs i ≡ Some x → j < i → (y : A) × (slice_get xs j ≡ Some y)
get-before [] i j x e less = cc
get-before (z ∷ xs) zero j x e less = absurd (omega (arith, less))
get-before (z ∷ xs) (suc i) zero x e less = (z, refl)
get-before (z ∷ xs) (suc i) (suc j) x e less = get-before xs i j x e (omega (arith, less))

contains-get : {A : Type 0} (xs : List A) (x : A) → Contains xs x → (i : ℕ) × (slice_get xs i ≡ Some x)
contains-get [] x h = absurd (has_none x h)
contains-get (y ∷ xs) x h = elim (has_read y xs x h) [
  | inl same ↦ (zero, ap Some same)
  | inr more ↦ (let rest = contains-get xs x more in (suc rest.0, rest.1))
]

-- what is at a place of a list is in the list
abbrev pub at-place : {A : Type 0} (xs : List A) (i : ℕ) (x : A) → slice_get xs i ≡ Some x → Contains xs x
at-place xs i x e = (i, slice_get_within xs i x e, get_or_from_slice_get xs i x x e)

-- The state of a session

module _ (requests : List ℕ) where
  -- the state after one more entry
  pub one-more : (log : List SessionEntry) (entry : SessionEntry) → session_of requests (log ++ entry ∷ []) ≡ session_after (session_of requests log) entry.deed
  one-more log entry = fold-append (λ session (e : SessionEntry). session_after session e.deed) (session_start requests) log (entry ∷ [])

  -- the requests of a session stay the same
  pub requests-same : (log : List SessionEntry) → (session_of requests log).requests ≡ requests
  requests-same = by_last (λ log. (session_of requests log).requests ≡ requests) refl (λ log entry so. ap (λ (session : SessionState). session.requests) (one-more log entry) ∙ by-deed entry.deed (session_of requests log) ∙ so)
    where
      by-deed : (deed : SessionDeed) (session : SessionState) → (session_after session deed).requests ≡ session.requests
      by-deed (Begun r stamp) session = refl
      by-deed (Replied r) session = refl

  -- a session that waits for a reply has begun a request
  pub waits-begun : (log : List SessionEntry) → (session_of requests log).waits ≡ true → 1 ≤ (session_of requests log).begun
  waits-begun = by_last (λ log. (session_of requests log).waits ≡ true → 1 ≤ (session_of requests log).begun) (λ waits. cc)
      (λ log entry so. subst (λ (session : SessionState). session.waits ≡ true → 1 ≤ session.begun) (sym (one-more log entry)) (by-deed entry.deed (session_of requests log)))
    where
      by-deed : (deed : SessionDeed) (session : SessionState) → (session_after session deed).waits ≡ true → 1 ≤ (session_after session deed).begun
      by-deed (Begun r stamp) session waits = omega arith
      by-deed (Replied r) session waits = cc

-- the stamp that was begun last doesn't depend on the requests
pub last-any : (a b : List ℕ) (log : List SessionEntry) → (session_of a log).last ≡ (session_of b log).last
last-any a b = by_last (λ log. (session_of a log).last ≡ (session_of b log).last) refl
    (λ log entry so. ap (λ (session : SessionState). session.last) (one-more a log entry) ∙ by-deed entry.deed (session_of a log) (session_of b log) so ∙ sym (ap (λ (session : SessionState). session.last) (one-more b log entry)))
  where
    by-deed : (deed : SessionDeed) (one other : SessionState) → one.last ≡ other.last → (session_after one deed).last ≡ (session_after other deed).last
    by-deed (Begun r stamp) one other so = refl
    by-deed (Replied r) one other so = so

module _ (laws : LawsForSteps) (number : ℕ) (requests : List ℕ) (log : List SessionEntry) (right : IsSessionLog number requests log) where
  abbrev session : SessionState
  session = session_of requests log

  begun-place : (r : ℕ) → IsTrue (has_begun_in r log) → Contains (take session.begun requests) r
  begun-place r h = subst (λ rs. Contains rs r) (laws.logs.sessions_begun number requests log right) ((laws.logs.session_begun r log).0 h)

  place-begun : (r : ℕ) → Contains (take session.begun requests) r → IsTrue (has_begun_in r log)
  place-begun r h = (laws.logs.session_begun r log).1 (subst (λ rs. Contains rs r) (sym (laws.logs.sessions_begun number requests log right)) h)

  reply-place : (r : ℕ) → IsTrue (has_reply_in r log) → Contains (take (replied_count session) requests) r
  reply-place r h = subst (λ rs. Contains rs r) (laws.logs.sessions_replied number requests log right) ((laws.logs.session_replied r log).0 h)

  place-reply : (r : ℕ) → Contains (take (replied_count session) requests) r → IsTrue (has_reply_in r log)
  place-reply r h = (laws.logs.session_replied r log).1 (subst (λ rs. Contains rs r) (sym (laws.logs.sessions_replied number requests log right)) h)

  -- a request that has its reply has begun
  pub replied-begun : (r : ℕ) → IsTrue (has_reply_in r log) → IsTrue (has_begun_in r log)
  replied-begun r h =
      let at = take-get (replied_count session) requests r (reply-place r h) in
      let below = at.1 in
      let most = at-most session.waits in
      place-begun r (get-take session.begun requests at.0 r (omega (arith, below, most)) at.2)
    where
      at-most : (b : Bool) → cond b (session.begun - 1) session.begun ≤ session.begun
      at-most true = omega arith
      at-most false = omega arith

  -- a request that has begun and has no reply is the last one, which waits for it
  pub open-is-last : (r : ℕ) → has_begun_in r log ≡ true → has_reply_in r log ≡ false → RepliesToLast session r
  open-is-last r begun unreplied = by session.waits refl
    where
      by : (b : Bool) → session.waits ≡ b → RepliesToLast session r
      by false e =
          let count : replied_count session ≡ session.begun = ap (λ b. cond b (session.begun - 1) session.begun) e in
          absurd (both_ways (has_reply_in r log) unreplied (place-reply r (subst (λ n. Contains (take n requests) r) (sym count) (begun-place r begun))))
      by true e =
          let count : replied_count session ≡ session.begun - 1 = ap (λ b. cond b (session.begun - 1) session.begun) e in
          let at = take-get session.begun requests r (begun-place r begun) in
          elim (cases_lt at.0 (session.begun - 1)) [
            | inl below ↦ absurd (both_ways (has_reply_in r log) unreplied (place-reply r (subst (λ n. Contains (take n requests) r) (sym count) (get-take (session.begun - 1) requests at.0 r below at.2))))
            | inr over ↦ (let less = at.1 in let index : session.begun - 1 ≡ at.0 = omega (arith, less, over) in
                record { waits = e; last = ap (λ rs. slice_get rs (session.begun - 1)) (requests-same requests log) ∙ ap (slice_get requests) index ∙ at.2 })
          ]

  -- a request that has not begun, and of whose session no earlier one waits for its reply, is the next one
  module _ (rise : AllPairs (λ (a b : ℕ). a < b) requests) (r : ℕ) (among : Contains requests r) (unbegun : has_begun_in r log ≡ false)
      (free : list_any (λ earlier. nat_lt earlier r && not (has_reply_in earlier log)) requests ≡ false) where
    place : (i : ℕ) × (slice_get requests i ≡ Some r)
    place = contains-get requests r among

    past : session.begun ≤ place.0
    past = elim (cases_lt place.0 session.begun) [
      | inl below ↦ absurd (both_ways (has_begun_in r log) unbegun (place-begun r (get-take session.begun requests place.0 r below place.1)))
      | inr over ↦ over
    ]

    -- an earlier one has its reply
    replied : (j q : ℕ) → slice_get requests j ≡ Some q → j < place.0 → Contains (take (replied_count session) requests) q
    replied j q at less =
        let lower = pairs_placed (λ (a b : ℕ). a < b) requests rise q r (at-place requests j q at) (at-place requests place.0 r place.1) less in
        elim (cases_Bool (has_reply_in q log)) [
          | inl has ↦ reply-place q has
          | inr none ↦ absurd (both_ways (list_any (λ earlier. nat_lt earlier r && not (has_reply_in earlier log)) requests) free
              (any_from (λ earlier. nat_lt earlier r && not (has_reply_in earlier log)) requests q (at-place requests j q at) (and_from (nat_lt q r) (not (has_reply_in q log)) (lt-ltb q r lower) (not_from_false (has_reply_in q log) none))))
        ]

    -- and so its place is below the number of replies
    replied-below : (j q : ℕ) → slice_get requests j ≡ Some q → j < place.0 → j < replied_count session
    replied-below j q at less = elim (cases_lt j (replied_count session)) [
      | inl below ↦ below
      | inr over ↦
          let other = take-get (replied_count session) requests q (replied j q at less) in
          let first = other.1 in
          let lower = pairs_placed (λ (a b : ℕ). a < b) requests rise q q (at-place requests other.0 q other.2) (at-place requests j q at) (omega (arith, first, over)) in
          absurd (omega (arith, lower))
    ]

    none-waits : session.waits ≡ false
    none-waits = by session.waits refl
      where
        by : (b : Bool) → session.waits ≡ b → session.waits ≡ false
        by false e = e
        by true e =
            let count : replied_count session ≡ session.begun - 1 = ap (λ b. cond b (session.begun - 1) session.begun) e in
            let some = waits-begun requests log e in
            let over = past in
            let one = get-before requests place.0 (session.begun - 1) r place.1 (omega (arith, some, over)) in
            let below = replied-below (session.begun - 1) one.0 one.1 (omega (arith, some, over)) in
            absurd (omega (arith, below, count))

    here : place.0 ≡ session.begun
    here = elim (cases_lt session.begun place.0) [
      | inl less ↦
          let count : replied_count session ≡ session.begun = ap (λ b. cond b (session.begun - 1) session.begun) none-waits in
          let one = get-before requests place.0 session.begun r place.1 less in
          let below = replied-below session.begun one.0 one.1 less in
          absurd (omega (arith, below, count))
      | inr over ↦ (let least = past in omega (arith, over, least))
    ]

    -- a request not begun, of whose session all earlier ones have replies, is the next, and none waits there
    pub next-in-turn : (session.waits ≡ false) × (next_request session ≡ Some r)
    next-in-turn = (none-waits, ap (λ rs. slice_get rs session.begun) (requests-same requests log) ∙ ap (slice_get requests) (sym here) ∙ place.1)
