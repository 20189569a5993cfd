-- What a session's log says of each of its requests, by its state and by its last entry.
-- Used by `first_unanswered`, `is_open`, `standing`, `unordered`, BegunProgram, FirstUnanswered, Found, HandedIn,
-- Marked, MarksFound, OpenRuns, Parts, ProgramStamped, Replied, Stamped, StepValues, Unanswered, Unordered, VisitWith,
-- Waiting and crate weaver_workers.
use Rattle.std.proofs.Common.{◌≡◌, ℕ, ◌+◌, ◌-◌, ◌<◌, ◌≤◌, Bool, true, false, not, List, [], ◌∷◌, ◌++◌, length, take, map, AllPairs, Contains, IsTrue, Option, None, Some, inl, inr, refl, sym, ap, subst, ◌∙◌, arith}
use Rattle.std.specs.Prelude.{nat_le, nat_lt, slice_get, ◌&&◌, ◌↔◌, if◌then◌else◌}
use Rattle.std.proofs.lemmas.Bool.{and_from, and_parts, cases_Bool, cases_lt, cases_order, eq-eqb, le-leb, le-ltb, lt-leb, lt-ltb, ltb-false, ltb-true, ne_eqb, not-true, not_from_false}
use Rattle.std.proofs.lemmas.Option.{none-some, same_Some, slice_get-get_or}
use Rattle.weave_data.proofs.Ends.{by_last}
use Rattle.weave_data.proofs.Entries.{each_last}
use Rattle.weave_data.proofs.Lists.{get-here, length-step}
use Rattle.weave_data.proofs.Members.{any_from, any_has}
use Rattle.weave_data.proofs.Ordered.{pairs_placed}
use Rattle.vector_stamp.specs.declared.clock.Stamp.{Stamp}
use Rattle.weave_entries.specs.declared.session_log.SessionEntry.{SessionEntry}
use Rattle.weave_entries.specs.declared.session_log.SessionDeed.{SessionDeed}
use Rattle.weave_entries.specs.declared.session_log.SessionDeed.TheVariants.{Begun, Replied}
use Rattle.weave_entries.specs.SessionReplay.{FitsSession, IsSessionLog, RepliesToLast, SessionState, begins_in, has_begun_in, has_reply_in, replied_count, replied_in, session_after, session_of}
use Rattle.report_rules.specs.Lookups.{is_some_and}
use Rattle.step_rules.specs.Requests.{waits_before}
use Rattle.weaver_core.specs.Sessions.{IsInTurn, begun_by_last, is_begin_of, is_open_in, last_entry, open_by_last, request_by, standing_of}
use Rattle.weaver_core.specs.declared.client.Standing.TheVariants.{Twice, Early, Next}
use Rattle.step_rules.proofs.SessionTurns.{get-before, at-place, get-take, one-more, requests-same, take-get, waits-begun}

-- the laws of weave_entries on sessions' logs
pub record SessionLaws : Type 0 where
  -- in a session's log, the requests that began are the first of the session's, in their order (`sessions_go_in_turn`)
  pub begun_first : (number : ℕ) (requests : List ℕ) (log : List SessionEntry) → IsSessionLog number requests log → map (λ (begun : ℕ × Stamp). begun.0) (begins_in log) ≡ take (session_of requests log).begun requests
  pub replied_first : (number : ℕ) (requests : List ℕ) (log : List SessionEntry) → IsSessionLog number requests log → replied_in log ≡ take (replied_count (session_of requests log)) requests
  -- the test on begins passes exactly if the session's log begins the request (`begun_and_replied_are_decided`)
  pub begun_tested : (request : ℕ) (log : List SessionEntry) → IsTrue (has_begun_in request log) ↔ Contains (map (λ (begun : ℕ × Stamp). begun.0) (begins_in log)) request
  pub replied_tested : (request : ℕ) (log : List SessionEntry) → IsTrue (has_reply_in request log) ↔ Contains (replied_in log) request

-- Places in a list

-- a member has a place
pub place-of : {A : Type 0} (xs : List A) (x : A) → Contains xs x → (i : ℕ) × (slice_get xs i ≡ Some x)
place-of xs x has = (has.0, slice_get-get_or xs has.0 x has.1 ∙ ap Some has.2)

-- the last of a list with one more
pub last-of : (xs : List SessionEntry) (x : SessionEntry) → last_entry (xs ++ x ∷ []) ≡ Some x
last-of xs x =
    let place : length (xs ++ x ∷ []) - 1 ≡ length xs = omega (arith, length-step xs x) in
    ap (slice_get (xs ++ x ∷ [])) place ∙ get-here xs x []

-- none is the last of none alone
pub none-last : (log : List SessionEntry) → last_entry log ≡ None → log ≡ []
none-last [] none = refl
none-last (x ∷ xs) none =
    let place : length (x ∷ xs) - 1 ≡ length xs = omega arith in
    absurd (none-some _ (sym none ∙ ap (slice_get (x ∷ xs)) place ∙ slice_get-get_or (x ∷ xs) (length xs) x (omega arith)))

-- Numbers that rise

module _ (requests : List ℕ) (rise : AllPairs (λ (a b : ℕ). a < b) requests) where
  -- of two requests the one at the earlier place is less
  pub below : (i j a b : ℕ) → slice_get requests i ≡ Some a → slice_get requests j ≡ Some b → i < j → a < b
  below i j a b at bt less = pairs_placed (λ (x y : ℕ). x < y) requests rise a b (at-place requests i a at) (at-place requests j b bt) less

  -- no request is at two places of a list of requests that rise
  pub one-place : (i j a : ℕ) → slice_get requests i ≡ Some a → slice_get requests j ≡ Some a → i ≡ j
  one-place i j a at bt = elim (cases_order i j) [
    | inl same ↦ same
    | inr (inl less) ↦ absurd (let r = below i j a a at bt less in omega (arith, r))
    | inr (inr more) ↦ absurd (let r = below j i a a bt at more in omega (arith, r))
  ]

-- The state at the end

-- whether a deed begins a request
abbrev pub is_begin : SessionDeed → Bool
is_begin (Begun r stamp) = true
is_begin (Replied r) = false

-- the deed is of the request that was begun last, which waits if the deed begins it
pub record EndsWith (requests : List ℕ) (session : SessionState) (deed : SessionDeed) : Type 0 where
  pub some : 1 ≤ session.begun
  pub at : slice_get requests (session.begun - 1) ≡ Some (request_by deed)
  pub waits : session.waits ≡ is_begin deed

abbrev pub Rule : ℕ → List ℕ → List SessionEntry → SessionEntry → Type 0
Rule number requests before entry = (entry.author ≡ number) × FitsSession (session_of requests before) entry.deed

ends-so : (requests : List ℕ) (log : List SessionEntry) (deed : SessionDeed) → FitsSession (session_of requests log) deed → EndsWith requests (session_after (session_of requests log) deed) deed
ends-so requests log (Begun q stamp) fits =
    let state = session_of requests log in
    let number : state.begun + 1 - 1 ≡ state.begun = omega arith in
    record { some = omega arith; at = ap (slice_get requests) number ∙ ap (λ rs. slice_get rs state.begun) (sym (requests-same requests log)) ∙ fits.next; waits = refl }
ends-so requests log (Replied q) fits =
    let state = session_of requests log in
    record { some = waits-begun requests log fits.waits; at = ap (λ rs. slice_get rs (state.begun - 1)) (sym (requests-same requests log)) ∙ fits.last; waits = refl }

-- this holds with the last entry of a session's log
pub ends-with : (number : ℕ) (requests : List ℕ) (log : List SessionEntry) → IsSessionLog number requests log → (entry : SessionEntry) → last_entry log ≡ Some entry → EndsWith requests (session_of requests log) entry.deed
ends-with number requests =
    by_last (λ log. IsSessionLog number requests log → (entry : SessionEntry) → last_entry log ≡ Some entry → EndsWith requests (session_of requests log) entry.deed)
    (λ right entry is. absurd (none-some entry is))
    (λ xs x so right entry is.
    let fits = each_last (Rule number requests) xs x right in
    let one : x ≡ entry = same_Some x entry (sym (last-of xs x) ∙ is) in
    subst (λ (e : SessionEntry). EndsWith requests (session_of requests (xs ++ x ∷ [])) e.deed) one
    (subst (λ (s : SessionState). EndsWith requests s x.deed) (sym (one-more requests xs x)) (ends-so requests xs x.deed fits.1)))

-- Each request

module _ (laws : SessionLaws) (number : ℕ) (requests : List ℕ) (log : List SessionEntry) (right : IsSessionLog number requests log) (rise : AllPairs (λ (a b : ℕ). a < b) requests) where
  abbrev session : SessionState
  session = session_of requests log

  -- a request has begun exactly if its place is among the first ones
  pub begun-is : (i r : ℕ) → slice_get requests i ≡ Some r → has_begun_in r log ≡ nat_lt i session.begun
  begun-is i r at = elim (cases_lt i session.begun) [
    | inl less ↦ (laws.begun_tested r log).1 (subst (λ rs. Contains rs r) (sym (laws.begun_first number requests log right)) (get-take session.begun requests i r less at)) ∙ sym (lt-ltb i session.begun less)
    | inr over ↦ elim (cases_Bool (has_begun_in r log)) [
      | inl has ↦
          let other = take-get session.begun requests r (subst (λ rs. Contains rs r) (laws.begun_first number requests log right) ((laws.begun_tested r log).0 has)) in
          let less = other.1 in
          let same = one-place requests rise other.0 i r other.2 at in
          absurd (omega (arith, less, same, over))
      | inr none ↦ none ∙ sym (le-ltb i session.begun over)
    ]
  ]

  -- and has its reply exactly if its place is among the first ones that have
  pub reply-is : (i r : ℕ) → slice_get requests i ≡ Some r → has_reply_in r log ≡ nat_lt i (replied_count session)
  reply-is i r at = elim (cases_lt i (replied_count session)) [
    | inl less ↦ (laws.replied_tested r log).1 (subst (λ rs. Contains rs r) (sym (laws.replied_first number requests log right)) (get-take (replied_count session) requests i r less at)) ∙ sym (lt-ltb i (replied_count session) less)
    | inr over ↦ elim (cases_Bool (has_reply_in r log)) [
      | inl has ↦
          let other = take-get (replied_count session) requests r (subst (λ rs. Contains rs r) (laws.replied_first number requests log right) ((laws.replied_tested r log).0 has)) in
          let less = other.1 in
          let same = one-place requests rise other.0 i r other.2 at in
          absurd (omega (arith, less, same, over))
      | inr none ↦ none ∙ sym (le-ltb i (replied_count session) over)
    ]
  ]

  count-waits : (b : Bool) → session.waits ≡ b → replied_count session ≡ (if b then session.begun - 1 else session.begun)
  count-waits b is = ap (λ w. if w then session.begun - 1 else session.begun) is

  -- by the last entry

  module _ (i r : ℕ) (at : slice_get requests i ≡ Some r) where
    begun-at-end : (entry : SessionEntry) → last_entry log ≡ Some entry → has_begun_in r log ≡ nat_le r (request_by entry.deed)
    begun-at-end entry is =
        let ends = ends-with number requests log right entry is in
        let some = ends.some in
        elim (cases_order i (session.begun - 1)) [
          | inl same ↦
              let e : Some r ≡ Some (request_by entry.deed) = sym at ∙ ap (slice_get requests) same ∙ ends.at in
              let one = same_Some r (request_by entry.deed) e in
              begun-is i r at ∙ lt-ltb i session.begun (omega (arith, some, same)) ∙ sym (le-leb r (request_by entry.deed) (omega (arith, one)))
          | inr (inl less) ↦
              let lower = below requests rise i (session.begun - 1) r (request_by entry.deed) at ends.at less in
              begun-is i r at ∙ lt-ltb i session.begun (omega (arith, some, less)) ∙ sym (le-leb r (request_by entry.deed) (omega (arith, lower)))
          | inr (inr more) ↦
              let higher = below requests rise (session.begun - 1) i (request_by entry.deed) r ends.at at more in
              begun-is i r at ∙ le-ltb i session.begun (omega (arith, some, more)) ∙ sym (lt-leb r (request_by entry.deed) higher)
        ]

    -- a request has begun exactly if it is at most that of the last entry
    pub begun-by-last : has_begun_in r log ≡ begun_by_last r log
    begun-by-last = by (last_entry log) refl
      where
        by : (o : Option SessionEntry) → last_entry log ≡ o → has_begun_in r log ≡ begun_by_last r log
        by None is = ap (has_begun_in r) (none-last log is) ∙ sym (ap (begun_by_last r) (none-last log is))
        by (Some entry) is = begun-at-end entry is ∙ sym (ap (λ (o : Option SessionEntry). is_some_and (λ (e : SessionEntry). nat_le r (request_by e.deed)) o) is)

    open-at-end : (author : ℕ) (deed : SessionDeed) → last_entry log ≡ Some (record { author = author; deed = deed }) → is_open_in r log ≡ is_begin_of r deed
    open-at-end author (Begun q stamp) is =
        let ends = ends-with number requests log right (record { author = author; deed = Begun q stamp }) is in
        let some = ends.some in
        let count = count-waits true ends.waits in
        elim (cases_order i (session.begun - 1)) [
          | inl same ↦
              let e : Some q ≡ Some r = sym ends.at ∙ ap (slice_get requests) (sym same) ∙ at in
              let one = same_Some q r e in
              (λ j. (begun-is i r at ∙ lt-ltb i session.begun (omega (arith, some, same))) j && not ((reply-is i r at ∙ le-ltb i (replied_count session) (omega (arith, count, same))) j)) ∙ sym (eq-eqb q r one)
          | inr (inl less) ↦
              let lower = below requests rise i (session.begun - 1) r q at ends.at less in
              (λ j. (begun-is i r at ∙ lt-ltb i session.begun (omega (arith, some, less))) j && not ((reply-is i r at ∙ lt-ltb i (replied_count session) (omega (arith, count, less))) j)) ∙ sym (ne_eqb q r (λ (e : q ≡ r). omega (arith, e, lower)))
          | inr (inr more) ↦
              let higher = below requests rise (session.begun - 1) i q r ends.at at more in
              (λ j. (begun-is i r at ∙ le-ltb i session.begun (omega (arith, some, more))) j && not (has_reply_in r log)) ∙ sym (ne_eqb q r (λ (e : q ≡ r). omega (arith, e, higher)))
        ]
    open-at-end author (Replied q) is =
        let ends = ends-with number requests log right (record { author = author; deed = Replied q }) is in
        let count = count-waits false ends.waits in
        (λ j. begun-is i r at j && not ((reply-is i r at ∙ ap (nat_lt i) count) j)) ∙ never (nat_lt i session.begun)
      where
        never : (b : Bool) → (b && not b) ≡ false
        never true = refl
        never false = refl

    -- and has begun and has no reply exactly if the last entry is its begin
    pub open-by-last : is_open_in r log ≡ open_by_last r log
    open-by-last = by (last_entry log) refl
      where
        by : (o : Option SessionEntry) → last_entry log ≡ o → is_open_in r log ≡ open_by_last r log
        by None is = ap (is_open_in r) (none-last log is) ∙ sym (ap (open_by_last r) (none-last log is))
        by (Some entry) is = open-at-end entry.author entry.deed is ∙ sym (ap (λ (o : Option SessionEntry). is_some_and (λ (e : SessionEntry). is_begin_of r e.deed) o) is)

    -- an open request is the last begun one, which waits for its reply
    pub open-is-last : is_open_in r log ≡ true → RepliesToLast session r
    open-is-last waiting = by session.waits refl
      where
        parts : (has_begun_in r log ≡ true) × (not (has_reply_in r log) ≡ true)
        parts = and_parts (has_begun_in r log) (not (has_reply_in r log)) waiting

        before : i < session.begun
        before = ltb-true i session.begun (sym (begun-is i r at) ∙ parts.0)

        after : replied_count session ≤ i
        after = ltb-false i (replied_count session) (sym (reply-is i r at) ∙ not-true (has_reply_in r log) parts.1)

        by : (b : Bool) → session.waits ≡ b → RepliesToLast session r
        by true waits =
            let count = count-waits true waits in
            let less = before in
            let over = after in
            let index : session.begun - 1 ≡ i = omega (arith, count, less, over) in
            record { waits = waits; last = ap (λ rs. slice_get rs (session.begun - 1)) (requests-same requests log) ∙ ap (slice_get requests) index ∙ at }
        by false waits = absurd (let count = count-waits false waits in let less = before in let over = after in omega (arith, count, less, over))

    -- Standing

    -- the next request of a session in which none waits has no earlier one without a reply
    pub next-is-free : IsInTurn session r → waits_before r requests log ≡ false
    next-is-free turn = elim (cases_Bool (waits_before r requests log)) [
      | inl waits ↦
          let one = any_has (λ earlier. nat_lt earlier r && not (has_reply_in earlier log)) requests waits in
          let both = and_parts (nat_lt one.0 r) (not (has_reply_in one.0 log)) one.2 in
          let place = place-of requests one.0 one.1 in
          let count = count-waits false turn.replied in
          let next : slice_get requests session.begun ≡ Some r = sym (ap (λ rs. slice_get rs session.begun) (requests-same requests log)) ∙ turn.next in
          let over = ltb-false place.0 (replied_count session) (sym (reply-is place.0 one.0 place.1) ∙ not-true (has_reply_in one.0 log) both.1) in
          let lower = ltb-true one.0 r both.0 in
          absurd (elim (cases_order place.0 session.begun) [
            | inl same ↦ (let e : Some one.0 ≡ Some r = sym place.1 ∙ ap (slice_get requests) same ∙ next in let is = same_Some one.0 r e in omega (arith, is, lower))
            | inr (inl less) ↦ omega (arith, less, count, over)
            | inr (inr more) ↦ (let higher = below requests rise session.begun place.0 r one.0 next place.1 more in omega (arith, higher, lower))
          ])
      | inr free ↦ free
    ]

    -- one that has not begun and is not next has one
    pub other-waits : has_begun_in r log ≡ false → (IsInTurn session r → ⊥) → waits_before r requests log ≡ true
    other-waits new not-next =
        let over = ltb-false i session.begun (sym (begun-is i r at) ∙ new) in
        by session.waits refl over
      where
        -- the request at this earlier place has no reply
        from : (j : ℕ) → j < i → replied_count session ≤ j → waits_before r requests log ≡ true
        from j less none =
            let one = get-before requests i j r at less in
            let lower = below requests rise j i one.0 r one.1 at less in
            let no-reply = reply-is j one.0 one.1 ∙ le-ltb j (replied_count session) none in
            any_from (λ earlier. nat_lt earlier r && not (has_reply_in earlier log)) requests one.0 (at-place requests j one.0 one.1) (and_from (nat_lt one.0 r) (not (has_reply_in one.0 log)) (lt-ltb one.0 r lower) (not_from_false (has_reply_in one.0 log) no-reply))

        by : (b : Bool) → session.waits ≡ b → session.begun ≤ i → waits_before r requests log ≡ true
        by true waits over =
            let count = count-waits true waits in
            let some = waits-begun requests log waits in
            from (session.begun - 1) (omega (arith, some, over)) (omega (arith, count))
        by false waits over = elim (cases_order session.begun i) [
          | inl same ↦ absurd (not-next (record { replied = waits; next = ap (λ rs. slice_get rs session.begun) (requests-same requests log) ∙ ap (slice_get requests) same ∙ at }))
          | inr (inl less) ↦ (let count = count-waits false waits in from session.begun less (omega (arith, count)))
          | inr (inr more) ↦ absurd (omega (arith, more, over))
        ]

    -- a request that has begun would begin twice
    pub stands-twice : has_begun_in r log ≡ true → Twice ≡ standing_of r requests log
    stands-twice has = sym (ap (λ (t : Bool). if t then Twice else (if waits_before r requests log then Early else Next)) has)

    -- one that has not begun, and comes next while none waits, is the next one
    pub stands-next : has_begun_in r log ≡ false → IsInTurn session r → Next ≡ standing_of r requests log
    stands-next new turn = sym (ap (λ (t : Bool). if t then Twice else (if waits_before r requests log then Early else Next)) new ∙ ap (λ (t : Bool). if t then Early else Next) (next-is-free turn))

    -- a request that has not begun, and isn't next in its session, is early
    pub stands-early : has_begun_in r log ≡ false → (IsInTurn session r → ⊥) → Early ≡ standing_of r requests log
    stands-early new not-next = sym (ap (λ (t : Bool). if t then Twice else (if waits_before r requests log then Early else Next)) new ∙ ap (λ (t : Bool). if t then Early else Next) (other-waits new not-next))
