-- The stamp that a request hears is the last one in its session's log, if the request is the next one there. The first
-- request of a session has none before it, and each other one has the one at the place before its own.
-- Used by `last_stamps_are_those_of_sessions` and crate workers_account.
use Rattle.std.proofs.Common.{◌≡◌, ◌≢◌, ℕ, zero, suc, ◌+◌, ◌<◌, ◌==◌, Bool, true, false, cond, List, [], ◌∷◌, ◌++◌, length, map, take, drop, reverse, Contains, AllPairs, IsTrue, Option, Some, None, ◌⊎◌, inl, inr, refl, sym, ap, subst, ◌∙◌, append_assoc, arith}
use Rattle.std.specs.Prelude.{slice_get}
use Rattle.std.specs.List.{filter, find, range_with_len}
use Rattle.std.specs.Option.{option_and_then, option_map}
use Rattle.std.proofs.lemmas.Bool.{cases_order, eq-eqb, eqb-true}
use Rattle.std.proofs.lemmas.List.{append-nil, length-append, reverse-append, take-append-drop}
use Rattle.std.proofs.lemmas.List.Concat.{flat_map-append}
use Rattle.std.proofs.lemmas.List.Elements.{Contains-append_left, filter-append, filter_agree}
use Rattle.std.proofs.lemmas.List.Sums.{fold-append}
use Rattle.std.proofs.lemmas.Option.{get_or_from_slice_get, slice_get_within}
use Rattle.weave_data.proofs.Ends.{by_last, flat_push}
use Rattle.weave_data.proofs.Entries.{each_before, each_last}
use Rattle.weave_data.proofs.Images.{get-has}
use Rattle.weave_data.proofs.Lists.{get-here}
use Rattle.weave_data.proofs.Members.{filter_has, has_last, has_map}
use Rattle.weave_data.proofs.Ordered.{find_by_key, pairs_cons, pairs_front, pairs_head, pairs_none, pairs_tail}
use Rattle.weave_data.proofs.Ranges.{range_more}
use Rattle.vector_stamp.specs.declared.clock.Stamp.{Stamp}
use Rattle.program_defs.specs.declared.script.Request.{Request}
use Rattle.program_defs.specs.declared.script.Script.{Script}
use Rattle.report_rules.specs.Lookups.{are_both, is_some_and, request_at, same_session}
use Rattle.weave_entries.specs.declared.session_log.SessionEntry.{SessionEntry}
use Rattle.weave_entries.specs.declared.session_log.SessionDeed.{SessionDeed}
use Rattle.weave_entries.specs.declared.session_log.SessionDeed.TheVariants.{Begun, Replied}
use Rattle.weave_entries.specs.SessionReplay.{FitsSession, IsSessionLog, SessionState, begin_by, begins_in, next_request, session_after, session_of, session_stamp_of, session_start}
use Rattle.weave_account.specs.declared.account.Account.{Account}
use Rattle.weave_account.specs.Account.{session_log, stamp_of}
use Rattle.weave_account.specs.Gatekeepers.{last_stamp, request_before}
use Rattle.weave_account.specs.GoesOn.{IsBeginningOf}
use Rattle.weave_account.specs.Sessions.{SessionsClause, requests_of_session}
use Rattle.hands_account.specs.LowerLaws.{LawsForHands}
use Rattle.hands_account.proofs.Places.{less-or}
use Rattle.weave_account.proofs.InSession.{NoneBegun, SomeBegun, last-any}

-- Lists

-- a list is empty, or has a last element
ends : {A : Type 0} (xs : List A) → (xs ≡ []) ⊎ ((front : List A) × (last : A) × (xs ≡ front ++ last ∷ []))
ends [] = inl refl
ends (x ∷ xs) =
    elim (ends xs) [
      | inl none ↦ inr ([], x, ap (λ l. x ∷ l) none)
      | inr more ↦ inr (x ∷ more.0, more.1, ap (λ l. x ∷ l) more.2)
    ]

-- any number passes
abbrev any : ℕ → Bool
any n = true

-- the last one that passes is the last of those that pass
find-last : (p : ℕ → Bool) (xs : List ℕ) → find p (reverse xs) ≡ find any (reverse (filter p xs))
find-last p =
    by_last (λ xs. find p (reverse xs) ≡ find any (reverse (filter p xs))) refl (λ xs x so_far.
    ap (find p) (reverse-append xs (x ∷ []))
    ∙ at (filter p xs) x (find p (reverse xs)) so_far (p x)
    ∙ ap (λ l. find any (reverse l)) (sym (filter-append p xs (x ∷ []))))
  where
    at : (kept : List ℕ) (x : ℕ) (found : Option ℕ) → found ≡ find any (reverse kept) → (b : Bool)
        → cond b (Some x) found ≡ find any (reverse (kept ++ cond b (x ∷ []) []))
    at kept x found same true = ap (find any) (sym (reverse-append kept (x ∷ [])))
    at kept x found same false = same ∙ ap (λ l. find any (reverse l)) (sym (append-nil kept))

-- the numbers in a row, cut at one of them
range-split : (n r : ℕ) → r < n → (rest : List ℕ) × (range_with_len 0 n ≡ range_with_len 0 r ++ r ∷ rest)
range-split zero r less = absurd (omega (arith, less))
range-split (suc n) r less =
    elim (less-or r n) [
      | inl under ↦ (let so_far = range-split n r under in (
        so_far.0 ++ (0 + n) ∷ [],
        range_more 0 n ∙ ap (λ l. l ++ (0 + n) ∷ []) so_far.1 ∙ append_assoc (range_with_len 0 r) (r ∷ so_far.0) ((0 + n) ∷ []),
      ))
      | inr over ↦ (let same : n ≡ r = omega (arith, less, over) in
          let last : 0 + n ≡ r = omega (arith, same) in
          ([], range_more 0 n ∙ ap (λ k. range_with_len 0 n ++ k ∷ []) last ∙ ap (λ k. range_with_len 0 k ++ r ∷ []) same))
    ]

-- in a list that rises a number has one place
one-place : (xs : List ℕ) → AllPairs (λ (a b : ℕ). a < b) xs → (i j r : ℕ) → slice_get xs i ≡ Some r → slice_get xs j ≡ Some r → i ≡ j
one-place xs rise i j r at_i at_j =
    elim (cases_order i j) [
      | inl same ↦ same
      | inr (inl less) ↦ absurd (differ i j less at_i at_j)
      | inr (inr more) ↦ absurd (differ j i more at_j at_i)
    ]
  where
    differ : (i j : ℕ) → i < j → slice_get xs i ≡ Some r → slice_get xs j ≡ Some r → ⊥
    differ i j less at_i at_j =
        let risen = rise i j 0 less (slice_get_within xs j r at_j) in
        let first = get_or_from_slice_get xs i r 0 at_i in
        let second = get_or_from_slice_get xs j r 0 at_j in
        omega (arith, risen, first, second)

-- what is said of two images is said of the elements
image-pairs : {A B : Type 0} (f : A → B) (R : B → B → Type 0) (S : A → A → Type 0) → ((a b : A) → R (f a) (f b) → S a b)
    → (xs : List A) → AllPairs R (map f xs) → AllPairs S xs
image-pairs f R S says [] pairs = pairs_none S
image-pairs f R S says (x ∷ xs) pairs =
    pairs_cons S x xs (λ y h. says x y (pairs_head R (f x) (map f xs) (f y) pairs (has_map f xs y h)))
    (image-pairs f R S says xs (pairs_tail R (f x) (map f xs) pairs))

-- The request before

module _ (laws : LawsForHands) (script : Script) (r : ℕ) (request : Request) (at : request_at script r ≡ Some request) where
  -- the requests of its session
  abbrev all : List ℕ
  all = requests_of_session script request.session

  -- whether a request is of its session
  abbrev is-one : ℕ → Bool
  is-one n = is_some_and (λ (other : Request). other.session == request.session) (request_at script n)

  -- those before it
  abbrev earlier : List ℕ
  earlier = filter is-one (range_with_len 0 r)

  same-test : (n : ℕ) → same_session script n r ≡ is-one n
  same-test n = of (request_at script n)
    where
      of : (found : Option Request) → are_both (λ (x : Request) (y : Request). x.session == y.session) found (request_at script r)
          ≡ is_some_and (λ (other : Request). other.session == request.session) found
      of None = ap (are_both (λ (x : Request) (y : Request). x.session == y.session) None) at
      of (Some other) = ap (are_both (λ (x : Request) (y : Request). x.session == y.session) (Some other)) at

  before-is : request_before script r ≡ find any (reverse earlier)
  before-is =
      find-last (λ other. same_session script other r) (range_with_len 0 r)
      ∙ ap (λ l. find any (reverse l)) (filter_agree (λ other. same_session script other r) is-one same-test (range_with_len 0 r))

  split : (rest : List ℕ) × (all ≡ earlier ++ r ∷ rest)
  split =
      let rest = range-split (length script.requests) r (slice_get_within script.requests r request at) in
      let own : is-one r ≡ true =
      ap (is_some_and (λ (other : Request). other.session == request.session)) at ∙ eq-eqb request.session request.session refl in (
        filter is-one rest.0,
        ap (filter is-one) rest.1 ∙ filter-append is-one (range_with_len 0 r) (r ∷ rest.0)
            ∙ ap (λ b. earlier ++ cond b (r ∷ filter is-one rest.0) (filter is-one rest.0)) own,
      )

  its-place : (n : ℕ) → slice_get all n ≡ Some r → n ≡ length earlier
  its-place n here =
      one-place all (laws.rise script request.session) n (length earlier) r here
      (ap (λ l. slice_get l (length earlier)) split.1 ∙ get-here earlier r split.0)

  first-one : slice_get all 0 ≡ Some r → request_before script r ≡ None
  first-one here =
      elim (ends earlier) [
        | inl none ↦ before-is ∙ ap (λ l. find any (reverse l)) none
        | inr some ↦
            absurd (let place = its-place 0 here in let many = ap length some.2 ∙ length-append some.0 (some.1 ∷ []) in omega (arith, place, many))
      ]

  next-one : (q n : ℕ) → slice_get all n ≡ Some q → slice_get all (suc n) ≡ Some r → request_before script r ≡ Some q
  next-one q n there here =
      elim (ends earlier) [
        | inl none ↦ absurd (let place = its-place (suc n) here in let many = ap length none in omega (arith, place, many))
        | inr some ↦
            let place = its-place (suc n) here in
            let many = ap length some.2 ∙ length-append some.0 (some.1 ∷ []) in
            let same : n ≡ length some.0 = omega (arith, place, many) in
            let whole : all ≡ some.0 ++ some.1 ∷ (r ∷ split.0) =
            split.1 ∙ ap (λ l. l ++ r ∷ split.0) some.2 ∙ append_assoc some.0 (some.1 ∷ []) (r ∷ split.0) in
            let last : Some q ≡ Some some.1 =
            sym there ∙ ap (slice_get all) same ∙ ap (λ l. slice_get l (length some.0)) whole ∙ get-here some.0 some.1 (r ∷ split.0) in
            before-is ∙ ap (λ l. find any (reverse l)) some.2 ∙ ap (find any) (reverse-append some.0 (some.1 ∷ [])) ∙ sym last
      ]

-- What was begun last

-- the state of a session after these begins
abbrev pub IsAfter : List ℕ → SessionState → List (ℕ × Stamp) → Type 0
IsAfter requests state begins = (state.requests ≡ requests) × (NoneBegun state ⊎ SomeBegun requests state begins)

last-step : (requests : List ℕ) (state : SessionState) (begins : List (ℕ × Stamp)) (deed : SessionDeed) → FitsSession state deed
    → IsAfter requests state begins → IsAfter requests (session_after state deed) (begins ++ begin_by deed)
last-step requests state begins (Begun r stamp) fits (same, so_far) = (
  same,
  inr (record {
    place = state.begun;
    request = r;
    stamp = stamp;
    begun-is = omega arith;
    at = ap (λ rs. slice_get rs state.begun) (sym same) ∙ fits.next;
    last-is = refl;
    there = has_last begins (r, stamp);
  }),
)
last-step requests state begins (Replied r) fits (same, inl none) = (same, inl (record { begun-is = none.begun-is; last-is = none.last-is }))
last-step requests state begins (Replied r) fits (same, inr some) = (
  same,
  inr (record {
    place = some.place;
    request = some.request;
    stamp = some.stamp;
    begun-is = some.begun-is;
    at = some.at;
    last-is = some.last-is;
    there = Contains-append_left begins [] (some.request, some.stamp) some.there;
  }),
)

-- after a session's log nothing was begun, or the request begun last has its place there and its stamp
pub last-begun : (number : ℕ) (requests : List ℕ) (log : List SessionEntry) → IsSessionLog number requests log
    → IsAfter requests (session_of requests log) (begins_in log)
last-begun number requests =
    by_last (λ log. IsSessionLog number requests log → IsAfter requests (session_of requests log) (begins_in log))
    (λ each. (refl, inl (record { begun-is = refl; last-is = refl })))
    (λ log entry so_far each.
    let rule = λ (before : List SessionEntry) (e : SessionEntry). (e.author ≡ number) × FitsSession (session_of requests before) e.deed in
    let fits = each_last rule log entry each in
    subst (λ (s : SessionState). IsAfter requests s (begins_in (log ++ entry ∷ [])))
    (sym (fold-append (λ session (e : SessionEntry). session_after session e.deed) (session_start requests) log (entry ∷ [])))
    (subst (IsAfter requests (session_after (session_of requests log) entry.deed)) (sym (flat_push (λ (e : SessionEntry). begin_by e.deed) log entry))
    (last-step requests (session_of requests log) (begins_in log) entry.deed fits.1 (so_far (each_before rule log (entry ∷ []) each)))))

-- In all logs

-- one of a session's requests is in the script
its-request : (script : Script) (session q n : ℕ) → slice_get (requests_of_session script session) n ≡ Some q
    → (request : Request) × (request_at script q ≡ Some request) × (request.session ≡ session)
its-request script session q n at =
    let test = λ (r : ℕ). is_some_and (λ (request : Request). request.session == session) (request_at script r) in
    of (request_at script q) refl (filter_has test (range_with_len 0 (length script.requests)) q (get-has (requests_of_session script session) n q at)).1
  where
    of : (found : Option Request) → request_at script q ≡ found → IsTrue (is_some_and (λ (request : Request). request.session == session) found)
        → (request : Request) × (request_at script q ≡ Some request) × (request.session ≡ session)
    of None there own = absurd cc
    of (Some request) there own = (request, there, eqb-true request.session session own)

module _ (laws : LawsForHands) (script : Script) (account : Account) (sessions : SessionsClause script account) where
  -- a begin of a session's log, also of its beginning, has the request's stamp
  stamp-there : (session : ℕ) (log : List SessionEntry) → IsBeginningOf log (session_log account session) → (q : ℕ) (stamp : Stamp)
      → Contains (begins_in log) (q, stamp) → session_stamp_of q (session_log account session) ≡ Some stamp
  stamp-there session log on q stamp h =
      let whole = session_log account session in
      let requests = requests_of_session script session in
      let parts : begins_in whole ≡ begins_in log ++ begins_in on.0 =
      ap begins_in on.1 ∙ flat_map-append (λ (e : SessionEntry). begin_by e.deed) log on.0 in
      let there : Contains (begins_in whole) (q, stamp) = subst (λ l. Contains l (q, stamp)) (sym parts) (Contains-append_left (begins_in log) (begins_in on.0) (q, stamp) h) in
      let n = (session_of requests whole).begun in
      let rise = pairs_front (λ (a b : ℕ). a < b) (take n requests) (drop n requests)
      (subst (AllPairs (λ (a b : ℕ). a < b)) (sym (take-append-drop n requests)) (laws.rise script session)) in
      let first = laws.first_begun session requests whole (sessions.logs session) in
      let differ = image-pairs (λ (b : ℕ × Stamp). b.0) (λ (a b : ℕ). a < b) (λ (a b : ℕ × Stamp). a.0 ≢ b.0)
      (λ a b less same. omega (arith, less, same)) (begins_in whole) (subst (AllPairs (λ (a b : ℕ). a < b)) (sym first) rise) in
      ap (option_map (λ (b : ℕ × Stamp). b.1)) (find_by_key (λ (b : ℕ × Stamp). b.0) (begins_in whole) (q, stamp) differ there)

  -- the next request of a session's log, as it was at some time, hears what that log had begun last
  pub last-heard : (r : ℕ) (request : Request) → request_at script r ≡ Some request → (log : List SessionEntry)
      → IsBeginningOf log (session_log account request.session)
      → next_request (session_of (requests_of_session script request.session) log) ≡ Some r
      → last_stamp script account r ≡ (session_of [] log).last
  last-heard r request at log on next = by state.1
    where
      state : IsAfter (requests_of_session script request.session) (session_of (requests_of_session script request.session) log) (begins_in log)
      state =
          last-begun request.session (requests_of_session script request.session) log
          (each_before (λ before (e : SessionEntry). (e.author ≡ request.session)
          × FitsSession (session_of (requests_of_session script request.session) before) e.deed) log on.0
          (subst (IsSessionLog request.session (requests_of_session script request.session)) on.1 (sessions.logs request.session)))

      here : slice_get (requests_of_session script request.session) (session_of (requests_of_session script request.session) log).begun ≡ Some r
      here = ap (λ l. slice_get l (session_of (requests_of_session script request.session) log).begun) (sym state.0) ∙ next

      by : NoneBegun (session_of (requests_of_session script request.session) log)
          ⊎ SomeBegun (requests_of_session script request.session) (session_of (requests_of_session script request.session) log) (begins_in log)
          → last_stamp script account r ≡ (session_of [] log).last
      by (inl none) =
          ap (option_and_then (stamp_of account))
          (first-one laws script r request at (ap (slice_get (requests_of_session script request.session)) (sym none.begun-is) ∙ here))
          ∙ sym none.last-is ∙ last-any (requests_of_session script request.session) [] log
      by (inr some) =
          let before = next-one laws script r request at some.request some.place some.at
          (ap (slice_get (requests_of_session script request.session)) (sym some.begun-is) ∙ here) in
          let one = its-request script request.session some.request some.place some.at in
          ap (option_and_then (stamp_of account)) before
          ∙ sym (sessions.stamps some.request one.0 one.1)
          ∙ ap (λ s. session_stamp_of some.request (session_log account s)) one.2
          ∙ stamp-there request.session log on some.request some.stamp some.there
          ∙ sym some.last-is ∙ last-any (requests_of_session script request.session) [] log
