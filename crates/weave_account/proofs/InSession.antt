-- What a session's log says with the other logs: what was begun last, the request that comes next, and that a request
-- which a later one of its session follows has its reply.
-- Used by `judgements_are_of_requests`, `requests_end_or_go_on`, `sessions_follow_gatekeepers`, BegunElsewhere,
-- OpenRequests and crates hands_account, sessions_account, weaver_core and workers_account.
use Rattle.std.proofs.Common.{◌≡◌, ◌≢◌, ℕ, zero, suc, ◌<◌, ◌==◌, Bool, true, false, List, [], ◌∷◌, ◌++◌, length, take, Contains, IsTrue, Option, None, Some, ◌⊎◌, inl, inr, refl, sym, ap, subst, ◌∙◌, arith}
use Rattle.std.specs.Prelude.{◌-◌, cond, not, slice_get, reverse}
use Rattle.std.specs.List.{filter, range_with_len}
use Rattle.std.specs.Option.{option_and_then}
use Rattle.std.proofs.lemmas.Bool.{cases_order}
use Rattle.std.proofs.lemmas.List.Elements.{Contains-append_left}
use Rattle.std.proofs.lemmas.List.Sums.{fold-append}
use Rattle.std.proofs.lemmas.Option.{get_or_from_slice_get, slice_get_within, slice_get-get_or}
use Rattle.weave_data.proofs.Ends.{by_last, flat_push}
use Rattle.weave_data.proofs.Entries.{each_before, each_last}
use Rattle.weave_data.proofs.Members.{filter_has, find_has, has_filter, has_last, has_map, map_has}
use Rattle.vector_stamp.specs.declared.clock.Stamp.{Stamp}
use Rattle.program_defs.specs.declared.script.Request.{Request}
use Rattle.program_defs.specs.declared.script.Script.{Script}
use Rattle.program_defs.specs.Works.{is_change}
use Rattle.weave_entries.specs.declared.session_log.SessionEntry.{SessionEntry}
use Rattle.weave_entries.specs.declared.session_log.SessionDeed.{SessionDeed}
use Rattle.weave_entries.specs.declared.session_log.SessionDeed.TheVariants.{Begun as SessionBegun, Replied}
use Rattle.weave_entries.specs.GateReplay.{BegunRequest, begun_in, flight_of, has_ended_in}
use Rattle.weave_entries.specs.SessionReplay.{SessionState, FitsSession, IsSessionLog, begin_by, begins_in, has_begun_in, has_reply_in, next_request, replied_count, session_after, session_of, session_start}
use Rattle.weave_entries.specs.StoreReplay.{Judgement, judgements_of}
use Rattle.report_rules.specs.Lookups.{are_both, is_in, is_some_and, request_at, same_session}
use Rattle.weave_account.specs.declared.account.Account.{Account}
use Rattle.weave_account.specs.Account.{gate_log, session_log, stamp_of}
use Rattle.weave_account.specs.Gatekeepers.{last_stamp, request_before}
use Rattle.weave_account.specs.Sessions.{requests_of_session}
use Rattle.weave_account.specs.Store.{InTurn}
use Rattle.weave_account.proofs.Basis.{Basis}
use Rattle.weave_account.proofs.Beginning.{begun-stamp}
use Rattle.weave_data.proofs.Images.{flat-has, last-none}
use Rattle.weave_data.proofs.Numbers.{has-in, in-has, IsSorted, in-cases, in-head, in-tail, sorted-filter}
use Rattle.weave_account.proofs.Ordering.{up-to-last}
use Rattle.weave_account.proofs.PhaseOrder.{replied-ended}
use Rattle.weave_account.proofs.PlacedPairs.{judged-begun}
use Rattle.weave_account.proofs.Ready.{has-range, range-pairs}
use Rattle.weave_account.proofs.RepliesClause.{begin-of}
use Rattle.weave_account.proofs.Replying.{place-of}
use Rattle.weave_account.proofs.Requests.{among-session, before-earlier, begun-gate, change-begun, flies-still, pairs-filter, requests-rise, sent-or-flies}
use Rattle.weave_account.specs.LowerLaws.{LawsForAccounts}
use Rattle.weave_account.proofs.Sessions.{both-there, found, range-sorted, same-requests, session-begun}

-- The first requests

-- what is before one of the first n + 1 of a rising list is one of the first n
one-open : (xs : List ℕ) (n a b : ℕ) → IsSorted (λ x y. x < y) xs → IsTrue (is_in a xs) → IsTrue (is_in b (take (suc n) xs))
    → a < b → IsTrue (is_in a (take n xs))
one-open [] n a b rising in-a in-b less = cc
one-open (x ∷ xs) zero a b rising in-a in-b less =
    elim (in-cases b x [] in-b) [
      | inr none ↦ cc
      | inl first ↦ elim (in-cases a x xs in-a) [
        | inl same ↦ absurd (omega (arith, first, same, less))
        | inr later ↦ absurd (let more = rising.0 a later in omega (arith, first, more, less))
      ]
    ]
one-open (x ∷ xs) (suc n) a b rising in-a in-b less =
    elim (in-cases a x xs in-a) [
      | inl same ↦ subst (λ k. IsTrue (is_in k (x ∷ take n xs))) (sym same) (in-head x (take n xs))
      | inr later ↦ elim (in-cases b x (take (suc n) xs) in-b) [
        | inl first ↦ absurd (let more = rising.0 a later in omega (arith, first, more, less))
        | inr more ↦ in-tail a x (take n xs) (one-open xs n a b rising.1 later more less)
      ]
    ]

one-less : (n : ℕ) → n ≡ suc n - 1
one-less n = omega arith

-- the first n are among the first n + 1
one-more-in : (xs : List ℕ) (n a : ℕ) → IsTrue (is_in a (take n xs)) → IsTrue (is_in a (take (suc n) xs))
one-more-in [] zero a h = cc
one-more-in [] (suc n) a h = h
one-more-in (x ∷ xs) zero a h = cc
one-more-in (x ∷ xs) (suc n) a h = elim (in-cases a x (take n xs) h) [
  | inl same ↦ subst (λ k. IsTrue (is_in k (x ∷ take (suc n) xs))) (sym same) (in-head x (take (suc n) xs))
  | inr more ↦ in-tail a x (take (suc n) xs) (one-more-in xs n a more)
]

module _ (script : Script) (account : Account) (basis : Basis script account) where
  -- what was begun, and has its reply, are the first requests of the session
  begun-taken : (session r : ℕ) → IsTrue (has_begun_in r (session_log account session))
      → IsTrue (is_in r (take (session_of (requests_of_session script session) (session_log account session)).begun (requests_of_session script session)))
  begun-taken session r begun =
      in-has _ r (subst (λ rs. Contains rs r) (basis.laws.session_begins session (requests_of_session script session) (session_log account session) (basis.is.sessions.logs session)) ((basis.laws.begun_tested r (session_log account session)).0 begun))

  replied-from : (session r : ℕ)
      → IsTrue (is_in r (take (replied_count (session_of (requests_of_session script session) (session_log account session))) (requests_of_session script session)))
      → IsTrue (has_reply_in r (session_log account session))
  replied-from session r taken =
      (basis.laws.reply_tested r (session_log account session)).1
      (subst (λ rs. Contains rs r) (sym (basis.laws.session_replies session (requests_of_session script session) (session_log account session) (basis.is.sessions.logs session))) (has-in _ r taken))

  -- a request that a later one of its session follows has its reply
  pub replied-before : (session a b : ℕ) → Contains (requests_of_session script session) a → a < b
      → IsTrue (has_begun_in b (session_log account session)) → IsTrue (has_reply_in a (session_log account session))
  replied-before session a b in-a less begun =
      let requests = requests_of_session script session in
      let state = session_of requests (session_log account session) in
      let rising : IsSorted (λ x y. x < y) requests =
      sorted-filter (λ x y. x < y) _ (range_with_len 0 (length script.requests)) (range-sorted 0 (length script.requests)) in
      replied-from session a (at state.waits state.begun rising (begun-taken session b begun))
    where
      at : (waits : Bool) (n : ℕ) → IsSorted (λ x y. x < y) (requests_of_session script session)
          → IsTrue (is_in b (take n (requests_of_session script session)))
          → IsTrue (is_in a (take (cond waits (n - 1) n) (requests_of_session script session)))
      at waits zero rising in-b = cc
      at true (suc n) rising in-b =
          subst (λ k. IsTrue (is_in a (take k (requests_of_session script session)))) (one-less n)
          (one-open (requests_of_session script session) n a b rising (in-has _ a in-a) in-b less)
      at false (suc n) rising in-b =
          one-more-in (requests_of_session script session) n a
          (one-open (requests_of_session script session) n a b rising (in-has _ a in-a) in-b less)

  -- a begun request is begun in its session's log
  pub begun-in-session : (r : ℕ) (request : Request) (stamp : Stamp) → request_at script r ≡ Some request
      → stamp_of account r ≡ Some stamp → IsTrue (has_begun_in r (session_log account request.session))
  begun-in-session r request stamp there is =
      (basis.laws.begun_tested r (session_log account request.session)).1
      (has_map (λ (p : ℕ × Stamp). p.0) (begins_in (session_log account request.session)) (r, stamp) (found (begins_in (session_log account request.session)) r stamp (basis.is.sessions.stamps r request there ∙ is)))

  -- what was judged of a session comes before what is in flight of it
  pub judged-before : (home : ℕ) (flight : BegunRequest) → flight_of (gate_log account home) ≡ Some flight → (judged : Judgement)
      → Contains (judgements_of account.store) judged → judged.request ≢ flight.request
      → InTurn script judged.request flight.request
  judged-before home flight flies judged h other same =
      elim (cases_order judged.request flight.request) [
        | inl is ↦ absurd (other is)
        | inr (inl less) ↦ less
        | inr (inr more) ↦ absurd (late more)
      ]
    where
      late : flight.request < judged.request → ⊥
      late less =
          let both = both-there (request_at script judged.request) (request_at script flight.request) same in
          let b = judged-begun script account basis judged h in
          let stamp : stamp_of account judged.request ≡ Some (b.0).stamp =
          subst (λ r. stamp_of account r ≡ Some (b.0).stamp) b.2 (begun-stamp account basis.is.gatekeepers.once b.0 b.1) in
          let begun = begun-in-session judged.request both.0 (b.0).stamp both.2 stamp in
          let in-session : Contains (requests_of_session script (both.0).session) flight.request =
          subst (λ s. Contains (requests_of_session script s) flight.request) (sym both.4) (among-session script flight.request both.1 both.3) in
          let replied = replied-before (both.0).session flight.request judged.request in-session less begun in
          let ended = replied-ended script account basis flight.request (both.0).session replied in
          flies-still script account basis home flight flies (has-in _ flight.request ended)

  -- a transaction that has begun was sent unless it is in flight
  pub sent-unless : (r : ℕ) (request : Request) → request_at script r ≡ Some request → IsTrue (is_change request.work)
      → IsTrue (has_begun_in r (session_log account request.session))
      → has_ended_in r (gate_log account request.gate) ≡ not (is_some_and (λ (flight : BegunRequest). flight.request == r) (flight_of (gate_log account request.gate)))
  sent-unless r request there change begun =
      let log = session_log account request.session in
      let from = map_has (λ (p : ℕ × Stamp). p.0) (begins_in log) r ((basis.laws.begun_tested r log).0 begun) in
      let stamp : stamp_of account r ≡ Some (from.0).1 =
      subst (λ q. stamp_of account q ≡ Some (from.0).1) from.2 (session-begun script account basis request.session (from.0).0 (from.0).1 from.1) in
      let b = begin-of script account basis r (from.0).1 stamp in
      let gate = flat-has begun_in account.gates b.0 b.1 in
      let home = place-of account.gates gate.0 gate.1.0 in
      let here : Contains (begun_in (gate_log account home.0)) b.0 = subst (λ l. Contains (begun_in l) b.0) (sym home.1) gate.1.1 in
      let request-is : request_at script (b.0).request ≡ Some request = ap (request_at script) b.2 ∙ there in
      let own : request.gate ≡ home.0 = begun-gate script account basis home.0 b.0 here request request-is in
      let tx = change-begun script account basis home.0 b.0 here request request-is change in
      subst (λ g. has_ended_in r (gate_log account g) ≡ not (is_some_and (λ (flight : BegunRequest). flight.request == r) (flight_of (gate_log account g))))
      (sym own)
      (subst (λ q. has_ended_in q (gate_log account home.0) ≡ not (is_some_and (λ (flight : BegunRequest). flight.request == q) (flight_of (gate_log account home.0)))) b.2 (sent-or-flies script account basis home.0 b.0 tx))

-- What was begun last

-- nothing was begun
pub record NoneBegun (state : SessionState) : Type 0 where
  pub begun-is : state.begun ≡ 0
  pub last-is : state.last ≡ None

-- something was begun: at the last place so far, with the last stamp
pub record SomeBegun (requests : List ℕ) (state : SessionState) (begins : List (ℕ × Stamp)) : Type 0 where
  pub place : ℕ
  pub request : ℕ
  pub stamp : Stamp
  pub begun-is : state.begun ≡ suc place
  pub at : slice_get requests place ≡ Some request
  pub last-is : state.last ≡ Some stamp
  pub there : Contains begins (request, stamp)

abbrev after : List ℕ → SessionState → List (ℕ × Stamp) → Type 0
after requests state begins = NoneBegun state ⊎ SomeBegun requests state begins

-- the last stamp doesn't depend on the session's requests
pub last-any : (requests others : List ℕ) (log : List SessionEntry)
    → (session_of requests log).last ≡ (session_of others log).last
last-any requests others =
    by_last (λ log. (session_of requests log).last ≡ (session_of others log).last) refl
    (λ log entry so-far.
    ap (λ (s : SessionState). s.last) (fold-append (λ session (e : SessionEntry). session_after session e.deed) (session_start requests) log (entry ∷ []))
    ∙ by-deed (session_of requests log) (session_of others log) entry.deed so-far
    ∙ ap (λ (s : SessionState). s.last) (sym (fold-append (λ session (e : SessionEntry). session_after session e.deed) (session_start others) log (entry ∷ []))))
  where
    by-deed : (a b : SessionState) (deed : SessionDeed) → a.last ≡ b.last
        → (session_after a deed).last ≡ (session_after b deed).last
    by-deed a b (SessionBegun r stamp) e = refl
    by-deed a b (Replied r) e = e

module _ (laws : LawsForAccounts) (number : ℕ) (requests : List ℕ) (rising : IsSorted (λ x y. x < y) requests) where
  last-step : (state : SessionState) (begins : List (ℕ × Stamp)) (deed : SessionDeed) → state.requests ≡ requests
      → FitsSession state deed → after requests state begins → after requests (session_after state deed) (begins ++ begin_by deed)
  last-step state begins (SessionBegun r stamp) same fits so-far =
      inr (record {
        place = state.begun;
        request = r;
        stamp = stamp;
        begun-is = omega arith;
        at = ap (λ rs. slice_get rs state.begun) (sym same) ∙ fits.next;
        last-is = refl;
        there = has_last begins (r, stamp);
      })
  last-step state begins (Replied r) same fits (inl none) = inl (record { begun-is = none.begun-is; last-is = none.last-is })
  last-step state begins (Replied r) same fits (inr some) =
      inr (record {
        place = some.place;
        request = some.request;
        stamp = some.stamp;
        begun-is = some.begun-is;
        at = some.at;
        last-is = some.last-is;
        there = Contains-append_left begins [] (some.request, some.stamp) some.there;
      })

  last-begun-is : (log : List SessionEntry) → IsSessionLog number requests log
      → after requests (session_of requests log) (begins_in log)
  last-begun-is =
      by_last (λ log. IsSessionLog number requests log → after requests (session_of requests log) (begins_in log))
      (λ each. inl (record { begun-is = refl; last-is = refl }))
      (λ log entry so-far each.
      let before =
      each_before (λ before (e : SessionEntry). (e.author ≡ number) × FitsSession (session_of requests before) e.deed) log (entry ∷ []) each in
      let fits = each_last (λ before (e : SessionEntry). (e.author ≡ number) × FitsSession (session_of requests before) e.deed) log entry each in
      subst (λ (s : SessionState). after requests s (begins_in (log ++ entry ∷ [])))
      (sym (fold-append (λ session (e : SessionEntry). session_after session e.deed) (session_start requests) log (entry ∷ [])))
      (subst (after requests (session_after (session_of requests log) entry.deed)) (sym (flat_push (λ (e : SessionEntry). begin_by e.deed) log entry))
      (last-step (session_of requests log) (begins_in log) entry.deed (same-requests laws number requests rising log) fits.1 (so-far before))))

-- The request before

-- where a request is among those of its session
record IsPlacedAt (script : Script) (r session : ℕ) : Type 0 where
  place : ℕ
  at : slice_get (requests_of_session script session) place ≡ Some r

module _ (script : Script) (r : ℕ) (request : Request) (request-is : request_at script r ≡ Some request) where
  abbrev rs : List ℕ
  rs = requests_of_session script request.session

  below : (i j a b : ℕ) → slice_get rs i ≡ Some a → slice_get rs j ≡ Some b → i < j → a < b
  below i j a b at bt less =
      let r = requests-rise script request.session i j 0 less (slice_get_within rs j b bt) in
      let x = get_or_from_slice_get rs i a 0 at in
      let y = get_or_from_slice_get rs j b 0 bt in
      omega (arith, r, x, y)

  order : (a b i j : ℕ) → slice_get rs i ≡ Some a → slice_get rs j ≡ Some b → a < b → i < j
  order a b i j at bt less =
      elim (cases_order i j) [
        | inl same ↦ (let e : Some a ≡ Some b = sym at ∙ ap (slice_get rs) same ∙ bt in let e' : a ≡ b = cc in absurd (omega (arith, e', less)))
        | inr (inl lt) ↦ lt
        | inr (inr gt) ↦ (let back = below j i b a bt at gt in absurd (omega (arith, back, less)))
      ]

  -- one of its session that the search finds is before it
  found-before : (q : ℕ) → request_before script r ≡ Some q → (q < r) × IsPlacedAt script q request.session
  found-before q e =
      let has = find_has (λ other. same_session script other r) (reverse (range_with_len 0 r)) q e in
      let less = before-earlier script r q e in
      let both = both-there (request_at script q) (request_at script r) has.1 in
      let one : both.1 ≡ request = (let same : Some both.1 ≡ Some request = sym both.3 ∙ request-is in cc) in
      let session : (both.0).session ≡ request.session = both.4 ∙ ap (λ (k : Request). k.session) one in
      let there : Contains rs q = subst (λ s. Contains (requests_of_session script s) q) session (among-session script q both.0 both.2) in
      (less, record { place = there.0; at = slice_get-get_or rs there.0 q there.1 ∙ ap Some there.2 })

  -- one of its session before it is among those searched
  is-searched : (q place : ℕ) → slice_get rs place ≡ Some q → q < r
      → Contains (filter (λ other. same_session script other r) (range_with_len 0 r)) q
  is-searched q place at less =
      has_filter (λ other. same_session script other r) (range_with_len 0 r) q (has-range 0 r q (omega arith) (omega (arith, less)))
      (same (request_at script q) (filter_has (λ n. is_some_and (λ (o : Request). o.session == request.session) (request_at script n)) (range_with_len 0 (length script.requests)) q (place, slice_get_within rs place q at, get_or_from_slice_get rs place q q at)).1)
    where
      same : (o : Option Request) → IsTrue (is_some_and (λ (o : Request). o.session == request.session) o)
          → IsTrue (are_both (λ (x : Request) (y : Request). x.session == y.session) o (request_at script r))
      same None h = cc
      same (Some other) h = ap (are_both (λ (x : Request) (y : Request). x.session == y.session) (Some other)) request-is ∙ h

  none-before : slice_get rs 0 ≡ Some r → request_before script r ≡ None
  none-before first = by (request_before script r) refl
    where
      by : (o : Option ℕ) → request_before script r ≡ o → request_before script r ≡ None
      by None e = e
      by (Some q) e = let b = found-before q e in let p = order q r b.1.place 0 b.1.at first b.0 in absurd (omega (arith, p))

  one-before : (q place : ℕ) → slice_get rs place ≡ Some q → slice_get rs (suc place) ≡ Some r → request_before script r ≡ Some q
  one-before q place there next = by (request_before script r) refl
    where
      less : q < r
      less = below place (suc place) q r there next (omega arith)

      by : (o : Option ℕ) → request_before script r ≡ o → request_before script r ≡ Some q
      by None e =
          absurd (last-none (λ other. same_session script other r) (range_with_len 0 r) q e (is-searched q place there less))
      by (Some p) e =
          elim (up-to-last (λ (a b : ℕ). a < b) (λ other. same_session script other r) (range_with_len 0 r) (pairs-filter (λ (a b : ℕ). a < b) (λ other. same_session script other r) (range_with_len 0 r) (range-pairs 0 r)) q p e (is-searched q place there less)) [
            | inl same ↦ e ∙ ap Some (sym same)
            | inr more ↦
                (let b = found-before p e in
                let one = order q p place b.1.place there b.1.at more in
                let two = order p r b.1.place (suc place) b.1.at next b.0 in
                absurd (omega (arith, one, two)))
          ]

-- In an account

module _ (script : Script) (account : Account) (basis : Basis script account) where
  its-last : (session : ℕ)
      → after (requests_of_session script session) (session_of (requests_of_session script session) (session_log account session)) (begins_in (session_log account session))
  its-last session =
      last-begun-is basis.laws session (requests_of_session script session)
      (sorted-filter (λ x y. x < y) _ (range_with_len 0 (length script.requests)) (range-sorted 0 (length script.requests)))
      (session_log account session) (basis.is.sessions.logs session)

  -- a session's next request begins after what the session began last
  pub next-follows : (r : ℕ) (request : Request) → request_at script r ≡ Some request
      → next_request (session_of (requests_of_session script request.session) (session_log account request.session)) ≡ Some r
      → last_stamp script account r ≡ (session_of [] (session_log account request.session)).last
  next-follows r request there next = by (its-last request.session)
    where
      requests : List ℕ
      requests = requests_of_session script request.session

      state : SessionState
      state = session_of requests (session_log account request.session)

      here : slice_get requests state.begun ≡ Some r
      here =
          ap (λ rs. slice_get rs state.begun)
          (sym (same-requests basis.laws request.session requests (sorted-filter (λ x y. x < y) _ (range_with_len 0 (length script.requests)) (range-sorted 0 (length script.requests))) (session_log account request.session)))
          ∙ next

      by : after requests state (begins_in (session_log account request.session))
          → last_stamp script account r ≡ (session_of [] (session_log account request.session)).last
      by (inl none) =
          ap (option_and_then (stamp_of account)) (none-before script r request there (ap (slice_get requests) (sym none.begun-is) ∙ here))
          ∙ sym none.last-is ∙ last-any requests [] (session_log account request.session)
      by (inr some) =
          ap (option_and_then (stamp_of account))
          (one-before script r request there some.request some.place some.at (ap (slice_get requests) (sym some.begun-is) ∙ here))
          ∙ session-begun script account basis request.session some.request some.stamp some.there ∙ sym some.last-is
          ∙ last-any requests [] (session_log account request.session)

  -- what a session began last is the stamp of a begun request
  pub last-begun : (session : ℕ) (stamp : Stamp) → (session_of [] (session_log account session)).last ≡ Some stamp
      → (r : ℕ) × (stamp_of account r ≡ Some stamp)
  last-begun session stamp e = by (its-last session)
    where
      is : (session_of (requests_of_session script session) (session_log account session)).last ≡ Some stamp
      is = last-any (requests_of_session script session) [] (session_log account session) ∙ e

      by : after (requests_of_session script session) (session_of (requests_of_session script session) (session_log account session)) (begins_in (session_log account session))
          → (r : ℕ) × (stamp_of account r ≡ Some stamp)
      by (inl none) = (let clash : None ≡ Some stamp = sym none.last-is ∙ is in cc)
      by (inr some) =
          let same : Some some.stamp ≡ Some stamp = sym some.last-is ∙ is in
          (some.request, session-begun script account basis session some.request some.stamp some.there ∙ same)
