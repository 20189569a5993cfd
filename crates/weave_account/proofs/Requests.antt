-- Where requests begin and end: each at its own gatekeeper, and at most once. A transaction in flight has not ended
-- anywhere. The requests of a session rise.
-- Used by `requests_end_or_go_on`, `requests_of_a_session_rise`, `sessions_have_what_is_open`, Collecting, InSession
-- and OpenRequests.
use Rattle.std.proofs.Common.{◌≡◌, ◌≢◌, ℕ, zero, suc, ◌+◌, ◌<◌, ◌==◌, Bool, true, false, cond, List, [], ◌∷◌, ◌++◌, map, length, get_or, AllPairs, Contains, IsTrue, Option, None, Some, inl, inr, refl, sym, ap, subst, ◌∙◌, arith}
use Rattle.std.specs.Prelude.{◌↔◌, ◌&&◌, reverse, not, IsSomeAnd}
use Rattle.std.specs.List.{filter, flat_map, range_with_len}
use Rattle.std.proofs.lemmas.Bool.{and_parts, cases_Bool, eq-eqb, eqb-true, ne_eqb}
use Rattle.std.proofs.lemmas.List.{map-append}
use Rattle.std.proofs.lemmas.List.Concat.{flat_map-append}
use Rattle.std.proofs.lemmas.List.Elements.{Contains-append_cases, Contains-append_left}
use Rattle.std.proofs.lemmas.Option.{slice_get_within}
use Rattle.weave_data.proofs.Members.{any_has, any_from, cut_at, filter_has, find_has, has_filter, has_flat, has_head, has_none, has_read, has_tail, map_has, only}
use Rattle.weave_data.proofs.Ordered.{pairs_cons, pairs_front, pairs_head, pairs_none, pairs_tail}
use Rattle.program_defs.specs.declared.script.Request.{Request}
use Rattle.program_defs.specs.declared.script.Script.{Script}
use Rattle.program_defs.specs.declared.script.Work.{Work}
use Rattle.program_defs.specs.declared.script.Work.TheVariants.{Change, Look}
use Rattle.program_defs.specs.Works.{is_change, is_look}
use Rattle.weave_entries.specs.declared.gate_log.GateEntry.{GateEntry}
use Rattle.weave_entries.specs.declared.gate_log.GateDeed.{GateDeed}
use Rattle.weave_entries.specs.declared.gate_log.GateDeed.TheVariants.{BeganTx, BeganProgram, Sent, Nop, Heard, Raised, Finished}
use Rattle.weave_entries.specs.GateReplay.{BegunRequest, begun_by, begun_in, ended_by, ended_in, flight_of, has_ended_in, program_by, programs_of, requests_of, tx_by, txs_of}
use Rattle.weave_entries.specs.GateRules.{BeginsEachOnce}
use Rattle.report_rules.specs.Lookups.{is_some_and, request_at, same_session}
use Rattle.weave_account.specs.declared.account.Account.{Account}
use Rattle.weave_account.specs.Account.{gate_log}
use Rattle.weave_account.specs.Gatekeepers.{BeginsAs, request_before}
use Rattle.weave_account.specs.Sessions.{requests_of_session}
use Rattle.weave_account.proofs.Basis.{Basis}
use Rattle.weave_account.proofs.ConflictsClause.{reverse-has}
use Rattle.weave_data.proofs.Images.{flat-has}
use Rattle.weave_account.proofs.PhaseOrder.{ended-deed}
use Rattle.weave_account.proofs.Ready.{has-range, range-pairs}
use Rattle.weave_account.proofs.RepliesClause.{pairs-right}
use Rattle.weave_account.proofs.Replying.{place-of}

-- Lists

-- of lists put together, each one keeps a relation of each two
pub pairs-within : {A B : Type 0} (f : A → List B) (R : B → B → Type 0) (xs : List A) (x : A) → AllPairs R (flat_map f xs)
    → Contains xs x → AllPairs R (f x)
pairs-within f R [] x pairs h = absurd (has_none x h)
pairs-within f R (y ∷ xs) x pairs h =
    elim (has_read y xs x h) [
      | inl same ↦ subst (λ z. AllPairs R (f z)) same (pairs_front R (f y) (flat_map f xs) pairs)
      | inr more ↦ pairs-within f R xs x (pairs-right R (f y) (flat_map f xs) pairs) more
    ]

-- a relation of the images of each two elements is one of each two images
pub pairs-of-map : {A B : Type 0} (f : A → B) (R : B → B → Type 0) (xs : List A) → AllPairs (λ (a b : A). R (f a) (f b)) xs
    → AllPairs R (map f xs)
pairs-of-map f R [] pairs = pairs_none R
pairs-of-map {A = A} f R (x ∷ xs) pairs =
    pairs_cons R (f x) (map f xs)
    (λ y h. (let from = map_has f xs y h in subst (R (f x)) from.2 (pairs_head (λ (a b : A). R (f a) (f b)) x xs from.0 pairs from.1)))
    (pairs-of-map f R xs (pairs_tail (λ (a b : A). R (f a) (f b)) x xs pairs))

-- what is left of a list keeps a relation of each two
pub pairs-filter : {A : Type 0} (R : A → A → Type 0) (p : A → Bool) (xs : List A) → AllPairs R xs → AllPairs R (filter p xs)
pairs-filter R p [] pairs = pairs
pairs-filter R p (x ∷ xs) pairs = at (p x) (pairs-filter R p xs (pairs_tail R x xs pairs))
  where
    at : (b : Bool) → AllPairs R (filter p xs) → AllPairs R (cond b (x ∷ filter p xs) (filter p xs))
    at true rest = pairs_cons R x (filter p xs) (λ y h. pairs_head R x xs y pairs (filter_has p xs y h).0) rest
    at false rest = rest

-- Requests of a session

-- the requests of a session rise
pub requests-rise : (script : Script) (session : ℕ) → AllPairs (λ (a b : ℕ). a < b) (requests_of_session script session)
requests-rise script session =
    pairs-filter (λ (a b : ℕ). a < b) (λ r. is_some_and (λ (request : Request). request.session == session) (request_at script r))
    (range_with_len 0 (length script.requests))
    (range-pairs 0 (length script.requests))

-- each request is one of its session's
pub among-session : (script : Script) (r : ℕ) (request : Request) → request_at script r ≡ Some request
    → Contains (requests_of_session script request.session) r
among-session script r request there =
    let within = slice_get_within script.requests r request there in
    has_filter (λ q. is_some_and (λ (other : Request). other.session == request.session) (request_at script q))
    (range_with_len 0 (length script.requests)) r
    (has-range 0 (length script.requests) r (omega arith) (omega (arith, within)))
    (ap (is_some_and (λ (other : Request). other.session == request.session)) there ∙ eq-eqb request.session request.session refl)

-- numbers in a row are below the end
pub in-range : (a n y : ℕ) → Contains (range_with_len a n) y → y < a + n
in-range a zero y h = absurd (has_none y h)
in-range a (suc n) y h =
    elim (has_read a (range_with_len (a + 1) n) y h) [
      | inl same ↦ omega (arith, same)
      | inr more ↦ (let lt = in-range (a + 1) n y more in omega (arith, lt))
    ]

-- the request before another one in its session is an earlier one
pub before-earlier : (script : Script) (r before : ℕ) → request_before script r ≡ Some before → before < r
before-earlier script r before e =
    let found = find_has (λ other. same_session script other r) (reverse (range_with_len 0 r)) before e in
    let less = in-range 0 r before (reverse-has (range_with_len 0 r) before found.0) in
    omega (arith, less)

-- Begins

module _ (script : Script) (account : Account) (basis : Basis script account) where
  requests-are : (log : List GateEntry) → requests_of log ≡ map (λ (b : BegunRequest). b.request) (begun_in log)
  requests-are [] = refl
  requests-are (entry ∷ log) =
      ap (λ rest. map (λ (b : BegunRequest). b.request) (begun_by entry.author entry.deed) ++ rest) (requests-are log)
      ∙ sym (map-append (λ (b : BegunRequest). b.request) (begun_by entry.author entry.deed) (begun_in log))

  -- at each gatekeeper a request begins once
  pub each-once : (home : ℕ) → BeginsEachOnce (gate_log account home)
  each-once home = at (gate_log account home) refl
    where
      at : (log : List GateEntry) → gate_log account home ≡ log → BeginsEachOnce (gate_log account home)
      at [] is = subst BeginsEachOnce (sym is) (pairs_none (λ (a b : ℕ). a ≢ b))
      at (entry ∷ log) is =
          let here : Contains account.gates (gate_log account home) = there account.gates home entry log is in
          subst (AllPairs (λ (a b : ℕ). a ≢ b)) (sym (requests-are (gate_log account home)))
          (pairs-of-map (λ (b : BegunRequest). b.request) (λ (a b : ℕ). a ≢ b) (begun_in (gate_log account home))
          (pairs-within begun_in (λ (a b : BegunRequest). a.request ≢ b.request) account.gates (gate_log account home) basis.is.gatekeepers.once here))
        where
          there : (logs : List (List GateEntry)) (i : ℕ) (entry : GateEntry) (log : List GateEntry)
              → get_or logs i [] ≡ entry ∷ log → Contains logs (get_or logs i [])
          there [] i entry log e = cc
          there (first ∷ logs) zero entry log e = has_head first logs
          there (first ∷ logs) (suc i) entry log e = has_tail first logs (get_or logs i []) (there logs i entry log e)

  -- a request, which is this one of the script, at its own gatekeeper
  pub record IsOwn (home r : ℕ) (kind : Work → Bool) : Type 0 where
    pub request : Request
    pub request_is : request_at script r ≡ Some request
    pub gate_is : request.gate ≡ home
    pub kind_is : IsTrue (kind request.work)

  own-request : (home r : ℕ) (kind : Work → Bool)
      → IsTrue (is_some_and (λ (request : Request). (request.gate == home) && kind request.work) (request_at script r))
      → IsOwn home r kind
  own-request home r kind own = at (request_at script r) refl own
    where
      at : (q : Option Request) → request_at script r ≡ q
          → IsTrue (is_some_and (λ (request : Request). (request.gate == home) && kind request.work) q) → IsOwn home r kind
      at None e h = cc
      at (Some request) e h =
          let parts = and_parts (request.gate == home) (kind request.work) h in
          record { request = request; request_is = e; gate_is = eqb-true request.gate home parts.0; kind_is = parts.1 }

  tx-by-own : (home : ℕ) (before : List GateEntry) (author : ℕ) (deed : GateDeed) (b : BegunRequest) → Contains (tx_by author deed) b
      → BeginsAs script account home before deed → IsOwn home b.request is_change
  tx-by-own home before author (BeganTx r stamp) b h rule =
      subst (λ (k : BegunRequest). IsOwn home k.request is_change) (only _ b h) (own-request home r is_change rule.own)
  tx-by-own home before author (BeganProgram r stamp) b h rule = absurd (has_none b h)
  tx-by-own home before author (Sent r messages) b h rule = absurd (has_none b h)
  tx-by-own home before author (Nop to number stamp low) b h rule = absurd (has_none b h)
  tx-by-own home before author (Heard clock) b h rule = absurd (has_none b h)
  tx-by-own home before author (Raised epoch) b h rule = absurd (has_none b h)
  tx-by-own home before author (Finished r) b h rule = absurd (has_none b h)

  -- a transaction was begun at its own gatekeeper
  pub tx-own : (home : ℕ) (b : BegunRequest) → Contains (txs_of (gate_log account home)) b → IsOwn home b.request is_change
  tx-own home b h =
      let entry = flat-has (λ (e : GateEntry). tx_by e.author e.deed) (gate_log account home) b h in
      let place = cut_at (gate_log account home) entry.0 entry.1.0 in
      tx-by-own home place.before (entry.0).author (entry.0).deed b entry.1.1
      (basis.is.gatekeepers.begins home place.before entry.0 place.after place.is)

  program-by-own : (home : ℕ) (before : List GateEntry) (author : ℕ) (deed : GateDeed) (b : BegunRequest)
      → Contains (program_by author deed) b → BeginsAs script account home before deed → IsOwn home b.request is_look
  program-by-own home before author (BeganProgram r stamp) b h rule =
      subst (λ (k : BegunRequest). IsOwn home k.request is_look) (only _ b h) (own-request home r is_look rule.own)
  program-by-own home before author (BeganTx r stamp) b h rule = absurd (has_none b h)
  program-by-own home before author (Sent r messages) b h rule = absurd (has_none b h)
  program-by-own home before author (Nop to number stamp low) b h rule = absurd (has_none b h)
  program-by-own home before author (Heard clock) b h rule = absurd (has_none b h)
  program-by-own home before author (Raised epoch) b h rule = absurd (has_none b h)
  program-by-own home before author (Finished r) b h rule = absurd (has_none b h)

  -- a program that was begun at a gatekeeper is a program of the script, for that gatekeeper
  pub program-own : (home : ℕ) (b : BegunRequest) → Contains (programs_of (gate_log account home)) b → IsOwn home b.request is_look
  program-own home b h =
      let entry = flat-has (λ (e : GateEntry). program_by e.author e.deed) (gate_log account home) b h in
      let place = cut_at (gate_log account home) entry.0 entry.1.0 in
      program-by-own home place.before (entry.0).author (entry.0).deed b entry.1.1
      (basis.is.gatekeepers.begins home place.before entry.0 place.after place.is)

  -- what was begun at a gatekeeper is a request of the script at it
  pub begun-gate : (home : ℕ) (b : BegunRequest) → Contains (begun_in (gate_log account home)) b → (request : Request)
      → request_at script b.request ≡ Some request → request.gate ≡ home
  begun-gate home b h request there =
      let entry = flat-has (λ (e : GateEntry). begun_by e.author e.deed) (gate_log account home) b h in
      elim (Contains-append_cases (tx_by (entry.0).author (entry.0).deed) (program_by (entry.0).author (entry.0).deed) b entry.1.1) [
        | inl tx ↦
            (let own = tx-own home b (has_flat (λ (e : GateEntry). tx_by e.author e.deed) (gate_log account home) entry.0 b entry.1.0 tx) in
            let same : Some request ≡ Some own.request = sym there ∙ own.request_is in
            let one : request ≡ own.request = cc in
            ap (λ (k : Request). k.gate) one ∙ own.gate_is)
        | inr program ↦
            (let own = program-own home b (has_flat (λ (e : GateEntry). program_by e.author e.deed) (gate_log account home) entry.0 b entry.1.0 program) in
            let same : Some request ≡ Some own.request = sym there ∙ own.request_is in
            let one : request ≡ own.request = cc in
            ap (λ (k : Request). k.gate) one ∙ own.gate_is)
      ]

  look-not-change : (work : Work) → IsTrue (is_change work) → IsTrue (is_look work) → ⊥
  look-not-change (Change ops) change look = cc
  look-not-change (Look program) change look = cc

  -- a request that is a transaction was begun as one
  pub change-begun : (home : ℕ) (b : BegunRequest) → Contains (begun_in (gate_log account home)) b → (request : Request)
      → request_at script b.request ≡ Some request → IsTrue (is_change request.work) → Contains (txs_of (gate_log account home)) b
  change-begun home b h request there change =
      let entry = flat-has (λ (e : GateEntry). begun_by e.author e.deed) (gate_log account home) b h in
      elim (Contains-append_cases (tx_by (entry.0).author (entry.0).deed) (program_by (entry.0).author (entry.0).deed) b entry.1.1) [
        | inl tx ↦ has_flat (λ (e : GateEntry). tx_by e.author e.deed) (gate_log account home) entry.0 b entry.1.0 tx
        | inr program ↦
            (let own = program-own home b (has_flat (λ (e : GateEntry). program_by e.author e.deed) (gate_log account home) entry.0 b entry.1.0 program) in
            let same : Some request ≡ Some own.request = sym there ∙ own.request_is in
            let one : request ≡ own.request = cc in
            absurd (look-not-change request.work change (subst (λ (k : Request). IsTrue (is_look k.work)) (sym one) own.kind_is)))
      ]

  -- Ends

  -- what was sent or finished at a gatekeeper was begun there
  pub ended-begun : (home r : ℕ) → Contains (ended_in (gate_log account home)) r
      → (b : BegunRequest) × Contains (begun_in (gate_log account home)) b × (b.request ≡ r)
  ended-begun home r h =
      let entry = flat-has (λ (e : GateEntry). ended_by e.deed) (gate_log account home) r h in
      let place = cut_at (gate_log account home) entry.0 entry.1.0 in
      let begun =
      ended-deed place.before (entry.0).author (entry.0).deed r entry.1.1
      (basis.laws.ends home script.shards (gate_log account home) (basis.is.gatekeepers.logs home) place.before entry.0 place.after place.is) in
      let longer : Contains (begun_in (gate_log account home)) begun.0 = subst (λ l. Contains (begun_in l) begun.0) (sym place.is)
      (subst (λ bs. Contains bs begun.0) (sym (flat_map-append (λ (e : GateEntry). begun_by e.author e.deed) place.before (entry.0 ∷ place.after))) (Contains-append_left (begun_in place.before) (begun_in (entry.0 ∷ place.after)) begun.0 begun.1)) in
      (begun.0, longer, begun.2)

  -- what ended did so at its own gatekeeper
  pub ended-home : (r : ℕ) (request : Request) → request_at script r ≡ Some request → Contains (flat_map ended_in account.gates) r
      → Contains (ended_in (gate_log account request.gate)) r
  ended-home r request there h =
      let log = flat-has ended_in account.gates r h in
      let home = place-of account.gates log.0 log.1.0 in
      let here : Contains (ended_in (gate_log account home.0)) r = subst (λ l. Contains (ended_in l) r) (sym home.1) log.1.1 in
      let b = ended-begun home.0 r here in
      let gate : request.gate ≡ home.0 = begun-gate home.0 b.0 b.1 request (ap (request_at script) b.2 ∙ there) in
      subst (λ g. Contains (ended_in (gate_log account g)) r) (sym gate) here

  -- what is in flight was begun as a transaction
  pub flight-begun : (home : ℕ) (flight : BegunRequest) → flight_of (gate_log account home) ≡ Some flight
      → Contains (txs_of (gate_log account home)) flight
  flight-begun home flight flies =
      ((basis.laws.flight home script.shards (gate_log account home) (basis.is.gatekeepers.logs home) (each-once home) flight).0 flies).0

  -- a transaction that is in flight has not ended at any gatekeeper
  pub flies-still : (home : ℕ) (flight : BegunRequest) → flight_of (gate_log account home) ≡ Some flight
      → Contains (flat_map ended_in account.gates) flight.request → ⊥
  flies-still home flight flies ended =
      let so = (basis.laws.flight home script.shards (gate_log account home) (basis.is.gatekeepers.logs home) (each-once home) flight).0 flies in
      let own = tx-own home flight so.0 in
      so.1 (subst (λ g. Contains (ended_in (gate_log account g)) flight.request) own.gate_is (ended-home flight.request own.request own.request_is ended))

  -- what is in flight is a transaction of a request, at its own gatekeeper
  pub flight-own : (home : ℕ) (flight : BegunRequest) → flight_of (gate_log account home) ≡ Some flight
      → IsSomeAnd (request_at script flight.request) (λ (request : Request). (request.gate ≡ home) × IsTrue (is_change request.work))
  flight-own home flight flies =
      let own = tx-own home flight (flight-begun home flight flies) in
      subst (λ q. IsSomeAnd q (λ (request : Request). (request.gate ≡ home) × IsTrue (is_change request.work))) (sym own.request_is)
      (own.gate_is, own.kind_is)

  -- a transaction that was begun was sent unless it is in flight
  pub sent-or-flies : (home : ℕ) (b : BegunRequest) → Contains (txs_of (gate_log account home)) b
      → has_ended_in b.request (gate_log account home) ≡ not (is_some_and (λ (flight : BegunRequest). flight.request == b.request) (flight_of (gate_log account home)))
  sent-or-flies home b h =
      elim (cases_Bool (has_ended_in b.request (gate_log account home))) [
        | inl ended ↦ ended ∙ still (flight_of (gate_log account home)) refl ended
        | inr unsent ↦ unsent ∙ sym (ap (λ o. not (is_some_and (λ (flight : BegunRequest). flight.request == b.request) o)) (flying unsent) ∙ ap not (eq-eqb b.request b.request refl))
      ]
    where
      law : (tx : BegunRequest)
          → (flight_of (gate_log account home) ≡ Some tx) ↔ (Contains (txs_of (gate_log account home)) tx × ¬ Contains (ended_in (gate_log account home)) tx.request)
      law = basis.laws.flight home script.shards (gate_log account home) (basis.is.gatekeepers.logs home) (each-once home)

      still : (o : Option BegunRequest) → flight_of (gate_log account home) ≡ o → IsTrue (has_ended_in b.request (gate_log account home))
          → true ≡ not (is_some_and (λ (flight : BegunRequest). flight.request == b.request) o)
      still None is ended = refl
      still (Some flight) is ended =
          sym (ap not (ne_eqb flight.request b.request (λ same.
          let found = any_has (λ n. n == b.request) (ended_in (gate_log account home)) ended in
          let request : found.0 ≡ flight.request = eqb-true found.0 b.request found.2 ∙ sym same in
          ((law flight).0 is).1 (subst (Contains (ended_in (gate_log account home))) request found.1))))

      flying : has_ended_in b.request (gate_log account home) ≡ false → flight_of (gate_log account home) ≡ Some b
      flying unsent = (law b).1 (
        h,
        λ ended.
            let found : IsTrue (has_ended_in b.request (gate_log account home)) =
            any_from (λ n. n == b.request) (ended_in (gate_log account home)) b.request ended (eq-eqb b.request b.request refl) in
            let clash : true ≡ false = sym found ∙ unsent in
            cc,
      )
