-- The judgements of a session are in its order. Two since the start are of one hand. One of the start comes before a
-- later one: a judgement refers to its begin, and the session had begun the later request next, or had it in flight.
-- Used by Account.
use Rattle.std.proofs.Common.{◌≡◌, ◌≢◌, ℕ, ◌<◌, ◌≤◌, ◌==◌, Bool, not, List, [], ◌∷◌, ◌++◌, length, take, drop, Contains, AllPairs, IsTrue, Option, Some, None, inl, inr, refl, sym, ap, subst, ◌∙◌, append_assoc}
use Rattle.std.specs.Prelude.{IsSomeAnd}
use Rattle.std.specs.List.{filter, find, list_any}
use Rattle.std.specs.Option.{option_map}
use Rattle.std.proofs.lemmas.Bool.{both_ways, cases_Bool, eq-eqb, eqb-true}
use Rattle.std.proofs.lemmas.List.{take-append-drop}
use Rattle.std.proofs.lemmas.List.Concat.{flat_map_single}
use Rattle.std.proofs.lemmas.List.Elements.{All-contains, Contains-append_cases, Contains-append_left}
use Rattle.weave_data.proofs.Members.{any_from, any_has, cut_at, find_has, find_lacks, flat_has, has_cut, has_flat, has_map, has_none, map_has, only}
use Rattle.weave_data.proofs.Ordered.{pairs_across}
use Rattle.vector_stamp.specs.declared.clock.Stamp.{Stamp}
use Rattle.vector_stamp.specs.Order.{id_of}
use Rattle.program_defs.specs.declared.script.Request.{Request}
use Rattle.program_defs.specs.declared.script.Script.{Script}
use Rattle.program_defs.specs.declared.script.Work.{Work}
use Rattle.program_defs.specs.declared.script.Work.TheVariants.{Change}
use Rattle.program_defs.specs.Works.{is_change}
use Rattle.report_rules.specs.Lookups.{are_both, is_some_and, request_at, same_session}
use Rattle.weave_entries.specs.declared.gate_log.GateEntry.{GateEntry}
use Rattle.weave_entries.specs.declared.gate_log.GateDeed.{GateDeed}
use Rattle.weave_entries.specs.declared.gate_log.GateDeed.TheVariants.{BeganTx, BeganProgram, Sent, Nop, Heard, Raised, Finished}
use Rattle.weave_entries.specs.declared.session_log.SessionEntry.{SessionEntry}
use Rattle.weave_entries.specs.declared.store_log.StoreEntry.{StoreEntry}
use Rattle.weave_entries.specs.GateReplay.{BegunRequest, begun_by, begun_in, ended_by, ended_in, flight_of, has_ended_in, program_by, tx_by, txs_of}
use Rattle.weave_entries.specs.SessionReplay.{begins_in, has_begun_in, session_of}
use Rattle.weave_entries.specs.StoreReplay.{Judgement, judgements_of}
use Rattle.weave_entries.specs.StoreRule.{stamps_judged}
use Rattle.weave_entries.proofs.StoreLogs.{judged-author}
use Rattle.weave_account.specs.declared.account.Account.{Account}
use Rattle.weave_account.specs.Account.{all_begun, gate_log, session_log}
use Rattle.weave_account.specs.Sessions.{requests_of_session}
use Rattle.weave_account.specs.Store.{InTurn}
use Rattle.weave_account.proofs.Replying.{place-of}
use Rattle.weave_account.proofs.GoesOn.{has-on}
use Rattle.seen_logs.specs.Seen.{entries_since}
use Rattle.hands_account.proofs.ByHands.{IsClosedRun, IsStoreByHand, follows, gates-on, pair-since, pair-there, starts, store-by, store-case, store-on}
use Rattle.hands_account.proofs.Once.{begun-on, not-both, one-begin}
use Rattle.hands_account.proofs.Places.{Across, flat-pairs, in-back, less-or, pairs-by-places}
use Rattle.hands_account.proofs.Work.{HasWork, judgement, own-judged, work-all}
use Rattle.seen_logs.proofs.MakesAccount.{fits-new}
use Rattle.seen_logs.proofs.Placed.{pairs-one}
use Rattle.seen_logs.proofs.Onward.{earlier-place}

-- Requests

-- two requests of one session
record AreOfOne (script : Script) (a b : ℕ) : Type 0 where
  first : Request
  second : Request
  at_first : request_at script a ≡ Some first
  at_second : request_at script b ≡ Some second
  session : first.session ≡ second.session

of-one : (script : Script) (a b : ℕ) → IsTrue (same_session script a b) → AreOfOne script a b
of-one script a b same = at (request_at script a) refl (request_at script b) refl same
  where
    at : (one : Option Request) → request_at script a ≡ one → (other : Option Request) → request_at script b ≡ other
        → IsTrue (are_both (λ (x : Request) (y : Request). x.session == y.session) one other) → AreOfOne script a b
    at (Some x) at_x (Some y) at_y sessions =
        record { first = x; second = y; at_first = at_x; at_second = at_y; session = eqb-true x.session y.session sessions }
    at None at_x other at_y sessions = absurd cc
    at (Some x) at_x None at_y sessions = absurd cc

-- the request of a judgement is a transaction
has-change : (script : Script) (judged : Judgement) (request : Request) → request_at script judged.request ≡ Some request → HasWork script judged
    → IsTrue (is_change request.work)
has-change script judged request at has = of (request_at script judged.request) at has
  where
    of : (found : Option Request) → found ≡ Some request → IsSomeAnd found (λ (r : Request). r.work ≡ Change judged.ops) → IsTrue (is_change request.work)
    of (Some r) same work =
        let one : r ≡ request = cc in
        subst (λ (q : Request). IsTrue (is_change q.work)) one (subst (λ (w : Work). IsTrue (is_change w)) (sym work) refl)
    of None same work = absurd cc

-- a list that rises, cut at a place: what is not among the first comes after them
after-first : (n : ℕ) (xs : List ℕ) → AllPairs (λ (a b : ℕ). a < b) xs → (a b : ℕ) → Contains (take n xs) a → Contains xs b → ¬ Contains (take n xs) b
    → a < b
after-first n xs rise a b ha hb not_first =
    let parts = take-append-drop n xs in
    elim (Contains-append_cases (take n xs) (drop n xs) b (subst (λ l. Contains l b) (sym parts) hb)) [
      | inl near ↦ absurd (not_first near)
      | inr far ↦ pairs_across (λ (x y : ℕ). x < y) (take n xs) (drop n xs) a b (subst (AllPairs (λ (x y : ℕ). x < y)) (sym parts) rise) ha far
    ]

-- Judgements

-- what an entry of the store judges, as a list
abbrev judges : StoreEntry → List Judgement
judges entry = judgement entry ∷ []

module _ {script : Script} {hands : ℕ} {start : Account} {seen_by : ℕ → Account} {closed : Account} (run : IsClosedRun script hands start seen_by closed) where
  -- two judgements of one session are in its order
  abbrev Turn : Judgement → Judgement → Type 0
  Turn a b = InTurn script a.request b.request

  -- the begin of a judgement of the start, and of a later one
  begun-at-start : (judged : Judgement) → Contains (judgements_of start.store) judged
      → (home : ℕ) × Contains (begun_in (gate_log start home)) (record { author = judged.author; request = judged.request; stamp = judged.stamp })
  begun-at-start judged h =
      let log = flat_has begun_in start.gates _ (run.laws.begun_judged script start run.limits run.runs.at_start judged h) in
      let place = place-of start.gates log.0 log.1 in
      (place.0, subst (λ l. Contains (begun_in l) (record { author = judged.author; request = judged.request; stamp = judged.stamp })) (sym place.1) log.2)

  tx-of-hand : (before : List StoreEntry) (entry : StoreEntry) → IsStoreByHand run before entry entry.author
      → (home : ℕ) × Contains (txs_of (gate_log closed home))
      (record { author = (judgement entry).author; request = (judgement entry).request; stamp = (judgement entry).stamp })
  tx-of-hand before entry mine =
      let refers = (run.of.seen entry.author mine.known).store_entries before entry mine.rest mine.at (inl mine.own.0) in
      let log = gate_log (seen_by entry.author) refers.home in
      let from = flat_has (λ (e : GateEntry). tx_by e.author e.deed) log _ refers.begun in (
        refers.home,
        has_flat (λ (e : GateEntry). tx_by e.author e.deed) (gate_log closed refers.home) from.0 _
            (has-on log (gate_log closed refers.home) ((run.of.within entry.author mine.known).gates refers.home) from.0 from.1) from.2,
      )

  tx-begun : (home : ℕ) (begun : BegunRequest) → Contains (txs_of (gate_log closed home)) begun → Contains (begun_in (gate_log closed home)) begun
  tx-begun home begun h =
      let from = flat_has (λ (e : GateEntry). tx_by e.author e.deed) (gate_log closed home) begun h in
      has_flat (λ (e : GateEntry). begun_by e.author e.deed) (gate_log closed home) from.0 begun from.1
      (Contains-append_left (tx_by (from.0).author (from.0).deed) (program_by (from.0).author (from.0).deed) begun from.2)

  -- what was judged at the start is not judged later
  not-again : (before : List StoreEntry) (entry : StoreEntry) (after : List StoreEntry) → closed.store ≡ before ++ entry ∷ after
      → IsStoreByHand run before entry entry.author → (judged : Judgement) → Contains (judgements_of start.store) judged
      → judged.request ≢ (judgement entry).request
  not-again before entry after at mine judged h same =
      let place = in-back start.store (store-on run).0 before after entry (sym (store-on run).1 ∙ at) mine.own.1 in
      let early = map_has judgement start.store judged h in
      let there : Contains (judgements_of before) judged = subst (Contains (judgements_of before)) early.2
      (has_map judgement before early.0 (has-on start.store before (place.0, place.1) early.0 early.1)) in
      let new = All-contains (λ (stamp : Stamp). id_of stamp ≢ id_of (judgement entry).stamp) (stamps_judged before) judged.stamp
      (fits-new before entry.author entry.deed (run.legal.store_log before entry after at))
      (has_map (λ (j : Judgement). j.stamp) (judgements_of before) judged there) in
      let begun = begun-at-start judged h in
      let tx = tx-of-hand before entry mine in
      let one = one-begin run begun.0 tx.0 _ _ (begun-on run begun.0 _ begun.1) (tx-begun tx.0 _ tx.1) same in
      new (ap (λ (b : BegunRequest). id_of b.stamp) one)

  -- One of the start, and a later one

  -- a request that was begun at a gatekeeper was begun in its session
  begun-in-session : (r : ℕ) (request : Request) → request_at script r ≡ Some request → (begun : BegunRequest) → Contains (all_begun start) begun
      → begun.request ≡ r → IsTrue (has_begun_in r (session_log start request.session))
  begun-in-session r request at_r begun h is =
      at (find of_session (begins_in log)) refl (find of_gates (all_begun start)) refl (run.runs.at_start.sessions.stamps r request at_r)
    where
      log : List SessionEntry
      log = session_log start request.session

      of_session : ℕ × Stamp → Bool
      of_session begin = begin.0 == r

      of_gates : BegunRequest → Bool
      of_gates other = other.request == r

      at : (found : Option (ℕ × Stamp)) → find of_session (begins_in log) ≡ found → (there : Option BegunRequest) → find of_gates (all_begun start) ≡ there
          → option_map (λ (begin : ℕ × Stamp). begin.1) found ≡ option_map (λ (other : BegunRequest). other.stamp) there
          → IsTrue (list_any of_session (begins_in log))
      at (Some begin) e there f same = let has = find_has of_session (begins_in log) begin e in any_from of_session (begins_in log) begin has.0 has.1
      at None e (Some other) f same = absurd cc
      at None e None f same = absurd (find_lacks of_gates (all_begun start) begun f h (eq-eqb begun.request r is))

  -- what a gatekeeper had ended at the start was judged there, if it is a transaction
  ended-judged : (home : ℕ) (before : List GateEntry) (author : ℕ) (deed : GateDeed) (after : List GateEntry)
      → gate_log start home ≡ before ++ record { author = author; deed = deed } ∷ after → (r : ℕ) → Contains (ended_by deed) r
      → (other : ℕ) (tx : BegunRequest) → Contains (txs_of (gate_log closed other)) tx → tx.request ≡ r
      → (judged : Judgement) × Contains (judgements_of start.store) judged × (judged.request ≡ r)
  ended-judged home before author (Sent q messages) after at r h other tx there is =
      let sends = run.runs.at_start.channels home before (record { author = author; deed = Sent q messages }) after at in
      (sends.judged, sends.is_judged, sends.request_is ∙ only q r h)
  ended-judged home before author (Finished q) after at r h other tx there is =
      let ends = run.laws.ends home script.shards (gate_log start home) (run.runs.at_start.gatekeepers.logs home)
      before (record { author = author; deed = Finished q }) after at in
      let from = flat_has (λ (e : GateEntry). program_by e.author e.deed) before _ ends.1 in
      let given = has-on before (gate_log start home) (record { author = author; deed = Finished q } ∷ after, at) from.0 from.1 in
      let program = has_flat (λ (e : GateEntry). program_by e.author e.deed) (gate_log closed home) from.0 _
      (has-on (gate_log start home) (gate_log closed home) (gates-on run home) from.0 given) from.2 in
      absurd (not-both run other home tx _ there program (is ∙ sym (only q r h)))
  ended-judged home before author (BeganTx q stamp) after at r h other tx there is = absurd (has_none r h)
  ended-judged home before author (BeganProgram q stamp) after at r h other tx there is = absurd (has_none r h)
  ended-judged home before author (Nop shard n stamp low) after at r h other tx there is = absurd (has_none r h)
  ended-judged home before author (Heard clock) after at r h other tx there is = absurd (has_none r h)
  ended-judged home before author (Raised epoch) after at r h other tx there is = absurd (has_none r h)

  module _ (before : List StoreEntry) (entry : StoreEntry) (after : List StoreEntry) (at : closed.store ≡ before ++ entry ∷ after)
      (mine : IsStoreByHand run before entry entry.author) (judged : Judgement) (h : Contains (judgements_of start.store) judged) where
    abbrev later : Judgement
    later = judgement entry

    -- the later one had not ended at the start
    not-ended : (home : ℕ) → ¬ IsTrue (has_ended_in later.request (gate_log start home))
    not-ended home ended =
        let log = gate_log start home in
        let some = any_has (λ r. r == later.request) (ended_in log) ended in
        let from = flat_has (λ (e : GateEntry). ended_by e.deed) log some.0 some.1 in
        let cut = cut_at log from.0 from.1 in
        let tx = tx-of-hand before entry mine in
        let is = eqb-true some.0 later.request some.2 in
        let early = ended-judged home cut.before (from.0).author (from.0).deed cut.after cut.is some.0 from.2 tx.0 _ tx.1 (sym is) in
        not-again before entry after at mine early.0 early.1 (early.2 ∙ is)

    -- if its session had begun it at the start, it was in flight
    in-flight : (request : Request) → request_at script later.request ≡ Some request
        → IsTrue (has_begun_in later.request (session_log start request.session))
        → IsTrue (is_some_and (λ (flight : BegunRequest). flight.request == later.request) (flight_of (gate_log start request.gate)))
    in-flight request at_request begun =
        let has = has-change script later request at_request (work-all run later
        (has_map judgement closed.store entry (subst (λ l. Contains l entry) (sym at) (has_cut before entry after)))) in
        let flies = is_some_and (λ (flight : BegunRequest). flight.request == later.request) (flight_of (gate_log start request.gate)) in
        let says : has_ended_in later.request (gate_log start request.gate) ≡ not flies =
        run.laws.sent script start run.limits run.runs.at_start later.request request at_request has begun in
        elim (cases_Bool flies) [
          | inl there ↦ there
          | inr none ↦ absurd (not-ended request.gate (says ∙ ap not none))
        ]

    flying : (home : ℕ) (flight : Option BegunRequest) → flight_of (gate_log start home) ≡ flight
        → IsTrue (is_some_and (λ (flight : BegunRequest). flight.request == later.request) flight) → InTurn script judged.request later.request
    flying home None at_flight is = absurd cc
    flying home (Some flight) at_flight is =
        let same = eqb-true flight.request later.request is in
        subst (InTurn script judged.request) same
        (run.laws.before_flight script start run.limits run.runs.at_start home flight at_flight judged h
        (λ one. not-again before entry after at mine judged h (one ∙ same)))

    -- so it comes after each one of its session that was judged at the start
    start-first : InTurn script judged.request later.request
    start-first session =
        let of = of-one script judged.request later.request session in
        let log = session_log start of.second.session in
        elim (cases_Bool (has_begun_in later.request log)) [
          | inl begun ↦
              flying of.second.gate (flight_of (gate_log start of.second.gate)) refl (in-flight of.second of.at_second begun) session
          | inr new ↦
              let requests = requests_of_session script of.second.session in
              let begins = run.laws.first_begun of.second.session requests log (run.runs.at_start.sessions.logs of.second.session) in
              let all = run.laws.begun_judged script start run.limits run.runs.at_start judged h in
              let early = begun-in-session judged.request of.first of.at_first _ all refl in
              after-first (session_of requests log).begun requests (run.laws.rise script of.second.session) judged.request later.request
              (subst (λ l. Contains l judged.request) begins
              ((run.laws.has_begun judged.request log).0 (subst (λ s. IsTrue (has_begun_in judged.request (session_log start s))) of.session early)))
              (run.laws.among script later.request of.second of.at_second)
              (λ near. both_ways (has_begun_in later.request log) new
              ((run.laws.has_begun later.request log).1 (subst (λ l. Contains l later.request) (sym begins) near)))
        ]

  -- Two since the start

  -- they are of one hand if they are of one session
  since-turn : (before mid after : List StoreEntry) (e d : StoreEntry) → IsStoreByHand run before e e.author
      → IsStoreByHand run (before ++ e ∷ mid) d d.author → length start.store ≤ length before → (x y : Judgement)
      → Contains (judges e) x → Contains (judges d) y → Turn x y
  since-turn before mid after e d of_e of_d late x y hx hy session =
      let same_x = only (judgement e) x hx in
      let same_y = only (judgement d) y hy in
      let of = of-one script x.request y.request session in
      let given_e = run.runs.own_sessions e.author of_e.known x.request
      (inr (judgement e, own-judged run before e e.author of_e, ap (λ (j : Judgement). j.request) same_x)) of.first of.at_first in
      let given_d = run.runs.own_sessions d.author of_d.known y.request
      (inr (judgement d, own-judged run (before ++ e ∷ mid) d d.author of_d, ap (λ (j : Judgement). j.request) same_y)) of.second of.at_second in
      let authors : e.author ≡ d.author = sym given_e ∙ ap run.runs.hand_of of.session ∙ given_d in
      let by_d = λ (j : Judgement). j.author == d.author in
      let log = (seen_by d.author).store in
      pair-since Turn judges by_d start.store log (starts run d.author of_d.known).store
      (subst (λ l. AllPairs Turn (filter by_d l)) (sym (flat_map_single judgement (entries_since start.store log))) (follows run d.author of_d.known).in_turn)
      before mid of_d.rest e d of_d.at late x y hx hy
      (eq-eqb x.author d.author (sym (ap (λ (j : Judgement). j.author) same_x) ∙ judged-author e.author e.deed ∙ authors))
      (eq-eqb y.author d.author (sym (ap (λ (j : Judgement). j.author) same_y) ∙ judged-author d.author d.deed)) session

  store-turn : (before mid after : List StoreEntry) (e d : StoreEntry) → closed.store ≡ before ++ e ∷ (mid ++ d ∷ after) → Across Turn judges e d
  store-turn before mid after e d at x y hx hy =
      let at_d : closed.store ≡ (before ++ e ∷ mid) ++ d ∷ after = at ∙ sym (append_assoc before (e ∷ mid) (d ∷ after)) in
      elim (store-case run (before ++ e ∷ mid) d after at_d) [
        | inl given ↦
            pair-there Turn judges start.store
            (subst (AllPairs Turn) (sym (flat_map_single judgement start.store)) run.runs.at_start.store.in_turn) before mid given.0 e d given.1 x y hx hy
        | inr of_d ↦ (elim (less-or (length before) (length start.store)) [
          | inl early ↦
              let place = earlier-place start.store closed.store (store-on run) before e (mid ++ d ∷ after) at early in
              let there = has_map judgement start.store e (subst (λ l. Contains l e) (sym place.1) (has_cut before e place.0)) in
              let turn = start-first (before ++ e ∷ mid) d after at_d of_d (judgement e) there in
              subst (λ (j : Judgement). Turn j y) (only (judgement e) x hx) (subst (λ (j : Judgement). Turn (judgement e) j) (only (judgement d) y hy) turn)
          | inr late ↦
              since-turn before mid after e d (store-by run before e (mid ++ d ∷ after) at late e.author refl) of_d late x y hx hy
        ])
      ]

  -- all judgements in the closed log of the store are in turn
  pub turn-all : AllPairs (λ (a b : Judgement). InTurn script a.request b.request) (judgements_of closed.store)
  turn-all =
      subst (AllPairs Turn) (flat_map_single judgement closed.store)
      (flat-pairs Turn judges closed.store (λ entry h. pairs-one Turn (judgement entry)) (pairs-by-places (Across Turn judges) closed.store store-turn))
