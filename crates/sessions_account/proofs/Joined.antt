-- If a hand and its sessions gained matching entries in some calls, and then in others, they gained them in all; and
-- sessions that have the same request are the same.
-- Used by Leading, Served and Visits.
use Rattle.std.proofs.Common.{◌≡◌, ◌≢◌, ◌⊎◌, inl, inr, ℕ, ◌<◌, ◌==◌, Bool, List, ◌++◌, length, AllPairs, Contains, IsTrue, Option, Some, sym, ap, ◌∙◌, subst, append_assoc, arith}
use Rattle.std.proofs.lemmas.Bool.{cases_eq, eqb-true}
use Rattle.std.proofs.lemmas.List.{map-append}
use Rattle.std.proofs.lemmas.List.Concat.{flat_map-append}
use Rattle.std.proofs.lemmas.List.Elements.{Contains-append_cases}
use Rattle.std.proofs.lemmas.Option.{same_Some}
use Rattle.seen_logs.proofs.Within.{all-later}
use Rattle.seen_logs.proofs.Placed.{pairs-append}
use Rattle.seen_logs.proofs.Onward.{earlier-place}
use Rattle.hands_account.proofs.Places.{less-or}
use Rattle.vector_stamp.specs.declared.clock.Stamp.{Stamp}
use Rattle.program_defs.specs.declared.script.Request.{Request}
use Rattle.program_defs.specs.declared.script.Script.{Script}
use Rattle.report_rules.specs.Lookups.{are_both, request_at}
use Rattle.weave_entries.specs.declared.gate_log.GateEntry.{GateEntry}
use Rattle.weave_entries.specs.declared.session_log.SessionEntry.{SessionEntry}
use Rattle.weave_entries.specs.declared.store_log.StoreEntry.{StoreEntry}
use Rattle.weave_entries.specs.GateReplay.{begun_in}
use Rattle.weave_entries.specs.SessionReplay.{IsSessionLog, begins_in, replied_in}
use Rattle.weave_entries.specs.StoreReplay.{Judgement, judgements_of}
use Rattle.weave_account.specs.Account.{gate_log}
use Rattle.weave_account.specs.Sessions.{requests_of_session}
use Rattle.weave_account.specs.Store.{InTurn}
use Rattle.weaver_core.specs.Sessions.{log_of_client}
use Rattle.weaver_locks.specs.declared.shared.Shared.{Shared}
use Rattle.weaver_locks.specs.Hands.{hand_number, made_by, seen_by}
use Rattle.weaver_workers.specs.Keeping.{KeepsClient}
use Rattle.workers_account.specs.Gained.{IsJudgedFor}
use Rattle.workers_account.specs.PhaseLaws.{PhaseLaws}
use Rattle.workers_account.proofs.BegunHolds.{begins-later as deed-later}
use Rattle.workers_account.proofs.Ended.{replied-later, replied-on}
use Rattle.workers_account.proofs.SessionLogs.{begins-later, begins-on, begins-rise, begun-here, later-differs}
use Rattle.sessions_account.specs.Histories.{Stands, HasSession}
use Rattle.sessions_account.proofs.Gains.{AreLogged, BeginsForSome, HasGained, IsRequestOf, OfSome}
use Rattle.workers_account.proofs.JoinGains.{begun_of, either-made, ended_of, first-made, judgement_of, second-made, where-there}
use Rattle.hands_account.proofs.Once.{Differ}

-- sessions that have the same request are the same
pub same-sessions : (script : Script) (s t a b : ℕ) → IsRequestOf script s a → IsRequestOf script t b → a ≡ b → s ≡ t
same-sessions script s t a b one two same =
    sym one.2 ∙ ap (λ (x : Request). x.session) (same_Some one.0 two.0 (sym one.1 ∙ ap (request_at script) same ∙ two.1)) ∙ two.2

module _ (laws : PhaseLaws) (script : Script) (hand_of : ℕ → ℕ) (number : ℕ) (gates more_gates : ℕ → List GateEntry)
    (store more_store : List StoreEntry) (old logs more_logs : ℕ → List SessionEntry)
    (right : (s : ℕ) → HasSession hand_of number s → IsSessionLog s (requests_of_session script s) ((old s ++ logs s) ++ more_logs s))
    (first : AreLogged script hand_of number gates store logs) (second : AreLogged script hand_of number more_gates more_store more_logs) where
  whole : ℕ → List SessionEntry
  whole s = (old s ++ logs s) ++ more_logs s

  -- of a session what was begun first comes before what was begun then
  earlier : (s : ℕ) → HasSession hand_of number s → (r q : ℕ) (a b : Stamp) → Contains (begins_in (logs s)) (r, a)
      → Contains (begins_in (more_logs s)) (q, b) → r < q
  earlier s given r q a b ha hb =
      later-differs (old s ++ logs s) (more_logs s) (begins-rise laws script s ((old s ++ logs s) ++ more_logs s) (right s given)) r q a b
      (begins-later (old s) (logs s) r a ha) hb

  of-first : (s : ℕ) → HasSession hand_of number s → (r : ℕ) (a : Stamp) → Contains (begins_in (logs s)) (r, a) → IsRequestOf script s r
  of-first s given r a h =
      begun-here laws script s ((old s ++ logs s) ++ more_logs s) (right s given) r a
      (begins-on (old s ++ logs s) (more_logs s) r a (begins-later (old s) (logs s) r a h))

  of-second : (s : ℕ) → HasSession hand_of number s → (r : ℕ) (a : Stamp) → Contains (begins_in (more_logs s)) (r, a) → IsRequestOf script s r
  of-second s given r a h =
      begun-here laws script s ((old s ++ logs s) ++ more_logs s) (right s given) r a (begins-later (old s ++ logs s) (more_logs s) r a h)

  abbrev LoggedFirst : ℕ → Stamp → Type 0
  LoggedFirst r a = OfSome hand_of number (λ s. Contains (begins_in (logs s)) (r, a))

  abbrev LoggedThen : ℕ → Stamp → Type 0
  LoggedThen r a = OfSome hand_of number (λ s. Contains (begins_in (more_logs s)) (r, a))

  -- no request was begun in both
  differ : (r q : ℕ) (a b : Stamp) → LoggedFirst r a → LoggedThen q b → r ≢ q
  differ r q a b one two same = elim (cases_eq one.0 two.0) [
    | inl is ↦ (let less = earlier two.0 two.1 r q a b (subst (λ (s : ℕ). Contains (begins_in (logs s)) (r, a)) is one.2) two.2 in
        omega (arith, less, same))
    | inr other ↦ other (same-sessions script one.0 two.0 r q (of-first one.0 one.1 r a one.2) (of-second two.0 two.1 q b two.2) same)
  ]

  -- those of one session are in its order
  in-order : (r q : ℕ) (a b : Stamp) → LoggedFirst r a → LoggedThen q b → InTurn script r q
  in-order r q a b one two both = elim (cases_eq one.0 two.0) [
    | inl is ↦ earlier two.0 two.1 r q a b (subst (λ (s : ℕ). Contains (begins_in (logs s)) (r, a)) is one.2) two.2
    | inr other ↦ (let x = of-first one.0 one.1 r a one.2 in let y = of-second two.0 two.1 q b two.2 in
        let test : Option Request → Option Request → Bool = are_both (λ (m : Request) (n : Request). m.session == n.session) in
        let same : IsTrue (x.0.session == y.0.session) = subst (λ (o : Option Request). IsTrue (test (Some x.0) o)) y.1
        (subst (λ (o : Option Request). IsTrue (test o (request_at script q))) x.1 both) in
        absurd (other (sym x.2 ∙ eqb-true x.0.session y.0.session same ∙ y.2)))
  ]

  judged-first : (s : ℕ) (judged : Judgement) → IsJudgedFor script (logs s) judged → IsJudgedFor script (logs s ++ more_logs s) judged
  judged-first s judged for = record { work = for.work; begun = begins-on (logs s) (more_logs s) judged.request judged.stamp for.begun }

  judged-then : (s : ℕ) (judged : Judgement) → IsJudgedFor script (more_logs s) judged → IsJudgedFor script (logs s ++ more_logs s) judged
  judged-then s judged for = record { work = for.work; begun = begins-later (logs s) (more_logs s) judged.request judged.stamp for.begun }

  -- if a hand's entries match its sessions' entries in each of two parts, they match in both together
  pub both-logged : AreLogged script hand_of number (λ home. gates home ++ more_gates home) (store ++ more_store) (λ s. logs s ++ more_logs s)
  both-logged = record {
    begun = λ home begun h. elim (either-made begun_of (gates home) (more_gates home) begun h) [
      | inl was ↦ (let one = first.begun home begun was in (one.0, one.1, begins-on (logs one.0) (more_logs one.0) begun.request begun.stamp one.2))
      | inr now ↦ (let one = second.begun home begun now in (one.0, one.1, begins-later (logs one.0) (more_logs one.0) begun.request begun.stamp one.2))
    ];
    at_gate = λ s r stamp h. elim (begins-cases' s r stamp h) [
      | inl was ↦ where-there (request_at script r) (λ (request : Request) k. first-made begun_of (gates request.gate) (more_gates request.gate)
          (record { author = number; request = r; stamp = stamp }) k) (first.at_gate s r stamp was)
      | inr now ↦ where-there (request_at script r) (λ (request : Request) k. second-made begun_of (gates request.gate) (more_gates request.gate)
          (record { author = number; request = r; stamp = stamp }) k) (second.at_gate s r stamp now)
    ];
    ended = λ home r h. elim (either-made ended_of (gates home) (more_gates home) r h) [
      | inl was ↦ (let one = first.ended home r was in (one.0, one.1, replied-on (logs one.0) (more_logs one.0) r one.2))
      | inr now ↦ (let one = second.ended home r now in (one.0, one.1, replied-later (logs one.0) (more_logs one.0) r one.2))
    ];
    replied = λ s r h. elim (replied-cases' s r h) [
      | inl was ↦ (let at = first.replied s r was in (at.0, first-made ended_of (gates at.0) (more_gates at.0) r at.1))
      | inr now ↦ (let at = second.replied s r now in (at.0, second-made ended_of (gates at.0) (more_gates at.0) r at.1))
    ];
    judged = λ judged h. elim (Contains-append_cases (judgements_of store) (judgements_of more_store) judged
        (subst (λ (l : List Judgement). Contains l judged) (map-append judgement_of store more_store) h)) [
          | inl was ↦ (let one = first.judged judged was in (one.0, one.1, judged-first one.0 judged one.2))
          | inr now ↦ (let one = second.judged judged now in (one.0, one.1, judged-then one.0 judged one.2))
        ];
    once = λ home. subst (AllPairs Differ) (sym (flat_map-append begun_of (gates home) (more_gates home)))
        (pairs-append Differ (begun_in (gates home)) (begun_in (more_gates home)) (first.once home) (second.once home)
        (λ a b h k. differ a.request b.request a.stamp b.stamp (first.begun home a h) (second.begun home b k)));
    in_turn = subst (AllPairs (λ (a b : Judgement). InTurn script a.request b.request)) (sym (map-append judgement_of store more_store))
        (pairs-append (λ (a b : Judgement). InTurn script a.request b.request) (judgements_of store) (judgements_of more_store) first.in_turn second.in_turn
        (λ a b h k. (let one = first.judged a h in let two = second.judged b k in
        in-order a.request b.request a.stamp b.stamp (one.0, one.1, one.2.begun) (two.0, two.1, two.2.begun))));
  }
    where
      begins-cases' : (s r : ℕ) (stamp : Stamp) → Contains (begins_in (logs s ++ more_logs s)) (r, stamp)
          → Contains (begins_in (logs s)) (r, stamp) ⊎ Contains (begins_in (more_logs s)) (r, stamp)
      begins-cases' s r stamp h = either-made _ (logs s) (more_logs s) (r, stamp) h

      replied-cases' : (s r : ℕ) → Contains (replied_in (logs s ++ more_logs s)) r
          → Contains (replied_in (logs s)) r ⊎ Contains (replied_in (more_logs s)) r
      replied-cases' s r h = either-made _ (logs s) (more_logs s) r h

-- Calls

module _ (laws : PhaseLaws) (shared : Shared) (script : Script) (hand_of : ℕ → ℕ) (old mid new : Stands)
    (first : HasGained shared script hand_of old mid) (second : HasGained shared script hand_of mid new) where
  abbrev number : ℕ
  number = hand_number old.hand

  -- by the number that the hand had
  given-mid : (s : ℕ) → HasSession hand_of number s → HasSession hand_of (hand_number mid.hand) s
  given-mid s given = (given.0, given.1 ∙ sym first.number_is)

  given-back : (s : ℕ) → HasSession hand_of (hand_number mid.hand) s → HasSession hand_of number s
  given-back s given = (given.0, given.1 ∙ first.number_is)

  second-logged : AreLogged script hand_of number second.gates second.store second.logs
  second-logged = subst (λ (n : ℕ). AreLogged script hand_of n second.gates second.store second.logs) first.number_is second.logged

  logs-are : (s : ℕ) → log_of_client (new.clients s) ≡ (log_of_client (old.clients s) ++ first.logs s) ++ second.logs s
  logs-are s = second.in_logs s ∙ ap (λ l. l ++ second.logs s) (first.in_logs s)

  right : (s : ℕ) → HasSession hand_of number s
      → IsSessionLog s (requests_of_session script s) ((log_of_client (old.clients s) ++ first.logs s) ++ second.logs s)
  right s given =
      let keeps : KeepsClient shared script s new.hand (new.clients s) = second.keeps s (given.0, given.1 ∙ sym (second.number_is ∙ first.number_is)) in
      subst (λ (l : List SessionEntry). IsSessionLog s (requests_of_session script s) l) (logs-are s)
      (subst (λ (rs : List ℕ). IsSessionLog s rs (log_of_client (new.clients s))) keeps.requests keeps.at_end.right)

  begins-still : (home : ℕ) (before : List GateEntry) (entry : GateEntry) → BeginsForSome script hand_of number mid home before entry
      → BeginsForSome script hand_of number new home before entry
  begins-still home before entry (inl none) = inl none
  begins-still home before entry (inr one) = inr (
    one.0,
    one.1,
    deed-later script one.0 home before (log_of_client (mid.clients one.0)) (log_of_client (new.clients one.0))
        (second.logs one.0, second.in_logs one.0) entry.deed one.2,
  )

  begins-now : (home : ℕ) (before : List GateEntry) (entry : GateEntry)
      → BeginsForSome script hand_of (hand_number mid.hand) new home before entry → BeginsForSome script hand_of number new home before entry
  begins-now home before entry (inl none) = inl none
  begins-now home before entry (inr one) = inr (one.0, given-back one.0 one.1, one.2)

  -- what a hand and its sessions gained in some calls, and then in others, they gained in all
  pub both-gain : HasGained shared script hand_of old new
  both-gain = record {
    number_is = second.number_is ∙ first.number_is;
    more = all-later (seen_by old.hand) (seen_by mid.hand) (seen_by new.hand) first.more second.more;
    is_hand = second.is_hand;
    landed = second.landed;
    keeps = second.keeps;
    visits = second.visits;
    gates = λ home. first.gates home ++ second.gates home;
    at_gates = λ home. second.at_gates home ∙ ap (λ l. l ++ second.gates home) (first.at_gates home)
        ∙ append_assoc (gate_log (made_by old.hand) home) (first.gates home) (second.gates home);
    store = first.store ++ second.store;
    at_store = second.at_store ∙ ap (λ l. l ++ second.store) first.at_store ∙ append_assoc (made_by old.hand).store first.store second.store;
    logs = λ s. first.logs s ++ second.logs s;
    in_logs = λ s. logs-are s ∙ append_assoc (log_of_client (old.clients s)) (first.logs s) (second.logs s);
    logged = both-logged laws script hand_of number first.gates second.gates first.store second.store (λ s. log_of_client (old.clients s))
        first.logs second.logs right first.logged second-logged;
    begins = λ home before entry after at own. elim (less-or (length before) (length (gate_log (seen_by mid.hand) home))) [
      | inl less ↦ (let there = earlier-place (gate_log (seen_by mid.hand) home) (gate_log (seen_by new.hand) home) (second.more.gates home) before entry after at less in
          begins-still home before entry (first.begins home before entry there.0 there.1 own))
      | inr late ↦ begins-now home before entry (second.begins home before entry after at (own.0 ∙ sym first.number_is, late))
    ];
    turns = λ s given r of turn. second.turns s (given-mid s given) r of (first.turns s given r of turn);
    new_turns = λ s given r stamp h. elim (either-made _ (first.logs s) (second.logs s) (r, stamp) h) [
      | inl was ↦ second.turns s (given-mid s given) r (of-old s given r stamp was) (first.new_turns s given r stamp was)
      | inr now ↦ second.new_turns s (given-mid s given) r stamp now
    ];
  }
    where
      of-old : (s : ℕ) → HasSession hand_of number s → (r : ℕ) (stamp : Stamp) → Contains (begins_in (first.logs s)) (r, stamp) → IsRequestOf script s r
      of-old s given r stamp h =
          begun-here laws script s ((log_of_client (old.clients s) ++ first.logs s) ++ second.logs s) (right s given) r stamp
          (begins-on (log_of_client (old.clients s) ++ first.logs s) (second.logs s) r stamp (begins-later (log_of_client (old.clients s)) (first.logs s) r stamp h))
