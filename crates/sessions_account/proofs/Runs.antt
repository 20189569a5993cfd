-- A run by hands that served their sessions, and what each hand gained in it; the closed logs have nothing else.
-- Used by `hands_visit_for_their_sessions`, Closed, Ends, Follows, Programs, SessionLogs and Visits.
use Rattle.std.proofs.Common.{◌≡◌, ℕ, ◌<◌, ◌==◌, eq-eqb, Bool, List, ◌∷◌, ◌++◌, length, drop, Contains, ◌⊎◌, inl, inr, refl, sym, ap, subst, ◌∙◌, arith}
use Rattle.std.specs.List.{filter}
use Rattle.std.proofs.lemmas.List.Elements.{Contains-append_cases, Contains-append_right}
use Rattle.std.proofs.Math.Seq.{drop-append_seam}
use Rattle.weave_data.proofs.Members.{cut_at, filter_has, has_filter, has_cut}
use Rattle.program_defs.specs.declared.script.Script.{Script}
use Rattle.weave_entries.specs.declared.gate_log.GateEntry.{GateEntry}
use Rattle.weave_entries.specs.declared.store_log.StoreEntry.{StoreEntry}
use Rattle.weave_entries.specs.GateReplay.{BegunRequest, begun_in}
use Rattle.weave_entries.specs.StoreReplay.{Judgement, judgements_of}
use Rattle.weave_account.specs.declared.account.Account.{Account}
use Rattle.weave_account.specs.Account.{gate_log}
use Rattle.weave_account.specs.GoesOn.{IsBeginningOf}
use Rattle.weave_account.proofs.GoesOn.{onward}
use Rattle.hands_account.specs.Runs.{own_begun, own_judgements}
use Rattle.hands_account.proofs.Places.{in-back}
use Rattle.seen_logs.specs.Seen.{IsOwn, VisitsOwnPrograms, entries_since, without_sessions}
use Rattle.seen_logs.proofs.Onward.{earlier-place}
use Rattle.weaver_core.specs.declared.client.Client.{Client}
use Rattle.weaver_locks.specs.declared.hand.Hand.{Hand}
use Rattle.weaver_locks.specs.declared.shared.Shared.{Shared}
use Rattle.weaver_locks.specs.Closing.{seen_by_number}
use Rattle.weaver_locks.specs.Hands.{hand_number, made_by, seen_by}
use Rattle.weaver_locks.specs.Locks.{hands_of, start_of}
use Rattle.weaver_locks.proofs.EachLog.{row-at}
use Rattle.workers_account.specs.Phase.{IsClosedBy}
use Rattle.workers_account.proofs.OwnSince.{begun-by-author, judged-by-author, own-gained}
use Rattle.sessions_account.specs.Histories.{Stands, HasSession, IsHistoryOf, IsServedBy}
use Rattle.sessions_account.specs.SessionsLaws.{SessionsLaws}
use Rattle.sessions_account.proofs.Gains.{HasGained}
use Rattle.sessions_account.proofs.Leading.{served-on}

-- a run by hands that served their sessions
pub record Run : Type 0 where
  pub laws : SessionsLaws
  pub shared : Shared
  pub script : Script
  pub upto : ℕ
  pub start : Account
  pub was : List Client
  pub is : List Client
  pub hands : List Hand
  pub served : IsServedBy shared script upto start was is hands

module _ (x : Run) where
  abbrev pub HistoryOf : Hand → Type 0
  HistoryOf hand = IsHistoryOf x.shared x.script x.upto x.served.hand_of x.was x.is hand

  abbrev pub history : (hand : Hand) → Contains x.hands hand → HistoryOf hand
  history hand h = x.served.histories hand h

  -- a hand at the end, with its clients
  abbrev pub at-end : (hand : Hand) → Contains x.hands hand → Stands
  at-end hand h = record { hand = hand; clients = (history hand h).left }

  -- each hand of a run has gained, from its start to its end, what its history says
  pub part : (hand : Hand) (h : Contains x.hands hand) → HasGained x.shared x.script x.served.hand_of (history hand h).from (at-end hand h)
  part hand h =
      served-on x.laws x.shared x.script x.upto x.start x.was x.served.hand_of x.served.at_start (history hand h).from (at-end hand h)
      (history hand h).path (history hand h).may_begin (history hand h).went

  -- the hand with a number
  pub record OfNumber (number : ℕ) : Type 0 where
    pub hand : Hand
    pub there : Contains x.hands hand
    pub number_is : hand_number hand ≡ number
    pub seen_is : seen_by_number x.hands number ≡ seen_by hand

  -- there is a hand of each number, and what was seen by the number is what that hand has seen
  pub of-number : (number : ℕ) → number < hands_of x.shared → OfNumber number
  of-number number low =
      let one = x.laws.phase.found x.hands number (x.served.all number low) in
      record { hand = one.0; there = one.1; number_is = one.2; seen_is = one.3 }

  -- each hand's visits are of its own programs
  pub own-visits : (number : ℕ) → number < hands_of x.shared → VisitsOwnPrograms number (start_of x.shared) (seen_by_number x.hands number)
  own-visits number low =
      let one = of-number number low in
      subst (λ (y : ℕ × Account). VisitsOwnPrograms y.0 (start_of x.shared) y.1) (λ i. (one.number_is i, sym one.seen_is i))
      (part one.hand one.there).visits

  module _ (hand : Hand) (h : Contains x.hands hand) where
    abbrev number : ℕ
    number = hand_number hand

    abbrev from : Hand
    from = (history hand h).from.hand

    abbrev own : GateEntry → Bool
    own = λ (e : GateEntry). e.author == number

    abbrev own-stored : StoreEntry → Bool
    own-stored = λ (e : StoreEntry). e.author == number

    -- the hand's sessions, by the number that it had
    pub given-from : (s : ℕ) → HasSession x.served.hand_of number s → HasSession x.served.hand_of (hand_number from) s
    given-from s given = (given.0, given.1 ∙ sym (history hand h).number_is)

    -- and the other way round, by the number that it has now
    pub given-now : (s : ℕ) → HasSession x.served.hand_of (hand_number from) s → HasSession x.served.hand_of number s
    given-now s given = (given.0, given.1 ∙ (history hand h).number_is)

    -- at the start it had seen the logs of the start
    pub seen-start : seen_by from ≡ without_sessions x.start
    seen-start = (history hand h).may_begin.seen ∙ x.served.at_start.start_is

    -- what it had made then was there
    pub made-start : (home : ℕ) → gate_log (made_by from) home ≡ filter own (gate_log x.start home)
    made-start home =
        x.laws.phase.own_at_gate x.shared from (history hand h).may_begin.is_hand home
        ∙ ap (λ (n : ℕ). filter (λ (e : GateEntry). e.author == n) (gate_log (seen_by from) home)) (history hand h).number_is
        ∙ ap (λ (a : Account). filter own (gate_log a home)) seen-start

    stored-start : (made_by from).store ≡ filter own-stored x.start.store
    stored-start =
        ap (λ (a : Account). a.store) (x.laws.phase.own x.shared from (history hand h).may_begin.is_hand)
        ∙ ap (λ (n : ℕ). filter (λ (e : StoreEntry). e.author == n) (seen_by from).store) (history hand h).number_is
        ∙ ap (λ (a : Account). filter own-stored a.store) seen-start

    -- what it has seen goes on from the start
    pub seen-on : (home : ℕ) → IsBeginningOf (gate_log x.start home) (gate_log (seen_by hand) home)
    seen-on home = subst (λ (a : Account). IsBeginningOf (gate_log a home) (gate_log (seen_by hand) home)) seen-start ((part hand h).more.gates home)

    stored-on : IsBeginningOf x.start.store (seen_by hand).store
    stored-on = subst (λ (a : Account). IsBeginningOf a.store (seen_by hand).store) seen-start (part hand h).more.store

    -- its own entries among what it has seen since are those that it made since
    pub own-since : (home : ℕ) → filter own (seen-on home).0 ≡ (part hand h).gates home
    own-since home =
        own-gained own (gate_log x.start home) (seen-on home).0 (gate_log (made_by from) home) ((part hand h).gates home) (made-start home)
        (ap (filter own) (sym (seen-on home).1) ∙ sym (x.laws.phase.own_at_gate x.shared hand (part hand h).is_hand home) ∙ (part hand h).at_gates home)

    own-stored-since : filter own-stored stored-on.0 ≡ (part hand h).store
    own-stored-since =
        own-gained own-stored x.start.store stored-on.0 (made_by from).store (part hand h).store stored-start
        (ap (filter own-stored) (sym stored-on.1) ∙ sym (ap (λ (a : Account). a.store) (x.laws.phase.own x.shared hand (part hand h).is_hand))
        ∙ (part hand h).at_store)

    -- so what the definitions on runs by hands say it began and judged is what it gained
    pub since-is : (home : ℕ) → entries_since (gate_log x.start home) (gate_log (seen_by hand) home) ≡ (seen-on home).0
    since-is home = ap (drop (length (gate_log x.start home))) (seen-on home).1 ∙ drop-append_seam (gate_log x.start home) (seen-on home).0

    -- what the hand began since the start at a gatekeeper is what it gained there
    pub own-begun-is : (home : ℕ) → own_begun number x.start (seen_by hand) home ≡ begun_in ((part hand h).gates home)
    own-begun-is home =
        ap (λ log. filter (λ (b : BegunRequest). b.author == number) (begun_in log)) (since-is home)
        ∙ begun-by-author number (seen-on home).0 ∙ ap begun_in (own-since home)

    -- what it judged since the start is what it gained at the store
    pub own-judgements-are : own_judgements number x.start (seen_by hand) ≡ judgements_of (part hand h).store
    own-judgements-are =
        ap (λ log. filter (λ (j : Judgement). j.author == number) (judgements_of log))
        (ap (drop (length x.start.store)) stored-on.1 ∙ drop-append_seam x.start.store stored-on.0)
        ∙ judged-by-author number stored-on.0 ∙ ap judgements_of own-stored-since

    -- an entry of the hand since the start is one that it gained
    pub own-entry : (home : ℕ) (before : List GateEntry) (entry : GateEntry) (after : List GateEntry) → gate_log (seen_by hand) home ≡ before ++ entry ∷ after
        → IsOwn number (gate_log x.start home) before entry.author → Contains ((part hand h).gates home) entry
    own-entry home before entry after at mine =
        let back = in-back (gate_log x.start home) (seen-on home).0 before after entry (sym (seen-on home).1 ∙ at) mine.1 in
        subst (λ (l : List GateEntry). Contains l entry) (own-since home)
        (has_filter own (seen-on home).0 entry
        (subst (λ (l : List GateEntry). Contains l entry) (sym back.2) (has_cut back.0 entry after)) (eq-eqb entry.author number mine.0))

  -- The closed logs
  module _ (closed : Account) (end : IsClosedBy x.shared x.script x.start x.is x.hands closed) where
    -- the logs of the start go on
    pub gates-on : (home : ℕ) → IsBeginningOf (gate_log x.start home) (gate_log closed home)
    gates-on home =
        let some = end.of_hands.some in
        onward (gate_log x.start home) (gate_log (seen_by_number x.hands 0) home) (gate_log closed home)
        ((end.of_hands.seen 0 (omega (arith, some))).starts.gates home) ((end.of_hands.within 0 (omega (arith, some))).gates home)

    all-made : (hand : Hand) (h : Contains x.hands hand) (home : ℕ) → filter (λ (e : GateEntry). e.author == hand_number hand) (gate_log closed home)
        ≡ gate_log (made_by (history hand h).from.hand) home ++ (part hand h).gates home
    all-made hand h home =
        sym (row-at (filter (λ (e : GateEntry). e.author == hand_number hand)) refl closed.gates home)
        ∙ ap (λ (a : Account). gate_log a home) (end.made hand h) ∙ (part hand h).at_gates home

    -- what a hand made is in the closed logs
    pub made-there : (hand : Hand) (h : Contains x.hands hand) (home : ℕ) (entry : GateEntry) → Contains ((part hand h).gates home) entry
        → Contains (gate_log closed home) entry
    made-there hand h home entry there =
        (filter_has (λ (e : GateEntry). e.author == hand_number hand) (gate_log closed home) entry
        (subst (λ (l : List GateEntry). Contains l entry) (sym (all-made hand h home))
        (Contains-append_right (gate_log (made_by (history hand h).from.hand) home) ((part hand h).gates home) entry there))).0

    -- an entry was there at the start, or is one that a hand made since
    pub gate-entry : (home : ℕ) (entry : GateEntry) → Contains (gate_log closed home) entry → Contains (gate_log x.start home) entry
        ⊎ ((hand : Hand) × (h : Contains x.hands hand) × Contains ((part hand h).gates home) entry)
    gate-entry home entry h =
        let cut = cut_at (gate_log closed home) entry h in
        elim (end.of_hands.gate_entries home cut.before entry cut.after cut.is) [
          | inl early ↦
              let place = earlier-place (gate_log x.start home) (gate_log closed home) (gates-on home) cut.before entry cut.after cut.is early in
              inl (subst (λ l. Contains l entry) (sym place.1) (has_cut cut.before entry place.0))
          | inr of ↦
              let one = of-number entry.author of.0 in
              let own = λ (e : GateEntry). e.author == hand_number one.hand in
              let mine = subst (λ l. Contains l entry) (all-made one.hand one.there home)
              (has_filter own (gate_log closed home) entry h (eq-eqb entry.author (hand_number one.hand) (sym one.number_is))) in
              elim (Contains-append_cases (gate_log (made_by (history one.hand one.there).from.hand) home) ((part one.hand one.there).gates home) entry mine) [
                | inl before ↦ inl ((filter_has own (gate_log x.start home) entry
                    (subst (λ l. Contains l entry) (made-start one.hand one.there home) before)).0)
                | inr now ↦ inr (one.hand, one.there, now)
              ]
        ]
