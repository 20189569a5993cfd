-- What each hand of a phase made at gatekeepers and the store since the phase's start; the closed logs of gatekeepers
-- have nothing else.
-- Used by `hands_of_a_phase_visit_their_own`, Begun, ByLog, ClosedAccount, Ended, Follows, HeardOf, HowFar, InFlight,
-- OneHand, OpenPairs, Own, OwnWorkers, PhaseEnds, Programs, SinceStart and Visited.
use Rattle.std.proofs.Common.{◌≡◌, ℕ, ◌<◌, ◌==◌, eq-eqb, List, [], ◌++◌, Contains, IsTrue, ◌⊎◌, inl, inr, refl, sym, ap, subst, ◌∙◌, arith}
use Rattle.std.specs.Prelude.{slice_get}
use Rattle.std.specs.List.{filter}
use Rattle.std.proofs.lemmas.List.{append-nil}
use Rattle.std.proofs.lemmas.List.Elements.{Contains-append_cases}
use Rattle.weave_data.proofs.Members.{cut_at, filter_has, has_filter, has_cut}
use Rattle.program_defs.specs.declared.script.Script.{Script}
use Rattle.weave_entries.specs.declared.gate_log.GateEntry.{GateEntry}
use Rattle.weave_entries.specs.declared.oracle_log.OracleEntry.{OracleEntry}
use Rattle.weave_entries.specs.declared.store_log.StoreEntry.{StoreEntry}
use Rattle.weave_entries.specs.OracleReplay.{settled_entry}
use Rattle.weave_account.specs.declared.account.Account.{Account}
use Rattle.weave_account.specs.Account.{gate_log}
use Rattle.weave_account.specs.GoesOn.{IsBeginningOf}
use Rattle.weave_account.proofs.GoesOn.{onward}
use Rattle.seen_logs.specs.Seen.{IsWithin, VisitsOwnPrograms, without_sessions}
use Rattle.seen_logs.proofs.Onward.{earlier-place}
use Rattle.weaver_core.specs.declared.client.Client.{Client}
use Rattle.weaver_locks.specs.declared.hand.Hand.{Hand}
use Rattle.weaver_locks.specs.declared.shared.Shared.{Shared}
use Rattle.weaver_locks.specs.Following.{VisitsItsOwnPrograms}
use Rattle.weaver_locks.specs.Closing.{seen_by_number}
use Rattle.weaver_locks.specs.Hands.{hand_number, made_by, seen_by, IsHand}
use Rattle.weaver_locks.specs.Locks.{hands_of, start_of}
use Rattle.weaver_locks.proofs.EachLog.{row-at}
use Rattle.weaver_workers.specs.Carrying.{is_telling}
use Rattle.weaver_workers.specs.ClientWork.{Stand}
use Rattle.weaver_workers.specs.Keeping.{HasLanded}
use Rattle.workers_account.specs.Asked.{IsBegunSince}
use Rattle.workers_account.specs.Followed.{IsFollowed}
use Rattle.workers_account.specs.Phase.{CarriedOn, FollowedOn, HasDone, IsClosedBy, IsOfSession, IsPartBy, IsPhaseRun}
use Rattle.workers_account.specs.PhaseLaws.{PhaseLaws}
use Rattle.workers_account.proofs.OwnSince.{own-gained}
use Rattle.workers_account.proofs.StepReads.{carry-unvisited}

-- a hand and a client
abbrev pub at-hand : Hand → Client → Stand
at-hand hand client = record { hand = hand; client = client }

-- the hand only passed on clocks and sent empty messages at gatekeepers, and judged nothing
pub record OnlyTold (gates : ℕ → List GateEntry) (store : List StoreEntry) : Type 0 where
  pub tells : (home : ℕ) (entry : GateEntry) → Contains (gates home) entry → IsTrue (is_telling entry.deed)
  pub none : store ≡ []

-- the hand followed a session, and these are its entries
pub record HasFollowed (shared : Shared) (script : Script) (upto : ℕ) (was is : List Client) (from hand : Hand)
    (gates : ℕ → List GateEntry) (store : List StoreEntry) (session : ℕ) : Type 0 where
  pub on : FollowedOn shared script upto was is session from hand
  pub followed : IsFollowed shared script session upto (at-hand from on.client) (at-hand hand on.left)
  pub gates_are : followed.in_step.gained.gates ≡ gates
  pub store_is : followed.in_step.gained.store ≡ store

-- a hand's part in a phase: all that it made since the start
pub record Part (shared : Shared) (script : Script) (upto : ℕ) (was is : List Client) (hand_of : ℕ → ℕ) (hand : Hand) : Type 0 where
  pub from : Hand
  pub from_is : IsHand shared from
  pub number_is : hand_number from ≡ hand_number hand
  pub seen : seen_by from ≡ start_of shared
  pub is_hand : IsHand shared hand
  pub landed : HasLanded hand
  pub more : IsWithin (seen_by from) (seen_by hand)
  pub visits : VisitsItsOwnPrograms shared hand
  pub gates : ℕ → List GateEntry
  pub at_gates : (home : ℕ) → gate_log (made_by hand) home ≡ gate_log (made_by from) home ++ gates home
  pub store : List StoreEntry
  pub at_store : (made_by hand).store ≡ (made_by from).store ++ store
  pub asked : ((made_by hand).oracle ≡ (made_by from).oracle) ⊎ ((gained : List OracleEntry)
      → (made_by hand).oracle ≡ (made_by from).oracle ++ gained → (entry : OracleEntry) → Contains gained entry
      → IsBegunSince shared hand (settled_entry entry).later)
  pub did : OnlyTold gates store ⊎ ((session : ℕ) × (hand_of session ≡ hand_number hand)
      × HasFollowed shared script upto was is from hand gates store session)

module _ (laws : PhaseLaws) (shared : Shared) (script : Script) (upto : ℕ) (start : Account) (was is : List Client) (hands : List Hand)
    (run : IsPhaseRun shared script upto start was is hands) where
  -- a part that only carried
  told : (hand : Hand) (by : IsPartBy shared script upto was is run.hand_of hand) → CarriedOn shared by.from hand
      → Part shared script upto was is run.hand_of hand
  told hand by carried = record {
    from = by.from;
    from_is = by.from_is;
    number_is = by.number_is;
    seen = by.seen;
    is_hand = carried.is_hand;
    landed = carried.landed;
    more = carried.only.more;
    visits = laws.visits_carried shared by.from hand by.from_is carried.is_hand (carry-unvisited by.from hand carried.only)
        (laws.visits_none shared by.from by.seen);
    gates = λ home. (carried.only.gates home).added;
    at_gates = λ home. (carried.only.gates home).log;
    store = [];
    at_store = carried.only.store ∙ sym (append-nil (made_by by.from).store);
    asked = inl carried.only.oracle;
    did = inl (record { tells = λ home entry h. (carried.only.gates home).pass entry h; none = refl });
  }

  -- a part that followed a session
  follows-on : (hand : Hand) (by : IsPartBy shared script upto was is run.hand_of hand) (session : ℕ) → run.hand_of session ≡ hand_number hand
      → FollowedOn shared script upto was is session by.from hand → Part shared script upto was is run.hand_of hand
  follows-on hand by session mine on =
      let followed = laws.follow shared script session upto (at-hand by.from on.client) (at-hand hand on.left) on.path
      run.at_start.limits run.at_start.locks on.keeps (laws.visits_none shared by.from by.seen) on.went in
      let gained = followed.in_step.gained in
      record {
        from = by.from;
        from_is = by.from_is;
        number_is = by.number_is;
        seen = by.seen;
        is_hand = followed.keeps.is_hand;
        landed = followed.keeps.landed;
        more = followed.more;
        visits = followed.visits;
        gates = gained.gates;
        at_gates = gained.at_gates;
        store = gained.store;
        at_store = gained.at_store;
        asked = inr followed.asks;
        did = inr (session, mine, record { on = on; followed = followed; gates_are = refl; store_is = refl });
      }

  -- the part of a hand, by what it has done
  part-by : (hand : Hand) (by : IsPartBy shared script upto was is run.hand_of hand)
      → HasDone shared script upto was is run.hand_of by.from hand → Part shared script upto was is run.hand_of hand
  part-by hand by (inl carried) = told hand by carried
  part-by hand by (inr on) = follows-on hand by on.0 on.1 on.2

  -- the part of each hand
  pub part-of : (hand : Hand) → Contains hands hand → Part shared script upto was is run.hand_of hand
  part-of hand h = part-by hand (run.parts hand h) (run.parts hand h).did

  -- a hand's part is to have followed this session
  pub record SessionPart (session : ℕ) (hand : Hand) (part : Part shared script upto was is run.hand_of hand) : Type 0 where
    pub mine : run.hand_of session ≡ hand_number hand
    pub has : HasFollowed shared script upto was is part.from hand part.gates part.store session

  session-part-by : (session : ℕ) (hand : Hand) (by : IsPartBy shared script upto was is run.hand_of hand)
      → (did : HasDone shared script upto was is run.hand_of by.from hand)
      → IsOfSession shared script upto was is run.hand_of by.from hand session did → SessionPart session hand (part-by hand by did)
  unfolding part-by follows-on
  session-part-by session hand by (inl carried) impossible = absurd impossible
  session-part-by session hand by (inr on) same =
      subst (λ (s : ℕ). SessionPart s hand (part-by hand by (inr on))) same
      (record {
        mine = on.1;
        has = record {
          on = on.2;
          followed = laws.follow shared script on.0 upto (at-hand by.from on.2.client) (at-hand hand on.2.left) on.2.path
              run.at_start.limits run.at_start.locks on.2.keeps (laws.visits_none shared by.from by.seen) on.2.went;
          gates_are = refl;
          store_is = refl;
        };
      })

  -- each session was left as it was, or is the part of a hand
  pub session-part : (session : ℕ) → session < 64 → (slice_get is session ≡ slice_get was session)
      ⊎ ((hand : Hand) × (h : Contains hands hand) × SessionPart session hand (part-of hand h))
  unfolding part-of part-by
  session-part session low =
      elim (run.sessions session low) [
        | inl same ↦ inl same
        | inr one ↦ inr (one.0, one.1, session-part-by session one.0 (run.parts one.0 one.1) (run.parts one.0 one.1).did one.2)
      ]

  -- the hand with a number
  pub record OfNumber (number : ℕ) : Type 0 where
    pub hand : Hand
    pub there : Contains hands hand
    pub number_is : hand_number hand ≡ number
    pub seen_is : seen_by_number hands number ≡ seen_by hand

  -- there is a hand of each number, and what was seen by the number is what that hand has seen
  pub of-number : (number : ℕ) → number < hands_of shared → OfNumber number
  of-number number low =
      let one = laws.found hands number (run.all number low) in
      record { hand = one.0; there = one.1; number_is = one.2; seen_is = one.3 }

  -- each hand's visits are of its own programs
  pub own-visits : (number : ℕ) → number < hands_of shared → VisitsOwnPrograms number (start_of shared) (seen_by_number hands number)
  own-visits number low =
      let one = of-number number low in
      subst (λ (x : ℕ × Account). VisitsOwnPrograms x.0 (start_of shared) x.1) (λ i. (one.number_is i, sym one.seen_is i))
      (part-of one.hand one.there).visits

  module _ (hand : Hand) (part : Part shared script upto was is run.hand_of hand) where
    -- at the start a hand had seen the logs of the start
    pub seen-start : seen_by part.from ≡ without_sessions start
    seen-start = part.seen ∙ run.at_start.start_is

    -- what it had made at a gatekeeper then is what the start's log has with its number
    pub made-start : (home : ℕ) → gate_log (made_by part.from) home
        ≡ filter (λ (e : GateEntry). e.author == hand_number hand) (gate_log start home)
    made-start home =
        laws.own_at_gate shared part.from part.from_is home
        ∙ ap (λ (n : ℕ). filter (λ (e : GateEntry). e.author == n) (gate_log (seen_by part.from) home)) part.number_is
        ∙ ap (λ (a : Account). filter (λ (e : GateEntry). e.author == hand_number hand) (gate_log a home)) seen-start

    -- what the hand had made at the store then is what the start's log has with its number
    pub stored-start : (made_by part.from).store ≡ filter (λ (e : StoreEntry). e.author == hand_number hand) start.store
    stored-start =
        ap (λ (a : Account). a.store) (laws.own shared part.from part.from_is)
        ∙ ap (λ (n : ℕ). filter (λ (e : StoreEntry). e.author == n) (seen_by part.from).store) part.number_is
        ∙ ap (λ (a : Account). filter (λ (e : StoreEntry). e.author == hand_number hand) a.store) seen-start

    -- what it has seen goes on from the start
    pub seen-on : (home : ℕ) → IsBeginningOf (gate_log start home) (gate_log (seen_by hand) home)
    seen-on home = subst (λ (a : Account). IsBeginningOf (gate_log a home) (gate_log (seen_by hand) home)) seen-start (part.more.gates home)

    -- the store's log that a hand of a part has seen goes on from that of the start
    pub stored-on : IsBeginningOf start.store (seen_by hand).store
    stored-on = subst (λ (a : Account). IsBeginningOf a.store (seen_by hand).store) seen-start part.more.store

    -- its own entries among what it has seen since are those that it made since
    pub own-since : (home : ℕ) → filter (λ (e : GateEntry). e.author == hand_number hand) (seen-on home).0 ≡ part.gates home
    own-since home =
        own-gained (λ (e : GateEntry). e.author == hand_number hand) (gate_log start home) (seen-on home).0 (gate_log (made_by part.from) home) (part.gates home) (made-start home)
        (ap (filter (λ (e : GateEntry). e.author == hand_number hand)) (sym (seen-on home).1) ∙ sym (laws.own_at_gate shared hand part.is_hand home) ∙ part.at_gates home)

    -- its own entries among what it has seen of the store's log since are those that it made there since
    pub own-stored : filter (λ (e : StoreEntry). e.author == hand_number hand) stored-on.0 ≡ part.store
    own-stored =
        own-gained (λ (e : StoreEntry). e.author == hand_number hand) start.store stored-on.0 (made_by part.from).store part.store stored-start
        (ap (filter (λ (e : StoreEntry). e.author == hand_number hand)) (sym stored-on.1) ∙ sym (ap (λ (a : Account). a.store) (laws.own shared hand part.is_hand)) ∙ part.at_store)

  module _ (closed : Account) (end : IsClosedBy shared script start is hands closed) where
    -- the gatekeepers' logs of the start go on to the closed ones
    pub gates-on : (home : ℕ) → IsBeginningOf (gate_log start home) (gate_log closed home)
    gates-on home =
        let some = end.of_hands.some in
        onward (gate_log start home) (gate_log (seen_by_number hands 0) home) (gate_log closed home)
        ((end.of_hands.seen 0 (omega (arith, some))).starts.gates home) ((end.of_hands.within 0 (omega (arith, some))).gates home)

    -- an entry was there at the start, or is one that a hand made since
    abbrev pub GateEntryIs : ℕ → GateEntry → Type 0
    GateEntryIs home entry = Contains (gate_log start home) entry
        ⊎ ((hand : Hand) × (h : Contains hands hand) × (hand_number hand ≡ entry.author) × Contains ((part-of hand h).gates home) entry)

    -- each entry of a gatekeeper's closed log was there at the start, or was made since by the hand of its author
    pub gate-entry : (home : ℕ) (entry : GateEntry) → Contains (gate_log closed home) entry → GateEntryIs home entry
    gate-entry home entry h =
        let cut = cut_at (gate_log closed home) entry h in
        elim (end.of_hands.gate_entries home cut.before entry cut.after cut.is) [
          | inl early ↦
              let place = earlier-place (gate_log start home) (gate_log closed home) (gates-on home) cut.before entry cut.after cut.is early in
              inl (subst (λ l. Contains l entry) (sym place.1) (has_cut cut.before entry place.0))
          | inr of ↦
              let one = of-number entry.author of.0 in
              let part = part-of one.hand one.there in
              let own = λ (e : GateEntry). e.author == hand_number one.hand in
              let all : filter own (gate_log closed home) ≡ gate_log (made_by part.from) home ++ part.gates home =
              sym (row-at (filter own) refl closed.gates home)
              ∙ ap (λ (a : Account). gate_log a home) (end.made one.hand one.there) ∙ part.at_gates home in
              let mine = subst (λ l. Contains l entry) all
              (has_filter own (gate_log closed home) entry h (eq-eqb entry.author (hand_number one.hand) (sym one.number_is))) in
              elim (Contains-append_cases (gate_log (made_by part.from) home) (part.gates home) entry mine) [
                | inl before ↦ inl ((filter_has own (gate_log start home) entry
                    (subst (λ l. Contains l entry) (made-start one.hand part home) before)).0)
                | inr since ↦ inr (one.hand, one.there, one.number_is, since)
              ]
        ]
