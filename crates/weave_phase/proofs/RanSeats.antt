-- When the workers of a phase have run, each hand has carried or followed a session, each session was left or followed,
-- and the worker of each session with requests in the phase has ended.
-- Used by `run_parts` and PhaseParts.
use Rattle.std.proofs.Common.{◌≡◌, ℕ, zero, suc, ◌+◌, ◌-◌, ◌<◌, ◌≤◌, Bool, List, [], ◌∷◌, length, map, AllPairs, Contains, Option, None, Some, ◌⊎◌, inl, inr, refl, sym, ap, subst, ◌∙◌, cond, eqb, eq-eqb, arith}
use Rattle.std.specs.Prelude.{slice_get}
use Rattle.std.specs.Option.{option_map}
use Rattle.std.proofs.lemmas.Bool.{cases_Bool, cases_eq, cases_lt, eqb-true}
use Rattle.std.proofs.lemmas.List.{length-map}
use Rattle.std.proofs.lemmas.Option.{get_or_from_slice_get, none-some, same_Some, slice_get-get_or, slice_get-map, slice_get_within}
use Rattle.weave_data.proofs.Members.{has_map, has_none, has_read}
use Rattle.weave_data.proofs.Ordered.{pairs_head, pairs_tail}
use Rattle.program_defs.specs.declared.script.Script.{Script}
use Rattle.weave_account.specs.declared.account.Account.{Account}
use Rattle.weaver_core.specs.declared.client.Client.{Client}
use Rattle.weaver_locks.specs.declared.hand.Hand.{Hand}
use Rattle.weaver_locks.specs.declared.shared.Shared.{Shared}
use Rattle.weaver_locks.specs.Closing.{seen_by_number}
use Rattle.weaver_locks.specs.Hands.{hand_number, seen_by}
use Rattle.weaver_locks.specs.Locks.{hands_of}
use Rattle.weaver_workers.specs.declared.ended.Ended.{Ended}
use Rattle.weaver_workers.specs.declared.worker.Worker.{Worker}
use Rattle.weaver_workers.specs.declared.worker.Worker.TheVariants.{ClientWork, GateWork, ShardWork}
use Rattle.weaver_workers.specs.ClientWork.{Goes, Stand, WorkerEndsAs}
use Rattle.weaver_workers.specs.Keeping.{KeepsClient}
use Rattle.weaver_workers.specs.Phases.{phase_end, phase_start}
use Rattle.weaver_workers.specs.Workers.{Works}
use Rattle.workers_account.specs.Phase.{CarriedOn, FollowedOn, HasDone, IsOfSession, IsPartBy, IsPhaseRun, WorkerHasEnded}
use Rattle.workers_account.specs.SessionRuns.{HasNoRequest}
use Rattle.workers_account.proofs.GoneOn.{number-and-more}
use Rattle.weave_phase.specs.declared.seats.Seat.{Seat}
use Rattle.weave_phase.specs.Ran.{AreSeated, HaveRunPhase, IsHandAtStart, WorkersHaveEnded}
use Rattle.weave_phase.specs.Seats.{client_in, hand_in, IsDealt}
use Rattle.weave_phase.specs.StartLaws.{StartLaws}
use Rattle.weave_phase.proofs.Ran.{works-if-done}
use Rattle.weave_phase.proofs.ReadySeats.{client-keeps, something-at}

-- Rows

-- the place of a number in a row, from 0; the row's length if it isn't there
abbrev pub place_in : List ℕ → ℕ → ℕ
place_in [] n = 0
place_in (x ∷ xs) n = cond (eqb x n) 0 (suc (place_in xs n))

-- in a row that rises each number has one place
place-is : (xs : List ℕ) → AllPairs (λ (a b : ℕ). a < b) xs → (k n : ℕ) → slice_get xs k ≡ Some n → place_in xs n ≡ k
place-is [] rising k n at = absurd (none-some n at)
place-is (x ∷ xs) rising zero n at =
    ap (λ (b : Bool). cond b 0 (suc (place_in xs n))) (eq-eqb x n (same_Some x n at))
place-is (x ∷ xs) rising (suc k) n at =
    let there : Contains xs n = (k, slice_get_within xs k n at, get_or_from_slice_get xs k n n at) in
    let less = pairs_head (λ (a b : ℕ). a < b) x xs n rising there in
    elim (cases_Bool (eqb x n)) [
      | inl same ↦ absurd (let e = eqb-true x n same in omega (arith, less, e))
      | inr other ↦ ap (λ (b : Bool). cond b 0 (suc (place_in xs n))) other
          ∙ ap suc (place-is xs (pairs_tail (λ (a b : ℕ). a < b) x xs rising) k n at)
    ]

-- what the hand with a number has seen, if hands are numbered from this one on
seen-at : (base : ℕ) (hands : List Hand) → ((k : ℕ) (hand : Hand) → slice_get hands k ≡ Some hand → hand_number hand ≡ base + k)
    → (k n : ℕ) (hand : Hand) → slice_get hands k ≡ Some hand → n ≡ base + k → seen_by_number hands n ≡ seen_by hand
seen-at base [] numbered k n hand at is = absurd (none-some hand at)
seen-at base (first ∷ hands) numbered zero n hand at is =
    let number = numbered zero first refl in
    ap (λ (b : Bool). cond b (seen_by first) (seen_by_number hands n)) (eq-eqb (hand_number first) n (omega (arith, number, is)))
    ∙ ap seen_by (same_Some first hand at)
seen-at base (first ∷ hands) numbered (suc k) n hand at is =
    let number = numbered zero first refl in
    elim (cases_Bool (eqb (hand_number first) n)) [
      | inl same ↦ absurd (let e = eqb-true (hand_number first) n same in omega (arith, e, number, is))
      | inr other ↦ ap (λ (b : Bool). cond b (seen_by first) (seen_by_number hands n)) other
          ∙ seen-at (suc base) hands (λ i h there. (let e = numbered (suc i) h there in omega (arith, e))) k n hand at (omega (arith, is))
    ]

-- Workers

-- a client's worker is one after its part of a phase, too
record ClientRan (shared : Shared) (script : Script) (phase session : ℕ) (hand : Hand) (client : Client) (worker : Worker) : Type 0 where
  left : Client
  left_is : client_in worker ≡ Some left
  path : List Stand
  went : Goes shared script session (phase_end script phase) (record { hand = hand; client = client }) path (record { hand = hand_in worker; client = left })
  keeps : KeepsClient shared script session (hand_in worker) left
  ended : Ended
  ends : WorkerEndsAs shared script (phase_end script phase) (record { hand = hand_in worker; client = left }) ended

client-ran : (shared : Shared) (script : Script) (phase session : ℕ) (hand : Hand) (client : Client) (worker : Worker) (ended : Ended)
    → KeepsClient shared script session hand client → Works shared script phase (ClientWork hand client) worker ended → ClientRan shared script phase session hand client worker
client-ran shared script phase session hand client (ClientWork after left) ended keeps works =
    let did = works session keeps in
    let goes = did.goes in
    record { left = left; left_is = refl; path = goes.path; went = goes.went; keeps = goes.keeps; ended = ended; ends = did.ends }
client-ran shared script phase session hand client (GateWork after gate) ended keeps works = absurd works
client-ran shared script phase session hand client (ShardWork after shard) ended keeps works = absurd works

gate-ran : (shared : Shared) (script : Script) (phase gate : ℕ) (hand : Hand) (worker : Worker) (ended : Ended)
    → Works shared script phase (GateWork hand gate) worker ended → CarriedOn shared hand (hand_in worker)
gate-ran shared script phase gate hand (GateWork after at) ended works =
    let done = works.1 in
    record { is_hand = done.carries.carries.hand; only = done.carries.carries.only; landed = done.landed }
gate-ran shared script phase gate hand (ClientWork after left) ended works = absurd works
gate-ran shared script phase gate hand (ShardWork after shard) ended works = absurd works

shard-ran : (shared : Shared) (script : Script) (phase shard : ℕ) (hand : Hand) (worker : Worker) (ended : Ended)
    → Works shared script phase (ShardWork hand shard) worker ended → CarriedOn shared hand (hand_in worker)
shard-ran shared script phase shard hand (ShardWork after at) ended works =
    let done = works.1 in
    record { is_hand = done.carries.carries.hand; only = done.carries.carries.only; landed = done.landed }
shard-ran shared script phase shard hand (ClientWork after left) ended works = absurd works
shard-ran shared script phase shard hand (GateWork after gate) ended works = absurd works

-- a number is at some place of a row, or it isn't there
pub in-or-not : (xs : List ℕ) (n : ℕ) → ((k : ℕ) × (slice_get xs k ≡ Some n)) ⊎ ¬ Contains xs n
in-or-not [] n = inr (λ h. has_none n h)
in-or-not (x ∷ xs) n =
    elim (cases_eq x n) [
      | inl same ↦ inl (0, ap Some same)
      | inr other ↦ elim (in-or-not xs n) [
        | inl there ↦ inl (suc there.0, there.1)
        | inr none ↦ inr (λ h. elim (has_read x xs n h) [ inl same ↦ other same | inr rest ↦ none rest ])
      ]
    ]

some-alike : {A : Type 0} (a b : Option A) → option_map Some a ≡ option_map Some b → a ≡ b
some-alike None None same = refl
some-alike (Some x) None same = absurd (none-some (Some x) (sym same))
some-alike None (Some y) same = absurd (none-some (Some y) same)
some-alike (Some x) (Some y) same = same_Some (Some x) (Some y) same

some-inside : {A : Type 0} (o : Option A) (x : A) → option_map Some o ≡ Some (Some x) → o ≡ Some x
some-inside None x is = absurd (none-some (Some x) is)
some-inside (Some y) x is = same_Some (Some y) (Some x) is

module _ (laws : StartLaws) (shared : Shared) (script : Script) (phase : ℕ) (start : Account) (clients : List Client) (sessions : List ℕ) (hands : List Hand) (seats : List Seat)
    (seated : AreSeated shared script phase start clients sessions hands seats) (left : List Client) (after : List Seat) (many-left : length left ≡ 64)
    (ran : HaveRunPhase shared script phase sessions clients left seats after) where
  abbrev upto : ℕ
  upto = phase_end script phase

  -- the hands after the phase
  abbrev pub hands-after : List Hand
  hands-after = map (λ (seat : Seat). hand_in seat.worker) after

  -- A seat

  module _ (k : ℕ) (seat : Seat) (at : slice_get after k ≡ Some seat) where
    within : k < length after
    within = slice_get_within after k seat at

    was : (before : Seat) × (slice_get seats k ≡ Some before)
    was = something-at seats k (let in_after = within in let same = ran.ran.many in omega (arith, in_after, same))

    hand-was : (hand : Hand) × (slice_get hands k ≡ Some hand)
    hand-was = something-at hands k (let in_after = within in let same = ran.ran.many in let dealt = seated.dealt.many in omega (arith, in_after, same, dealt))

    new : IsHandAtStart shared k hand-was.0
    new = seated.new k hand-was.0 hand-was.1

    of : IsDealt sessions script.gates clients k hand-was.0 (was.0).worker
    of = seated.dealt.each k hand-was.0 was.0 hand-was.1 was.1

    works : (ended : Ended) × Works shared script phase (was.0).worker seat.worker ended
    works = works-if-done shared script phase was.0 seat (ran.ran.each k was.0 seat was.1 at) (ran.done k seat at)

    -- its worker ran, if it is a session's
    ran-for : (low : k < length sessions) → ClientRan shared script phase (of.session low).session hand-was.0 (of.session low).client seat.worker
    ran-for low =
        let dealt = of.session low in
        client-ran shared script phase dealt.session hand-was.0 dealt.client seat.worker works.0
        (client-keeps laws shared script phase start clients sessions hands seats seated k hand-was.0 new dealt.session dealt.client dealt.client_is)
        (subst (λ (w : Worker). Works shared script phase w seat.worker works.0) dealt.worker_is works.1)

    -- its client is back in the session's place
    left-there : (low : k < length sessions) → slice_get left (of.session low).session ≡ Some (ran-for low).left
    left-there low =
        let dealt = of.session low in
        let one = ran-for low in
        some-inside (slice_get left dealt.session) one.left
        (sym (slice_get-map Some left dealt.session) ∙ ran.back.back k dealt.session seat dealt.session_is at ∙ ap Some one.left_is)

    followed : (low : k < length sessions) → (hand : Hand) → hand_in seat.worker ≡ hand → FollowedOn shared script upto clients left (of.session low).session hand-was.0 hand
    followed low hand same =
        let dealt = of.session low in
        let one = ran-for low in
        record {
          within = seated.few dealt.session (k, slice_get_within sessions k dealt.session dealt.session_is, get_or_from_slice_get sessions k dealt.session dealt.session dealt.session_is);
          client = dealt.client;
          client_is = dealt.client_is;
          left = one.left;
          left_is = left-there low;
          keeps = client-keeps laws shared script phase start clients sessions hands seats seated k hand-was.0 new dealt.session dealt.client dealt.client_is;
          path = one.path;
          went = subst (λ (h : Hand). Goes shared script dealt.session upto (record { hand = hand-was.0; client = dealt.client }) one.path (record { hand = h; client = one.left })) same one.went;
        }

    carried : length sessions ≤ k → CarriedOn shared hand-was.0 (hand_in seat.worker)
    carried high =
        elim (cases_lt k (length sessions + script.gates)) [
          | inl middle ↦ gate-ran shared script phase (k - length sessions) hand-was.0 seat.worker works.0
              (subst (λ (w : Worker). Works shared script phase w seat.worker works.0) (of.gate high middle) works.1)
          | inr last ↦ shard-ran shared script phase (k - (length sessions + script.gates)) hand-was.0 seat.worker works.0
              (subst (λ (w : Worker). Works shared script phase w seat.worker works.0) (of.shard last) works.1)
        ]

    -- its hand has the number of its place
    number-followed : (low : k < length sessions) → hand_number (hand_in seat.worker) ≡ k
    number-followed low =
        let on = followed low (hand_in seat.worker) refl in
        (number-and-more shared script (of.session low).session upto on.path (record { hand = hand-was.0; client = on.client }) (record { hand = hand_in seat.worker; client = on.left }) on.went).0
        ∙ new.number_is

    number-is : hand_number (hand_in seat.worker) ≡ k
    number-is =
        elim (cases_lt k (length sessions)) [
          | inl low ↦ number-followed low
          | inr high ↦ (carried high).only.number ∙ new.number_is
        ]

    -- what it has done
    done-by : (hand : Hand) → hand_in seat.worker ≡ hand → (k < length sessions) ⊎ (length sessions ≤ k) → HasDone shared script upto clients left (place_in sessions) hand-was.0 hand
    done-by hand same (inl low) =
        let dealt = of.session low in
        inr (
          dealt.session,
          place-is sessions seated.rising k dealt.session dealt.session_is ∙ sym (number-followed low) ∙ ap hand_number same,
          followed low hand same,
        )
    done-by hand same (inr high) = inl (subst (CarriedOn shared hand-was.0) same (carried high))

    -- if it is a session's, it has followed that one
    done-session : (hand : Hand) (same : hand_in seat.worker ≡ hand) (c : (k < length sessions) ⊎ (length sessions ≤ k)) (session : ℕ) → slice_get sessions k ≡ Some session
        → IsOfSession shared script upto clients left (place_in sessions) hand-was.0 hand session (done-by hand same c)
    unfolding done-by
    done-session hand same (inl low) session is = same_Some (of.session low).session session (sym (of.session low).session_is ∙ is)
    done-session hand same (inr high) session is = absurd (let low = slice_get_within sessions k session is in omega (arith, low, high))

  -- Hands

  -- a hand at its place
  record HandAt (hand : Hand) : Type 0 where
    k : ℕ
    seat : Seat
    at : slice_get after k ≡ Some seat
    same : hand_in seat.worker ≡ hand

  hand-at : (hand : Hand) → Contains hands-after hand → HandAt hand
  hand-at hand h =
      let seat = something-at after h.0 (let low = h.1 in let many = length-map after (λ (s : Seat). hand_in s.worker) in omega (arith, low, many)) in
      record {
        k = h.0;
        seat = seat.0;
        at = seat.1;
        same = same_Some (hand_in (seat.0).worker) hand
            (ap (option_map (λ (s : Seat). hand_in s.worker)) (sym seat.1) ∙ sym (slice_get-map (λ (s : Seat). hand_in s.worker) after h.0)
            ∙ slice_get-get_or hands-after h.0 hand h.1 ∙ ap Some h.2);
      }

  part-at : (hand : Hand) → HandAt hand → IsPartBy shared script upto clients left (place_in sessions) hand
  part-at hand one = record {
    from = (hand-was one.k one.seat one.at).0;
    from_is = (new one.k one.seat one.at).is_hand;
    number_is = (new one.k one.seat one.at).number_is ∙ sym (number-is one.k one.seat one.at) ∙ ap hand_number one.same;
    seen = (new one.k one.seat one.at).seen;
    did = done-by one.k one.seat one.at hand one.same (cases_lt one.k (length sessions));
  }

  numbered : (k : ℕ) (hand : Hand) → slice_get hands-after k ≡ Some hand → hand_number hand ≡ k
  unfolding hand-at
  numbered k hand at =
      let one = hand-at hand (k, slice_get_within hands-after k hand at, get_or_from_slice_get hands-after k hand hand at) in
      ap hand_number (sym one.same) ∙ number-is one.k one.seat one.at

  as-many : length hands-after ≡ hands_of shared
  as-many = length-map after (λ (s : Seat). hand_in s.worker) ∙ ran.ran.many ∙ seated.dealt.many ∙ sym seated.of_locks

  by-number : (hand : Hand) → Contains hands-after hand → (hand_number hand < hands_of shared) × (seen_by_number hands-after (hand_number hand) ≡ seen_by hand)
  by-number hand h =
      let at : slice_get hands-after h.0 ≡ Some hand = slice_get-get_or hands-after h.0 hand h.1 ∙ ap Some h.2 in
      let number = numbered h.0 hand at in
      let low = h.1 in (
        let many = as-many in omega (arith, number, low, many),
        seen-at 0 hands-after (λ k other there. let e = numbered k other there in omega (arith, e)) h.0 (hand_number hand) hand at (omega (arith, number)),
      )

  -- each number is a hand's
  pub all-numbers : (number : ℕ) → number < hands_of shared → Contains (map hand_number hands-after) number
  all-numbers number low =
      let one = something-at hands-after number (let many = as-many in omega (arith, low, many)) in
      subst (λ (n : ℕ). Contains (map hand_number hands-after) n) (numbered number one.0 one.1)
      (has_map hand_number hands-after one.0 (number, slice_get_within hands-after number one.0 one.1, get_or_from_slice_get hands-after number one.0 one.0 one.1))

  -- Sessions

  -- the worker of a session has ended
  session-ended : (session k : ℕ) → slice_get sessions k ≡ Some session → WorkerHasEnded shared script upto left hands-after session
  session-ended session k at =
      let low = slice_get_within sessions k session at in
      let seat = something-at after k (let many = ran.ran.many in let dealt = seated.dealt.many in let all = seated.many in omega (arith, low, many, dealt, all)) in
      let dealt = (of k seat.0 seat.1).session low in
      let one = ran-for k seat.0 seat.1 low in
      subst (WorkerHasEnded shared script upto left hands-after) (same_Some dealt.session session (sym dealt.session_is ∙ at))
      (record {
        hand = hand_in (seat.0).worker;
        there = has_map (λ (s : Seat). hand_in s.worker) after seat.0 (k, slice_get_within after k seat.0 seat.1, get_or_from_slice_get after k seat.0 seat.0 seat.1);
        client = one.left;
        client_is = left-there k seat.0 seat.1 low;
        keeps = one.keeps;
        ended = one.ended;
        ends = one.ends;
      })

  -- each session's worker has ended, unless the session has no request in the phase
  pub workers-ended : ((session : ℕ) → ¬ Contains sessions session → HasNoRequest script (phase_start script phase) upto session)
      → WorkersHaveEnded shared script phase left hands-after
  workers-ended others session =
      elim (in-or-not sessions session) [
        | inl there ↦ inl (session-ended session there.0 there.1)
        | inr none ↦ inr (others session none)
      ]

  session-there : (session k : ℕ) → slice_get sessions k ≡ Some session → (hand : Hand) × (h : Contains hands-after hand)
      × IsOfSession shared script upto clients left (place_in sessions) (part-at hand (hand-at hand h)).from hand session (part-at hand (hand-at hand h)).did
  unfolding part-at hand-at
  session-there session k at =
      let low = slice_get_within sessions k session at in
      let one = something-at hands-after k (let many = as-many in let all = seated.many in let of = seated.of_locks in omega (arith, low, many, all, of)) in
      let h : Contains hands-after one.0 = (k, slice_get_within hands-after k one.0 one.1, get_or_from_slice_get hands-after k one.0 one.0 one.1) in
      let here = hand-at one.0 h in
      (one.0, h, done-session here.k here.seat here.at one.0 here.same (cases_lt here.k (length sessions)) session at)

  session-left : (session : ℕ) → (slice_get left session ≡ slice_get clients session) ⊎ ((hand : Hand) × (h : Contains hands-after hand)
      × IsOfSession shared script upto clients left (place_in sessions) (part-at hand (hand-at hand h)).from hand session (part-at hand (hand-at hand h)).did)
  session-left session =
      elim (in-or-not sessions session) [
        | inl there ↦ inr (session-there session there.0 there.1)
        | inr none ↦ inl (some-alike (slice_get left session) (slice_get clients session)
            (sym (slice_get-map Some left session) ∙ ran.back.left session none ∙ ran.taken.left session none ∙ slice_get-map Some clients session))
      ]

  -- the phase was run by these hands, which are all of the locks', and each session was left or followed by one
  pub phase-run : IsPhaseRun shared script upto start clients left hands-after
  phase-run = record {
    at_start = seated.at_start;
    all = all-numbers;
    by_number = by-number;
    hand_of = place_in sessions;
    parts = λ hand h. part-at hand (hand-at hand h);
    many = many-left;
    sessions = λ session low. session-left session;
  }
