-- The parts of a core on their way through a phase: put behind locks, seated, and joined again.
-- Used by `run_parts`.
use Rattle.std.proofs.Common.{◌≡◌, ℕ, ◌+◌, ◌<◌, ◌≤◌, true, List, length, map, All, Contains, Option, None, Some, inl, inr, refl, sym, ap, subst, ◌∙◌, arith}
use Rattle.std.specs.Prelude.{slice_get, slice_index_or}
use Rattle.std.specs.List.{range_with_len}
use Rattle.std.specs.Option.{option_map}
use Rattle.std.proofs.lemmas.Bool.{cases_lt}
use Rattle.std.proofs.lemmas.List.{length-map}
use Rattle.std.proofs.lemmas.List.FromFn.{length-range_with_len}
use Rattle.std.proofs.lemmas.Option.{get_or_from_slice_get, none-some, same_Some, slice_get-map, slice_get_within}
use Rattle.program_defs.specs.declared.script.Script.{Script}
use Rattle.weave_account.specs.declared.account.Account.{Account}
use Rattle.weave_account.specs.Sessions.{requests_of_session}
use Rattle.weaver_core.specs.declared.client.Client.{Client}
use Rattle.weaver_core.specs.declared.split.Split.{Split}
use Rattle.weaver_core.specs.Sessions.{requests_in}
use Rattle.weaver_core.specs.Splitting.{account_of}
use Rattle.weaver_locks.specs.declared.hand.Hand.{Hand}
use Rattle.weaver_locks.specs.declared.shared.Shared.{Shared}
use Rattle.weaver_locks.specs.Closing.{MayStart}
use Rattle.weaver_locks.specs.Hands.{IsHand}
use Rattle.weaver_locks.specs.Locks.{hands_of}
use Rattle.weaver_workers.specs.declared.ended.Ended.{Ended}
use Rattle.weaver_workers.specs.declared.worker.Worker.{Worker}
use Rattle.weaver_workers.specs.declared.worker.Worker.TheVariants.{ClientWork, GateWork, ShardWork}
use Rattle.weaver_workers.specs.Keeping.{AreLocksOf}
use Rattle.weaver_workers.specs.Phases.{phase_end, phase_start}
use Rattle.weaver_workers.specs.Workers.{Works}
use Rattle.workers_account.specs.Phase.{HasDone, IsPhaseRun, IsPhaseStart}
use Rattle.workers_account.specs.SessionRuns.{HasNoRequest}
use Rattle.workers_account.proofs.GoneOn.{keeps-at-end}
use Rattle.weave_phase.specs.declared.seats.Seat.{Seat}
use Rattle.weave_phase.specs.Parts.{AreReadyParts}
use Rattle.weave_phase.specs.Ran.{PartsAreOpened, AreSeated, HaveRunPhase, IsHandAtStart, WorkersHaveEnded}
use Rattle.weave_phase.specs.Seats.{client_in, hand_in, has_done_its_part, SeatsAreDealt, ArePutBack, AreTaken, HaveRun}
use Rattle.weave_phase.specs.StartLaws.{StartLaws}
use Rattle.weave_phase.proofs.Ran.{works-if-done}
use Rattle.weave_phase.proofs.RanSeats.{hands-after, in-or-not, phase-run, workers-ended}
use Rattle.weave_phase.proofs.ReadySeats.{something-at}

-- Kinds of workers

-- a worker with a client has one after its part of a phase
pub client-kept : (shared : Shared) (script : Script) (phase : ℕ) (was is : Worker) (ended : Ended) (client : Client) → Works shared script phase was is ended
    → client_in was ≡ Some client → (left : Client) × (client_in is ≡ Some left)
client-kept shared script phase (ClientWork hand c) (ClientWork after left) ended client works has = (left, refl)
client-kept shared script phase (ClientWork hand c) (GateWork after gate) ended client works has = absurd works
client-kept shared script phase (ClientWork hand c) (ShardWork after shard) ended client works has = absurd works
client-kept shared script phase (GateWork hand gate) is ended client works has = absurd (none-some client has)
client-kept shared script phase (ShardWork hand shard) is ended client works has = absurd (none-some client has)

-- a worker without a client still has none after it works
pub none-kept : (shared : Shared) (script : Script) (phase : ℕ) (was is : Worker) (ended : Ended) → Works shared script phase was is ended
    → client_in was ≡ None → client_in is ≡ None
none-kept shared script phase (ClientWork hand c) is ended works has = absurd (none-some c (sym has))
none-kept shared script phase (GateWork hand gate) (GateWork after at) ended works has = refl
none-kept shared script phase (GateWork hand gate) (ClientWork after left) ended works has = absurd works
none-kept shared script phase (GateWork hand gate) (ShardWork after shard) ended works has = absurd works
none-kept shared script phase (ShardWork hand shard) (ShardWork after at) ended works has = refl
none-kept shared script phase (ShardWork hand shard) (ClientWork after left) ended works has = absurd works
none-kept shared script phase (ShardWork hand shard) (GateWork after gate) ended works has = absurd works

module _ (laws : StartLaws) (phase : ℕ) (split : Split) (parts : AreReadyParts phase split) where
  abbrev script : Script
  script = split.script

  abbrev start : Account
  start = account_of split

  -- Behind locks

  -- the machines of parts that are ready may be put behind locks
  pub machines-start : MayStart split.gates.items split.store split.oracle split.shards.items
  machines-start =
      let counts = laws.counts split parts.joined in
      laws.may_start script start split.gates.items split.store split.oracle split.shards.items parts.joined.limits parts.joined.core.account
      (laws.logs split parts.joined) counts.0 counts.1 (laws.order split parts.joined) parts.store (laws.shards split parts.joined parts.shards)

  -- a split core has 64 clients
  pub many-clients : length split.clients.items ≡ 64
  many-clients = sym (length-map split.clients.items requests_in) ∙ ap length parts.joined.parts.requests
      ∙ length-map (range_with_len 0 64) (requests_of_session script) ∙ length-range_with_len 0 64

  module _ (shared : Shared) (hands : List Hand) (sessions : List ℕ) (opened : PartsAreOpened split shared hands sessions) where
    -- the locks are those of the script's gatekeepers and shards
    pub locks : AreLocksOf script shared
    locks = record { gates = opened.gates ∙ (laws.counts split parts.joined).0; shards = opened.shards ∙ (laws.counts split parts.joined).1 }

    -- the parts are those of a core at the start of a phase, and the locks began with their logs
    pub phase-start-is : IsPhaseStart script start shared split.clients.items
    phase-start-is = record {
      limits = parts.joined.limits;
      is_account = parts.joined.core.account;
      landed = parts.joined.landed;
      locks = locks;
      start_is = opened.begins ∙ laws.logs split parts.joined;
      logs = refl;
      requests = parts.joined.parts.requests;
      by_log = parts.joined.clients;
    }

    new-hand : (k : ℕ) (hand : Hand) → slice_get hands k ≡ Some hand → IsHandAtStart shared k hand
    new-hand k hand at =
        let of = opened.each k hand (slice_get_within hands k hand at) in
        let same : slice_index_or hands k hand ≡ hand = get_or_from_slice_get hands k hand hand at in
        subst (IsHandAtStart shared k) same (record { is_hand = of.0; number_is = of.1; seen = of.2 ∙ sym opened.begins })

    part-is-hand : {was is : List Client} {hand_of : ℕ → ℕ} (hand from : Hand) → HasDone shared script (phase_end script phase) was is hand_of from hand → IsHand shared hand
    part-is-hand hand from (inl carried) = carried.is_hand
    part-is-hand hand from (inr on) = (keeps-at-end shared script on.0 (phase_end script phase) on.2.path
        (record { hand = from; client = on.2.client }) (record { hand = hand; client = on.2.left }) on.2.keeps on.2.went).is_hand

    module _ (seats : List Seat) (dealt : SeatsAreDealt sessions script.gates split.clients.items hands seats) where
      -- once a seat is dealt to each hand, the workers are seated
      pub seated : AreSeated shared script phase start split.clients.items sessions hands seats
      seated = record {
        at_start = phase-start-is;
        answered = parts.answered;
        rising = opened.rising;
        few = opened.few;
        many = opened.count;
        of_locks = opened.of_locks;
        new = new-hand;
        dealt = dealt;
      }

      -- When they have run

      module _ (after : List Seat) (ran : HaveRun shared script phase seats after)
          (done : (k : ℕ) (seat : Seat) → slice_get after k ≡ Some seat → has_done_its_part seat ≡ true) where
        was : (k : ℕ) (seat : Seat) → slice_get after k ≡ Some seat → (before : Seat) × (slice_get seats k ≡ Some before)
        was k seat at = something-at seats k (let low = slice_get_within after k seat at in let many = ran.many in omega (arith, low, many))

        hand-was : (k : ℕ) (seat : Seat) → slice_get after k ≡ Some seat → (hand : Hand) × (slice_get hands k ≡ Some hand)
        hand-was k seat at = something-at hands k (let low = slice_get_within after k seat at in let many = ran.many in let all = dealt.many in omega (arith, low, many, all))

        works : (k : ℕ) (seat : Seat) (at : slice_get after k ≡ Some seat) → (ended : Ended) × Works shared script phase (was k seat at).0.worker seat.worker ended
        works k seat at = works-if-done shared script phase (was k seat at).0 seat (ran.each k (was k seat at).0 seat (was k seat at).1 at) (done k seat at)

        -- after they have run, the worker at the place of a session has a client
        pub client-there : (k : ℕ) (seat : Seat) → slice_get after k ≡ Some seat → k < length sessions → (client : Client) × (client_in seat.worker ≡ Some client)
        client-there k seat at low =
            let before = was k seat at in
            let hand = hand-was k seat at in
            let of = (dealt.each k hand.0 before.0 hand.1 before.1).session low in
            let did = works k seat at in
            client-kept shared script phase before.0.worker seat.worker did.0 of.client did.1 (ap client_in of.worker_is)

        -- a seat at a place past the sessions has no client
        pub client-none : (k : ℕ) (seat : Seat) → slice_get after k ≡ Some seat → length sessions ≤ k → client_in seat.worker ≡ None
        client-none k seat at high =
            let before = was k seat at in
            let hand = hand-was k seat at in
            let of = dealt.each k hand.0 before.0 hand.1 before.1 in
            let did = works k seat at in
            none-kept shared script phase before.0.worker seat.worker did.0 did.1
            (elim (cases_lt k (length sessions + script.gates)) [
              | inl middle ↦ ap client_in (of.gate high middle)
              | inr last ↦ ap client_in (of.shard last)
            ])

        -- there are at least as many seats as sessions
        pub seats-enough : length sessions ≤ length after
        seats-enough = let many = ran.many in let all = dealt.many in let count = opened.count in omega (arith, many, all, count)

        -- The clients are back

        module _ (between slots : List (Option Client)) (taken : AreTaken sessions (map Some split.clients.items) between)
            (back : ArePutBack sessions after between slots) where
          -- once the clients are put back no place is without one
          pub all-back : (place : ℕ) (slot : Option Client) → slice_get slots place ≡ Some slot → (client : Client) × (slot ≡ Some client)
          all-back place slot at =
              elim (in-or-not sessions place) [
                | inl there ↦
                    let low = slice_get_within sessions there.0 place there.1 in
                    let seat = something-at after there.0 (let enough = seats-enough in omega (arith, low, enough)) in
                    let client = client-there there.0 seat.0 seat.1 low in
                    (client.0, same_Some slot (Some client.0) (sym at ∙ back.back there.0 place seat.0 there.1 seat.1 ∙ ap Some client.1))
                | inr none ↦
                    let before : slice_get slots place ≡ option_map Some (slice_get split.clients.items place) =
                    back.left place none ∙ taken.left place none ∙ slice_get-map Some split.clients.items place in
                    by (slice_get split.clients.items place) (sym at ∙ before)
              ]
            where
              by : (o : Option Client) → Some slot ≡ option_map Some o → (client : Client) × (slot ≡ Some client)
              by None is = absurd (none-some slot (sym is))
              by (Some client) is = (client, same_Some slot (Some client) is)

          module _ (left : List Client) (left_is : map Some left ≡ slots) where
            -- the workers have run the phase, each is done, and the sessions' clients are back
            pub run-is : HaveRunPhase shared script phase sessions split.clients.items left seats after
            run-is = record {
              ran = ran;
              done = done;
              between = between;
              taken = taken;
              back = subst (ArePutBack sessions after between) (sym left_is) back;
            }

            -- there are 64 clients after a phase
            pub many-left : length left ≡ 64
            many-left = sym (length-map left Some) ∙ ap length left_is ∙ back.many ∙ taken.many
                ∙ length-map split.clients.items Some ∙ many-clients

            -- the phase was run by these hands, and each session was left as it was or followed by one of them
            pub whole-run : IsPhaseRun shared script (phase_end script phase) start split.clients.items left (hands-after laws shared script phase start split.clients.items sessions hands seats seated left after many-left run-is)
            whole-run = phase-run laws shared script phase start split.clients.items sessions hands seats seated left after many-left run-is

            -- each session's worker has ended, unless the session has no request in the phase
            pub all-ended : ((session : ℕ) → ¬ Contains sessions session → HasNoRequest script (phase_start script phase) (phase_end script phase) session)
                → WorkersHaveEnded shared script phase left (hands-after laws shared script phase start split.clients.items sessions hands seats seated left after many-left run-is)
            all-ended others = workers-ended laws shared script phase start split.clients.items sessions hands seats seated left after many-left run-is others

            -- each hand is one of the locks'
            pub hands-are : All (IsHand shared) (hands-after laws shared script phase start split.clients.items sessions hands seats seated left after many-left run-is)
            hands-are = λ k d low. (let all = hands-after laws shared script phase start split.clients.items sessions hands seats seated left after many-left run-is in
                let one = something-at all k low in
                let h : Contains all one.0 = (k, low, get_or_from_slice_get all k one.0 one.0 one.1) in
                subst (IsHand shared) (sym (get_or_from_slice_get all k one.0 d one.1)) (is-hand one.0 h))
              where
                is-hand : (hand : Hand) → Contains (hands-after laws shared script phase start split.clients.items sessions hands seats seated left after many-left run-is) hand → IsHand shared hand
                is-hand hand h = part-is-hand hand (whole-run.parts hand h).from (whole-run.parts hand h).did

            -- there are as many hands after a phase as the locks have
            pub hands-count : length (hands-after laws shared script phase start split.clients.items sessions hands seats seated left after many-left run-is) ≡ hands_of shared
            hands-count = length-map after (λ (seat : Seat). hand_in seat.worker) ∙ ran.many ∙ dealt.many ∙ sym opened.of_locks
