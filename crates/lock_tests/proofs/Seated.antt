-- A new hand's seat is ready for the first phase, and a seat stays ready while its worker makes calls.
-- Used by `close`, `hands_in`, `nudge_all`, `seat_of`, `seats_of` and `take_gates_turn`.
use Rattle.std.proofs.Common.{◌≡◌, ℕ, ◌<◌, List, [], ◌∷◌, ◌++◌, AllPairs, Contains, map, append_assoc, refl, ap, ◌∙◌, sym, subst, arith}
use Rattle.std.specs.Prelude.{Option, is_some}
use Rattle.std.specs.List.{All}
use Rattle.std.specs.Option.{ForSome}
use Rattle.std.proofs.lemmas.List.Elements.{All-head, All-push, All-tail, Contains-append_right}
use Rattle.weave_data.proofs.Members.{has_head, has_none}
use Rattle.program_defs.specs.declared.script.Script.{Script}
use Rattle.vector_stamp.specs.declared.clock.Stamp.{Stamp}
use Rattle.weave_entries.specs.declared.gate_log.GateEntry.{GateEntry}
use Rattle.weave_entries.specs.declared.session_log.SessionEntry.{SessionEntry}
use Rattle.weave_entries.specs.GateReplay.{flight_of}
use Rattle.weave_entries.specs.SessionReplay.{session_start, SessionState}
use Rattle.weave_account.specs.Sessions.{requests_of_session}
use Rattle.weaver_core.specs.declared.client.Client.{Client}
use Rattle.weaver_core.specs.declared.walks.Running.{Running}
use Rattle.weaver_core.specs.Sessions.{IsClientOf}
use Rattle.weaver_locks.specs.declared.hand.Hand.{Hand}
use Rattle.weaver_locks.specs.declared.shared.Shared.{Shared}
use Rattle.weaver_locks.specs.Following.{MayHear}
use Rattle.weaver_locks.specs.Hands.{IsHand}
use Rattle.weaver_workers.specs.declared.worker.Worker.TheVariants.{ClientWork, GateWork, ShardWork}
use Rattle.weaver_workers.specs.Carrying.{Carries}
use Rattle.weaver_workers.specs.ClientWork.{HasReplies}
use Rattle.weaver_workers.specs.Keeping.{IsRunningFor, KeepsClient}
use Rattle.weaver_workers.specs.Phases.{phase_start}
use Rattle.weaver_workers.specs.Workers.{IsIdleHand, IsReadyClient}
use Rattle.weaver_workers.proofs.OnlyCarried.{landed-still}
use Rattle.lock_tests.specs.declared.turns.seat.Seat.{Seat}
use Rattle.lock_tests.specs.declared.turns.seat.Seat.TheVariants.{AtWork, Playing}
use Rattle.lock_tests.specs.OwnRequests.{OwnRequestLaws}
use Rattle.lock_tests.specs.Turns.{hand_of_seat, IsNewClient, IsReadySeat}
use Rattle.lock_tests.specs.UnusedHands.{IsUnusedHand}
use Rattle.lock_tests.proofs.Opening.{made-none, ready-worker}
use Rattle.lock_tests.proofs.Options.{nothing-there}

-- an empty log has no entry
no-entry : {E : Type 0} (before : List E) (entry : E) (after : List E) → [] ≡ before ++ entry ∷ after → ⊥
no-entry {E} before entry after is = has_none entry
    (subst (λ (l : List E). Contains l entry) (sym is) (Contains-append_right before (entry ∷ after) entry (has_head entry after)))

-- no request is of a phase before the first
none-earlier : (script : Script) (client : Client) → HasReplies (phase_start script 0) client
none-earlier script client r among low = absurd (omega (arith, low))

-- New hands

module _ (shared : Shared) (number : ℕ) (hand : Hand) (is : IsUnusedHand shared number hand) where
  -- a new hand has nothing in flight
  pub idle-new : IsIdleHand shared hand
  idle-new = record {
    is_hand = is.is_hand;
    landed = λ home. ap (λ (log : List GateEntry). flight_of log) (made-none shared number hand is home);
  }

  -- and is ready for a session's client before its first request
  pub client-new : OwnRequestLaws → (script : Script) (session : ℕ) (client : Client)
      → AllPairs (λ (a b : ℕ). a < b) (requests_of_session script session) → IsNewClient script session client
      → IsReadyClient shared script 0 hand client
  client-new laws script session client rise new =
      let requests = requests_of_session script session in
      let ready = ready-worker shared number hand is laws in
      let first : IsClientOf session (session_start requests) [] = record {
        state = refl;
        right = λ before entry after at. absurd (no-entry before entry after at);
        rising = rise;
      } in
      let keeps : KeepsClient shared script session hand client = record {
        is_hand = is.is_hand;
        landed = idle-new.landed;
        at_end = subst (λ (l : List SessionEntry). IsClientOf session client.session l) (sym new.log)
            (subst (λ (s : SessionState). IsClientOf session s []) (sym new.session_is) first);
        requests = ap (λ (s : SessionState). s.requests) new.session_is;
        waits = ap (λ (s : SessionState). s.waits) new.session_is ∙ sym (ap is_some new.running);
        running = subst (λ (o : Option Running). ForSome o (IsRunningFor shared script hand client.session)) (sym new.running)
            (nothing-there _);
        last = subst (λ (o : Option Stamp). ForSome o (MayHear shared hand))
            (sym (ap (λ (s : SessionState). s.last) new.session_is)) (nothing-there _);
        fresh = λ n r low at. record { unbegun = ready.fresh r (omega arith); unread = ready.unread r (omega arith) };
      } in
      record { number = session; keeps = keeps; earlier = none-earlier script client }

-- After calls

-- a hand that only carries is idle as before
pub idle-on : (shared : Shared) (old new : Hand) → Carries shared old new → IsIdleHand shared old → IsIdleHand shared new
idle-on shared old new carries idle = record {
  is_hand = carries.hand;
  landed = landed-still old new carries.only idle.landed;
}

-- the hand of a ready seat is one of these locks
pub seat-hand : (script : Script) (shared : Shared) (seat : Seat) → IsReadySeat script shared seat → IsHand shared (hand_of_seat seat)
seat-hand script shared (AtWork (ClientWork hand client)) ready = ready.keeps.is_hand
seat-hand script shared (AtWork (GateWork hand gate)) ready = ready.0.is_hand
seat-hand script shared (AtWork (ShardWork hand shard)) ready = ready.0.is_hand
seat-hand script shared (Playing player) ready = ready.worker.hand

-- Rows of seats and hands

-- what is true of each of a list is true with one more of which it is true
pub all-more : {A : Type 0} (P : A → Type 0) (xs new : List A) (x : A) → new ≡ xs ++ x ∷ [] → All P xs → P x → All P new
all-more P xs new x more all one = subst (All P) (sym more) (All-push P xs x all one)

-- and it is true of the next of what is left, and of the rest
pub all-next : {A : Type 0} (P : A → Type 0) (left rest : List A) (x : A) → left ≡ x ∷ rest → All P left → P x × All P rest
all-next P left rest x next all = (All-head P x rest (subst (All P) next all), All-tail P x rest (subst (All P) next all))

-- with one more hand, the hands so far and those of the seats that are left are all of them
pub hands-more : (done new : List Hand) (hand : Hand) (left rest : List Seat) (seat : Seat) (all : List Hand) → new ≡ done ++ hand ∷ []
    → left ≡ seat ∷ rest → hand ≡ hand_of_seat seat → done ++ map hand_of_seat left ≡ all → new ++ map hand_of_seat rest ≡ all
hands-more done new hand left rest seat all more next same was =
    ap (λ (l : List Hand). l ++ map hand_of_seat rest) more
    ∙ append_assoc done (hand ∷ []) (map hand_of_seat rest)
    ∙ ap (λ (h : Hand). done ++ h ∷ map hand_of_seat rest) same
    ∙ ap (λ (l : List Seat). done ++ map hand_of_seat l) (sym next)
    ∙ was
