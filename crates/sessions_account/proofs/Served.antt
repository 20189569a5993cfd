-- What a call for one of the hand's sessions gains.
-- Used by Leading.
use Rattle.std.proofs.Common.{◌≡◌, ◌≢◌, inl, inr, ℕ, ◌<◌, List, [], ◌∷◌, ◌++◌, Contains, refl, sym, ap, ◌∙◌, subst, arith}
use Rattle.std.proofs.lemmas.Bool.{cases_eq}
use Rattle.std.proofs.lemmas.List.{append-nil}
use Rattle.weave_data.proofs.Members.{has_none}
use Rattle.weave_data.specs.declared.name.Name.{Name}
use Rattle.graph_ops.specs.Operations.{State}
use Rattle.vector_stamp.specs.declared.clock.Stamp.{Stamp}
use Rattle.program_defs.specs.declared.script.Script.{Script}
use Rattle.program_defs.specs.Limits.{IsWithinLimits}
use Rattle.weave_entries.specs.declared.session_log.SessionEntry.{SessionEntry}
use Rattle.weave_entries.specs.GateReplay.{BegunRequest, begun_in}
use Rattle.weave_entries.specs.SessionReplay.{IsSessionLog, begins_in, replied_in}
use Rattle.weave_entries.specs.StoreReplay.{Judgement}
use Rattle.weave_account.specs.Programs.{ReadsInTurn}
use Rattle.weave_account.specs.Sessions.{requests_of_session}
use Rattle.weave_account.specs.Store.{InTurn}
use Rattle.weaver_core.specs.declared.client.Client.{Client}
use Rattle.weaver_core.specs.Sessions.{log_of_client}
use Rattle.weaver_locks.specs.declared.shared.Shared.{Shared}
use Rattle.weaver_locks.specs.Following.{VisitsItsOwnPrograms}
use Rattle.weaver_locks.specs.Hands.{hand_number}
use Rattle.weaver_hands.specs.Leaving.{MakesNoVisit}
use Rattle.weaver_hands.specs.Programs.{own_reads}
use Rattle.weaver_workers.specs.ClientWork.{Stand}
use Rattle.weaver_workers.specs.Keeping.{AreLocksOf, KeepsClient}
use Rattle.workers_account.specs.Followed.{IsFollowed}
use Rattle.workers_account.specs.Gained.{GainedEntries, IsInStep, IsJudgedFor}
use Rattle.workers_account.proofs.Ended.{replied-later}
use Rattle.workers_account.proofs.OneGate.{at_one, at-each, at-it}
use Rattle.workers_account.proofs.SessionLogs.{begins-later, begun-here, pairs-weaker, replied-here}
use Rattle.workers_account.proofs.StepReads.{RunsNot, step-unvisited}
use Rattle.workers_account.proofs.TurnsKept.{HasTurn, step-turn}
use Rattle.sessions_account.specs.Histories.{Stands, HasSession, ServesSession, of_session}
use Rattle.sessions_account.specs.SessionsLaws.{SessionsLaws}
use Rattle.sessions_account.proofs.Gains.{AreLogged, HasGained, IsRequestOf, KeepsClients}
use Rattle.sessions_account.proofs.Joined.{same-sessions}
use Rattle.sessions_account.proofs.Others.{keeps-on, of-running}

module _ (laws : SessionsLaws) (shared : Shared) (script : Script) (upto : ℕ) (hand_of : ℕ → ℕ) (within : IsWithinLimits script)
    (locks : AreLocksOf script shared) (old new : Stands) (keeps : KeepsClients shared script hand_of old)
    (own : VisitsItsOwnPrograms shared old.hand) (serves : ServesSession shared script upto hand_of old new) where
  abbrev s : ℕ
  s = serves.session

  abbrev number : ℕ
  number = hand_number old.hand

  abbrev was : Stand
  was = of_session old s

  abbrev is : Stand
  is = of_session new s

  kept : KeepsClient shared script s old.hand (old.clients s)
  kept = keeps s serves.given

  now : KeepsClient shared script s new.hand (new.clients s)
  now = laws.goes_on shared script s upto was is within locks kept serves.is_hand serves.runs serves.at_end serves.does

  -- the session was followed by this one call
  abbrev followed : IsFollowed shared script s upto was is
  followed = laws.phase.follow shared script s upto was is (is ∷ []) within locks kept own ((serves.does, now), refl)

  abbrev step : IsInStep script number upto was is
  step = followed.in_step

  abbrev gained : GainedEntries was is
  gained = step.gained

  abbrev logs : ℕ → List SessionEntry
  logs = at_one s gained.session

  -- what one of the logs has begun, or replied, this session's has
  of-one : {A : Type 0} (f : List SessionEntry → List A) → f [] ≡ [] → (t : ℕ) (x : A) → Contains (f (logs t)) x
      → (t ≡ s) × Contains (f gained.session) x
  of-one {A} f none t x = at-each s gained.session (λ k l. Contains (f l) x → (k ≡ s) × Contains (f gained.session) x)
      (λ h. (refl, h)) (λ k other h. absurd (has_none x (subst (λ (l : List A). Contains l x) none h))) t

  here : (P : List SessionEntry → Type 0) → P gained.session → P (logs s)
  here P h = subst P (sym (at-it s gained.session s refl)) h

  -- the session's log is right
  abbrev log : List SessionEntry
  log = log_of_client (new.clients s)

  right : IsSessionLog s (requests_of_session script s) log
  right = subst (λ (rs : List ℕ). IsSessionLog s rs log) now.requests now.at_end.right

  begun-of : (r : ℕ) (stamp : Stamp) → Contains (begins_in gained.session) (r, stamp) → IsRequestOf script s r
  begun-of r stamp h = begun-here laws.phase script s log right r stamp
      (subst (λ (l : List SessionEntry). Contains (begins_in l) (r, stamp)) (sym gained.in_session)
      (begins-later (log_of_client (old.clients s)) gained.session r stamp h))

  replied-of : (r : ℕ) → Contains (replied_in gained.session) r → IsRequestOf script s r
  replied-of r h = replied-here laws.phase script s log right r
      (subst (λ (l : List SessionEntry). Contains (replied_in l) r) (sym gained.in_session)
      (replied-later (log_of_client (old.clients s)) gained.session r h))

  logged : AreLogged script hand_of number gained.gates gained.store logs
  logged = record {
    begun = λ home begun h. (s, serves.given, here (λ l. Contains (begins_in l) (begun.request, begun.stamp)) (step.in_step.begun home begun h));
    at_gate = λ t r stamp h. step.in_step.at_gate r stamp (of-one begins_in refl t (r, stamp) h).1;
    ended = λ home r h. (s, serves.given, here (λ l. Contains (replied_in l) r) (step.in_step.ended home r h));
    replied = λ t r h. step.in_step.replied r (of-one replied_in refl t r h).1;
    judged = λ judged h. (s, serves.given, here (λ l. IsJudgedFor script l judged) (step.in_step.judged judged h));
    once = λ home. pairs-weaker (λ (a b : BegunRequest). a.request < b.request) (λ (a b : BegunRequest). a.request ≢ b.request)
        (λ a b less same. omega (arith, less, same)) (begun_in (gained.gates home)) (step.begun_rise home);
    in_turn = pairs-weaker (λ (a b : Judgement). a.request < b.request) (λ (a b : Judgement). InTurn script a.request b.request)
        (λ a b less same. less) _ step.judged_rise;
  }

  -- Other sessions

  module _ (t : ℕ) (given : HasSession hand_of number t) (other : t ≢ s) where
    not-both : (r : ℕ) → IsRequestOf script t r → IsRequestOf script s r → ⊥
    not-both r one two = other (same-sessions script t s r r one two refl)

    rests : (r : ℕ) → IsRequestOf script t r → RunsNot was r
    rests r of running at same =
        not-both r of (subst (λ (q : ℕ). IsRequestOf script s q) (sym same) (of-running shared script s old.hand (old.clients s) kept running at))

    unvisited : (r : ℕ) → IsRequestOf script t r → MakesNoVisit old.hand new.hand r
    unvisited r of = step-unvisited shared script s upto was is laws.reads serves.does r (rests r of)

    keeps-other : KeepsClient shared script t new.hand (new.clients t)
    keeps-other =
        subst (λ (c : Client). KeepsClient shared script t new.hand c) (sym (serves.others t other))
        (keeps-on laws shared script t old.hand new.hand (old.clients t) (keeps t given) serves.is_hand now.landed
        gained.gates gained.at_gates
        (λ home begun h of. not-both begun.request of (begun-of begun.request begun.stamp (step.in_step.begun home begun h)))
        (λ home r h of. not-both r of (replied-of r (step.in_step.ended home r h)))
        unvisited)

    turn-other : (r : ℕ) → IsRequestOf script t r → HasTurn script (of_session old t) r → HasTurn script (of_session new t) r
    turn-other r of turn program look =
        let reads : own_reads new.hand r ≡ own_reads old.hand r =
        laws.reads.reads shared old.hand new.hand r (keeps t given).is_hand serves.is_hand (unvisited r of) in
        let same : log_of_client (new.clients t) ≡ log_of_client (old.clients t) = ap log_of_client (serves.others t other) in
        subst (λ (x : List (Name × State)). ReadsInTurn x program (Contains (replied_in (log_of_client (new.clients t))) r)) (sym reads)
        (subst (λ (l : List SessionEntry). ReadsInTurn (own_reads old.hand r) program (Contains (replied_in l) r)) (sym same) (turn program look))

  -- All sessions

  all-kept : KeepsClients shared script hand_of new
  all-kept t given = elim (cases_eq t s) [
    | inl same ↦ subst (λ (k : ℕ). KeepsClient shared script k new.hand (new.clients k)) (sym same) now
    | inr other ↦ keeps-other t (given.0, given.1 ∙ followed.number_is) other
  ]

  turns : (t : ℕ) → HasSession hand_of number t → (r : ℕ) → IsRequestOf script t r → HasTurn script (of_session old t) r
      → HasTurn script (of_session new t) r
  turns t given r of = elim (cases_eq t s) [
    | inl same ↦ subst (λ (k : ℕ). HasTurn script (of_session old k) r → HasTurn script (of_session new k) r) (sym same)
        (step-turn laws.reads shared script s upto was is kept serves.is_hand serves.does r)
    | inr other ↦ turn-other t given other r of
  ]

  new-turns : (t r : ℕ) (stamp : Stamp) → Contains (begins_in (logs t)) (r, stamp) → HasTurn script (of_session new t) r
  new-turns t r stamp h =
      let at = of-one begins_in refl t (r, stamp) h in
      subst (λ (k : ℕ). HasTurn script (of_session new k) r) (sym at.0) (followed.reads gained.session gained.in_session r stamp at.1)

  -- in a call for a session the hand's new entries match those of its sessions' logs, and it can go on with each
  pub served : HasGained shared script hand_of old new
  served = record {
    number_is = followed.number_is;
    more = followed.more;
    is_hand = serves.is_hand;
    landed = now.landed;
    keeps = all-kept;
    visits = followed.visits;
    gates = gained.gates;
    at_gates = gained.at_gates;
    store = gained.store;
    at_store = gained.at_store;
    logs = logs;
    in_logs = at-each s gained.session (λ t l. log_of_client (new.clients t) ≡ log_of_client (old.clients t) ++ l) gained.in_session
        (λ t other. ap log_of_client (serves.others t other) ∙ sym (append-nil (log_of_client (old.clients t))));
    logged = logged;
    begins = λ home before entry after at mine. inr (s, serves.given, followed.begins home before entry after at mine);
    turns = turns;
    new_turns = λ t given r stamp h. new-turns t r stamp h;
  }
