-- In a call for no session a hand begins, ends and judges nothing, and adds nothing to its sessions' logs; without a
-- call it gains nothing.
-- Used by Leading.
use Rattle.std.proofs.Common.{◌≡◌, ◌≢◌, inl, ℕ, ◌==◌, Bool, List, [], ◌∷◌, ◌++◌, length, AllPairs, Contains, refl, sym, ap, ◌∙◌, subst, arith}
use Rattle.std.specs.List.{filter}
use Rattle.std.proofs.lemmas.List.{append-nil, length-append}
use Rattle.weave_data.proofs.Members.{has_flat, has_none, no-members}
use Rattle.weave_data.proofs.Ordered.{pairs_none}
use Rattle.seen_logs.proofs.Within.{itself}
use Rattle.weave_data.specs.declared.name.Name.{Name}
use Rattle.graph_ops.specs.Operations.{State}
use Rattle.program_defs.specs.declared.script.Script.{Script}
use Rattle.weave_entries.specs.declared.gate_log.GateEntry.{GateEntry}
use Rattle.weave_entries.specs.declared.session_log.SessionEntry.{SessionEntry}
use Rattle.weave_entries.specs.GateReplay.{BegunRequest, begun_by, begun_in, ended_in}
use Rattle.weave_entries.specs.SessionReplay.{replied_in}
use Rattle.weave_entries.specs.StoreReplay.{Judgement}
use Rattle.weave_account.specs.Account.{gate_log}
use Rattle.weave_account.specs.Programs.{ReadsInTurn}
use Rattle.weave_account.specs.Store.{InTurn}
use Rattle.weaver_core.specs.declared.client.Client.{Client}
use Rattle.weaver_core.specs.Sessions.{log_of_client}
use Rattle.weaver_locks.specs.declared.shared.Shared.{Shared}
use Rattle.weaver_locks.specs.Following.{VisitsItsOwnPrograms}
use Rattle.weaver_locks.specs.Hands.{hand_number, made_by, seen_by, IsHand}
use Rattle.weaver_hands.specs.Programs.{own_reads}
use Rattle.weaver_workers.specs.Keeping.{HasLanded, KeepsClient}
use Rattle.workers_account.proofs.Begun.{none-begun, none-ended}
use Rattle.workers_account.proofs.BegunPlaces.{own-among}
use Rattle.workers_account.proofs.StepReads.{carry-unvisited}
use Rattle.workers_account.proofs.TurnsKept.{HasTurn}
use Rattle.sessions_account.specs.Histories.{Stands, ServesNone, of_session}
use Rattle.sessions_account.specs.SessionsLaws.{SessionsLaws}
use Rattle.sessions_account.proofs.Gains.{AreLogged, HasGained, KeepsClients}
use Rattle.sessions_account.proofs.Others.{keeps-on}

-- a hand that began and ended nothing, and judged nothing, is in step with logs that gained nothing
nothing-logged : (script : Script) (hand_of : ℕ → ℕ) (number : ℕ) (gates : ℕ → List GateEntry)
    → ((home : ℕ) (begun : BegunRequest) → Contains (begun_in (gates home)) begun → ⊥)
    → ((home r : ℕ) → Contains (ended_in (gates home)) r → ⊥) → AreLogged script hand_of number gates [] (λ s. [])
nothing-logged script hand_of number gates unbegun unended = record {
  begun = λ home begun h. absurd (unbegun home begun h);
  at_gate = λ s r stamp h. absurd (has_none (r, stamp) h);
  ended = λ home r h. absurd (unended home r h);
  replied = λ s r h. absurd (has_none r h);
  judged = λ judged h. absurd (has_none judged h);
  once = λ home. subst (AllPairs (λ (a b : BegunRequest). a.request ≢ b.request)) (sym (no-members (begun_in (gates home)) (unbegun home)))
      (pairs_none (λ (a b : BegunRequest). a.request ≢ b.request));
  in_turn = pairs_none (λ (a b : Judgement). InTurn script a.request b.request);
}

-- a hand without a call has gained nothing, if it keeps its clients and visits its own programs
pub none-gained : (shared : Shared) (script : Script) (hand_of : ℕ → ℕ) (at : Stands) → IsHand shared at.hand → HasLanded at.hand
    → KeepsClients shared script hand_of at → VisitsItsOwnPrograms shared at.hand → HasGained shared script hand_of at at
none-gained shared script hand_of at is_hand landed keeps own = record {
  number_is = refl;
  more = itself (seen_by at.hand);
  is_hand = is_hand;
  landed = landed;
  keeps = keeps;
  visits = own;
  gates = λ home. [];
  at_gates = λ home. sym (append-nil (gate_log (made_by at.hand) home));
  store = [];
  at_store = sym (append-nil (made_by at.hand).store);
  logs = λ s. [];
  in_logs = λ s. sym (append-nil (log_of_client (at.clients s)));
  logged = nothing-logged script hand_of (hand_number at.hand) (λ home. []) (λ home begun h. has_none begun h) (λ home r h. has_none r h);
  begins = λ home before entry after is mine.
      (let short = ap length is in let long = length-append before (entry ∷ after) in let late = mine.1 in absurd (omega (arith, short, long, late)));
  turns = λ s given r of turn. turn;
  new_turns = λ s given r stamp h. absurd (has_none (r, stamp) h);
}

module _ (laws : SessionsLaws) (shared : Shared) (script : Script) (hand_of : ℕ → ℕ) (old new : Stands) (is_hand : IsHand shared old.hand)
    (landed : HasLanded old.hand) (keeps : KeepsClients shared script hand_of old) (own : VisitsItsOwnPrograms shared old.hand) (serves : ServesNone shared old new) where
  abbrev number : ℕ
  number = hand_number old.hand

  abbrev gates : ℕ → List GateEntry
  gates home = (serves.carries.only.gates home).added

  at-gates : (home : ℕ) → gate_log (made_by new.hand) home ≡ gate_log (made_by old.hand) home ++ gates home
  at-gates home = (serves.carries.only.gates home).log

  unbegun : (home : ℕ) (begun : BegunRequest) → Contains (begun_in (gates home)) begun → ⊥
  unbegun home begun h = none-begun gates (λ k entry. (serves.carries.only.gates k).pass entry) home begun h

  unended : (home r : ℕ) → Contains (ended_in (gates home)) r → ⊥
  unended home r h = none-ended gates (λ k entry. (serves.carries.only.gates k).pass entry) home r h

  keeps-all : KeepsClients shared script hand_of new
  keeps-all t given =
      subst (λ (c : Client). KeepsClient shared script t new.hand c) (sym (serves.same t))
      (keeps-on laws shared script t old.hand new.hand (old.clients t) (keeps t (given.0, given.1 ∙ serves.carries.only.number))
      serves.carries.hand (laws.landed old.hand new.hand serves.carries.only landed) gates at-gates (λ home begun h of. unbegun home begun h) (λ home r h of. unended home r h)
      (λ r of. carry-unvisited old.hand new.hand serves.carries.only r))

  turns : (t r : ℕ) → HasTurn script (of_session old t) r → HasTurn script (of_session new t) r
  turns t r turn program look =
      let reads : own_reads new.hand r ≡ own_reads old.hand r =
      laws.reads.reads shared old.hand new.hand r is_hand serves.carries.hand (carry-unvisited old.hand new.hand serves.carries.only r) in
      let same : log_of_client (new.clients t) ≡ log_of_client (old.clients t) = ap log_of_client (serves.same t) in
      subst (λ (x : List (Name × State)). ReadsInTurn x program (Contains (replied_in (log_of_client (new.clients t))) r)) (sym reads)
      (subst (λ (l : List SessionEntry). ReadsInTurn (own_reads old.hand r) program (Contains (replied_in l) r)) (sym same) (turn program look))

  -- an entry that the hand made begins nothing
  begins-none : (home : ℕ) (entry : GateEntry) → Contains (gates home) entry → begun_by entry.author entry.deed ≡ []
  begins-none home entry there = no-members (begun_by entry.author entry.deed)
      (λ begun h. unbegun home begun (has_flat (λ (e : GateEntry). begun_by e.author e.deed) (gates home) entry begun there h))

  abbrev mine : GateEntry → Bool
  mine = λ (e : GateEntry). e.author == number

  made-now : (home : ℕ) → filter mine (gate_log (seen_by new.hand) home) ≡ gate_log (made_by old.hand) home ++ gates home
  made-now home =
      ap (λ (n : ℕ). filter (λ (e : GateEntry). e.author == n) (gate_log (seen_by new.hand) home)) (sym serves.carries.only.number)
      ∙ sym (laws.phase.own_at_gate shared new.hand serves.carries.hand home) ∙ at-gates home

  -- in a call for no session the hand's new entries match those of its sessions' logs, and it can go on with each
  pub carried : HasGained shared script hand_of old new
  carried = record {
    number_is = serves.carries.only.number;
    more = serves.carries.only.more;
    is_hand = serves.carries.hand;
    landed = (laws.landed old.hand new.hand serves.carries.only landed);
    keeps = keeps-all;
    visits = laws.phase.visits_carried shared old.hand new.hand is_hand serves.carries.hand
        (carry-unvisited old.hand new.hand serves.carries.only) own;
    gates = gates;
    at_gates = at-gates;
    store = [];
    at_store = serves.carries.only.store ∙ sym (append-nil (made_by old.hand).store);
    logs = λ s. [];
    in_logs = λ s. ap log_of_client (serves.same s) ∙ sym (append-nil (log_of_client (old.clients s)));
    logged = nothing-logged script hand_of number gates unbegun unended;
    begins = λ home before entry after at is. inl (begins-none home entry
        (own-among (λ (e : GateEntry). e.author) number (gate_log (seen_by old.hand) home) (gate_log (seen_by new.hand) home)
        (gate_log (made_by old.hand) home) (gates home) (serves.carries.only.more.gates home)
        (laws.phase.own_at_gate shared old.hand is_hand home) (made-now home) before entry after at is));
    turns = λ t given r of turn. turns t r turn;
    new_turns = λ s given r stamp h. absurd (has_none (r, stamp) h);
  }
