-- A hand goes on with a session for which a call did nothing.
-- Used by Carried and Served.
use Rattle.std.proofs.Common.{◌≡◌, inl, inr, ℕ, List, [], ◌++◌, Contains, Some, sym, ◌∙◌, subst}
use Rattle.std.specs.Prelude.{slice_get}
use Rattle.std.proofs.lemmas.List.Elements.{Contains-append_cases, Contains-append_left}
use Rattle.std.proofs.lemmas.List.Concat.{flat_map-append}
use Rattle.weave_data.proofs.Images.{get-has}
use Rattle.weave_data.proofs.Members.{has_flat, has_head}
use Rattle.vector_stamp.specs.declared.clock.Stamp.{Stamp}
use Rattle.program_defs.specs.declared.script.Script.{Script}
use Rattle.weave_entries.specs.declared.gate_log.GateEntry.{GateEntry}
use Rattle.weave_entries.specs.declared.gate_log.GateDeed.{GateDeed}
use Rattle.weave_entries.specs.GateReplay.{BegunRequest, begun_by, begun_in, ended_by, ended_in}
use Rattle.weave_account.specs.Account.{gate_log}
use Rattle.weaver_core.specs.declared.client.Client.{Client}
use Rattle.weaver_core.specs.declared.walks.Running.{Running}
use Rattle.weaver_locks.specs.declared.hand.Hand.{Hand}
use Rattle.weaver_locks.specs.declared.shared.Shared.{Shared}
use Rattle.weaver_locks.specs.Following.{HasNotBegun, MayHear}
use Rattle.weaver_locks.specs.Hands.{made_by, IsHand}
use Rattle.weaver_hands.specs.Leaving.{LeavesAlone, MakesNoVisit}
use Rattle.weaver_workers.specs.Keeping.{HasLanded, IsFresh, IsRunningFor, KeepsClient}
use Rattle.workers_account.proofs.SessionLogs.{in-session}
use Rattle.sessions_account.specs.SessionsLaws.{SessionsLaws}
use Rattle.sessions_account.proofs.Gains.{IsRequestOf}
use Rattle.workers_account.proofs.JoinGains.{either-made}

-- a request that a client has at some place is the session's
pub of-place : (shared : Shared) (script : Script) (t : ℕ) (hand : Hand) (client : Client) → KeepsClient shared script t hand client
    → (n r : ℕ) → slice_get client.session.requests n ≡ Some r → IsRequestOf script t r
of-place shared script t hand client keeps n r at =
    in-session script t r (subst (λ (rs : List ℕ). Contains rs r) keeps.requests (get-has client.session.requests n r at))

-- what runs is the session's
pub of-running : (shared : Shared) (script : Script) (t : ℕ) (hand : Hand) (client : Client) → KeepsClient shared script t hand client
    → (one : Running) → client.running ≡ Some one → IsRequestOf script t one.request
of-running shared script t hand client keeps one is =
    of-place shared script t hand client keeps _ one.request (keeps.running one is).turn.last

-- What the hand made at gatekeepers began and ended none of the session's requests, and it visited for none.
module _ (laws : SessionsLaws) (shared : Shared) (script : Script) (t : ℕ) (old new : Hand) (client : Client)
    (was : KeepsClient shared script t old client) (is_hand : IsHand shared new) (landed : HasLanded new)
    (gates : ℕ → List GateEntry) (at_gates : (home : ℕ) → gate_log (made_by new) home ≡ gate_log (made_by old) home ++ gates home)
    (unbegun : (home : ℕ) (begun : BegunRequest) → Contains (begun_in (gates home)) begun → IsRequestOf script t begun.request → ⊥)
    (unended : (home r : ℕ) → Contains (ended_in (gates home)) r → IsRequestOf script t r → ⊥)
    (unvisited : (r : ℕ) → IsRequestOf script t r → MakesNoVisit old new r) where
  alone : (r : ℕ) → IsRequestOf script t r → LeavesAlone old new r
  alone r of = record {
    unvisited = unvisited r of;
    finished = λ home entry h is. elim (Contains-append_cases (gate_log (made_by old) home) (gates home) entry
        (subst (λ (l : List GateEntry). Contains l entry) (at_gates home) h)) [
          | inl before ↦ before
          | inr now ↦ absurd (unended home r (has_flat (λ (e : GateEntry). ended_by e.deed) (gates home) entry r now
              (subst (λ (d : GateDeed). Contains (ended_by d) r) (sym is) (has_head r []))) of)
        ];
  }

  not-begun : (r : ℕ) → IsRequestOf script t r → HasNotBegun old r → HasNotBegun new r
  not-begun r of before home begun h same =
      elim (either-made (λ (e : GateEntry). begun_by e.author e.deed) (gate_log (made_by old) home) (gates home) begun
      (subst (λ (l : List GateEntry). Contains (begun_in l) begun) (at_gates home) h)) [
        | inl there ↦ before home begun there same
        | inr now ↦ unbegun home begun now (subst (λ (q : ℕ). IsRequestOf script t q) (sym same) of)
      ]

  hears-on : (stamp : Stamp) → MayHear shared old stamp → MayHear shared new stamp
  hears-on stamp may = record {
    home = may.home;
    begun = may.begun;
    stamp_is = may.stamp_is;
    there = elim may.there [
      | inl own ↦ inl (subst (λ (l : List GateEntry). Contains (begun_in l) may.begun) (sym (at_gates may.home))
          (subst (λ (bs : List BegunRequest). Contains bs may.begun)
          (sym (flat_map-append (λ (e : GateEntry). begun_by e.author e.deed) (gate_log (made_by old) may.home) (gates may.home)))
          (Contains-append_left (begun_in (gate_log (made_by old) may.home)) (begun_in (gates may.home)) may.begun own)))
      | inr started ↦ inr started
    ];
  }

  runs-on : (one : Running) → client.running ≡ Some one → IsRunningFor shared script old client.session one
      → IsRunningFor shared script new client.session one
  runs-on one is for = record {
    begun = for.begun;
    turn = for.turn;
    stamp_is = for.stamp_is;
    look = for.look;
    runs = laws.runs shared old new one was.is_hand is_hand (alone one.request (of-running shared script t old client was one is)) for.runs;
  }

  -- the hand can go on with a session none of whose requests it began, ended or read for in the meantime
  pub keeps-on : KeepsClient shared script t new client
  keeps-on = record {
    is_hand = is_hand;
    landed = landed;
    at_end = was.at_end;
    requests = was.requests;
    waits = was.waits;
    running = λ one is. runs-on one is (was.running one is);
    last = λ stamp is. hears-on stamp (was.last stamp is);
    fresh = λ n r low at. (let of = of-place shared script t old client was n r at in let fresh : IsFresh old r = was.fresh n r low at in record {
      unbegun = not-begun r of fresh.unbegun;
      unread = laws.reads.reads shared old new r was.is_hand is_hand (unvisited r of) ∙ fresh.unread;
    });
  }
