-- What came out of the locks after a phase can be joined to a core again.
-- Used by `run_parts`.
use Rattle.std.proofs.Common.{◌≡◌, ℕ, ◌<◌, List, length, map, All, Contains, inl, inr, refl, sym, ap, subst, ◌∙◌}
use Rattle.std.specs.List.{range_with_len}
use Rattle.std.proofs.lemmas.List.{length-map}
use Rattle.std.proofs.lemmas.List.Elements.{All-contains}
use Rattle.vector_stamp.specs.declared.clock.Clock.{Clock}
use Rattle.gatekeeper.specs.Gates.{GateView}
use Rattle.shard_node.specs.Shards.{ShardView}
use Rattle.program_defs.specs.declared.script.Script.{Script}
use Rattle.program_defs.specs.Limits.{IsWithinLimits}
use Rattle.weave_account.specs.declared.account.Account.{Account}
use Rattle.weave_account.specs.IsAccount.{IsAccount}
use Rattle.weave_account.specs.Sessions.{requests_of_session}
use Rattle.seen_logs.specs.Closed.{AreOfHands}
use Rattle.seen_logs.specs.Seen.{AreLegal, IsWithin, VisitsOwnPrograms, without_sessions}
use Rattle.weaver_core.specs.declared.split.Split.{Split}
use Rattle.weaver_core.specs.Sessions.{log_of_client, requests_in}
use Rattle.weaver_core.specs.Splitting.{account_of, CanBeJoined, IsClientByLog}
use Rattle.weaver_locks.specs.declared.hand.Hand.{Hand}
use Rattle.weaver_locks.specs.declared.shared.Shared.{Shared}
use Rattle.weaver_locks.specs.Closing.{entries_by, logs_of, seen_by_number, AreInOrder}
use Rattle.weaver_locks.specs.Hands.{hand_number, made_by, seen_by}
use Rattle.weaver_locks.specs.Locks.{gate_count, hands_of, shard_count, start_of}
use Rattle.weaver_workers.specs.Phases.{phase_end, phase_start}
use Rattle.workers_account.specs.Phase.{IsClosedBy, IsPhaseEnd, IsPhaseRun}
use Rattle.workers_account.specs.SessionRuns.{WasRunForSession}
use Rattle.weave_phase.specs.Parts.{AreReadyParts, PartsGoOn}
use Rattle.weave_phase.specs.Ran.{WorkersHaveEnded}
use Rattle.weave_phase.specs.StartLaws.{StartLaws}

module _ (laws : StartLaws) (phase : ℕ) (split : Split) (parts : AreReadyParts phase split) (shared : Shared) (hands : List Hand) (new : Split)
    (script_is : new.script ≡ split.script) (notices_are : new.notices.items ≡ split.notices.items)
    (run : IsPhaseRun shared split.script (phase_end split.script phase) (account_of split) split.clients.items new.clients.items hands)
    (ended : WorkersHaveEnded shared split.script phase new.clients.items hands)
    (gates : length new.gates.items ≡ gate_count shared) (shards : length new.shards.items ≡ shard_count shared)
    (order : AreInOrder new.gates.items new.shards.items)
    (legal : AreLegal (gate_count shared) (shard_count shared) (logs_of new.gates.items new.store new.oracle new.shards.items))
    (within : All (λ (hand : Hand). IsWithin (seen_by hand) (logs_of new.gates.items new.store new.oracle new.shards.items)) hands)
    (of_hands : ((number : ℕ) → number < hands_of shared → VisitsOwnPrograms number (start_of shared) (seen_by_number hands number))
    → AreOfHands (shard_count shared) (hands_of shared) (start_of shared) (seen_by_number hands) (logs_of new.gates.items new.store new.oracle new.shards.items))
    (made : All (λ (hand : Hand). entries_by (hand_number hand) (logs_of new.gates.items new.store new.oracle new.shards.items) ≡ made_by hand) hands) where
  abbrev script : Script
  script = split.script

  abbrev start : Account
  start = account_of split

  abbrev closed : Account
  closed = account_of new

  abbrev logs : Account
  logs = logs_of new.gates.items new.store new.oracle new.shards.items

  gates-are : gate_count shared ≡ script.gates
  gates-are = run.at_start.locks.gates

  shards-are : shard_count shared ≡ script.shards
  shards-are = run.at_start.locks.shards

  legal-script : AreLegal script.gates script.shards logs
  legal-script = subst (λ (n : ℕ). AreLegal n script.shards logs) gates-are (subst (λ (n : ℕ). AreLegal (gate_count shared) n logs) shards-are legal)

  closed-legal : AreLegal script.gates script.shards closed
  closed-legal = record {
    gate_logs = legal-script.gate_logs;
    hears = legal-script.hears;
    store_log = legal-script.store_log;
    oracle_log = legal-script.oracle_log;
    shard_logs = legal-script.shard_logs;
  }

  closed-within : (hand : Hand) → Contains hands hand → IsWithin (seen_by hand) closed
  closed-within hand h =
      let in_logs = All-contains (λ (hand : Hand). IsWithin (seen_by hand) logs) hands hand within h in
      record { gates = in_logs.gates; store = in_logs.store; oracle = in_logs.oracle; shards = in_logs.shards }

  of-hands : AreOfHands script.shards (hands_of shared) (without_sessions start) (seen_by_number hands) (without_sessions closed)
  of-hands =
      subst (λ (first : Account). AreOfHands script.shards (hands_of shared) first (seen_by_number hands) (without_sessions closed)) run.at_start.start_is
      (subst (λ (n : ℕ). AreOfHands n (hands_of shared) (start_of shared) (seen_by_number hands) (without_sessions closed)) shards-are
      (of_hands (laws.own_visits shared script (phase_end script phase) start split.clients.items new.clients.items hands run)))

  closed-by : IsClosedBy shared script start new.clients.items hands closed
  closed-by = record {
    gates = length-map new.gates.items (λ (gate : GateView). gate.log) ∙ gates ∙ gates-are;
    shards = length-map new.shards.items (λ (shard : ShardView). shard.log) ∙ shards ∙ shards-are;
    sessions = refl;
    legal = closed-legal;
    of_hands = of-hands;
    within = closed-within;
    made = λ hand h. All-contains (λ (hand : Hand). entries_by (hand_number hand) logs ≡ made_by hand) hands hand made h;
  }

  ends : IsPhaseEnd script (phase_end script phase) start new.clients.items closed
  ends = laws.ends shared script (phase_end script phase) start split.clients.items new.clients.items hands closed run closed-by

  ran : (session : ℕ) → WasRunForSession script (phase_end script phase) session start closed
  ran session =
      elim (ended session) [
        | inl one ↦ laws.ran_as shared script (phase_end script phase) start split.clients.items new.clients.items hands closed run closed-by session one
        | inr none ↦ laws.ran_idle script (phase_start script phase) (phase_end script phase) session start closed none parts.answered ends.goes_on
      ]

  can-join : CanBeJoined new
  can-join =
      let for = laws.parts new.script new.gates.items new.shards.items
      (gates ∙ gates-are ∙ ap (λ (x : Script). x.gates) (sym script_is)) (shards ∙ shards-are ∙ ap (λ (x : Script). x.shards) (sym script_is)) order in
      record {
        limits = subst (λ (x : Script). IsWithinLimits x) (sym script_is) parts.joined.limits;
        parts = record {
          gate_count = gates ∙ gates-are ∙ ap (λ (x : Script). x.gates) (sym script_is);
          gates = for.0;
          shard_count = shards ∙ shards-are ∙ ap (λ (x : Script). x.shards) (sym script_is);
          shards = for.1;
          requests = subst (λ (x : Script). map requests_in new.clients.items ≡ map (requests_of_session x) (range_with_len 0 64)) (sym script_is) ends.requests;
        };
        core = record {
          account = subst (λ (x : Script). IsAccount x closed) (sym script_is) ends.is_account;
          sessions = length-map new.clients.items log_of_client ∙ run.many;
          notices = λ clock h. laws.clocks script start closed ends.goes_on clock
              (parts.joined.core.notices clock (subst (λ (l : List Clock). Contains l clock) notices_are h));
        };
        clients = λ client h. subst (λ (x : Script). IsClientByLog x closed client) (sym script_is) (ends.by_log client h);
        landed = ends.landed;
      }

  -- what came out of the locks can be joined; its logs went on, no request of a later phase was begun, and the phase was
  -- run for each session
  pub parts-go-on : PartsGoOn phase split new
  parts-go-on = record {
    joined = can-join;
    script = script_is;
    goes_on = ends.goes_on;
    begins = ends.begins;
    workers = ends.workers;
    pairs = ends.pairs;
    sessions = ran;
  }
