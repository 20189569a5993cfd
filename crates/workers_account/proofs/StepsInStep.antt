-- Each thing that a client's worker does leaves its hand and its session in step.
-- Used by InStep.
use Rattle.std.proofs.Common.{◌≡◌, ◌≢◌, inl, inr, ℕ, ◌<◌, List, [], ◌∷◌, ◌++◌, length, Result, Ok, refl, sym, ap, ◌∙◌, subst, append_assoc}
use Rattle.std.specs.declared.alloc.AllocError.{AllocError}
use Rattle.std.proofs.lemmas.List.{append-nil}
use Rattle.weave_data.proofs.Members.{has_none}
use Rattle.weave_data.proofs.Ordered.{pairs_none}
use Rattle.program_defs.specs.declared.script.Script.{Script}
use Rattle.program_defs.specs.Limits.{IsWithinLimits}
use Rattle.report_rules.specs.declared.report.ReplyState.TheVariants.{Finished as finished_with}
use Rattle.weave_entries.specs.declared.gate_log.GateDeed.TheVariants.{BeganTx, BeganProgram, Sent, Finished}
use Rattle.weave_entries.specs.declared.gate_log.GateEntry.{GateEntry}
use Rattle.weave_entries.specs.declared.message.Addressed.{Addressed}
use Rattle.weave_entries.specs.declared.store_log.StoreEntry.{StoreEntry}
use Rattle.weave_entries.specs.declared.verdict.Verdict.{Verdict}
use Rattle.weave_entries.specs.GateReplay.{BegunRequest}
use Rattle.weave_entries.specs.Sending.{messages_of}
use Rattle.weave_entries.specs.SessionReplay.{SessionState}
use Rattle.weave_entries.specs.StoreReplay.{Judgement}
use Rattle.weave_account.specs.declared.account.Account.{Account}
use Rattle.weave_account.specs.Account.{gate_log}
use Rattle.weave_account.specs.Report.{state_by_verdict}
use Rattle.weaver_core.specs.Sessions.{log_of_client}
use Rattle.weaver_locks.specs.declared.shared.Shared.{Shared}
use Rattle.weaver_locks.specs.GateHolds.{gate_entry_by}
use Rattle.weaver_locks.specs.Hands.{hand_number, made_by}
use Rattle.weaver_locks.specs.Locks.{gate_count, shard_count}
use Rattle.weaver_locks.specs.StoreHolds.{judged_entries}
use Rattle.weaver_workers.specs.ClientWork.{begun_entry, replied_entry, reply_with, DoesOneCall, DoesCarry, DoesChange, DoesFinish, DoesStart, DoesVisit, IsSameSession, Stand}
use Rattle.weaver_workers.specs.Keeping.{AreLocksOf, KeepsClient}
use Rattle.weaver_workers.proofs.ReadOn.{home-there}
use Rattle.weaver_workers.proofs.Rows.{own-logs}
use Rattle.workers_account.specs.Gained.{GainedEntries, IsInStep}
use Rattle.workers_account.proofs.OneGate.{as-many, at-each, at_one, log-elsewhere, log-here, logs-gain}
use Rattle.workers_account.proofs.StepGains.{change-in-step, change-rises, finish-in-step, finish-rises, judgement-rises, none-rise, start-in-step, start-rises, Tells, tells-in-step}

-- Gatekeepers

-- of two begins or judgements the first is of the lesser request
abbrev Later : Judgement → Judgement → Type 0
Later a b = a.request < b.request

-- The session is as it was, and the hand gained only clocks and empty messages at gatekeepers.
module _ (script : Script) (upto : ℕ) (old new : Stand) (same : IsSameSession old.client new.client) (gates : ℕ → List GateEntry)
    (tells : (home : ℕ) → Tells (gates home))
    (at_gates : (home : ℕ) → gate_log (made_by new.hand) home ≡ gate_log (made_by old.hand) home ++ gates home)
    (store : (made_by new.hand).store ≡ (made_by old.hand).store) where
  abbrev still-gains : GainedEntries old new
  still-gains = record {
    gates = gates;
    at_gates = at_gates;
    store = [];
    at_store = store ∙ sym (append-nil (made_by old.hand).store);
    session = [];
    in_session = same.log ∙ sym (append-nil (log_of_client old.client));
    replies = [];
    in_replies = same.replies ∙ sym (append-nil old.client.replies.items);
  }

  still-steps : IsInStep script (hand_number old.hand) upto old new
  still-steps = record {
    gained = still-gains;
    in_step = tells-in-step script (hand_number old.hand) upto gates tells;
    begun_rise = λ home. none-rise (gates home) (tells home);
    judged_rise = pairs_none Later;
    requests = ap (λ (s : SessionState). s.requests) same.session;
    replied = refl;
  }

-- a gatekeeper's log without one more entry
tells-none : Tells []
tells-none entry h = absurd (has_none entry h)

-- a hand that did nothing is in step
pub none-steps : (script : Script) (upto : ℕ) (at : Stand) → IsInStep script (hand_number at.hand) upto at at
none-steps script upto at =
    still-steps script upto at at (record { session = refl; log = refl; replies = refl }) (λ home. []) (λ home. tells-none)
    (λ home. sym (append-nil (gate_log (made_by at.hand) home))) refl

-- One thing done

module _ (shared : Shared) (script : Script) (number upto : ℕ) (within : IsWithinLimits script) (locks : AreLocksOf script shared)
    (old new : Stand) (keeps : KeepsClient shared script number old.hand old.client) where
  -- a gatekeeper of the script is one of the hand's
  gate-there : (gate : ℕ) → gate < gate_count shared → gate < length (made_by old.hand).gates
  gate-there gate low = subst (λ (n : ℕ). gate < n) (sym (own-logs shared old.hand keeps.is_hand)) low

  module _ (does : DoesChange shared script number upto old new) where
    abbrev messages : List Addressed
    messages = messages_of (shard_count shared) does.transacts.flying does.transacts.sends.flight does.ops does.verdict

    abbrev began : GateEntry
    began = gate_entry_by old.hand (BeganTx does.r does.stamp)

    abbrev sent : ℕ → GateEntry
    sent q = gate_entry_by does.transacts.judged (Sent q messages)

    abbrev given : Result Verdict AllocError
    given = Ok does.verdict

    abbrev judged : List StoreEntry
    judged = judged_entries (hand_number does.transacts.begun) does.r does.stamp does.ops does.transacts.judges.before given

    sent-it : does.transacts.sends.flight.request ≡ does.r
    sent-it = ap (λ (b : BegunRequest). b.request) does.transacts.flight_is

    change-low : does.asked.gate < length (made_by old.hand).gates
    change-low = gate-there does.asked.gate (subst (λ (n : ℕ). does.asked.gate < n) (sym locks.gates) (within.homes does.r does.asked does.next.request_is))

    judged-low : does.asked.gate < length (made_by does.transacts.judged).gates
    judged-low = subst (λ (n : ℕ). does.asked.gate < n)
        (sym (ap (λ (a : Account). length a.gates) does.transacts.judges.was.made
        ∙ as-many (made_by old.hand) (made_by does.transacts.begun) does.asked.gate (began ∷ []) does.transacts.begins.made)) change-low

    change-here : gate_log (made_by new.hand) does.asked.gate ≡ gate_log (made_by old.hand) does.asked.gate ++ began ∷ sent does.r ∷ []
    change-here =
        log-here (made_by does.transacts.judged) (made_by new.hand) does.asked.gate (sent does.transacts.sends.flight.request ∷ [])
        does.transacts.sends.was.made judged-low
        ∙ ap (λ (l : List GateEntry). l ++ sent does.transacts.sends.flight.request ∷ [])
        (ap (λ (a : Account). gate_log a does.asked.gate) does.transacts.judges.was.made
        ∙ log-here (made_by old.hand) (made_by does.transacts.begun) does.asked.gate (began ∷ []) does.transacts.begins.made change-low)
        ∙ append_assoc (gate_log (made_by old.hand) does.asked.gate) (began ∷ []) (sent does.transacts.sends.flight.request ∷ [])
        ∙ ap (λ (q : ℕ). gate_log (made_by old.hand) does.asked.gate ++ began ∷ sent q ∷ []) sent-it

    change-elsewhere : (home : ℕ) → home ≢ does.asked.gate → gate_log (made_by new.hand) home ≡ gate_log (made_by old.hand) home
    change-elsewhere home other =
        log-elsewhere (made_by does.transacts.judged) (made_by new.hand) does.asked.gate (sent does.transacts.sends.flight.request ∷ [])
        does.transacts.sends.was.made home other
        ∙ ap (λ (a : Account). gate_log a home) does.transacts.judges.was.made
        ∙ log-elsewhere (made_by old.hand) (made_by does.transacts.begun) does.asked.gate (began ∷ []) does.transacts.begins.made home other

    abbrev change-gains : GainedEntries old new
    change-gains = record {
      gates = at_one does.asked.gate (began ∷ sent does.r ∷ []);
      at_gates = at-each does.asked.gate (began ∷ sent does.r ∷ [])
          (λ home l. gate_log (made_by new.hand) home ≡ gate_log (made_by old.hand) home ++ l) change-here
          (λ home other. change-elsewhere home other ∙ sym (append-nil (gate_log (made_by old.hand) home)));
      store = judged;
      at_store = ap (λ (a : Account). a.store) does.transacts.sends.was.made ∙ ap (λ (a : Account). a.store) does.transacts.judges.was.made
          ∙ ap (λ (a : Account). a.store ++ judged) does.transacts.begins.made;
      session = begun_entry number does.r does.stamp ∷ replied_entry number does.r ∷ [];
      in_session = does.log ∙ append_assoc (log_of_client old.client) (begun_entry number does.r does.stamp ∷ []) (replied_entry number does.r ∷ []);
      replies = reply_with does.r does.stamp (state_by_verdict does.verdict) ∷ [];
      in_replies = does.replies;
    }

    -- a transaction was begun, judged and sent
    change-steps : IsInStep script (hand_number old.hand) upto old new
    change-steps = record {
      gained = change-gains;
      in_step = change-in-step script (hand_number old.hand) upto number does.r does.asked does.stamp does.next.request_is does.next.below
          does.ops does.work_is (hand_number does.transacts.begun) (hand_number does.transacts.judged) does.transacts.judges.before does.verdict messages;
      begun_rise = change-rises script (hand_number old.hand) upto number does.r does.asked does.stamp does.next.request_is does.next.below
          does.ops does.work_is (hand_number does.transacts.begun) (hand_number does.transacts.judged) does.transacts.judges.before does.verdict messages;
      judged_rise = judgement-rises script (hand_number old.hand) upto number does.r does.asked does.stamp does.next.request_is does.next.below
          does.ops does.work_is (hand_number does.transacts.begun) (hand_number does.transacts.judged) does.transacts.judges.before does.verdict messages;
      requests = does.requests;
      replied = refl;
    }

  module _ (does : DoesStart shared script number upto old new) where
    start-low : does.asked.gate < length (made_by old.hand).gates
    start-low = gate-there does.asked.gate (subst (λ (n : ℕ). does.asked.gate < n) (sym locks.gates) (within.homes does.r does.asked does.next.request_is))

    abbrev start-gains : GainedEntries old new
    start-gains = record {
      gates = at_one does.asked.gate (gate_entry_by old.hand (BeganProgram does.r does.stamp) ∷ []);
      at_gates = logs-gain (made_by old.hand) (made_by new.hand) does.asked.gate (gate_entry_by old.hand (BeganProgram does.r does.stamp) ∷ [])
          does.starts.begins.made start-low;
      store = [];
      at_store = ap (λ (a : Account). a.store) does.starts.begins.made ∙ sym (append-nil (made_by old.hand).store);
      session = begun_entry number does.r does.stamp ∷ [];
      in_session = does.log;
      replies = [];
      in_replies = does.replies ∙ sym (append-nil old.client.replies.items);
    }

    -- a program was begun
    start-steps : IsInStep script (hand_number old.hand) upto old new
    start-steps = record {
      gained = start-gains;
      in_step = start-in-step script (hand_number old.hand) upto number does.r does.asked does.stamp does.next.request_is does.next.below;
      begun_rise = start-rises script (hand_number old.hand) upto number does.r does.asked does.stamp does.next.request_is does.next.below;
      judged_rise = pairs_none Later;
      requests = does.requests;
      replied = refl;
    }

  module _ (does : DoesFinish shared number old new) where
    finish-low : does.before.stamp.home < length (made_by old.hand).gates
    finish-low = gate-there does.before.stamp.home
        (home-there shared old.hand does.before keeps.is_hand (keeps.running does.before does.before_is).runs)

    abbrev finish-gains : GainedEntries old new
    finish-gains = record {
      gates = at_one does.before.stamp.home (gate_entry_by old.hand (Finished does.before.request) ∷ []);
      at_gates = logs-gain (made_by old.hand) (made_by new.hand) does.before.stamp.home (gate_entry_by old.hand (Finished does.before.request) ∷ [])
          does.finishes.was.made finish-low;
      store = [];
      at_store = ap (λ (a : Account). a.store) does.finishes.was.made ∙ sym (append-nil (made_by old.hand).store);
      session = replied_entry number does.before.request ∷ [];
      in_session = does.log;
      replies = reply_with does.before.request does.before.stamp (finished_with does.answer) ∷ [];
      in_replies = does.replies;
    }

    -- a program was finished
    finish-steps : IsInStep script (hand_number old.hand) upto old new
    finish-steps = record {
      gained = finish-gains;
      in_step = finish-in-step script (hand_number old.hand) upto number does.before.request does.before.stamp.home;
      begun_rise = finish-rises script (hand_number old.hand) upto number does.before.request does.before.stamp.home;
      judged_rise = pairs_none Later;
      requests = does.requests;
      replied = refl;
    }

  -- a program read its next vertex
  visit-steps : DoesVisit shared old new → IsInStep script (hand_number old.hand) upto old new
  visit-steps does =
      let made = does.visits.visits.was.made in
      still-steps script upto old new does.same (λ home. []) (λ home. tells-none)
      (λ home. ap (λ (a : Account). gate_log a home) made ∙ sym (append-nil (gate_log (made_by old.hand) home)))
      (ap (λ (a : Account). a.store) made)

  -- the hand only carried
  carry-steps : DoesCarry old new → IsInStep script (hand_number old.hand) upto old new
  carry-steps does =
      still-steps script upto old new does.same (λ home. (does.only.gates home).added) (λ home. (does.only.gates home).pass)
      (λ home. (does.only.gates home).log) does.only.store

  -- each one call leaves the hand in step
  pub does-steps : DoesOneCall shared script number upto old new → IsInStep script (hand_number old.hand) upto old new
  does-steps (inl change) = change-steps change
  does-steps (inr (inl start)) = start-steps start
  does-steps (inr (inr (inl visit))) = visit-steps visit
  does-steps (inr (inr (inr (inl finish)))) = finish-steps finish
  does-steps (inr (inr (inr (inr carry)))) = carry-steps carry
