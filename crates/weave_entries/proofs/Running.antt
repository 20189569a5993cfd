-- What was begun and has not ended is in flight or running.
-- Used by `what_has_not_ended_goes_on`.
use Rattle.std.proofs.Common.{◌≡◌, ℕ, Bool, not, List, [], ◌∷◌, ◌++◌, Contains, Option, None, Some, inl, inr, refl, sym, ap, subst, ◌∙◌}
use Rattle.std.proofs.lemmas.Bool.{cases_Bool, eqb-true, and_parts}
use Rattle.std.proofs.lemmas.List.Elements.{Contains-append_cases, Contains-append_left, Contains-append_right}
use Rattle.weave_data.proofs.Members.{has_none, has_last, has_filter, only}
use Rattle.weave_entries.specs.declared.gate_log.GateEntry.{GateEntry}
use Rattle.weave_entries.specs.declared.gate_log.GateDeed.{GateDeed}
use Rattle.weave_entries.specs.declared.gate_log.GateDeed.TheVariants.{BeganTx, BeganProgram, Sent, Nop, Heard, Raised, Finished}
use Rattle.weave_entries.specs.GateReplay.{BegunRequest, is_begun, tx_by, program_by, txs_of, programs_of, ended_by, ended_in, flight_after, flight_of, running_after, running_of}
use Rattle.weave_entries.specs.GateRules.{FitsAs, IsGateLog}
use Rattle.weave_entries.proofs.Replay.{flight-push, running-push, txs-push, programs-push, ended-push, by_entries}

-- a begun transaction that has not ended is in flight, and such a program is running
pub record LeftTo (txs programs : List BegunRequest) (ended : List ℕ) (flight : Option BegunRequest) (running : List BegunRequest) : Type 0 where
  pub flies : (b : BegunRequest) → Contains txs b → (Contains ended b.request → ⊥) → flight ≡ Some b
  pub runs : (b : BegunRequest) → Contains programs b → (Contains ended b.request → ⊥) → Contains running b

without : {A : Type 0} (xs : List A) (x : A) → Contains (xs ++ []) x → Contains xs x
without xs x has = elim (Contains-append_cases xs [] x has) [ inl here ↦ here | inr none ↦ absurd (has_none x none) ]

module _ (home shards : ℕ) (log : List GateEntry) (author : ℕ) (txs programs : List BegunRequest) (ended : List ℕ) (flight : Option BegunRequest) (running : List BegunRequest)
    (flight_is : flight ≡ flight_of log) (so_far : LeftTo txs programs ended flight running) where
  -- nothing begins, and nothing ends
  still : LeftTo (txs ++ []) (programs ++ []) (ended ++ []) flight running
  still =
      record {
        flies = λ b has left. so_far.flies b (without txs b has) (λ in_ended. left (Contains-append_left ended [] b.request in_ended));
        runs = λ b has left. so_far.runs b (without programs b has) (λ in_ended. left (Contains-append_left ended [] b.request in_ended));
      }

  step : (deed : GateDeed) → FitsAs home shards log author deed → LeftTo (txs ++ tx_by author deed) (programs ++ program_by author deed) (ended ++ ended_by deed) (flight_after flight author deed) (running_after running author deed)
  step (BeganTx request stamp) fits =
      let new : BegunRequest = record { author = author; request = request; stamp = stamp } in
      record {
        flies = λ b has left. elim (Contains-append_cases txs (new ∷ []) b has) [
          | inl earlier ↦
              let flew : flight ≡ Some b = so_far.flies b earlier (λ in_ended. left (Contains-append_left ended [] b.request in_ended)) in
              let none : flight ≡ None = flight_is ∙ fits.alone in
              absurd (cc)
          | inr last ↦ ap (λ x. Some x) (only new b last)
        ];
        runs = still.runs;
      }
  step (BeganProgram request stamp) fits =
      let new : BegunRequest = record { author = author; request = request; stamp = stamp } in
      record {
        flies = still.flies;
        runs = λ b has left. elim (Contains-append_cases programs (new ∷ []) b has) [
          | inl earlier ↦ Contains-append_left running (new ∷ []) b (so_far.runs b earlier (λ in_ended. left (Contains-append_left ended [] b.request in_ended)))
          | inr last ↦ Contains-append_right running (new ∷ []) b last
        ];
      }
  step (Sent request messages) fits =
      let sent : BegunRequest = record { author = author; request = request; stamp = fits.stamp } in
      record {
        flies = λ b has left.
            let flew : flight ≡ Some b = so_far.flies b (without txs b has) (λ in_ended. left (Contains-append_left ended (request ∷ []) b.request in_ended)) in
            let was : flight ≡ Some sent = flight_is ∙ fits.flight in
            let same : sent ≡ b = cc in
            absurd (left (subst (λ (x : BegunRequest). Contains (ended ++ request ∷ []) x.request) same (has_last ended request)));
        runs = λ b has left. so_far.runs b (without programs b has) (λ in_ended. left (Contains-append_left ended (request ∷ []) b.request in_ended));
      }
  step (Nop shard number stamp low) fits = still
  step (Heard clock) fits = still
  step (Raised epoch) fits = still
  step (Finished request) fits =
      let stays : BegunRequest → Bool = λ begun. not (is_begun author request begun) in
      record {
        flies = λ b has left. so_far.flies b (without txs b has) (λ in_ended. left (Contains-append_left ended (request ∷ []) b.request in_ended));
        runs = λ b has left.
            let here = so_far.runs b (without programs b has) (λ in_ended. left (Contains-append_left ended (request ∷ []) b.request in_ended)) in
            elim (cases_Bool (is_begun author request b)) [
              | inl that ↦
                  let same : b.request ≡ request = eqb-true _ _ ((and_parts _ _ that).1) in
                  absurd (left (subst (λ r. Contains (ended ++ request ∷ []) r) (sym same) (has_last ended request)))
              | inr other ↦ has_filter stays running b here (rw other refl)
            ];
      }

-- in a gatekeeper's log, a begun transaction that has not ended is in flight, and such a program is running
pub left_to : (home shards : ℕ) (log : List GateEntry) → IsGateLog home shards log → LeftTo (txs_of log) (programs_of log) (ended_in log) (flight_of log) (running_of log)
left_to home shards =
    by_entries home shards (λ log. LeftTo (txs_of log) (programs_of log) (ended_in log) (flight_of log) (running_of log))
    (record { flies = λ b has left. absurd (has_none b has); runs = λ b has left. absurd (has_none b has) })
    (λ log entry right fits so_far.
    let stepped = step home shards log entry.author (txs_of log) (programs_of log) (ended_in log) (flight_of log) (running_of log) refl so_far entry.deed fits in
    subst (λ (ts : List BegunRequest). LeftTo ts (programs_of (log ++ entry ∷ [])) (ended_in (log ++ entry ∷ [])) (flight_of (log ++ entry ∷ [])) (running_of (log ++ entry ∷ []))) (sym (txs-push log entry))
    (subst (λ (ps : List BegunRequest). LeftTo (txs_of log ++ tx_by entry.author entry.deed) ps (ended_in (log ++ entry ∷ [])) (flight_of (log ++ entry ∷ [])) (running_of (log ++ entry ∷ []))) (sym (programs-push log entry))
    (subst (λ (es : List ℕ). LeftTo (txs_of log ++ tx_by entry.author entry.deed) (programs_of log ++ program_by entry.author entry.deed) es (flight_of (log ++ entry ∷ [])) (running_of (log ++ entry ∷ []))) (sym (ended-push log entry))
    (subst (λ (f : Option BegunRequest). LeftTo (txs_of log ++ tx_by entry.author entry.deed) (programs_of log ++ program_by entry.author entry.deed) (ended_in log ++ ended_by entry.deed) f (running_of (log ++ entry ∷ []))) (sym (flight-push log entry))
    (subst (λ (rs : List BegunRequest). LeftTo (txs_of log ++ tx_by entry.author entry.deed) (programs_of log ++ program_by entry.author entry.deed) (ended_in log ++ ended_by entry.deed) (flight_after (flight_of log) entry.author entry.deed) rs) (sym (running-push log entry)) stepped)))))
