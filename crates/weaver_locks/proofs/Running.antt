-- A program of the hand that was running when the hand last looked is running in a later hold.
-- Used by Following and ShardAsked.
use Rattle.std.proofs.Common.{◌≡◌, ℕ, ◌≤◌, ◌==◌, not, List, [], ◌∷◌, ◌++◌, length, fold, Contains, sym, ap, ◌∙◌, subst, arith, append_assoc}
use Rattle.std.proofs.lemmas.Bool.{and_parts, eqb-true}
use Rattle.std.proofs.lemmas.List.{length-append}
use Rattle.std.proofs.lemmas.List.Sums.{fold-append}
use Rattle.std.proofs.lemmas.List.Elements.{Contains-append_left}
use Rattle.weave_data.proofs.Members.{cut_at, has_filter, has_head, has_tail}
use Rattle.weave_data.proofs.ListPlaces.{not-true}
use Rattle.weave_entries.specs.declared.gate_log.GateDeed.{GateDeed}
use Rattle.weave_entries.specs.declared.gate_log.GateDeed.TheVariants.{BeganTx, BeganProgram, Sent, Nop, Heard, Raised, Finished}
use Rattle.weave_entries.specs.declared.gate_log.GateEntry.{GateEntry}
use Rattle.weave_entries.specs.GateReplay.{BegunRequest, is_begun, running_after, running_of}
use Rattle.weave_account.specs.Account.{gate_log}
use Rattle.weaver_locks.specs.declared.hand.Hand.{Hand}
use Rattle.weaver_locks.specs.declared.shared.Shared.{Shared}
use Rattle.weaver_locks.specs.Going.{AllGoOn}
use Rattle.weaver_locks.specs.Hands.{hand_number, IsHand, seen_by}
use Rattle.weaver_locks.specs.HoldLaws.{HoldLaws}
use Rattle.weaver_locks.proofs.Beside.{gates_on, no_gate_entry}

still_runs : (running : List BegunRequest) (by : ℕ) (deed : GateDeed) (p : BegunRequest) → (by ≡ p.author → ⊥) → Contains running p
    → Contains (running_after running by deed) p
still_runs running by (BeganProgram r s) p other h = Contains-append_left running (record { author = by; request = r; stamp = s } ∷ []) p h
still_runs running by (Finished r) p other h =
    has_filter (λ begun. not (is_begun by r begun)) running p h (not-true (is_begun by r p) (λ both.
    let parts = and_parts (p.author == by) (p.request == r) both in
    other (sym (eqb-true p.author by parts.0))))
still_runs running by (BeganTx r s) p other h = h
still_runs running by (Sent r messages) p other h = h
still_runs running by (Nop shard number stamp low) p other h = h
still_runs running by (Heard clock) p other h = h
still_runs running by (Raised epoch) p other h = h

runs_on : (more : List GateEntry) (running : List BegunRequest) (p : BegunRequest) → ((e : GateEntry) → Contains more e → e.author ≡ p.author → ⊥)
    → Contains running p → Contains (fold (λ now (entry : GateEntry). running_after now entry.author entry.deed) running more) p
runs_on [] running p none h = h
runs_on (e ∷ more) running p none h =
    runs_on more (running_after running e.author e.deed) p (λ x has. none x (has_tail e more x has))
    (still_runs running e.author e.deed p (none e (has_head e more)) h)

-- a program that was running still is after entries of other authors
pub still_running : (log more : List GateEntry) (p : BegunRequest) → ((e : GateEntry) → Contains more e → e.author ≡ p.author → ⊥)
    → Contains (running_of log) p → Contains (running_of (log ++ more)) p
still_running log more p none h =
    subst (λ (l : List BegunRequest). Contains l p) (sym (fold-append (λ (now : List BegunRequest) (entry : GateEntry). running_after now entry.author entry.deed) [] log more))
    (runs_on more (running_of log) p none h)

module _ (laws : HoldLaws) (shared : Shared) (old now : Hand) (hand : IsHand shared old) (all : AllGoOn shared.gates.items old.gates.items now.gates.items) where
  -- a program of the hand that was running in what it had seen is running in what it has seen now
  pub running_now : (home : ℕ) (p : BegunRequest) → p.author ≡ hand_number old → Contains (running_of (gate_log (seen_by old) home)) p
      → Contains (running_of (gate_log (seen_by now) home)) p
  running_now home p mine h =
      let on = gates_on shared old now hand all home in
      let log = gate_log (seen_by old) home in
      subst (λ (l : List GateEntry). Contains (running_of l) p) (sym on.1) (still_running log on.0 p (λ e has by.
      let cut = cut_at on.0 e has in
      let at : gate_log (seen_by now) home ≡ (log ++ cut.before) ++ e ∷ cut.after =
      on.1 ∙ (ap (λ (l : List GateEntry). log ++ l) cut.is ∙ sym (append_assoc log cut.before (e ∷ cut.after))) in
      let past : length log ≤ length (log ++ cut.before) = omega (arith, length-append log cut.before) in
      no_gate_entry shared old now hand all laws home (log ++ cut.before) cut.after e at (by ∙ mine, past)) h)
