-- What a call of the oracle within another hold asks of the row of gatekeepers.
-- Used by `commit` and `visit`.
use Rattle.std.proofs.Common.{◌≡◌, ◌≤◌, List, length, sym, ap, ◌∙◌, subst}
use Rattle.weave_entries.specs.declared.gate_log.GateDeed.{GateDeed}
use Rattle.chronicle.specs.declared.chronicle.Chronicle.{Chronicle}
use Rattle.chronicle.specs.declared.pass.Pass.{Pass}
use Rattle.lock_row.specs.Rows.{AreReady}
use Rattle.gate_lock.specs.declared.noted_gate.NotedGate.{NotedGate}
use Rattle.weaver_locks.specs.declared.hand.Hand.{Hand}
use Rattle.weaver_locks.specs.declared.shared.Shared.{Shared}
use Rattle.weaver_locks.specs.Going.{AllGoOn}
use Rattle.weaver_locks.specs.Hands.{IsHand}
use Rattle.weaver_locks.proofs.Rows.{row_ready}

module _ (shared : Shared) (locks : List (Chronicle NotedGate GateDeed)) (locks_is : locks ≡ shared.gates.items) where
  -- there are at most eight locks of gatekeepers
  pub few_locks : length locks ≤ 8
  few_locks = subst (λ (l : List (Chronicle NotedGate GateDeed)). length l ≤ 8) (sym locks_is) shared.framed.few_gates

  module _ (old now : Hand) (hand : IsHand shared old) (on : AllGoOn shared.gates.items old.gates.items now.gates.items)
      (passes : List (Pass GateDeed)) (passes_is : passes ≡ now.gates.items) where
    -- there is a pass for each lock
    pub as_many : length passes ≡ length locks
    as_many = ap (λ (l : List (Pass GateDeed)). length l) passes_is
        ∙ (on.count ∙ (hand.gates ∙ ap (λ (l : List (Chronicle NotedGate GateDeed)). length l) (sym locks_is)))

    -- each pass is ready for its lock
    pub all_ready : AreReady locks passes
    all_ready = subst (λ (z : List (Chronicle NotedGate GateDeed) × List (Pass GateDeed)). AreReady z.0 z.1) (λ j. (sym locks_is j, sym passes_is j))
        (row_ready shared.gates.items old.gates.items now.gates.items on hand.gates)
