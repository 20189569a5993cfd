-- What the call `commit` of the store asks of its hold is so for a hand in the store's lock.
-- Used by `commit`.
use Rattle.std.proofs.Common.{◌≡◌, ℕ, List, [], get_or, sym, ap, ◌∙◌, subst}
use Rattle.weave_entries.specs.declared.gate_log.GateDeed.{GateDeed}
use Rattle.weave_entries.specs.declared.gate_log.GateEntry.{GateEntry}
use Rattle.weave_entries.specs.declared.store_log.StoreDeed.{StoreDeed}
use Rattle.weave_entries.specs.declared.oracle_log.OracleDeed.{OracleDeed}
use Rattle.seen_logs.specs.Seen.{GatesGoOn}
use Rattle.chronicle.specs.declared.chronicle.Chronicle.{Chronicle}
use Rattle.chronicle.specs.declared.held.Held.{Held}
use Rattle.chronicle.specs.declared.pass.Pass.{Pass}
use Rattle.chronicle.specs.Holds.{machine_of}
use Rattle.chronicle.specs.Locks.{lock_of, name_of}
use Rattle.chronicle.specs.Passes.{IsReady, lock_noted}
use Rattle.gate_lock.specs.declared.noted_gate.NotedGate.{NotedGate}
use Rattle.oracle_lock.specs.Seen.{AreGateLogs, gates_noted, gates_seen, of_gates}
use Rattle.store_lock.specs.declared.noted_store.NotedStore.{NotedStore}
use Rattle.store_lock.specs.Seen.{StoreView}
use Rattle.weave_account.proofs.GoesOn.{whole}
use Rattle.weaver_locks.specs.declared.hand.Hand.{Hand}
use Rattle.weaver_locks.specs.declared.shared.Shared.{Shared}
use Rattle.weaver_locks.specs.Hands.{IsHand}
use Rattle.weaver_locks.specs.InStore.{IsInStore}

module _ (shared : Shared) (old now : Hand) (held : Held NotedStore StoreDeed) (hand : IsHand shared old) (i : IsInStore shared old now held)
    (s : StoreView) (s_is : s ≡ machine_of held) (locks : List (Chronicle NotedGate GateDeed)) (locks_is : locks ≡ shared.gates.items)
    (passes : List (Pass GateDeed)) (passes_is : passes ≡ now.gates.items) where
  -- the store's note of the oracle is of the oracle's lock
  pub its_note : lock_noted s.oracle ≡ name_of (lock_of shared.oracle)
  its_note = ap (λ (v : StoreView). lock_noted v.oracle) s_is ∙ i.oracle_note

  -- the hand's pass of the oracle's lock is ready
  pub pass_ready : IsReady (lock_of shared.oracle) now.oracle
  pass_ready = subst (λ (p : Pass OracleDeed). IsReady (lock_of shared.oracle) p) (sym i.oracle) hand.oracle_ready

  -- the gatekeepers' logs that the hand's passes have seen keep the rules
  pub gates_legal : AreGateLogs s.shards (gates_seen passes)
  gates_legal = subst (λ (z : ℕ × List (Pass GateDeed)). AreGateLogs z.0 (gates_seen z.1))
      (λ j. (ap (λ (v : StoreView). v.shards) (sym s_is) j, sym passes_is j)) i.legal

  -- what the store's notes have seen of each gatekeeper's log begins what the passes have seen
  pub notes_met : GatesGoOn (of_gates (gates_noted s.gates)) (of_gates (gates_seen passes))
  notes_met = subst (λ (l : List (List GateEntry)). GatesGoOn (of_gates (gates_noted s.gates)) (of_gates l))
      (ap (λ (v : StoreView). gates_noted v.gates) s_is ∙ (i.one ∙ ap gates_seen (sym passes_is)))
      (λ home. whole (get_or (gates_noted s.gates) home []))
