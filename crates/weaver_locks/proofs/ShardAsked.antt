-- What a visit asks of the hold of a shard.
-- Used by `visit`.
use Rattle.std.proofs.Common.{◌≡◌, ℕ, ◌<◌, List, [], length, get_or, Contains, refl, sym, ap, ◌∙◌, subst}
use Rattle.weave_data.specs.declared.name.Name.{Name}
use Rattle.weave_data.specs.Names.{shard_of}
use Rattle.vector_stamp.specs.declared.clock.Stamp.{Stamp}
use Rattle.weave_entries.specs.declared.gate_log.GateDeed.{GateDeed}
use Rattle.weave_entries.specs.declared.gate_log.GateEntry.{GateEntry}
use Rattle.weave_entries.specs.declared.shard_log.ShardDeed.{ShardDeed}
use Rattle.weave_entries.specs.GateReplay.{BegunRequest, running_of}
use Rattle.weave_account.specs.declared.account.Account.{Account}
use Rattle.weave_account.specs.Account.{gate_log}
use Rattle.weave_account.proofs.GoesOn.{whole}
use Rattle.seen_logs.specs.Seen.{GatesGoOn}
use Rattle.chronicle.specs.declared.chronicle.Chronicle.{Chronicle}
use Rattle.chronicle.specs.declared.held.Held.{Held}
use Rattle.chronicle.specs.declared.pass.Pass.{Pass}
use Rattle.chronicle.specs.Frames.{Frame}
use Rattle.chronicle.specs.Holds.{machine_of}
use Rattle.chronicle.specs.Locks.{lock_of, name_of}
use Rattle.chronicle.specs.Passes.{lock_noted}
use Rattle.lock_row.proofs.Lists.{one_of}
use Rattle.gate_lock.specs.declared.noted_gate.NotedGate.{NotedGate}
use Rattle.oracle_lock.specs.Seen.{AreGateLogs, gates_noted, gates_seen, of_gates}
use Rattle.shard_lock.specs.declared.noted_shard.NotedShard.{NotedShard}
use Rattle.shard_lock.specs.Notes.{ShardIsKept, NotedShardView, seen_of_shard}
use Rattle.weaver_locks.specs.declared.hand.Hand.{Hand}
use Rattle.weaver_locks.specs.declared.shared.Shared.{Shared}
use Rattle.weaver_locks.specs.Hands.{hand_number, IsHand, seen_by}
use Rattle.weaver_locks.specs.HoldLaws.{HoldLaws}
use Rattle.weaver_locks.specs.InShard.{IsInShard}
use Rattle.weaver_locks.proofs.Beside.{named}
use Rattle.weaver_locks.proofs.FrameParts.{rest_of, second_of}
use Rattle.weaver_locks.proofs.Running.{running_now}

module _ (shared : Shared) (old now : Hand) (shard : ℕ) (held : Held NotedShard ShardDeed) (hand : IsHand shared old)
    (low : shard < length shared.shards.items) (i : IsInShard shared old now shard held) (s : NotedShardView) (s_is : s ≡ machine_of held)
    (locks : List (Chronicle NotedGate GateDeed)) (locks_is : locks ≡ shared.gates.items) (passes : List (Pass GateDeed))
    (passes_is : passes ≡ now.gates.items) where
  abbrev was : NotedShardView
  was = machine_of held

  -- the shard in the lock is made for as many shards as there are
  pub shard_count : s.shards ≡ length shared.shards.items
  shard_count = ap (λ (v : NotedShardView). v.shards) s_is ∙ i.shard_count

  -- its note of the oracle is of the oracle's lock
  pub its_note : lock_noted s.notes.oracle ≡ name_of (lock_of shared.oracle)
  its_note =
      let c = one_of shared.shards.items shard low in
      ap (λ (v : NotedShardView). lock_noted v.notes.oracle) s_is
      ∙ ap (λ (f : Frame). second_of (rest_of f)) (i.frame ∙ (ap (λ l. l.frame) (i.lock c) ∙ shared.framed.shard_frames shard c low))

  -- its notes have seen of the gatekeepers' logs what the hand's passes have
  pub notes_are : gates_noted s.notes.gates.items ≡ gates_seen now.gates.items
  notes_are = ap (λ (v : NotedShardView). gates_noted v.notes.gates.items) s_is ∙ ap (λ (a : Account). a.gates) i.same

  -- the gatekeepers' logs that the passes have seen keep the rules, if the shard keeps what shards keep
  pub gates_legal : ShardIsKept s.shard s.shards s.notes → AreGateLogs s.shards (gates_seen passes)
  gates_legal kept = subst (λ (l : List (List GateEntry)). AreGateLogs s.shards l) (notes_are ∙ ap gates_seen (sym passes_is))
      (record { rules = kept.legal.gate_logs; hears = kept.legal.hears })

  -- what the notes have seen of each gatekeeper's log begins what the passes have seen
  pub notes_met : GatesGoOn (of_gates (gates_noted s.notes.gates.items)) (of_gates (gates_seen passes))
  notes_met = subst (λ (l : List (List GateEntry)). GatesGoOn (of_gates (gates_noted s.notes.gates.items)) (of_gates l))
      (notes_are ∙ ap gates_seen (sym passes_is)) (λ home. whole (get_or (gates_noted s.notes.gates.items) home []))

  -- the shard in the lock is made for as many gatekeepers as there are locks of them
  pub gate_count : s.shard.gates ≡ length locks
  gate_count = ap (λ (v : NotedShardView). v.shard.gates) s_is ∙ (i.gate_count ∙ ap (λ (l : List (Chronicle NotedGate GateDeed)). length l) (sym locks_is))

  -- a vertex whose shard is the one that the hand is in is kept by the shard in the lock
  pub kept_here : (vertex : Name) → shard_of vertex (length shared.shards.items) ≡ shard → shard_of vertex s.shards ≡ s.shard.number
  kept_here vertex is = ap (shard_of vertex) shard_count ∙ (is ∙ sym (ap (λ (v : NotedShardView). v.shard.number) s_is ∙ i.place))

  -- a program of the hand that is running in what the hand had seen is running in what the shard has seen
  pub runs_here : HoldLaws → (request : ℕ) (stamp : Stamp) → ((home : ℕ) × Contains (running_of (gate_log (seen_by old) home))
      (record { author = hand_number old; request = request; stamp = stamp })) → (home : ℕ) × (by : ℕ)
      × Contains (running_of (gate_log (seen_of_shard s.shard s.notes) home)) (record { author = by; request = request; stamp = stamp })
  runs_here laws request stamp running =
      let p : BegunRequest = record { author = hand_number old; request = request; stamp = stamp } in
      let there = running_now laws shared old now hand i.gates running.0 p refl running.1 in (
        running.0,
        hand_number old,
        subst (λ (l : List (List GateEntry)). Contains (running_of (get_or l running.0 [])) p)
            (named shared old now hand i.gates ∙ sym notes_are) there,
      )
