-- A hand that enters the lock of a shard is in it, its other passes having met the notes.
-- Used by `enter_shard`.
use Rattle.std.proofs.Common.{◌≡◌, ℕ, zero, suc, ◌<◌, List, [], ◌∷◌, ◌++◌, length, map, get_or, refl, sym, ap, ◌∙◌, subst, arith}
use Rattle.std.specs.Vec.{with_item, with_items}
use Rattle.std.proofs.lemmas.List.{get_or_default, length-map}
use mathlib.Core.List.{IsPrefix}
use Rattle.weave_entries.specs.declared.gate_log.GateDeed.{GateDeed}
use Rattle.weave_entries.specs.declared.gate_log.GateEntry.{GateEntry}
use Rattle.weave_entries.specs.declared.oracle_log.OracleDeed.{OracleDeed}
use Rattle.weave_entries.specs.declared.shard_log.ShardDeed.{ShardDeed}
use Rattle.weave_entries.specs.declared.shard_log.ShardEntry.{ShardEntry}
use Rattle.weave_entries.specs.declared.store_log.StoreDeed.{StoreDeed}
use Rattle.weave_entries.specs.GateRules.{HearsNoMore, IsGateLog}
use Rattle.weave_entries.specs.ShardRules.{IsShardLog}
use Rattle.seen_logs.specs.Entries.{shard_pairs}
use Rattle.seen_logs.specs.Seen.{AreLegal}
use Rattle.chronicle.specs.declared.chronicle.Chronicle.{Chronicle}
use Rattle.chronicle.specs.declared.held.Held.{Held}
use Rattle.chronicle.specs.declared.pass.Pass.{Pass}
use Rattle.chronicle.specs.Frames.{Frame}
use Rattle.chronicle.specs.Holds.{lock_in, log_at_entry, machine_of, WentInWith}
use Rattle.chronicle.specs.Locks.{lock_of, name_of}
use Rattle.chronicle.specs.Logs.{entries_of}
use Rattle.chronicle.specs.Passes.{lock_noted, number_of, own_entries, seen_by_pass}
use Rattle.lock_row.specs.Meetings.{AllMet, HaveMet}
use Rattle.lock_row.specs.Rows.{names_of}
use Rattle.lock_row.proofs.Lists.{written}
use Rattle.gate_lock.specs.declared.noted_gate.NotedGate.{NotedGate}
use Rattle.shard_lock.specs.declared.noted_shard.NotedShard.{NotedShard}
use Rattle.shard_lock.specs.Notes.{at_place, frame_of_shard, NotedShardView, seen_by_shard_passes, seen_of_shard}
use Rattle.shard_node.specs.Shards.{ShardView}
use Rattle.weaver_locks.specs.declared.hand.Hand.{Hand}
use Rattle.weaver_locks.specs.declared.shared.Shared.{Shared}
use Rattle.weaver_locks.specs.Hands.{hand_number, IsHand}
use Rattle.weaver_locks.specs.InShard.{IsInShard}
use Rattle.weaver_locks.proofs.FrameParts.{first_of, rest_of}
use Rattle.weaver_locks.proofs.Rows.{all_met_on, met_on}
use Rattle.weaver_locks.proofs.Seeing.{gates_named}
use Rattle.weaver_locks.proofs.HandParts.{has_shard}

none_placed : (number k : ℕ) → get_or (at_place number []) k [] ≡ []
unfolding at_place
none_placed zero zero = refl
none_placed zero (suc k) = refl
none_placed (suc number) zero = refl
none_placed (suc number) (suc k) = none_placed number k

no_entries : (gates : ℕ) → IsShardLog gates []
no_entries gates [] entry after at = let n : length {A = ShardEntry} [] ≡ length (entry ∷ after) = ap (λ (l : List ShardEntry). length l) at in absurd (omega (arith, n))
no_entries gates (x ∷ before) entry after at = let n : length {A = ShardEntry} [] ≡ length (x ∷ (before ++ entry ∷ after)) = ap (λ (l : List ShardEntry). length l) at in absurd (omega (arith, n))

-- what the frame says of the shard in the lock
record IsAt (shared : Shared) (shard : ℕ) (m : NotedShardView) : Type 0 where
  pub place : m.shard.number ≡ shard
  pub gate_count : m.shard.gates ≡ length shared.gates.items
  pub shard_count : m.shards ≡ length shared.shards.items
  pub gate_notes : map lock_noted m.notes.gates.items ≡ names_of shared.gates.items

module _ (shared : Shared) (old : Hand) (shard : ℕ) (hand : IsHand shared old) (low : shard < length shared.shards.items)
    (lock : Chronicle NotedShard ShardDeed) (lock_at : lock ≡ get_or shared.shards.items shard lock) where
  is_at : (m : NotedShardView) → frame_of_shard m.shard m.shards m.notes ≡ (lock_of lock).frame → IsAt shared shard m
  is_at m frame =
      let is = frame ∙ (ap (λ (c : Chronicle NotedShard ShardDeed). (lock_of c).frame) lock_at ∙ shared.framed.shard_frames shard lock low) in
      record {
        place = ap (λ (f : Frame). get_or (first_of f) 0 0) is;
        gate_count = ap (λ (f : Frame). get_or (first_of f) 1 0) is;
        shard_count = ap (λ (f : Frame). get_or (first_of f) 2 0) is;
        gate_notes = ap (λ (f : Frame). rest_of (rest_of (rest_of f))) is;
      }

  module _ (held : Held NotedShard ShardDeed) (s : NotedShardView) (s_is : s ≡ machine_of held)
      (framed : frame_of_shard (machine_of held).shard (machine_of held).shards (machine_of held).notes ≡ (lock_of lock).frame)
      (gates : List (Pass GateDeed)) (gates_is : gates ≡ old.gates.items) where
    s_framed : frame_of_shard s.shard s.shards s.notes ≡ (lock_of lock).frame
    s_framed = ap (λ (v : NotedShardView). frame_of_shard v.shard v.shards v.notes) s_is ∙ framed

    at : IsAt shared shard s
    at = is_at s s_framed

    -- what the passes have seen is legal, with the shard's own log taken as empty
    pub legal_met : AreLegal s.shard.gates s.shards (seen_by_shard_passes s.shard.number [] gates old.store old.oracle)
    legal_met = record {
      gate_logs = λ home. subst (λ (z : ℕ × List (List GateEntry)). IsGateLog home z.0 (get_or z.1 home []))
          (λ j. (sym at.shard_count j, (gates_named old.gates.items ∙ ap (λ (ps : List (Pass GateDeed)). (seen_by_shard_passes 0 [] ps old.store old.oracle).gates) (sym gates_is)) j)) (hand.legal.gate_logs home);
      hears = λ home. subst (λ (l : List (List GateEntry)). HearsNoMore home (get_or l home []))
          (gates_named old.gates.items ∙ ap (λ (ps : List (Pass GateDeed)). (seen_by_shard_passes 0 [] ps old.store old.oracle).gates) (sym gates_is)) (hand.legal.hears home);
      store_log = hand.legal.store_log;
      oracle_log = hand.legal.oracle_log;
      shard_logs = λ k. subst (IsShardLog s.shard.gates) (sym (none_placed s.shard.number k)) (no_entries s.shard.gates);
    }

    module _ (was q : Pass ShardDeed) (was_at : was ≡ get_or old.shards.items shard was)
        (log : IsPrefix (seen_by_pass was) (shard_pairs (machine_of held).shard.log))
        (own_then : entries_of (number_of was) (shard_pairs (machine_of held).shard.log) ≡ own_entries was)
        (entry : log_at_entry held ≡ shard_pairs (machine_of held).shard.log)
        (lock_is : lock_in held ≡ lock_of lock) (went : WentInWith q held) (number : number_of q ≡ number_of was)
        (locks : List (Chronicle NotedGate GateDeed)) (locks_is : locks ≡ shared.gates.items)
        (m : NotedShardView) (later : List (Pass GateDeed)) (store : Pass StoreDeed) (oracle : Pass OracleDeed)
        (shard_still : m.shard ≡ s.shard) (shards_still : m.shards ≡ s.shards)
        (frame_still : frame_of_shard m.shard m.shards m.notes ≡ frame_of_shard s.shard s.shards s.notes)
        (gates_met : AllMet locks gates later s.notes.gates.items m.notes.gates.items (length locks))
        (store_met : HaveMet (lock_of shared.store) old.store store s.notes.store m.notes.store)
        (oracle_met : HaveMet (lock_of shared.oracle) old.oracle oracle s.notes.oracle m.notes.oracle)
        (count : length later ≡ length gates)
        (same : seen_of_shard m.shard m.notes ≡ seen_by_shard_passes m.shard.number m.shard.log later store oracle) where
      low_old : shard < length old.shards.items
      low_old = has_shard shared old hand shard low

      many : length later ≡ length old.gates.items
      many = count ∙ ap (λ (l : List (Pass GateDeed)). length l) gates_is

      back : (with_items old.gates later).items ≡ later
      back = written old.gates.len later old.gates.items (many ∙ sym old.gates.ok.0)

      noted_many : length s.notes.gates.items ≡ length shared.gates.items
      noted_many = omega (
        arith,
        length-map s.notes.gates.items lock_noted,
        length-map shared.gates.items (λ (c : Chronicle NotedGate GateDeed). name_of (lock_of c)),
        ap (λ (l : List (List ℕ)). length l) at.gate_notes,
      )

      at_pass : (p : Pass ShardDeed) → was ≡ get_or old.shards.items shard p
      at_pass p = was_at ∙ get_or_default old.shards.items shard was p low_old

      its_log : m.shard.log ≡ (machine_of held).shard.log
      its_log = ap (λ (v : ShardView). v.log) shard_still ∙ ap (λ (v : NotedShardView). v.shard.log) s_is

      met : AllMet shared.gates.items old.gates.items (with_items old.gates later).items s.notes.gates.items m.notes.gates.items (length shared.gates.items)
      met = subst (λ (z : List (Chronicle NotedGate GateDeed) × List (Pass GateDeed) × List (Pass GateDeed)). AllMet z.0 z.1 z.2 s.notes.gates.items m.notes.gates.items (length z.0))
          (λ i. (locks_is i, gates_is i, sym back i)) gates_met

      -- so the hand is in the shard's lock, with its other passes as they met the notes
      pub entered : IsInShard shared old
          (record { gates = with_items old.gates later; store = store; oracle = oracle; shards = with_item old.shards shard q }) shard
          (record { chronicle = held.chronicle; machine = m; seat = held.seat; seated = held.seated; view = held.view; author = held.author })
      entered = record {
        gates = all_met_on shared.gates.items old.gates.items (with_items old.gates later).items s.notes.gates.items m.notes.gates.items met noted_many
            (ap (λ (l : List (Pass GateDeed)). length l) back ∙ many);
        store = met_on _ _ _ _ _ store_met;
        oracle = met_on _ _ _ _ _ oracle_met;
        pass = q;
        shards = refl;
        went = record { table_is = went.table_is; seat_is = went.seat_is; number_is = went.number_is };
        number = number ∙ (ap number_of (at_pass was) ∙ hand.shard_numbers shard was low_old);
        lock = λ c. lock_is ∙ ap lock_of (lock_at ∙ get_or_default shared.shards.items shard lock c low);
        frame = frame_still ∙ (s_framed ∙ ap (λ l. l.frame) (sym lock_is));
        entry = entry ∙ ap (λ (l : List ShardEntry). shard_pairs l) (sym its_log);
        own_is = λ p. ap (λ (l : List ShardEntry). entries_of (hand_number old) (shard_pairs l)) its_log
            ∙ (ap (λ (n : ℕ). entries_of n (shard_pairs (machine_of held).shard.log)) (sym (ap number_of (at_pass was) ∙ hand.shard_numbers shard was low_old))
            ∙ (own_then ∙ ap own_entries (at_pass p)));
        found = λ p. subst (λ (z : Pass ShardDeed × List ShardEntry). IsPrefix (seen_by_pass z.0) (shard_pairs z.1)) (λ i. (at_pass p i, sym its_log i)) log;
        place = ap (λ (v : ShardView). v.number) shard_still ∙ at.place;
        gate_count = ap (λ (v : ShardView). v.gates) shard_still ∙ at.gate_count;
        shard_count = shards_still ∙ at.shard_count;
        same = same ∙ ap (λ (l : List (Pass GateDeed)). seen_by_shard_passes m.shard.number m.shard.log l store oracle) (sym back);
      }
