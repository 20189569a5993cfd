-- A hand that enters the lock of the store is in it, its passes of gatekeepers' locks having met the notes.
-- Used by `enter_store`.
use Rattle.std.proofs.Common.{◌≡◌, ℕ, List, [], ◌∷◌, length, map, get_or, refl, sym, ap, ◌∙◌, subst, arith}
use Rattle.std.specs.Vec.{with_items}
use Rattle.std.proofs.lemmas.List.{length-map}
use mathlib.Core.List.{IsPrefix}
use Rattle.weave_entries.specs.declared.gate_log.GateDeed.{GateDeed}
use Rattle.weave_entries.specs.declared.gate_log.GateEntry.{GateEntry}
use Rattle.weave_entries.specs.declared.store_log.StoreDeed.{StoreDeed}
use Rattle.weave_entries.specs.declared.store_log.StoreEntry.{StoreEntry}
use Rattle.weave_entries.specs.GateRules.{HearsNoMore, IsGateLog}
use Rattle.seen_logs.specs.Entries.{oracle_entries, store_pairs}
use Rattle.chronicle.specs.declared.chronicle.Chronicle.{Chronicle}
use Rattle.chronicle.specs.declared.held.Held.{Held}
use Rattle.chronicle.specs.declared.pass.Pass.{Pass}
use Rattle.chronicle.specs.Frames.{Frame}
use Rattle.chronicle.specs.Holds.{lock_in, log_at_entry, machine_of, WentInWith}
use Rattle.chronicle.specs.Locks.{lock_of, name_of}
use Rattle.chronicle.specs.Logs.{entries_of}
use Rattle.chronicle.specs.Passes.{lock_noted, seen_by_note, number_of, own_entries, seen_by_pass}
use Rattle.lock_row.specs.Meetings.{AllMet}
use Rattle.lock_row.specs.Rows.{names_of}
use Rattle.lock_row.proofs.Lists.{written}
use Rattle.gate_lock.specs.declared.noted_gate.NotedGate.{NotedGate}
use Rattle.oracle_lock.specs.Seen.{AreGateLogs, gates_noted, gates_seen}
use Rattle.store_lock.specs.declared.noted_store.NotedStore.{NotedStore}
use Rattle.store_lock.specs.Seen.{StoreIsKept, StoreView}
use Rattle.weaver_locks.specs.declared.hand.Hand.{Hand}
use Rattle.weaver_locks.specs.declared.shared.Shared.{Shared}
use Rattle.weaver_locks.specs.Hands.{hand_number, IsHand}
use Rattle.weaver_locks.specs.InStore.{IsInStore, store_frame_of}
use Rattle.weaver_locks.proofs.FrameParts.{first_of, rest_of}
use Rattle.weaver_locks.proofs.Rows.{all_met_on}
use Rattle.weaver_locks.proofs.Seeing.{gates_named}

module _ (shared : Shared) (old : Hand) (hand : IsHand shared old) (held : Held NotedStore StoreDeed) (s : StoreView) (s_is : s ≡ machine_of held)
    (framed : store_frame_of (machine_of held) ≡ (lock_of shared.store).frame) where
  frame_is : store_frame_of s ≡ (length shared.shards.items ∷ []) ∷ name_of (lock_of shared.oracle) ∷ names_of shared.gates.items
  frame_is = ap store_frame_of s_is ∙ (framed ∙ shared.framed.store_frame)

  shard_count : s.shards ≡ length shared.shards.items
  shard_count = ap (λ (f : Frame). get_or (first_of f) 0 0) frame_is

  oracle_note : lock_noted s.oracle ≡ name_of (lock_of shared.oracle)
  oracle_note = ap (λ (f : Frame). first_of (rest_of f)) frame_is

  -- the store has a note of each gatekeeper's lock, in their order
  pub gate_notes : map lock_noted s.gates ≡ names_of shared.gates.items
  gate_notes = ap (λ (f : Frame). rest_of (rest_of f)) frame_is

  module _ (gates : List (Pass GateDeed)) (gates_is : gates ≡ old.gates.items) where
    -- what the passes have seen is legal
    pub legal_met : AreGateLogs s.shards (gates_seen gates)
    legal_met =
        let same = gates_named old.gates.items ∙ ap gates_seen (sym gates_is) in
        record {
          rules = λ home. subst (λ (z : ℕ × List (List GateEntry)). IsGateLog home z.0 (get_or z.1 home [])) (λ j. (sym shard_count j, same j)) (hand.legal.gate_logs home);
          hears = λ home. subst (λ (l : List (List GateEntry)). HearsNoMore home (get_or l home [])) same (hand.legal.hears home);
        }

    module _ (q : Pass StoreDeed)
        (log : IsPrefix (seen_by_pass old.store) (store_pairs (machine_of held).store))
        (own_then : entries_of (number_of old.store) (store_pairs (machine_of held).store) ≡ own_entries old.store)
        (entry : log_at_entry held ≡ store_pairs (machine_of held).store)
        (lock_is : lock_in held ≡ lock_of shared.store) (went : WentInWith q held) (number : number_of q ≡ number_of old.store)
        (locks : List (Chronicle NotedGate GateDeed)) (locks_is : locks ≡ shared.gates.items)
        (m : StoreView) (later : List (Pass GateDeed)) (store_still : m.store ≡ s.store) (shards_still : m.shards ≡ s.shards)
        (oracle_still : m.oracle ≡ s.oracle) (count : length later ≡ length gates) (names : map lock_noted m.gates ≡ map lock_noted s.gates)
        (gates_met : AllMet locks gates later s.gates m.gates (length locks)) (one : gates_noted m.gates ≡ gates_seen later)
        (legal : AreGateLogs s.shards (gates_seen later))
        (kept : StoreIsKept m.shards (gates_noted m.gates) (oracle_entries (seen_by_note m.oracle)) m.store) where
      many : length later ≡ length old.gates.items
      many = count ∙ ap (λ (l : List (Pass GateDeed)). length l) gates_is

      back : (with_items old.gates later).items ≡ later
      back = written old.gates.len later old.gates.items (many ∙ sym old.gates.ok.0)

      noted_many : length s.gates ≡ length shared.gates.items
      noted_many = omega (
        arith,
        length-map s.gates lock_noted,
        length-map shared.gates.items (λ (c : Chronicle NotedGate GateDeed). name_of (lock_of c)),
        ap (λ (l : List (List ℕ)). length l) gate_notes,
      )

      met : AllMet shared.gates.items old.gates.items (with_items old.gates later).items s.gates m.gates (length shared.gates.items)
      met = subst (λ (z : List (Chronicle NotedGate GateDeed) × List (Pass GateDeed) × List (Pass GateDeed)). AllMet z.0 z.1 z.2 s.gates m.gates (length z.0))
          (λ i. (locks_is i, gates_is i, sym back i)) gates_met

      its_log : m.store ≡ (machine_of held).store
      its_log = store_still ∙ ap (λ (v : StoreView). v.store) s_is

      still : store_frame_of m ≡ store_frame_of s
      still = λ j. (shards_still j ∷ []) ∷ lock_noted (oracle_still j) ∷ names j

      -- so the hand is in the store's lock, with its passes of gatekeepers' locks as they met the notes
      pub entered : IsInStore shared old
          (record { gates = with_items old.gates later; store = q; oracle = old.oracle; shards = old.shards })
          (record { chronicle = held.chronicle; machine = m; seat = held.seat; seated = held.seated; view = held.view; author = held.author })
      entered = record {
        gates = all_met_on shared.gates.items old.gates.items (with_items old.gates later).items s.gates m.gates met noted_many
            (ap (λ (l : List (Pass GateDeed)). length l) back ∙ many);
        oracle = refl;
        shards = refl;
        went = record { table_is = went.table_is; seat_is = went.seat_is; number_is = went.number_is };
        number = number;
        lock = lock_is;
        frame = still ∙ (ap store_frame_of s_is ∙ (framed ∙ ap (λ l. l.frame) (sym lock_is)));
        entry = entry ∙ ap (λ (l : List StoreEntry). store_pairs l) (sym its_log);
        own_is = ap (λ (l : List StoreEntry). entries_of (hand_number old) (store_pairs l)) its_log ∙ own_then;
        found = subst (λ (l : List StoreEntry). IsPrefix (seen_by_pass old.store) (store_pairs l)) (sym its_log) log;
        shard_count = shards_still ∙ shard_count;
        oracle_note = ap lock_noted oracle_still ∙ oracle_note;
        one = one ∙ ap gates_seen (sym back);
        legal = subst (λ (z : ℕ × List (Pass GateDeed)). AreGateLogs z.0 (gates_seen z.1)) (λ j. (sym shards_still j, sym back j)) legal;
        kept = kept;
      }
