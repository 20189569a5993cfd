-- What the notes have seen after they met the passes.
-- Used by `meet`.
use Rattle.std.proofs.Common.{◌≡◌, inl, inr, ℕ, ◌≤◌, List, [], ◌∷◌, ◌++◌, length, map, sym, ap, ◌∙◌, subst, arith}
use Rattle.std.proofs.lemmas.List.{length-append, length-map}
use Rattle.weave_entries.specs.declared.gate_log.GateDeed.{GateDeed}
use Rattle.weave_entries.specs.declared.gate_log.GateEntry.{GateEntry}
use Rattle.weave_entries.specs.declared.oracle_log.OracleDeed.{OracleDeed}
use Rattle.weave_entries.specs.declared.shard_log.ShardEntry.{ShardEntry}
use Rattle.weave_entries.specs.declared.store_log.StoreDeed.{StoreDeed}
use Rattle.weave_entries.specs.OracleRules.{IsOracleLog}
use Rattle.weave_entries.specs.StoreRule.{IsStoreLog}
use Rattle.shard_node.specs.Shards.{ShardView}
use Rattle.weave_account.specs.Account.{shard_log}
use Rattle.weave_account.specs.GoesOn.{IsBeginningOf}
use Rattle.weave_account.proofs.GoesOn.{whole}
use Rattle.seen_logs.specs.References.{ShardRefersAs}
use Rattle.seen_logs.specs.Seen.{AreLegal, GatesGoOn, IsWithin}
use Rattle.chronicle.specs.declared.pass.Pass.{Pass}
use Rattle.chronicle.specs.Frames.{Frame}
use Rattle.chronicle.specs.Logs.{Log}
use Rattle.chronicle.specs.Passes.{seen_by_pass, seen_by_note, lock_noted}
use Rattle.chronicle.proofs.Logs.{head_or, tail_of}
use Rattle.lock_row.proofs.Meetings.{Met}
use Rattle.seen_logs.specs.Entries.{oracle_entries, store_entries}
use Rattle.oracle_lock.specs.Seen.{AreGateLogs, gates_noted, gates_seen, of_gates}
use Rattle.shard_lock.specs.declared.notes.ShardNotes.{ShardNotes}
use Rattle.shard_lock.specs.Frames.{shard_frame}
use Rattle.shard_lock.specs.LowerLaws.{LawsForShardNotes}
use Rattle.shard_lock.specs.Notes.{ShardIsKept, account_of_shard, frame_of_shard, seen_by_shard_passes, seen_of_shard}
use Rattle.shard_lock.proofs.Accounts.{at_number, grows}

-- the notes have met the passes
pub record AreMet (old new : ShardNotes) (gates gates_now : List (Pass GateDeed)) (store store_now : Pass StoreDeed)
    (oracle oracle_now : Pass OracleDeed) : Type 0 where
  pub names : map lock_noted new.gates.items ≡ map lock_noted old.gates.items
  pub one : gates_noted new.gates.items ≡ gates_seen gates_now
  pub notes_on : GatesGoOn (of_gates (gates_noted old.gates.items)) (of_gates (gates_noted new.gates.items))
  pub passes_on : GatesGoOn (of_gates (gates_seen gates)) (of_gates (gates_seen gates_now))
  pub legal : (shards : ℕ) → AreGateLogs shards (gates_noted old.gates.items) → AreGateLogs shards (gates_seen gates)
      → AreGateLogs shards (gates_seen gates_now)
  pub at_store : Met (seen_by_pass store) (seen_by_pass store_now) (seen_by_note old.store) (seen_by_note new.store)
  pub at_oracle : Met (seen_by_pass oracle) (seen_by_pass oracle_now) (seen_by_note old.oracle) (seen_by_note new.oracle)

module _ (shard : ShardView) (old new : ShardNotes) (gates gates_now : List (Pass GateDeed))
    (store store_now : Pass StoreDeed)
    (oracle oracle_now : Pass OracleDeed) (met : AreMet old new gates gates_now store store_now oracle oracle_now) where
  -- the notes have seen no less than they had
  pub notes_on : IsWithin (seen_of_shard shard old) (seen_of_shard shard new)
  notes_on = grows shard.number shard.log shard.log (gates_noted old.gates.items) (gates_noted new.gates.items) (seen_by_note old.store) (seen_by_note new.store)
      (seen_by_note old.oracle) (seen_by_note new.oracle) (whole shard.log) met.notes_on met.at_store.note_on met.at_oracle.note_on

  -- the shard with its new notes has seen all that the passes had seen
  pub passes_on : (own : List ShardEntry) → IsBeginningOf own shard.log
      → IsWithin (seen_by_shard_passes shard.number own gates store oracle) (seen_of_shard shard new)
  passes_on own on = grows shard.number own shard.log (gates_seen gates) (gates_noted new.gates.items) (seen_by_pass store) (seen_by_note new.store)
      (seen_by_pass oracle) (seen_by_note new.oracle) on
      (subst (λ (l : List (List GateEntry)). GatesGoOn (of_gates (gates_seen gates)) (of_gates l)) (sym met.one) met.passes_on)
      met.at_store.pass_on met.at_oracle.pass_on

  -- the shard with its new notes has seen just what the passes have seen
  pub one_account : seen_of_shard shard new ≡ seen_by_shard_passes shard.number shard.log gates_now store_now oracle_now
  one_account = λ i. account_of_shard shard.number shard.log (met.one i) (met.at_store.one i) (met.at_oracle.one i)

  module _ (laws : LawsForShardNotes) (shards : ℕ) (kept : ShardIsKept shard shards old)
      (legal : AreLegal shard.gates shards (seen_by_shard_passes shard.number [] gates store oracle)) where
    gates_legal : AreGateLogs shards (gates_noted new.gates.items)
    gates_legal = subst (λ (l : List (List GateEntry)). AreGateLogs shards l) (sym met.one) (met.legal shards
        (record { rules = kept.legal.gate_logs; hears = kept.legal.hears }) (record { rules = legal.gate_logs; hears = legal.hears }))

    legal_on : AreLegal shard.gates shards (seen_of_shard shard new)
    legal_on = record {
      gate_logs = gates_legal.rules;
      hears = gates_legal.hears;
      store_log = elim met.at_store.either [
        | inl is ↦ subst (λ (l : Log StoreDeed). IsStoreLog (store_entries l)) (sym is) legal.store_log
        | inr is ↦ subst (λ (l : Log StoreDeed). IsStoreLog (store_entries l)) (sym is) kept.legal.store_log
      ];
      oracle_log = elim met.at_oracle.either [
        | inl is ↦ subst (λ (l : Log OracleDeed). IsOracleLog (oracle_entries l)) (sym is) legal.oracle_log
        | inr is ↦ subst (λ (l : Log OracleDeed). IsOracleLog (oracle_entries l)) (sym is) kept.legal.oracle_log
      ];
      shard_logs = kept.legal.shard_logs;
    }

    -- nothing is new in the own log
    none_new : (before : List ShardEntry) (entry : ShardEntry) (rest : List ShardEntry)
        → shard_log (seen_of_shard shard new) shard.number ≡ before ++ entry ∷ rest
        → length (shard_log (seen_of_shard shard old) shard.number) ≤ length before
        → ShardRefersAs (seen_of_shard shard new) shards shard.number before entry.author entry.deed
    none_new before entry rest at more =
        let L : List ShardEntry → ℕ = λ l. length l in
        absurd (omega (arith, more, ap L (at_number shard.number shard.log), ap L at, length-append before (entry ∷ rest)))

    -- the shard keeps what its type keeps with these notes, if what the passes had seen is legal
    pub kept_met : ShardIsKept shard shards new
    kept_met = record {
      number = kept.number;
      gates = as_many ∙ kept.gates;
      legal = legal_on;
      refers = laws.notes shards (seen_of_shard shard old) (seen_of_shard shard new) notes_on.gates notes_on.store notes_on.oracle shard.number
          (notes_on.shards shard.number) kept.refers none_new;
    } where
      as_many : length new.gates.items ≡ length old.gates.items
      as_many = omega (
        arith,
        length-map new.gates.items lock_noted,
        length-map old.gates.items lock_noted,
        ap (λ (l : List (List ℕ)). length l) met.names,
      )

-- what the frame says: of which locks the notes are
pub record IsFramed (notes : ShardNotes) (store_name oracle_name : List ℕ) (gate_names : List (List ℕ)) : Type 0 where
  pub store_note : lock_noted notes.store ≡ store_name
  pub oracle_note : lock_noted notes.oracle ≡ oracle_name
  pub gate_notes : map lock_noted notes.gates.items ≡ gate_names

-- the notes of a shard with this frame are of the locks that the frame names
pub framed : (shard : ShardView) (shards : ℕ) (notes : ShardNotes) (number gates many : ℕ) (store_name oracle_name : List ℕ)
    (gate_names : List (List ℕ)) → frame_of_shard shard shards notes ≡ shard_frame number gates many store_name oracle_name gate_names
    → IsFramed notes store_name oracle_name gate_names
framed shard shards notes number gates many store_name oracle_name gate_names is = record {
  store_note = ap (λ (f : Frame). head_or [] (tail_of f)) is;
  oracle_note = ap (λ (f : Frame). head_or [] (tail_of (tail_of f))) is;
  gate_notes = ap (λ (f : Frame). tail_of (tail_of (tail_of f))) is;
}

-- the frame stays if the names do
pub frame_still : (shard : ShardView) (shards : ℕ) (old new : ShardNotes) → map lock_noted new.gates.items ≡ map lock_noted old.gates.items
    → lock_noted new.store ≡ lock_noted old.store → lock_noted new.oracle ≡ lock_noted old.oracle
    → frame_of_shard shard shards new ≡ frame_of_shard shard shards old
frame_still shard shards old new gates_are store_is oracle_is =
    λ i. shard_frame shard.number shard.gates shards (store_is i) (oracle_is i) (gates_are i)
