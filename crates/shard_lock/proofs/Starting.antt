-- Notes of whole logs are enough, if the logs are legal and have all that the shard's own log refers to.
-- Used by `notes_of_whole_logs_are_enough`.
use Rattle.std.proofs.Common.{◌≡◌, ℕ, ◌<◌, ◌≤◌, List, ◌∷◌, ◌++◌, length, refl, sym, ap, ◌∙◌, arith}
use Rattle.std.proofs.lemmas.List.{length-append}
use Rattle.weave_entries.specs.declared.shard_log.ShardEntry.{ShardEntry}
use Rattle.shard_node.specs.Shards.{ShardView}
use Rattle.weave_account.specs.declared.account.Account.{Account}
use Rattle.weave_account.specs.Account.{gate_log, shard_log}
use Rattle.weave_account.specs.GoesOn.{IsBeginningOf}
use Rattle.weave_account.proofs.GoesOn.{same-on}
use Rattle.seen_logs.specs.References.{ShardRefersAs}
use Rattle.seen_logs.specs.Seen.{AreLegal, ShardRefersWithin}
use Rattle.shard_lock.specs.declared.notes.ShardNotes.{ShardNotes}
use Rattle.shard_lock.specs.LowerLaws.{LawsForShardNotes}
use Rattle.shard_lock.specs.Notes.{ShardIsKept, seen_of_shard}
use Rattle.shard_lock.proofs.Accounts.{at_number, at_shards}

module _ (laws : LawsForShardNotes) (shard : ShardView) (shards : ℕ) (notes : ShardNotes) (account : Account) (number : shard.number < shards)
    (gates : length notes.gates.items ≡ shard.gates)
    (legal : AreLegal shard.gates shards account) (refers : ShardRefersWithin shards account shard.number)
    (gates_are : (k : ℕ) → gate_log (seen_of_shard shard notes) k ≡ gate_log account k) (store_is : (seen_of_shard shard notes).store ≡ account.store)
    (oracle_is : (seen_of_shard shard notes).oracle ≡ account.oracle) (own_is : shard.log ≡ shard_log account shard.number) where
  same_own : shard_log (seen_of_shard shard notes) shard.number ≡ shard_log account shard.number
  same_own = at_number shard.number shard.log ∙ own_is

  legal_seen : AreLegal shard.gates shards (seen_of_shard shard notes)
  legal_seen = laws.beginnings shard.gates shards (seen_of_shard shard notes) account record {
    gates = λ k. same-on (gate_log (seen_of_shard shard notes) k) (gate_log account k) (sym (gates_are k));
    store = same-on (seen_of_shard shard notes).store account.store (sym store_is);
    oracle = same-on (seen_of_shard shard notes).oracle account.oracle (sym oracle_is);
    shards = at_shards (λ k l. IsBeginningOf l (shard_log account k)) shard.number shard.log
        (same-on shard.log (shard_log account shard.number) (sym own_is)) (λ k other. (shard_log account k, refl));
  } legal

  none_new : (front : List ShardEntry) (entry : ShardEntry) (rest : List ShardEntry)
      → shard_log (seen_of_shard shard notes) shard.number ≡ front ++ entry ∷ rest
      → length (shard_log account shard.number) ≤ length front
      → ShardRefersAs (seen_of_shard shard notes) shards shard.number front entry.author entry.deed
  none_new front entry rest at long =
      let L : List ShardEntry → ℕ = λ l. length l in
      absurd (omega (arith, long, ap L same_own, ap L at, length-append front (entry ∷ rest)))

  -- notes that have seen a legal account's logs, with all that the own log refers to, are enough for the shard
  pub kept_at_start : ShardIsKept shard shards notes
  kept_at_start = record {
    number = number;
    gates = gates;
    legal = legal_seen;
    refers = laws.notes shards account (seen_of_shard shard notes)
        (λ k. same-on (gate_log account k) (gate_log (seen_of_shard shard notes) k) (gates_are k)) (same-on account.store (seen_of_shard shard notes).store store_is)
        (same-on account.oracle (seen_of_shard shard notes).oracle oracle_is) shard.number
        (same-on (shard_log account shard.number) (shard_log (seen_of_shard shard notes) shard.number) same_own) refers none_new;
  }
