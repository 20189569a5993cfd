-- Notes of whole logs are enough, if the logs are legal and have all that the gatekeeper's own log refers to.
-- Used by `notes_of_whole_logs_are_enough`.
use Rattle.std.proofs.Common.{◌≡◌, ℕ, ◌<◌, ◌≤◌, List, ◌∷◌, ◌++◌, length, refl, sym, ap, arith}
use Rattle.std.proofs.lemmas.List.{length-append}
use Rattle.weave_entries.specs.declared.gate_log.GateEntry.{GateEntry}
use Rattle.gatekeeper.specs.Gates.{GateView}
use Rattle.weave_account.specs.declared.account.Account.{Account}
use Rattle.weave_account.specs.Account.{gate_log, shard_log}
use Rattle.weave_account.proofs.GoesOn.{same-on}
use Rattle.seen_logs.specs.References.{GateRefersAs}
use Rattle.seen_logs.specs.Seen.{AreLegal, GateRefersWithin}
use Rattle.gate_lock.specs.declared.notes.GateNotes.{GateNotes}
use Rattle.gate_lock.specs.LowerLaws.{LawsForGateNotes}
use Rattle.gate_lock.specs.Notes.{GateIsKept, seen_of_gate}

module _ (laws : LawsForGateNotes) (gate : GateView) (notes : GateNotes) (account : Account) (home : gate.home < gate.gates)
    (gates : length notes.gates.items ≡ gate.gates) (shards : length notes.shards.items ≡ gate.shards)
    (legal : AreLegal gate.gates gate.shards account) (refers : GateRefersWithin gate.shards account gate.home)
    (gates_are : (k : ℕ) → gate_log (seen_of_gate gate notes) k ≡ gate_log account k) (store_is : (seen_of_gate gate notes).store ≡ account.store)
    (shards_are : (k : ℕ) → shard_log (seen_of_gate gate notes) k ≡ shard_log account k) where
  legal_seen : AreLegal gate.gates gate.shards (seen_of_gate gate notes)
  legal_seen = laws.beginnings gate.gates gate.shards (seen_of_gate gate notes) account record {
    gates = λ k. same-on (gate_log (seen_of_gate gate notes) k) (gate_log account k) (sym (gates_are k));
    store = same-on (seen_of_gate gate notes).store account.store (sym store_is);
    oracle = (account.oracle, refl);
    shards = λ k. same-on (shard_log (seen_of_gate gate notes) k) (shard_log account k) (sym (shards_are k));
  } legal

  none_new : (front : List GateEntry) (entry : GateEntry) (rest : List GateEntry) → gate_log (seen_of_gate gate notes) gate.home ≡ front ++ entry ∷ rest
      → length (gate_log account gate.home) ≤ length front → GateRefersAs (seen_of_gate gate notes) gate.shards front entry.author entry.deed
  none_new front entry rest at long =
      let L : List GateEntry → ℕ = λ l. length l in
      absurd (omega (arith, long, ap L (gates_are gate.home), ap L at, length-append front (entry ∷ rest)))

  -- notes that have seen a legal account's logs, with all that the own log refers to, are enough for the gatekeeper
  pub kept_at_start : GateIsKept gate notes
  kept_at_start = record {
    home = home;
    gates = gates;
    shards = shards;
    legal = legal_seen;
    refers = laws.notes gate.gates gate.shards account (seen_of_gate gate notes)
        (λ k. same-on (gate_log account k) (gate_log (seen_of_gate gate notes) k) (gates_are k)) (same-on account.store (seen_of_gate gate notes).store store_is)
        (λ k. same-on (shard_log account k) (shard_log (seen_of_gate gate notes) k) (shards_are k)) legal_seen.shard_logs gate.home refers none_new;
  }
