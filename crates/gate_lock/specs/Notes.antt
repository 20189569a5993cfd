-- What a gatekeeper has seen by its notes, and when that is enough.
use Rattle.std.specs.Prelude.{◌≡◌, ℕ, ◌<◌, List, [], map, length, slice_set, Contains}
use Rattle.graph_ops.specs.declared.op.Op.{Op}
use Rattle.weave_entries.specs.declared.gate_log.GateDeed.{GateDeed}
use Rattle.weave_entries.specs.declared.gate_log.GateEntry.{GateEntry}
use Rattle.weave_entries.specs.declared.shard_log.ShardDeed.{ShardDeed}
use Rattle.weave_entries.specs.declared.store_log.StoreDeed.{StoreDeed}
use Rattle.weave_entries.specs.declared.verdict.Verdict.{Verdict}
use Rattle.weave_entries.specs.GateReplay.{BegunRequest}
use Rattle.weave_entries.specs.StoreReplay.{Judgement, judgements_of}
use Rattle.gatekeeper.specs.Gates.{GateView}
use Rattle.weave_account.specs.declared.account.Account.{Account}
use Rattle.seen_logs.specs.Seen.{AreLegal, GateRefersWithin}
use Rattle.chronicle.specs.declared.pass.Pass.{Pass}
use Rattle.chronicle.specs.Frames.{Frame}
use Rattle.chronicle.specs.Logs.{Log}
use Rattle.chronicle.specs.Passes.{seen_by_pass, seen_by_note, lock_noted}
use Rattle.gate_lock.specs.declared.notes.GateNotes.{GateNotes}
use Rattle.seen_logs.specs.Entries.{gate_entries, store_entries, shard_entries}
use Rattle.gate_lock.specs.Frames.{gate_frame}

-- these logs as an account, with a gatekeeper's own log in its place
abbrev pub account_of_gate : ℕ → List GateEntry → List (Log GateDeed) → Log StoreDeed → List (Log ShardDeed) → Account
account_of_gate home own gates store shards = record {
  gates = slice_set (map gate_entries gates) home own;
  store = store_entries store;
  oracle = [];
  shards = map shard_entries shards;
  sessions = [];
}

-- what a gatekeeper has seen: its own log, whole, and of the other logs what its notes have
abbrev pub seen_of_gate : GateView → GateNotes → Account
seen_of_gate gate notes =
    account_of_gate gate.home gate.log (map seen_by_note notes.gates.items) (seen_by_note notes.store)
    (map seen_by_note notes.shards.items)

-- what passes have seen, with a gatekeeper's own log in its place
abbrev pub seen_by_gate_passes : ℕ → List GateEntry → List (Pass GateDeed) → Pass StoreDeed → List (Pass ShardDeed)
    → Account
seen_by_gate_passes home own gates store shards =
    account_of_gate home own (map seen_by_pass gates) (seen_by_pass store) (map seen_by_pass shards)

-- the frame of a gatekeeper with notes
abbrev pub frame_of_gate : GateView → GateNotes → Frame
frame_of_gate gate notes = gate_frame gate.home gate.gates gate.shards (map lock_noted notes.gates.items)
    (lock_noted notes.store) (map lock_noted notes.shards.items)

-- a gatekeeper with notes as contracts see it
pub record NotedGateView : Type 0 where
  pub gate : GateView
  pub notes : GateNotes

-- What a gatekeeper's type keeps. There is a note of each lock. Each list that was seen is legal, and all that the
-- log's entries refer to was seen.
pub record GateIsKept (gate : GateView) (notes : GateNotes) : Type 0 where
  pub home : gate.home < gate.gates
  pub gates : length notes.gates.items ≡ gate.gates
  pub shards : length notes.shards.items ≡ gate.shards
  pub legal : AreLegal gate.gates gate.shards (seen_of_gate gate notes)
  pub refers : GateRefersWithin gate.shards (seen_of_gate gate notes) gate.home

-- this verdict on these operations is that of the transaction in flight, as far as the store's log was seen
pub record HasJudged (account : Account) (flight : BegunRequest) (ops : List Op) (verdict : Verdict) : Type 0 where
  pub judged : Judgement
  pub is_judged : Contains (judgements_of account.store) judged
  pub request_is : judged.request ≡ flight.request
  pub stamp_is : judged.stamp ≡ flight.stamp
  pub ops_are : judged.ops ≡ ops
  pub verdict_is : judged.verdict ≡ verdict
