-- The logs that a shard's notes have seen are legal, and each message was sent: for the test in which a shard drops old
-- versions.
-- Used by `new_shard` and `shard_with_versions`.
use Rattle.std.proofs.Common.{◌≡◌, ◌≢◌, ℕ, zero, suc, ◌<◌, [], ◌∷◌, length, All, AllPairs, None, inl, inr, refl, sym, ap, subst, ◌∙◌, arith}
use Rattle.std.proofs.lemmas.List.Elements.{All-cons, All-nil}
use Rattle.weave_data.proofs.Entries.{each_none}
use Rattle.weave_data.proofs.Members.{has_head, has_none}
use Rattle.weave_data.proofs.Ordered.{pairs_cons, pairs_none}
use Rattle.graph_ops.specs.declared.op.Op.{Op}
use Rattle.graph_ops.specs.declared.op.Op.TheVariants.{Create, Delete}
use Rattle.graph_ops.specs.declared.part.Part.{Part}
use Rattle.vector_stamp.specs.declared.clock.EventId.{EventId}
use Rattle.vector_stamp.specs.declared.clock.Stamp.{Stamp}
use Rattle.vector_stamp.specs.Order.{id_of}
use Rattle.weave_entries.specs.declared.gate_log.GateEntry.{GateEntry}
use Rattle.weave_entries.specs.declared.store_log.StoreEntry.{StoreEntry}
use Rattle.weave_entries.specs.GateRules.{FitsAs, HearsAs, HearsNoMore, IsGateLog}
use Rattle.weave_entries.specs.ShardRules.{IsShardLog}
use Rattle.weave_entries.specs.StoreReplay.{judged_by}
use Rattle.weave_entries.specs.StoreRule.{FitsStore, IsStoreLog}
use Rattle.weave_account.specs.declared.account.Account.{Account}
use Rattle.weave_account.specs.Account.{gate_log, shard_log}
use Rattle.weave_account.proofs.ExampleLists.{five, two}
use Rattle.seen_logs.specs.Entries.{oracle_entries, store_entries, store_pairs}
use Rattle.seen_logs.specs.Seen.{AreLegal, ShardRefersWithin}
use Rattle.chronicle.specs.Passes.{seen_by_note}
use Rattle.shard_node.specs.Shards.{ShardView}
use Rattle.shard_lock.specs.declared.notes.ShardNotes.{ShardNotes}
use Rattle.shard_lock.specs.Notes.{ShardIsKept, at_place, seen_of_shard}
use Rattle.oracle_lock.specs.Seen.{gates_noted}
use Rattle.lock_tests.specs.Dropping.{IsSentToShard, begin_entry, deleted_message, empty, empty_entry, judge_entry, judged_log, made_message, part_of, dropping_run, send_entry, sent_log, stamp_of_count, verdict_of, vertex}

-- what a shard without entries has seen
abbrev new : Account
new = record dropping_run { shards = [] ∷ [] }

-- The logs are legal

gate-logs : (home : ℕ) → IsGateLog home 1 (gate_log dropping_run home)
gate-logs zero =
    five (λ before (entry : GateEntry). FitsAs 0 1 before entry.author entry.deed) (begin_entry 0 1) (send_entry 0 1 made_message)
    (begin_entry 1 2) (send_entry 1 2 deleted_message) empty_entry
    (record { alone = refl; begun = record { last = None; eight = λ x at. cc; is = refl } })
    (record { stamp = stamp_of_count 1; flight = refl; ops = Create vertex ∷ []; verdict = verdict_of 1 0; counts = refl; messages_are = refl })
    (record { alone = refl; begun = record { last = None; eight = λ x at. cc; is = refl } })
    (record { stamp = stamp_of_count 2; flight = refl; ops = Delete vertex ∷ []; verdict = verdict_of 2 1; counts = refl; messages_are = refl })
    (record { alone = refl; shard_is = omega arith; stamp_is = refl; number_is = refl; low_is = refl })
gate-logs (suc home) = each_none _

hears : (home : ℕ) → HearsNoMore home (gate_log dropping_run home)
hears zero =
    five (λ before (entry : GateEntry). HearsAs 0 before entry.deed) (begin_entry 0 1) (send_entry 0 1 made_message)
    (begin_entry 1 2) (send_entry 1 2 deleted_message) empty_entry tt tt tt tt tt
hears (suc home) = each_none _

store-log : IsStoreLog dropping_run.store
store-log =
    two (λ before (entry : StoreEntry). FitsStore before entry.deed) (judge_entry 0 1 0 (Create vertex)) (judge_entry 1 2 1 (Delete vertex))
    (record { new = All-nil _; asked_are = refl; pairs = []; verdict_is = refl })
    (record {
      new = All-cons (λ (judged : Stamp). id_of judged ≢ id_of (stamp_of_count 2)) (stamp_of_count 1) [] differ (All-nil _);
      asked_are = refl;
      pairs = [];
      verdict_is = refl;
    })
  where
    differ : id_of (stamp_of_count 1) ≢ id_of (stamp_of_count 2)
    differ same = let counts : 1 ≡ 2 = ap (λ (id : EventId). id.count) same in absurd (omega (arith, counts))

shard-logs : (shard : ℕ) → IsShardLog 1 (shard_log new shard)
shard-logs zero = each_none _
shard-logs (suc shard) = each_none _

legal : AreLegal 1 1 new
legal = record { gate_logs = gate-logs; hears = hears; store_log = store-log; oracle_log = tt; shard_logs = shard-logs }

refers : ShardRefersWithin 1 new 0
refers = each_none _

-- a shard without entries keeps these notes
pub keeps-notes : (shard : ShardView) (notes : ShardNotes) → shard ≡ record { number = 0; gates = 1; log = [] }
    → gates_noted notes.gates.items ≡ sent_log ∷ [] → seen_by_note notes.store ≡ store_pairs judged_log → seen_by_note notes.oracle ≡ []
    → length notes.gates.items ≡ 1 → ShardIsKept shard 1 notes
unfolding at_place
keeps-notes shard notes is gates store oracle one =
    let here : seen_of_shard shard notes ≡ new = λ i. record {
      gates = gates i;
      store = store_entries (store i);
      oracle = oracle_entries (oracle i);
      shards = at_place (is i).number (is i).log;
      sessions = [];
    } in
    record {
      number = subst (λ (s : ShardView). s.number < 1) (sym is) (omega arith);
      gates = one ∙ ap (λ (s : ShardView). s.gates) (sym is);
      legal = subst (λ (z : ℕ × Account). AreLegal z.0 1 z.1) (λ i. ((sym is i).gates, sym here i)) legal;
      refers = subst (λ (z : Account × ℕ). ShardRefersWithin 1 z.0 z.1) (λ i. (sym here i, (sym is i).number)) refers;
    }

-- The messages were sent

takable : (before : ℕ) (op : Op) → before < 18446744073709551615 → AllPairs (λ (one other : Part). one.vertex ≢ other.vertex) (part_of before op ∷ [])
    × All (λ (part : Part). part.before < 18446744073709551615) (part_of before op ∷ [])
takable before op small = (
  pairs_cons (λ (one other : Part). one.vertex ≢ other.vertex) (part_of before op) [] (λ other h. absurd (has_none other h))
      (pairs_none (λ (one other : Part). one.vertex ≢ other.vertex)),
  All-cons (λ (part : Part). part.before < 18446744073709551615) (part_of before op) [] small (All-nil _),
)

-- the message that makes the vertex was sent to the shard as the first one
pub made-sent : IsSentToShard 1 made_message
made-sent = record {
  from_one = omega arith;
  takable = record { apart = (takable 0 (Create vertex) (omega arith)).0; small = (takable 0 (Create vertex) (omega arith)).1 };
  seen = record {
    sent = (0, omega arith, refl);
    made = inr (record {
      judged = judged_by 0 (judge_entry 0 1 0 (Create vertex)).deed;
      is_judged = (0, omega arith, refl);
      log = begin_entry 0 1 ∷ [];
      begun = record { author = 0; request = 0; stamp = stamp_of_count 1 };
      stamp_is = refl;
      addressed = record { shard = 0; number = 1; message = made_message };
      sent = has_head _ [];
      shard_is = refl;
      message_is = refl;
    });
  };
}

-- the message that deletes the vertex was sent to the shard as the second one
pub deleted-sent : IsSentToShard 2 deleted_message
deleted-sent = record {
  from_one = omega arith;
  takable = record { apart = (takable 1 (Delete vertex) (omega arith)).0; small = (takable 1 (Delete vertex) (omega arith)).1 };
  seen = record {
    sent = (1, omega arith, refl);
    made = inr (record {
      judged = judged_by 0 (judge_entry 1 2 1 (Delete vertex)).deed;
      is_judged = (1, omega arith, refl);
      log = begin_entry 0 1 ∷ send_entry 0 1 made_message ∷ begin_entry 1 2 ∷ [];
      begun = record { author = 0; request = 1; stamp = stamp_of_count 2 };
      stamp_is = refl;
      addressed = record { shard = 0; number = 2; message = deleted_message };
      sent = has_head _ [];
      shard_is = refl;
      message_is = refl;
    });
  };
}

-- the empty message was sent to the shard as the third one
pub empty-sent : IsSentToShard 3 empty
empty-sent = record {
  from_one = omega arith;
  takable = record { apart = pairs_none (λ (one other : Part). one.vertex ≢ other.vertex); small = All-nil _ };
  seen = record { sent = (2, omega arith, refl); made = inl refl };
}
