use Rattle.std.proofs.Common.{arith, ◌≡◌, length, sym, ap, subst}
use Rattle.std.specs.List.{All}
use Rattle.std.proofs.lemmas.List.Elements.{All-head, All-push, All-tail}
use Rattle.shard_lock.specs.declared.notes.ShardNotes.{ShardNotes}
use Rattle.shard_lock.specs.Notes.{ShardIsKept}
use Rattle.weaver_locks.specs.Noted.{ShardNotesStart}
use Rattle.weaver_locks.proofs.Lists.{mapped_more, mapped_whole}
use Rattle.weaver_locks.proofs.noting.note_shards.Goals as goal

pub note_shard-requires-clause-kept : goal.note_shard-requires-clause-kept
note_shard-requires-clause-kept c =
    All-head (λ b. (notes : ShardNotes) → ShardNotesStart c.args.locks.now notes → ShardIsKept b.shard c.args.count notes) c.in-Some.shard _
    (subst (All (λ b. (notes : ShardNotes) → ShardNotesStart c.args.locks.now notes → ShardIsKept b.shard c.args.count notes)) c.in-Some.ensures.steps.0
    c.loop-shard.invariant.kept)

pub loop-shard-preserved : goal.loop-shard-preserved
loop-shard-preserved c =
    let was = c.loop-shard.invariant in
    let steps = c.in-Some.ensures.steps in
    let some = steps.1 in
    let one = c.in_ok-one in
    let long = ap (λ l. length l) (sym steps.0) in record {
      hand = one.ensures.hand;
      all = mapped_more (λ n. n.shard) (λ b. b.shard) c.loop-shard.noted.items c.push_reserved.new.self.items one.one _ _ c.in-Some.shard
          c.push_reserved.ensures.items steps.0 one.ensures.shard was.all;
      kept = All-tail (λ b. (notes : ShardNotes) → ShardNotesStart c.args.locks.now notes → ShardIsKept b.shard c.args.count notes) c.in-Some.shard _
          (subst (All (λ b. (notes : ShardNotes) → ShardNotesStart c.args.locks.now notes → ShardIsKept b.shard c.args.count notes)) steps.0 was.kept);
      notes = subst (All (λ n. ShardNotesStart c.args.locks.now n.notes)) (sym c.push_reserved.ensures.items)
          (All-push (λ n. ShardNotesStart c.args.locks.now n.notes) c.loop-shard.noted.items one.one was.notes one.ensures.notes);
      count = subst (All (λ n. n.shards ≡ c.args.count)) (sym c.push_reserved.ensures.items)
          (All-push (λ n. n.shards ≡ c.args.count) c.loop-shard.noted.items one.one was.count one.ensures.count);
      long = omega (arith, was.long, some, long);
      space = omega (arith, was.space, some, c.push_reserved.ensures.len, c.push_reserved.ensures.capacity);
    }

pub returns-clause-shards : goal.returns-clause-shards
returns-clause-shards c =
    let was = c.loop-shard.invariant in
    mapped_whole (λ n. n.shard) (λ b. b.shard) c.loop-shard.noted.items _ _ was.long c.in-None.ensures.steps.0 was.all
