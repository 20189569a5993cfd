use Rattle.std.proofs.Common.{◌≡◌, ◌+◌, ◌<◌, ℕ, List, length, map, filter, drop, refl, sym, ap, ◌∙◌, Some, arith}
use Rattle.std.specs.List.{list_any, range_with_len}
use Rattle.graph_ops.specs.declared.part.Part.{Part}
use Rattle.weave_entries.specs.Sending.{is_kept_at, part_for, parts_for}
use Rattle.weave_entries.specs.declared.message.Addressed.{Addressed}
use Rattle.gatekeeper.specs.Messages.{made_for, with_parted, sent_at}
use Rattle.gatekeeper.specs.Parts.{parts_by_shard}
use Rattle.gatekeeper.proofs.Messages.{made_more, read_sent}
use Rattle.gatekeeper.proofs.Sharing.{counted_once, next_is, all_gone}
use Rattle.gatekeeper.proofs.sending.commit_messages.Goals as goal

pub parts_by_shard-requires-clause-own : goal.parts_by_shard-requires-clause-own
parts_by_shard-requires-clause-own c = counted_once c.args.counts.now c.args.ops.now c.requires.counts

pub bounds-channels-shard : goal.bounds-channels-shard
bounds-channels-shard c =
    let steps = c.in-Some.ensures.steps in
    let next = next_is (λ shard. parts_for c.args.shards shard c.args.ops.now c.args.counts.now) c.args.shards _ _ _ (sym steps.0.0 ∙ c.loop-shard.invariant.left) in
    omega (arith, c.requires.shards, steps.1, next.0)

pub loop-shard-preserved : goal.loop-shard-preserved
loop-shard-preserved c =
    let channels = c.args.channels.now in
    let shards = c.args.shards in
    let ops = c.args.ops.now in
    let counts = c.args.counts.now in
    let place = c.loop-shard.shard-iterator.count in
    let steps = c.in-Some.ensures.steps in
    let next = next_is (λ shard. parts_for shards shard ops counts) shards place c.in-Some.parts _ (sym steps.0.0 ∙ c.loop-shard.invariant.left) in
    let within : c.in-Some.shard < length channels = omega (arith, c.requires.shards, steps.1, next.0) in
    let sent = read_sent channels c.in-Some.shard c.index-channels-shard.result within c.index-channels-shard.is in
    let number : c.count-number.result ≡ length (sent_at place channels) = c.count-number.ensures.count ∙ ap length sent ∙ ap (λ shard. length (sent_at shard channels)) steps.1 in
    let one : ℕ → ℕ → List Part → Addressed = λ s n ps. record { shard = s; number = n + 1; message = record { request = Some c.args.flight.now.request; stamp = c.args.flight.now.stamp; low = c.args.low; parts = ps } } in
    let made = one c.in-Some.shard c.count-number.result c.in-Some.parts in
    let make = made_for channels shards c.args.flight.now c.args.low ops counts in
    let one_is : made ≡ make place = λ i. one (steps.1 i) (number i) (next.1 i) in
    let added = c.in_ok-add_message.ensures ∙ ap (λ (ps : List Part). with_parted made ps c.loop-shard.messages.items) next.1 in
    let more = made_more make (λ n. list_any (is_kept_at shards n) counts) place (is_kept_at shards place) (part_for ops) counts made c.loop-shard.messages.items c.add_message.new.messages.items c.loop-shard.invariant.made refl one_is added in
    record {
      made = more ∙ ap (λ n. map make (filter (λ shard. list_any (is_kept_at shards shard) counts) (range_with_len 0 n))) (sym steps.2);
      left = next.2 ∙ ap (λ n. drop n (parts_by_shard shards ops counts)) (sym steps.2);
      long =
          let was = c.loop-shard.invariant.long in
          let gone = steps.0.1 in
          let short = ap length steps.0.0 in
          omega arith;
      within = omega (arith, steps.2, next.0);
    }

pub returns : goal.returns
returns c =
    let shards = c.args.shards in
    let ops = c.args.ops.now in
    let counts = c.args.counts.now in
    let none = c.in-None.ensures.steps in
    let over = all_gone (λ shard. parts_for shards shard ops counts) shards _ _ c.loop-shard.invariant.left (sym c.loop-shard.invariant.long ∙ none.0.0) in
    let end : c.loop-shard.shard-iterator.count ≡ shards = omega (arith, c.loop-shard.invariant.within, over) in
    c.loop-shard.invariant.made ∙ ap (λ n. map (made_for c.args.channels.now shards c.args.flight.now c.args.low ops counts) (filter (λ shard. list_any (is_kept_at shards shard) counts) (range_with_len 0 n))) end
