use Rattle.std.proofs.Common.{sym, ap, subst, ◌≡◌, ◌+◌, ◌∷◌, ◌++◌, [], ◌∙◌, arith, drop, take}
use Rattle.std.proofs.lemmas.List.{take_more, drop_more}
use Rattle.std.proofs.lemmas.Map.Keys.{IsDistinct-head, IsDistinct-tail}
use Rattle.weave_data.specs.Names.{same_name}
use Rattle.weave_entries.specs.Sending.{part_for}
use Rattle.gatekeeper.specs.Parts.{parts_by_shard, AreOfTheirOwn, HasOpsOf}
use Rattle.gatekeeper.proofs.Sharing.{shard_within, share_more, has_others}
use Rattle.gatekeeper.proofs.parts.parts_of_all.Goals as goal

pub index_mut-requires : goal.index_mut-requires
index_mut-requires c =
    let within = shard_within c.args.shards c.args.ops.now _ c.counted-item.result.vertex _ c.requires.some c.loop-counted.invariant.shared in
    omega (arith, c.loop-counted.shares.ok.0, c.shard-shard.ensures, within)

pub loop-counted-preserved : goal.loop-counted-preserved
loop-counted-preserved c =
    let counts = c.args.counts.now in
    let ops = c.args.ops.now in
    let place = c.loop-counted.counted-index in
    let one = c.counted-item.result in
    let table = c.loop-counted.table.entries in
    let so_far : take (place + 1) counts ≡ take place counts ++ one ∷ [] = take_more counts place one c.loop-counted-test.true ∙ ap (λ x. take place counts ++ x ∷ []) (sym c.counted-item.is) in
    let rest_is : drop place counts ≡ one ∷ drop (place + 1) counts = drop_more counts place one c.loop-counted-test.true ∙ ap (λ x. x ∷ drop (place + 1) counts) (sym c.counted-item.is) in
    let own : AreOfTheirOwn (one ∷ drop (place + 1) counts) = subst AreOfTheirOwn rest_is c.loop-counted.invariant.own in
    let left : HasOpsOf table ops (one ∷ drop (place + 1) counts) = subst (HasOpsOf table ops) rest_is c.loop-counted.invariant.left in
    let part : c.take_part-part.result ≡ part_for ops one = c.take_part-part.ensures.part ∙ (λ i. record { vertex = one.vertex; before = one.before; ops = left.0 i }) in
    record {
      shared =
          share_more c.args.shards ops (take place counts) one c.shard-shard.result c.take_part-part.result c.loop-counted.shares.items c.index_mut.result.now c.push_lean.new.self c.requires.some c.shard-shard.ensures part c.loop-counted.invariant.shared c.index_mut.ensures.value c.in_ok-push_lean.ensures.ok
          ∙ ap (parts_by_shard c.args.shards ops) (sym so_far);
      own = IsDistinct-tail same_name one.vertex _ own;
      left = has_others table _ ops one.vertex (drop (place + 1) counts) (IsDistinct-head same_name one.vertex _ own) c.take_part-part.ensures.others left.1;
    }
