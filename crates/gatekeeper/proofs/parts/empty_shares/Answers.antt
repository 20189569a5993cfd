use Rattle.std.proofs.Common.{[], ◌∷◌, ◌++◌, sym, ◌∙◌, arith}
use Rattle.std.proofs.lemmas.List.FromFn.{map-range_with_len_more}
use Rattle.gatekeeper.proofs.parts.empty_shares.Goals as goal

pub loop-shard-preserved : goal.loop-shard-preserved
loop-shard-preserved c = c.in_ok-push.ensures.items ∙ (λ i. c.loop-shard.invariant i ++ c.new.ensures i ∷ []) ∙ sym (map-range_with_len_more (λ _. []) 0 c.loop-shard._shard c.loop-shard._shard (omega arith))
