use Rattle.std.proofs.Common.{◌≡◌, map, []}
use Rattle.std.specs.List.{range_with_len}
use Rattle.gatekeeper.proofs.parts.empty_shares.Given as goal

abbrev pub invariant-loop-shard : goal.invariant-loop-shard
invariant-loop-shard l = l.shares.items ≡ map (λ _. []) (range_with_len 0 l._shard)
