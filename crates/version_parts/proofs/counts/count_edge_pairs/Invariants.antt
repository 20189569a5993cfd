use Rattle.std.proofs.Common.{◌≡◌, ◌+◌, true, drop}
use Rattle.version_parts.specs.Counts.{total, count_edge}
use Rattle.version_parts.proofs.counts.count_edge_pairs.Given as goal

abbrev pub invariant-loop-pair : goal.invariant-loop-pair
invariant-loop-pair l = l.count + total (count_edge (λ update. true)) (drop l.pair-index l.pairs) ≡ total (count_edge (λ update. true)) l.pairs
