use Rattle.std.proofs.Common.{[], ◌∷◌}
use Rattle.weaver_locks.proofs.noting_all.note_all.Goals as goal

pub returns-clause-store_frame : goal.returns-clause-store_frame
returns-clause-store_frame c = let s = c.in_ok-store.ensures in λ i. (s.shards i ∷ []) ∷ s.oracle i ∷ s.gates i

pub returns-clause-oracle_frame : goal.returns-clause-oracle_frame
returns-clause-oracle_frame c = let s = c.in_ok-oracle.ensures in λ i. (s.shards i ∷ []) ∷ s.gates i
