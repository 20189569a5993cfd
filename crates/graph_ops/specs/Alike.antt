-- Outcomes of one transaction on two graphs.
use Rattle.std.specs.Prelude.{◌≡◌, Ok, Err}
use Rattle.weave_data.specs.declared.name.Name.{Name}
use Rattle.graph_ops.specs.PlainGraph.{PlainGraph, PassedTx, TxOutcome}

-- both pass with the same answers, and vertices with the same state in the two graphs have the same state after
pub record PassAlike (first second : PlainGraph) (passed other : PassedTx) : Type 0 where
  pub gots : passed.gots ≡ other.gots
  pub states : (v : Name) → first v ≡ second v → passed.graph v ≡ other.graph v

-- both pass alike, or both are refused at the same operation for the same reason
abbrev pub EndAlike : PlainGraph → PlainGraph → TxOutcome → TxOutcome → Type 0
EndAlike first second (Ok passed) (Ok other) = PassAlike first second passed other
EndAlike first second (Err stopped) (Err other) = stopped ≡ other
EndAlike first second _ _ = ⊥
