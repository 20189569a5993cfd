-- A `Graph` as contracts see it, and the plain graph that it is.
use Rattle.std.specs.Prelude.{Result, Ok, Err}
use Rattle.std.specs.FinMap as map
use Rattle.std.specs.FinMap.{FinMap}
use Rattle.weave_data.specs.Names.{name_cmp}
use Rattle.graph_ops.specs.PlainGraph.{PlainGraph, StoppedTx}
use Rattle.graph_ops.specs.declared.record.Record.{Record}
use Rattle.graph_ops.specs.declared.tx.TxFault.{TxFault}
use Rattle.graph_ops.specs.declared.tx.TxFault.TheVariants.{Refused, Memory}

-- a finite map from names to records
abbrev pub Vertices : Type 0
Vertices = FinMap name_cmp Record

-- the plain graph that it is: a vertex whose name is not in it is absent
abbrev pub plain_of : Vertices → PlainGraph
plain_of vertices = λ v. map.get vertices v

-- if the call was refused, not for being out of memory, the first refused operation and its reason have P
abbrev pub IfTxRefused : {A : Type 0} → Result A TxFault → (StoppedTx → Type 0) → Type 0
IfTxRefused (Ok gots) P = Unit {0}
IfTxRefused (Err (Refused number reason)) P = P (record { op = number; reason = reason })
IfTxRefused (Err Memory) P = Unit {0}
