-- A transaction that passed, and can be taken back: the graph before it and after it.
use Rattle.std.specs.Prelude.{List, [], ◌∷◌, refl}
use Rattle.std.specs.Coded.{Coded, code_by, coded×}
use Rattle.std.specs.FinMap as map
use Rattle.graph_ops.specs.Codes.{coded_name, coded_record}
use Rattle.graph_ops.specs.Graphs.{Vertices}
use Rattle.graph_ops.specs.Slots.{with_slot}
use Rattle.graph_ops.specs.TakingBack.{taken_back}
use Rattle.graph_ops.specs.declared.journal.Step.{Step}

pub record BothVertices : Type 0 where
  pub before : Vertices
  pub after : Vertices

-- a graph with steps taken back, the last one first
abbrev pub rewound_map : List Step → Vertices → Vertices
rewound_map [] vertices = vertices
rewound_map (step ∷ steps) vertices =
    with_slot step.v (taken_back step.back (map.get (rewound_map steps vertices) step.v)) (rewound_map steps vertices)

-- by which values they are told apart
abbrev pub coded_both : Coded BothVertices
coded_both =
    code_by (Vertices × Vertices) (coded× (map.code coded_name coded_record) (map.code coded_name coded_record))
    (λ b. (b.before, b.after)) (λ p. record { before = p.0; after = p.1 }) (λ _. refl)
