-- The tests pass exactly if the answer is the priced answer.
-- Used by `certificates_are_exact` and PricedSquare.
use Rattle.std.proofs.Common.{◌≡◌, ℕ, true, List, Option, ◌↔◌}
use Rattle.weave_data.specs.declared.name.Name.{Name}
use Rattle.graph_ops.specs.PlainGraph.{PlainGraph}
use Rattle.program_defs.specs.declared.program.Bound.{Bound}
use Rattle.program_defs.specs.Certificate.{passes_tests}
use Rattle.program_defs.specs.PriceTests.{MeetsTests}
use Rattle.program_defs.specs.PricedAnswer.{IsPricedAnswer}
use Rattle.program_defs.proofs.Certified.{sound}
use Rattle.program_defs.proofs.CertifiedBack.{complete}
use Rattle.program_defs.proofs.CertificateTests.{passed-meets, meets-passed}

-- the tests as facts hold exactly of the priced answer
pub facts-are-exact : (graph : PlainGraph) (from to key : Name) (walk : Option (List Name)) (total : ℕ) (bounds : List Bound)
    → MeetsTests graph key from bounds to walk total ↔ IsPricedAnswer graph from to key walk total bounds
facts-are-exact graph from to key walk total bounds = (
  (λ tests. sound graph key from bounds to walk total tests),
  (λ answer. complete graph key from bounds answer.priced to total walk answer.led),
)

-- and so do the tests that compute
pub tests-are-exact : (graph : PlainGraph) (from to key : Name) (walk : Option (List Name)) (total : ℕ) (bounds : List Bound)
    → (passes_tests graph key from bounds to walk total ≡ true) ↔ IsPricedAnswer graph from to key walk total bounds
tests-are-exact graph from to key walk total bounds = (
  (λ e. sound graph key from bounds to walk total (passed-meets graph key from bounds to walk total e)),
  (λ answer. meets-passed graph key from bounds to walk total (complete graph key from bounds answer.priced to total walk answer.led)),
)
