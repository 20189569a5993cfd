use Rattle.std.proofs.Common.{◌≡◌, ◌∷◌, false, length, IsTrue}
use mathlib.Core.List.{IsPrefix}
use Rattle.vector_stamp.specs.Seeing.{seen_of}
use Rattle.version_chain.specs.Chains.{stamps_of_versions}
use Rattle.version_chain.specs.Keeping.{kept_from}
use Rattle.version_chain.specs.Views.{has_unordered}
use Rattle.version_chain.specs.Looks.{LearnsOnly, ForgetsNone}
use Rattle.version_chain.proofs.view.look_back.Given as goal

abbrev pub invariant-loop-newest : goal.invariant-loop-newest
invariant-loop-newest g l = record {
  front : IsPrefix (kept_from l.dropped l.parts l.rest) (kept_from l.dropped l.parts l.stamps);
  seen : seen_of (g.J.Judge.pairs l.fn.judge) l.program (stamps_of_versions (kept_from l.dropped l.parts l.stamps)) ≡ seen_of (g.J.Judge.pairs l.fn.judge) l.program (stamps_of_versions (kept_from l.dropped l.parts l.rest));
  pairs : g.J.Judge.pairs l.judge ≡ g.J.Judge.pairs l.fn.judge;
  log : IsTrue g.J.Judge.keeps_log → g.J.Judge.log_of l.judge ≡ g.J.Judge.log_of l.fn.judge;
  known : LearnsOnly (l.program ∷ stamps_of_versions (kept_from l.dropped l.parts l.stamps)) (g.J.Judge.known l.fn.judge) (g.J.Judge.known l.judge);
  stays : ForgetsNone (g.J.Judge.known l.fn.judge) (g.J.Judge.known l.judge);
  not_asked : has_unordered l.program (stamps_of_versions (kept_from l.dropped l.parts l.stamps)) ≡ false → l.judge ≡ l.fn.judge;
}

abbrev pub decreases-loop-newest : goal.decreases-loop-newest
decreases-loop-newest g l = length l.rest
