use Rattle.std.proofs.Common.{◌≡◌, ℕ, Ok, Result, ◌∙◌, arith}
use Rattle.weave_io.specs.declared.faults.Failed.{Failed}
use Rattle.weave_io.proofs.Tellings.{appends_start}
use Rattle.weave_io.proofs.writing.write_all.Goals as goal

none_taken : (count : ℕ) → ◌≡◌ {A = Result ℕ Failed} (Ok count) (Ok 0) → count ≡ 0
none_taken count same = cc

pub loop-at-preserved : goal.loop-at-preserved
loop-at-preserved g c = record {
  within = omega (arith, c.in_ok-count.ensures.within);
  appended = appends_start _ _ _ c.args.text.now _ _ c.loop-at.invariant.appended c.in_ok-count.ensures.appended;
  faults = omega (arith, c.in_ok-count.ensures.faults_never_fall);
  stalls = c.in_ok-count.ensures.went_on (λ stall. c.if-count-eq0.false (none_taken _ stall.0)) ∙ c.loop-at.invariant.stalls;
}
