use Rattle.std.proofs.Common.{[], ◌∷◌, refl}
use Rattle.std.proofs.lemmas.List.Sums.{fold-append}
use Rattle.step_rules.specs.Trace.{traced_after, trace_start}
use Rattle.step_rules.proofs.laws.traces_go_on.Goals as goal

pub returns : goal.returns
returns c = record {
  at_first = λ script. refl;
  next = λ script steps step. fold-append (traced_after script) (trace_start script) steps (step ∷ []);
}
