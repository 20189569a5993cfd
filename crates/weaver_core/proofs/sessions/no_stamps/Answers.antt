use Rattle.std.proofs.Common.{List, Option, None, ◌∷◌, [], ◌++◌, ap, ◌∙◌}
use Rattle.std.proofs.lemmas.List.{replicate-append-replicate}
use Rattle.vector_stamp.specs.declared.clock.Stamp.{Stamp}
use Rattle.weaver_core.proofs.sessions.no_stamps.Goals as goal

pub loop-request-preserved : goal.loop-request-preserved
loop-request-preserved c = c.in_ok-push.ensures.items ∙ ap (λ (stamps : List (Option Stamp)). stamps ++ None ∷ []) c.loop-request.invariant ∙ replicate-append-replicate c.loop-request._request 1 None
