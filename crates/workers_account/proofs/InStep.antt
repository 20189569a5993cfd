-- A client's worker's history keeps its hand and its session in step.
-- Used by `workers_follow_their_sessions`.
use Rattle.std.proofs.Common.{ℕ, List, [], ◌∷◌, subst}
use Rattle.program_defs.specs.declared.script.Script.{Script}
use Rattle.program_defs.specs.Limits.{IsWithinLimits}
use Rattle.weaver_locks.specs.declared.shared.Shared.{Shared}
use Rattle.weaver_locks.specs.Hands.{hand_number}
use Rattle.weaver_workers.specs.ClientWork.{Goes, Stand}
use Rattle.weaver_workers.specs.Keeping.{AreLocksOf, KeepsClient}
use Rattle.workers_account.specs.Gained.{IsInStep}
use Rattle.workers_account.specs.InStepLaws.{InStepLaws}
use Rattle.workers_account.proofs.GoneOn.{does-see, keeps-at-end}
use Rattle.workers_account.proofs.JoinGains.{join-in-step}
use Rattle.workers_account.proofs.StepsInStep.{does-steps, none-steps}

-- a history keeps hand and session in step
pub in-step : (laws : InStepLaws) (shared : Shared) (script : Script) (number upto : ℕ) (path : List Stand) (from at : Stand)
    → IsWithinLimits script → AreLocksOf script shared → KeepsClient shared script number from.hand from.client
    → Goes shared script number upto from path at → IsInStep script (hand_number from.hand) upto from at
in-step laws shared script number upto [] from at within locks keeps went =
    subst (λ (s : Stand). IsInStep script (hand_number from.hand) upto from s) went (none-steps script upto from)
in-step laws shared script number upto (next ∷ path) from at within locks keeps went =
    let rest = in-step laws shared script number upto path next at within locks went.0.1 went.1 in
    join-in-step script (hand_number from.hand) upto from next at laws number
    (keeps-at-end shared script number upto path next at went.0.1 went.1).at_end
    (does-steps shared script number upto within locks from next keeps went.0.0)
    (subst (λ (author : ℕ). IsInStep script author upto next at) (does-see shared script number upto from next went.0.0).0 rest)
