-- What a hand and its sessions gain in one call after another.
-- Used by `hands_go_on_with_each_session`, Programs and Runs.
use Rattle.std.proofs.Common.{ℕ, List, [], ◌∷◌, ◌⊎◌, inl, inr, subst}
use Rattle.program_defs.specs.declared.script.Script.{Script}
use Rattle.program_defs.specs.Limits.{IsWithinLimits}
use Rattle.weave_account.specs.declared.account.Account.{Account}
use Rattle.weaver_core.specs.declared.client.Client.{Client}
use Rattle.weaver_locks.specs.declared.shared.Shared.{Shared}
use Rattle.weaver_locks.specs.Following.{VisitsItsOwnPrograms}
use Rattle.weaver_locks.specs.Hands.{IsHand}
use Rattle.weaver_workers.specs.Keeping.{AreLocksOf, HasLanded}
use Rattle.workers_account.specs.Phase.{IsPhaseStart}
use Rattle.sessions_account.specs.Histories.{GoesThrough, MayBegin, ServesNone, ServesSession, Stands}
use Rattle.sessions_account.specs.SessionsLaws.{SessionsLaws}
use Rattle.sessions_account.proofs.Gains.{HasGained, KeepsClients}
use Rattle.sessions_account.proofs.Joined.{both-gain}
use Rattle.sessions_account.proofs.Served.{served}
use Rattle.sessions_account.proofs.Carried.{carried, none-gained}

module _ (laws : SessionsLaws) (shared : Shared) (script : Script) (upto : ℕ) (hand_of : ℕ → ℕ) (within : IsWithinLimits script)
    (locks : AreLocksOf script shared) where
  one-call : (old new : Stands) → IsHand shared old.hand → HasLanded old.hand → KeepsClients shared script hand_of old → VisitsItsOwnPrograms shared old.hand
      → ServesSession shared script upto hand_of old new ⊎ ServesNone shared old new → HasGained shared script hand_of old new
  one-call old new is_hand landed keeps own (inl serves) = served laws shared script upto hand_of within locks old new keeps own serves
  one-call old new is_hand landed keeps own (inr serves) = carried laws shared script hand_of old new is_hand landed keeps own serves

  -- in calls one after another a hand's new entries match those of its sessions, and it can go on with each session
  pub gained : (path : List Stands) (from at : Stands) → IsHand shared from.hand → HasLanded from.hand
      → KeepsClients shared script hand_of from → VisitsItsOwnPrograms shared from.hand
      → GoesThrough shared script upto hand_of from path at → HasGained shared script hand_of from at
  gained [] from at is_hand landed keeps own leads =
      subst (λ (c : Stands). HasGained shared script hand_of from c) leads (none-gained shared script hand_of from is_hand landed keeps own)
  gained (next ∷ path) from at is_hand landed keeps own leads =
      let first = one-call from next is_hand landed keeps own leads.0 in
      both-gain laws.phase shared script hand_of from next at first
      (gained path next at first.is_hand first.landed first.keeps first.visits leads.1)

module _ (laws : SessionsLaws) (shared : Shared) (script : Script) (start : Account) (was : List Client) (hand_of : ℕ → ℕ)
    (at_start : IsPhaseStart script start shared was) (from : Stands) (may : MayBegin shared hand_of was from) where
  -- at the start a hand may go on with each of its sessions
  pub keeps-first : KeepsClients shared script hand_of from
  keeps-first session given =
      laws.ready script start shared was from.hand session (from.clients session) at_start may.is_hand may.seen (may.client_was session given)
      (may.answered session given)

-- what a hand and its sessions gained since the start
pub served-on : (laws : SessionsLaws) (shared : Shared) (script : Script) (upto : ℕ) (start : Account) (was : List Client) (hand_of : ℕ → ℕ)
    → IsPhaseStart script start shared was → (from at : Stands) (path : List Stands) → MayBegin shared hand_of was from
    → GoesThrough shared script upto hand_of from path at → HasGained shared script hand_of from at
served-on laws shared script upto start was hand_of at_start from at path may went =
    gained laws shared script upto hand_of at_start.limits at_start.locks path from at may.is_hand
    (laws.idle script start shared was from.hand at_start may.is_hand may.seen)
    (keeps-first laws shared script start was hand_of at_start from may) (laws.phase.visits_none shared from.hand may.seen) went
