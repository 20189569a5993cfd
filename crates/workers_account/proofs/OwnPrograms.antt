-- Along a client's worker's history the hand's visits are of programs that it began itself.
-- Used by `workers_follow_their_sessions`.
use Rattle.std.proofs.Common.{inl, inr, ℕ, List, [], ◌∷◌, subst}
use Rattle.program_defs.specs.declared.script.Script.{Script}
use Rattle.weaver_locks.specs.declared.shared.Shared.{Shared}
use Rattle.weaver_locks.specs.Following.{VisitsItsOwnPrograms}
use Rattle.weaver_locks.specs.Hands.{IsHand}
use Rattle.weaver_locks.specs.Locks.{shard_count}
use Rattle.weaver_workers.specs.ClientWork.{DoesOneCall, Goes, Stand}
use Rattle.weaver_workers.specs.Keeping.{KeepsClient}
use Rattle.workers_account.specs.ReadLaws.{ReadLaws}
use Rattle.workers_account.proofs.StepReads.{carry-unvisited}

module _ (laws : ReadLaws) (shared : Shared) (script : Script) (number upto : ℕ) where
  -- after one thing done
  step-own : (old new : Stand) → KeepsClient shared script number old.hand old.client → IsHand shared new.hand
      → DoesOneCall shared script number upto old new → VisitsItsOwnPrograms shared old.hand → VisitsItsOwnPrograms shared new.hand
  step-own old new keeps is (inl change) own =
      laws.none_visited shared old.hand new.hand keeps.is_hand is
      (λ r. laws.transact (shard_count shared) old.hand new.hand change.asked.gate change.r change.ops old.client.session.last
      change.stamp change.verdict change.transacts r) own
  step-own old new keeps is (inr (inl start)) own =
      laws.none_visited shared old.hand new.hand keeps.is_hand is
      (λ r. laws.start (shard_count shared) old.hand new.hand start.asked.gate start.r old.client.session.last start.stamp start.starts r) own
  step-own old new keeps is (inr (inr (inl visit))) own =
      laws.own_visited shared old.hand new.hand visit.before visit.after keeps.is_hand is
      (keeps.running visit.before visit.before_is).runs visit.visits own
  step-own old new keeps is (inr (inr (inr (inl finish)))) own =
      laws.none_visited shared old.hand new.hand keeps.is_hand is
      (λ r. laws.finish (shard_count shared) old.hand new.hand finish.before finish.answer finish.finishes r) own
  step-own old new keeps is (inr (inr (inr (inr carry)))) own =
      laws.none_visited shared old.hand new.hand keeps.is_hand is (λ r. carry-unvisited old.hand new.hand carry.only r) own

  -- a hand that visits only its own programs still does after it did one thing after another
  pub visits-its-own : (path : List Stand) (from at : Stand) → KeepsClient shared script number from.hand from.client
      → VisitsItsOwnPrograms shared from.hand → Goes shared script number upto from path at → VisitsItsOwnPrograms shared at.hand
  visits-its-own [] from at keeps own went = subst (λ (s : Stand). VisitsItsOwnPrograms shared s.hand) went own
  visits-its-own (next ∷ path) from at keeps own went =
      visits-its-own path next at went.0.1 (step-own from next keeps went.0.1.is_hand went.0.0 own) went.1
