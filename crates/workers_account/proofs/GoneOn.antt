-- What stays so while a client's worker does one thing after another: the hand's number, what it has seen, what is
-- kept, and that what runs is of a request before `upto`.
-- Used by `workers_follow_their_sessions`, InStep and crate weave_phase.
use Rattle.std.proofs.Common.{◌≡◌, inl, inr, ℕ, ◌<◌, List, [], ◌∷◌, Option, None, Some, refl, sym, ◌∙◌, subst}
use Rattle.std.specs.Option.{ForSome}
use Rattle.std.proofs.lemmas.Option.{none-some, same_Some}
use Rattle.seen_logs.proofs.Within.{all-later, itself}
use Rattle.program_defs.specs.declared.script.Script.{Script}
use Rattle.seen_logs.specs.Seen.{IsWithin}
use Rattle.weaver_core.specs.declared.walks.Running.{Running}
use Rattle.weaver_locks.specs.declared.hand.Hand.{Hand}
use Rattle.weaver_locks.specs.declared.shared.Shared.{Shared}
use Rattle.weaver_locks.specs.Hands.{hand_number, seen_by}
use Rattle.weaver_workers.specs.ClientWork.{DoesOneCall, Goes, RunsSameProgram, Stand}
use Rattle.weaver_workers.specs.Keeping.{KeepsClient}

-- More is seen

-- the hand has its number, and has seen no less
abbrev pub SeesMore : Hand → Hand → Type 0
SeesMore old new = (hand_number new ≡ hand_number old) × IsWithin (seen_by old) (seen_by new)

sees-then : (old mid new : Hand) → SeesMore old mid → SeesMore mid new → SeesMore old new
sees-then old mid new first second = (second.0 ∙ first.0, all-later (seen_by old) (seen_by mid) (seen_by new) first.1 second.1)

-- Programs that run

-- if a program is running it is of a request before `upto`
abbrev pub Below : ℕ → Option Running → Type 0
Below upto running = ForSome running (λ (one : Running). one.request < upto)

-- none runs
none-below : (upto : ℕ) (running : Option Running) → running ≡ None → Below upto running
none-below upto running none one at = absurd (none-some one (sym none ∙ at))

-- this one does
one-below : (upto : ℕ) (running : Option Running) (one : Running) → running ≡ Some one → one.request < upto → Below upto running
one-below upto running one is low other at = subst (λ (r : Running). r.request < upto) (same_Some one other (sym is ∙ at)) low

-- the same one goes on
same-below : (upto : ℕ) (was is : Option Running) → RunsSameProgram was is → Below upto was → Below upto is
same-below upto None is none below one at = absurd (none-some one (sym none ∙ at))
same-below upto (Some was) None impossible below one at = absurd impossible
same-below upto (Some was) (Some is) same below one at =
    subst (λ (r : Running). r.request < upto) (same_Some is one at)
    (subst (λ (r : ℕ). r < upto) (sym same.request_is) (below was refl))

module _ (shared : Shared) (script : Script) (number upto : ℕ) where
  -- One thing done

  -- after one thing done the hand has its number, and has seen no less
  pub does-see : (old new : Stand) → DoesOneCall shared script number upto old new → SeesMore old.hand new.hand
  does-see old new (inl change) =
      let did = change.transacts in
      sees-then old.hand did.judged new.hand
      (sees-then old.hand did.begun did.judged (did.begins.number, did.begins.more) (did.judges.was.number, did.judges.was.more))
      (did.sends.was.number, did.sends.was.more)
  does-see old new (inr (inl start)) = (start.starts.begins.number, start.starts.begins.more)
  does-see old new (inr (inr (inl visit))) = (visit.visits.visits.was.number, visit.visits.visits.was.more)
  does-see old new (inr (inr (inr (inl finish)))) = (finish.finishes.was.number, finish.finishes.was.more)
  does-see old new (inr (inr (inr (inr carry)))) = (carry.only.number, carry.only.more)

  -- after one thing done what runs is of a request before `upto`
  pub does-below : (old new : Stand) → DoesOneCall shared script number upto old new → Below upto old.client.running → Below upto new.client.running
  does-below old new (inl change) below = none-below upto new.client.running change.running
  does-below old new (inr (inl start)) below = one-below upto new.client.running _ start.running start.next.below
  does-below old new (inr (inr (inl visit))) below =
      one-below upto new.client.running visit.after visit.after_is
      (subst (λ (r : ℕ). r < upto) (sym visit.visits.fed.request_is) (below visit.before visit.before_is))
  does-below old new (inr (inr (inr (inl finish)))) below = none-below upto new.client.running finish.running
  does-below old new (inr (inr (inr (inr carry)))) below = same-below upto old.client.running new.client.running carry.running below

  -- One after another

  -- the hand has its number at the end, and has seen no less
  pub number-and-more : (path : List Stand) (from at : Stand) → Goes shared script number upto from path at
      → (hand_number at.hand ≡ hand_number from.hand) × IsWithin (seen_by from.hand) (seen_by at.hand)
  number-and-more [] from at went = subst (λ (s : Stand). SeesMore from.hand s.hand) went (refl, itself (seen_by from.hand))
  number-and-more (next ∷ path) from at went =
      sees-then from.hand next.hand at.hand (does-see from next went.0.0) (number-and-more path next at went.1)

  -- what the worker keeps is kept at the end
  pub keeps-at-end : (path : List Stand) (from at : Stand) → KeepsClient shared script number from.hand from.client
      → Goes shared script number upto from path at → KeepsClient shared script number at.hand at.client
  keeps-at-end [] from at keeps went = subst (λ (s : Stand). KeepsClient shared script number s.hand s.client) went keeps
  keeps-at-end (next ∷ path) from at keeps went = keeps-at-end path next at went.0.1 went.1

  -- what runs at the end is of a request before `upto`
  pub running-below : (path : List Stand) (from at : Stand) → Goes shared script number upto from path at
      → ForSome from.client.running (λ (one : Running). one.request < upto)
      → ForSome at.client.running (λ (one : Running). one.request < upto)
  running-below [] from at went below = subst (λ (s : Stand). Below upto s.client.running) went below
  running-below (next ∷ path) from at went below = running-below path next at went.1 (does-below from next went.0.0 below)
