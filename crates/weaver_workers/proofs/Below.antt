-- The program that runs after a try is of a request before `upto`, if the request that was tried is.
-- Used by `go_session`.
use Rattle.std.proofs.Common.{◌≡◌, inl, inr, ℕ, ◌-◌, ◌<◌, Bool, List, [], ◌∷◌, Option, None, Some, refl, sym, ap, ◌∙◌, subst}
use Rattle.std.specs.Prelude.{slice_get, if◌then◌else◌}
use Rattle.std.specs.Option.{ForSome}
use Rattle.std.proofs.lemmas.Option.{none-some, same_Some}
use Rattle.program_defs.specs.declared.script.Script.{Script}
use Rattle.weave_entries.specs.SessionReplay.{replied_count, SessionState}
use Rattle.weaver_core.specs.declared.client.Client.{Client}
use Rattle.weaver_core.specs.declared.walks.Running.{Running}
use Rattle.weaver_core.specs.Sessions.{log_of_client, requests_in, unanswered_in}
use Rattle.weaver_locks.specs.declared.shared.Shared.{Shared}
use Rattle.weaver_workers.specs.ClientWork.{DoesOneCall, Goes, RunsSameProgram, Stand}
use Rattle.weaver_workers.specs.Turning.{RunsRequestBelow}
use Rattle.weaver_workers.specs.Keeping.{KeepsClient}

-- none runs
none-below : (upto : ℕ) (client : Client) → client.running ≡ None → RunsRequestBelow upto client
none-below upto client none one at = absurd (none-some one (sym none ∙ at))

-- this one does
one-below : (upto : ℕ) (client : Client) (one : Running) → client.running ≡ Some one → one.request < upto → RunsRequestBelow upto client
one-below upto client one is low other at = subst (λ (r : Running). r.request < upto) (same_Some one other (sym is ∙ at)) low

-- the same one goes on
same-below : (upto : ℕ) (was is : Option Running) → RunsSameProgram was is → ForSome was (λ (one : Running). one.request < upto)
    → ForSome is (λ (one : Running). one.request < upto)
same-below upto None is none below one at = absurd (none-some one (sym none ∙ at))
same-below upto (Some was) None impossible below one at = absurd impossible
same-below upto (Some was) (Some is) same below one at =
    subst (λ (r : Running). r.request < upto) (same_Some is one at)
    (subst (λ (r : ℕ). r < upto) (sym same.request_is) (below was refl))

module _ (shared : Shared) (script : Script) (number upto : ℕ) where
  -- after one thing done
  does-below : (old new : Stand) → DoesOneCall shared script number upto old new → RunsRequestBelow upto old.client → RunsRequestBelow upto new.client
  does-below old new (inl change) below = none-below upto new.client change.running
  does-below old new (inr (inl start)) below = one-below upto new.client _ start.running start.next.below
  does-below old new (inr (inr (inl visit))) below =
      one-below upto new.client visit.after visit.after_is
      (subst (λ (r : ℕ). r < upto) (sym visit.visits.fed.request_is) (below visit.before visit.before_is))
  does-below old new (inr (inr (inr (inl finish)))) below = none-below upto new.client finish.running
  does-below old new (inr (inr (inr (inr carry)))) below = same-below upto old.client.running new.client.running carry.running below

  -- if the request that runs is below a bound, it is after one thing after another
  pub goes-below : (path : List Stand) (old new : Stand) → Goes shared script number upto old path new → RunsRequestBelow upto old.client
      → RunsRequestBelow upto new.client
  goes-below [] old new went below = subst (λ (s : Stand). RunsRequestBelow upto s.client) went below
  goes-below (next ∷ path) old new went below = goes-below path next new went.1 (does-below old next went.0.0 below)

  -- what runs is the first request without a reply
  pub first-below : (at : Stand) → KeepsClient shared script number at.hand at.client → (r : ℕ)
      → unanswered_in (requests_in at.client) (log_of_client at.client) ≡ Some r → r < upto → RunsRequestBelow upto at.client
  first-below at keeps r first low one is =
      let session = at.client.session in
      let runs = keeps.running one is in
      let count : replied_count session ≡ session.begun - 1 =
      ap (λ (b : Bool). if b then session.begun - 1 else session.begun) runs.turn.waits in
      let given : slice_get session.requests (session.begun - 1) ≡ Some r =
      ap (slice_get session.requests) (sym (ap (λ (s : SessionState). replied_count s) (sym keeps.at_end.state) ∙ count)) ∙ first in
      subst (λ (q : ℕ). q < upto) (same_Some r one.request (sym given ∙ runs.turn.last)) low
