-- What was given stays, and no two outcomes order one pair both ways.
-- Used by `a_chain_settles_as_a_judge`, `calls_keep_the_chain`, `no_pair_is_ordered_both_ways`, `tails_go_on` and
-- AsJudge.
use Rattle.std.proofs.Common.{◌≡◌, ℕ, zero, suc, ◌<◌, List, [], Option, Some, None, IsTrue, Contains, refl, sym, subst, ◌∙◌, arith}
use Rattle.weave_data.proofs.Members.{has_none}
use Rattle.vector_stamp.specs.declared.clock.Stamp.{Stamp}
use Rattle.vector_stamp.specs.Precedence.{precedes}
use Rattle.oracle_chain.specs.declared.ask.Ask.{Ask}
use Rattle.oracle_chain.specs.declared.ask.Outcome.{Outcome}
use Rattle.oracle_chain.specs.Replay.{pairs_after, outcomes_of, SaysBefore}
use Rattle.oracle_chain.specs.Chain.{ReplicaChainView, asks_at, asks_of, tail_number, head_asks, tail_asks, stamps_known, pairs_of_chain}
use Rattle.oracle_chain.specs.Calls.{new_replicas, new_chain, Call, after_calls}
use Rattle.oracle_chain.specs.IsReplicaChain.{IsPrefixOf, IsAsk, IsReplicaChain, MayCallAll}
use Rattle.oracle_chain.specs.Judging.{GivesOutcome}
use Rattle.oracle_chain.proofs.Begins.{whole, onward, get-on, same-on}
use Rattle.oracle_chain.proofs.Places.{some-head, some-tail, live-counted}
use Rattle.oracle_chain.proofs.Growing.{tail-begins-head}
use Rattle.oracle_chain.proofs.Asking.{PartsAreCoherent, known-read}
use Rattle.oracle_chain.proofs.Keeping.{calls-keep, tails-go-on}
use Rattle.oracle_chain.proofs.Replaying.{SettleLaws, pairs-on, outcomes-on, acyclic-after-asks, said-in-list}

-- A new chain

new-asks : (n i : ℕ) → asks_at (new_replicas n) i ≡ []
new-asks zero i = refl
new-asks (suc n) zero = refl
new-asks (suc n) (suc i) = new-asks n i

-- a new chain is one
pub new-is-chain : (n : ℕ) → 0 < n → IsReplicaChain (new_chain n)
new-is-chain zero some = absurd (omega (arith, some))
new-is-chain (suc n) some = record {
  some_live = live-counted (new_replicas (suc n)) 0 refl;
  ordered = λ i j below live-i live-j. same-on (asks_at (new_replicas (suc n)) j) (asks_at (new_replicas (suc n)) i) (new-asks (suc n) i ∙ sym (new-asks (suc n) j));
  sent = λ message h. absurd (has_none message h);
  kept = λ message h. absurd (has_none message h);
  asks = λ i ask h. absurd (has_none ask (subst (λ xs. Contains xs ask) (new-asks (suc n) i) h));
  coherent = record {
    homes = λ a h. absurd (none a h);
    one_of_id = λ a b h k e. absurd (none a h);
    by_ids = λ a b h k e f. absurd (none a h);
  };
}
  where
    none : (s : Stamp) → Contains (stamps_known (new_replicas (suc n))) s → ⊥
    none s h =
        let read = known-read (new_replicas (suc n)) s h in
        has_none read.0 (subst (λ xs. Contains xs read.0) (new-asks (suc n) read.1.0) read.1.1)

module _ (part : PartsAreCoherent) (chain : ReplicaChainView) (calls : List Call) (is : IsReplicaChain chain) (may : MayCallAll chain calls) where
  -- what a chain gives it gives from then on
  pub given-stays : (position : ℕ) (ask : Ask) (outcome : Outcome) → GivesOutcome chain position ask outcome → GivesOutcome (after_calls chain calls) position ask outcome
  given-stays position ask outcome gives =
      let on = tails-go-on part chain calls is may in
      record {
        asked = get-on (tail_asks chain.replicas) (tail_asks (after_calls chain calls).replicas) position ask on gives.asked;
        given = get-on (outcomes_of (tail_asks chain.replicas)) (outcomes_of (tail_asks (after_calls chain calls).replicas)) position outcome (outcomes-on (tail_asks chain.replicas) (tail_asks (after_calls chain calls).replicas) on) gives.given;
      }

  -- the pairs of a tail are pairs of each later one
  pub tail-pairs-stay : IsPrefixOf (pairs_after (tail_asks chain.replicas)) (pairs_after (tail_asks (after_calls chain calls).replicas))
  tail-pairs-stay = pairs-on (tail_asks chain.replicas) (tail_asks (after_calls chain calls).replicas) (tails-go-on part chain calls is may)

  -- what an outcome says, the pairs of each later tail say
  pub said-stays : SettleLaws → (position : ℕ) (ask : Ask) (outcome : Outcome) (a b : Stamp) → GivesOutcome chain position ask outcome → SaysBefore ask outcome a b
      → IsTrue (precedes (pairs_after (tail_asks (after_calls chain calls).replicas)) a b)
  said-stays laws position ask outcome a b gives says =
      said-in-list laws (tail_asks chain.replicas) (tail_asks (after_calls chain calls).replicas) position ask outcome a b (tails-go-on part chain calls is may) gives.asked gives.given says

-- the asks of a tail are asks
tail-are-asks : (chain : ReplicaChainView) → IsReplicaChain chain → (ask : Ask) → Contains (tail_asks chain.replicas) ask → IsAsk ask
tail-are-asks chain is ask h = at (tail_number chain.replicas) h
  where
    at : (o : Option ℕ) → Contains (asks_of chain.replicas o) ask → IsAsk ask
    at None g = absurd (has_none ask g)
    at (Some t) g = is.asks t ask g

-- no two outcomes, of any two times, order one pair both ways
pub no-two-orders : PartsAreCoherent → SettleLaws → (chain : ReplicaChainView) (calls : List Call) → IsReplicaChain chain → MayCallAll chain calls
    → (p q : ℕ) (first second : Ask) (one other : Outcome) (a b : Stamp) → GivesOutcome chain p first one → GivesOutcome (after_calls chain calls) q second other
    → SaysBefore first one a b → ¬ SaysBefore second other b a
no-two-orders part laws chain calls is may p q first second one other a b gives-one gives-other says back =
    let later = after_calls chain calls in
    let kept = calls-keep part chain calls is may in
    let forward = said-stays part chain calls is may laws p first one a b gives-one says in
    let backward = said-in-list laws (tail_asks later.replicas) (tail_asks later.replicas) q second other b a (whole (tail_asks later.replicas)) gives-other.asked gives-other.given back in
    acyclic-after-asks laws (tail_asks later.replicas) (tail-are-asks later kept.is_chain) a (laws.transitive (pairs_after (tail_asks later.replicas)) a b a forward backward)

-- the tail's list begins the head's
pub tail-in-head : (chain : ReplicaChainView) → IsReplicaChain chain → IsPrefixOf (tail_asks chain.replicas) (head_asks chain.replicas)
tail-in-head chain is =
    let head = some-head chain.replicas is.some_live in
    let tail = some-tail chain.replicas is.some_live in
    subst (λ o. IsPrefixOf (tail_asks chain.replicas) (asks_of chain.replicas o)) (sym head.1) (
    subst (λ o. IsPrefixOf (asks_of chain.replicas o) (asks_at chain.replicas head.0)) (sym tail.1) (
    tail-begins-head chain.replicas is.ordered head.0 tail.0 head.1 tail.1))

-- the pairs of a tail are among the judge's pairs from then on
pub judge-keeps-tail-pairs : PartsAreCoherent → (chain : ReplicaChainView) (calls : List Call) → IsReplicaChain chain → MayCallAll chain calls
    → IsPrefixOf (pairs_after (tail_asks chain.replicas)) (pairs_of_chain (after_calls chain calls))
judge-keeps-tail-pairs part chain calls is may =
    let later = after_calls chain calls in
    let kept = calls-keep part chain calls is may in
    pairs-on (tail_asks chain.replicas) (head_asks later.replicas)
    (onward (tail_asks chain.replicas) (tail_asks later.replicas) (head_asks later.replicas) (tails-go-on part chain calls is may) (tail-in-head later kept.is_chain))
