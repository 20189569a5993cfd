-- A chain settles as a judge does.
-- Used by `a_chain_settles_as_a_judge` and Knowing.
use Rattle.std.proofs.Common.{◌≡◌, ℕ, ◌<◌, List, [], ◌∷◌, ◌++◌, slice_get, Option, Some, None, IsTrue, Contains, inl, inr, refl, sym, ap, subst, ◌∙◌, append-nil}
use Rattle.std.proofs.lemmas.List.Elements.{Contains-push_cases}
use Rattle.weave_data.proofs.Members.{has_none, has_head}
use Rattle.vector_stamp.specs.Settling.{refused_place, additions, places_of, pairs_of}
use Rattle.oracle_chain.specs.declared.ask.Ask.{Ask}
use Rattle.oracle_chain.specs.declared.ask.Outcome.TheVariants.{Settled, Precedes}
use Rattle.oracle_chain.specs.Replay.{outcome_for, pairs_for, outcome_by, pairs_put, pairs_after, outcomes_of}
use Rattle.oracle_chain.specs.Chain.{ReplicaView, ReplicaChainView, asks_of, live_count, head_number, head_asks, tail_asks, pairs_of_chain}
use Rattle.oracle_chain.specs.Calls.{with_ask_at, levelled, after_accept, after_settle, position_accepted, Call, after_calls}
use Rattle.oracle_chain.specs.IsReplicaChain.{IsPrefixOf, IsReplicaChain, MayAsk, MayCallAll}
use Rattle.oracle_chain.specs.Judging.{GivesOutcome, SettlesAs}
use Rattle.oracle_chain.proofs.Begins.{get-after}
use Rattle.oracle_chain.proofs.Places.{live-within, head-first, tail-last, some-head, some-tail}
use Rattle.oracle_chain.proofs.Growing.{level-here, level-live, level-from, ask-from}
use Rattle.oracle_chain.proofs.Asking.{PartsAreCoherent, IsAskOf, NoOthers, known-from, stay-known}
use Rattle.oracle_chain.proofs.Keeping.{settle-keeps}
use Rattle.oracle_chain.proofs.Replaying.{pairs-append, outcome-is}
use Rattle.oracle_chain.proofs.Giving.{judge-keeps-tail-pairs}

-- if all live replicas have one list, so have head and tail
level-head : (list : List Ask) (rs : List ReplicaView) → 0 < live_count (levelled list rs) → head_asks (levelled list rs) ≡ list
level-head list rs some =
    let head = some-head (levelled list rs) some in
    let first = head-first (levelled list rs) head.0 head.1 in
    ap (λ o. asks_of (levelled list rs) o) head.1 ∙ level-here list rs head.0 (subst (λ b. IsTrue b) (level-live list rs head.0) first.0)

level-tail : (list : List Ask) (rs : List ReplicaView) → 0 < live_count (levelled list rs) → tail_asks (levelled list rs) ≡ list
level-tail list rs some =
    let tail = some-tail (levelled list rs) some in
    let last = tail-last (levelled list rs) tail.0 tail.1 in
    ap (λ o. asks_of (levelled list rs) o) tail.1 ∙ level-here list rs tail.0 (subst (λ b. IsTrue b) (level-live list rs tail.0) last.0)

module _ (part : PartsAreCoherent) (chain : ReplicaChainView) (ask : Ask) (is : IsReplicaChain chain) (may : MayAsk chain ask) where
  -- after a settle the head's list is the old one with the ask
  pub settled-head : head_asks (after_settle chain ask).replicas ≡ head_asks chain.replicas ++ ask ∷ []
  settled-head = level-head (head_asks chain.replicas ++ ask ∷ []) (after_accept chain ask).replicas (settle-keeps part chain is ask may).is_chain.some_live

  -- and so is the tail's
  pub settled-tail : tail_asks (after_settle chain ask).replicas ≡ head_asks chain.replicas ++ ask ∷ []
  settled-tail = level-tail (head_asks chain.replicas ++ ask ∷ []) (after_accept chain ask).replicas (settle-keeps part chain is ask may).is_chain.some_live

  -- the tail gives what an oracle with the head's pairs answers
  pub settled-gives : GivesOutcome (after_settle chain ask) (position_accepted chain) ask (outcome_by (pairs_of_chain chain) ask)
  settled-gives = record {
    asked = ap (λ xs. slice_get xs (position_accepted chain)) settled-tail ∙ get-after (head_asks chain.replicas) (ask ∷ []);
    given = ap (λ xs. slice_get (outcomes_of xs) (position_accepted chain)) settled-tail ∙ outcome-is (head_asks chain.replicas) [] ask;
  }

  -- the judge's pairs are then the old ones and what such an oracle adds
  pub settled-pairs : pairs_of_chain (after_settle chain ask) ≡ pairs_of_chain chain ++ pairs_put (pairs_of_chain chain) ask
  settled-pairs = ap pairs_after settled-head ∙ pairs-append [] (head_asks chain.replicas) (ask ∷ [])

  -- only the ask is new after it was accepted
  pub accept-from : (o : Option ℕ) → head_number chain.replicas ≡ o → NoOthers chain.replicas (with_ask_at chain.replicas o ask) (ask ∷ [])
  accept-from None e j one h = inr (j, h)
  accept-from (Some head) e j one h = elim (ask-from chain.replicas head ask (live-within chain.replicas head (head-first chain.replicas head e).0) j one h) [
    | inl new ↦ inl (subst (λ (a : Ask). Contains (ask ∷ []) a) (sym new) (has_head ask []))
    | inr old ↦ inr (j, old)
  ]

  head-from : (o : Option ℕ) (one : Ask) → Contains (asks_of chain.replicas o) one → IsAskOf chain.replicas one
  head-from None one h = absurd (has_none one h)
  head-from (Some head) one h = (head, h)

  -- and after it was settled
  pub settle-from : NoOthers chain.replicas (after_settle chain ask).replicas (ask ∷ [])
  settle-from j one h = elim (level-from (head_asks chain.replicas ++ ask ∷ []) (after_accept chain ask).replicas j one h) [
    | inl listed ↦ elim (Contains-push_cases (head_asks chain.replicas) ask one listed) [
      | inl old ↦ inr (head-from (head_number chain.replicas) one old)
      | inr new ↦ inl (subst (λ (a : Ask). Contains (ask ∷ []) a) new (has_head ask []))
    ]
    | inr mid ↦ accept-from (head_number chain.replicas) refl j one mid
  ]

  -- each clause of a judge
  pub settles : SettlesAs chain ask (outcome_by (pairs_of_chain chain) ask) (after_settle chain ask)
  settles = record {
    given = settled-gives;
    permitted = λ places e. permitted-at (refused_place (pairs_of_chain chain) ask.earlier ask.later) places e;
    places = λ places e. places-at (refused_place (pairs_of_chain chain) ask.earlier ask.later) places e;
    pairs = λ places e. settled-pairs ∙ ap (λ ps. pairs_of_chain chain ++ ps) (pairs-at (refused_place (pairs_of_chain chain) ask.earlier ask.later) places e);
    refused = λ place e. refused-at (refused_place (pairs_of_chain chain) ask.earlier ask.later) place e;
    no_pair = λ place e. settled-pairs ∙ ap (λ ps. pairs_of_chain chain ++ ps) (none-at (refused_place (pairs_of_chain chain) ask.earlier ask.later) place e) ∙ append-nil (pairs_of_chain chain);
    known = known-from chain.replicas (after_settle chain ask).replicas ask settle-from;
    stay_known = stay-known chain.replicas (after_settle chain ask).replicas (settle-keeps part chain is ask may).grows;
  }
    where
      permitted-at : (o : Option ℕ) (places : List ℕ) → outcome_for o (additions ask.keep (pairs_of_chain chain) ask.earlier ask.later) ≡ Settled places → o ≡ None
      permitted-at None places e = refl
      permitted-at (Some place) places e = cc

      places-at : (o : Option ℕ) (places : List ℕ) → outcome_for o (additions ask.keep (pairs_of_chain chain) ask.earlier ask.later) ≡ Settled places → places ≡ places_of (additions ask.keep (pairs_of_chain chain) ask.earlier ask.later)
      places-at None places e = cc
      places-at (Some place) places e = cc

      pairs-at : (o : Option ℕ) (places : List ℕ) → outcome_for o (additions ask.keep (pairs_of_chain chain) ask.earlier ask.later) ≡ Settled places
          → pairs_for o (additions ask.keep (pairs_of_chain chain) ask.earlier ask.later) ask.later ≡ pairs_of (additions ask.keep (pairs_of_chain chain) ask.earlier ask.later) ask.later
      pairs-at None places e = refl
      pairs-at (Some place) places e = cc

      refused-at : (o : Option ℕ) (place : ℕ) → outcome_for o (additions ask.keep (pairs_of_chain chain) ask.earlier ask.later) ≡ Precedes place → o ≡ Some place
      refused-at None place e = cc
      refused-at (Some p) place e = cc

      none-at : (o : Option ℕ) (place : ℕ) → outcome_for o (additions ask.keep (pairs_of_chain chain) ask.earlier ask.later) ≡ Precedes place → pairs_for o (additions ask.keep (pairs_of_chain chain) ask.earlier ask.later) ask.later ≡ []
      none-at None place e = cc
      none-at (Some p) place e = refl

  -- the judge's pairs after a settle are among its pairs from then on, whatever is called, stops too
  pub settled-pairs-stay : (calls : List Call) → MayCallAll (after_settle chain ask) calls → IsPrefixOf (pairs_of_chain (after_settle chain ask)) (pairs_of_chain (after_calls (after_settle chain ask) calls))
  settled-pairs-stay calls mays =
      subst (λ xs. IsPrefixOf xs (pairs_of_chain (after_calls (after_settle chain ask) calls))) (ap pairs_after (settled-tail ∙ sym settled-head))
      (judge-keeps-tail-pairs part (after_settle chain ask) calls (settle-keeps part chain is ask may).is_chain mays)
