-- A single oracle over a list of asks: what it answered stays, its pairs are never dropped and make no cycle, and each
-- outcome says what the pairs then say.
-- Used by `append`, `no_pair_is_ordered_both_ways`, `outcomes_are_a_single_oracles`, `tails_go_on`, AsJudge and
-- Giving.
use Rattle.std.proofs.Common.{◌≡◌, ◌≢◌, ℕ, zero, suc, Bool, true, false, List, [], ◌∷◌, ◌++◌, length, slice_get, Option, Some, None, IsTrue, Contains, inl, inr, refl, sym, ap, subst, ◌∙◌, append-nil}
use Rattle.std.proofs.lemmas.Option.{none-some, same_Some, get_or_from_slice_get}
use Rattle.std.proofs.lemmas.List.Elements.{Contains-append_left, All-contains}
use Rattle.std.proofs.lemmas.List.Quantifiers.{position-Some}
use Rattle.std.specs.List.{flat_map}
use Rattle.weave_data.proofs.Members.{has_none, has_head, has_tail, has_flat}
use Rattle.order_graph.specs.Building.{ends_of, EndsRead}
use Rattle.vector_stamp.specs.declared.clock.Stamp.{Stamp}
use Rattle.vector_stamp.specs.Order.{id_of}
use Rattle.vector_stamp.specs.Precedence.{GivenPair, precedes, AreAmong, IsAcyclic}
use Rattle.vector_stamp.specs.Settling.{refused_place, additions_from, additions, pairs_of}
use Rattle.oracle_chain.specs.declared.ask.Ask.{Ask}
use Rattle.oracle_chain.specs.declared.ask.Outcome.{Outcome}
use Rattle.oracle_chain.specs.Replay.{outcome_for, pairs_for, outcome_by, pairs_put, pairs_from, outcomes_from, pairs_after, outcomes_of, SaysBefore, ask_stamps}
use Rattle.oracle_chain.specs.IsReplicaChain.{IsPrefixOf, IsAsk}
use Rattle.oracle_chain.specs.Joining.{pairs-joined}
use Rattle.oracle_chain.proofs.Begins.{whole, onward, get-after}

-- the asks of a list one after another, then those of another one
pub pairs-append : (pairs : List GivenPair) (xs ys : List Ask) → pairs_from pairs (xs ++ ys) ≡ pairs_from (pairs_from pairs xs) ys
pairs-append pairs [] ys = refl
pairs-append pairs (x ∷ xs) ys = pairs-append (pairs ++ pairs_put pairs x) xs ys

-- and their outcomes
pub outcomes-append : (pairs : List GivenPair) (xs ys : List Ask) → outcomes_from pairs (xs ++ ys) ≡ outcomes_from pairs xs ++ outcomes_from (pairs_from pairs xs) ys
outcomes-append pairs [] ys = refl
outcomes-append pairs (x ∷ xs) ys = ap (λ rest. outcome_by pairs x ∷ rest) (outcomes-append (pairs ++ pairs_put pairs x) xs ys)

-- no pair is dropped
pub pairs-go-on : (pairs : List GivenPair) (xs : List Ask) → IsPrefixOf pairs (pairs_from pairs xs)
pairs-go-on pairs [] = whole pairs
pairs-go-on pairs (x ∷ xs) = onward pairs (pairs ++ pairs_put pairs x) (pairs_from (pairs ++ pairs_put pairs x) xs) (pairs_put pairs x, refl) (pairs-go-on (pairs ++ pairs_put pairs x) xs)

-- a list that goes on has pairs that do
pub pairs-on : (xs ys : List Ask) → IsPrefixOf xs ys → IsPrefixOf (pairs_after xs) (pairs_after ys)
pairs-on xs ys on = subst (λ zs. IsPrefixOf (pairs_after xs) zs) (sym (ap pairs_after on.1 ∙ pairs-append [] xs on.0)) (pairs-go-on (pairs_after xs) on.0)

-- and outcomes that do
pub outcomes-on : (xs ys : List Ask) → IsPrefixOf xs ys → IsPrefixOf (outcomes_of xs) (outcomes_of ys)
outcomes-on xs ys on = (outcomes_from (pairs_after xs) on.0, ap outcomes_of on.1 ∙ outcomes-append [] xs on.0)

-- there is an outcome for each ask
pub as-many-outcomes : (pairs : List GivenPair) (xs : List Ask) → length (outcomes_from pairs xs) ≡ length xs
as-many-outcomes pairs [] = refl
as-many-outcomes pairs (x ∷ xs) = ap suc (as-many-outcomes (pairs ++ pairs_put pairs x) xs)

-- the outcome at a position is what a single oracle answers to the ask there, after those before it
pub outcome-is : (before after : List Ask) (ask : Ask) → slice_get (outcomes_of (before ++ ask ∷ after)) (length before) ≡ Some (outcome_by (pairs_after before) ask)
outcome-is before after ask =
    ap (λ os. slice_get os (length before)) (outcomes-append [] before (ask ∷ after))
    ∙ ap (λ n. slice_get (outcomes_of before ++ outcomes_from (pairs_after before) (ask ∷ after)) n) (sym (as-many-outcomes [] before))
    ∙ get-after (outcomes_of before) (outcomes_from (pairs_after before) (ask ∷ after))

-- what stands before a position, and after it
pub split-at : (xs : List Ask) (position : ℕ) (ask : Ask) → slice_get xs position ≡ Some ask → (before : List Ask) × (after : List Ask) × (xs ≡ before ++ ask ∷ after) × (length before ≡ position)
split-at [] position ask h = absurd (none-some ask h)
split-at (x ∷ xs) zero ask h = ([], xs, ap (λ a. a ∷ xs) (same_Some x ask h), refl)
split-at (x ∷ xs) (suc position) ask h = let rest = split-at xs position ask h in (x ∷ rest.0, rest.1, ap (λ zs. x ∷ zs) rest.2, ap suc rest.3)

-- what the oracle of stamps promises, as premises (laws of the crate of stamps)
pub record SettleLaws : Type 0 where
  pub all_precede : (pairs : List GivenPair) (earlier : List Stamp) (later event : Stamp) → Contains earlier event
      → IsTrue (precedes (pairs ++ pairs_of (additions_from 0 pairs earlier later) later) event later)
  pub grows : (pairs others : List GivenPair) → AreAmong pairs others → (a b : Stamp) → IsTrue (precedes pairs a b) → IsTrue (precedes others a b)
  pub at_first : IsAcyclic []
  pub settled : (pairs : List GivenPair) (earlier : List Stamp) (later : Stamp) → IsAcyclic pairs
      → ((event : Stamp) → Contains earlier event → event ≢ later) → refused_place pairs earlier later ≡ None
      → IsAcyclic (pairs ++ pairs_of (additions_from 0 pairs earlier later) later)
  pub transitive : (pairs : List GivenPair) (a b c : Stamp) → IsTrue (precedes pairs a b) → IsTrue (precedes pairs b c) → IsTrue (precedes pairs a c)

-- more pairs at the end: more precedence
pub precedes-on : SettleLaws → (pairs others : List GivenPair) → IsPrefixOf pairs others → (a b : Stamp) → IsTrue (precedes pairs a b) → IsTrue (precedes others a b)
precedes-on laws pairs others on = laws.grows pairs others (λ a b h. subst (λ ps. Contains ps (a, b)) (sym on.1) (Contains-append_left pairs on.0 (a, b) h))

-- an ask's later event is none of its earlier ones
others-of : (ask : Ask) → IsAsk ask → (event : Stamp) → Contains ask.earlier event → event ≢ ask.later
others-of ask is event has same = All-contains (λ e. id_of e ≢ id_of ask.later) ask.earlier event is.other_ids has (ap id_of same)

module _ (laws : SettleLaws) where
  acyclic-put : (pairs : List GivenPair) (ask : Ask) → IsAsk ask → IsAcyclic pairs → (o : Option ℕ) → refused_place pairs ask.earlier ask.later ≡ o → (keep : Bool) → IsAcyclic (pairs ++ pairs_for o (additions keep pairs ask.earlier ask.later) ask.later)
  acyclic-put pairs ask is none (Some place) e keep = subst (λ ps. IsAcyclic ps) (sym (append-nil pairs)) none
  acyclic-put pairs ask is none None e true = laws.settled pairs ask.earlier ask.later none (others-of ask is) e
  acyclic-put pairs ask is none None e false = subst (λ ps. IsAcyclic ps) (sym (append-nil pairs)) none

  acyclic-from : (pairs : List GivenPair) (asks : List Ask) → ((ask : Ask) → Contains asks ask → IsAsk ask) → IsAcyclic pairs → IsAcyclic (pairs_from pairs asks)
  acyclic-from pairs [] are none = none
  acyclic-from pairs (ask ∷ asks) are none =
      acyclic-from (pairs ++ pairs_put pairs ask) asks (λ one h. are one (has_tail ask asks one h))
      (acyclic-put pairs ask (are ask (has_head ask asks)) none (refused_place pairs ask.earlier ask.later) refl ask.keep)

  -- the pairs make no cycle
  pub acyclic-after-asks : (asks : List Ask) → ((ask : Ask) → Contains asks ask → IsAsk ask) → IsAcyclic (pairs_after asks)
  acyclic-after-asks asks are = acyclic-from [] asks are laws.at_first

  says-put : (pairs : List GivenPair) (ask : Ask) (a b : Stamp) (o : Option ℕ) → refused_place pairs ask.earlier ask.later ≡ o → (keep : Bool) → ask.keep ≡ keep
      → SaysBefore ask (outcome_for o (additions keep pairs ask.earlier ask.later)) a b → IsTrue (precedes (pairs ++ pairs_for o (additions keep pairs ask.earlier ask.later) ask.later) a b)
  says-put pairs ask a b (Some place) e keep is-keep says =
      let passes = position-Some (precedes pairs ask.later) ask.earlier place b e in
      let here = get_or_from_slice_get ask.earlier place b b says.1 in
      let before : IsTrue (precedes pairs ask.later b) = subst (λ s. IsTrue (precedes pairs ask.later s)) here passes.1 in
      subst (λ ps. IsTrue (precedes ps a b)) (sym (append-nil pairs)) (subst (λ s. IsTrue (precedes pairs s b)) (sym says.0) before)
  says-put pairs ask a b None e true is-keep says =
      subst (λ s. IsTrue (precedes (pairs ++ pairs_of (additions_from 0 pairs ask.earlier ask.later) ask.later) a s)) (sym says.2) (laws.all_precede pairs ask.earlier ask.later a says.1)
  says-put pairs ask a b None e false is-keep says = absurd (not-both (sym is-keep ∙ says.0))
    where
      not-both : false ≡ true → ⊥
      not-both h = cc

  -- what an outcome says the pairs say from then on
  pub says-precedes : (pairs : List GivenPair) (ask : Ask) (a b : Stamp) → SaysBefore ask (outcome_by pairs ask) a b → IsTrue (precedes (pairs ++ pairs_put pairs ask) a b)
  says-precedes pairs ask a b says = says-put pairs ask a b (refused_place pairs ask.earlier ask.later) refl ask.keep refl says

  -- so also the pairs of each list that begins with the asks up to there
  pub said-in-list : (xs ys : List Ask) (position : ℕ) (ask : Ask) (outcome : Outcome) (a b : Stamp) → IsPrefixOf xs ys → slice_get xs position ≡ Some ask → slice_get (outcomes_of xs) position ≡ Some outcome
      → SaysBefore ask outcome a b → IsTrue (precedes (pairs_after ys) a b)
  said-in-list xs ys position ask outcome a b on has given says =
      let parts = split-at xs position ask has in
      let is : outcome ≡ outcome_by (pairs_after parts.0) ask =
      same_Some outcome (outcome_by (pairs_after parts.0) ask) (sym given ∙ ap (λ zs. slice_get (outcomes_of zs) position) parts.2 ∙ ap (λ n. slice_get (outcomes_of (parts.0 ++ ask ∷ parts.1)) n) (sym parts.3) ∙ outcome-is parts.0 parts.1 ask) in
      let then = says-precedes (pairs_after parts.0) ask a b (subst (λ o. SaysBefore ask o a b) is says) in
      let upto : IsPrefixOf (pairs_after parts.0 ++ pairs_put (pairs_after parts.0) ask) (pairs_after xs) =
      subst (λ zs. IsPrefixOf (pairs_after parts.0 ++ pairs_put (pairs_after parts.0) ask) zs) (sym (ap pairs_after parts.2 ∙ pairs-append [] parts.0 (ask ∷ parts.1)))
      (pairs-go-on (pairs_after parts.0 ++ pairs_put (pairs_after parts.0) ask) parts.1) in
      precedes-on laws (pairs_after parts.0 ++ pairs_put (pairs_after parts.0) ask) (pairs_after ys)
      (onward (pairs_after parts.0 ++ pairs_put (pairs_after parts.0) ask) (pairs_after xs) (pairs_after ys) upto (pairs-on xs ys on)) a b then

-- the stamps of the pairs are stamps of the asks
pub ends-of-asks : EndsRead → (asks : List Ask) (s : Stamp) → Contains (ends_of (pairs_after asks)) s → Contains (flat_map ask_stamps asks) s
ends-of-asks read asks s h =
    let pair = read (pairs_after asks) s h in
    let joined = pairs-joined (flat_map ask_stamps asks) [] asks (λ a b g. absurd (has_none (a, b) g)) (λ one g t has. has_flat ask_stamps asks one t g has) pair.0.0 pair.0.1 pair.1 in
    elim pair.2 [
      | inl first ↦ subst (λ t. Contains (flat_map ask_stamps asks) t) first joined.0
      | inr second ↦ subst (λ t. Contains (flat_map ask_stamps asks) t) second joined.1
    ]
