-- The stamps of a chain's pairs are known. It is a law of the trait of judges, hence a term that a contract cites: no
-- law of a function is at hand in it, and none of this crate's lemmas.
use Rattle.std.proofs.Common.{◌≡◌, ℕ, suc, Bool, true, false, cond, List, [], ◌∷◌, ◌++◌, length, Option, None, Some, Contains, inl, inr, sym, ap, subst}
use Rattle.std.specs.List.{flat_map}
use Rattle.std.proofs.lemmas.Bool.{cases_lt}
use Rattle.std.proofs.lemmas.List.{get_or_past}
use Rattle.std.proofs.lemmas.List.Elements.{Contains-get_or, Contains-append_cases}
use Rattle.weave_data.proofs.Members.{has_none, has_head, has_tail, has_read, has_flat}
use Rattle.vector_stamp.specs.declared.clock.Stamp.{Stamp}
use Rattle.vector_stamp.specs.Precedence.{GivenPair, precedes, JoinsEvents}
use Rattle.vector_stamp.specs.Settling.{refused_place, additions_from, additions, pairs_of}
use Rattle.oracle_chain.specs.declared.ask.Ask.{Ask}
use Rattle.oracle_chain.specs.Replay.{pairs_for, pairs_put, pairs_from, ask_stamps}
use Rattle.oracle_chain.specs.Chain.{ReplicaView, ReplicaChainView, replica_at, asks_at, asks_of, head_number, head_asks, stamps_known, pairs_of_chain, no_replica}

-- a pair that is added is of the later event and an earlier one
earlier-read : (place : ℕ) (pairs : List GivenPair) (events : List Stamp) (later a b : Stamp)
    → Contains (pairs_of (additions_from place pairs events later) later) (a, b) → Contains events a × (b ≡ later)
earlier-read place pairs [] later a b h = absurd (has_none (a, b) h)
earlier-read place pairs (event ∷ events) later a b h =
    at (precedes pairs event later) h (λ more g. earlier-read (suc place) more events later a b g)
  where
    at : (x : Bool)
        → Contains (pairs_of (cond x (additions_from (suc place) pairs events later)
        ((place, event) ∷ additions_from (suc place) (pairs ++ (event, later) ∷ []) events later)) later) (a, b)
        → ((more : List GivenPair) → Contains (pairs_of (additions_from (suc place) more events later) later) (a, b)
        → Contains events a × (b ≡ later))
        → Contains (event ∷ events) a × (b ≡ later)
    at true g rest = let r = rest pairs g in (has_tail event events a r.0, r.1)
    at false g rest = elim (has_read (event, later) (pairs_of (additions_from (suc place)
        (pairs ++ (event, later) ∷ []) events later) later) (a, b) g) [
          | inl same ↦ (
            subst (λ s. Contains (event ∷ events) s) (ap (λ (q : GivenPair). q.0) same) (has_head event events),
            sym (ap (λ (q : GivenPair). q.1) same),
          )
          | inr more ↦
              let r = rest (pairs ++ (event, later) ∷ []) more in
              (has_tail event events a r.0, r.1)
        ]

joined-put : (ask : Ask) (pairs : List GivenPair) (o : Option ℕ) (keep : Bool) (a b : Stamp)
    → Contains (pairs_for o (additions keep pairs ask.earlier ask.later) ask.later) (a, b)
    → Contains (ask_stamps ask) a × Contains (ask_stamps ask) b
joined-put ask pairs (Some place) keep a b h = absurd (has_none (a, b) h)
joined-put ask pairs None false a b h = absurd (has_none (a, b) h)
joined-put ask pairs None true a b h =
    let from = earlier-read 0 pairs ask.earlier ask.later a b h in (
      has_tail ask.later ask.earlier a from.0,
      subst (λ s. Contains (ask_stamps ask) s) (sym from.1) (has_head ask.later ask.earlier),
    )

-- the pairs of a list of asks join stamps of the asks
pub pairs-joined : (events : List Stamp) (pairs : List GivenPair) (asks : List Ask) → JoinsEvents events pairs
    → ((one : Ask) → Contains asks one → (s : Stamp) → Contains (ask_stamps one) s → Contains events s)
    → JoinsEvents events (pairs_from pairs asks)
pairs-joined events pairs [] joins has = joins
pairs-joined events pairs (ask ∷ asks) joins has =
    pairs-joined events (pairs ++ pairs_put pairs ask) asks
    (λ a b h. elim (Contains-append_cases pairs (pairs_put pairs ask) (a, b) h) [
      | inl old ↦ joins a b old
      | inr new ↦
          let refused = refused_place pairs ask.earlier ask.later in
          let both = joined-put ask pairs refused ask.keep a b new in
          (has ask (has_head ask asks) a both.0, has ask (has_head ask asks) b both.1)
    ])
    (λ one h. has one (has_tail ask asks one h))

-- each stamp of an ask of a list is known
pub known-has : (rs : List ReplicaView) (ask : Ask) (s : Stamp) → (i : ℕ) × Contains (asks_at rs i) ask
    → Contains (ask_stamps ask) s → Contains (stamps_known rs) s
known-has rs ask s of_list has =
    let i = of_list.0 in
    elim (cases_lt i (length rs)) [
      | inl within ↦ has_flat (λ (replica : ReplicaView). flat_map ask_stamps replica.asks) rs (replica_at rs i) s
          (Contains-get_or rs i no_replica within) (has_flat ask_stamps (asks_at rs i) ask s of_list.1 has)
      | inr past ↦
          let none = get_or_past rs i no_replica past in
          absurd (has_none ask (subst (λ (r : ReplicaView). Contains r.asks ask) none of_list.1))
    ]

-- the stamps of the judge's pairs are among those that it knows, of any state
pub chain_pairs_known : (chain : ReplicaChainView) → JoinsEvents (stamps_known chain.replicas) (pairs_of_chain chain)
chain_pairs_known chain =
    pairs-joined (stamps_known chain.replicas) [] (head_asks chain.replicas) (λ a b h. absurd (has_none (a, b) h))
    (λ one h s has. at (head_number chain.replicas) one h s has)
  where
    at : (o : Option ℕ) (one : Ask) → Contains (asks_of chain.replicas o) one → (s : Stamp)
        → Contains (ask_stamps one) s → Contains (stamps_known chain.replicas) s
    at None one h s has = absurd (has_none one h)
    at (Some head) one h s has = known-has chain.replicas one s (head, h) has
