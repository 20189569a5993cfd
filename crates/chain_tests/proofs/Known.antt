-- What a row of a test knows is among its events, before and after a call.
-- Used by `accept`, `commit`, `deliver`, `settle_wish`, `stop`.
use Rattle.std.proofs.Common.{◌≡◌, ℕ, List, [], ◌∷◌, ◌++◌, Contains, inl, inr, ◌⊎◌, Result, Ok, Err, IfOk, OnOk, OnErr, refl, sym, ap, subst}
use Rattle.std.proofs.lemmas.List.Elements.{Contains-append_cases}
use Rattle.weave_data.proofs.Members.{has_none, has_read}
use Rattle.vector_stamp.specs.declared.clock.Stamp.{Stamp}
use Rattle.vector_stamp.specs.Coherence.{AreCoherent}
use Rattle.graph_ops.specs.declared.op.Op.{Op}
use Rattle.weave_entries.specs.declared.store_log.StoreEntry.{StoreEntry}
use Rattle.weave_entries.specs.declared.verdict.Verdict.{Verdict}
use Rattle.weave_entries.specs.StoreReplay.{judged_by, commits_of}
use Rattle.backing_store.specs.Commits.{stamps_judged, stamps_kept, judged_entry}
use Rattle.oracle_chain.specs.Chain.{ReplicaChainView, stamps_known}
use Rattle.chain_tests.specs.Events.{AreEventsOf, KnowsEvents}

-- no stamp
pub none-of : (events : List Stamp) → AreEventsOf [] events
none-of events one none = absurd (has_none one none)

-- a stamp and others
pub with-one : (events : List Stamp) (first : Stamp) (others : List Stamp) → Contains events first → AreEventsOf others events → AreEventsOf (first ∷ others) events
with-one events first others has rest one h = elim (has_read first others one h) [
  | inl same ↦ subst (λ s. Contains events s) same has
  | inr more ↦ rest one more
]

-- each part of coherent stamps is coherent
abbrev pub PartLaw : Type 0
PartLaw = (stamps others : List Stamp) → AreCoherent others → ((stamp : Stamp) → Contains stamps stamp → Contains others stamp) → AreCoherent stamps

-- what is asked and what is known are coherent
pub asked-coherent : PartLaw → (events asked known : List Stamp) → AreEventsOf asked events → KnowsEvents events known → AreCoherent (asked ++ known)
asked-coherent part events asked known of-asked knows = part (asked ++ known) events knows.coherent (λ one h. elim (Contains-append_cases asked known one h) [
  | inl own ↦ of-asked one own
  | inr old ↦ knows.of_judge one old
])

-- what is known after a call
pub still-knows : (events known new asked : List Stamp) → KnowsEvents events known → AreEventsOf asked events → ((one : Stamp) → Contains new one → Contains known one ⊎ Contains asked one) → KnowsEvents events new
still-knows events known new asked knows of-asked from = record {
  coherent = knows.coherent;
  of_judge = λ one h. elim (from one h) [ inl old ↦ knows.of_judge one old | inr own ↦ of-asked one own ];
}

-- what a chain knows after a call that brings these stamps
pub called-knows : (events : List Stamp) (chain new after : ReplicaChainView) (asked : List Stamp) → new ≡ after → ((one : Stamp) → Contains (stamps_known after.replicas) one → Contains (stamps_known chain.replicas) one ⊎ Contains asked one)
    → AreEventsOf asked events → KnowsEvents events (stamps_known chain.replicas) → KnowsEvents events (stamps_known new.replicas)
called-knows events chain new after asked is from of-asked knows =
    still-knows events (stamps_known chain.replicas) (stamps_known new.replicas) asked knows of-asked
    (λ one h. from one (subst (λ (v : ReplicaChainView). Contains (stamps_known v.replicas) one) is h))

-- and after one that may have been out of memory
pub either-knows : {A E : Type 0} (result : Result A E) (events : List Stamp) (chain new after : ReplicaChainView) (asked : List Stamp) → OnOk result (new ≡ after) → OnErr result (new ≡ chain)
    → ((one : Stamp) → Contains (stamps_known after.replicas) one → Contains (stamps_known chain.replicas) one ⊎ Contains asked one)
    → AreEventsOf asked events → KnowsEvents events (stamps_known chain.replicas) → KnowsEvents events (stamps_known new.replicas)
either-knows (Ok answer) events chain new after asked is as_before from of-asked knows = called-knows events chain new after asked is from of-asked knows
either-knows (Err fault) events chain new after asked is as_before from of-asked knows = subst (λ (v : ReplicaChainView). KnowsEvents events (stamps_known v.replicas)) (sym as_before) knows

-- Commits

-- the stamp of one more entry is the last one
judged-push : (log : List StoreEntry) (entry : StoreEntry) → stamps_judged (log ++ entry ∷ []) ≡ stamps_judged log ++ (judged_by entry.author entry.deed).stamp ∷ []
judged-push [] entry = refl
judged-push (first ∷ rest) entry = ap (λ (stamps : List Stamp). (judged_by first.author first.deed).stamp ∷ stamps) (judged-push rest entry)

module _ (events : List Stamp) (stamp : Stamp) (log : List StoreEntry) (has : Contains events stamp) (judged : AreEventsOf (stamps_judged log) events) where
  -- before a commit: the stamp, those that the store keeps and those that the judge knows
  pub commit-coherent : PartLaw → (known : List Stamp) → ((one : Stamp) → Contains (stamps_kept (commits_of log)) one → Contains (stamps_judged log) one) → KnowsEvents events known
      → AreCoherent (stamp ∷ stamps_kept (commits_of log) ++ known)
  commit-coherent part known kept knows =
      asked-coherent part events (stamp ∷ stamps_kept (commits_of log)) known
      (with-one events stamp (stamps_kept (commits_of log)) has (λ one h. judged one (kept one h))) knows

  one-more : (entry : StoreEntry) → (judged_by entry.author entry.deed).stamp ≡ stamp → AreEventsOf (stamps_judged (log ++ entry ∷ [])) events
  one-more entry is one h =
      elim (Contains-append_cases (stamps_judged log) ((judged_by entry.author entry.deed).stamp ∷ []) one (subst (λ (s : List Stamp). Contains s one) (judged-push log entry) h)) [
        | inl before ↦ judged one before
        | inr last ↦ elim (has_read (judged_by entry.author entry.deed).stamp [] one last) [
          | inl same ↦ subst (λ (s : Stamp). Contains events s) same (subst (λ (s : Stamp). Contains events s) (sym is) has)
          | inr none ↦ absurd (has_none one none)
        ]
      ]

  -- after it: what the store has judged
  pub store-after : {E : Type 0} (author request : ℕ) (ops : List Op) (new : List StoreEntry) (result : Result Verdict E)
      → IfOk result (λ verdict. new ≡ log ++ judged_entry author request stamp ops log verdict ∷ []) → OnErr result (new ≡ log) → AreEventsOf (stamps_judged new) events
  store-after author request ops new (Ok verdict) is same one h = one-more (judged_entry author request stamp ops log verdict) refl one (subst (λ (entries : List StoreEntry). Contains (stamps_judged entries) one) is h)
  store-after author request ops new (Err error) is same one h = judged one (subst (λ (entries : List StoreEntry). Contains (stamps_judged entries) one) same h)
