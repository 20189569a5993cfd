use Rattle.std.proofs.Common.{◌∷◌, List, Contains, subst}
use Rattle.vector_stamp.specs.declared.clock.Stamp.{Stamp}
use Rattle.backing_store.specs.Commits.{asked_at}
use Rattle.oracle_chain.specs.Chain.{stamps_known}
use Rattle.chain_tests.proofs.Known.{with-one, still-knows, commit-coherent, store-after}
use Rattle.chain_tests.proofs.store_row.StoreRow.commit.Goals as goal

pub commit-requires-clause-coherent : goal.commit-requires-clause-coherent
commit-requires-clause-coherent g c =
    let has = subst (λ (l : List Stamp). Contains l c.event-stamp.result) c.as_slice.ensures.value c.event-stamp.ensures in
    commit-coherent c.self.inside.events.items c.event-stamp.result c.self.inside.store has c.self.invariant.1 c.parts_and_unions_are_coherent.ensures.part (stamps_known c.self.inside.chain.replicas) (c.what_is_asked_is_kept.ensures.kept c.self.inside.store) c.self.invariant.0

pub invariant_of-self : goal.invariant_of-self
invariant_of-self g c =
    let has = subst (λ (l : List Stamp). Contains l c.event-stamp.result) c.as_slice.ensures.value c.event-stamp.ensures in
    let of = with-one c.self.inside.events.items c.event-stamp.result (asked_at c.self.inside.store c.event-stamp.result c.args.ops.now) has
    (λ one h. c.self.invariant.1 one (c.what_is_asked_is_kept.ensures.kept c.self.inside.store one (c.what_is_asked_is_kept.ensures.asked c.self.inside.store c.event-stamp.result one c.args.ops.now h))) in (
      still-knows c.self.inside.events.items (stamps_known c.self.inside.chain.replicas) (stamps_known c.commit.new.judge.replicas) (c.event-stamp.result ∷ asked_at c.self.inside.store c.event-stamp.result c.args.ops.now) c.self.invariant.0 of c.commit.ensures.known,
      store-after c.self.inside.events.items c.event-stamp.result c.self.inside.store has c.self.invariant.1 1 c.args.request c.args.ops.now c.commit.new.self c.commit.result c.commit.ensures.entry c.commit.ensures.store,
    )
