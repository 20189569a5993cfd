use Rattle.std.proofs.Common.{◌∷◌, ◌⊎◌, List, Contains, sym, subst, ◌∙◌}
use Rattle.vector_stamp.specs.declared.clock.Stamp.{Stamp}
use Rattle.oracle_chain.specs.Chain.{stamps_known}
use Rattle.oracle_chain.specs.IsReplicaChain.{MayAsk}
use Rattle.oracle_chain.proofs.judging.ReplicaChainJudge.settle.Goals as goal

pub settle_ask-requires : goal.settle_ask-requires
settle_ask-requires c =
    let same = c.from_vec-earlier.ensures ∙ c.in_ok-from_slice.ensures.items in
    subst (λ (l : List Stamp). MayAsk c.args.self.now (record { earlier = l; later = c.args.later; keep = c.args.keep })) (sym same)
    (record { is_ask = record { few = c.requires.few; other_ids = c.requires.other_ids }; coherent = c.requires.coherent })

pub returns-in-Settled-clause-known : goal.returns-in-Settled-clause-known
returns-in-Settled-clause-known c =
    let same = c.from_vec-earlier.ensures ∙ c.in_ok-from_slice.ensures.items in
    subst (λ (l : List Stamp). (stamp : Stamp) → Contains (stamps_known c.settle_ask.new.self.replicas) stamp → Contains (stamps_known c.args.self.now.replicas) stamp ⊎ Contains (c.args.later ∷ l) stamp) same c.in_ok-outcome.ensures.judged.known

pub returns-in-Precedes-clause-known : goal.returns-in-Precedes-clause-known
returns-in-Precedes-clause-known c =
    let same = c.from_vec-earlier.ensures ∙ c.in_ok-from_slice.ensures.items in
    subst (λ (l : List Stamp). (stamp : Stamp) → Contains (stamps_known c.settle_ask.new.self.replicas) stamp → Contains (stamps_known c.args.self.now.replicas) stamp ⊎ Contains (c.args.later ∷ l) stamp) same c.in_ok-outcome.ensures.judged.known
