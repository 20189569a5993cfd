-- Three parts that make vertices of their own.
-- Used by `create_three`.
use Rattle.std.proofs.Common.{◌≡◌, ◌≢◌, ℕ, zero, suc, true, false, List, [], ◌∷◌, None, refl, sym, ap, subst, ◌∙◌, arith}
use Rattle.std.specs.Prelude.{AllPairs}
use Rattle.std.proofs.lemmas.List.Elements.{All-push}
use Rattle.weave_data.specs.Names.{same_name}
use Rattle.weave_data.specs.declared.name.Name.{Name}
use Rattle.graph_ops.specs.declared.op.Op.{Op}
use Rattle.graph_ops.specs.declared.op.Op.TheVariants.{Create}
use Rattle.graph_ops.specs.declared.part.Part.{Part}
use Rattle.graph_ops.proofs.Vertices.{same_name-refl}
use Rattle.version_chain.specs.Chains.{ChainView, no_updates, IsNextUpdate}
use Rattle.version_graph.specs.Graphs.{Chains, chain_of, chain_or_new, AreNextUpdates}

-- a part that makes the vertex
pub record Makes (part : Part) (v : Name) : Type 0 where
  pub vertex : part.vertex ≡ v
  pub before : part.before ≡ 0
  pub ops : part.ops ≡ Create v ∷ []

differ : (a b : Name) (p q : Part) → Makes p a → Makes q b → same_name a b ≡ false → p.vertex ≢ q.vertex
differ a b p q makes other apart same =
    let names : a ≡ b = sym makes.vertex ∙ same ∙ other.vertex in
    let is : same_name a b ≡ true = ap (same_name a) (sym names) ∙ same_name-refl a in
    absurd cc

first : (chains : Chains) (p : Part) (a : Name) → Makes p a → chain_of chains a ≡ None → IsNextUpdate (chain_or_new (chain_of chains p.vertex)) p.before p.ops
first chains p a makes none =
    let new : chain_or_new (chain_of chains p.vertex) ≡ no_updates = ap (λ (v : Name). chain_or_new (chain_of chains v)) makes.vertex ∙ ap chain_or_new none in
    subst (λ (chain : ChainView). IsNextUpdate chain p.before p.ops) (sym new)
    (subst (λ (n : ℕ). IsNextUpdate no_updates n p.ops) (sym makes.before)
    (subst (λ (ops : List Op). IsNextUpdate no_updates 0 ops) (sym makes.ops)
    (record { count = refl; small = omega arith; passes = refl })))

-- three parts that make three different vertices, none of which has updates, are next updates
pub three_next : (chains : Chains) (p q r : Part) (a b c : Name) → Makes p a → Makes q b → Makes r c → same_name a b ≡ false → same_name a c ≡ false → same_name b c ≡ false
    → chain_of chains a ≡ None → chain_of chains b ≡ None → chain_of chains c ≡ None → AreNextUpdates chains (p ∷ q ∷ r ∷ [])
three_next chains p q r a b c of_p of_q of_r ab ac bc no_a no_b no_c = record {
  apart = pairs;
  next = All-push (λ (x : Part). IsNextUpdate (chain_or_new (chain_of chains x.vertex)) x.before x.ops) (p ∷ q ∷ []) r (All-push (λ (x : Part). IsNextUpdate (chain_or_new (chain_of chains x.vertex)) x.before x.ops) (p ∷ []) q (All-push (λ (x : Part). IsNextUpdate (chain_or_new (chain_of chains x.vertex)) x.before x.ops) [] p (λ k d below. absurd (omega (arith, below))) (first chains p a of_p no_a)) (first chains q b of_q no_b)) (first chains r c of_r no_c);
}
  where
    pairs : AllPairs (λ (one other : Part). one.vertex ≢ other.vertex) (p ∷ q ∷ r ∷ [])
    pairs zero zero d less below = absurd (omega (arith, less))
    pairs zero (suc zero) d less below = differ a b p q of_p of_q ab
    pairs zero (suc (suc zero)) d less below = differ a c p r of_p of_r ac
    pairs zero (suc (suc (suc j))) d less below = absurd (omega (arith, below))
    pairs (suc i) zero d less below = absurd (omega (arith, less))
    pairs (suc i) (suc zero) d less below = absurd (omega (arith, less))
    pairs (suc zero) (suc (suc zero)) d less below = differ b c q r of_q of_r bc
    pairs (suc (suc i)) (suc (suc zero)) d less below = absurd (omega (arith, less))
    pairs (suc i) (suc (suc (suc j))) d less below = absurd (omega (arith, below))
