-- The tests of a priced answer's certificate as facts: each speaks of listed vertices and their passing edges. No
-- public contract names it: it is for proofs.
use Rattle.std.specs.Prelude.{ℕ, ◌+◌, ◌≡◌, ◌≤◌, IsTrue, false, List, [], ◌∷◌, map, reverse, Option, Some, None, is_some, if◌then◌else◌}
use Rattle.std.specs.Ordering.{is_le}
use Rattle.weave_data.specs.Names.{name_cmp, same_name}
use Rattle.weave_data.specs.declared.name.Name.{Name}
use Rattle.graph_ops.specs.PlainGraph.{PlainGraph}
use Rattle.program_defs.specs.declared.program.Bound.{Bound}
use Rattle.program_defs.specs.Prices.{priced_edges, HasEdge}
use Rattle.program_defs.specs.PricedAnswer.{bound_at}
use Rattle.program_defs.specs.Rising.{is_rising}

module _ (graph : PlainGraph) (key from : Name) (bounds : List Bound) where
  -- a passing edge from the first vertex meets the bound of the second: that bound is the first one's plus the price
  pub record Meets (u v : Name) : Type 0 where
    pub start : ℕ
    pub price : ℕ
    pub end : ℕ
    pub listed : bound_at bounds u ≡ Some start
    pub edge : HasEdge (priced_edges key (graph u)) v price
    pub target : bound_at bounds v ≡ Some end
    pub sum : end ≡ start + price

  -- it is the least name of these
  pub record IsLeastMeeting (u v : Name) : Type 0 where
    pub meets : Meets u v
    pub least : (other : Name) → Meets other v → IsTrue (is_le (name_cmp u other))

  -- from this vertex back to the start over the vertices before it, the last one first: by the least name at each turn
  abbrev pub GoesBack : Name → List Name → Type 0
  GoesBack v [] = from ≡ v
  GoesBack v (u ∷ before) = IsLeastMeeting u v × GoesBack u before

  -- a walk exactly if the target is listed; the total is then its bound, else 0
  abbrev pub HasWalkBack : Name → Option (List Name) → ℕ → Type 0
  HasWalkBack to None total = (bound_at bounds to ≡ None) × (total ≡ 0)
  HasWalkBack to (Some walk) total =
      (before : List Name) × (bound_at bounds to ≡ Some total) × (walk ≡ reverse (to ∷ before)) × GoesBack to before

  -- the tests of the bounds
  pub record AreCertified : Type 0 where
    pub rising : IsTrue (is_rising (map (λ (bound : Bound). bound.vertex) bounds))
    pub present : (v : Name) → IsTrue (is_some (bound_at bounds v)) → IsTrue (is_some (graph v))
    pub start : bound_at bounds from ≡ (if is_some (graph from) then Some 0 else None)
    pub onward : (u v : Name) (start price : ℕ) → bound_at bounds u ≡ Some start
        → HasEdge (priced_edges key (graph u)) v price → IsTrue (is_some (graph v))
        → (bound : ℕ) × (bound_at bounds v ≡ Some bound) × (bound ≤ start + price)
    pub met : (v : Name) → IsTrue (is_some (bound_at bounds v)) → same_name from v ≡ false → (u : Name) × Meets u v

  -- the tests
  pub record MeetsTests (to : Name) (walk : Option (List Name)) (total : ℕ) : Type 0 where
    pub certified : AreCertified
    pub led : HasWalkBack to walk total
