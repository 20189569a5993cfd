-- The list over parents, from its end to its start.
-- Used by `lead_back`.
use Rattle.std.proofs.Common.{append-nil, append_assoc, ◌≡◌, ℕ, zero, suc, ◌+◌, ◌<◌, ◌≤◌, true, false, List, [], ◌∷◌, ◌++◌, reverse, IsTrue, refl, sym, ap, subst, ◌∙◌, arith}
use Rattle.std.proofs.lemmas.List.{reverse-append}
use Rattle.std.proofs.lemmas.Bool.{both_ways, or_left}
use Rattle.weave_data.specs.Names.{same_name, one_name}
use Rattle.weave_data.specs.declared.name.Name.{Name}
use Rattle.graph_ops.specs.Mentions.{is_among}
use Rattle.graph_ops.specs.PlainGraph.{PlainGraph}
use Rattle.graph_ops.proofs.Vertices.{same_name-refl}
use Rattle.program_defs.specs.declared.passing.Passing.{Passing}
use Rattle.program_defs.specs.Ranks.{IsRankedAt, trace}
use Rattle.program_defs.specs.Visits.{levels_to, through_level}
use Rattle.program_defs.proofs.Leads.{no-nearer, start-only}

module _ (graph : PlainGraph) (pass : Passing) (from : Name) (parent : Name → Name) (rank : Name → ℕ) (d : ℕ) (to : Name) where
  -- the names so far are those of the list after this vertex, the last one first, over that many edges
  pub record IsOnTheWayBack (v : Name) (back : List Name) (count : ℕ) : Type 0 where
    pub level : ℕ
    pub left : level + count ≡ d
    pub there : IsTrue (is_among (levels_to level graph pass from).level v)
    pub is : trace parent d to ≡ trace parent level v ++ reverse back

  back-begins : IsTrue (is_among (levels_to d graph pass from).level to) → IsOnTheWayBack to [] 0
  back-begins h = record { level = d; left = omega arith; there = h; is = sym (append-nil (trace parent d to)) }

  back-goes-on : ((k : ℕ) → k < d → IsRankedAt k graph pass from parent rank) → (v : Name) (back : List Name) (count : ℕ) → same_name v from ≡ false → IsOnTheWayBack v back count → IsOnTheWayBack (parent v) (back ++ v ∷ []) (count + 1)
  back-goes-on ranked v back count other way = at way.level way.left way.there way.is
    where
      at : (k : ℕ) → k + count ≡ d → IsTrue (is_among (levels_to k graph pass from).level v) → trace parent d to ≡ trace parent k v ++ reverse back → IsOnTheWayBack (parent v) (back ++ v ∷ []) (count + 1)
      at zero sum h is = absurd (both_ways _ other (subst (λ u. IsTrue (same_name v u)) (start-only graph pass from v h) (same_name-refl v)))
      at (suc k) sum h is = record {
        level = k;
        left = omega (arith, sum);
        there = (ranked k (omega (arith, sum))).before v h;
        is = is ∙ append_assoc (trace parent k (parent v)) (v ∷ []) (reverse back) ∙ ap (λ xs. trace parent k (parent v) ++ xs) (sym (reverse-append back (v ∷ [])));
      }

  back-at : (k : ℕ) (v : Name) (back : List Name) → k ≡ 0 → trace parent d to ≡ trace parent k v ++ reverse back → reverse (back ++ v ∷ []) ≡ trace parent d to
  back-at zero v back e is = reverse-append back (v ∷ []) ∙ sym is
  back-at (suc k) v back e is = absurd (omega (arith, e))

  -- the list that was gone back over, with the last vertex
  pub record HasLedBack (v : Name) (walk : List Name) (count : ℕ) : Type 0 where
    pub back : List Name
    pub walk_is : walk ≡ back ++ v ∷ []
    pub way : IsOnTheWayBack v back count

  -- the way back begins at the end alone, over no edge, if the end is in level d
  pub led-begins : IsTrue (is_among (levels_to d graph pass from).level to) → HasLedBack to (to ∷ []) 0
  led-begins h = record { back = []; walk_is = refl; way = back-begins h }

  -- if the levels to d are ranked, the way back goes on from a vertex other than the start to its parent, one edge more
  pub led-on : ((k : ℕ) → k < d → IsRankedAt k graph pass from parent rank) → (v : Name) (walk : List Name) (count : ℕ) → same_name v from ≡ false → HasLedBack v walk count → HasLedBack (parent v) (walk ++ parent v ∷ []) (count + 1)
  led-on ranked v walk count other led = record { back = led.back ++ v ∷ []; walk_is = ap (λ xs. xs ++ parent v ∷ []) led.walk_is; way = back-goes-on ranked v led.back count other led.way }

  -- the way back that has come to the start is, turned round, the list over parents to the end
  pub led-ends : (v : Name) (walk : List Name) (count : ℕ) → same_name v from ≡ true → HasLedBack v walk count → reverse walk ≡ trace parent d to
  led-ends v walk count same led = ap reverse led.walk_is ∙ back-at led.way.level v led.back (none led.way.level led.way.there) led.way.is
    where
      none : (k : ℕ) → IsTrue (is_among (levels_to k graph pass from).level v) → k ≡ 0
      none k h =
          let first : IsTrue (is_among (through_level 0 graph pass from) v) = subst (λ u. IsTrue (is_among (from ∷ []) u)) (sym (one_name v from same)) (or_left _ _ (same_name-refl from)) in
          let less = no-nearer graph pass from k v h 0 first in
          omega (arith, less)

  -- at level 0 there is nothing more
  pub led-through : (v : Name) (walk : List Name) (count : ℕ) → d ≤ count → HasLedBack v walk count → reverse walk ≡ trace parent d to
  led-through v walk count le led = ap reverse led.walk_is ∙ (let sum = led.way.left in back-at led.way.level v led.back (omega (arith, le, sum)) led.way.is)
