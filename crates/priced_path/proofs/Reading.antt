-- What the program keeps of a read.
-- Used by `keep_all` and Pricing.
use Rattle.std.proofs.Common.{append-nil, append_assoc, drop, length, ◌+◌, ◌≡◌, ◌≤◌, ◌++◌, ℕ, Bool, true, false, not, ◌||◌, refl, sym, ap, subst, ◌∙◌, List, [], ◌∷◌, Option, Some, None, IsTrue, ◌⊎◌, inl, inr, option_to_list, if◌then◌else◌}
use Rattle.std.proofs.Math.ListN.{drop_of_length-le}
use Rattle.std.specs.List.{cons_option}
use Rattle.std.specs.Map.{keys_of}
use Rattle.weave_data.specs.Names.{same_name, one_name}
use Rattle.weave_data.specs.declared.name.Name.{Name}
use Rattle.weave_data.proofs.Members.{find_has}
use Rattle.graph_ops.specs.Mentions.{is_among}
use Rattle.graph_ops.specs.Operations.{State}
use Rattle.graph_ops.specs.declared.record.Edge.{Edge}
use Rattle.graph_ops.proofs.Vertices.{same_name-refl}
use Rattle.program_defs.specs.Prices.{priced_edge, priced_edges, HasEdge}
use Rattle.program_defs.proofs.PricedEdges.{edge-within}
use Rattle.program_defs.proofs.RowSteps.{passing_in}
use Rattle.program_defs.specs.Visits.{graph_read, next_visit}
use Rattle.program_defs.specs.declared.program.Program.{Program}
use Rattle.priced_path.specs.Kept.{HasKept, as_kept, ArePriced, AreEdgesOf}
use Rattle.priced_path.specs.declared.kept_edge.KeptEdge.{KeptEdge}
use Rattle.priced_path.proofs.RowsMade.{kept-left, kept-right, kept-cases}

-- the kept edges of what was read have prices within the range
pub kept-priced : (reads : List (Name × State)) (key : Name) (edges : List KeptEdge) → AreEdgesOf (graph_read reads) key edges → ArePriced edges
kept-priced reads key edges are v w price h = edge-within key (graph_read reads v) w price ((are v w price).0 h)

-- The next vertex wasn't read

not-false : (b : Bool) → IsTrue (not b) → b ≡ false
not-false true h = cc
not-false false h = refl

neither : (a b : Bool) → a || b ≡ false → (a ≡ false) × (b ≡ false)
neither true b e = cc
neither false b e = (refl, e)

-- the next visit is of a vertex that wasn't read
pub next-unread : (reads : List (Name × State)) (program : Program) (v : Name) → next_visit reads program ≡ Some v → is_among (keys_of reads) v ≡ false
next-unread reads program v e = not-false _ ((find_has (λ w. not (is_among (keys_of reads) w)) _ v e).1)

-- what wasn't read is absent
unread-absent : (reads : List (Name × State)) (v : Name) → is_among (keys_of reads) v ≡ false → graph_read reads v ≡ None
unread-absent [] v h = refl
unread-absent (read ∷ reads) v h =
    let n = neither (same_name read.0 v) (is_among (keys_of reads) v) h in
    ap (λ b. if b then read.1 else graph_read reads v) n.0 ∙ unread-absent reads v n.1

-- The kept edges after a read

kept-of : (v u w : Name) (price : ℕ) (edges : List (Name × ℕ)) → HasKept (as_kept v edges) u w price → (v ≡ u) × HasEdge edges w price
kept-of v u w price [] h = absurd h
kept-of v u w price (edge ∷ rest) (inl here) = (here.0, inl (here.1, here.2))
kept-of v u w price (edge ∷ rest) (inr there) = let m = kept-of v u w price rest there in (m.0, inr m.1)

of-kept : (v w : Name) (price : ℕ) (edges : List (Name × ℕ)) → HasEdge edges w price → HasKept (as_kept v edges) v w price
of-kept v w price [] h = absurd h
of-kept v w price (edge ∷ rest) (inl here) = inl (refl, here.0, here.1)
of-kept v w price (edge ∷ rest) (inr there) = inr (of-kept v w price rest there)

-- before the first read nothing is kept
pub kept-none : (key : Name) → AreEdgesOf (graph_read []) key []
kept-none key v w price = (λ h. h, λ h. h)

-- a read of a new vertex adds its passing edges
pub kept-more : (reads : List (Name × State)) (key v : Name) (state : State) (old new : List KeptEdge) → is_among (keys_of reads) v ≡ false → new ≡ old ++ as_kept v (priced_edges key state)
    → AreEdgesOf (graph_read reads) key old → AreEdgesOf (graph_read ((v, state) ∷ reads)) key new
kept-more reads key v state old new unread is are u w price = (there, back (same_name v u) refl)
  where
    there : HasKept new u w price → HasEdge (priced_edges key (graph_read ((v, state) ∷ reads) u)) w price
    there h = split (kept-cases old (as_kept v (priced_edges key state)) u w price (subst (λ (es : List KeptEdge). HasKept es u w price) is h))
      where
        before : (b : Bool) → same_name v u ≡ b → HasEdge (priced_edges key (graph_read reads u)) w price → HasEdge (priced_edges key (if b then state else graph_read reads u)) w price
        before true same has =
            let none : graph_read reads u ≡ None = subst (λ x. graph_read reads x ≡ None) (one_name v u same) (unread-absent reads v unread) in
            absurd (subst (λ (s : State). HasEdge (priced_edges key s) w price) none has)
        before false other has = has

        split : HasKept old u w price ⊎ HasKept (as_kept v (priced_edges key state)) u w price → HasEdge (priced_edges key (graph_read ((v, state) ∷ reads) u)) w price
        split (inl kept) = before (same_name v u) refl ((are u w price).0 kept)
        split (inr added) =
            let m = kept-of v u w price (priced_edges key state) added in
            let same : same_name v u ≡ true = subst (λ x. same_name v x ≡ true) m.0 (same_name-refl v) in
            subst (λ (b : Bool). HasEdge (priced_edges key (if b then state else graph_read reads u)) w price) (sym same) m.1

    back : (b : Bool) → same_name v u ≡ b → HasEdge (priced_edges key (if b then state else graph_read reads u)) w price → HasKept new u w price
    back true same has =
        let added = kept-right old (as_kept v (priced_edges key state)) v w price (of-kept v w price (priced_edges key state) has) in
        subst (λ (es : List KeptEdge). HasKept es u w price) (sym is) (subst (λ x. HasKept (old ++ as_kept v (priced_edges key state)) x w price) (one_name v u same) added)
    back false other has =
        subst (λ (es : List KeptEdge). HasKept es u w price) (sym is) (kept-left old (as_kept v (priced_edges key state)) u w price ((are u w price).1 has))

-- The edges of a record, one after another

-- an edge that was kept if it passes, and then the rest
kept-one : (v : Name) (edges : List KeptEdge) (one : Option (Name × ℕ)) (rest : List (Name × ℕ)) → (edges ++ as_kept v (option_to_list one)) ++ as_kept v rest ≡ edges ++ as_kept v (cons_option one rest)
kept-one v edges None rest = ap (λ (es : List KeptEdge). es ++ as_kept v rest) (append-nil edges)
kept-one v edges (Some edge) rest = append_assoc edges (as_kept v (edge ∷ [])) (as_kept v rest)

-- one edge more
pub keep-next : (v key : Name) (pairs : List (Name × Edge)) (i : ℕ) (one : Name × Edge) (edges new whole : List KeptEdge) → drop i pairs ≡ one ∷ drop (i + 1) pairs
    → new ≡ edges ++ as_kept v (option_to_list (priced_edge key one.1)) → edges ++ as_kept v (passing_in key (drop i pairs)) ≡ whole
    → new ++ as_kept v (passing_in key (drop (i + 1) pairs)) ≡ whole
keep-next v key pairs i one edges new whole next is so_far =
    ap (λ (es : List KeptEdge). es ++ as_kept v (passing_in key (drop (i + 1) pairs))) is
    ∙ kept-one v edges (priced_edge key one.1) (passing_in key (drop (i + 1) pairs))
    ∙ ap (λ (ps : List (Name × Edge)). edges ++ as_kept v (passing_in key ps)) (sym next)
    ∙ so_far

-- no edge is left
pub keep-end : (v key : Name) (pairs : List (Name × Edge)) (i : ℕ) (edges whole : List KeptEdge) → length pairs ≤ i → edges ++ as_kept v (passing_in key (drop i pairs)) ≡ whole → edges ≡ whole
keep-end v key pairs i edges whole past so_far =
    sym (append-nil edges) ∙ ap (λ (ps : List (Name × Edge)). edges ++ as_kept v (passing_in key ps)) (sym (drop_of_length-le pairs past)) ∙ so_far
