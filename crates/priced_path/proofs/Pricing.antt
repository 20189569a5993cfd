-- The program after what its search and its kept edges became.
-- Used by `new`, `outcome`, `ready` and `see`.
use Rattle.std.proofs.Common.{◌≡◌, ◌++◌, ◌∷◌, [], sym, ap, subst, ◌∙◌, List, Some, is_some, Result, Ok, Err, IfOk}
use Rattle.std.specs.declared.alloc.AllocError.{AllocError}
use Rattle.std.proofs.lemmas.Option.{same_Some}
use Rattle.weave_data.specs.declared.name.Name.{Name}
use Rattle.graph_ops.specs.Mentions.{is_among}
use Rattle.graph_ops.specs.Operations.{State}
use Rattle.program_defs.specs.PlainAnswer.{IsPlainAnswer}
use Rattle.program_defs.specs.Prices.{priced_edges}
use Rattle.program_defs.specs.Searching.{SearchState, SameReached, HasSearched, aim_of, next_of}
use Rattle.program_defs.specs.Visits.{as_set, graph_read, next_visit}
use Rattle.program_defs.specs.declared.aim.Aim.{Aim}
use Rattle.program_defs.specs.declared.program.Answer.{Answer}
use Rattle.program_defs.specs.declared.program.Program.{Program}
use Rattle.program_defs.specs.declared.program.Program.TheVariants.{Price}
use Rattle.priced_path.specs.Kept.{as_kept, ArePriced, AreEdgesOf, IsAnswerOver}
use Rattle.priced_path.specs.Price.{price_asked, HasPriced, IsPricing}
use Rattle.priced_path.specs.declared.kept_edge.KeptEdge.{KeptEdge}
use Rattle.priced_path.proofs.Reading.{kept-more, kept-none, kept-priced, next-unread}

-- What the laws of searches say

-- the vertex that a search reads next is the next visit
abbrev pub ReadsNextVisit : Type 0
ReadsNextVisit = (program : Program) (search : SearchState) (reads : List (Name × State)) → HasSearched program search reads → next_of search ≡ next_visit reads program

-- only the room of a search may change
abbrev pub StaysSearched : Type 0
StaysSearched = (program : Program) (old new : SearchState) (reads : List (Name × State)) → SameReached old new → HasSearched program old reads → HasSearched program new reads

-- a search finds the vertices that are there
abbrev pub FindsPresent : Type 0
FindsPresent = (program : Program) (search : SearchState) (reads : List (Name × State)) (v : Name) → HasSearched program search reads → is_among (as_set search.present) v ≡ is_some (graph_read reads v)

-- a search reads its next vertex in this state
abbrev pub ReadsState : SearchState → SearchState → State → Type 0
ReadsState old new state = (program : Program) (v : Name) (reads : List (Name × State)) → next_of old ≡ Some v → HasSearched program old reads → HasSearched program new ((v, state) ∷ reads)

-- With the same search, whatever its room is

module _ (law : StaysSearched) (to key : Name) (old new : SearchState) (same : SameReached old new) where
  -- what was read is the same
  pub priced-still : (edges same_edges : List KeptEdge) → same_edges ≡ edges → (reads : List (Name × State)) → HasPriced to key old edges reads → HasPriced to key new same_edges reads
  priced-still edges same_edges is reads h =
      record {
        searched = subst (λ (aim : Aim). HasSearched (Price aim.from to key) new reads) (sym same.aim) (law (price_asked to key old) old new reads same h.searched);
        kept = subst (λ (es : List KeptEdge). AreEdgesOf (graph_read reads) key es) (sym is) h.kept;
      }

-- After a read of the next vertex

module _ (law : ReadsNextVisit) (to key : Name) (old new : SearchState) (edges more : List KeptEdge) (v : Name) (state : State) (next : next_of old ≡ Some v) where
  priced-more : (reads : List (Name × State)) → HasSearched (price_asked to key old) new ((v, state) ∷ reads) → new.aim ≡ old.aim → more ≡ edges ++ as_kept v (priced_edges key state)
      → HasPriced to key old edges reads → HasPriced to key new more ((v, state) ∷ reads)
  priced-more reads seen aim is h =
      record {
        searched = subst (λ (a : Aim). HasSearched (Price a.from to key) new ((v, state) ∷ reads)) (sym aim) seen;
        kept = kept-more reads key v state edges more (next-unread reads (price_asked to key old) v (sym (law (price_asked to key old) old reads h.searched) ∙ next)) is h.kept;
      }

  -- its edges are kept, if the search was lent and the state borrowed
  pub sees : (lent : SearchState) (seen_state kept_state : State) → lent ≡ old → seen_state ≡ state → kept_state ≡ state → ReadsState lent new seen_state → new.aim ≡ lent.aim → more ≡ edges ++ as_kept v (priced_edges key kept_state)
      → (reads : List (Name × State)) → HasPriced to key old edges reads → HasPriced to key new more ((v, state) ∷ reads)
  sees lent seen_state kept_state lending seeing keeping read aim is reads h =
      let asked = subst (λ (s : SearchState). next_of s ≡ Some v) (sym lending) next in
      let searched = subst (λ (s : SearchState). HasSearched (price_asked to key old) s reads) (sym lending) h.searched in
      let seen = subst (λ (s : State). HasSearched (price_asked to key old) new ((v, s) ∷ reads)) seeing (read (price_asked to key old) v reads asked searched) in
      priced-more reads seen (aim ∙ ap (λ (s : SearchState). s.aim) lending) (is ∙ ap (λ (s : State). edges ++ as_kept v (priced_edges key s)) keeping) h

-- The outcome

-- the kept edges have prices
pub pricing-priced : (to key : Name) (search : SearchState) (edges : List KeptEdge) → IsPricing to key search edges → ArePriced edges
pricing-priced to key search edges h = kept-priced h.0 key edges h.1.kept

module _ (law : FindsPresent) (to key from : Name) (search : SearchState) (edges : List KeptEdge) (vertices : List Name) (start : from ≡ search.aim.from) (all : IsPricing to key search edges → vertices ≡ as_set search.present) where
  -- the answer over the vertices that are there and the kept edges is that of what was read
  pub priced-outcome : (result : Result Answer AllocError) → IfOk result (λ answer. IsAnswerOver vertices edges from to answer)
      → IfOk result (λ answer. (reads : List (Name × State)) → HasPriced to key search edges reads → IsPlainAnswer (graph_read reads) (price_asked to key search) answer)
  priced-outcome (Ok answer) h = λ reads was.
      subst (λ (w : Name). IsPlainAnswer (graph_read reads) (Price w to key) answer) start
      (h (graph_read reads) key (record { vertices_are = λ v. ap (λ (vs : List Name). is_among vs v) (all (reads, was)) ∙ law (price_asked to key search) search reads v was.searched; edges_are = was.kept }))
  priced-outcome (Err e) h = tt

-- Before the first read

-- nothing was read or kept
pub priced-begin : (aim : Aim) (from to key : Name) (search value : SearchState) (edges : List KeptEdge) → aim_of (Price from to key) ≡ Some aim → search.aim ≡ aim → ((program : Program) → aim_of program ≡ Some aim → HasSearched program search []) → value ≡ search → edges ≡ []
    → (price_asked to key value ≡ Price from to key) × HasPriced to key value edges []
priced-begin aim from to key search value edges asked is reads same none = (
  ap (price_asked to key) same ∙ ap (λ (f : Name). Price f to key) from_is,
  subst (λ (s : SearchState). HasPriced to key s edges []) (sym same) (record {
    searched = subst (λ (f : Name). HasSearched (Price f to key) search []) (sym from_is) (reads (Price from to key) asked);
    kept = subst (λ (es : List KeptEdge). AreEdgesOf (graph_read []) key es) (sym none) (kept-none key);
  }),
)
  where
    from_is : search.aim.from ≡ from
    from_is = ap (λ (a : Aim). a.from) (is ∙ sym (same_Some _ aim asked))
