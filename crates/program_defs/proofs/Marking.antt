-- Marks that are given to targets in the order of sorted hops: the first hop to a new target counts.
-- Used by Noting and Walked.
use Rattle.std.proofs.Common.{◌≡◌, ℕ, ◌+◌, ◌≤◌, Bool, true, false, List, [], ◌∷◌, IsTrue, refl, sym, ap, subst, ◌∙◌, Option, Some, inl, inr, arith}
use Rattle.std.specs.Prelude.{is_some}
use Rattle.std.specs.Ordering.{is_le}
use Rattle.std.proofs.lemmas.Bool.{both_ways}
use Rattle.std.proofs.lemmas.Cmp.{nat_list_cmp_total, tied_itself}
use Rattle.weave_data.specs.Names.{name_cmp, same_name, one_name}
use Rattle.weave_data.specs.declared.name.Name.{Name}
use Rattle.graph_ops.proofs.Vertices.{same_name-refl}
use Rattle.program_defs.specs.declared.path_search.Hop.{Hop}
use Rattle.program_defs.specs.declared.path_search.Mark.{Mark}
use Rattle.program_defs.specs.Ranks.{ComesNoLater}
use Rattle.program_defs.specs.LeastWalks.{IsIn, HopsRise, with_mark, marks_after}

abbrev Marks : Type 0
Marks = Name → Option Mark

-- A mark that is given

given-here : (t : Name) (mark : Mark) (marks : Marks) (v : Name) → same_name t v ≡ true → with_mark t mark marks v ≡ Some mark
given-here t mark marks v e = rw e refl

given-other : (t : Name) (mark : Mark) (marks : Marks) (v : Name) → same_name t v ≡ false → with_mark t mark marks v ≡ marks v
given-other t mark marks v e = rw e refl

some-has : (o : Option Mark) (mark : Mark) → o ≡ Some mark → is_some o ≡ true
some-has o mark e = ap is_some e

one-mark : (a b : Mark) → Some a ≡ Some b → a ≡ b
one-mark a b e = cc

-- what is marked and what isn't are two names
apart : (marks : Marks) (t v : Name) → is_some (marks t) ≡ true → is_some (marks v) ≡ false → same_name t v ≡ false
apart marks t v has new = at (same_name t v) refl
  where
    at : (b : Bool) → same_name t v ≡ b → b ≡ false
    at false e = refl
    at true e = absurd (both_ways _ new (ap (λ u. is_some (marks u)) (sym (one_name t v e)) ∙ has))

mark_of_hop : Hop → ℕ → Mark
mark_of_hop hop count = record { parent = hop.parent; rank = count }

-- a first hop to a marked target changes no mark; then come the other hops
pub marked-old : (marks : Marks) (count : ℕ) (hop : Hop) (rest : List Hop) (v : Name) → is_some (marks hop.target) ≡ true → marks_after marks count (hop ∷ rest) v ≡ marks_after marks count rest v
marked-old marks count hop rest v e = rw e refl

-- a first hop to an unmarked target marks it, with the hop's parent and the count as rank; then come the other hops
pub marked-new : (marks : Marks) (count : ℕ) (hop : Hop) (rest : List Hop) (v : Name) → is_some (marks hop.target) ≡ false
    → marks_after marks count (hop ∷ rest) v ≡ marks_after (with_mark hop.target (record { parent = hop.parent; rank = count }) marks) (count + 1) rest v
marked-new marks count hop rest v e = rw e refl

-- the mark of a marked name is the same after more hops
pub marked-stays : (hops : List Hop) (marks : Marks) (count : ℕ) (v : Name) → is_some (marks v) ≡ true → marks_after marks count hops v ≡ marks v
marked-stays [] marks count v has = refl
marked-stays (hop ∷ rest) marks count v has = at (λ ms k h. marked-stays rest ms k v h) (is_some (marks hop.target)) refl
  where
    at : ((ms : Marks) (k : ℕ) → is_some (ms v) ≡ true → marks_after ms k rest v ≡ ms v) → (b : Bool) → is_some (marks hop.target) ≡ b → marks_after marks count (hop ∷ rest) v ≡ marks v
    at more true e = marked-old marks count hop rest v e ∙ more marks count has
    at more false e =
        let given : Marks = with_mark hop.target (record { parent = hop.parent; rank = count }) marks in
        let other : same_name hop.target v ≡ false = new-name (same_name hop.target v) refl in
        let stays : given v ≡ marks v = given-other hop.target _ marks v other in
        marked-new marks count hop rest v e ∙ more given (count + 1) (ap is_some stays ∙ has) ∙ stays
      where
        new-name : (b : Bool) → same_name hop.target v ≡ b → b ≡ false
        new-name false f = refl
        new-name true f = absurd (both_ways _ e (ap (λ u. is_some (marks u)) (one_name hop.target v f) ∙ has))

-- the mark of the first hop to a new target
at-new-target : (marks : Marks) (count : ℕ) (hop : Hop) (rest : List Hop) (v : Name) → is_some (marks hop.target) ≡ false → same_name hop.target v ≡ true
    → marks_after marks count (hop ∷ rest) v ≡ Some (record { parent = hop.parent; rank = count })
at-new-target marks count hop rest v e f =
    let given : Marks = with_mark hop.target (record { parent = hop.parent; rank = count }) marks in
    let here : given v ≡ Some (record { parent = hop.parent; rank = count }) = given-here hop.target _ marks v f in
    marked-new marks count hop rest v e ∙ marked-stays rest given (count + 1) v (ap is_some here) ∙ here

-- after a list of hops, the target of each of them has a mark
pub marked-has : (hops : List Hop) (marks : Marks) (count : ℕ) (hop : Hop) → IsIn hops hop → is_some (marks_after marks count hops hop.target) ≡ true
marked-has [] marks count hop k = absurd k
marked-has (first ∷ rest) marks count hop k = at (λ ms n i. marked-has rest ms n hop i) (is_some (marks first.target)) refl k
  where
    later : ((ms : Marks) (n : ℕ) → IsIn rest hop → is_some (marks_after ms n rest hop.target) ≡ true) → (b : Bool) → is_some (marks first.target) ≡ b → IsIn rest hop → is_some (marks_after marks count (first ∷ rest) hop.target) ≡ true
    later more true e i = ap is_some (marked-old marks count first rest hop.target e) ∙ more marks count i
    later more false e i = ap is_some (marked-new marks count first rest hop.target e) ∙ more (with_mark first.target (record { parent = first.parent; rank = count }) marks) (count + 1) i

    at : ((ms : Marks) (n : ℕ) → IsIn rest hop → is_some (marks_after ms n rest hop.target) ≡ true) → (b : Bool) → is_some (marks first.target) ≡ b → IsIn (first ∷ rest) hop → is_some (marks_after marks count (first ∷ rest) hop.target) ≡ true
    at more b e (inr i) = later more b e i
    at more true e (inl same) =
        let has : is_some (marks hop.target) ≡ true = ap (λ (h : Hop). is_some (marks h.target)) (sym same) ∙ e in
        ap is_some (marked-stays (first ∷ rest) marks count hop.target has) ∙ has
    at more false e (inl same) = ap is_some (at-new-target marks count first rest hop.target e (ap (λ (h : Hop). same_name first.target h.target) (sym same) ∙ same_name-refl first.target))

-- a new mark is that of a hop
pub record IsOrigin (hops : List Hop) (count : ℕ) (v : Name) (mark : Mark) : Type 0 where
  pub hop : Hop
  pub among : IsIn hops hop
  pub target : hop.target ≡ v
  pub parent : hop.parent ≡ mark.parent
  pub above : count ≤ mark.rank

-- the new mark of a vertex comes from a hop to it: it has the hop's parent, and a rank of at least the count
pub origin : (hops : List Hop) (marks : Marks) (count : ℕ) (v : Name) (mark : Mark) → is_some (marks v) ≡ false → marks_after marks count hops v ≡ Some mark → IsOrigin hops count v mark
origin [] marks count v mark new is = absurd (both_ways _ new (ap is_some is))
origin (hop ∷ rest) marks count v mark new is = at (λ ms k n i. origin rest ms k v mark n i) (is_some (marks hop.target)) refl
  where
    later : (count' : ℕ) → count ≤ count' → IsOrigin rest count' v mark → IsOrigin (hop ∷ rest) count v mark
    later count' le o = let above = o.above in record { hop = o.hop; among = inr o.among; target = o.target; parent = o.parent; above = omega (arith, le, above) }

    new-target : ((ms : Marks) (k : ℕ) → is_some (ms v) ≡ false → marks_after ms k rest v ≡ Some mark → IsOrigin rest k v mark) → is_some (marks hop.target) ≡ false → (b : Bool) → same_name hop.target v ≡ b → IsOrigin (hop ∷ rest) count v mark
    new-target more e true f =
        let here : Some (record { parent = hop.parent; rank = count }) ≡ Some mark = sym (at-new-target marks count hop rest v e f) ∙ is in
        let same : record { parent = hop.parent; rank = count } ≡ mark = one-mark _ _ here in
        let one : count ≡ mark.rank = ap (λ (m : Mark). m.rank) same in
        record { hop = hop; among = inl refl; target = one_name hop.target v f; parent = ap (λ (m : Mark). m.parent) same; above = omega (arith, one) }
    new-target more e false f =
        later (count + 1) (omega arith)
        (more (with_mark hop.target (record { parent = hop.parent; rank = count }) marks) (count + 1) (ap is_some (given-other hop.target _ marks v f) ∙ new) (sym (marked-new marks count hop rest v e) ∙ is))

    at : ((ms : Marks) (k : ℕ) → is_some (ms v) ≡ false → marks_after ms k rest v ≡ Some mark → IsOrigin rest k v mark) → (b : Bool) → is_some (marks hop.target) ≡ b → IsOrigin (hop ∷ rest) count v mark
    at more true e = later count (omega arith) (more marks count new (sym (marked-old marks count hop rest v e) ∙ is))
    at more false e = new-target more e (same_name hop.target v) refl

-- Sorted hops, whose ranks are those of their parents

module _ (rank : Name → ℕ) where
  abbrev HaveRanks : List Hop → Type 0
  HaveRanks hops = (hop : Hop) → IsIn hops hop → hop.rank ≡ rank hop.parent

  -- a new mark has the parent of least rank
  pub first-of : (hops : List Hop) (marks : Marks) (count : ℕ) (v : Name) (mark : Mark) → HaveRanks hops → HopsRise hops → is_some (marks v) ≡ false → marks_after marks count hops v ≡ Some mark
      → (other : Hop) → IsIn hops other → other.target ≡ v → rank mark.parent ≤ other.rank
  first-of [] marks count v mark ranks rising new is other k t = absurd k
  first-of (hop ∷ rest) marks count v mark ranks rising new is other k t = at (λ ms n e i j. first-of rest ms n v mark (λ h l. ranks h (inr l)) rising.1 e i other j t) (is_some (marks hop.target)) refl k
    where
      -- the first hop leads elsewhere
      elsewhere : same_name hop.target v ≡ false → ¬ (hop ≡ other)
      elsewhere f same =
          let here : same_name hop.target v ≡ true = ap (same_name hop.target) (sym t ∙ ap (λ (h : Hop). h.target) (sym same)) ∙ same_name-refl hop.target in
          both_ways _ f here

      old : ((ms : Marks) (n : ℕ) → is_some (ms v) ≡ false → marks_after ms n rest v ≡ Some mark → IsIn rest other → rank mark.parent ≤ other.rank) → is_some (marks hop.target) ≡ true → IsIn (hop ∷ rest) other → rank mark.parent ≤ other.rank
      old more e (inl same) = absurd (elsewhere (apart marks hop.target v e new) same)
      old more e (inr i) = more marks count new (sym (marked-old marks count hop rest v e) ∙ is) i

      fresh : ((ms : Marks) (n : ℕ) → is_some (ms v) ≡ false → marks_after ms n rest v ≡ Some mark → IsIn rest other → rank mark.parent ≤ other.rank) → is_some (marks hop.target) ≡ false → (b : Bool) → same_name hop.target v ≡ b → IsIn (hop ∷ rest) other → rank mark.parent ≤ other.rank
      fresh more e true f j =
          let here : Some (record { parent = hop.parent; rank = count }) ≡ Some mark = sym (at-new-target marks count hop rest v e f) ∙ is in
          let mine : hop.parent ≡ mark.parent = ap (λ (m : Mark). m.parent) (one-mark _ _ here) in
          let one : hop.rank ≡ rank mark.parent = ranks hop (inl refl) ∙ ap rank mine in
          below one j
        where
          below : hop.rank ≡ rank mark.parent → IsIn (hop ∷ rest) other → rank mark.parent ≤ other.rank
          below one (inl same) = let two : hop.rank ≡ other.rank = ap (λ (h : Hop). h.rank) same in omega (arith, one, two)
          below one (inr i) = elim (rising.0 other i) [ inl less ↦ omega (arith, one, less) | inr level ↦ (let two = level.0 in omega (arith, one, two)) ]
      fresh more e false f (inl same) = absurd (elsewhere f same)
      fresh more e false f (inr i) =
          more (with_mark hop.target (record { parent = hop.parent; rank = count }) marks) (count + 1) (ap is_some (given-other hop.target _ marks v f) ∙ new) (sym (marked-new marks count hop rest v e) ∙ is) i

      at : ((ms : Marks) (n : ℕ) → is_some (ms v) ≡ false → marks_after ms n rest v ≡ Some mark → IsIn rest other → rank mark.parent ≤ other.rank) → (b : Bool) → is_some (marks hop.target) ≡ b → IsIn (hop ∷ rest) other → rank mark.parent ≤ other.rank
      at more true e j = old more e j
      at more false e j = fresh more e (same_name hop.target v) refl j

  -- new marks are ranked by their parents' ranks, and then by name
  pub in-order : (hops : List Hop) (marks : Marks) (count : ℕ) (v w : Name) (a b : Mark) → HaveRanks hops → HopsRise hops → is_some (marks v) ≡ false → is_some (marks w) ≡ false
      → marks_after marks count hops v ≡ Some a → marks_after marks count hops w ≡ Some b → a.rank ≤ b.rank → ComesNoLater (rank a.parent) (rank b.parent) v w
  in-order [] marks count v w a b ranks rising new-v new-w is-v is-w le = absurd (both_ways _ new-v (ap is_some is-v))
  in-order (hop ∷ rest) marks count v w a b ranks rising new-v new-w is-v is-w le =
      at (λ ms n nv nw iv iw. in-order rest ms n v w a b (λ h l. ranks h (inr l)) rising.1 nv nw iv iw le) (is_some (marks hop.target)) refl
    where
      given : Marks
      given = with_mark hop.target (record { parent = hop.parent; rank = count }) marks

      -- the mark of the first hop's target
      mine : is_some (marks hop.target) ≡ false → (u : Name) (m : Mark) → same_name hop.target u ≡ true → marks_after marks count (hop ∷ rest) u ≡ Some m → record { parent = hop.parent; rank = count } ≡ m
      mine e u m f is = one-mark _ _ (sym (at-new-target marks count hop rest u e f) ∙ is)

      still-new : (u : Name) → same_name hop.target u ≡ false → is_some (marks u) ≡ false → is_some (given u) ≡ false
      still-new u f new = ap is_some (given-other hop.target _ marks u f) ∙ new

      both : ((ms : Marks) (n : ℕ) → is_some (ms v) ≡ false → is_some (ms w) ≡ false → marks_after ms n rest v ≡ Some a → marks_after ms n rest w ≡ Some b → ComesNoLater (rank a.parent) (rank b.parent) v w) → is_some (marks hop.target) ≡ false → (c d : Bool) → same_name hop.target v ≡ c → same_name hop.target w ≡ d → ComesNoLater (rank a.parent) (rank b.parent) v w
      both more e true true f g =
          let one : hop.parent ≡ a.parent = ap (λ (m : Mark). m.parent) (mine e v a f is-v) in
          let two : hop.parent ≡ b.parent = ap (λ (m : Mark). m.parent) (mine e w b g is-w) in
          let same : v ≡ w = sym (one_name hop.target v f) ∙ one_name hop.target w g in
          inr (ap rank (sym one ∙ two), subst (λ u. IsTrue (is_le (name_cmp v u))) same (ap is_le (tied_itself nat_list_cmp_total v)))
      both more e true false f g =
          let o = origin rest given (count + 1) w b (still-new w g new-w) (sym (marked-new marks count hop rest w e) ∙ is-w) in
          let one : hop.rank ≡ rank a.parent = ranks hop (inl refl) ∙ ap rank (ap (λ (m : Mark). m.parent) (mine e v a f is-v)) in
          let two : o.hop.rank ≡ rank b.parent = ranks o.hop (inr o.among) ∙ ap rank o.parent in
          subst (λ r. ComesNoLater r (rank b.parent) v w) one
          (subst (λ r. ComesNoLater hop.rank r v w) two
          (subst (λ u. ComesNoLater hop.rank o.hop.rank u w) (one_name hop.target v f)
          (subst (λ u. ComesNoLater hop.rank o.hop.rank hop.target u) o.target (rising.0 o.hop o.among))))
      both more e false true f g =
          let o = origin rest given (count + 1) v a (still-new v f new-v) (sym (marked-new marks count hop rest v e) ∙ is-v) in
          let above = o.above in
          let one : count ≡ b.rank = ap (λ (m : Mark). m.rank) (mine e w b g is-w) in
          absurd (omega (arith, above, one, le))
      both more e false false f g =
          more given (count + 1) (still-new v f new-v) (still-new w g new-w) (sym (marked-new marks count hop rest v e) ∙ is-v) (sym (marked-new marks count hop rest w e) ∙ is-w)

      at : ((ms : Marks) (n : ℕ) → is_some (ms v) ≡ false → is_some (ms w) ≡ false → marks_after ms n rest v ≡ Some a → marks_after ms n rest w ≡ Some b → ComesNoLater (rank a.parent) (rank b.parent) v w) → (c : Bool) → is_some (marks hop.target) ≡ c → ComesNoLater (rank a.parent) (rank b.parent) v w
      at more true e = more marks count new-v new-w (sym (marked-old marks count hop rest v e) ∙ is-v) (sym (marked-old marks count hop rest w e) ∙ is-w)
      at more false e = both more e (same_name hop.target v) (same_name hop.target w) refl refl
