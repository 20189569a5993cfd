-- When the next vertex of a level is read, the levels up to this one stay as they were.
-- Used by Pathing, Rereading and Searched.
use Rattle.std.proofs.Common.{append-nil, append_assoc, ◌≡◌, ℕ, zero, suc, Bool, true, false, not, ◌&&◌, ◌||◌, List, [], ◌∷◌, ◌++◌, IsTrue, refl, sym, ap, subst, ◌∙◌}
use Rattle.std.specs.Prelude.{if◌then◌else◌}
use Rattle.std.specs.Map.{keys_of}
use Rattle.std.proofs.lemmas.Bool.{both_ways}
use Rattle.weave_data.specs.Names.{same_name, one_name}
use Rattle.weave_data.specs.declared.name.Name.{Name}
use Rattle.graph_ops.specs.Mentions.{is_among}
use Rattle.graph_ops.specs.Operations.{State}
use Rattle.graph_ops.specs.PlainGraph.{PlainGraph}
use Rattle.graph_ops.proofs.Vertices.{same_name-refl}
use Rattle.program_defs.specs.declared.passing.Passing.{Passing}
use Rattle.program_defs.specs.Agreement.{Agree}
use Rattle.program_defs.specs.Searching.{SearchState, AddsState, IsWithinLevel, IsOnce, has_name, new_names, levels_read}
use Rattle.program_defs.specs.Visits.{targets_of_all, levels_to, names_through, through_level, graph_read}
use Rattle.program_defs.specs.Walks.{targets}
use Rattle.program_defs.proofs.Members.{among-left, among-right}
use Rattle.program_defs.proofs.NewNames.{new-among, new-once}
use Rattle.program_defs.proofs.Once.{through-once, new-after, once-append}
use Rattle.program_defs.proofs.VisitsAgree.{next-levels, targets-same}

-- Members

-- a name is among two joined lists exactly if it is among the first or among the second
pub among-append : (xs ys : List Name) (v : Name) → is_among (xs ++ ys) v ≡ is_among xs v || is_among ys v
among-append [] ys v = refl
among-append (x ∷ xs) ys v = ap (λ b. same_name x v || b) (among-append xs ys v) ∙ turned (same_name x v) (is_among xs v) (is_among ys v)
  where
    turned : (a b c : Bool) → a || (b || c) ≡ (a || b) || c
    turned true b c = refl
    turned false b c = refl

targets-append : (graph : PlainGraph) (pass : Passing) (xs : List Name) (v : Name) → targets_of_all graph pass (xs ++ v ∷ []) ≡ targets_of_all graph pass xs ++ targets pass (graph v)
targets-append graph pass [] v = append-nil (targets pass (graph v))
targets-append graph pass (x ∷ xs) v = ap (λ ts. targets pass (graph x) ++ ts) (targets-append graph pass xs v) ∙ sym (append_assoc (targets pass (graph x)) (targets_of_all graph pass xs) (targets pass (graph v)))

-- two graphs that agree on the levels before level n have the same levels up to it
pub levels-same : (g h : PlainGraph) (pass : Passing) (from : Name) (n : ℕ) → Agree g h (levels_to n g pass from).before → levels_to n g pass from ≡ levels_to n h pass from
levels-same g h pass from zero a = refl
levels-same g h pass from (suc n) a = next-levels g h pass from n a

-- the rest of the level after its first
rest-is : (rest : List Name) (v : Name) (more : List Name) → rest ≡ v ∷ more → (done : List Name) → done ++ rest ≡ (done ++ v ∷ []) ++ more
rest-is rest v more e done = ap (λ xs. done ++ xs) e ∙ sym (append_assoc done (v ∷ []) more)

module _ (search : SearchState) (reads : List (Name × State)) (n : ℕ) (done : List Name) (within : IsWithinLevel search reads n done) (v : Name) (more : List Name) (rest : search.rest ≡ v ∷ more) (state : State) where
  abbrev was : PlainGraph
  was = graph_read reads

  abbrev now : PlainGraph
  now = graph_read ((v, state) ∷ reads)

  abbrev before : List Name
  before = (levels_read reads search.aim n).before

  levels-split : through_level n was search.aim.pass search.aim.from ≡ (before ++ done) ++ v ∷ more
  levels-split = ap (λ xs. before ++ xs) (within.level ∙ ap (λ xs. done ++ xs) rest) ∙ sym (append_assoc before done (v ∷ more))

  -- the next vertex of the level wasn't read before
  pub new-read : is_among (keys_of reads) v ≡ false
  new-read = within.read v ∙ new-after (before ++ done) v more (subst IsOnce levels-split (through-once was search.aim.pass search.aim.from n))

  -- what was read before stays
  pub read-agrees : (w : Name) → IsTrue (is_among (keys_of reads) w) → was w ≡ now w
  read-agrees w k = at (same_name v w) refl
    where
      at : (b : Bool) → same_name v w ≡ b → was w ≡ (if b then state else was w)
      at true is = absurd (both_ways _ new-read (subst (λ u. IsTrue (is_among (keys_of reads) u)) (sym (one_name v w is)) k))
      at false is = refl

  -- when it is read, the levels up to this one stay as they were
  pub same-levels-read : levels_read reads search.aim n ≡ levels_read ((v, state) ∷ reads) search.aim n
  same-levels-read = levels-same was now search.aim.pass search.aim.from n (λ w k. read-agrees w (within.read w ∙ among-left before done w k))

  -- the targets of what was read of the level
  targets-read : targets_of_all now search.aim.pass (done ++ v ∷ []) ≡ targets_of_all was search.aim.pass done ++ targets search.aim.pass state
  targets-read =
      targets-append now search.aim.pass done v
      ∙ ap (λ ts. ts ++ targets search.aim.pass (now v)) (sym (targets-same was now search.aim.pass done (λ w k. read-agrees w (within.read w ∙ among-right before done w k))))
      ∙ ap (λ s. targets_of_all was search.aim.pass done ++ targets search.aim.pass s) here
    where
      here : now v ≡ state
      here = rw (same_name-refl v) refl

  module _ (next : SearchState) (adds : AddsState v state search next) where
    abbrev tg : Name → Bool
    tg w = is_among (targets search.aim.pass state) w

    found-is : (w : Name) → is_among next.found w ≡ is_among search.found w || (tg w && not (has_name search.reached w))
    found-is w =
        ap (λ xs. is_among xs w) adds.found
        ∙ among-append search.found (new_names (has_name search.reached) (targets search.aim.pass state)) w
        ∙ ap (λ b. is_among search.found w || b) (new-among (targets search.aim.pass state) (has_name search.reached) w)

    abbrev through_now : Name → Bool
    through_now w = is_among (through_level n now search.aim.pass search.aim.from) w

    through-is : (w : Name) → is_among (through_level n was search.aim.pass search.aim.from) w ≡ through_now w
    through-is w = ap (λ levels. is_among (names_through levels) w) same-levels-read

    read-now : (w : Name) → is_among (v ∷ keys_of reads) w ≡ is_among (before ++ (done ++ v ∷ [])) w
    read-now w =
        ap (λ b. same_name v w || b) (within.read w)
        ∙ turned (same_name v w) (is_among (before ++ done) w)
        ∙ sym (among-append (before ++ done) (v ∷ []) w)
        ∙ ap (λ xs. is_among xs w) (append_assoc before done (v ∷ []))
      where
        turned : (a b : Bool) → a || b ≡ b || (a || false)
        turned true true = refl
        turned true false = refl
        turned false true = refl
        turned false false = refl

    reached-now : (w : Name) → has_name next.reached w ≡ is_among (through_level n was search.aim.pass search.aim.from) w || is_among next.found w
    reached-now w =
        adds.reached w
        ∙ ap (λ b. tg w || b) (within.reached w)
        ∙ joined (tg w) (is_among (through_level n was search.aim.pass search.aim.from) w) (is_among search.found w)
        ∙ ap (λ b. is_among (through_level n was search.aim.pass search.aim.from) w || (is_among search.found w || (tg w && not b))) (sym (within.reached w))
        ∙ ap (λ b. is_among (through_level n was search.aim.pass search.aim.from) w || b) (sym (found-is w))
      where
        joined : (g t f : Bool) → g || (t || f) ≡ t || (f || (g && not (t || f)))
        joined true true f = refl
        joined true false true = refl
        joined true false false = refl
        joined false true f = refl
        joined false false true = refl
        joined false false false = refl

    found-now : (w : Name) → is_among next.found w ≡ is_among (targets_of_all now search.aim.pass (done ++ v ∷ [])) w && not (through_now w)
    found-now w =
        found-is w
        ∙ ap (λ b. is_among search.found w || (tg w && not b)) (within.reached w)
        ∙ ap (λ b. b || (tg w && not (is_among (through_level n was search.aim.pass search.aim.from) w || b))) (within.found w)
        ∙ joined (is_among (targets_of_all was search.aim.pass done) w) (tg w) (is_among (through_level n was search.aim.pass search.aim.from) w)
        ∙ ap (λ b. b && not (is_among (through_level n was search.aim.pass search.aim.from) w)) (sym (ap (λ ts. is_among ts w) targets-read ∙ among-append (targets_of_all was search.aim.pass done) (targets search.aim.pass state) w))
        ∙ ap (λ b. is_among (targets_of_all now search.aim.pass (done ++ v ∷ [])) w && not b) (through-is w)
      where
        joined : (s g t : Bool) → (s && not t) || (g && not (t || (s && not t))) ≡ (s || g) && not t
        joined true true true = refl
        joined true true false = refl
        joined true false true = refl
        joined true false false = refl
        joined false true true = refl
        joined false true false = refl
        joined false false true = refl
        joined false false false = refl

    once-now : IsOnce next.found
    once-now =
        subst IsOnce (sym adds.found)
        (once-append search.found (new_names (has_name search.reached) (targets search.aim.pass state)) within.found_once (new-once (targets search.aim.pass state) (has_name search.reached)) (λ w k.
        apart (tg w) (is_among (through_level n was search.aim.pass search.aim.from) w) (is_among search.found w)
        (ap (λ b. tg w && not b) (sym (within.reached w)) ∙ sym (new-among (targets search.aim.pass state) (has_name search.reached) w) ∙ k)))
      where
        apart : (g t f : Bool) → g && not (t || f) ≡ true → f ≡ false
        apart true true f e = cc
        apart true false true e = cc
        apart true false false e = refl
        apart false t f e = cc

    -- with its state added, the search is within the same level, and this vertex is read of it too
    pub within-next : IsWithinLevel next ((v, state) ∷ reads) n (done ++ v ∷ [])
    within-next = subst (λ s. IsWithinLevel s ((v, state) ∷ reads) n (done ++ v ∷ [])) (λ i. record next { aim = sym adds.aim i; left = sym adds.left i }) shown
      where
        shown : IsWithinLevel (record next { aim = search.aim; left = search.left }) ((v, state) ∷ reads) n (done ++ v ∷ [])
        shown = record {
          left = within.left;
          level = ap (λ levels. levels.level) (sym same-levels-read) ∙ within.level ∙ rest-is search.rest v next.rest adds.rest done;
          read = λ w. read-now w ∙ ap (λ levels. is_among (levels.before ++ (done ++ v ∷ [])) w) same-levels-read;
          reached = λ w. reached-now w ∙ ap (λ b. b || is_among next.found w) (through-is w);
          found = found-now;
          found_once = once-now;
        }
