-- Where a search is after one more read: further in its level, or at the start of the next one.
-- Used by Pathing.
use Rattle.std.proofs.Common.{append_assoc, ◌≡◌, ℕ, zero, suc, Bool, true, false, List, [], ◌∷◌, ◌++◌, sym, subst, ◌∙◌, Option, Some, None, arith}
use Rattle.std.specs.Prelude.{is_none, if◌then◌else◌}
use Rattle.weave_data.specs.declared.name.Name.{Name}
use Rattle.graph_ops.specs.Operations.{State}
use Rattle.program_defs.specs.declared.program.Program.{Program}
use Rattle.program_defs.specs.Searching.{SearchState, IsWithinLevel, IsGoing, IsTargetNotIn, IsLeft, aim_of, levels_read, turned_search, onto_next_level, gone_on}
use Rattle.program_defs.specs.Visits.{as_set, first_of}
use Rattle.program_defs.specs.Walks.{is_value}
use Rattle.program_defs.proofs.Searched.{some-first, none-first, free-more, within-down, free-down, read-earlier}

module _ (program : Program) (search : SearchState) (reads : List (Name × State)) (n : ℕ) (before : List Name) (v : Name) where
  abbrev done : List Name
  done = before ++ v ∷ []

  -- this level, while some of it is left, and then the next one
  pub record IsStage (next : SearchState) : Type 0 where
    pub on : is_none (first_of search.rest) ≡ false → IsGoing next reads n done
    pub down : is_none (first_of search.rest) ≡ true → IsGoing next reads (suc n) []

  module _ (within : IsWithinLevel search reads n done) (aim : aim_of program ≡ Some search.aim) (free : IsTargetNotIn search.aim.target (read-earlier search reads n before)) where
    split : (levels_read reads search.aim n).before ++ done ≡ (read-earlier search reads n before) ++ v ∷ []
    split = sym (append_assoc (levels_read reads search.aim n).before before (v ∷ []))

    free-now : is_value search.aim.target v ≡ false → IsTargetNotIn search.aim.target ((levels_read reads search.aim n).before ++ done)
    free-now other = subst (IsTargetNotIn search.aim.target) (sym split) (free-more search.aim.target (read-earlier search reads n before) v free other)

    down-now : search.rest ≡ [] → is_value search.aim.target v ≡ false → (left : Option ℕ) → IsLeft search.aim.bound (suc n) left → (onto_next_level left search).over ≡ false → IsGoing (onto_next_level left search) reads (suc n) []
    down-now none other left so_many more = record {
      within = within-down search program reads n done within aim none left so_many;
      more = some-first (as_set search.found) more;
      free = free-down search program reads n done within aim none (free-now other);
    }

    by_left : search.rest ≡ [] → is_value search.aim.target v ≡ false → (left : Option ℕ) → search.left ≡ left → (turned_search left search).over ≡ false → IsGoing (turned_search left search) reads (suc n) []
    by_left none other (Some zero) e more = absurd (cc)
    by_left none other (Some (suc left)) e more = down-now none other (Some left) (fewer search.aim.bound (subst (IsLeft search.aim.bound n) e within.left)) more
      where
        fewer : (bound : Option ℕ) → IsLeft bound n (Some (suc left)) → IsLeft bound (suc n) (Some left)
        fewer None l = absurd l
        fewer (Some b) l = omega (arith, l)
    by_left none other None e more = down-now none other None (same search.aim.bound (subst (IsLeft search.aim.bound n) e within.left)) more
      where
        same : (bound : Option ℕ) → IsLeft bound n None → IsLeft bound (suc n) None
        same None l = l
        same (Some b) l = absurd l

    by_rest : is_value search.aim.target v ≡ false → (b : Bool) → is_none (first_of search.rest) ≡ b → (if b then turned_search search.left search else search).over ≡ false → IsStage (if b then turned_search search.left search else search)
    by_rest other true e more = record { on = λ f. absurd (clash (sym e ∙ f)); down = λ f. by_left (none-first search.rest e) other search.left refl' more }
      where
        refl' : search.left ≡ search.left
        refl' = λ i. search.left

        clash : ¬ (true ≡ false)
        clash f = cc
    by_rest other false e more = record { on = λ f. record { within = within; more = some-first search.rest e; free = free-now other }; down = λ f. absurd (clash (sym f ∙ e)) }
      where
        clash : ¬ (true ≡ false)
        clash f = cc

    by_target : (b : Bool) → is_value search.aim.target v ≡ b → (if b then record search { over = true } else (if is_none (first_of search.rest) then turned_search search.left search else search)).over ≡ false
        → IsStage (if b then record search { over = true } else (if is_none (first_of search.rest) then turned_search search.left search else search))
    by_target true hit more = absurd (cc)
    by_target false other more = by_rest other (is_none (first_of search.rest)) (λ i. is_none (first_of search.rest)) more

    -- a search that isn't over goes on in its level while some of it is left, and then at the start of the next one
    pub stage : (gone_on v search).over ≡ false → IsStage (gone_on v search)
    stage more = by_target (is_value search.aim.target v) (λ i. is_value search.aim.target v) more

-- a search that is going is so with any room
pub going-with-room : (search : SearchState) (reads : List (Name × State)) (n : ℕ) (gone : List Name) (room : ℕ) → IsGoing search reads n gone → IsGoing (record search { room = room }) reads n gone
going-with-room search reads n gone room g = record {
  within = record { left = g.within.left; level = g.within.level; read = g.within.read; reached = g.within.reached; found = g.within.found; found_once = g.within.found_once };
  more = g.more;
  free = g.free;
}
