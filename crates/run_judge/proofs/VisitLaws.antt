-- The vertices that a search reads are those that its program visits.
-- Used by `searched`, `visits_of` and TableLaws.
use Rattle.std.proofs.Common.{◌≡◌, Bool, true, false, ◌||◌, IsTrue, List, [], ◌∷◌, ◌++◌, refl, sym, ap, ◌∙◌}
use Rattle.std.specs.Prelude.{◌↔◌, IfOk, Result, Ok, Err}
use Rattle.weave_data.specs.Names.{same_name}
use Rattle.weave_data.specs.declared.name.Name.{Name}
use Rattle.graph_ops.proofs.States.{same_name-sym}
use Rattle.graph_ops.specs.Mentions.{is_among}
use Rattle.program_defs.specs.Searching.{has_name}
use Rattle.program_defs.proofs.NewNames.{has-among}

-- two tests may be exchanged
pub turned : (a b c : Bool) → (a || (b || c)) ≡ (b || (a || c))
turned true true c = refl
turned true false c = refl
turned false b c = refl

-- one name more
pub name_more : (names : List Name) (v w : Name) → has_name (names ++ v ∷ []) w ≡ (same_name v w || has_name names w)
name_more [] v w = ap (λ b. b || false) (same_name-sym w v)
name_more (x ∷ names) v w = ap (λ b. same_name w x || b) (name_more names v w) ∙ turned (same_name w x) (same_name v w) (has_name names w)

-- a name is one of a list exactly if the table has it
pub among_so : (names : List Name) (v : Name) (Is : Type 0) → IsTrue (has_name names v) ↔ Is → IsTrue (is_among names v) ↔ Is
among_so names v Is both = (λ h. both.0 (has-among names v ∙ h), λ is. sym (has-among names v) ∙ both.1 is)

-- what follows of a result's value
pub on_value : {A E : Type 0} (result : Result A E) (P Q : A → Type 0) → ((a : A) → P a → Q a) → IfOk result P → IfOk result Q
on_value (Ok a) P Q go p = go a p
on_value (Err e) P Q go p = tt
