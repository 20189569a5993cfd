-- The program `show`, before and after its read.
-- Used by `next_vertex` and `outcome`.
use Rattle.std.proofs.Common.{◌≡◌, refl, sym, ap, ◌∙◌, true, List, Option, Some, None}
use Rattle.std.proofs.lemmas.Cmp.{eq_by_cmp_equiv, nat_list_cmp_total}
use Rattle.weave_data.specs.Names.{same_name}
use Rattle.weave_data.specs.declared.name.Name.{Name}
use Rattle.graph_ops.specs.Operations.{State}
use Rattle.program_defs.specs.declared.program.Program.TheVariants.{Show}
use Rattle.program_defs.specs.Visits.{graph_read, next_visit}
use Rattle.node_program.specs.Show.{HasShown, next_shown}

-- the next visit of a `show` is the one that its read or missing state gives
pub shown_next : (v : Name) (read : Option State) (reads : List (Name × State)) → HasShown v read reads → next_shown v read ≡ next_visit reads (Show v)
shown_next v None reads h = ap (λ rs. next_visit rs (Show v)) (sym h)
shown_next v (Some state) reads h = let itself : same_name v v ≡ true = (eq_by_cmp_equiv nat_list_cmp_total).refl v in sym (ap (λ rs. next_visit rs (Show v)) h ∙ rw itself refl)

-- what was read is the state that the reads have
pub shown_is : (v : Name) (read : Option State) (state : State) (reads : List (Name × State)) → read ≡ Some state → HasShown v read reads → state ≡ graph_read reads v
shown_is v None state reads is h = cc
shown_is v (Some found) state reads is h =
    let same : found ≡ state = some_is found state is in
    let itself : same_name v v ≡ true = (eq_by_cmp_equiv nat_list_cmp_total).refl v in
    sym same ∙ sym (ap (λ rs. graph_read rs v) h ∙ rw itself refl)
  where
    some_is : (a b : State) → Some a ≡ Some b → a ≡ b
    some_is a b e = cc

-- after its read `show` has no next visit
pub shown_over : (v : Name) (read : Option State) (state : State) (reads : List (Name × State)) → read ≡ Some state → HasShown v read reads → None ≡ next_visit reads (Show v)
shown_over v None state reads is h = cc
shown_over v (Some found) state reads is h = shown_next v (Some found) reads h
