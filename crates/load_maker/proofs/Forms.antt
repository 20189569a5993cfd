-- What each form of an operation, a program and a step is.
-- Used by `draw_op`, `draw_program` and `draw_step`.
use Rattle.std.proofs.Common.{◌≡◌, ℕ, ◌<◌, ◌%◌, true, false, ◌==◌, sym, ap, ◌∙◌, arith}
use Rattle.std.specs.Prelude.{nat_lt, codes, None}
use Rattle.std.proofs.lemmas.Bool.{cond-true, cond-false, lt-ltb, le-ltb, ne_eqb}
use Rattle.weave_data.specs.declared.name.Name.{Name}
use Rattle.graph_ops.specs.declared.op.Op.TheVariants.{Create, Delete, Unlink, Get}
use Rattle.program_defs.specs.declared.program.Program.TheVariants.{Path}
use Rattle.program_defs.specs.declared.script.Step.TheVariants.{Begin, Reply}
use Rattle.load_maker.specs.Words.{Words, later, draw}
use Rattle.load_maker.specs.Generated.{numbered_name, operation_of_form, operation_of, program_of_form, drawn_program, step_of_form, drawn_step}

other : (form n : ℕ) → n < form → (form == n) ≡ false
other form n above = ne_eqb form n (λ e. omega (arith, e, above))

-- ---- operations

-- from the form to the operation
pub op_form : (gets : ℕ) (words : Words) {v : Name} {w u : Words} {form : ℕ} → v ≡ numbered_name (codes "v") (words 0 % 40) → w ≡ later words → form ≡ w 0 % 8 → u ≡ later w
    → operation_of_form gets v form u ≡ operation_of gets words
unfolding operation_of
op_form gets words d l e k =
    let form_is = e ∙ ap (λ (w : Words). w 0 % 8) l in
    let left = k ∙ ap later l in
    λ i. operation_of_form gets (d i) (form_is i) (left i)

-- an operation of a form below 3 is a `create`, and takes no more words
pub create_form : (gets : ℕ) (v : Name) (form : ℕ) (words : Words) → form < 3 → (Create v, words) ≡ operation_of_form gets v form words
unfolding operation_of_form
create_form gets v form words small = sym (cond-true (nat_lt form 3) _ _ (lt-ltb form 3 small))

-- one of form 5 is a `get` if fewer than 1,000 of them precede it
pub get_form : (gets : ℕ) (v : Name) (words : Words) → nat_lt gets 1000 ≡ true → (Get v, words) ≡ operation_of_form gets v 5 words
unfolding operation_of_form
get_form gets v words few = sym (cond-true (nat_lt gets 1000) _ _ few)

-- an operation of form 5 after 1,000 gets is a `delete`, and takes no more words
pub delete_form : (gets : ℕ) (v : Name) (words : Words) → nat_lt gets 1000 ≡ false → (Delete v, words) ≡ operation_of_form gets v 5 words
unfolding operation_of_form
delete_form gets v words many = sym (cond-false (nat_lt gets 1000) _ _ many)

-- one of a form above 6 is an `unlink` of a drawn edge
pub unlink_form : (gets : ℕ) (v : Name) (form : ℕ) (words : Words) → 6 < form
    → draw 6 words (λ edge words. (Unlink v (numbered_name (codes "e") edge), words)) ≡ operation_of_form gets v form words
unfolding operation_of_form
unlink_form gets v form words large =
    sym (cond-false (nat_lt form 3) _ _ (le-ltb form 3 (omega (arith, large)))
    ∙ cond-false (form == 3) _ _ (other form 3 (omega (arith, large)))
    ∙ cond-false (form == 4) _ _ (other form 4 (omega (arith, large)))
    ∙ cond-false (form == 5) _ _ (other form 5 (omega (arith, large)))
    ∙ cond-false (form == 6) _ _ (other form 6 large))

-- ---- programs

-- what the form and the vertex drawn from words give is the program drawn from them
pub program_form : (words : Words) {v : Name} {w u : Words} {form : ℕ} → form ≡ words 0 % 4 → w ≡ later words → v ≡ numbered_name (codes "v") (w 0 % 40) → u ≡ later w
    → program_of_form v form u ≡ drawn_program words
unfolding drawn_program
program_form words d l e k =
    let vertex_is = e ∙ ap (λ (w : Words). numbered_name (codes "v") (w 0 % 40)) l in
    let left = k ∙ ap later l in
    λ i. program_of_form (vertex_is i) (d i) (left i)

-- a program of a form above 2 is a `path` to a drawn vertex within a drawn bound
pub path_form : (v : Name) (form : ℕ) (words : Words) → 2 < form
    → draw 40 words (λ to words. draw 5 words (λ bound words. (Path v (numbered_name (codes "v") to) bound None, words))) ≡ program_of_form v form words
unfolding program_of_form
path_form v form words large =
    sym (cond-false (form == 0) _ _ (other form 0 (omega (arith, large)))
    ∙ cond-false (form == 1) _ _ (other form 1 (omega (arith, large)))
    ∙ cond-false (form == 2) _ _ (other form 2 large))

-- ---- steps

-- what the form drawn from words gives is the step drawn from them
pub step_form : (size : ℕ) (words : Words) {w : Words} {form : ℕ} → form ≡ words 0 % 10 → w ≡ later words → step_of_form size form w ≡ drawn_step size words
unfolding drawn_step
step_form size words d l = λ i. step_of_form size (d i) (l i)

-- a step of a form below 2 is the begin of a drawn request
pub begin_form : (size form : ℕ) (words : Words) → form < 2 → draw size words (λ request words. (Begin request, words)) ≡ step_of_form size form words
unfolding step_of_form
begin_form size form words small = sym (cond-true (nat_lt form 2) _ _ (lt-ltb form 2 small))

-- a step of a form above 8 is the reply of a drawn request
pub reply_form : (size form : ℕ) (words : Words) → 8 < form → draw size words (λ request words. (Reply request, words)) ≡ step_of_form size form words
unfolding step_of_form
reply_form size form words large =
    sym (cond-false (nat_lt form 2) _ _ (le-ltb form 2 (omega (arith, large)))
    ∙ cond-false (form == 2) _ _ (other form 2 (omega (arith, large)))
    ∙ cond-false (form == 3) _ _ (other form 3 (omega (arith, large)))
    ∙ cond-false (form == 4) _ _ (other form 4 (omega (arith, large)))
    ∙ cond-false (form == 5) _ _ (other form 5 (omega (arith, large)))
    ∙ cond-false (form == 6) _ _ (other form 6 (omega (arith, large)))
    ∙ cond-false (form == 7) _ _ (other form 7 (omega (arith, large)))
    ∙ cond-false (form == 8) _ _ (other form 8 large))
