-- The drawn parts make the script of the seed, and it is valid.
-- Used by `make`.
use Rattle.std.proofs.Common.{◌≡◌, ℕ, ◌*◌, ◌≤◌, List, [], Some, sym, ap, ◌∙◌, subst}
use Rattle.rand_pcg.specs.Lcg.{Lcg}
use Rattle.program_defs.specs.declared.script.Request.{Request}
use Rattle.program_defs.specs.declared.script.Script.{Script}
use Rattle.program_defs.specs.declared.script.Step.{Step}
use Rattle.weave_script.specs.Scripts.{IsScript}
use Rattle.load_maker.specs.Words.{Words, drawn_list, words_from}
use Rattle.load_maker.specs.Generated.{drawn_request, script_from, drawn_step}
use Rattle.load_maker.proofs.ValidScripts.{script_valid}

-- requests that a generator gives, and the steps that it gives after them
pub made_is : (size : ℕ) (generator start : Lcg) {w v : Words} {requests : List Request} {steps : List Step} {phases : List ℕ} → generator ≡ start
    → (requests, w) ≡ drawn_list drawn_request size (words_from generator) → (steps, v) ≡ drawn_list (λ _ words. drawn_step size words) (4 * size) w → phases ≡ []
    → record { gates = 3; shards = 4; requests = requests; phases = phases; steps = Some steps } ≡ script_from size (words_from start)
unfolding script_from
made_is size generator start seeded first then_steps none =
    let requests_are = first ∙ ap (λ generator. drawn_list drawn_request size (words_from generator)) seeded in
    let steps_are = then_steps ∙ ap (λ (p : List Request × Words). drawn_list (λ _ words. drawn_step size words) (4 * size) p.1) requests_are in
    λ i. record { gates = 3; shards = 4; requests = (requests_are i).0; phases = none i; steps = Some (steps_are i).0 }

-- what is such a script is valid
pub made_is_valid : (size : ℕ) (words : Words) {script : Script} → (1 ≤ size) × (size ≤ 10000) → script ≡ script_from size words → IsScript script
made_is_valid size words within exact = subst IsScript (sym exact) (script_valid size words within.0 within.1)
