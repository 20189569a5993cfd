-- Limits that are kept, by a script's requests and by those of each part at its front.
-- Used by Reached, ReadAgain and SmallScripts.
use Rattle.std.proofs.Common.{◌≡◌, ℕ, ◌≤◌, Bool, true, false, cond, List, [], ◌∷◌, ◌++◌, length, Option, Some, None, refl, sym, ap, ◌∙◌, arith}
use Rattle.std.specs.Prelude.{nat_lt}
use Rattle.std.specs.List.{flat_map}
use Rattle.std.proofs.lemmas.Bool.{cond-false, ltb-false, le-ltb}
use Rattle.std.proofs.lemmas.Grind.{flat_map-append}
use Rattle.std.proofs.lemmas.List.{length-append}
use Rattle.std.proofs.lemmas.List.Sums.{fold-append, sum_by-append}
use Rattle.weave_data.specs.declared.name.Name.{Name}
use Rattle.graph_ops.specs.Mentions.{is_among, with_name}
use Rattle.graph_ops.specs.Operations.{is_get}
use Rattle.graph_ops.specs.declared.op.Op.{Op}
use Rattle.program_defs.specs.declared.script.Request.{Request}
use Rattle.program_defs.specs.declared.script.Work.TheVariants.{Change}
use Rattle.program_defs.specs.Works.{is_look}
use Rattle.weave_script.specs.declared.fault.Cause.{Cause}
use Rattle.weave_script.specs.declared.read.partial_script.Opening.{Opening}
use Rattle.weave_script.specs.Limits.{over_limit, counts_of_script, with_names, vertices_of, vertices_of_op, vertices_of_work, count_gets, gets_of_work, count_programs}
use Rattle.weave_script.specs.Requests.{request_of}
use Rattle.weave_script.proofs.Indexing.{vertices_of-push, gets_of-push, programs_of-push}

-- requests by themselves meet no limit
pub record AreFew (requests : List Request) : Type 0 where
  pub requests_few : length requests ≤ 10000
  pub programs_few : count_programs requests ≤ 1000
  pub gets_few : count_gets requests ≤ 1000
  pub vertices_few : length (vertices_of requests) ≤ 10000

passed : (b : Bool) (cause : Cause) (rest : Option Cause) {P : Type 0} → cond b (Some cause) rest ≡ None → (b ≡ false → rest ≡ None → P) → P
passed true cause rest h next = absurd cc
passed false cause rest h next = next refl h

-- if no limit is met
pub within-few : (operations : ℕ) (requests : List Request) (steps : ℕ) → over_limit (counts_of_script operations requests steps) ≡ None → (operations ≤ 64) × AreFew requests × (steps ≤ 100000)
within-few operations requests steps h =
    passed _ _ _ h (λ a h. passed _ _ _ h (λ b h. passed _ _ _ h (λ c h. passed _ _ _ h (λ d h. passed _ _ _ h (λ e h. passed _ _ _ h (λ f h.
    (ltb-false _ _ a, record { requests_few = ltb-false _ _ b; programs_few = ltb-false _ _ c; gets_few = ltb-false _ _ d; vertices_few = ltb-false _ _ e }, ltb-false _ _ f)))))))

-- few requests, with at most 64 operations and at most 100,000 steps, meet no limit of the table
pub few-within : (operations : ℕ) (requests : List Request) (steps : ℕ) → operations ≤ 64 → AreFew requests → steps ≤ 100000 → over_limit (counts_of_script operations requests steps) ≡ None
few-within operations requests steps a h f =
    cond-false (nat_lt 64 operations) _ _ (le-ltb 64 operations a)
    ∙ cond-false (nat_lt 10000 (length requests)) _ _ (le-ltb 10000 (length requests) h.requests_few)
    ∙ cond-false (nat_lt 1000 (count_programs requests)) _ _ (le-ltb 1000 (count_programs requests) h.programs_few)
    ∙ cond-false (nat_lt 1000 (count_gets requests)) _ _ (le-ltb 1000 (count_gets requests) h.gets_few)
    ∙ cond-false (nat_lt 10000 (length (vertices_of requests))) _ _ (le-ltb 10000 (length (vertices_of requests)) h.vertices_few)
    ∙ cond-false (nat_lt 100000 steps) _ _ (le-ltb 100000 steps f)

-- ---- a part at the front meets no limit either

grown : (b : Bool) (names more : List Name) → length names ≤ length (cond b names (names ++ more))
grown true names more = omega arith
grown false names more = omega (arith, length-append names more)

with_names-grow : (names more : List Name) → length names ≤ length (with_names names more)
with_names-grow names [] = omega arith
with_names-grow names (name ∷ more) =
    let one = grown (is_among names name) names (name ∷ []) in
    let rest = with_names-grow (with_name name names) more in
    omega (arith, one, rest)

-- the first ones of requests that meet no limit meet none either
pub front_few : (front back : List Request) → AreFew (front ++ back) → AreFew front
front_few front back h =
    let vertices : vertices_of (front ++ back) ≡ with_names (vertices_of front) (flat_map (λ (r : Request). vertices_of_work r.work) back) =
    ap (λ names. with_names [] names) (flat_map-append (λ (r : Request). vertices_of_work r.work) front back)
    ∙ fold-append (λ so_far name. with_name name so_far) [] (flat_map (λ (r : Request). vertices_of_work r.work) front) (flat_map (λ (r : Request). vertices_of_work r.work) back) in
    record {
      requests_few = omega (arith, length-append front back, h.requests_few);
      programs_few = omega (arith, sum_by-append (λ (r : Request). cond (is_look r.work) 1 0) front back, h.programs_few);
      gets_few = omega (arith, sum_by-append (λ (r : Request). gets_of_work r.work) front back, h.gets_few);
      vertices_few = omega (arith, ap length vertices, with_names-grow (vertices_of front) (flat_map (λ (r : Request). vertices_of_work r.work) back), h.vertices_few);
    }

-- also with some of the last transaction's operations
pub front_ops_few : (front : List Request) (opening : Opening) (ops more : List Op) → AreFew (front ++ request_of opening (Change (ops ++ more)) ∷ []) → AreFew (front ++ request_of opening (Change ops) ∷ [])
front_ops_few front opening ops more h =
    let whole = request_of opening (Change (ops ++ more)) in
    let some = request_of opening (Change ops) in
    let vertices : vertices_of (front ++ whole ∷ []) ≡ with_names (vertices_of (front ++ some ∷ [])) (flat_map vertices_of_op more) =
    vertices_of-push front whole
    ∙ ap (λ names. with_names (vertices_of front) names) (flat_map-append vertices_of_op ops more)
    ∙ fold-append (λ so_far name. with_name name so_far) (vertices_of front) (flat_map vertices_of_op ops) (flat_map vertices_of_op more)
    ∙ ap (λ names. with_names names (flat_map vertices_of_op more)) (sym (vertices_of-push front some)) in
    record {
      requests_few = omega (arith, length-append front (whole ∷ []), length-append front (some ∷ []), h.requests_few);
      programs_few = omega (arith, programs_of-push front whole, programs_of-push front some, h.programs_few);
      gets_few = omega (arith, gets_of-push front whole, gets_of-push front some, sum_by-append (λ op. cond (is_get op) 1 0) ops more, h.gets_few);
      vertices_few = omega (arith, ap length vertices, with_names-grow (vertices_of (front ++ some ∷ [])) (flat_map vertices_of_op more), h.vertices_few);
    }
