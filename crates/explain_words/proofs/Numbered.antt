-- The operations of a script that was read can be numbered. Used by `judged`.
use Rattle.std.proofs.Common.{◌≡◌, ℕ, ◌≤◌, ◌^◌, true, List, [], ◌∷◌, length, IsTrue, refl, arith}
use Rattle.std.specs.List.{AllByRecursion, list_all}
use Rattle.std.proofs.lemmas.Bool.{and_from, lt-ltb}
use Rattle.program_defs.specs.declared.script.Request.{Request}
use Rattle.program_defs.specs.declared.script.Script.{Script}
use Rattle.program_defs.specs.declared.script.Work.{Work}
use Rattle.program_defs.specs.declared.script.Work.TheVariants.{Change, Look}
use Rattle.program_defs.specs.Works.{ops_of}
use Rattle.order_witness.specs.Judgement as judgement

-- if each transaction has at most 64 operations, they are few enough to be numbered
numbered_work : (work : Work) → length (ops_of work) ≤ 64 → judgement.is_numbered_work work ≡ true
numbered_work (Change ops) few = lt-ltb (length ops) (2 ^ 32) (omega (arith, few))
numbered_work (Look program) few = refl

all_numbered : (requests : List Request) → AllByRecursion (λ (request : Request). length (ops_of request.work) ≤ 64) requests → list_all (λ (request : Request). judgement.is_numbered_work request.work) requests ≡ true
all_numbered [] few = refl
all_numbered (request ∷ requests) few = and_from (judgement.is_numbered_work request.work) _ (numbered_work request.work few.0) (all_numbered requests few.1)

-- if each transaction of a script has at most 64 operations, its operations can be numbered
pub numbered : (script : Script) → AllByRecursion (λ (request : Request). length (ops_of request.work) ≤ 64) script.requests → IsTrue (judgement.has_numbered_operations script)
numbered script few = all_numbered script.requests few
