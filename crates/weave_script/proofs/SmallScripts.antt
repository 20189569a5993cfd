-- A valid script has at most 10,000 requests, and 64 operations in each transaction.
-- Used by `scripts_are_small` and CheckLaws.
use Rattle.std.proofs.Common.{◌≡◌, ℕ, zero, suc, ◌≤◌, ◌<◌, List, [], ◌∷◌, length, Some, subst, arith}
use Rattle.std.specs.Prelude.{slice_get}
use Rattle.std.proofs.lemmas.Option.{slice_get_within}
use Rattle.std.specs.List.{AllByRecursion}
use Rattle.program_defs.specs.declared.script.Request.{Request}
use Rattle.program_defs.specs.declared.script.Script.{Script}
use Rattle.program_defs.specs.declared.script.Work.{Work}
use Rattle.program_defs.specs.declared.script.Work.TheVariants.{Change, Look}
use Rattle.program_defs.specs.Limits.{IsWithinLimits}
use Rattle.program_defs.specs.Works.{ops_of}
use Rattle.weave_script.specs.Scripts.{IsWork, IsRequest, IsScript, steps_of}
use Rattle.weave_script.proofs.LimitLaws.{within-few}

-- a valid script has at most 10,000 requests
pub few_requests : (script : Script) → IsScript script → length script.requests ≤ 10000
few_requests script h = (within-few 0 script.requests (length (steps_of script.steps)) h.within).1.requests_few

few_ops : (work : Work) → IsWork work → length (ops_of work) ≤ 64
few_ops (Change ops) h = h.1
few_ops (Look program) h = omega arith

each_small : (gates : ℕ) (requests : List Request) → AllByRecursion (IsRequest gates) requests → AllByRecursion (λ request. length (ops_of request.work) ≤ 64) requests
each_small gates [] h = tt
each_small gates (request ∷ requests) h = (few_ops request.work h.0.work, each_small gates requests h.1)

-- each transaction of a valid script has at most 64 operations
pub small_transactions : (script : Script) → IsScript script → AllByRecursion (λ request. length (ops_of request.work) ≤ 64) script.requests
small_transactions script h = each_small script.gates script.requests h.requests

-- what holds of each element holds of the one at a place
each-at : {A : Type 0} (P : A → Type 0) (xs : List A) (i : ℕ) (x : A) → AllByRecursion P xs → slice_get xs i ≡ Some x → P x
each-at P [] i x all e = let within = slice_get_within [] i x e in absurd (omega (arith, within))
each-at P (y ∷ xs) zero x all e = let same : y ≡ x = cc in subst P same all.0
each-at P (y ∷ xs) (suc i) x all e = each-at P xs i x all.1 e

below-64 : (session : ℕ) → session ≤ 63 → session < 64
below-64 session h = omega (arith, h)

-- a script that has a text is within the limits
pub within-limits : (script : Script) → IsScript script → IsWithinLimits script
within-limits script h = record {
  some_gate = h.gates.0;
  few_gates = h.gates.1;
  some_shard = h.shards.0;
  few_shards = h.shards.1;
  few_requests = few_requests script h;
  homes = λ r request e. (each-at (IsRequest script.gates) script.requests r request h.requests e).gate;
  sessions = λ r request e. below-64 request.session (each-at (IsRequest script.gates) script.requests r request h.requests e).session;
  few_ops = λ r request e. few_ops request.work (each-at (IsRequest script.gates) script.requests r request h.requests e).work;
}
