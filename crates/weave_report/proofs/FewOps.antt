-- A transaction of a script with distinct names has fewer than 2^32 operations.
-- Used by `ops` and ReportRead.
use Rattle.std.proofs.Common.{ℕ, zero, suc, ◌<◌, ◌^◌, List, [], ◌∷◌, length, lit<}
use Rattle.std.specs.Prelude.{slice_get}
use Rattle.std.specs.List.{AllByRecursion}
use Rattle.std.specs.Option.{option_map_or}
use Rattle.program_defs.specs.declared.script.Request.{Request}
use Rattle.program_defs.specs.declared.script.Script.{Script}
use Rattle.program_defs.specs.Works.{ops_of}
use Rattle.weave_report.specs.ReadingReplies.{ops_of_request}
use Rattle.weave_report.specs.TextOf.{HasDistinctNames}

few_in_place : (requests : List Request) (r : ℕ) → AllByRecursion (λ (request : Request). length (ops_of request.work) < 2 ^ 32) requests
    → length (option_map_or (λ (request : Request). ops_of request.work) (slice_get requests r) []) < 2 ^ 32
few_in_place [] r h = lit< tt
few_in_place (request ∷ requests) zero h = h.0
few_in_place (request ∷ requests) (suc r) h = few_in_place requests r h.1

-- a transaction of a script with distinct names has fewer than 2^32 operations
pub few_ops_at : (script : Script) (r : ℕ) → HasDistinctNames script → length (ops_of_request script r) < 2 ^ 32
few_ops_at script r h = few_in_place script.requests r h.few_ops
