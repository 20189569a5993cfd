-- Of each vertex the last transaction and the programs since then, among listed requests. No public contract cites it.
use Rattle.std.specs.Prelude.{◌≡◌, ◌⊎◌, ◌||◌, ◌&&◌, ◌==◌, ℕ, Bool, false, not, IsTrue, List, [], Option, Some, None, if◌then◌else◌}
use Rattle.std.specs.Map.{lookup}
use Rattle.std.specs.Option.{unwrap_or}
use Rattle.weave_data.specs.Names.{same_name}
use Rattle.weave_data.specs.declared.name.Name.{Name}
use Rattle.graph_ops.specs.PlainGraph.{PlainGraph}
use Rattle.program_defs.specs.declared.script.Script.{Script}
use Rattle.program_defs.specs.declared.script.Work.{Work}
use Rattle.program_defs.specs.declared.script.Work.TheVariants.{Change, Look}
use Rattle.program_defs.specs.Visits.{IsVisited}
use Rattle.program_defs.specs.Works.{is_change}
use Rattle.report_rules.specs.declared.report.Report.{Report}
use Rattle.report_rules.specs.Lookups.{RequestPrecedes, is_in, work_names}
use Rattle.report_rules.specs.Meetings.{RequestIsAt, is_transaction}
use Rattle.order_witness.specs.Begun.{request_precedes}
use Rattle.run_judge.specs.declared.vertices.Unordered.{Unordered}
use Rattle.run_judge.specs.declared.vertices.Vertices.{Vertices}

-- work is at a vertex, if this is the graph at its place
abbrev pub IsOn : PlainGraph → Name → Work → Type 0
IsOn graph v (Change ops) = IsTrue (work_names v (Change ops))
IsOn graph v (Look program) = IsVisited graph program v

-- the last transaction at a vertex
abbrev pub last_transaction : Vertices → Name → Option ℕ
last_transaction vertices v = lookup (same_name v) vertices.lasts.entries

-- the programs there since then
abbrev pub later_programs : Vertices → Name → List ℕ
later_programs vertices v = unwrap_or (lookup (same_name v) vertices.since.entries) []

-- of a vertex, after the requests before: the last transaction there, and the programs since then; each other one there
-- precedes that transaction
pub record IsKeptAt (script : Script) (report : Report) (before : List ℕ) (v : Name) (last : Option ℕ)
    (since : List ℕ) : Type 0 where
  pub last_is : (t : ℕ) → last ≡ Some t
      → IsTrue (is_in t before) × IsTrue (is_transaction script t) × RequestIsAt script report v t
  pub since_are : (p : ℕ) → IsTrue (is_in p since)
      → IsTrue (is_in p before) × (is_transaction script p ≡ false) × RequestIsAt script report v p
  pub others : (e : ℕ) → IsTrue (is_in e before) → RequestIsAt script report v e
      → (last ≡ Some e) ⊎ (IsTrue (is_in e since) ⊎ ((t : ℕ) × (last ≡ Some t) × RequestPrecedes report e t))

-- this of each vertex
abbrev pub AreKeptAtAll : Script → Report → List ℕ → Vertices → Type 0
AreKeptAtAll script report before vertices =
    (v : Name) → IsKeptAt script report before v (last_transaction vertices v) (later_programs vertices v)

-- the request is kept of a vertex, and has to precede the next one there, which changes it or not
abbrev pub IsComparedAt : Vertices → Name → Bool → ℕ → Type 0
IsComparedAt vertices v changes e =
    (last_transaction vertices v ≡ Some e) ⊎ (IsTrue changes × IsTrue (is_in e (later_programs vertices v)))

-- of a vertex, the request is noted if it is there; else nothing changes
abbrev pub IsNotedAt : Vertices → Vertices → Name → Type 0 → Bool → ℕ → Type 0
IsNotedAt old new v There changes r =
    (There × (last_transaction new v ≡ (if changes then Some r else last_transaction old v))
    × ((e : ℕ) → is_in e (later_programs new v) ≡ (not changes && (e == r || is_in e (later_programs old v)))))
    ⊎ ((¬ There) × (last_transaction new v ≡ last_transaction old v)
    × ((e : ℕ) → is_in e (later_programs new v) ≡ is_in e (later_programs old v)))

-- Of a request with this work, compared with those that are kept: each that has to precede it does, or this one
-- doesn't.
abbrev pub IsComparison : Report → PlainGraph → Vertices → Work → ℕ → Option Unordered → Type 0
IsComparison report graph vertices work r None =
    (v : Name) (e : ℕ) → IsOn graph v work → IsComparedAt vertices v (is_change work) e
    → IsTrue (request_precedes report e r)
IsComparison report graph vertices work r (Some found) =
    IsOn graph found.vertex work × IsComparedAt vertices found.vertex (is_change work) found.earlier
    × (request_precedes report found.earlier r ≡ false)
