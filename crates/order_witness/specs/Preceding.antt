-- Precedence between numbered events, by direct steps: the order of stamps, and the pairs. No public contract cites it.
use Rattle.std.specs.Prelude.{ℕ, ◌<◌, Bool, ◌||◌, IsTrue, List}
use Rattle.report_rules.specs.declared.report.Report.{Report}
use Rattle.report_rules.specs.Lookups.{is_in, RequestPrecedes}
use Rattle.order_witness.specs.Begun.{is_request_before}
use Rattle.order_witness.specs.ByNumber.{list_at}
use Rattle.order_witness.specs.Heads.{item}
use Rattle.std.specs.Prelude.{◌↔◌}

-- a relation between numbers, as a test
abbrev pub Test : Type 0
Test = ℕ → ℕ → Bool

-- the relation is transitive
abbrev pub IsTransitive : Test → Type 0
IsTransitive leads = (a b c : ℕ) → IsTrue (leads a b) → IsTrue (leads b c) → IsTrue (leads a c)

-- the stamp of a is before that of b, or a pair joins a and b: of each event b a list has the earlier ends of its pairs
abbrev pub leads_directly : Test → (ℕ → List ℕ) → Test
leads_directly before ends a b = before a b || is_in a (ends b)

-- the least transitive relation that has these steps
pub data LeadsBySteps (direct : Test) : ℕ → ℕ → Type 0 where
  Directly : (a b : ℕ) → IsTrue (direct a b) → LeadsBySteps direct a b
  Through : (a b c : ℕ) → LeadsBySteps direct a b → LeadsBySteps direct b c → LeadsBySteps direct a c

-- the event precedes one of the first `count` of the order
pub record PrecedesOne (direct : Test) (order : List ℕ) (count a : ℕ) : Type 0 where
  pub place : ℕ
  pub within : place < count
  pub precedes : LeadsBySteps direct a (item order place)

-- the direct steps of a report: of each request `befores` has the earlier ends of its pairs
abbrev pub direct_steps : Report → List (List ℕ) → Test
direct_steps report befores = leads_directly (is_request_before report) (list_at befores)

-- the direct steps lead from one request to another exactly if it precedes it
abbrev pub AreStepsOf : Report → List (List ℕ) → Type 0
AreStepsOf report befores = (a b : ℕ) → LeadsBySteps (direct_steps report befores) a b ↔ RequestPrecedes report a b
