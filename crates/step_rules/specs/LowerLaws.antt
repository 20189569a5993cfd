-- The laws of the crates below that the law of steps relies on, in one record. No public contract cites this.
use Rattle.std.specs.Prelude.{◌↔◌, List, Contains, IsTrue}
use Rattle.weave_data.specs.declared.name.Name.{Name}
use Rattle.graph_ops.specs.Mentions.{is_among}
use Rattle.step_rules.specs.AccountLaws.{AccountLaws}
use Rattle.step_rules.specs.LogLaws.{LogLaws}
use Rattle.step_rules.specs.StampLaws.{StampLaws}
use Rattle.step_rules.specs.FurtherLaws.{FurtherAccountLaws, ProgramLaws}

-- further laws of accounts, and of programs
pub record FurtherLowerLaws : Type 0 where
  pub accounts : FurtherAccountLaws
  pub programs : ProgramLaws

-- laws of accounts, of logs, of stamps, and of names
pub record LawsForSteps : Type 0 where
  pub accounts : AccountLaws
  pub logs : LogLaws
  pub stamps : StampLaws
  -- each_vertex_is_named_once
  pub among_tested : (names : List Name) (v : Name) → IsTrue (is_among names v) ↔ Contains names v
