-- When a state is that of a core, and which steps a core is given.
use Rattle.std.specs.Prelude.{◌≡◌, ◌≤◌, ◌<◌, List, [], ◌∷◌, Contains, IsTrue, Some, length, ⊤}
use Rattle.weave_data.specs.Limits.{most_epoch, most_sessions}
use Rattle.vector_stamp.specs.declared.clock.Clock.{Clock}
use Rattle.vector_stamp.specs.Order.{has_64_bits}
use Rattle.program_defs.specs.declared.script.Request.{Request}
use Rattle.program_defs.specs.declared.script.Script.{Script}
use Rattle.program_defs.specs.declared.script.Step.{Step}
use Rattle.program_defs.specs.declared.script.Step.TheVariants.{Begin, Judge, Send, Say, Hear, Nop, Deliver, Apply, Visit, Reply, Collect, Epoch, Restart}
use Rattle.report_rules.specs.Lookups.{request_at}
use Rattle.report_rules.specs.declared.report.StepAnswer.TheVariants.{Ok}
use Rattle.weave_account.specs.Clocks.{IsKnown}
use Rattle.weave_account.specs.IsAccount.{IsAccount}
use Rattle.step_rules.specs.CoreState.{CoreState}
use Rattle.step_rules.specs.Answers.{answer_of}
use Rattle.step_rules.specs.Entries.{stamp_to_begin}
use Rattle.step_rules.specs.Trace.{state_after}

-- The logs are an account, of 64 sessions, and each notice is a known clock: one of eight counts that counts no events
-- but those that were made, and no epoch but those that were raised. Nothing more is asked: so logs of any account,
-- with authors other than 0, may go on as a core.
pub record IsCore (script : Script) (state : CoreState) : Type 0 where
  pub account : IsAccount script state.account
  pub sessions : length state.account.sessions ≡ most_sessions
  pub notices : (clock : Clock) → Contains state.notices clock → IsKnown state.account clock

-- a step's requests, gatekeepers and shards are those of the script, notices and messages are numbered from 1, and an
-- epoch is 1 to 1,000,000
abbrev pub IsStepOf : Script → Step → Type 0
IsStepOf script (Begin r) = r < length script.requests
IsStepOf script (Judge gate) = gate < script.gates
IsStepOf script (Send gate) = gate < script.gates
IsStepOf script (Say gate) = gate < script.gates
IsStepOf script (Hear gate notice) = (gate < script.gates) × (1 ≤ notice)
IsStepOf script (Nop gate shard) = (gate < script.gates) × (shard < script.shards)
IsStepOf script (Deliver gate shard number) = (gate < script.gates) × (shard < script.shards) × (1 ≤ number)
IsStepOf script (Apply shard gate) = (shard < script.shards) × (gate < script.gates)
IsStepOf script (Visit r) = r < length script.requests
IsStepOf script (Reply r) = r < length script.requests
IsStepOf script (Collect shard) = shard < script.shards
IsStepOf script (Epoch gate epoch) = (gate < script.gates) × (1 ≤ epoch) × (epoch ≤ most_epoch)
IsStepOf script (Restart gate epoch) = (gate < script.gates) × (1 ≤ epoch) × (epoch ≤ most_epoch)

-- a `begin` that is done gives a stamp whose numbers have 64 bits; of other steps nothing is asked
abbrev pub IsSmall : Script → CoreState → Step → Type 0
IsSmall script state (Begin r) =
    (request : Request) → request_at script r ≡ Some request
    → IsTrue (has_64_bits (stamp_to_begin state.account request).clock)
IsSmall script state step = ⊤

-- if the step is done its stamp is small
abbrev pub IsSmallIfDone : Script → CoreState → Step → Type 0
IsSmallIfDone script state step = answer_of script state step ≡ Ok → IsSmall script state step

-- steps of the script, one after another, each `begin` that is done with a small stamp
abbrev pub AreSteps : Script → CoreState → List Step → Type 0
AreSteps script state [] = ⊤
AreSteps script state (step ∷ steps) = IsStepOf script step × IsSmallIfDone script state step
    × AreSteps script (state_after script state step) steps
