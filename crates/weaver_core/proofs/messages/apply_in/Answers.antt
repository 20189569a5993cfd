use Rattle.std.proofs.Common.{◌≡◌, ℕ, sym, subst}
use Rattle.weave_data.proofs.Results.{on_err_known}
use Rattle.shard_node.specs.Shards.{IsRightlyUnapplied}
use Rattle.shard_node.specs.declared.fault.ApplyFault.{ApplyFault}
use Rattle.shard_node.specs.declared.fault.ApplyFault.TheVariants as fault
use Rattle.report_rules.specs.declared.report.StepAnswer.{StepAnswer}
use Rattle.weaver_core.specs.Messages.{AppliesAtShard, IsAnswerToFault}
use Rattle.weaver_core.specs.ShardTable.{ShardTable, shard_log_at}
use Rattle.weaver_core.proofs.Results.{if_ok_map}
use Rattle.weaver_core.proofs.messages.apply_in.Goals as goal

-- what is answered to a fault that is right
answers-fault : (old new : ShardTable) (s g : ℕ) (why : ApplyFault) → IsRightlyUnapplied g (shard_log_at old s) why → new ≡ old → (answer : StepAnswer) → IsAnswerToFault why answer → AppliesAtShard old new s g answer
answers-fault old new s g fault.Empty right same answer is = subst (AppliesAtShard old new s g) (sym is) (same, right)
answers-fault old new s g (fault.Waits v) right same answer is = subst (AppliesAtShard old new s g) (sym is) (same, record { head = right.0; is = right.1; waits = right.2 })
answers-fault old new s g fault.Memory right same answer is = absurd is

pub returns-in-Err-clause-applies : goal.returns-in-Err-clause-applies
returns-in-Err-clause-applies c =
    if_ok_map c.answer_to.result _ _
    (λ (answer : StepAnswer) is. answers-fault c.args.shards.now c.apply.new.self c.args.shard c.args.gate c.in-Err.fault c.in-Err.ensures.unapplied c.in-Err.ensures.refused answer is)
    c.answer_to.ensures.answer

pub returns-in-Err-clause-refused : goal.returns-in-Err-clause-refused
returns-in-Err-clause-refused c = on_err_known _ _ c.in-Err.ensures.refused
