-- The two worked lists of steps with `restart`, computed: the whole report of each, with the answers of its steps, and
-- the versions that are kept in the second one.
-- Used by nothing: worked examples.
use Rattle.std.specs.Prelude.{◌≡◌, refl, List, [], ◌∷◌, Some}
use Rattle.graph_ops.specs.declared.op.Op.TheVariants.{Create, Set}
use Rattle.program_defs.specs.declared.program.Program.TheVariants.{Show}
use Rattle.program_defs.specs.declared.program.Answer.TheVariants.{Shown}
use Rattle.program_defs.specs.declared.script.Script.{Script}
use Rattle.program_defs.specs.declared.script.Step.{Step}
use Rattle.program_defs.specs.declared.script.Step.TheVariants.{Begin, Judge, Send, Nop, Deliver, Apply, Visit, Reply, Collect, Restart}
use Rattle.report_rules.specs.declared.report.Report.{Report}
use Rattle.report_rules.specs.declared.report.ReplyState.TheVariants.{Committed, Finished}
use Rattle.report_rules.specs.declared.report.StepAnswer.TheVariants.{Ok, Busy, Old}
use Rattle.weave_entries.specs.ShardReplay.{kept_of}
use Rattle.weave_account.specs.Account.{shard_log}
use Rattle.step_rules.specs.Trace.{trace_of}
use Rattle.step_rules.proofs.Computed.{traced_report}
use Rattle.step_rules.proofs.RowWords.{script, tx, prog, stamp, reply, pair, record_of, n_k, n_p, n_t1, n_t2, n_v, n_x}
use Rattle.step_rules.proofs.Rows.{script_two_writers}

-- a judged flight is sent after the return, by the verdict that the store keeps
abbrev steps_judged_flight : List Step
steps_judged_flight =
    Begin 0 ∷ Judge 0 ∷ Restart 0 1 ∷ Restart 0 1 ∷ Nop 0 0 ∷ Send 0 ∷ Begin 1 ∷ Judge 1 ∷ Send 1 ∷ Nop 0 0 ∷
    Deliver 0 0 1 ∷ Apply 0 0 ∷ Deliver 1 0 1 ∷ Apply 0 1 ∷ []

abbrev report_judged_flight : Report
report_judged_flight = record {
  replies =
      reply 0 (Some (stamp 0 (1 ∷ []))) (Committed 1 []) ∷
      reply 1 (Some (stamp 1 (0 ∷ 1 ∷ []))) (Committed 2 []) ∷
      [];
  pairs = pair n_v 0 1 ∷ [];
  order = 0 ∷ 1 ∷ [];
  answers = Ok ∷ Ok ∷ Ok ∷ Old ∷ Busy ∷ Ok ∷ Ok ∷ Ok ∷ Ok ∷ Ok ∷ Ok ∷ Ok ∷ Ok ∷ Ok ∷ [];
}

judged_flight : traced_report script_two_writers steps_judged_flight ≡ report_judged_flight
judged_flight = refl

abbrev script_running_program : Script
script_running_program = script 1 1 (
    tx n_t1 0 0 (Create n_v ∷ []) ∷
    prog n_p 1 0 (Show n_v) ∷
    tx n_t2 0 0 (Set n_v n_k n_x ∷ []) ∷
    []
    )

-- a running program is not forgotten: the low mark after the return counts its stamp of the older epoch
abbrev steps_running_program : List Step
steps_running_program =
    Begin 0 ∷ Judge 0 ∷ Send 0 ∷ Reply 0 ∷ Begin 1 ∷ Begin 2 ∷ Judge 0 ∷ Send 0 ∷ Restart 0 1 ∷ Nop 0 0 ∷
    Deliver 0 0 1 ∷ Deliver 0 0 2 ∷ Deliver 0 0 3 ∷ Apply 0 0 ∷ Apply 0 0 ∷ Apply 0 0 ∷ Collect 0 ∷ Visit 1 ∷
    Reply 1 ∷ []

abbrev report_running_program : Report
report_running_program = record {
  replies =
      reply 0 (Some (stamp 0 (1 ∷ []))) (Committed 1 []) ∷
      reply 1 (Some (stamp 0 (2 ∷ []))) (Finished (Shown (Some (record_of [] [])))) ∷
      reply 2 (Some (stamp 0 (3 ∷ []))) (Committed 2 []) ∷
      [];
  pairs = [];
  order = 0 ∷ 1 ∷ 2 ∷ [];
  answers =
      Ok ∷ Ok ∷ Ok ∷ Ok ∷ Ok ∷ Ok ∷ Ok ∷ Ok ∷ Ok ∷ Ok ∷ Ok ∷ Ok ∷ Ok ∷ Ok ∷ Ok ∷ Ok ∷ Ok ∷ Ok ∷ Ok ∷ [];
}

running_program : traced_report script_running_program steps_running_program ≡ report_running_program
running_program = refl

-- both versions are kept at the end
two_kept : kept_of n_v (shard_log (trace_of script_running_program steps_running_program).state.account 0) ≡ 2
two_kept = refl
