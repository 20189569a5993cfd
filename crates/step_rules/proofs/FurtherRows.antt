-- Refusals in every combination that can hold, and lists of steps that only one part of a definition decides.
-- Used by RowsKept.
use Rattle.std.specs.Prelude.{◌≡◌, refl, List, [], ◌∷◌, None, Some}
use Rattle.graph_ops.specs.declared.op.Op.TheVariants.{Create, Set, Get}
use Rattle.graph_ops.specs.declared.op.Reason.TheVariants.{Exists}
use Rattle.program_defs.specs.declared.program.Program.TheVariants.{Show}
use Rattle.program_defs.specs.declared.program.Answer.TheVariants.{Shown}
use Rattle.program_defs.specs.declared.script.Script.{Script}
use Rattle.program_defs.specs.declared.script.Step.{Step}
use Rattle.program_defs.specs.declared.script.Step.TheVariants.{Begin, Judge, Send, Say, Hear, Nop, Deliver, Apply, Visit, Reply, Collect, Epoch}
use Rattle.report_rules.specs.declared.report.Report.{Report}
use Rattle.report_rules.specs.declared.report.ReplyState.TheVariants.{Unbegun, Begun, Committed, Refused, Finished}
use Rattle.report_rules.specs.declared.report.StepAnswer.TheVariants.{Ok, Twice, Early, Busy, Idle, Old, Unknown}
use Rattle.step_rules.proofs.Computed.{traced_report}
use Rattle.step_rules.proofs.RowWords.{script, tx, prog, stamp, raised_stamp, reply, pair, got, record_of, n_a, n_b, n_k, n_p, n_q, n_t1, n_t2, n_t3, n_t4, n_t5, n_u, n_v, n_w, n_x, n_y, n_c}

-- each refusal, and if two hold the first one; notices that are heard late; a refused transaction leaves nothing
abbrev pub script_first_refusal_that_holds : Script
script_first_refusal_that_holds = script 2 1 (
    tx n_t1 0 0 (Create n_v ∷ []) ∷
    prog n_p 0 0 (Show n_v) ∷
    tx n_t2 1 0 (Create n_u ∷ []) ∷
    tx n_t3 2 1 (Create n_v ∷ []) ∷
    tx n_t4 2 0 (Get n_v ∷ []) ∷
    prog n_q 3 0 (Show n_v) ∷
    tx n_t5 4 1 (Create n_w ∷ []) ∷
    []
    )

abbrev pub steps_first_refusal_that_holds : List Step
steps_first_refusal_that_holds =
    Judge 0 ∷ Send 0 ∷ Hear 1 1 ∷ Reply 0 ∷ Visit 5 ∷ Begin 0 ∷ Begin 0 ∷ Begin 2 ∷ Begin 1 ∷ Begin 4 ∷ Begin 5 ∷
    Nop 0 0 ∷ Send 0 ∷ Reply 0 ∷ Visit 0 ∷ Judge 0 ∷ Judge 0 ∷ Reply 0 ∷ Send 0 ∷ Send 0 ∷ Reply 0 ∷ Reply 0 ∷
    Begin 3 ∷ Judge 1 ∷ Send 1 ∷ Deliver 1 0 1 ∷ Reply 3 ∷ Say 1 ∷ Say 0 ∷ Begin 4 ∷ Hear 1 3 ∷ Hear 1 2 ∷
    Hear 1 1 ∷ Begin 6 ∷ Epoch 1 2 ∷ Epoch 1 2 ∷ Epoch 1 1 ∷ Judge 1 ∷ Send 1 ∷ Say 1 ∷ Hear 0 3 ∷ Hear 0 2 ∷
    Begin 1 ∷ []

abbrev report_first_refusal_that_holds : Report
report_first_refusal_that_holds = record {
  replies =
      reply 0 (Some (stamp 0 (1 ∷ []))) (Committed 1 []) ∷
      reply 1 (Some (raised_stamp 2 0 (1 ∷ []))) Begun ∷
      reply 2 None Unbegun ∷
      reply 3 (Some (stamp 1 (0 ∷ 1 ∷ []))) (Refused 1 Exists 1) ∷
      reply 4 (Some (stamp 0 (3 ∷ 1 ∷ []))) Begun ∷
      reply 5 (Some (stamp 0 (2 ∷ []))) Begun ∷
      reply 6 (Some (stamp 1 (2 ∷ 2 ∷ []))) (Committed 2 []) ∷
      [];
  pairs = [];
  order = 0 ∷ 6 ∷ [];
  answers =
      Idle ∷ Idle ∷ Unknown ∷ Idle ∷ Idle ∷ Ok ∷ Twice ∷ Busy ∷ Early ∷ Early ∷ Ok ∷ Busy ∷ Idle ∷ Idle ∷ Idle ∷ Ok ∷
      Idle ∷ Idle ∷ Ok ∷ Idle ∷ Ok ∷ Idle ∷ Ok ∷ Ok ∷ Ok ∷ Unknown ∷ Ok ∷ Ok ∷ Ok ∷ Ok ∷ Unknown ∷ Ok ∷ Ok ∷ Ok ∷
      Ok ∷ Old ∷ Old ∷ Ok ∷ Ok ∷ Ok ∷ Ok ∷ Ok ∷ Ok ∷ [];
}

first_refusal_that_holds : traced_report script_first_refusal_that_holds steps_first_refusal_that_holds ≡ report_first_refusal_that_holds
first_refusal_that_holds = refl

-- an unordered write is skipped, since the program precedes it by the oracle
abbrev pub script_skipped_through_a_path : Script
script_skipped_through_a_path = script 3 1 (
    prog n_p 0 0 (Show n_v) ∷
    tx n_x 1 1 (Create n_w ∷ []) ∷
    tx n_y 2 2 (Get n_w ∷ Create n_v ∷ []) ∷
    []
    )

abbrev pub steps_skipped_through_a_path : List Step
steps_skipped_through_a_path =
    Begin 0 ∷ Say 0 ∷ Hear 1 1 ∷ Begin 1 ∷ Judge 1 ∷ Send 1 ∷ Begin 2 ∷ Judge 2 ∷ Send 2 ∷ Hear 2 1 ∷ Nop 0 0 ∷
    Nop 2 0 ∷ Deliver 0 0 1 ∷ Deliver 1 0 1 ∷ Deliver 2 0 1 ∷ Deliver 2 0 2 ∷ Apply 0 1 ∷ Apply 0 2 ∷ Visit 0 ∷
    Reply 0 ∷ []

abbrev report_skipped_through_a_path : Report
report_skipped_through_a_path = record {
  replies =
      reply 0 (Some (stamp 0 (1 ∷ []))) (Finished (Shown None)) ∷
      reply 1 (Some (stamp 1 (1 ∷ 1 ∷ []))) (Committed 1 []) ∷
      reply 2 (Some (stamp 2 (0 ∷ 0 ∷ 1 ∷ []))) (Committed 2 (got 1 (Some (record_of [] [])) ∷ [])) ∷
      [];
  pairs = pair n_w 1 2 ∷ [];
  order = 0 ∷ 1 ∷ 2 ∷ [];
  answers = Ok ∷ Ok ∷ Ok ∷ Ok ∷ Ok ∷ Ok ∷ Ok ∷ Ok ∷ Ok ∷ Ok ∷ Ok ∷ Ok ∷ Ok ∷ Ok ∷ Ok ∷ Ok ∷ Ok ∷ Ok ∷ Ok ∷ Ok ∷ [];
}

skipped_through_a_path : traced_report script_skipped_through_a_path steps_skipped_through_a_path ≡ report_skipped_through_a_path
skipped_through_a_path = refl

-- two vertices with one last transaction give one pair, at the first of them
abbrev pub script_one_pair_for_two_vertices : Script
script_one_pair_for_two_vertices = script 3 1 (
    tx n_a 0 0 (Create n_u ∷ Create n_v ∷ []) ∷
    tx n_b 1 1 (Create n_w ∷ []) ∷
    tx n_c 2 2 (Set n_w n_k n_x ∷ Set n_v n_k n_x ∷ Set n_u n_k n_x ∷ []) ∷
    []
    )

abbrev pub steps_one_pair_for_two_vertices : List Step
steps_one_pair_for_two_vertices = Begin 0 ∷ Judge 0 ∷ Send 0 ∷ Begin 1 ∷ Judge 1 ∷ Send 1 ∷ Begin 2 ∷ Judge 2 ∷ Send 2 ∷ []

abbrev report_one_pair_for_two_vertices : Report
report_one_pair_for_two_vertices = record {
  replies =
      reply 0 (Some (stamp 0 (1 ∷ []))) (Committed 1 []) ∷
      reply 1 (Some (stamp 1 (0 ∷ 1 ∷ []))) (Committed 2 []) ∷
      reply 2 (Some (stamp 2 (0 ∷ 0 ∷ 1 ∷ []))) (Committed 3 []) ∷
      [];
  pairs = pair n_w 1 2 ∷ pair n_v 0 2 ∷ [];
  order = 0 ∷ 1 ∷ 2 ∷ [];
  answers = Ok ∷ Ok ∷ Ok ∷ Ok ∷ Ok ∷ Ok ∷ Ok ∷ Ok ∷ Ok ∷ [];
}

one_pair_for_two_vertices : traced_report script_one_pair_for_two_vertices steps_one_pair_for_two_vertices ≡ report_one_pair_for_two_vertices
one_pair_for_two_vertices = refl

-- an empty message that is sent while a program runs has its low mark
abbrev pub script_low_mark_of_an_empty_message : Script
script_low_mark_of_an_empty_message = script 1 1 (
    tx n_t1 0 0 (Create n_v ∷ []) ∷
    prog n_p 1 0 (Show n_v) ∷
    tx n_t2 0 0 (Set n_v n_k n_x ∷ []) ∷
    []
    )

abbrev pub steps_low_mark_of_an_empty_message : List Step
steps_low_mark_of_an_empty_message =
    Begin 0 ∷ Judge 0 ∷ Send 0 ∷ Reply 0 ∷ Begin 1 ∷ Begin 2 ∷ Judge 0 ∷ Send 0 ∷ Nop 0 0 ∷ Deliver 0 0 1 ∷
    Deliver 0 0 2 ∷ Deliver 0 0 3 ∷ Apply 0 0 ∷ Apply 0 0 ∷ Apply 0 0 ∷ Collect 0 ∷ Visit 1 ∷ Reply 1 ∷ []

abbrev report_low_mark_of_an_empty_message : Report
report_low_mark_of_an_empty_message = record {
  replies =
      reply 0 (Some (stamp 0 (1 ∷ []))) (Committed 1 []) ∷
      reply 1 (Some (stamp 0 (2 ∷ []))) (Finished (Shown (Some (record_of [] [])))) ∷
      reply 2 (Some (stamp 0 (3 ∷ []))) (Committed 2 []) ∷
      [];
  pairs = [];
  order = 0 ∷ 1 ∷ 2 ∷ [];
  answers = Ok ∷ Ok ∷ Ok ∷ Ok ∷ Ok ∷ Ok ∷ Ok ∷ Ok ∷ Ok ∷ Ok ∷ Ok ∷ Ok ∷ Ok ∷ Ok ∷ Ok ∷ Ok ∷ Ok ∷ Ok ∷ [];
}

low_mark_of_an_empty_message : traced_report script_low_mark_of_an_empty_message steps_low_mark_of_an_empty_message ≡ report_low_mark_of_an_empty_message
low_mark_of_an_empty_message = refl
