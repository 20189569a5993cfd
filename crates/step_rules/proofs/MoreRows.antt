-- More worked lists of steps. Each refuses an edit of the definitions that the rows before it let through.
-- Used by RowsKept.
use Rattle.std.specs.Prelude.{◌≡◌, refl, true, List, [], ◌∷◌, None, Some}
use Rattle.graph_ops.specs.declared.op.Op.TheVariants.{Create, Set, Link, Get}
use Rattle.program_defs.specs.declared.program.Program.TheVariants.{Show, Reach}
use Rattle.program_defs.specs.declared.program.Answer.TheVariants.{Shown, Reached}
use Rattle.program_defs.specs.declared.script.Script.{Script}
use Rattle.program_defs.specs.declared.script.Step.{Step}
use Rattle.program_defs.specs.declared.script.Step.TheVariants.{Begin, Judge, Send, Say, Hear, Nop, Deliver, Apply, Visit, Reply, Collect}
use Rattle.report_rules.specs.declared.report.Report.{Report}
use Rattle.report_rules.specs.declared.report.ReplyState.TheVariants.{Committed, Conflict, Finished}
use Rattle.report_rules.specs.declared.report.StepAnswer.TheVariants.{Ok, Idle, Waits}
use Rattle.step_rules.proofs.Computed.{traced_report}
use Rattle.step_rules.proofs.RowWords.{script, tx, prog, stamp, reply, pair, got, record_of, n_a, n_b, n_e, n_k, n_p, n_t1, n_t2, n_t3, n_u, n_v, n_w, n_x, n_y, n_z}

abbrev pub script_stamps_before_paths : Script
script_stamps_before_paths = script 3 1 (
    tx n_x 0 0 (Create n_w ∷ Create n_u ∷ []) ∷
    tx n_y 1 1 (Get n_w ∷ Create n_v ∷ []) ∷
    tx n_z 2 2 (Get n_v ∷ Get n_u ∷ []) ∷
    []
    )

abbrev pub steps_stamps_before_paths : List Step
steps_stamps_before_paths = Begin 2 ∷ Say 2 ∷ Hear 0 1 ∷ Begin 0 ∷ Judge 0 ∷ Send 0 ∷ Begin 1 ∷ Judge 1 ∷ Send 1 ∷ Judge 2 ∷ Send 2 ∷ []

abbrev report_stamps_before_paths : Report
report_stamps_before_paths = record {
  replies =
      reply 0 (Some (stamp 0 (1 ∷ 0 ∷ 1 ∷ []))) (Committed 1 []) ∷
      reply 1 (Some (stamp 1 (0 ∷ 1 ∷ []))) (Committed 2 (got 1 (Some (record_of [] [])) ∷ [])) ∷
      reply 2 (Some (stamp 2 (0 ∷ 0 ∷ 1 ∷ []))) (Conflict n_u 0) ∷
      [];
  pairs = pair n_w 0 1 ∷ [];
  order = 0 ∷ 1 ∷ [];
  answers = Ok ∷ Ok ∷ Ok ∷ Ok ∷ Ok ∷ Ok ∷ Ok ∷ Ok ∷ Ok ∷ Ok ∷ Ok ∷ [];
}

stamps_before_paths : traced_report script_stamps_before_paths steps_stamps_before_paths ≡ report_stamps_before_paths
stamps_before_paths = refl

abbrev pub script_waits_at_the_first : Script
script_waits_at_the_first = script 2 1 (
    tx n_t1 0 0 (Create n_a ∷ Create n_b ∷ []) ∷
    tx n_t2 0 1 (Set n_b n_k n_x ∷ Set n_a n_k n_x ∷ []) ∷
    []
    )

abbrev pub steps_waits_at_the_first : List Step
steps_waits_at_the_first =
    Begin 0 ∷ Judge 0 ∷ Send 0 ∷ Reply 0 ∷ Begin 1 ∷ Judge 1 ∷ Send 1 ∷ Deliver 1 0 1 ∷ Apply 0 1 ∷ Deliver 0 0 1 ∷
    Apply 0 0 ∷ Apply 0 1 ∷ []

abbrev report_waits_at_the_first : Report
report_waits_at_the_first = record {
  replies =
      reply 0 (Some (stamp 0 (1 ∷ []))) (Committed 1 []) ∷
      reply 1 (Some (stamp 1 (1 ∷ 1 ∷ []))) (Committed 2 []) ∷
      [];
  pairs = [];
  order = 0 ∷ 1 ∷ [];
  answers = Ok ∷ Ok ∷ Ok ∷ Ok ∷ Ok ∷ Ok ∷ Ok ∷ Ok ∷ Waits n_b ∷ Ok ∷ Ok ∷ Ok ∷ [];
}

waits_at_the_first : traced_report script_waits_at_the_first steps_waits_at_the_first ≡ report_waits_at_the_first
waits_at_the_first = refl

abbrev pub script_settled_at_the_first_visit : Script
script_settled_at_the_first_visit = script 2 2 (
    tx n_t1 0 1 (Create n_a ∷ Link n_a n_e n_b ∷ Create n_b ∷ []) ∷
    prog n_p 1 0 (Reach n_a n_b None) ∷
    []
    )

abbrev pub steps_settled_at_the_first_visit : List Step
steps_settled_at_the_first_visit =
    Begin 0 ∷ Judge 1 ∷ Send 1 ∷ Begin 1 ∷ Say 0 ∷ Hear 1 1 ∷ Nop 1 0 ∷ Nop 1 1 ∷ Nop 0 0 ∷ Nop 0 1 ∷
    Deliver 1 0 1 ∷ Deliver 1 0 2 ∷ Deliver 1 1 1 ∷ Deliver 1 1 2 ∷ Deliver 0 0 1 ∷ Deliver 0 1 1 ∷ Apply 0 1 ∷
    Apply 1 1 ∷ Visit 1 ∷ Visit 1 ∷ Visit 1 ∷ Reply 1 ∷ []

abbrev report_settled_at_the_first_visit : Report
report_settled_at_the_first_visit = record {
  replies =
      reply 0 (Some (stamp 1 (0 ∷ 1 ∷ []))) (Committed 1 []) ∷
      reply 1 (Some (stamp 0 (1 ∷ []))) (Finished (Reached true)) ∷
      [];
  pairs = pair n_a 0 1 ∷ [];
  order = 0 ∷ 1 ∷ [];
  answers = Ok ∷ Ok ∷ Ok ∷ Ok ∷ Ok ∷ Ok ∷ Ok ∷ Ok ∷ Ok ∷ Ok ∷ Ok ∷ Ok ∷ Ok ∷ Ok ∷ Ok ∷ Ok ∷ Ok ∷ Ok ∷ Ok ∷ Ok ∷ Idle ∷ Ok ∷ [];
}

settled_at_the_first_visit : traced_report script_settled_at_the_first_visit steps_settled_at_the_first_visit ≡ report_settled_at_the_first_visit
settled_at_the_first_visit = refl

abbrev pub script_low_marks_hold_for_a_program : Script
script_low_marks_hold_for_a_program = script 1 1 (
    tx n_t1 0 0 (Create n_v ∷ []) ∷
    prog n_p 1 0 (Show n_v) ∷
    tx n_t2 0 0 (Set n_v n_k n_x ∷ []) ∷
    tx n_t3 0 0 (Set n_v n_k n_y ∷ []) ∷
    []
    )

abbrev pub steps_low_marks_hold_for_a_program : List Step
steps_low_marks_hold_for_a_program =
    Begin 0 ∷ Judge 0 ∷ Send 0 ∷ Reply 0 ∷ Begin 1 ∷ Begin 2 ∷ Judge 0 ∷ Send 0 ∷ Reply 2 ∷ Begin 3 ∷ Judge 0 ∷
    Send 0 ∷ Deliver 0 0 1 ∷ Deliver 0 0 2 ∷ Deliver 0 0 3 ∷ Apply 0 0 ∷ Apply 0 0 ∷ Apply 0 0 ∷ Collect 0 ∷
    Visit 1 ∷ Reply 1 ∷ Nop 0 0 ∷ Deliver 0 0 4 ∷ Apply 0 0 ∷ Collect 0 ∷ []

abbrev report_low_marks_hold_for_a_program : Report
report_low_marks_hold_for_a_program = record {
  replies =
      reply 0 (Some (stamp 0 (1 ∷ []))) (Committed 1 []) ∷
      reply 1 (Some (stamp 0 (2 ∷ []))) (Finished (Shown (Some (record_of [] [])))) ∷
      reply 2 (Some (stamp 0 (3 ∷ []))) (Committed 2 []) ∷
      reply 3 (Some (stamp 0 (4 ∷ []))) (Committed 3 []) ∷
      [];
  pairs = [];
  order = 0 ∷ 1 ∷ 2 ∷ 3 ∷ [];
  answers =
      Ok ∷ Ok ∷ Ok ∷ Ok ∷ Ok ∷ Ok ∷ Ok ∷ Ok ∷ Ok ∷ Ok ∷ Ok ∷ Ok ∷ Ok ∷ Ok ∷ Ok ∷ Ok ∷ Ok ∷ Ok ∷ Ok ∷ Ok ∷ Ok ∷ Ok ∷
      Ok ∷ Ok ∷ Ok ∷ [];
}

low_marks_hold_for_a_program : traced_report script_low_marks_hold_for_a_program steps_low_marks_hold_for_a_program ≡ report_low_marks_hold_for_a_program
low_marks_hold_for_a_program = refl
