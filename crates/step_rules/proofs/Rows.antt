-- Worked lists of steps, computed: the whole report of each, with the answers of its steps.
-- Used by FinishedRows, RestartRows and RowsKept.
use Rattle.std.specs.Prelude.{◌≡◌, refl, true, false, List, [], ◌∷◌, None, Some}
use Rattle.graph_ops.specs.declared.op.Op.TheVariants.{Create, Delete, Set, Link, Get}
use Rattle.graph_ops.specs.declared.op.Reason.TheVariants.{Missing}
use Rattle.program_defs.specs.declared.program.Program.TheVariants.{Show, Reach}
use Rattle.program_defs.specs.declared.program.Answer.TheVariants.{Shown, Reached}
use Rattle.program_defs.specs.declared.script.Script.{Script}
use Rattle.program_defs.specs.declared.script.Step.{Step}
use Rattle.program_defs.specs.declared.script.Step.TheVariants.{Begin, Judge, Send, Say, Hear, Nop, Deliver, Apply, Visit, Reply, Collect, Epoch}
use Rattle.report_rules.specs.declared.report.Report.{Report}
use Rattle.report_rules.specs.declared.report.ReplyState.TheVariants.{Begun, Committed, Conflict, Refused, Finished}
use Rattle.report_rules.specs.declared.report.StepAnswer.TheVariants.{Ok, Twice, Early, Busy, Idle, Old, Unknown, Repeat, Empty, Waits, Again}
use Rattle.step_rules.proofs.Computed.{traced_report}
use Rattle.step_rules.proofs.RowWords.{script, tx, prog, stamp, raised_stamp, reply, pair, got, record_of, n_a, n_b, n_e, n_k, n_p, n_p1, n_p2, n_q, n_t1, n_t2, n_u, n_v, n_w, n_x, n_y, n_z}

abbrev pub script_two_writers : Script
script_two_writers = script 2 1 (
    tx n_t1 0 0 (Create n_v ∷ []) ∷
    tx n_t2 1 1 (Set n_v n_k n_x ∷ []) ∷
    []
    )

abbrev pub steps_two_writers : List Step
steps_two_writers = Begin 0 ∷ Judge 0 ∷ Send 0 ∷ Begin 1 ∷ Judge 1 ∷ Send 1 ∷ []

abbrev report_two_writers : Report
report_two_writers = record {
  replies =
      reply 0 (Some (stamp 0 (1 ∷ []))) (Committed 1 []) ∷
      reply 1 (Some (stamp 1 (0 ∷ 1 ∷ []))) (Committed 2 []) ∷
      [];
  pairs = pair n_v 0 1 ∷ [];
  order = 0 ∷ 1 ∷ [];
  answers = Ok ∷ Ok ∷ Ok ∷ Ok ∷ Ok ∷ Ok ∷ [];
}

two_writers : traced_report script_two_writers steps_two_writers ≡ report_two_writers
two_writers = refl

abbrev pub script_the_other_order : Script
script_the_other_order = script 2 1 (
    tx n_t1 0 0 (Create n_v ∷ []) ∷
    tx n_t2 1 1 (Set n_v n_k n_x ∷ []) ∷
    []
    )

abbrev pub steps_the_other_order : List Step
steps_the_other_order = Begin 1 ∷ Judge 1 ∷ Send 1 ∷ Begin 0 ∷ Judge 0 ∷ Send 0 ∷ []

abbrev report_the_other_order : Report
report_the_other_order = record {
  replies =
      reply 0 (Some (stamp 0 (1 ∷ []))) (Committed 1 []) ∷
      reply 1 (Some (stamp 1 (0 ∷ 1 ∷ []))) (Refused 1 Missing 0) ∷
      [];
  pairs = [];
  order = 0 ∷ [];
  answers = Ok ∷ Ok ∷ Ok ∷ Ok ∷ Ok ∷ Ok ∷ [];
}

the_other_order : traced_report script_the_other_order steps_the_other_order ≡ report_the_other_order
the_other_order = refl

abbrev pub script_conflict_by_a_heard_clock : Script
script_conflict_by_a_heard_clock = script 2 1 (
    tx n_t1 0 0 (Create n_v ∷ []) ∷
    tx n_t2 1 1 (Set n_v n_k n_x ∷ []) ∷
    []
    )

abbrev pub steps_conflict_by_a_heard_clock : List Step
steps_conflict_by_a_heard_clock = Begin 1 ∷ Say 1 ∷ Hear 0 1 ∷ Begin 0 ∷ Judge 0 ∷ Send 0 ∷ Judge 1 ∷ Send 1 ∷ []

abbrev report_conflict_by_a_heard_clock : Report
report_conflict_by_a_heard_clock = record {
  replies =
      reply 0 (Some (stamp 0 (1 ∷ 1 ∷ []))) (Committed 1 []) ∷
      reply 1 (Some (stamp 1 (0 ∷ 1 ∷ []))) (Conflict n_v 0) ∷
      [];
  pairs = [];
  order = 0 ∷ [];
  answers = Ok ∷ Ok ∷ Ok ∷ Ok ∷ Ok ∷ Ok ∷ Ok ∷ Ok ∷ [];
}

conflict_by_a_heard_clock : traced_report script_conflict_by_a_heard_clock steps_conflict_by_a_heard_clock ≡ report_conflict_by_a_heard_clock
conflict_by_a_heard_clock = refl

abbrev pub script_conflict_through_a_path : Script
script_conflict_through_a_path = script 3 1 (
    tx n_x 0 0 (Create n_w ∷ []) ∷
    tx n_y 1 1 (Get n_w ∷ Create n_v ∷ []) ∷
    tx n_z 2 2 (Get n_v ∷ []) ∷
    []
    )

abbrev pub steps_conflict_through_a_path : List Step
steps_conflict_through_a_path = Begin 2 ∷ Say 2 ∷ Hear 0 1 ∷ Begin 0 ∷ Judge 0 ∷ Send 0 ∷ Begin 1 ∷ Judge 1 ∷ Send 1 ∷ Judge 2 ∷ Send 2 ∷ []

abbrev report_conflict_through_a_path : Report
report_conflict_through_a_path = record {
  replies =
      reply 0 (Some (stamp 0 (1 ∷ 0 ∷ 1 ∷ []))) (Committed 1 []) ∷
      reply 1 (Some (stamp 1 (0 ∷ 1 ∷ []))) (Committed 2 (got 1 (Some (record_of [] [])) ∷ [])) ∷
      reply 2 (Some (stamp 2 (0 ∷ 0 ∷ 1 ∷ []))) (Conflict n_v 1) ∷
      [];
  pairs = pair n_w 0 1 ∷ [];
  order = 0 ∷ 1 ∷ [];
  answers = Ok ∷ Ok ∷ Ok ∷ Ok ∷ Ok ∷ Ok ∷ Ok ∷ Ok ∷ Ok ∷ Ok ∷ Ok ∷ [];
}

conflict_through_a_path : traced_report script_conflict_through_a_path steps_conflict_through_a_path ≡ report_conflict_through_a_path
conflict_through_a_path = refl

abbrev pub script_all_or_none : Script
script_all_or_none = script 3 1 (
    tx n_x 0 0 (Create n_w ∷ []) ∷
    tx n_q 1 1 (Create n_u ∷ []) ∷
    tx n_y 1 1 (Get n_w ∷ Create n_v ∷ []) ∷
    tx n_z 2 2 (Get n_u ∷ Get n_v ∷ []) ∷
    []
    )

abbrev pub steps_all_or_none : List Step
steps_all_or_none =
    Begin 3 ∷ Say 2 ∷ Hear 0 1 ∷ Begin 0 ∷ Judge 0 ∷ Send 0 ∷ Begin 1 ∷ Judge 1 ∷ Send 1 ∷ Reply 1 ∷ Begin 2 ∷
    Judge 1 ∷ Send 1 ∷ Judge 2 ∷ Send 2 ∷ []

abbrev report_all_or_none : Report
report_all_or_none = record {
  replies =
      reply 0 (Some (stamp 0 (1 ∷ 0 ∷ 1 ∷ []))) (Committed 1 []) ∷
      reply 1 (Some (stamp 1 (0 ∷ 1 ∷ []))) (Committed 2 []) ∷
      reply 2 (Some (stamp 1 (0 ∷ 2 ∷ []))) (Committed 3 (got 1 (Some (record_of [] [])) ∷ [])) ∷
      reply 3 (Some (stamp 2 (0 ∷ 0 ∷ 1 ∷ []))) (Conflict n_v 2) ∷
      [];
  pairs = pair n_w 0 2 ∷ [];
  order = 1 ∷ 0 ∷ 2 ∷ [];
  answers = Ok ∷ Ok ∷ Ok ∷ Ok ∷ Ok ∷ Ok ∷ Ok ∷ Ok ∷ Ok ∷ Ok ∷ Ok ∷ Ok ∷ Ok ∷ Ok ∷ Ok ∷ [];
}

all_or_none : traced_report script_all_or_none steps_all_or_none ≡ report_all_or_none
all_or_none = refl

abbrev pub script_no_real_time : Script
script_no_real_time = script 3 1 (
    tx n_t1 0 0 (Create n_a ∷ []) ∷
    tx n_t2 1 2 (Create n_b ∷ []) ∷
    tx n_z 2 1 (Get n_b ∷ []) ∷
    []
    )

abbrev pub steps_no_real_time : List Step
steps_no_real_time =
    Begin 2 ∷ Say 1 ∷ Hear 0 1 ∷ Begin 0 ∷ Judge 0 ∷ Send 0 ∷ Reply 0 ∷ Begin 1 ∷ Judge 2 ∷ Send 2 ∷ Reply 1 ∷
    Judge 1 ∷ Send 1 ∷ []

abbrev report_no_real_time : Report
report_no_real_time = record {
  replies =
      reply 0 (Some (stamp 0 (1 ∷ 1 ∷ []))) (Committed 1 []) ∷
      reply 1 (Some (stamp 2 (0 ∷ 0 ∷ 1 ∷ []))) (Committed 2 []) ∷
      reply 2 (Some (stamp 1 (0 ∷ 1 ∷ []))) (Committed 3 (got 1 (Some (record_of [] [])) ∷ [])) ∷
      [];
  pairs = pair n_b 1 2 ∷ [];
  order = 1 ∷ 2 ∷ 0 ∷ [];
  answers = Ok ∷ Ok ∷ Ok ∷ Ok ∷ Ok ∷ Ok ∷ Ok ∷ Ok ∷ Ok ∷ Ok ∷ Ok ∷ Ok ∷ Ok ∷ [];
}

no_real_time : traced_report script_no_real_time steps_no_real_time ≡ report_no_real_time
no_real_time = refl

abbrev pub script_session_keeps_its_order : Script
script_session_keeps_its_order = script 2 1 (
    tx n_t1 0 0 (Create n_v ∷ []) ∷
    prog n_p 0 1 (Show n_v) ∷
    []
    )

abbrev pub steps_session_keeps_its_order : List Step
steps_session_keeps_its_order =
    Begin 0 ∷ Judge 0 ∷ Send 0 ∷ Reply 0 ∷ Begin 1 ∷ Deliver 0 0 1 ∷ Apply 0 0 ∷ Visit 1 ∷ Say 1 ∷ Hear 0 1 ∷
    Nop 0 0 ∷ Nop 1 0 ∷ Deliver 0 0 2 ∷ Visit 1 ∷ Deliver 1 0 1 ∷ Visit 1 ∷ Reply 1 ∷ []

abbrev report_session_keeps_its_order : Report
report_session_keeps_its_order = record {
  replies =
      reply 0 (Some (stamp 0 (1 ∷ []))) (Committed 1 []) ∷
      reply 1 (Some (stamp 1 (1 ∷ 1 ∷ []))) (Finished (Shown (Some (record_of [] [])))) ∷
      [];
  pairs = [];
  order = 0 ∷ 1 ∷ [];
  answers = Ok ∷ Ok ∷ Ok ∷ Ok ∷ Ok ∷ Ok ∷ Ok ∷ Again 0 0 ∷ Ok ∷ Ok ∷ Ok ∷ Ok ∷ Ok ∷ Again 0 1 ∷ Ok ∷ Ok ∷ Ok ∷ [];
}

session_keeps_its_order : traced_report script_session_keeps_its_order steps_session_keeps_its_order ≡ report_session_keeps_its_order
session_keeps_its_order = refl

abbrev pub script_silent_gatekeeper : Script
script_silent_gatekeeper = script 2 1 (
    prog n_p 0 0 (Show n_v) ∷
    []
    )

abbrev pub steps_silent_gatekeeper : List Step
steps_silent_gatekeeper =
    Begin 0 ∷ Nop 0 0 ∷ Deliver 0 0 1 ∷ Apply 0 0 ∷ Visit 0 ∷ Nop 1 0 ∷ Deliver 1 0 1 ∷ Apply 0 1 ∷ Visit 0 ∷
    Say 0 ∷ Hear 1 1 ∷ Nop 1 0 ∷ Deliver 1 0 2 ∷ Apply 0 1 ∷ Visit 0 ∷ Reply 0 ∷ []

abbrev report_silent_gatekeeper : Report
report_silent_gatekeeper = record {
  replies =
      reply 0 (Some (stamp 0 (1 ∷ []))) (Finished (Shown None)) ∷
      [];
  pairs = [];
  order = 0 ∷ [];
  answers = Ok ∷ Ok ∷ Ok ∷ Ok ∷ Again 0 1 ∷ Ok ∷ Ok ∷ Ok ∷ Again 0 1 ∷ Ok ∷ Ok ∷ Ok ∷ Ok ∷ Ok ∷ Ok ∷ Ok ∷ [];
}

silent_gatekeeper : traced_report script_silent_gatekeeper steps_silent_gatekeeper ≡ report_silent_gatekeeper
silent_gatekeeper = refl

abbrev pub script_unordered_write_is_seen : Script
script_unordered_write_is_seen = script 2 1 (
    tx n_t1 0 1 (Create n_v ∷ []) ∷
    prog n_p 1 0 (Show n_v) ∷
    tx n_t2 0 1 (Set n_v n_k n_x ∷ []) ∷
    []
    )

abbrev pub steps_unordered_write_is_seen : List Step
steps_unordered_write_is_seen =
    Begin 0 ∷ Judge 1 ∷ Send 1 ∷ Reply 0 ∷ Begin 1 ∷ Say 0 ∷ Hear 1 1 ∷ Begin 2 ∷ Judge 1 ∷ Send 1 ∷ Nop 0 0 ∷
    Deliver 1 0 1 ∷ Deliver 1 0 2 ∷ Apply 0 1 ∷ Apply 0 1 ∷ Deliver 0 0 1 ∷ Visit 1 ∷ Reply 1 ∷ []

abbrev report_unordered_write_is_seen : Report
report_unordered_write_is_seen = record {
  replies =
      reply 0 (Some (stamp 1 (0 ∷ 1 ∷ []))) (Committed 1 []) ∷
      reply 1 (Some (stamp 0 (1 ∷ []))) (Finished (Shown (Some (record_of [] [])))) ∷
      reply 2 (Some (stamp 1 (1 ∷ 2 ∷ []))) (Committed 2 []) ∷
      [];
  pairs = pair n_v 0 1 ∷ [];
  order = 0 ∷ 1 ∷ 2 ∷ [];
  answers = Ok ∷ Ok ∷ Ok ∷ Ok ∷ Ok ∷ Ok ∷ Ok ∷ Ok ∷ Ok ∷ Ok ∷ Ok ∷ Ok ∷ Ok ∷ Ok ∷ Ok ∷ Ok ∷ Ok ∷ Ok ∷ [];
}

unordered_write_is_seen : traced_report script_unordered_write_is_seen steps_unordered_write_is_seen ≡ report_unordered_write_is_seen
unordered_write_is_seen = refl

abbrev pub script_messages_by_number : Script
script_messages_by_number = script 1 1 (
    []
    )

abbrev pub steps_messages_by_number : List Step
steps_messages_by_number =
    Nop 0 0 ∷ Nop 0 0 ∷ Nop 0 0 ∷ Deliver 0 0 3 ∷ Apply 0 0 ∷ Deliver 0 0 1 ∷ Deliver 0 0 1 ∷ Deliver 0 0 2 ∷
    Deliver 0 0 4 ∷ Apply 0 0 ∷ Apply 0 0 ∷ Apply 0 0 ∷ Apply 0 0 ∷ []

abbrev report_messages_by_number : Report
report_messages_by_number = record {
  replies =
      [];
  pairs = [];
  order = [];
  answers = Ok ∷ Ok ∷ Ok ∷ Ok ∷ Empty ∷ Ok ∷ Repeat ∷ Ok ∷ Unknown ∷ Ok ∷ Ok ∷ Ok ∷ Empty ∷ [];
}

messages_by_number : traced_report script_messages_by_number steps_messages_by_number ≡ report_messages_by_number
messages_by_number = refl

abbrev pub script_head_waits_for_what_is_not_sent : Script
script_head_waits_for_what_is_not_sent = script 2 1 (
    prog n_p 0 0 (Show n_v) ∷
    tx n_t1 1 0 (Create n_v ∷ []) ∷
    tx n_t2 2 1 (Set n_v n_k n_x ∷ []) ∷
    []
    )

abbrev pub steps_head_waits_for_what_is_not_sent : List Step
steps_head_waits_for_what_is_not_sent =
    Begin 0 ∷ Say 0 ∷ Hear 1 1 ∷ Nop 0 0 ∷ Begin 1 ∷ Judge 0 ∷ Nop 0 0 ∷ Begin 2 ∷ Judge 1 ∷ Send 1 ∷
    Deliver 1 0 1 ∷ Apply 0 1 ∷ Deliver 0 0 1 ∷ Visit 0 ∷ Reply 0 ∷ Send 0 ∷ Deliver 0 0 2 ∷ Apply 0 0 ∷
    Apply 0 0 ∷ Apply 0 1 ∷ []

abbrev report_head_waits_for_what_is_not_sent : Report
report_head_waits_for_what_is_not_sent = record {
  replies =
      reply 0 (Some (stamp 0 (1 ∷ []))) (Finished (Shown None)) ∷
      reply 1 (Some (stamp 0 (3 ∷ []))) (Committed 1 []) ∷
      reply 2 (Some (stamp 1 (1 ∷ 1 ∷ []))) (Committed 2 []) ∷
      [];
  pairs = pair n_v 1 2 ∷ [];
  order = 0 ∷ 1 ∷ 2 ∷ [];
  answers = Ok ∷ Ok ∷ Ok ∷ Ok ∷ Ok ∷ Ok ∷ Busy ∷ Ok ∷ Ok ∷ Ok ∷ Ok ∷ Waits n_v ∷ Ok ∷ Ok ∷ Ok ∷ Ok ∷ Ok ∷ Ok ∷ Ok ∷ Ok ∷ [];
}

head_waits_for_what_is_not_sent : traced_report script_head_waits_for_what_is_not_sent steps_head_waits_for_what_is_not_sent ≡ report_head_waits_for_what_is_not_sent
head_waits_for_what_is_not_sent = refl

abbrev pub script_dangling_edge_over_two_shards : Script
script_dangling_edge_over_two_shards = script 1 2 (
    tx n_t1 0 0 (Create n_a ∷ Link n_a n_e n_b ∷ []) ∷
    prog n_p1 1 0 (Reach n_a n_b None) ∷
    tx n_t2 0 0 (Create n_b ∷ []) ∷
    prog n_p2 1 0 (Reach n_a n_b None) ∷
    []
    )

abbrev pub steps_dangling_edge_over_two_shards : List Step
steps_dangling_edge_over_two_shards =
    Begin 0 ∷ Judge 0 ∷ Send 0 ∷ Reply 0 ∷ Begin 1 ∷ Begin 2 ∷ Judge 0 ∷ Send 0 ∷ Nop 0 1 ∷ Deliver 0 1 1 ∷
    Deliver 0 1 2 ∷ Deliver 0 0 1 ∷ Apply 1 0 ∷ Apply 0 0 ∷ Visit 1 ∷ Visit 1 ∷ Visit 1 ∷ Reply 1 ∷ Begin 3 ∷
    Visit 3 ∷ Nop 0 1 ∷ Nop 0 0 ∷ Deliver 0 1 3 ∷ Deliver 0 0 2 ∷ Visit 3 ∷ Apply 1 0 ∷ Visit 3 ∷ Visit 3 ∷
    Reply 3 ∷ Reply 3 ∷ []

abbrev report_dangling_edge_over_two_shards : Report
report_dangling_edge_over_two_shards = record {
  replies =
      reply 0 (Some (stamp 0 (1 ∷ []))) (Committed 1 []) ∷
      reply 1 (Some (stamp 0 (2 ∷ []))) (Finished (Reached false)) ∷
      reply 2 (Some (stamp 0 (3 ∷ []))) (Committed 2 []) ∷
      reply 3 (Some (stamp 0 (5 ∷ []))) (Finished (Reached true)) ∷
      [];
  pairs = [];
  order = 0 ∷ 1 ∷ 2 ∷ 3 ∷ [];
  answers =
      Ok ∷ Ok ∷ Ok ∷ Ok ∷ Ok ∷ Ok ∷ Ok ∷ Ok ∷ Ok ∷ Ok ∷ Ok ∷ Ok ∷ Ok ∷ Ok ∷ Ok ∷ Ok ∷ Idle ∷ Ok ∷ Ok ∷ Again 1 0 ∷
      Ok ∷ Ok ∷ Ok ∷ Ok ∷ Again 1 0 ∷ Ok ∷ Ok ∷ Ok ∷ Ok ∷ Idle ∷ [];
}

dangling_edge_over_two_shards : traced_report script_dangling_edge_over_two_shards steps_dangling_edge_over_two_shards ≡ report_dangling_edge_over_two_shards
dangling_edge_over_two_shards = refl

abbrev pub script_epochs : Script
script_epochs = script 2 1 (
    tx n_t1 0 0 (Create n_v ∷ []) ∷
    tx n_t2 0 1 (Set n_v n_k n_x ∷ []) ∷
    []
    )

abbrev pub steps_epochs : List Step
steps_epochs =
    Epoch 0 1 ∷ Epoch 0 1 ∷ Begin 1 ∷ Begin 0 ∷ Begin 0 ∷ Judge 0 ∷ Send 0 ∷ Reply 0 ∷ Begin 1 ∷ Judge 1 ∷ Send 1 ∷
    Epoch 1 1 ∷ []

abbrev report_epochs : Report
report_epochs = record {
  replies =
      reply 0 (Some (raised_stamp 1 0 (1 ∷ []))) (Committed 1 []) ∷
      reply 1 (Some (raised_stamp 1 1 (1 ∷ 1 ∷ []))) (Committed 2 []) ∷
      [];
  pairs = [];
  order = 0 ∷ 1 ∷ [];
  answers = Ok ∷ Old ∷ Early ∷ Ok ∷ Twice ∷ Ok ∷ Ok ∷ Ok ∷ Ok ∷ Ok ∷ Ok ∷ Old ∷ [];
}

epochs : traced_report script_epochs steps_epochs ≡ report_epochs
epochs = refl

abbrev pub script_collection_under_a_program : Script
script_collection_under_a_program = script 1 1 (
    tx n_t1 0 0 (Create n_v ∷ Link n_v n_e n_w ∷ Create n_w ∷ []) ∷
    prog n_p 1 0 (Reach n_v n_w None) ∷
    tx n_t2 0 0 (Delete n_w ∷ []) ∷
    []
    )

abbrev pub steps_collection_under_a_program : List Step
steps_collection_under_a_program =
    Begin 0 ∷ Judge 0 ∷ Send 0 ∷ Reply 0 ∷ Begin 1 ∷ Begin 2 ∷ Judge 0 ∷ Send 0 ∷ Deliver 0 0 1 ∷ Deliver 0 0 2 ∷
    Apply 0 0 ∷ Apply 0 0 ∷ Visit 1 ∷ Collect 0 ∷ Visit 1 ∷ Reply 1 ∷ Nop 0 0 ∷ Deliver 0 0 3 ∷ Apply 0 0 ∷
    Collect 0 ∷ []

abbrev report_collection_under_a_program : Report
report_collection_under_a_program = record {
  replies =
      reply 0 (Some (stamp 0 (1 ∷ []))) (Committed 1 []) ∷
      reply 1 (Some (stamp 0 (2 ∷ []))) (Finished (Reached true)) ∷
      reply 2 (Some (stamp 0 (3 ∷ []))) (Committed 2 []) ∷
      [];
  pairs = [];
  order = 0 ∷ 1 ∷ 2 ∷ [];
  answers = Ok ∷ Ok ∷ Ok ∷ Ok ∷ Ok ∷ Ok ∷ Ok ∷ Ok ∷ Ok ∷ Ok ∷ Ok ∷ Ok ∷ Ok ∷ Ok ∷ Ok ∷ Ok ∷ Ok ∷ Ok ∷ Ok ∷ Ok ∷ [];
}

collection_under_a_program : traced_report script_collection_under_a_program steps_collection_under_a_program ≡ report_collection_under_a_program
collection_under_a_program = refl

abbrev pub script_collection_with_a_silent_gatekeeper : Script
script_collection_with_a_silent_gatekeeper = script 2 1 (
    tx n_t1 0 0 (Create n_v ∷ Link n_v n_e n_w ∷ Create n_w ∷ []) ∷
    prog n_p 1 0 (Reach n_v n_w None) ∷
    tx n_t2 0 0 (Delete n_w ∷ []) ∷
    []
    )

abbrev pub steps_collection_with_a_silent_gatekeeper : List Step
steps_collection_with_a_silent_gatekeeper =
    Begin 0 ∷ Judge 0 ∷ Send 0 ∷ Reply 0 ∷ Begin 1 ∷ Begin 2 ∷ Judge 0 ∷ Send 0 ∷ Deliver 0 0 1 ∷ Deliver 0 0 2 ∷
    Apply 0 0 ∷ Apply 0 0 ∷ Visit 1 ∷ Collect 0 ∷ Visit 1 ∷ Reply 1 ∷ Nop 0 0 ∷ Deliver 0 0 3 ∷ Apply 0 0 ∷
    Collect 0 ∷ []

abbrev report_collection_with_a_silent_gatekeeper : Report
report_collection_with_a_silent_gatekeeper = record {
  replies =
      reply 0 (Some (stamp 0 (1 ∷ []))) (Committed 1 []) ∷
      reply 1 (Some (stamp 0 (2 ∷ []))) Begun ∷
      reply 2 (Some (stamp 0 (3 ∷ []))) (Committed 2 []) ∷
      [];
  pairs = [];
  order = 0 ∷ 2 ∷ [];
  answers =
      Ok ∷ Ok ∷ Ok ∷ Ok ∷ Ok ∷ Ok ∷ Ok ∷ Ok ∷ Ok ∷ Ok ∷ Ok ∷ Ok ∷ Again 0 1 ∷ Ok ∷ Again 0 1 ∷ Idle ∷ Ok ∷ Ok ∷ Ok ∷
      Ok ∷ [];
}

collection_with_a_silent_gatekeeper : traced_report script_collection_with_a_silent_gatekeeper steps_collection_with_a_silent_gatekeeper ≡ report_collection_with_a_silent_gatekeeper
collection_with_a_silent_gatekeeper = refl

abbrev pub script_head_waits_for_the_other_channel : Script
script_head_waits_for_the_other_channel = script 2 1 (
    tx n_t1 0 0 (Create n_v ∷ []) ∷
    tx n_t2 1 1 (Set n_v n_k n_x ∷ []) ∷
    []
    )

abbrev pub steps_head_waits_for_the_other_channel : List Step
steps_head_waits_for_the_other_channel =
    Begin 0 ∷ Judge 0 ∷ Send 0 ∷ Begin 1 ∷ Judge 1 ∷ Send 1 ∷ Deliver 1 0 1 ∷ Apply 0 1 ∷ Deliver 0 0 1 ∷
    Apply 0 0 ∷ Apply 0 1 ∷ []

abbrev report_head_waits_for_the_other_channel : Report
report_head_waits_for_the_other_channel = record {
  replies =
      reply 0 (Some (stamp 0 (1 ∷ []))) (Committed 1 []) ∷
      reply 1 (Some (stamp 1 (0 ∷ 1 ∷ []))) (Committed 2 []) ∷
      [];
  pairs = pair n_v 0 1 ∷ [];
  order = 0 ∷ 1 ∷ [];
  answers = Ok ∷ Ok ∷ Ok ∷ Ok ∷ Ok ∷ Ok ∷ Ok ∷ Waits n_v ∷ Ok ∷ Ok ∷ Ok ∷ [];
}

head_waits_for_the_other_channel : traced_report script_head_waits_for_the_other_channel steps_head_waits_for_the_other_channel ≡ report_head_waits_for_the_other_channel
head_waits_for_the_other_channel = refl
