-- Worked lists of steps with an operation that needs its target, computed.
-- Used by nothing: worked examples.
use Rattle.std.specs.Prelude.{◌≡◌, refl, List, [], ◌∷◌, Some}
use Rattle.graph_ops.specs.declared.op.Op.TheVariants.{Create, Link, Join}
use Rattle.graph_ops.specs.declared.op.Reason.TheVariants.{NoTarget}
use Rattle.program_defs.specs.declared.program.Program.TheVariants.{Show}
use Rattle.program_defs.specs.declared.program.Answer.TheVariants.{Shown}
use Rattle.program_defs.specs.declared.script.Script.{Script}
use Rattle.program_defs.specs.declared.script.Step.{Step}
use Rattle.program_defs.specs.declared.script.Step.TheVariants.{Begin, Judge, Send, Say, Hear, Nop, Deliver, Apply, Visit, Reply}
use Rattle.report_rules.specs.declared.report.ReplyState.TheVariants.{Committed, Conflict, Refused, Finished}
use Rattle.report_rules.specs.declared.report.StepAnswer.TheVariants.{Ok, Waits}
use Rattle.step_rules.proofs.Computed.{traced_report}
use Rattle.step_rules.proofs.RowWords.{script, tx, prog, stamp, reply, pair, record_of, n_a, n_b, n_e, n_p, n_t1, n_t2}

abbrev script_join : Script
script_join = script 2 1 (
    tx n_t1 0 0 (Create n_b ∷ []) ∷
    tx n_t2 1 1 (Create n_a ∷ Join n_a n_e n_b ∷ []) ∷
    []
    )

-- the same as version 1
abbrev script_link : Script
script_link = script 2 1 (
    tx n_t1 0 0 (Create n_b ∷ []) ∷
    tx n_t2 1 1 (Create n_a ∷ Link n_a n_e n_b ∷ []) ∷
    []
    )

abbrev steps_in_turn : List Step
steps_in_turn = Begin 0 ∷ Judge 0 ∷ Send 0 ∷ Begin 1 ∷ Judge 1 ∷ Send 1 ∷ []

-- the target is named: the two writers are settled there
a_join_names_its_target : traced_report script_join steps_in_turn ≡ record {
  replies =
      reply 0 (Some (stamp 0 (1 ∷ []))) (Committed 1 []) ∷
      reply 1 (Some (stamp 1 (0 ∷ 1 ∷ []))) (Committed 2 []) ∷
      [];
  pairs = pair n_b 0 1 ∷ [];
  order = 0 ∷ 1 ∷ [];
  answers = Ok ∷ Ok ∷ Ok ∷ Ok ∷ Ok ∷ Ok ∷ [];
}
a_join_names_its_target = refl

-- the target of a link isn't
a_link_does_not : traced_report script_link steps_in_turn ≡ record {
  replies =
      reply 0 (Some (stamp 0 (1 ∷ []))) (Committed 1 []) ∷
      reply 1 (Some (stamp 1 (0 ∷ 1 ∷ []))) (Committed 2 []) ∷
      [];
  pairs = [];
  order = 0 ∷ 1 ∷ [];
  answers = Ok ∷ Ok ∷ Ok ∷ Ok ∷ Ok ∷ Ok ∷ [];
}
a_link_does_not = refl

abbrev steps_turned : List Step
steps_turned = Begin 1 ∷ Judge 1 ∷ Send 1 ∷ Begin 0 ∷ Judge 0 ∷ Send 0 ∷ []

-- without its target a join is refused
a_join_without_its_target : traced_report script_join steps_turned ≡ record {
  replies =
      reply 0 (Some (stamp 0 (1 ∷ []))) (Committed 1 []) ∷
      reply 1 (Some (stamp 1 (0 ∷ 1 ∷ []))) (Refused 2 NoTarget 0) ∷
      [];
  pairs = [];
  order = 0 ∷ [];
  answers = Ok ∷ Ok ∷ Ok ∷ Ok ∷ Ok ∷ Ok ∷ [];
}
a_join_without_its_target = refl

abbrev steps_heard : List Step
steps_heard = Begin 1 ∷ Say 1 ∷ Hear 0 1 ∷ Begin 0 ∷ Judge 0 ∷ Send 0 ∷ Judge 1 ∷ Send 1 ∷ []

-- a join is in conflict with a later writer of its target
a_conflict_at_the_target : traced_report script_join steps_heard ≡ record {
  replies =
      reply 0 (Some (stamp 0 (1 ∷ 1 ∷ []))) (Committed 1 []) ∷
      reply 1 (Some (stamp 1 (0 ∷ 1 ∷ []))) (Conflict n_b 0) ∷
      [];
  pairs = [];
  order = 0 ∷ [];
  answers = Ok ∷ Ok ∷ Ok ∷ Ok ∷ Ok ∷ Ok ∷ Ok ∷ Ok ∷ [];
}
a_conflict_at_the_target = refl

-- a message's part for a target has no operations, and waits for its turn as any other
abbrev steps_applied : List Step
steps_applied =
    Begin 0 ∷ Judge 0 ∷ Send 0 ∷ Begin 1 ∷ Judge 1 ∷ Send 1 ∷ Deliver 1 0 1 ∷ Apply 0 1 ∷ Deliver 0 0 1 ∷ Apply 0 0 ∷
    Apply 0 1 ∷ []

a_part_without_operations_waits : traced_report script_join steps_applied ≡ record {
  replies =
      reply 0 (Some (stamp 0 (1 ∷ []))) (Committed 1 []) ∷
      reply 1 (Some (stamp 1 (0 ∷ 1 ∷ []))) (Committed 2 []) ∷
      [];
  pairs = pair n_b 0 1 ∷ [];
  order = 0 ∷ 1 ∷ [];
  answers = Ok ∷ Ok ∷ Ok ∷ Ok ∷ Ok ∷ Ok ∷ Ok ∷ Waits n_b ∷ Ok ∷ Ok ∷ Ok ∷ [];
}
a_part_without_operations_waits = refl

-- Such an update is seen by a program: its vertex's count has risen, and its stamp is settled before the program's.
-- `show b` begins at gatekeeper 0; the join commits at gatekeeper 1, unordered with it, before the program reads b.
abbrev script_shown : Script
script_shown = script 2 1 (
    tx n_t1 0 0 (Create n_b ∷ []) ∷
    tx n_t2 1 1 (Create n_a ∷ Join n_a n_e n_b ∷ []) ∷
    prog n_p 2 0 (Show n_b) ∷
    []
    )

abbrev steps_shown : List Step
steps_shown =
    Begin 0 ∷ Judge 0 ∷ Send 0 ∷ Begin 1 ∷ Judge 1 ∷ Send 1 ∷ Deliver 0 0 1 ∷ Apply 0 0 ∷ Deliver 1 0 1 ∷ Apply 0 1 ∷
    Begin 2 ∷ Say 0 ∷ Hear 1 1 ∷ Nop 1 0 ∷ Nop 0 0 ∷ Deliver 1 0 2 ∷ Deliver 0 0 2 ∷ Visit 2 ∷ Reply 2 ∷ []

a_program_sees_it : traced_report script_shown steps_shown ≡ record {
  replies =
      reply 0 (Some (stamp 0 (1 ∷ []))) (Committed 1 []) ∷
      reply 1 (Some (stamp 1 (0 ∷ 1 ∷ []))) (Committed 2 []) ∷
      reply 2 (Some (stamp 0 (2 ∷ []))) (Finished (Shown (Some (record_of [] [])))) ∷
      [];
  pairs = pair n_b 0 1 ∷ pair n_b 1 2 ∷ [];
  order = 0 ∷ 1 ∷ 2 ∷ [];
  answers =
      Ok ∷ Ok ∷ Ok ∷ Ok ∷ Ok ∷ Ok ∷ Ok ∷ Ok ∷ Ok ∷ Ok ∷ Ok ∷ Ok ∷ Ok ∷ Ok ∷ Ok ∷ Ok ∷ Ok ∷ Ok ∷ Ok ∷ [];
}
a_program_sees_it = refl

-- one gatekeeper, two transactions of one session: with no target the first is refused, and the second makes its own
abbrev script_one_gate : Script
script_one_gate = script 1 1 (
    tx n_t1 0 0 (Create n_a ∷ Join n_a n_e n_b ∷ []) ∷
    tx n_t2 0 0 (Create n_a ∷ Create n_b ∷ Join n_a n_e n_b ∷ []) ∷
    []
    )

a_target_of_its_own : traced_report script_one_gate (Begin 0 ∷ Judge 0 ∷ Send 0 ∷ Reply 0 ∷ Begin 1 ∷ Judge 0 ∷ Send 0 ∷ []) ≡ record {
  replies =
      reply 0 (Some (stamp 0 (1 ∷ []))) (Refused 2 NoTarget 0) ∷
      reply 1 (Some (stamp 0 (2 ∷ []))) (Committed 1 []) ∷
      [];
  pairs = [];
  order = 1 ∷ [];
  answers = Ok ∷ Ok ∷ Ok ∷ Ok ∷ Ok ∷ Ok ∷ Ok ∷ [];
}
a_target_of_its_own = refl
