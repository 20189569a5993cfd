-- The versions that are kept in the rows on collection.
-- Used by nothing: worked examples.
use Rattle.std.specs.Prelude.{◌≡◌, refl, take}
use Rattle.weave_entries.specs.ShardReplay.{kept_of}
use Rattle.weave_account.specs.Account.{shard_log}
use Rattle.step_rules.specs.Trace.{trace_of}
use Rattle.step_rules.proofs.Rows.{script_collection_under_a_program, steps_collection_under_a_program, script_collection_with_a_silent_gatekeeper, steps_collection_with_a_silent_gatekeeper}
use Rattle.step_rules.proofs.RowWords.{n_v, n_w}
use Rattle.step_rules.proofs.FurtherRows.{script_low_mark_of_an_empty_message, steps_low_mark_of_an_empty_message}
use Rattle.step_rules.proofs.MoreRows.{script_low_marks_hold_for_a_program, steps_low_marks_hold_for_a_program}

two_after_14 : kept_of n_w (shard_log (trace_of script_collection_under_a_program (take 14 steps_collection_under_a_program)).state.account 0) ≡ 2
two_after_14 = refl

one_after_20 : kept_of n_w (shard_log (trace_of script_collection_under_a_program (take 20 steps_collection_under_a_program)).state.account 0) ≡ 1
one_after_20 = refl

-- a running program holds back the bound: all three versions are kept, and one after it has ended
three_while_running : kept_of n_v (shard_log (trace_of script_low_marks_hold_for_a_program (take 20 steps_low_marks_hold_for_a_program)).state.account 0) ≡ 3
three_while_running = refl

one_when_ended : kept_of n_v (shard_log (trace_of script_low_marks_hold_for_a_program steps_low_marks_hold_for_a_program).state.account 0) ≡ 1
one_when_ended = refl

-- a gatekeeper that has sent nothing holds back the bound
two_with_a_silent_one : kept_of n_w (shard_log (trace_of script_collection_with_a_silent_gatekeeper steps_collection_with_a_silent_gatekeeper).state.account 0) ≡ 2
two_with_a_silent_one = refl

-- an empty message holds it back too while a program runs
two_with_an_empty_message : kept_of n_v (shard_log (trace_of script_low_mark_of_an_empty_message steps_low_mark_of_an_empty_message).state.account 0) ≡ 2
two_with_an_empty_message = refl
