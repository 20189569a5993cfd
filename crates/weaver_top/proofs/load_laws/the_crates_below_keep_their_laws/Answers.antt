use Rattle.weaver_top.proofs.load_laws.the_crates_below_keep_their_laws.Goals as goal

pub returns : goal.returns
returns c = record {
  right = c.account_is_right.ensures.right;
  of_the_script = c.account_is_right.ensures.of_the_script;
  in_printed_order = c.account_is_right.ensures.in_printed_order;
  meetings = c.account_is_right.ensures.meetings;
  pairs = c.account_has_one_report.ensures.pairs;
  differ = c.begun_stamps_are_coherent.ensures.differ;
  pairs_stay = c.facts_stay_true.ensures.pairs;
  answers = c.plain_answer_is_one.ensures;
  final = c.replied_requests_are_final.ensures;
  goes_on = c.steps_keep_the_core.ensures.goes_on;
}
