use Rattle.promise_laws.proofs.laws.headline_allows_what_is_kept.Goals as goal

pub returns : goal.returns
returns c = λ input text. (
  λ t. record {
    input_is_short = t.input_is_short;
    script = t.script;
    input_is_its_text = t.input_is_its_text;
    report = t.report;
    report_is_of_script = t.report_is_of_script;
    report_is_right = t.report_is_right;
    promises_are_kept = record {
      printed_order = (c.clauses_say_what_run_promises.ensures.printed_order t.report).1 t.order_is_printed_order;
      meetings = (c.clauses_say_what_run_promises.ensures.meetings t.script t.report).1 t.meetings_are_ordered;
      phases = (c.clauses_say_what_run_promises.ensures.phases t.script t.report t.report_is_right.0).1 t.phases_are_kept;
      final_replies = (c.clauses_say_what_run_promises.ensures.final_replies t.report).1 t.every_reply_is_final;
      no_steps = (c.clauses_say_what_run_promises.ensures.no_steps t.report).1 t.no_steps;
    };
    text_is_printed = t.text_is_printed;
  },
  λ k. record {
    input_is_short = k.input_is_short;
    script = k.script;
    input_is_its_text = k.input_is_its_text;
    report = k.report;
    report_is_of_script = k.report_is_of_script;
    report_is_right = k.report_is_right;
    order_is_printed_order = (c.clauses_say_what_run_promises.ensures.printed_order k.report).0 k.promises_are_kept.printed_order;
    meetings_are_ordered = (c.clauses_say_what_run_promises.ensures.meetings k.script k.report).0 k.promises_are_kept.meetings;
    phases_are_kept = (c.clauses_say_what_run_promises.ensures.phases k.script k.report k.report_is_right.0).0 k.promises_are_kept.phases;
    every_reply_is_final = (c.clauses_say_what_run_promises.ensures.final_replies k.report).0 k.promises_are_kept.final_replies;
    no_steps = (c.clauses_say_what_run_promises.ensures.no_steps k.report).0 k.promises_are_kept.no_steps;
    text_is_printed = k.text_is_printed;
  },
)
