-- Each clause but one follows from how the call ends.
use Rattle.weaver_top.proofs.CallEnds as end
use Rattle.weaver_top.proofs.top_call.weave.Goals as goal

pub returns-clause-right_report : goal.returns-clause-right_report
returns-clause-right_report g c = end.right_report c.weave_words.ensures.ends

pub returns-clause-traced : goal.returns-clause-traced
returns-clause-traced g c = end.traced c.weave_words.ensures.ends

pub returns-clause-yes : goal.returns-clause-yes
returns-clause-yes g c = end.yes c.weave_words.ensures.ends

pub returns-clause-no : goal.returns-clause-no
returns-clause-no g c = end.no c.weave_words.ensures.ends

pub returns-clause-loaded : goal.returns-clause-loaded
returns-clause-loaded g c = end.loaded c.weave_words.ensures.ends

pub returns-clause-all_is_read : goal.returns-clause-all_is_read
returns-clause-all_is_read g c = end.all_is_read c.weave_words.ensures.ends

pub returns-clause-by_logs : goal.returns-clause-by_logs
returns-clause-by_logs g c = end.by_logs c.weave_words.ensures.ends

pub returns-clause-by_workers : goal.returns-clause-by_workers
returns-clause-by_workers g c = c.weave_words.ensures.workers

pub returns-clause-accepted_by_check : goal.returns-clause-accepted_by_check
returns-clause-accepted_by_check g c = end.accepted_by_check c.weave_words.ensures.ends

pub returns-clause-trace_accepted : goal.returns-clause-trace_accepted
returns-clause-trace_accepted g c = end.trace_accepted c.weave_words.ensures.ends

pub returns-clause-words : goal.returns-clause-words
returns-clause-words g c = end.words c.weave_words.ensures.ends

pub returns-clause-read : goal.returns-clause-read
returns-clause-read g c = λ is. (end.read c.weave_words.ensures.ends is).0

pub returns-clause-refused : goal.returns-clause-refused
returns-clause-refused g c = end.refused c.weave_words.ensures.ends

pub returns-clause-input_refused : goal.returns-clause-input_refused
returns-clause-input_refused g c = end.input_refused c.weave_words.ensures.ends

pub returns-clause-write : goal.returns-clause-write
returns-clause-write g c = end.write c.weave_words.ensures.ends

pub returns-clause-prefix : goal.returns-clause-prefix
returns-clause-prefix g c = end.prefix c.weave_words.ensures.ends

pub returns-clause-load_prefix : goal.returns-clause-load_prefix
returns-clause-load_prefix g c = end.load_prefix c.weave_words.ensures.ends

pub returns-clause-no_others : goal.returns-clause-no_others
returns-clause-no_others g c = end.no_others c.weave_words.ensures.ends

pub returns-clause-read_first : goal.returns-clause-read_first
returns-clause-read_first g c = end.read_first c.weave_words.ensures.ends

pub returns-clause-without_stall : goal.returns-clause-without_stall
returns-clause-without_stall g c = end.without_stall c.weave_words.ensures.ends

pub returns-clause-nothing_written : goal.returns-clause-nothing_written
returns-clause-nothing_written g c = end.nothing_written c.weave_words.ensures.ends

pub returns-clause-nothing_read : goal.returns-clause-nothing_read
returns-clause-nothing_read g c = end.nothing_read c.weave_words.ensures.ends

pub returns-clause-load_reads_nothing : goal.returns-clause-load_reads_nothing
returns-clause-load_reads_nothing g c = end.load_reads_nothing c.weave_words.ensures.ends

pub returns-clause-read_in_time : goal.returns-clause-read_in_time
returns-clause-read_in_time g c = λ is. (end.read c.weave_words.ensures.ends is).1

pub returns-clause-rest : goal.returns-clause-rest
returns-clause-rest g c = end.rest_left c.weave_words.ensures.ends

pub returns-clause-written_stays : goal.returns-clause-written_stays
returns-clause-written_stays g c = end.written_stays c.weave_words.ensures.ends

pub returns-clause-all_run : goal.returns-clause-all_run
returns-clause-all_run g c = end.all_run c.weave_words.ensures.ends

pub returns-clause-all_judged : goal.returns-clause-all_judged
returns-clause-all_judged g c = end.all_judged c.weave_words.ensures.ends

pub returns-clause-all_traced : goal.returns-clause-all_traced
returns-clause-all_traced g c = end.all_traced c.weave_words.ensures.ends

pub returns-clause-all_loaded : goal.returns-clause-all_loaded
returns-clause-all_loaded g c = end.all_loaded c.weave_words.ensures.ends
