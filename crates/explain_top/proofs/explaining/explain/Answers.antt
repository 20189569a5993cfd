-- Each clause follows from how the call ends.
use Rattle.explain_top.proofs.CallEnds as end
use Rattle.explain_top.proofs.Streams.{no_stall}
use Rattle.explain_top.proofs.explaining.explain.Goals as goal

pub returns-clause-first_line : goal.returns-clause-first_line
returns-clause-first_line g c = end.first_line c.explain_asked.ensures.ends

pub returns-clause-script_is_read : goal.returns-clause-script_is_read
returns-clause-script_is_read g c = end.script_is_read c.explain_asked.ensures.ends

pub returns-clause-script_is_refused : goal.returns-clause-script_is_refused
returns-clause-script_is_refused g c = end.script_is_refused c.explain_asked.ensures.ends

pub returns-clause-drawn : goal.returns-clause-drawn
returns-clause-drawn g c = end.drawn c.explain_asked.ensures.ends

pub returns-clause-not_drawn : goal.returns-clause-not_drawn
returns-clause-not_drawn g c = end.not_drawn c.explain_asked.ensures.ends

pub returns-clause-words : goal.returns-clause-words
returns-clause-words g c = end.words c.explain_asked.ensures.ends

pub returns-clause-not_right : goal.returns-clause-not_right
returns-clause-not_right g c = end.not_right c.explain_asked.ensures.ends

pub returns-clause-read : goal.returns-clause-read
returns-clause-read g c = end.read c.explain_asked.ensures.ends

pub returns-clause-write : goal.returns-clause-write
returns-clause-write g c = end.write c.explain_asked.ensures.ends

pub returns-clause-prefix : goal.returns-clause-prefix
returns-clause-prefix g c = end.prefix c.explain_asked.ensures.ends

pub returns-clause-no_others : goal.returns-clause-no_others
returns-clause-no_others g c = end.no_others c.explain_asked.ensures.ends

pub returns-clause-nothing_written : goal.returns-clause-nothing_written
returns-clause-nothing_written g c = end.nothing_written c.explain_asked.ensures.ends

pub returns-clause-nothing_read : goal.returns-clause-nothing_read
returns-clause-nothing_read g c = end.nothing_read c.explain_asked.ensures.ends

pub returns-clause-all_is_read : goal.returns-clause-all_is_read
returns-clause-all_is_read g c = c.explain_asked.ensures.leaves.all_is_read

pub returns-clause-read_first : goal.returns-clause-read_first
returns-clause-read_first g c = c.explain_asked.ensures.leaves.read_first

pub returns-clause-without_stall : goal.returns-clause-without_stall
returns-clause-without_stall g c = no_stall c.explain_asked.ensures.leaves

pub returns-clause-read_in_time : goal.returns-clause-read_in_time
returns-clause-read_in_time g c = c.explain_asked.ensures.leaves.read_in_time

pub returns-clause-rest : goal.returns-clause-rest
returns-clause-rest g c = c.explain_asked.ensures.leaves.rest_left

pub returns-clause-written_stays : goal.returns-clause-written_stays
returns-clause-written_stays g c = c.explain_asked.ensures.leaves.written_stays
