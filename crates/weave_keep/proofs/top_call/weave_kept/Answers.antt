-- With the words of `keep` each clause is one of `keep`, or its words are those of another command; else it is one of
-- `weave`.
use Rattle.std.proofs.Common.{rules, ◌≡◌, true, false, map, string_bytes, refl, sym, ◌∙◌}
use Rattle.std.proofs.lemmas.Bool.{both_ways}
use Rattle.weaver_top.specs.declared.command.Command.TheVariants.{Run, Check, Trace, Load}
use Rattle.weave_keep.specs.KeepWords.{are_keep_words}
use Rattle.weave_keep.proofs.Words.{not_asked, nothing_written, without_stall}
use Rattle.weave_keep.proofs.top_call.weave_kept.Goals as goal

pub returns-then-are_keep_words-clause-keep_kept : goal.returns-then-are_keep_words-clause-keep_kept
returns-then-are_keep_words-clause-keep_kept g c = λ is. c.keep.ensures.kept

pub returns-clause-keep_kept : goal.returns-clause-keep_kept
returns-clause-keep_kept g c = let other : are_keep_words (map string_bytes c.args.words.now) ≡ false = sym c.are_keep_words.ensures ∙ search rules in λ is. absurd (both_ways (are_keep_words (map string_bytes c.args.words.now)) other is)

pub returns-then-are_keep_words-clause-keep_any_moment : goal.returns-then-are_keep_words-clause-keep_any_moment
returns-then-are_keep_words-clause-keep_any_moment g c = λ is. c.keep.ensures.any_moment

pub returns-clause-keep_any_moment : goal.returns-clause-keep_any_moment
returns-clause-keep_any_moment g c = let other : are_keep_words (map string_bytes c.args.words.now) ≡ false = sym c.are_keep_words.ensures ∙ search rules in λ is. absurd (both_ways (are_keep_words (map string_bytes c.args.words.now)) other is)

pub returns-then-are_keep_words-clause-keep_from_a_journal : goal.returns-then-are_keep_words-clause-keep_from_a_journal
returns-then-are_keep_words-clause-keep_from_a_journal g c = λ is. c.keep.ensures.from_a_journal

pub returns-clause-keep_from_a_journal : goal.returns-clause-keep_from_a_journal
returns-clause-keep_from_a_journal g c = let other : are_keep_words (map string_bytes c.args.words.now) ≡ false = sym c.are_keep_words.ensures ∙ search rules in λ is. absurd (both_ways (are_keep_words (map string_bytes c.args.words.now)) other is)

pub returns-then-are_keep_words-clause-keep_refused : goal.returns-then-are_keep_words-clause-keep_refused
returns-then-are_keep_words-clause-keep_refused g c = λ is. c.keep.ensures.refused

pub returns-clause-keep_refused : goal.returns-clause-keep_refused
returns-clause-keep_refused g c = let other : are_keep_words (map string_bytes c.args.words.now) ≡ false = sym c.are_keep_words.ensures ∙ search rules in λ is. absurd (both_ways (are_keep_words (map string_bytes c.args.words.now)) other is)

pub returns-then-are_keep_words-clause-keep_disk : goal.returns-then-are_keep_words-clause-keep_disk
returns-then-are_keep_words-clause-keep_disk g c = λ is. c.keep.ensures.disk

pub returns-clause-keep_disk : goal.returns-clause-keep_disk
returns-clause-keep_disk g c = let other : are_keep_words (map string_bytes c.args.words.now) ≡ false = sym c.are_keep_words.ensures ∙ search rules in λ is. absurd (both_ways (are_keep_words (map string_bytes c.args.words.now)) other is)

pub returns-then-are_keep_words-clause-keep_foreign : goal.returns-then-are_keep_words-clause-keep_foreign
returns-then-are_keep_words-clause-keep_foreign g c = λ is. c.keep.ensures.foreign

pub returns-clause-keep_foreign : goal.returns-clause-keep_foreign
returns-clause-keep_foreign g c = let other : are_keep_words (map string_bytes c.args.words.now) ≡ false = sym c.are_keep_words.ensures ∙ search rules in λ is. absurd (both_ways (are_keep_words (map string_bytes c.args.words.now)) other is)

pub returns-then-are_keep_words-clause-keep_can_be_kept : goal.returns-then-are_keep_words-clause-keep_can_be_kept
returns-then-are_keep_words-clause-keep_can_be_kept g c = λ is. c.keep.ensures.can_be_kept

pub returns-clause-keep_can_be_kept : goal.returns-clause-keep_can_be_kept
returns-clause-keep_can_be_kept g c = let other : are_keep_words (map string_bytes c.args.words.now) ≡ false = sym c.are_keep_words.ensures ∙ search rules in λ is. absurd (both_ways (are_keep_words (map string_bytes c.args.words.now)) other is)

pub returns-then-are_keep_words-clause-keep_no_others : goal.returns-then-are_keep_words-clause-keep_no_others
returns-then-are_keep_words-clause-keep_no_others g c = λ is. c.keep.ensures.no_others

pub returns-clause-keep_no_others : goal.returns-clause-keep_no_others
returns-clause-keep_no_others g c = let other : are_keep_words (map string_bytes c.args.words.now) ≡ false = sym c.are_keep_words.ensures ∙ search rules in λ is. absurd (both_ways (are_keep_words (map string_bytes c.args.words.now)) other is)

pub returns-then-are_keep_words-clause-keep_never_foreign : goal.returns-then-are_keep_words-clause-keep_never_foreign
returns-then-are_keep_words-clause-keep_never_foreign g c = λ is. c.keep.ensures.never_foreign

pub returns-clause-keep_never_foreign : goal.returns-clause-keep_never_foreign
returns-clause-keep_never_foreign g c = let other : are_keep_words (map string_bytes c.args.words.now) ≡ false = sym c.are_keep_words.ensures ∙ search rules in λ is. absurd (both_ways (are_keep_words (map string_bytes c.args.words.now)) other is)

pub returns-then-are_keep_words-clause-keep_cut_short : goal.returns-then-are_keep_words-clause-keep_cut_short
returns-then-are_keep_words-clause-keep_cut_short g c = λ is. c.keep.ensures.cut_short

pub returns-clause-keep_cut_short : goal.returns-clause-keep_cut_short
returns-clause-keep_cut_short g c = let other : are_keep_words (map string_bytes c.args.words.now) ≡ false = sym c.are_keep_words.ensures ∙ search rules in λ is. absurd (both_ways (are_keep_words (map string_bytes c.args.words.now)) other is)

pub returns-then-are_keep_words-clause-keep_nothing_written : goal.returns-then-are_keep_words-clause-keep_nothing_written
returns-then-are_keep_words-clause-keep_nothing_written g c = λ is. c.keep.ensures.nothing_written

pub returns-clause-keep_nothing_written : goal.returns-clause-keep_nothing_written
returns-clause-keep_nothing_written g c = let other : are_keep_words (map string_bytes c.args.words.now) ≡ false = sym c.are_keep_words.ensures ∙ search rules in λ is. absurd (both_ways (are_keep_words (map string_bytes c.args.words.now)) other is)

pub returns-then-are_keep_words-clause-keep_untouched : goal.returns-then-are_keep_words-clause-keep_untouched
returns-then-are_keep_words-clause-keep_untouched g c = λ is. c.keep.ensures.untouched

pub returns-clause-keep_untouched : goal.returns-clause-keep_untouched
returns-clause-keep_untouched g c = let other : are_keep_words (map string_bytes c.args.words.now) ≡ false = sym c.are_keep_words.ensures ∙ search rules in λ is. absurd (both_ways (are_keep_words (map string_bytes c.args.words.now)) other is)

pub returns-then-are_keep_words-clause-keep_unwritten : goal.returns-then-are_keep_words-clause-keep_unwritten
returns-then-are_keep_words-clause-keep_unwritten g c = λ is. c.keep.ensures.unwritten

pub returns-clause-keep_unwritten : goal.returns-clause-keep_unwritten
returns-clause-keep_unwritten g c = let other : are_keep_words (map string_bytes c.args.words.now) ≡ false = sym c.are_keep_words.ensures ∙ search rules in λ is. absurd (both_ways (are_keep_words (map string_bytes c.args.words.now)) other is)

pub returns-then-are_keep_words-clause-keep_only_to_keep : goal.returns-then-are_keep_words-clause-keep_only_to_keep
returns-then-are_keep_words-clause-keep_only_to_keep g c = λ is. c.keep.ensures.only_to_keep

pub returns-clause-keep_only_to_keep : goal.returns-clause-keep_only_to_keep
returns-clause-keep_only_to_keep g c = let other : are_keep_words (map string_bytes c.args.words.now) ≡ false = sym c.are_keep_words.ensures ∙ search rules in λ is. absurd (both_ways (are_keep_words (map string_bytes c.args.words.now)) other is)

pub returns-then-are_keep_words-clause-keep_all_is_read : goal.returns-then-are_keep_words-clause-keep_all_is_read
returns-then-are_keep_words-clause-keep_all_is_read g c = λ is. c.keep.ensures.all_is_read

pub returns-clause-keep_all_is_read : goal.returns-clause-keep_all_is_read
returns-clause-keep_all_is_read g c = let other : are_keep_words (map string_bytes c.args.words.now) ≡ false = sym c.are_keep_words.ensures ∙ search rules in λ is. absurd (both_ways (are_keep_words (map string_bytes c.args.words.now)) other is)

pub returns-then-are_keep_words-clause-keep_read_first : goal.returns-then-are_keep_words-clause-keep_read_first
returns-then-are_keep_words-clause-keep_read_first g c = λ is. c.keep.ensures.read_first

pub returns-clause-keep_read_first : goal.returns-clause-keep_read_first
returns-clause-keep_read_first g c = let other : are_keep_words (map string_bytes c.args.words.now) ≡ false = sym c.are_keep_words.ensures ∙ search rules in λ is. absurd (both_ways (are_keep_words (map string_bytes c.args.words.now)) other is)

pub returns-then-are_keep_words-clause-keep_all_kept : goal.returns-then-are_keep_words-clause-keep_all_kept
returns-then-are_keep_words-clause-keep_all_kept g c = λ is. c.keep.ensures.all_kept

pub returns-clause-keep_all_kept : goal.returns-clause-keep_all_kept
returns-clause-keep_all_kept g c = let other : are_keep_words (map string_bytes c.args.words.now) ≡ false = sym c.are_keep_words.ensures ∙ search rules in λ is. absurd (both_ways (are_keep_words (map string_bytes c.args.words.now)) other is)

pub returns-then-are_keep_words-clause-untouched : goal.returns-then-are_keep_words-clause-untouched
returns-then-are_keep_words-clause-untouched g c = let kept : are_keep_words (map string_bytes c.args.words.now) ≡ true = sym c.are_keep_words.ensures ∙ search rules in λ other. absurd (both_ways (are_keep_words (map string_bytes c.args.words.now)) other kept)

pub returns-clause-untouched : goal.returns-clause-untouched
returns-clause-untouched g c = λ other. refl

pub returns-then-are_keep_words-clause-right_report : goal.returns-then-are_keep_words-clause-right_report
returns-then-are_keep_words-clause-right_report g c = let kept : are_keep_words (map string_bytes c.args.words.now) ≡ true = sym c.are_keep_words.ensures ∙ search rules in λ asked. absurd (not_asked (map string_bytes c.args.words.now) Run kept asked)

pub returns-clause-right_report : goal.returns-clause-right_report
returns-clause-right_report g c = c.weave.ensures.right_report

pub returns-then-are_keep_words-clause-traced : goal.returns-then-are_keep_words-clause-traced
returns-then-are_keep_words-clause-traced g c = let kept : are_keep_words (map string_bytes c.args.words.now) ≡ true = sym c.are_keep_words.ensures ∙ search rules in λ asked. absurd (not_asked (map string_bytes c.args.words.now) Trace kept asked)

pub returns-clause-traced : goal.returns-clause-traced
returns-clause-traced g c = c.weave.ensures.traced

pub returns-then-are_keep_words-clause-yes : goal.returns-then-are_keep_words-clause-yes
returns-then-are_keep_words-clause-yes g c = let kept : are_keep_words (map string_bytes c.args.words.now) ≡ true = sym c.are_keep_words.ensures ∙ search rules in λ asked. absurd (not_asked (map string_bytes c.args.words.now) Check kept asked)

pub returns-clause-yes : goal.returns-clause-yes
returns-clause-yes g c = c.weave.ensures.yes

pub returns-then-are_keep_words-clause-no : goal.returns-then-are_keep_words-clause-no
returns-then-are_keep_words-clause-no g c = λ is. absurd (c.keep.ensures.no_others.1 is)

pub returns-clause-no : goal.returns-clause-no
returns-clause-no g c = c.weave.ensures.no

pub returns-then-are_keep_words-clause-loaded : goal.returns-then-are_keep_words-clause-loaded
returns-then-are_keep_words-clause-loaded g c = let kept : are_keep_words (map string_bytes c.args.words.now) ≡ true = sym c.are_keep_words.ensures ∙ search rules in λ seed size asked. absurd (not_asked (map string_bytes c.args.words.now) (Load seed size) kept asked)

pub returns-clause-loaded : goal.returns-clause-loaded
returns-clause-loaded g c = c.weave.ensures.loaded

pub returns-then-are_keep_words-clause-all_is_read : goal.returns-then-are_keep_words-clause-all_is_read
returns-then-are_keep_words-clause-all_is_read g c = let kept : are_keep_words (map string_bytes c.args.words.now) ≡ true = sym c.are_keep_words.ensures ∙ search rules in λ command asked. absurd (not_asked (map string_bytes c.args.words.now) command kept asked)

pub returns-clause-all_is_read : goal.returns-clause-all_is_read
returns-clause-all_is_read g c = c.weave.ensures.all_is_read

pub returns-then-are_keep_words-clause-by_logs : goal.returns-then-are_keep_words-clause-by_logs
returns-then-are_keep_words-clause-by_logs g c = let kept : are_keep_words (map string_bytes c.args.words.now) ≡ true = sym c.are_keep_words.ensures ∙ search rules in λ asked. absurd (not_asked (map string_bytes c.args.words.now) Run kept asked)

pub returns-clause-by_logs : goal.returns-clause-by_logs
returns-clause-by_logs g c = c.weave.ensures.by_logs

pub returns-then-are_keep_words-clause-by_workers : goal.returns-then-are_keep_words-clause-by_workers
returns-then-are_keep_words-clause-by_workers g c = let kept : are_keep_words (map string_bytes c.args.words.now) ≡ true = sym c.are_keep_words.ensures ∙ search rules in λ asked. absurd (not_asked (map string_bytes c.args.words.now) Run kept asked)

pub returns-clause-by_workers : goal.returns-clause-by_workers
returns-clause-by_workers g c = c.weave.ensures.by_workers

pub returns-then-are_keep_words-clause-accepted_by_check : goal.returns-then-are_keep_words-clause-accepted_by_check
returns-then-are_keep_words-clause-accepted_by_check g c = let kept : are_keep_words (map string_bytes c.args.words.now) ≡ true = sym c.are_keep_words.ensures ∙ search rules in λ asked. absurd (not_asked (map string_bytes c.args.words.now) Run kept asked)

pub returns-clause-accepted_by_check : goal.returns-clause-accepted_by_check
returns-clause-accepted_by_check g c = c.weave.ensures.accepted_by_check

pub returns-then-are_keep_words-clause-trace_accepted : goal.returns-then-are_keep_words-clause-trace_accepted
returns-then-are_keep_words-clause-trace_accepted g c = let kept : are_keep_words (map string_bytes c.args.words.now) ≡ true = sym c.are_keep_words.ensures ∙ search rules in λ asked. absurd (not_asked (map string_bytes c.args.words.now) Trace kept asked)

pub returns-clause-trace_accepted : goal.returns-clause-trace_accepted
returns-clause-trace_accepted g c = c.weave.ensures.trace_accepted

pub returns-then-are_keep_words-clause-words : goal.returns-then-are_keep_words-clause-words
returns-then-are_keep_words-clause-words g c = let kept : are_keep_words (map string_bytes c.args.words.now) ≡ true = sym c.are_keep_words.ensures ∙ search rules in (λ is. absurd (c.keep.ensures.no_others.0 is), λ both. absurd (both_ways (are_keep_words (map string_bytes c.args.words.now)) both.1 kept))

pub returns-clause-words : goal.returns-clause-words
returns-clause-words g c = let other : are_keep_words (map string_bytes c.args.words.now) ≡ false = sym c.are_keep_words.ensures ∙ search rules in (λ is. (c.weave.ensures.words.0 is, other), λ both. c.weave.ensures.words.1 both.0)

pub returns-then-are_keep_words-clause-read : goal.returns-then-are_keep_words-clause-read
returns-then-are_keep_words-clause-read g c = c.keep.ensures.read

pub returns-clause-read : goal.returns-clause-read
returns-clause-read g c = c.weave.ensures.read

pub returns-then-are_keep_words-clause-refused : goal.returns-then-are_keep_words-clause-refused
returns-then-are_keep_words-clause-refused g c = let kept : are_keep_words (map string_bytes c.args.words.now) ≡ true = sym c.are_keep_words.ensures ∙ search rules in λ command asked. absurd (not_asked (map string_bytes c.args.words.now) command kept asked)

pub returns-clause-refused : goal.returns-clause-refused
returns-clause-refused g c = c.weave.ensures.refused

pub returns-then-are_keep_words-clause-input_refused : goal.returns-then-are_keep_words-clause-input_refused
returns-then-are_keep_words-clause-input_refused g c = let kept : are_keep_words (map string_bytes c.args.words.now) ≡ true = sym c.are_keep_words.ensures ∙ search rules in λ command asked. absurd (not_asked (map string_bytes c.args.words.now) command kept asked)

pub returns-clause-input_refused : goal.returns-clause-input_refused
returns-clause-input_refused g c = c.weave.ensures.input_refused

pub returns-then-are_keep_words-clause-write : goal.returns-then-are_keep_words-clause-write
returns-then-are_keep_words-clause-write g c = c.keep.ensures.write

pub returns-clause-write : goal.returns-clause-write
returns-clause-write g c = c.weave.ensures.write

pub returns-then-are_keep_words-clause-prefix : goal.returns-then-are_keep_words-clause-prefix
returns-then-are_keep_words-clause-prefix g c = let kept : are_keep_words (map string_bytes c.args.words.now) ≡ true = sym c.are_keep_words.ensures ∙ search rules in λ command asked. absurd (not_asked (map string_bytes c.args.words.now) command kept asked)

pub returns-clause-prefix : goal.returns-clause-prefix
returns-clause-prefix g c = c.weave.ensures.prefix

pub returns-then-are_keep_words-clause-load_prefix : goal.returns-then-are_keep_words-clause-load_prefix
returns-then-are_keep_words-clause-load_prefix g c = let kept : are_keep_words (map string_bytes c.args.words.now) ≡ true = sym c.are_keep_words.ensures ∙ search rules in λ seed size asked. absurd (not_asked (map string_bytes c.args.words.now) (Load seed size) kept asked)

pub returns-clause-load_prefix : goal.returns-clause-load_prefix
returns-clause-load_prefix g c = c.weave.ensures.load_prefix

pub returns-then-are_keep_words-clause-no_others : goal.returns-then-are_keep_words-clause-no_others
returns-then-are_keep_words-clause-no_others g c = let kept : are_keep_words (map string_bytes c.args.words.now) ≡ true = sym c.are_keep_words.ensures ∙ search rules in λ other. absurd (both_ways (are_keep_words (map string_bytes c.args.words.now)) other kept)

pub returns-clause-no_others : goal.returns-clause-no_others
returns-clause-no_others g c = λ other. c.weave.ensures.no_others

pub returns-then-are_keep_words-clause-read_first : goal.returns-then-are_keep_words-clause-read_first
returns-then-are_keep_words-clause-read_first g c = let kept : are_keep_words (map string_bytes c.args.words.now) ≡ true = sym c.are_keep_words.ensures ∙ search rules in λ command asked. absurd (not_asked (map string_bytes c.args.words.now) command kept asked)

pub returns-clause-read_first : goal.returns-clause-read_first
returns-clause-read_first g c = c.weave.ensures.read_first

pub returns-then-are_keep_words-clause-without_stall : goal.returns-then-are_keep_words-clause-without_stall
returns-then-are_keep_words-clause-without_stall g c = without_stall _ c.keep.ensures.no_others.1 c.keep.ensures.without_stall

pub returns-clause-without_stall : goal.returns-clause-without_stall
returns-clause-without_stall g c = c.weave.ensures.without_stall

pub returns-then-are_keep_words-clause-nothing_written : goal.returns-then-are_keep_words-clause-nothing_written
returns-then-are_keep_words-clause-nothing_written g c = nothing_written _ c.keep.ensures.no_others.0 c.keep.ensures.nothing_written

pub returns-clause-nothing_written : goal.returns-clause-nothing_written
returns-clause-nothing_written g c = c.weave.ensures.nothing_written

pub returns-then-are_keep_words-clause-nothing_read : goal.returns-then-are_keep_words-clause-nothing_read
returns-then-are_keep_words-clause-nothing_read g c = λ is. absurd (c.keep.ensures.no_others.0 is)

pub returns-clause-nothing_read : goal.returns-clause-nothing_read
returns-clause-nothing_read g c = c.weave.ensures.nothing_read

pub returns-then-are_keep_words-clause-load_reads_nothing : goal.returns-then-are_keep_words-clause-load_reads_nothing
returns-then-are_keep_words-clause-load_reads_nothing g c = let kept : are_keep_words (map string_bytes c.args.words.now) ≡ true = sym c.are_keep_words.ensures ∙ search rules in λ seed size asked. absurd (not_asked (map string_bytes c.args.words.now) (Load seed size) kept asked)

pub returns-clause-load_reads_nothing : goal.returns-clause-load_reads_nothing
returns-clause-load_reads_nothing g c = c.weave.ensures.load_reads_nothing

pub returns-then-are_keep_words-clause-read_in_time : goal.returns-then-are_keep_words-clause-read_in_time
returns-then-are_keep_words-clause-read_in_time g c = c.keep.ensures.read_in_time

pub returns-clause-read_in_time : goal.returns-clause-read_in_time
returns-clause-read_in_time g c = c.weave.ensures.read_in_time

pub returns-then-are_keep_words-clause-rest : goal.returns-then-are_keep_words-clause-rest
returns-then-are_keep_words-clause-rest g c = c.keep.ensures.rest

pub returns-clause-rest : goal.returns-clause-rest
returns-clause-rest g c = c.weave.ensures.rest

pub returns-then-are_keep_words-clause-written_stays : goal.returns-then-are_keep_words-clause-written_stays
returns-then-are_keep_words-clause-written_stays g c = c.keep.ensures.written_stays

pub returns-clause-written_stays : goal.returns-clause-written_stays
returns-clause-written_stays g c = c.weave.ensures.written_stays

pub returns-then-are_keep_words-clause-all_run : goal.returns-then-are_keep_words-clause-all_run
returns-then-are_keep_words-clause-all_run g c = let kept : are_keep_words (map string_bytes c.args.words.now) ≡ true = sym c.are_keep_words.ensures ∙ search rules in λ asked. absurd (not_asked (map string_bytes c.args.words.now) Run kept asked)

pub returns-clause-all_run : goal.returns-clause-all_run
returns-clause-all_run g c = c.weave.ensures.all_run

pub returns-then-are_keep_words-clause-all_judged : goal.returns-then-are_keep_words-clause-all_judged
returns-then-are_keep_words-clause-all_judged g c = let kept : are_keep_words (map string_bytes c.args.words.now) ≡ true = sym c.are_keep_words.ensures ∙ search rules in λ asked. absurd (not_asked (map string_bytes c.args.words.now) Check kept asked)

pub returns-clause-all_judged : goal.returns-clause-all_judged
returns-clause-all_judged g c = c.weave.ensures.all_judged

pub returns-then-are_keep_words-clause-all_traced : goal.returns-then-are_keep_words-clause-all_traced
returns-then-are_keep_words-clause-all_traced g c = let kept : are_keep_words (map string_bytes c.args.words.now) ≡ true = sym c.are_keep_words.ensures ∙ search rules in λ asked. absurd (not_asked (map string_bytes c.args.words.now) Trace kept asked)

pub returns-clause-all_traced : goal.returns-clause-all_traced
returns-clause-all_traced g c = c.weave.ensures.all_traced

pub returns-then-are_keep_words-clause-all_loaded : goal.returns-then-are_keep_words-clause-all_loaded
returns-then-are_keep_words-clause-all_loaded g c = let kept : are_keep_words (map string_bytes c.args.words.now) ≡ true = sym c.are_keep_words.ensures ∙ search rules in λ seed size asked. absurd (not_asked (map string_bytes c.args.words.now) (Load seed size) kept asked)

pub returns-clause-all_loaded : goal.returns-clause-all_loaded
returns-clause-all_loaded g c = c.weave.ensures.all_loaded
