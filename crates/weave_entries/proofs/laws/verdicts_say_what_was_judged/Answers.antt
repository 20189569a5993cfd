use Rattle.weave_entries.proofs.StoreLogs.{commits-if, passes-if, refused-if, conflict-if}
use Rattle.weave_entries.proofs.laws.verdicts_say_what_was_judged.Goals as goal

pub returns : goal.returns
returns c =
    record {
      number = λ pairs commits stamp ops number answers counts is. (commits-if pairs commits stamp ops number answers counts is).0;
      counts = λ pairs commits stamp ops number answers counts is. (commits-if pairs commits stamp ops number answers counts is).1;
      conflict = λ pairs commits stamp ops vertex newer is. conflict-if pairs commits stamp ops ((c.precedence_is_decided.ensures.closed pairs).has_stamps) vertex newer is;
      passes = λ pairs commits stamp ops number answers counts is. passes-if pairs commits stamp ops number answers counts is;
      refused = λ pairs commits stamp ops op reason at is. refused-if pairs commits stamp ops op reason at is;
    }
