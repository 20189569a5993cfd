use Rattle.std.proofs.Common.{◌≡◌, drop}
use Rattle.weaver_core.specs.Noting.{noted_all}
use Rattle.weaver_core.proofs.sessions.note_begins.Given as goal

-- what is noted so far, and then the rest, is what all give
abbrev pub invariant-loop-entry : goal.invariant-loop-entry
invariant-loop-entry l = noted_all l.stamps.items (drop l.entry-index l.log) ≡ noted_all l.fn.stamps.items l.log
