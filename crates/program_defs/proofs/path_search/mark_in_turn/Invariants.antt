use Rattle.std.proofs.Common.{◌≡◌, ◌≤◌, drop, length}
use Rattle.std.specs.HashMap.{spare}
use Rattle.weave_data.specs.declared.name.Name.{Name}
use Rattle.program_defs.specs.LeastWalks.{mark_in, marks_after}
use Rattle.program_defs.proofs.path_search.mark_in_turn.Given as goal

abbrev pub invariant-loop-hop : goal.invariant-loop-hop
invariant-loop-hop l = record {
  room : length (drop l.hop-index l.hops) ≤ spare l.marks;
  marks : (v : Name) → marks_after (mark_in l.marks.entries) (length l.marks.entries) (drop l.hop-index l.hops) v ≡ marks_after (mark_in l.initial.marks.entries) (length l.initial.marks.entries) l.hops v;
}
