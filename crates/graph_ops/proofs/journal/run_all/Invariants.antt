use Rattle.std.proofs.Common.{◌≡◌, ◌+◌, drop}
use Rattle.graph_ops.specs.PlainGraph.{with_gots_before, run, transaction}
use Rattle.graph_ops.specs.Slots.{states_of}
use Rattle.graph_ops.specs.TakingBack.{graph_rewound}
use Rattle.graph_ops.specs.Journals.{CanRewindIn}
use Rattle.graph_ops.proofs.journal.run_all.Given as goal

abbrev pub invariant-loop-i : goal.invariant-loop-i
invariant-loop-i l = record {
  told : with_gots_before l.gots.items (run (l.i + 1) (drop l.i l.ops) (states_of l.slots.entries)) ≡ transaction l.ops (states_of l.initial.slots.entries);
  kept : CanRewindIn l.journal.items l.slots.entries;
  same : graph_rewound l.journal.items (states_of l.slots.entries) ≡ graph_rewound l.initial.journal.items (states_of l.initial.slots.entries);
}
