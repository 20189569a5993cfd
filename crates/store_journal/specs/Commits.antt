-- The commits of a journal: which commit may follow which, and the graph that they leave.
use Rattle.std.specs.Prelude.{ℕ, ◌+◌, Bool, ◌&&◌, nat_le, is_ok, List, length, fold, Option, Some, None, if◌then◌else◌}
use Rattle.vector_stamp.specs.Clocks.{start_clock}
use Rattle.vector_stamp.specs.Order.{is_before, own_count}
use Rattle.vector_stamp.specs.declared.clock.Clock.{Clock}
use Rattle.vector_stamp.specs.declared.clock.Stamp.{Stamp}
use Rattle.graph_ops.specs.PlainGraph.{PlainGraph, empty_graph, graph_left, transaction}
use Rattle.weave_text.specs.Lines.{Bytes}
use Rattle.store_journal.specs.Journal.{onward}
use Rattle.store_journal.specs.Payloads.{commit_said}
use Rattle.store_journal.specs.declared.kept_commit.Commit.{Commit}

-- the graph after one commit more
abbrev pub graph_with_kept : PlainGraph → Commit → PlainGraph
graph_with_kept graph commit = graph_left graph (transaction commit.ops graph)

-- the graph that commits leave, one after another on the empty graph
abbrev pub graph_of : List Commit → PlainGraph
graph_of commits = fold graph_with_kept empty_graph commits

-- the clock of the last commit; before the first one, that of a gatekeeper that has made no event
abbrev pub last_clock : List Commit → Clock
last_clock commits = fold (λ _ commit. commit.stamp.clock) start_clock commits

-- the stamp is after this clock, its epoch is 1 up to one more than this number, and its own count is at least 1
abbrev pub has_right_stamp : Clock → ℕ → Stamp → Bool
has_right_stamp last number stamp =
    is_before last stamp.clock && nat_le 1 stamp.clock.epoch && nat_le stamp.clock.epoch (number + 1)
    && nat_le 1 (own_count stamp)

-- The commit may follow these: its stamp is after that of the one before, its epoch is 1 up to its number, its own
-- count is at least 1, and its operations pass.
abbrev pub may_follow : List Commit → Commit → Bool
may_follow earlier commit =
    has_right_stamp (last_clock earlier) (length earlier) commit.stamp
    && is_ok (transaction commit.ops (graph_of earlier))

-- the commit of a record with this payload, if it is whole after these
abbrev pub commit_of : List Commit → Bytes → Option Commit
commit_of earlier payload =
    onward (commit_said payload) None (λ commit. if may_follow earlier commit then Some commit else None)
