use Rattle.order_graph.proofs.Stamps.{ends_joined, ends_read, ends-append}
use Rattle.order_graph.proofs.laws.ends_are_of_pairs.Goals as goal

pub returns : goal.returns
returns c = record { joined = ends_joined; no_others = ends_read; appended = ends-append }
