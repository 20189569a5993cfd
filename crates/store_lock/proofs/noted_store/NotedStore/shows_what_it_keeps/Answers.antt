use Rattle.std.proofs.Common.{subst}
use Rattle.chronicle.specs.Passes.{seen_by_note}
use Rattle.seen_logs.specs.Entries.{oracle_entries}
use Rattle.oracle_lock.specs.Seen.{gates_noted}
use Rattle.store_lock.specs.Seen.{StoreIsKept, StoreView}
use Rattle.store_lock.proofs.noted_store.NotedStore.shows_what_it_keeps.Goals as goal

pub returns : goal.returns
returns c = subst (λ (v : StoreView). StoreIsKept v.shards (gates_noted v.gates) (oracle_entries (seen_by_note v.oracle)) v.store) c.self.view_is c.self.invariant
