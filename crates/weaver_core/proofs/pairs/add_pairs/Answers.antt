use Rattle.std.proofs.Common.{◌<◌, Contains, List, sym, subst}
use Rattle.weave_data.proofs.Members.{has_head, has_tail}
use Rattle.weave_entries.specs.OracleReplay.{settled_entry}
use Rattle.vector_stamp.specs.declared.clock.Stamp.{Stamp}
use Rattle.weaver_core.proofs.pairs.add_pairs.Goals as goal

pub request_of-requires : goal.request_of-requires
request_of-requires c =
    let entry = settled_entry c.args.entry.now in
    subst (λ (event : Stamp). event.home < 8) (sym c.later_in.ensures) (c.requires entry.later (has_head entry.later entry.earlier))

pub add_pairs_before-requires : goal.add_pairs_before-requires
add_pairs_before-requires c = λ (event : Stamp) h.
    let entry = settled_entry c.args.entry.now in
    c.requires event (has_tail entry.later entry.earlier event (subst (λ (events : List Stamp). Contains events event) c.earlier_in.ensures h))

pub add_pairs_before-requires-in-Some-vertex : goal.add_pairs_before-requires-in-Some-vertex
add_pairs_before-requires-in-Some-vertex c = λ (event : Stamp) h.
    let entry = settled_entry c.args.entry.now in
    c.requires event (has_tail entry.later entry.earlier event (subst (λ (events : List Stamp). Contains events event) c.earlier_in-in-Some-vertex.ensures h))
