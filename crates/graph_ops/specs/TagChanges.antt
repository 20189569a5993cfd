-- Changes of an edge's tags, as `tag` and `untag` make them. No public contract cites this.
use Rattle.std.specs.Prelude.{◌≡◌, List, Result, Ok, Err, if◌then◌else◌}
use Rattle.weave_data.specs.Changes.{TakesBack}
use Rattle.weave_data.specs.Pairs.{at_key, has, put, without_key, is_full}
use Rattle.weave_data.specs.declared.name.Name.{Name}
use Rattle.weave_data.specs.declared.change.Undo.{Undo}
use Rattle.weave_data.specs.Limits.{most_tags}
use Rattle.graph_ops.specs.Operations.{Outcome, done_with, on_edge}
use Rattle.graph_ops.specs.declared.record.Edge.{Edge}
use Rattle.graph_ops.specs.declared.record.Record.{Record}
use Rattle.graph_ops.specs.declared.tags.TagChange.{TagChange}
use Rattle.graph_ops.specs.declared.tags.TagChange.TheVariants.{Put, Drop}
use Rattle.graph_ops.specs.declared.op.Reason.{Reason}
use Rattle.graph_ops.specs.declared.op.Reason.TheVariants.{NoKey, Full}
use Rattle.graph_ops.specs.declared.op.OpFault.{OpFault}
use Rattle.graph_ops.specs.declared.op.OpFault.TheVariants.{Refused, Memory}

abbrev pub Tags : Type 0
Tags = List (Name × Name)

-- the tags after a change, or the reason of its refusal
abbrev pub tags_after : TagChange → Tags → Result Tags Reason
tags_after (Put key value) tags = if is_full most_tags key tags then Err Full else Ok (put key value tags)
tags_after (Drop key) tags = if has key tags then Ok (without_key key tags) else Err NoKey

-- the record with these tags of an edge, or the reason
abbrev pub record_after : Record → Name → Edge → Result Tags Reason → Outcome
record_after was name edge (Ok tags) =
    done_with (record was { edges = put name (record edge { tags = tags }) was.edges })
record_after was name edge (Err reason) = Err reason

-- what the change of an edge results in
abbrev pub edge_after : TagChange → Name → Record → Outcome
edge_after change name was =
    on_edge (at_key name was.edges) (λ edge. record_after was name edge (tags_after change edge.tags))

-- a call resulted in this on tags, or was out of memory; after either fault they are as before
abbrev pub DoesToTags : Result Tags Reason → Tags → Tags → Result (Undo Name) OpFault → Type 0
DoesToTags outcome old new (Ok undo) = (outcome ≡ Ok new) × TakesBack undo new old
DoesToTags outcome old new (Err (Refused reason)) = (outcome ≡ Err reason) × (new ≡ old)
DoesToTags outcome old new (Err Memory) = new ≡ old
