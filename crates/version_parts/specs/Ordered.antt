-- What the laws on one more item take for granted: its time is after all others, and keys rise. No clause of `Parts`
-- cites this.
use Rattle.std.specs.Prelude.{◌≡◌, ◌<◌, ◌⊎◌, List, IfSome}
use Rattle.weave_data.specs.declared.name.Name.{Name}
use Rattle.weave_data.specs.Pairs.{IsRising, at_key}
use Rattle.graph_ops.specs.declared.op.Op.{Op}
use Rattle.version_parts.specs.declared.edge.EdgeItems.{EdgeItems}
use Rattle.version_parts.specs.declared.lists.Lists.{Lists}
use Rattle.version_parts.specs.declared.time.Time.{Time}
use Rattle.version_parts.specs.Placed.{AllInLists}
use Rattle.version_parts.specs.States.{WrittenItem, NoItem, OfVertex, OfProp, OfEdge, written_by}

-- the first is of an earlier update, or at an earlier place in the same update
abbrev pub IsEarlierTime : Time → Time → Type 0
IsEarlierTime time other = (time.update < other.update) ⊎ ((time.update ≡ other.update) × (time.place < other.place))

-- all items are before this time
abbrev pub AreBefore : Time → Lists → Type 0
AreBefore time lists = AllInLists (λ earlier. IsEarlierTime earlier time) lists

-- the keys of the tags of an edge rise, if it has lists
abbrev pub TagsRise : Name → List (Name × EdgeItems) → Type 0
TagsRise name edges = IfSome (at_key name edges) (λ (edge : EdgeItems). IsRising edge.tags)

-- the keys of the lists to which the item is added rise
abbrev pub KeysRiseFor : WrittenItem → Lists → Type 0
KeysRiseFor NoItem lists = Unit {0}
KeysRiseFor (OfVertex value) lists = Unit {0}
KeysRiseFor (OfProp key value) lists = IsRising lists.props
KeysRiseFor (OfEdge name tag value) lists = IsRising lists.edges × TagsRise name lists.edges

-- and those of the lists that an operation changes
abbrev pub KeysRise : Op → Lists → Type 0
KeysRise op lists = KeysRiseFor (written_by op) lists
