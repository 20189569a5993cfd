-- When an item was added.
use Rattle.std.specs.Prelude.{Bool, false, ◌&&◌, ◌||◌, ◌==◌, nat_lt, Option, Some, None}
use Rattle.version_parts.specs.declared.time.Time.{Time}

-- before every update: these are numbered from 1
abbrev pub beginning : Time
beginning = record { update = 0; place = 0 }

-- the first is after the second: of a later update, or at a later place in the same update
abbrev pub is_later : Time → Time → Bool
is_later time other = nat_lt other.update time.update || (other.update == time.update && nat_lt other.place time.place)

-- an item of this time counts for a thing that is there since `since`; none counts for a thing that isn't there
abbrev pub counts : Option Time → Time → Bool
counts None time = false
counts (Some since) time = is_later time since
