-- How the stamps of requests are noted, session by session. No public contract cites this.
use Rattle.std.specs.Prelude.{ℕ, List, fold, slice_index_or, slice_set, Option, None, Some}
use Rattle.std.specs.Option.{option_or}
use Rattle.vector_stamp.specs.declared.clock.Stamp.{Stamp}
use Rattle.weave_entries.specs.declared.session_log.SessionEntry.{SessionEntry}
use Rattle.weave_entries.specs.declared.session_log.SessionDeed.{SessionDeed}
use Rattle.weave_entries.specs.declared.session_log.SessionDeed.TheVariants.{Begun, Replied}

-- the stamps with that of one more request, unless it has one
abbrev pub with_stamp_noted : List (Option Stamp) → ℕ → Stamp → List (Option Stamp)
with_stamp_noted stamps r stamp = slice_set stamps r (option_or (slice_index_or stamps r None) (Some stamp))

-- after a deed of a session
abbrev pub noted_by : List (Option Stamp) → SessionDeed → List (Option Stamp)
noted_by stamps (Begun r stamp) = with_stamp_noted stamps r stamp
noted_by stamps (Replied r) = stamps

-- after all deeds of a log
abbrev pub noted_all : List (Option Stamp) → List SessionEntry → List (Option Stamp)
noted_all stamps log = fold (λ found (entry : SessionEntry). noted_by found entry.deed) stamps log

-- after those of all sessions
abbrev pub all_noted : List (Option Stamp) → List (List SessionEntry) → List (Option Stamp)
all_noted stamps logs = fold noted_all stamps logs
