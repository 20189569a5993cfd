-- The limits of the store, each in one place.
use Rattle.std.specs.Prelude.{ℕ, ◌-◌}

-- Sizes of a store

-- how many gatekeepers there are at most, and so how many counts a clock has
abbrev pub most_gates : ℕ
most_gates = 8

-- how many shards there are at most
abbrev pub most_shards : ℕ
most_shards = 16

-- how many sessions there are
abbrev pub most_sessions : ℕ
most_sessions = 64

-- the greatest number of a session
abbrev pub last_session : ℕ
last_session = most_sessions - 1

-- Names

-- how many letters a name has at most
abbrev pub most_letters : ℕ
most_letters = 32

-- Records

-- how many properties a record has at most
abbrev pub most_props : ℕ
most_props = 64

-- how many edges a record has at most
abbrev pub most_edges : ℕ
most_edges = 1000

-- how many tags an edge has at most
abbrev pub most_tags : ℕ
most_tags = 8

-- Scripts

-- how many bytes a text has at most
abbrev pub most_bytes : ℕ
most_bytes = 4194304

-- how many requests a script has at most
abbrev pub most_requests : ℕ
most_requests = 10000

-- how many operations a transaction has at most
abbrev pub most_ops : ℕ
most_ops = 64

-- how many programs a script has at most
abbrev pub most_programs : ℕ
most_programs = 1000

-- how many `get`s a script has at most
abbrev pub most_gets : ℕ
most_gets = 1000

-- how many vertices a script names at most
abbrev pub most_vertices : ℕ
most_vertices = 10000

-- how many steps a script has at most
abbrev pub most_steps : ℕ
most_steps = 100000

-- the greatest bound on the edges that a program goes through
abbrev pub most_bound : ℕ
most_bound = 1000

-- the greatest number of a notice or a message
abbrev pub most_notice : ℕ
most_notice = 100000

-- the greatest number of an epoch
abbrev pub most_epoch : ℕ
most_epoch = 1000000
