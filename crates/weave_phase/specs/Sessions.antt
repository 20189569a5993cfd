-- The sessions that have requests in a phase. No public contract cites this.
use Rattle.std.specs.Prelude.{ℕ, ◌-◌, ◌==◌, Bool, List, drop, filter, take}
use Rattle.std.specs.List.{list_any, range_with_len}
use Rattle.weave_data.specs.Limits.{most_sessions}
use Rattle.program_defs.specs.declared.script.Request.{Request}
use Rattle.program_defs.specs.declared.script.Script.{Script}

-- whether one of the requests from the first number to before the second is of this session
abbrev pub has_request : Script → ℕ → ℕ → ℕ → Bool
has_request script from upto session =
    list_any (λ (request : Request). request.session == session) (take (upto - from) (drop from script.requests))

-- the sessions of these requests, rising
abbrev pub sessions_in : Script → ℕ → ℕ → List ℕ
sessions_in script from upto = filter (has_request script from upto) (range_with_len 0 most_sessions)
