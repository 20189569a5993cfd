-- The law of the crates below that hands and sessions in step rely on. No public contract cites this.
use Rattle.std.specs.Prelude.{◌≡◌, ℕ, List, map, take}
use Rattle.vector_stamp.specs.declared.clock.Stamp.{Stamp}
use Rattle.weave_entries.specs.declared.session_log.SessionEntry.{SessionEntry}
use Rattle.weave_entries.specs.SessionReplay.{begins_in, session_of, IsSessionLog}

pub record InStepLaws : Type 0 where
  -- the requests of a session that have begun are its first ones, in order
  pub begun_first : (number : ℕ) (requests : List ℕ) (log : List SessionEntry) → IsSessionLog number requests log
      → map (λ (begun : ℕ × Stamp). begun.0) (begins_in log) ≡ take (session_of requests log).begun requests
