-- Coherent stamps: those that gatekeepers can have given to events.
use Rattle.std.specs.Prelude.{◌≡◌, ◌<◌, Bool, ◌&&◌, ◌||◌, not, ◌==◌, List, IsTrue, Contains, nat_lt}
use Rattle.std.specs.List.{list_all}
use Rattle.weave_data.specs.Limits.{most_gates}
use Rattle.vector_stamp.specs.declared.clock.Stamp.{Stamp}
use Rattle.vector_stamp.specs.Order.{id_of, same_id, id_before, stamp_before, same_stamp}

-- each home is below 8, those of one id are equal, and two different ones of one home are ordered as their epochs, then
-- their own counts
pub record AreCoherent (stamps : List Stamp) : Type 0 where
  pub homes : (a : Stamp) → Contains stamps a → a.home < most_gates
  pub one_of_id : (a b : Stamp) → Contains stamps a → Contains stamps b → id_of a ≡ id_of b → a ≡ b
  pub by_ids : (a b : Stamp) → Contains stamps a → Contains stamps b → a.home ≡ b.home → IsTrue (id_before a b)
      → IsTrue (stamp_before a b)

-- the same of two stamps, as a test
abbrev pub two_coherent : Stamp → Stamp → Bool
two_coherent a b =
    nat_lt a.home most_gates
    && (not (same_id a b) || same_stamp a b)
    && (not (a.home == b.home && id_before a b) || stamp_before a b)

-- and of each two
abbrev pub all_coherent : List Stamp → Bool
all_coherent stamps = list_all (λ a. list_all (two_coherent a) stamps) stamps
