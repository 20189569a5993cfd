-- What a channel has sent: a list, numbered from 1.
use Rattle.std.specs.Prelude.{ℕ, ◌-◌, ◌==◌, List, length, slice_get, Option, None, IsTrue, if◌then◌else◌}
use Rattle.std.specs.Option.{ForSome}
use Rattle.vector_stamp.specs.declared.clock.Stamp.{Stamp}
use Rattle.vector_stamp.specs.Order.{stamp_before}
pub use Rattle.vector_stamp.specs.Order.{StampsRise}

-- what was sent, in order, and how many more messages there is room for
pub record Channel (M : Type 0) : Type 0 where
  pub sent : List M
  pub spare : ℕ

-- the stamp is after the last of these, if there is one
abbrev pub IsAfterLast : Stamp → List Stamp → Type 0
IsAfterLast stamp stamps = ForSome (slice_get stamps (length stamps - 1)) (λ last. IsTrue (stamp_before last stamp))

-- what was sent with this number
abbrev pub sent_as : {M : Type 0} → ℕ → List M → Option M
sent_as number sent = if number == 0 then None else slice_get sent (number - 1)
