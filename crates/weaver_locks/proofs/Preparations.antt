-- Rooms for this many, with one more such room, are still rooms for this many.
-- Used by `room_row`.
use Rattle.std.proofs.Common.{ℕ, ◌<◌, List, [], ◌∷◌, ◌++◌, length, sym, subst, arith, Vec}
use Rattle.std.specs.Global.{Global}
use Rattle.std.proofs.lemmas.List.{length_push, get_or_append_left}
use mathlib.Core.Logic.{dite}
use native.Mathlib.Decide.{ℕ_discrete}
use Rattle.lock_row.proofs.Lists.{last}
use Rattle.weaver_locks.specs.Rooms.{AreRooms, IsRoom}

-- rooms for this many and one such room more are rooms for this many
pub rooms_more : {A : Type 0} (count : ℕ) (rooms : List (Vec A Global)) (room : Vec A Global) → AreRooms count rooms → IsRoom count room
    → AreRooms count (rooms ++ room ∷ [])
rooms_more {A} count rooms room so_far one k r low = dite (ℕ_discrete k (length rooms))
    (λ e. subst (λ (x : Vec A Global). IsRoom count x) (sym (last rooms room r k e)) one)
    (λ ne. let within : k < length rooms = omega (arith, length_push rooms room, ne, low) in
    subst (λ (x : Vec A Global). IsRoom count x) (sym (get_or_append_left rooms (room ∷ []) r k within)) (so_far k r within))
