-- One lock of a row more is closed.
-- Used by `close_row`.
use Rattle.std.proofs.Common.{◌≡◌, ℕ, ◌+◌, ◌<◌, List, [], ◌∷◌, ◌++◌, length, get_or, sym, subst, arith, Vec}
use Rattle.std.specs.Global.{Global}
use Rattle.std.proofs.lemmas.List.{get_or_append_left}
use mathlib.Core.Logic.{dite}
use native.Mathlib.Decide.{ℕ_discrete}
use Rattle.chronicle.specs.declared.chronicle.Chronicle.{Chronicle}
use Rattle.chronicle.specs.declared.pass.Pass.{Pass}
use Rattle.chronicle.specs.Frames.{Frame}
use Rattle.chronicle.specs.Logs.{Log}
use Rattle.chronicle.specs.Locks.{lock_of}
use Rattle.lock_row.proofs.Lists.{last}
use Rattle.weaver_locks.specs.ClosedRows.{CameOut}

module _ {M E : Type 0} (frame_of : M → Frame) (log_of : M → Log E) (locks : List (Chronicle M E)) (rooms : List (Vec (Pass E) Global)) where
  -- the first i locks are closed
  abbrev pub ClosedSoFar : List M → ℕ → Type 0
  ClosedSoFar machines i = (k : ℕ) (c : Chronicle M E) (room : Vec (Pass E) Global) (m : M) → k < i
      → CameOut frame_of log_of (lock_of (get_or locks k c)) (get_or rooms k room).items (get_or machines k m)

  -- if the locks before this one are closed, and a machine came out of it, one lock more is closed
  pub closed_more : (machines : List M) (k : ℕ) (lock : Chronicle M E) (room : Vec (Pass E) Global) (machine : M) → length machines ≡ k
      → ((c : Chronicle M E) → get_or locks k c ≡ lock) → ((r : Vec (Pass E) Global) → get_or rooms k r ≡ room)
      → CameOut frame_of log_of (lock_of lock) room.items machine → ClosedSoFar machines k
      → ClosedSoFar (machines ++ machine ∷ []) (k + 1)
  closed_more machines k lock room machine long at there one so_far j c r m below = dite (ℕ_discrete j k)
      (λ e. subst (λ (i : ℕ). CameOut frame_of log_of (lock_of (get_or locks i c)) (get_or rooms i r).items
      (get_or (machines ++ machine ∷ []) i m)) (sym e)
      (subst (λ (z : Chronicle M E × Vec (Pass E) Global × M). CameOut frame_of log_of (lock_of z.0) z.1.items z.2)
      (λ i. (sym (at c) i, sym (there r) i, sym (last machines machine m k (sym long)) i)) one))
      (λ ne. let within : j < k = omega (arith, ne, below) in
      subst (CameOut frame_of log_of (lock_of (get_or locks j c)) (get_or rooms j r).items)
      (sym (get_or_append_left machines (machine ∷ []) m j (omega (arith, within, long)))) (so_far j c r m within))
