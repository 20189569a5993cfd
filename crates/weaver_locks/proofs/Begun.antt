-- Locks of a row that were opened, as their machines are seen.
-- Used by `open_all`.
use Rattle.std.proofs.Common.{◌≡◌, ℕ, ◌<◌, List, length, map, get_or, sym, ap, ◌∙◌, arith}
use Rattle.std.specs.List.{All}
use Rattle.std.proofs.lemmas.List.{get_or-map}
use Rattle.chronicle.specs.declared.chronicle.Chronicle.{Chronicle}
use Rattle.chronicle.specs.Frames.{Frame}
use Rattle.chronicle.specs.Logs.{Log}
use Rattle.chronicle.specs.Locks.{lock_of, LockStartsWith}
use Rattle.lock_row.specs.Openings.{AllBegin}
use Rattle.lock_row.proofs.Lists.{one_of}

module _ {M E B V : Type 0} (frame_of : B → Frame) (log_of : B → Log E) (view : B → V) (frame_for : V → Frame) (log_for : V → Log E)
    (before after : List (Chronicle M E)) (machines : List B) (old new : ℕ) where
  -- each opened lock has this many passes, and the frame and the log of the machine at its place
  pub all_begun : AllBegin frame_of log_of before after machines → length machines ≡ length before → length after ≡ length before
      → All (λ (c : Chronicle M E). (lock_of c).passes ≡ old) before → old ≡ new
      → All (λ b. frame_of b ≡ frame_for (view b)) machines → ((b : B) → log_of b ≡ log_for (view b))
      → (k : ℕ) (d : Chronicle M E) (v : V) → k < length after
      → LockStartsWith (lock_of (get_or after k d)) new (frame_for (get_or (map view machines) k v)) (log_for (get_or (map view machines) k v))
  all_begun begin machine_count count passes more frames logs k d v low =
      let first : k < length before = omega (arith, low, count) in
      let there : k < length machines = omega (arith, first, machine_count) in
      let b : B = one_of machines k there in
      let c : Chronicle M E = one_of before k first in
      let is = begin k c d b first in
      let at : get_or (map view machines) k v ≡ view (get_or machines k b) = get_or-map view machines k b v there in record {
        passes_is = is.passes_is ∙ (passes k c first ∙ more);
        frame_is = is.frame_is ∙ (frames k b there ∙ ap frame_for (sym at));
        start_is = is.start_is ∙ (logs (get_or machines k b) ∙ ap log_for (sym at));
      }
