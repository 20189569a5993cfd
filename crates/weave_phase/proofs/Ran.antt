-- What a call did of the seats, place by place, it did of the row; and what a seat that is done says of its worker.
-- Used by `run_all`, `run_parts`, PhaseParts and RanSeats.
use Rattle.std.proofs.Common.{◌≡◌, ℕ, ◌<◌, true, length, List, get_or, IfOk, Some, Result, Ok, Err, sym, ap, subst, ◌∙◌, true≢false}
use Rattle.std.specs.Prelude.{slice_get}
use Rattle.std.specs.List.{list_all}
use Rattle.std.specs.declared.alloc.AllocError.{AllocError}
use Rattle.std.proofs.lemmas.List.Sums.{AllPass-from_list_all}
use Rattle.std.proofs.lemmas.Option.{get_or_from_slice_get, slice_get_within}
use Rattle.program_defs.specs.declared.script.Script.{Script}
use Rattle.weaver_locks.specs.declared.shared.Shared.{Shared}
use Rattle.weaver_workers.specs.declared.ended.Ended.{Ended}
use Rattle.weaver_workers.specs.Workers.{Works}
use Rattle.weave_phase.specs.Seats.{has_answered, has_done_its_part, HasRun, HaveRun}
use Rattle.weave_phase.specs.declared.seats.Seat.{Seat}

-- what a call did of equal seats
pub ran_as : (shared : Shared) (script : Script) (phase : ℕ) (was is old new : Seat) → was ≡ old → is ≡ new
    → HasRun shared script phase was is → HasRun shared script phase old new
ran_as shared script phase was is old new from to ran =
    subst (λ (seats : Seat × Seat). HasRun shared script phase seats.0 seats.1) (λ i. (from i, to i)) ran

-- what holds of each place holds of each seat there
pub have_run : (shared : Shared) (script : Script) (phase : ℕ) (old new : List Seat) → length new ≡ length old
    → ((k : ℕ) (d : Seat) → k < length old → HasRun shared script phase (get_or old k d) (get_or new k d))
    → HaveRun shared script phase old new
have_run shared script phase old new many each = record {
  many = many;
  each = λ k was is at now.
      let there : HasRun shared script phase (get_or old k is) (get_or new k is) = each k is (slice_get_within old k was at) in
      subst (λ (seat : Seat). HasRun shared script phase seat is) (get_or_from_slice_get old k was is at)
      (subst (λ (seat : Seat). HasRun shared script phase (get_or old k is) seat) (get_or_from_slice_get new k is is now) there);
}

ended-so : (P : Ended → Type 0) (answer : Result Ended AllocError) → IfOk answer P → has_answered (Some answer) ≡ true → (ended : Ended) × P ended
ended-so P (Ok ended) works done = (ended, works)
ended-so P (Err fault) works done = absurd (true≢false (sym done))

-- a worker that is done has done its part of the phase
pub works-if-done : (shared : Shared) (script : Script) (phase : ℕ) (old new : Seat) → HasRun shared script phase old new → has_done_its_part new ≡ true
    → (ended : Ended) × Works shared script phase old.worker new.worker ended
works-if-done shared script phase old new ran done =
    ended-so (Works shared script phase old.worker new.worker) ran.answer ran.works (ap has_answered (sym ran.answer_is) ∙ done)

-- if all are done, each is
pub all-done : (seats : List Seat) → list_all has_done_its_part seats ≡ true → (k : ℕ) (seat : Seat) → slice_get seats k ≡ Some seat → has_done_its_part seat ≡ true
all-done seats done k seat at =
    ap has_done_its_part (sym (get_or_from_slice_get seats k seat seat at)) ∙ AllPass-from_list_all has_done_its_part seats done k seat (slice_get_within seats k seat at)
