-- Marked events, of which some are still to be looked at. No public contract cites it.
use Rattle.std.specs.Prelude.{◌≡◌, ℕ, ◌≤◌, ◌<◌, ◌+◌, Bool, false, IsTrue, List, [], ◌∷◌, length, slice_index_or, Contains, ◌⊎◌, if◌then◌else◌}
use Rattle.order_witness.specs.declared.heads.Run.{Run}
use Rattle.order_witness.specs.Heads.{item, run_at, IsReached}
use Rattle.order_witness.specs.Preceding.{Test, leads_directly, PrecedesOne}

-- the event is marked
abbrev pub is_marked : List Bool → ℕ → Bool
is_marked marked a = slice_index_or marked a false

-- how many are not marked
abbrev pub not_marked : List Bool → ℕ
not_marked [] = 0
not_marked (is ∷ rest) = if is then not_marked rest else not_marked rest + 1

-- Events were marked, each of which may be: what was marked stays, what is newly marked is put at the end of those to
-- be looked at. The events to be looked at and those that aren't marked are no more together.
pub record AreMoreMarked (MayBe : ℕ → Type 0) (old new : List Bool) (due then_due : List ℕ) : Type 0 where
  pub size : length new ≡ length old
  pub stay : (a : ℕ) → IsTrue (is_marked old a) → IsTrue (is_marked new a)
  pub only : (a : ℕ) → IsTrue (is_marked new a) → IsTrue (is_marked old a) ⊎ (MayBe a × Contains then_due a)
  pub due_stay : (a : ℕ) → Contains due a → Contains then_due a
  pub longer : length due ≤ length then_due
  pub front : (k : ℕ) → k < length due → item then_due k ≡ item due k
  pub added : (k : ℕ) → length due ≤ k → k < length then_due → MayBe (item then_due k)
  pub due_only : (a : ℕ) → Contains then_due a → Contains due a ⊎ IsTrue (is_marked new a)
  pub work : length then_due + not_marked new ≤ length due + not_marked old

-- the stamps of each run rise
abbrev pub RiseBy : Test → List ℕ → List Run → Type 0
RiseBy before line runs =
    (i j k : ℕ) → i < length runs → (run_at runs i).next ≤ j → j < k → k < (run_at runs i).end
    → IsTrue (before (item line j) (item line k))

-- The events in runs: the order of stamps is transitive, the stamps of a run rise, and each event that is before
-- another one is in a run. What leads to an event has a mark, of which there are `count`.
pub record AreRuns (before : Test) (ends : ℕ → List ℕ) (line : List ℕ) (runs : List Run) (count : ℕ) : Type 0 where
  pub transitive : (a b c : ℕ) → IsTrue (before a b) → IsTrue (before b c) → IsTrue (before a c)
  pub rising : RiseBy before line runs
  pub found : (a b : ℕ) → IsTrue (before a b) → (k : ℕ) × IsReached runs k × (item line k ≡ a)
  pub within : (a b : ℕ) → IsTrue (leads_directly before ends a b) → a < count

-- of a run the events up to this place are marked
abbrev pub IsMarkedUpTo : List ℕ → List Bool → Run → ℕ → Type 0
IsMarkedUpTo line marked run next =
    (run.next ≤ next) × ((k : ℕ) → run.next ≤ k → k < next → IsTrue (is_marked marked (item line k)))

-- and of each run
pub record ArePassed (line : List ℕ) (marked : List Bool) (runs : List Run) (passed : List ℕ) : Type 0 where
  pub size : length passed ≡ length runs
  pub each : (i : ℕ) → i < length runs → IsMarkedUpTo line marked (run_at runs i) (item passed i)

-- all that directly leads to the event is marked
abbrev pub AreAllMarked : Test → List Bool → ℕ → Type 0
AreAllMarked direct marked b = (a : ℕ) → IsTrue (direct a b) → IsTrue (is_marked marked a)

-- all that directly leads to an event that was looked at is marked
abbrev pub AreLookedAt : Test → List Bool → List Bool → Type 0
AreLookedAt direct marked looked = (b : ℕ) → IsTrue (is_marked looked b) → AreAllMarked direct marked b

-- Of the first `count` events of the order: what is marked precedes one of them, and all that directly leads to one of
-- them is marked. So is all that leads to a marked event, if that isn't still to be looked at.
pub record ArePreceders (direct : Test) (order : List ℕ) (count : ℕ) (marked : List Bool) (due : List ℕ) : Type 0 where
  pub sound : (a : ℕ) → IsTrue (is_marked marked a) → PrecedesOne direct order count a
  pub listed : (k : ℕ) → k < count → AreAllMarked direct marked (item order k)
  pub looked : (b : ℕ) → IsTrue (is_marked marked b) → Contains due b ⊎ AreAllMarked direct marked b
  pub due_is_marked : (b : ℕ) → Contains due b → IsTrue (is_marked marked b)
