-- A row with one more lock that is unopened, opened or filled is still such a row.
-- Used by `fill_row`, `open_row` and `reserve_row`.
use Rattle.std.proofs.Common.{◌≡◌, ℕ, ◌+◌, ◌<◌, List, [], ◌∷◌, ◌++◌, length, get_or, set, sym, ap, ◌∙◌, subst, arith, length-set, Vec}
use Rattle.std.specs.Global.{Global}
use Rattle.std.proofs.lemmas.List.{length_push, get_or_default, get_or_append_left, get_or-set_same, get_or-set_other}
use mathlib.Core.Logic.{dite}
use native.Mathlib.Decide.{ℕ_discrete}
use Rattle.chronicle.specs.declared.chronicle.Chronicle.{Chronicle}
use Rattle.chronicle.specs.declared.open.Unopened.{Unopened}
use Rattle.chronicle.specs.declared.open.Vacant.{Vacant}
use Rattle.chronicle.specs.declared.pass.Pass.{Pass}
use Rattle.chronicle.specs.Frames.{Frame}
use Rattle.chronicle.specs.Logs.{Log}
use Rattle.chronicle.specs.Locks.{Lock, lock_of, name_of, LockStartsWith, IsVacant, IsFilled}
use Rattle.chronicle.specs.Passes.{IsUnopened}
use Rattle.lock_row.specs.Rows.{names_of}
use Rattle.lock_row.specs.Reservations.{AreUnopened}
use Rattle.lock_row.specs.Openings.{AreOneRow}
use Rattle.lock_row.specs.Hands.{AreFirst}
use Rattle.lock_row.proofs.Lists.{last, mapped_alike}

module _ {M E : Type 0} where
  -- a row of unopened locks with their parts, and one more such lock with its own, are such a row
  pub unopened_more : (locks : List (Chronicle M E)) (parts : List (Unopened M E)) (lock : Chronicle M E) (part : Unopened M E)
      → length parts ≡ length locks → AreUnopened locks parts → IsUnopened (lock_of lock) part
      → AreUnopened (locks ++ lock ∷ []) (parts ++ part ∷ [])
  unopened_more locks parts lock part long so_far one k c u low = dite (ℕ_discrete k (length locks))
      (λ e. subst (λ (z : Chronicle M E × Unopened M E). IsUnopened (lock_of z.0) z.1)
      (λ i. (sym (last locks lock c k e) i, sym (last parts part u k (e ∙ sym long)) i)) one)
      (λ ne. let within : k < length locks = omega (arith, length_push locks lock, ne, low) in
      subst (λ (z : Chronicle M E × Unopened M E). IsUnopened (lock_of z.0) z.1)
      (λ i. (
        sym (get_or_append_left locks (lock ∷ []) c k within) i,
        sym (get_or_append_left parts (part ∷ []) u k (omega (arith, long, within))) i,
      )) (so_far k c u within))

  -- a row keeps its names if one lock is replaced by one of the same name
  pub same_names : (locks : List (Chronicle M E)) (k : ℕ) (lock : Chronicle M E) → k < length locks
      → ((c : Chronicle M E) → name_of (lock_of lock) ≡ name_of (lock_of (get_or locks k c)))
      → names_of (set locks k lock) ≡ names_of locks
  same_names locks k lock low named =
      let N : Chronicle M E → List ℕ = λ c. name_of (lock_of c) in
      mapped_alike N N locks (set locks k lock) (length-set locks k lock) (λ j a b within. dite (ℕ_discrete j k)
      (λ e. subst (λ (i : ℕ). N (get_or (set locks k lock) i b) ≡ N (get_or locks i a)) (sym e)
      (ap N (get_or-set_same locks k lock b low) ∙ named a))
      (λ ne. ap N (get_or-set_other locks k j lock b ne) ∙ ap N (get_or_default locks j b a within)))

module _ {M E B : Type 0} (frame_of : B → Frame) (log_of : B → Log E) (before : List (Chronicle M E)) (machines : List B) where
  -- a lock c was opened as d for a machine b, with these passes and this empty place
  pub record IsOpened (c d : Chronicle M E) (b : B) (ps : Vec (Pass E) Global) (v : Vacant M E) : Type 0 where
    pub begins : LockStartsWith (lock_of d) (lock_of c).passes (frame_of b) (log_of b)
    pub passes : AreFirst (lock_of c).passes (lock_of d) ps.items
    pub vacant : IsVacant (lock_of d) v

  -- the first i locks were opened like this
  abbrev pub OpenedSoFar : List (Chronicle M E) → List (Vec (Pass E) Global) → List (Vacant M E) → ℕ → Type 0
  OpenedSoFar after passes vacants i = (k : ℕ) (c d : Chronicle M E) (b : B) (ps : Vec (Pass E) Global) (v : Vacant M E) → k < i
      → IsOpened (get_or before k c) (get_or after k d) (get_or machines k b) (get_or passes k ps) (get_or vacants k v)

  -- if the first locks were opened, and the next one is with its passes and its empty place, all up to it are
  pub opened_more : (after : List (Chronicle M E)) (passes : List (Vec (Pass E) Global)) (vacants : List (Vacant M E)) (k : ℕ)
      (lock : Chronicle M E) (ps : Vec (Pass E) Global) (v : Vacant M E) → k < length after → length passes ≡ k
      → length vacants ≡ k → OpenedSoFar after passes vacants k
      → ((c : Chronicle M E) (b : B) → IsOpened (get_or before k c) lock (get_or machines k b) ps v)
      → OpenedSoFar (set after k lock) (passes ++ ps ∷ []) (vacants ++ v ∷ []) (k + 1)
  opened_more after passes vacants k lock ps v low passes_long vacants_long so_far one j c d b qs w below =
      let Three : Type 0 = Chronicle M E × Vec (Pass E) Global × Vacant M E in dite (ℕ_discrete j k)
      (λ e. subst (λ (i : ℕ). IsOpened (get_or before i c) (get_or (set after k lock) i d) (get_or machines i b)
      (get_or (passes ++ ps ∷ []) i qs) (get_or (vacants ++ v ∷ []) i w)) (sym e)
      (subst (λ (z : Three). IsOpened (get_or before k c) z.0 (get_or machines k b) z.1 z.2)
      (λ i. (
        sym (get_or-set_same after k lock d low) i,
        sym (last passes ps qs k (sym passes_long)) i,
        sym (last vacants v w k (sym vacants_long)) i,
      )) (one c b)))
      (λ ne. let within : j < k = omega (arith, ne, below) in
      subst (λ (z : Three). IsOpened (get_or before j c) z.0 (get_or machines j b) z.1 z.2)
      (λ i. (
        sym (get_or-set_other after k j lock d ne) i,
        sym (get_or_append_left passes (ps ∷ []) qs j (omega (arith, within, passes_long))) i,
        sym (get_or_append_left vacants (v ∷ []) w j (omega (arith, within, vacants_long))) i,
      )) (so_far j c d b qs w within))

module _ {M E : Type 0} where
  -- a row stays the same row if at one place the same lock is put, whatever is in it
  pub one_row_more : (before locks : List (Chronicle M E)) (i : ℕ) (lock : Chronicle M E) → i < length locks → AreOneRow before locks
      → ((c : Chronicle M E) → lock_of lock ≡ lock_of (get_or before i c)) → AreOneRow before (set locks i lock)
  one_row_more before locks i lock low so_far one k c within = dite (ℕ_discrete k i)
      (λ e. subst (λ (j : ℕ). lock_of (get_or (set locks i lock) j c) ≡ lock_of (get_or before j c)) (sym e)
      (ap (λ (x : Chronicle M E). lock_of x) (get_or-set_same locks i lock c low) ∙ one c))
      (λ ne. ap (λ (x : Chronicle M E). lock_of x) (get_or-set_other locks i k lock c ne) ∙ so_far k c within)

  -- a row has the names that it had
  pub one_row_names : (before locks : List (Chronicle M E)) → length locks ≡ length before → AreOneRow before locks → names_of locks ≡ names_of before
  one_row_names before locks long row =
      let N : Chronicle M E → List ℕ = λ c. name_of (lock_of c) in
      mapped_alike N N before locks long (λ k a b low. ap (λ (l : Lock E). name_of l) (row k b low) ∙ ap N (get_or_default before k b a low))

  -- the first i locks have their machines
  abbrev pub FilledSoFar : List (Chronicle M E) → ℕ → Type 0
  FilledSoFar locks i = (k : ℕ) (c : Chronicle M E) → k < i → IsFilled (get_or locks k c)

  -- if the first locks have their machines, and the next one has its own, all up to it have
  pub filled_more : (locks : List (Chronicle M E)) (i : ℕ) (lock : Chronicle M E) → i < length locks → FilledSoFar locks i → IsFilled lock
      → FilledSoFar (set locks i lock) (i + 1)
  filled_more locks i lock low so_far one k c below = dite (ℕ_discrete k i)
      (λ e. subst (λ (j : ℕ). IsFilled (get_or (set locks i lock) j c)) (sym e) (subst IsFilled (sym (get_or-set_same locks i lock c low)) one))
      (λ ne. subst IsFilled (sym (get_or-set_other locks i k lock c ne)) (so_far k c (omega (arith, ne, below))))
