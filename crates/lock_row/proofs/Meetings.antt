-- If passes and notes meet place by place, in the end all have met but at one place.
-- Used by `meet_others` and crates gate_lock, oracle_lock, shard_lock and store_lock.
use Rattle.std.proofs.Common.{◌≡◌, ◌≢◌, ◌⊎◌, inl, inr, ℕ, ◌+◌, ◌<◌, ◌≤◌, List, length, map, get_or, set, refl, sym, ap, ◌∙◌, subst, arith, []}
use Rattle.std.proofs.lemmas.List.{length-map, get_or-map, get_or_default, get_or-set_same, get_or-set_other}
use mathlib.Core.List.{IsPrefix}
use mathlib.Core.Logic.{dite}
use native.Mathlib.Decide.{ℕ_discrete}
use Rattle.chronicle.specs.declared.chronicle.Chronicle.{Chronicle}
use Rattle.chronicle.specs.declared.pass.Pass.{Pass}
use Rattle.chronicle.specs.declared.note.Note.{Note}
use Rattle.chronicle.specs.Locks.{Lock, lock_of, name_of}
use Rattle.chronicle.specs.Logs.{Log}
use Rattle.chronicle.specs.Passes.{IsReady, lock_noted, seen_by_note, seen_by_pass}
use Rattle.lock_row.specs.Rows.{names_of, AreReady}
use Rattle.lock_row.specs.Meetings.{HaveMet, CanMeet, AllMet}
use Rattle.lock_row.proofs.Lists.{mapped_alike, one_of}

-- if notes have the names of the locks, there are as many notes as locks
pub as_many : {M E : Type 0} (locks : List (Chronicle M E)) (notes : List (Note E)) → map lock_noted notes ≡ names_of locks → length notes ≡ length locks
as_many {M} {E} locks notes named =
    let N : Chronicle M E → List ℕ = λ x. name_of (lock_of x) in
    omega (arith, length-map notes lock_noted, length-map locks N, ap (λ (l : List (List ℕ)). length l) named)

module _ {M E : Type 0} (locks : List (Chronicle M E)) (before : List (Pass E)) where
  -- below i they met, except at one place. All else is as it was
  pub record MetSoFar (after : List (Pass E)) (notes later : List (Note E)) (except i : ℕ) : Type 0 where
    pub met : (k : ℕ) (c : Chronicle M E) (p : Pass E) (n : Note E) → k < length locks → k ≢ except → k < i
        → HaveMet (lock_of (get_or locks k c)) (get_or before k p) (get_or after k p) (get_or notes k n) (get_or later k n)
    pub passes_ahead : (k : ℕ) (p : Pass E) → i ≤ k → get_or after k p ≡ get_or before k p
    pub notes_ahead : (k : ℕ) (n : Note E) → i ≤ k → get_or later k n ≡ get_or notes k n
    pub pass : (p : Pass E) → get_or after except p ≡ get_or before except p
    pub note : (n : Note E) → get_or later except n ≡ get_or notes except n

  -- before the first place nothing has met, and all is as it was
  pub met_none : (notes : List (Note E)) (except : ℕ) → MetSoFar before notes notes except 0
  met_none notes except = record {
    met = λ k c p n within other below. absurd
        (omega arith);
    passes_ahead = λ k p l. refl;
    notes_ahead = λ k n l. refl;
    pass = λ p. refl;
    note = λ n. refl;
  }

  -- if all below the place that is left out have met, so have all below the next one, but for this
  pub met_past : (after : List (Pass E)) (notes later : List (Note E)) (except : ℕ) → MetSoFar after notes later except except
      → MetSoFar after notes later except (except + 1)
  met_past after notes later except so_far = record {
    met = λ k c p n within other below. so_far.met k c p n within other (omega (arith, other));
    passes_ahead = λ k p l. so_far.passes_ahead k p (omega arith);
    notes_ahead = λ k n l. so_far.notes_ahead k n (omega arith);
    pass = so_far.pass;
    note = so_far.note;
  }

  -- if all below i have met but for one place, and a pass and a note now meet at i, all below i + 1 have met
  pub met_one : (after : List (Pass E)) (notes later : List (Note E)) (except i : ℕ) (q : Pass E) (m : Note E) → i ≢ except → i < length after
      → i < length later → MetSoFar after notes later except i
      → ((c : Chronicle M E) (p : Pass E) (n : Note E) → HaveMet (lock_of (get_or locks i c)) (get_or after i p) q (get_or later i n) m)
      → MetSoFar (set after i q) notes (set later i m) except (i + 1)
  met_one after notes later except i q m apart low low_note so_far now = record {
    met = λ k c p n within other below. dite (ℕ_discrete k i)
        (λ e. subst (λ j. HaveMet (lock_of (get_or locks j c)) (get_or before j p) (get_or (set after i q) j p) (get_or notes j n)
        (get_or (set later i m) j n)) (sym e)
        (subst (λ (z : Pass E × Note E). HaveMet (lock_of (get_or locks i c)) (get_or before i p) z.0 (get_or notes i n) z.1)
        (λ x. (sym (get_or-set_same after i q p low) x, sym (get_or-set_same later i m n low_note) x))
        (subst (λ (z : Pass E × Note E). HaveMet (lock_of (get_or locks i c)) z.0 q z.1 m)
        (λ x. (so_far.passes_ahead i p (omega arith) x, so_far.notes_ahead i n (omega arith) x)) (now c p n))))
        (λ ne. subst (λ (z : Pass E × Note E). HaveMet (lock_of (get_or locks k c)) (get_or before k p) z.0 (get_or notes k n) z.1)
        (λ x. (sym (get_or-set_other after i k q p ne) x, sym (get_or-set_other later i k m n ne) x))
        (so_far.met k c p n within other (omega (arith, ne))));
    passes_ahead = λ k p l. get_or-set_other after i k q p (λ e. absurd (omega arith)) ∙ so_far.passes_ahead k p (omega arith);
    notes_ahead = λ k n l. get_or-set_other later i k m n (λ e. absurd (omega arith)) ∙ so_far.notes_ahead k n (omega arith);
    pass = λ p. get_or-set_other after i except q p (λ e. apart (sym e)) ∙ so_far.pass p;
    note = λ n. get_or-set_other later i except m n (λ e. apart (sym e)) ∙ so_far.note n;
  }

-- what was read at a place, whatever is past the end
pub met_now : {M E : Type 0} (locks : List (Chronicle M E)) (after : List (Pass E)) (later : List (Note E)) (k : ℕ) (a : Chronicle M E)
    (x q : Pass E) (y m : Note E) → k < length locks → k < length after → k < length later
    → a ≡ get_or locks k a → HaveMet (lock_of a) (get_or after k x) q (get_or later k y) m
    → (c : Chronicle M E) (p : Pass E) (n : Note E) → HaveMet (lock_of (get_or locks k c)) (get_or after k p) q (get_or later k n) m
met_now {M} {E} locks after later k a x q y m low low_pass low_note at_lock met c p n =
    let lock : a ≡ get_or locks k c = at_lock ∙ get_or_default locks k a c low in
    let pass : get_or after k x ≡ get_or after k p = get_or_default after k x p low_pass in
    let note : get_or later k y ≡ get_or later k n = get_or_default later k y n low_note in
    subst (λ (z : Chronicle M E × Pass E × Note E). HaveMet (lock_of z.0) z.1 q z.2 m) (λ i. (lock i, pass i, note i)) met

-- the notes are of the locks of which they were
pub met_names : {M E : Type 0} (locks : List (Chronicle M E)) (before after : List (Pass E)) (notes later : List (Note E)) (except : ℕ)
    → AllMet locks before after notes later except → length before ≡ length locks → length notes ≡ length locks → length later ≡ length notes
    → ((n : Note E) → get_or later except n ≡ get_or notes except n) → map lock_noted later ≡ map lock_noted notes
met_names {M} {E} locks before after notes later except met passes_long notes_long long still =
    mapped_alike lock_noted lock_noted notes later long (λ k a b low.
    let within : k < length locks = omega (arith, low, notes_long) in
    let now : lock_noted (get_or later k b) ≡ lock_noted (get_or notes k b) = dite (ℕ_discrete k except)
    (λ e. subst (λ (j : ℕ). lock_noted (get_or later j b) ≡ lock_noted (get_or notes j b)) (sym e) (ap (λ (n : Note E). lock_noted n) (still b)))
    (λ other. (met k (one_of locks k within) (one_of before k (omega (arith, within, passes_long))) b within other).lock_is) in
    now ∙ ap (λ (n : Note E). lock_noted n) (get_or_default notes k b a low))

-- in a hold, the notes of a machine whose frame has the names of the row can meet passes of the other locks
pub can_meet : {M E : Type 0} (locks : List (Chronicle M E)) (notes : List (Note E)) (passes : List (Pass E)) (place : ℕ) (q : Pass E)
    → map lock_noted notes ≡ names_of locks → AreReady locks passes → CanMeet locks (set passes place q) notes place
can_meet {M} {E} locks notes passes place q named ready k c p n low other =
    let N : Chronicle M E → List ℕ = λ x. name_of (lock_of x) in
    let long : length notes ≡ length locks = omega (arith, length-map notes lock_noted, length-map locks N, ap (λ (l : List (List ℕ)). length l) named) in (
      subst (IsReady (lock_of (get_or locks k c))) (sym (get_or-set_other passes place k q p other)) (ready k c p low),
      sym (get_or-map lock_noted notes k n [] (omega (arith, low, long))) ∙ (ap (λ (l : List (List ℕ)). get_or l k []) named ∙ get_or-map N locks k c [] low),
    )

-- what was seen of a log at a place: by the pass, by the note, and by both after they met
pub record Met {E : Type 0} (before after note later : Log E) : Type 0 where
  pub note_on : IsPrefix note later
  pub pass_on : IsPrefix before later
  pub one : later ≡ after
  pub either : (later ≡ before) ⊎ (later ≡ note)

-- a pass and a note that have met have seen this
pub met_of : {E : Type 0} (lock : Lock E) (p q : Pass E) (n m : Note E) → HaveMet lock p q n m
    → Met (seen_by_pass p) (seen_by_pass q) (seen_by_note n) (seen_by_note m)
met_of {E} lock p q n m h = record {
  note_on = subst (λ (l : Log E). IsPrefix (seen_by_note n) l) (sym h.one) h.note_before;
  pass_on = subst (λ (l : Log E). IsPrefix (seen_by_pass p) l) (sym h.one) h.pass_before;
  one = h.one;
  either = elim h.either [ inl is ↦ inl (h.one ∙ is) | inr is ↦ inr (h.one ∙ is) ];
}
