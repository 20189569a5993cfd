-- A request without a begin in its session's log has no stamp there, and the other way round.
-- Used by BegunProgram, Idle, ProgramStamped and Waiting.
use Rattle.std.proofs.Common.{◌≡◌, ℕ, Bool, true, false, List, [], ◌∷◌, Option, None, Some, refl, sym, ap}
use Rattle.std.specs.Prelude.{◌||◌, ◌==◌, cond}
use Rattle.std.specs.List.{find, list_any}
use Rattle.std.specs.Option.{option_map}
use Rattle.std.proofs.lemmas.Option.{none-some}
use Rattle.vector_stamp.specs.declared.clock.Stamp.{Stamp}
use Rattle.weave_entries.specs.declared.session_log.SessionEntry.{SessionEntry}
use Rattle.weave_entries.specs.SessionReplay.{begins_in, has_begun_in, session_stamp_of}

-- what is not there is not found
pub any-none : {A : Type 0} (p : A → Bool) (xs : List A) → list_any p xs ≡ false → find p xs ≡ None
any-none p [] e = refl
any-none p (x ∷ xs) e = elim (p x) as (λ b. (b || list_any p xs) ≡ false → cond b (Some x) (find p xs) ≡ None) [
  | true ↦ λ h. absurd (let f : true ≡ false = h in cc)
  | false ↦ λ h. any-none p xs h
] e

-- what is not found is not there
pub none-any : {A : Type 0} (p : A → Bool) (xs : List A) → find p xs ≡ None → list_any p xs ≡ false
none-any p [] e = refl
none-any p (x ∷ xs) e = elim (p x) as (λ b. cond b (Some x) (find p xs) ≡ None → (b || list_any p xs) ≡ false) [
  | true ↦ λ h. absurd (none-some x (sym h))
  | false ↦ λ h. none-any p xs h
] e

-- a request without a stamp in its session's log has not begun there
pub no-stamp : (r : ℕ) (log : List SessionEntry) → session_stamp_of r log ≡ None → has_begun_in r log ≡ false
no-stamp r log e = none-any (λ (begun : ℕ × Stamp). begun.0 == r) (begins_in log) (by (find (λ (begun : ℕ × Stamp). begun.0 == r) (begins_in log)) refl e)
  where
    by : (o : Option (ℕ × Stamp)) → find (λ (begun : ℕ × Stamp). begun.0 == r) (begins_in log) ≡ o → option_map (λ (begun : ℕ × Stamp). begun.1) o ≡ None → find (λ (begun : ℕ × Stamp). begun.0 == r) (begins_in log) ≡ None
    by None at h = at
    by (Some begun) at h = absurd (none-some begun.1 (sym h))

-- and one that has not begun there has no stamp there
pub stamp-begun : (r : ℕ) (log : List SessionEntry) → has_begun_in r log ≡ false → session_stamp_of r log ≡ None
stamp-begun r log e = ap (option_map (λ (begun : ℕ × Stamp). begun.1)) (any-none (λ (begun : ℕ × Stamp). begun.0 == r) (begins_in log) e)
