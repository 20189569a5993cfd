-- The stamps that are noted are those with which the requests were begun.
-- Used by Stamped and Unordered.
use Rattle.std.proofs.Common.{◌≡◌, ℕ, ◌<◌, Bool, true, false, cond, List, [], ◌∷◌, ◌++◌, length, replicate, get_or, Option, None, Some, inl, inr, refl, sym, ap, ◌∙◌, arith}
use Rattle.std.specs.Prelude.{◌==◌}
use Rattle.std.specs.List.{find, flat_map}
use Rattle.std.specs.Option.{option_map, option_or}
use Rattle.std.proofs.lemmas.Bool.{cases_eq, eq-eqb, ne_eqb}
use Rattle.std.proofs.lemmas.List.{get_or-replicate, get_or-set_other, get_or-set_same, length-replicate, length-set}
use Rattle.weave_data.proofs.Options.{map-or, or_none}
use Rattle.vector_stamp.specs.declared.clock.Stamp.{Stamp}
use Rattle.weave_entries.specs.declared.session_log.SessionEntry.{SessionEntry}
use Rattle.weave_entries.specs.declared.session_log.SessionDeed.{SessionDeed}
use Rattle.weave_entries.specs.declared.session_log.SessionDeed.TheVariants.{Begun, Replied}
use Rattle.weave_entries.specs.SessionReplay.{begin_by, begins_in, session_stamp_of}
use Rattle.weaver_core.specs.Sessions.{stamp_logged}
use Rattle.weaver_core.specs.Noting.{all_noted, with_stamp_noted, noted_all, noted_by}

-- Options

or-or : {A : Type 0} (a b c : Option A) → option_or (option_or a b) c ≡ option_or a (option_or b c)
or-or None b c = refl
or-or (Some x) b c = refl

-- the first of two lists together
find-both : {A : Type 0} (p : A → Bool) (xs ys : List A) → find p (xs ++ ys) ≡ option_or (find p xs) (find p ys)
find-both p [] ys = refl
find-both p (x ∷ xs) ys = by (p x) (find-both p xs ys)
  where
    by : (b : Bool) → find p (xs ++ ys) ≡ option_or (find p xs) (find p ys) → cond b (Some x) (find p (xs ++ ys)) ≡ option_or (cond b (Some x) (find p xs)) (find p ys)
    by true rest = refl
    by false rest = rest

-- One deed

-- the stamp that a deed begins a request with
abbrev stamp_by : ℕ → SessionDeed → Option Stamp
stamp_by q deed = option_map (λ (begun : ℕ × Stamp). begun.1) (find (λ (begun : ℕ × Stamp). begun.0 == q) (begin_by deed))

same-length : (stamps : List (Option Stamp)) (deed : SessionDeed) → length (noted_by stamps deed) ≡ length stamps
same-length stamps (Begun r stamp) = length-set stamps r _
same-length stamps (Replied r) = refl

after-deed : (stamps : List (Option Stamp)) (deed : SessionDeed) (q : ℕ) → q < length stamps → get_or (noted_by stamps deed) q None ≡ option_or (get_or stamps q None) (stamp_by q deed)
after-deed stamps (Replied r) q within = sym (or_none (get_or stamps q None))
after-deed stamps (Begun r stamp) q within = elim (cases_eq r q) [
  | inl same ↦
      let found : stamp_by q (Begun r stamp) ≡ Some stamp = ap (λ b. option_map (λ (begun : ℕ × Stamp). begun.1) (cond b (Some (r, stamp)) None)) (eq-eqb r q same) in
      ap (λ n. get_or (with_stamp_noted stamps n stamp) q None) same ∙ get_or-set_same stamps q (option_or (get_or stamps q None) (Some stamp)) None within ∙ ap (option_or (get_or stamps q None)) (sym found)
  | inr differ ↦
      let none : stamp_by q (Begun r stamp) ≡ None = ap (λ b. option_map (λ (begun : ℕ × Stamp). begun.1) (cond b (Some (r, stamp)) None)) (ne_eqb r q differ) in
      get_or-set_other stamps r q (option_or (get_or stamps r None) (Some stamp)) None (λ e. differ (sym e)) ∙ sym (or_none (get_or stamps q None)) ∙ ap (option_or (get_or stamps q None)) (sym none)
]

-- A log

stamp-of-more : (entry : SessionEntry) (log : List SessionEntry) (q : ℕ) → session_stamp_of q (entry ∷ log) ≡ option_or (stamp_by q entry.deed) (session_stamp_of q log)
stamp-of-more entry log q =
    ap (option_map (λ (begun : ℕ × Stamp). begun.1)) (find-both (λ (begun : ℕ × Stamp). begun.0 == q) (begin_by entry.deed) (begins_in log))
    ∙ map-or (λ (begun : ℕ × Stamp). begun.1) (find (λ (begun : ℕ × Stamp). begun.0 == q) (begin_by entry.deed)) (find (λ (begun : ℕ × Stamp). begun.0 == q) (begins_in log))

all-same-length : (stamps : List (Option Stamp)) (log : List SessionEntry) → length (noted_all stamps log) ≡ length stamps
all-same-length stamps [] = refl
all-same-length stamps (entry ∷ log) = all-same-length (noted_by stamps entry.deed) log ∙ same-length stamps entry.deed

after-log : (log : List SessionEntry) (stamps : List (Option Stamp)) (q : ℕ) → q < length stamps → get_or (noted_all stamps log) q None ≡ option_or (get_or stamps q None) (session_stamp_of q log)
after-log [] stamps q within = sym (or_none (get_or stamps q None))
after-log (entry ∷ log) stamps q within =
    let still = same-length stamps entry.deed in
    after-log log (noted_by stamps entry.deed) q (omega (arith, within, still))
    ∙ ap (λ o. option_or o (session_stamp_of q log)) (after-deed stamps entry.deed q within)
    ∙ or-or (get_or stamps q None) (stamp_by q entry.deed) (session_stamp_of q log)
    ∙ ap (option_or (get_or stamps q None)) (sym (stamp-of-more entry log q))

-- All logs

-- the stamp of a request in the logs is that in the first of them, or else that in the rest
pub stamp-in-more : (log : List SessionEntry) (logs : List (List SessionEntry)) (q : ℕ) → stamp_logged (log ∷ logs) q ≡ option_or (session_stamp_of q log) (stamp_logged logs q)
stamp-in-more log logs q =
    ap (option_map (λ (begun : ℕ × Stamp). begun.1)) (find-both (λ (begun : ℕ × Stamp). begun.0 == q) (begins_in log) (flat_map begins_in logs))
    ∙ map-or (λ (begun : ℕ × Stamp). begun.1) (find (λ (begun : ℕ × Stamp). begun.0 == q) (begins_in log)) (find (λ (begun : ℕ × Stamp). begun.0 == q) (flat_map begins_in logs))

after-logs : (logs : List (List SessionEntry)) (stamps : List (Option Stamp)) (q : ℕ) → q < length stamps → get_or (all_noted stamps logs) q None ≡ option_or (get_or stamps q None) (stamp_logged logs q)
after-logs [] stamps q within = sym (or_none (get_or stamps q None))
after-logs (log ∷ logs) stamps q within =
    let still = all-same-length stamps log in
    after-logs logs (noted_all stamps log) q (omega (arith, within, still))
    ∙ ap (λ o. option_or o (stamp_logged logs q)) (after-log log stamps q within)
    ∙ or-or (get_or stamps q None) (session_stamp_of q log) (stamp_logged logs q)
    ∙ ap (option_or (get_or stamps q None)) (sym (stamp-in-more log logs q))

-- from none on, each request has the stamp with which one of the sessions began it
pub stamps-noted : (logs : List (List SessionEntry)) (n q : ℕ) → q < n → get_or (all_noted (replicate n None) logs) q None ≡ stamp_logged logs q
stamps-noted logs n q within =
    let many = length-replicate {A = Option Stamp} n None in
    after-logs logs (replicate n None) q (omega (arith, within, many)) ∙ ap (λ o. option_or o (stamp_logged logs q)) (get_or-replicate n q None None within)

-- noting what the logs say leaves the number of places for stamps
pub count-noted : (logs : List (List SessionEntry)) (stamps : List (Option Stamp)) → length (all_noted stamps logs) ≡ length stamps
count-noted [] stamps = refl
count-noted (log ∷ logs) stamps = count-noted logs (noted_all stamps log) ∙ all-same-length stamps log
