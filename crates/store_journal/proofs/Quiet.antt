-- Calls that add no image: syncs and reads.
-- Used by `read_synced`.
use Rattle.std.proofs.Common.{◌≡◌, ℕ, ◌≤◌, List, [], ◌++◌, length, drop, None, Some, IfSome, refl, sym, ◌∙◌, ap, subst, arith, append_assoc, length-append}
use Rattle.std.proofs.lemmas.List.{drop_at, append-nil, nil_from_length}
use Rattle.weave_io.specs.Told.{ToldBytes}
use Rattle.store_journal.specs.Disk.{AddsNone, IsSynced, ReadsAs, Elapses, LeavesOnly}
use Rattle.store_journal.proofs.Moments.{started, goes_on}

-- the bytes read so far are the front of the file
abbrev pub IsFront : List ℕ → List ℕ → Type 0
IsFront bytes file = (rest : List ℕ) × (file ≡ bytes ++ rest)

-- before the first read
pub front_none : (told : ToldBytes) → IfSome told (IsFront [])
front_none None = tt
front_none (Some file) = (file, refl)

-- after one more
pub front_more : (old new : ToldBytes) (bytes piece : List ℕ) (at : ℕ) → new ≡ old → length bytes ≡ at → IfSome old (IsFront bytes) → ReadsAs old at piece → IfSome new (IsFront (bytes ++ piece))
front_more old new bytes piece at same long front reads = subst (λ t. IfSome t (IsFront (bytes ++ piece))) (sym same) (on old front reads)
  where
    on : (told : ToldBytes) → IfSome told (IsFront bytes) → ReadsAs told at piece → IfSome told (IsFront (bytes ++ piece))
    on None front reads = tt
    on (Some file) front reads =
        let there : front.0 ≡ piece ++ reads.0 = sym (ap (λ l. drop at l) front.1 ∙ drop_at bytes front.0 at long) ∙ reads.1 in
        (reads.0, front.1 ∙ ap (λ l. bytes ++ l) there ∙ sym (append_assoc bytes piece reads.0))

-- after the last one they are the whole file
pub front_whole : (old new : ToldBytes) (bytes : List ℕ) (at : ℕ) → new ≡ old → length bytes ≡ at → IfSome old (IsFront bytes) → IfSome old (λ file. length file ≤ at) → IfSome new (λ file. file ≡ bytes)
front_whole old new bytes at same long front short = subst (λ t. IfSome t (λ file. file ≡ bytes)) (sym same) (on old front short)
  where
    on : (told : ToldBytes) → IfSome told (IsFront bytes) → IfSome told (λ file. length file ≤ at) → IfSome told (λ file. file ≡ bytes)
    on None front short = tt
    on (Some file) front short =
        let none : front.0 ≡ [] = nil_from_length front.0 (omega (arith, length-append bytes front.0, ap length front.1, short, long)) in
        front.1 ∙ ap (λ l. bytes ++ l) none ∙ append-nil bytes

-- what was synced stays so
pub synced_still : (old new : ToldBytes) (before after : List ℕ → Type 0) → new ≡ old → AddsNone before after → IsSynced old before → IsSynced new after
synced_still old new before after same none synced = subst (λ t. IsSynced t after) (sym same) (on old synced)
  where
    on : (told : ToldBytes) → IsSynced told before → IsSynced told after
    on None synced = tt
    on (Some file) synced = λ c left. synced c (none c left)

module _ {D : Type 0} (images : D → List ℕ → Type 0) (moment : D → ℕ) (images_since : D → ℕ → List ℕ → Type 0) where
  -- the first such call
  pub quiet_call : (since_now : (disk : D) (c : List ℕ) → images_since disk (moment disk) c → images disk c) (old new : D) → AddsNone (images old) (images new) → Elapses (moment old) (moment new) (images_since old) (images_since new) (images new)
      → LeavesOnly moment images_since old new (images old)
  quiet_call since_now old new none time =
      goes_on moment images_since old old new (images old) (images new) (started moment images_since old (images old) (λ c left. since_now old c left)) time none

  -- one more
  pub quiet_more : (start old new : D) → LeavesOnly moment images_since start old (images start) → AddsNone (images start) (images old) → AddsNone (images old) (images new)
      → Elapses (moment old) (moment new) (images_since old) (images_since new) (images new) → LeavesOnly moment images_since start new (images start)
  quiet_more start old new so_far none more time =
      goes_on moment images_since start old new (images start) (images new) so_far time (λ c left. none c (more c left))
