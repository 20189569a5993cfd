-- The four calls by which a record is added, one after another.
-- Used by `add_record`, `recover`, Closing and Recovering.
use Rattle.std.proofs.Common.{◌≡◌, inl, inr, ℕ, ◌+◌, List, [], ◌∷◌, ◌++◌, length, Option, None, Some, IsSome, IfSome, option_map, refl, sym, ◌∙◌, ap, subst, arith}
use Rattle.std.proofs.lemmas.Bool.{false≢true}
use Rattle.weave_io.specs.Told.{ToldBytes}
use Rattle.store_journal.specs.Disk.{Torn, ImagesFollow, AddsNone, Only, IsSynced, Elapses, LeavesOnly, written_at}
use Rattle.store_journal.specs.Journal.{framed}
use Rattle.store_journal.specs.Standing.{IsClosedJournal, IsStaged, IsJournal, IsRecord, IsAtRest}
use Rattle.store_journal.proofs.Moments.{started, goes_on}
use Rattle.store_journal.proofs.Tearing.{written_both}
use Rattle.store_journal.proofs.Forms.{stage_torn, stage_written, open_torn, open_written}

-- bytes that are said
pub told_bytes : (told : ToldBytes) → IsSome told → (bytes : List ℕ) × (told ≡ Some bytes)
told_bytes None some = absurd (false≢true some)
told_bytes (Some bytes) some = (bytes, refl)

-- what holds of the bytes that are said
pub if_told : (F : List ℕ → Type 0) (told : ToldBytes) (bytes : List ℕ) → told ≡ Some bytes → IfSome told F → F bytes
if_told F told bytes is facts = subst (λ t. IfSome t F) is facts

module _ {C : Type 0} (reader : List C → List ℕ → Option C) (commits : List C) (next : C) where
  abbrev pub IsKeptSoFar : List ℕ → Type 0
  IsKeptSoFar = IsJournal reader commits (Some next)

  module _ (at : ℕ) (bytes file : List ℕ) (closed : IsClosedJournal reader commits at file) (added : IsRecord reader commits next bytes) where
    abbrev pub staged : List ℕ
    staged = written_at (at + 1) bytes file

    abbrev pub is_staged : (s : IsStaged reader commits next staged) × (length s.front ≡ at) × (length (framed s.payload) + 1 ≡ length bytes)
    is_staged = stage_written reader commits next at file bytes closed added

    -- before the first write
    pub before_it : (images : List ℕ → Type 0) → Only file images → (c : List ℕ) → images c → IsKeptSoFar c
    before_it images only c left = inr (inl (at, subst (λ f. IsClosedJournal reader commits at f) (sym (only c left)) closed))

    -- while the record is written
    pub while_staged : (old new : List ℕ → Type 0) → Only file old → ImagesFollow (Torn (at + 1) (length bytes)) old new → (c : List ℕ) → new c → IsKeptSoFar c
    while_staged old new only follows c left =
        let from = follows c left in
        inr (inl (at, stage_torn reader commits at (length bytes) file c closed (subst (λ f. Torn (at + 1) (length bytes) f c) (only from.0 from.1) from.2)))

    -- while its gate is opened
    pub while_opened : (old new : List ℕ → Type 0) → Only staged old → ImagesFollow (Torn at 1) old new → (c : List ℕ) → new c → IsKeptSoFar c
    while_opened old new only follows c left =
        let from = follows c left in
        let torn : Torn at 1 staged c = subst (λ f. Torn at 1 f c) (only from.0 from.1) from.2 in
        inr (inr (next, refl, open_torn reader commits next staged c is_staged.0 (subst (λ k. Torn k 1 staged c) (sym is_staged.1) torn)))

    -- then it is there, with a closed gate after it
    pub opened : IsClosedJournal reader (commits ++ next ∷ []) (at + length bytes) (written_at at (1 ∷ []) staged)
    opened =
        let there = open_written reader commits next staged is_staged.0 in
        let place : length is_staged.0.front + 1 + length (framed is_staged.0.payload) ≡ at + length bytes = omega (arith, is_staged.1, is_staged.2) in
        subst (λ k. IsClosedJournal reader (commits ++ next ∷ []) k (written_at at (1 ∷ []) staged)) place (subst (λ k. IsClosedJournal reader (commits ++ next ∷ []) (length is_staged.0.front + 1 + length (framed is_staged.0.payload)) (written_at k (1 ∷ []) staged)) is_staged.1 there)

module _ {C : Type 0} (reader : List C → List ℕ → Option C) where
  -- a record and then its open gate: both from the gate on
  pub added_from_gate : (commits : List C) (at : ℕ) (bytes : List ℕ) (told : ToldBytes) (images : List ℕ → Type 0) → IsAtRest reader commits at told images
      → option_map (written_at at (1 ∷ [])) (option_map (written_at (at + 1) bytes) told) ≡ option_map (written_at at (1 ∷ bytes)) told
  added_from_gate commits at bytes None images rest = refl
  added_from_gate commits at bytes (Some file) images rest =
      let k = rest.0 in
      ap Some ((λ i. written_at (sym k.place i) (1 ∷ []) (written_at (sym k.place i + 1) bytes (k.file_is i)))
      ∙ written_both k.front 0 k.tail bytes 1 ∙ (λ i. written_at (k.place i) (1 ∷ bytes) (sym k.file_is i)))

module _ {D : Type 0} (seen : D → ToldBytes) (images : D → List ℕ → Type 0) (moment : D → ℕ) (images_since : D → ℕ → List ℕ → Type 0)
    (since_now : (disk : D) (c : List ℕ) → images_since disk (moment disk) c → images disk c)
    {C : Type 0} (reader : List C → List ℕ → Option C) (commits : List C) (next : C) (at : ℕ) (bytes : List ℕ) (added : IsRecord reader commits next bytes) (old : D) where
  module _ (at_rest : IsAtRest reader commits at (seen old) (images old)) (told : IsSome (seen old)) where
    abbrev pub file : List ℕ
    file = (told_bytes (seen old) told).0

    -- the disk says these bytes
    pub is : seen old ≡ Some file
    is = (told_bytes (seen old) told).1

    -- they are the journal, and all of it is synced
    pub rest : IsClosedJournal reader commits at file × Only file (images old)
    rest = if_told (λ b. IsClosedJournal reader commits at b × Only b (images old)) (seen old) file is at_rest

    -- at the start, and after the first write
    pub wrote : (d1 : D) → ImagesFollow (Torn (at + 1) (length bytes)) (images old) (images d1) → Elapses (moment old) (moment d1) (images_since old) (images_since d1) (images d1)
        → LeavesOnly moment images_since old d1 (IsKeptSoFar reader commits next)
    wrote d1 torn time =
        goes_on moment images_since old old d1 (IsKeptSoFar reader commits next) (images d1)
        (started moment images_since old (IsKeptSoFar reader commits next) (λ c left. before_it reader commits next at bytes file rest.0 added (images old) rest.1 c (since_now old c left)))
        time (while_staged reader commits next at bytes file rest.0 added (images old) (images d1) rest.1 torn)

    -- after the first sync
    pub synced : (d1 d2 : D) → ImagesFollow (Torn (at + 1) (length bytes)) (images old) (images d1) → Elapses (moment old) (moment d1) (images_since old) (images_since d1) (images d1)
        → AddsNone (images d1) (images d2) → Elapses (moment d1) (moment d2) (images_since d1) (images_since d2) (images d2)
        → LeavesOnly moment images_since old d2 (IsKeptSoFar reader commits next)
    synced d1 d2 torn time none time2 =
        goes_on moment images_since old d1 d2 (IsKeptSoFar reader commits next) (images d2) (wrote d1 torn time) time2
        (λ c left. while_staged reader commits next at bytes file rest.0 added (images old) (images d1) rest.1 torn c (none c left))

    -- what is there after the first sync
    pub there : (d1 d2 : D) → seen d1 ≡ option_map (written_at (at + 1) bytes) (seen old) → seen d2 ≡ seen d1 → IsSynced (seen d2) (images d2)
        → Only (staged reader commits next at bytes file rest.0 added) (images d2)
    there d1 d2 written same only =
        if_told (λ b. Only b (images d2)) (seen d2) (staged reader commits next at bytes file rest.0 added) (same ∙ written ∙ ap (option_map (written_at (at + 1) bytes)) is) only

    -- after the second write
    pub opens : (d2 d3 : D) → LeavesOnly moment images_since old d2 (IsKeptSoFar reader commits next) → Only (staged reader commits next at bytes file rest.0 added) (images d2)
        → ImagesFollow (Torn at 1) (images d2) (images d3) → Elapses (moment d2) (moment d3) (images_since d2) (images_since d3) (images d3)
        → LeavesOnly moment images_since old d3 (IsKeptSoFar reader commits next)
    opens d2 d3 so_far only torn time =
        goes_on moment images_since old d2 d3 (IsKeptSoFar reader commits next) (images d3) so_far time (while_opened reader commits next at bytes file rest.0 added (images d2) (images d3) only torn)

    -- after the second sync
    pub ends : (d2 d3 d4 : D) → LeavesOnly moment images_since old d2 (IsKeptSoFar reader commits next) → Only (staged reader commits next at bytes file rest.0 added) (images d2)
        → ImagesFollow (Torn at 1) (images d2) (images d3) → Elapses (moment d2) (moment d3) (images_since d2) (images_since d3) (images d3)
        → AddsNone (images d3) (images d4) → Elapses (moment d3) (moment d4) (images_since d3) (images_since d4) (images d4)
        → LeavesOnly moment images_since old d4 (IsKeptSoFar reader commits next)
    ends d2 d3 d4 so_far only torn time none time4 =
        goes_on moment images_since old d3 d4 (IsKeptSoFar reader commits next) (images d4) (opens d2 d3 so_far only torn time) time4
        (λ c left. while_opened reader commits next at bytes file rest.0 added (images d2) (images d3) only torn c (none c left))

  -- after Ok the commit is there
  pub acknowledges : (d4 : D) (told : ToldBytes) → seen old ≡ told → IsAtRest reader commits at told (images old)
      → seen d4 ≡ option_map (written_at at (1 ∷ [])) (option_map (written_at (at + 1) bytes) told) → IsSynced (seen d4) (images d4)
      → IsAtRest reader (commits ++ next ∷ []) (at + length bytes) (seen d4) (images d4)
  acknowledges d4 None was at_rest is only = subst (λ t. IsAtRest reader (commits ++ next ∷ []) (at + length bytes) t (images d4)) (sym is) tt
  acknowledges d4 (Some file) was at_rest is only =
      let now = written_at at (1 ∷ []) (written_at (at + 1) bytes file) in
      subst (λ t. IsAtRest reader (commits ++ next ∷ []) (at + length bytes) t (images d4)) (sym is)
      (opened reader commits next at bytes file at_rest.0 added, if_told (λ b. Only b (images d4)) (seen d4) now is only)
