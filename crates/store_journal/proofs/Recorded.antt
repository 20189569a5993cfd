-- A disk in memory with one more call in its record.
-- Used by `len`, `read`, `sync`, `write_at` and LeftImages.
use Rattle.std.proofs.Common.{◌≡◌, ◌⊎◌, inl, inr, ⊎_elim, ℕ, ◌+◌, ◌-◌, ◌≤◌, ◌<◌, min, List, [], ◌∷◌, ◌++◌, length, take, drop, replicate, true, false, Vec, refl, sym, ◌∙◌, ap, subst, arith, append_assoc, length-append, length-take, length-drop, Bool, Result, Ok, Err, IfOk, OnErr, if◌then◌else◌}
use Rattle.std.specs.declared.alloc.Global.{Global}
use Rattle.std.proofs.lemmas.Bool.{cases_lt}
use Rattle.std.proofs.lemmas.List.{take_all, take_at, drop_at, take_min, take-append-le, length-replicate}
use Rattle.std.proofs.lemmas.List.Sums.{fold-append}
use Rattle.store_journal.specs.Disk.{Torn, ImagesFollow, Elapses, written_at}
use Rattle.store_journal.specs.Memory.{Shape, after, shape_of, IsImageOf, WasImage}
use Rattle.store_journal.specs.declared.call.Call.{Call}
use Rattle.store_journal.specs.declared.call.Call.TheVariants.{Wrote}

-- one call more
pub shape-push : (first : List ℕ) (calls : List Call) (call : Call) → shape_of first (calls ++ call ∷ []) ≡ after (shape_of first calls) call
shape-push first calls call = fold-append _ _ calls (call ∷ [])

-- time stands still if nothing was recorded
pub elapses_same : (first : List ℕ) (calls : List Call) → Elapses (length calls) (length calls) (WasImage first calls) (WasImage first calls) (IsImageOf (shape_of first calls))
elapses_same first calls = record { later = omega arith; kept = λ t c le was. was; nothing_else = λ t c le was. inl was }

-- with one call more there are the images of now besides the earlier ones
pub elapses_more : (first : List ℕ) (calls : List Call) (call : Call) → Elapses (length calls) (length (calls ++ call ∷ [])) (WasImage first calls) (WasImage first (calls ++ call ∷ [])) (IsImageOf (shape_of first (calls ++ call ∷ [])))
elapses_more first calls call = record {
  later = omega (arith, length-append calls (call ∷ []));
  kept = λ t c le was. (
    was.0,
    was.1,
    omega (arith, was.2, length-append calls (call ∷ [])),
    subst (λ l. IsImageOf (shape_of first l) c) (sym (take-append-le was.0 calls (call ∷ []) was.2)) was.3,
  );
  nothing_else = λ t c le was. ⊎_elim (λ early. inl (was.0, was.1, early, subst (λ l. IsImageOf (shape_of first l) c) (take-append-le was.0 calls (call ∷ []) early) was.3))
      (λ late. inr (subst (λ l. IsImageOf (shape_of first l) c) (take_all was.0 (calls ++ call ∷ []) (omega (arith, late, length-append calls (call ∷ [])))) was.3)) (within was.0);
}
  where
    within : (k : ℕ) → (k ≤ length calls) ⊎ (length calls < k)
    within k = ⊎_elim (λ late. inr late) (λ early. inl early) (cases_lt (length calls) k)

-- a write that isn't done at all
pub torn_none : (at n : ℕ) (old : List ℕ) → Torn at n old old
torn_none at n old = record { no_shorter = omega arith; no_longer = omega arith; before = refl; after = refl }

-- a write that is done
pub torn_written : (at : ℕ) (bytes old : List ℕ) → Torn at (length bytes) old (written_at at bytes old)
torn_written at bytes old =
    let gap : List ℕ = replicate (at - length old) 0 in
    let end = drop (at + length bytes) old in
    let long = length-append (take at old) (gap ++ (bytes ++ end)) in
    let long_gap = length-append gap (bytes ++ end) in
    let long_end = length-append bytes end in
    let short = length-take at old in
    let zeros : length gap ≡ at - length old = length-replicate (at - length old) 0 in
    let rest = length-drop (at + length bytes) old in
    let whole : written_at at bytes old ≡ (take at old ++ (gap ++ bytes)) ++ end = ap (λ l. take at old ++ l) (sym (append_assoc gap bytes end)) ∙ sym (append_assoc (take at old) (gap ++ bytes) end) in
    let size : length (take at old ++ (gap ++ bytes)) ≡ at + length bytes = omega (arith, length-append (take at old) (gap ++ bytes), length-append gap bytes, short, zeros) in
    record {
      no_shorter = omega (arith, long, long_gap, long_end, short, zeros, rest);
      no_longer = omega (arith, long, long_gap, long_end, short, zeros, rest);
      before = take_at (take at old) (gap ++ (bytes ++ end)) (min at (length old)) (omega (arith, short)) ∙ sym (take_min at old);
      after = ap (λ l. drop (at + length bytes) l) whole ∙ drop_at (take at old ++ (gap ++ bytes)) end (at + length bytes) size;
    }

-- a record with at most one call more
abbrev pub Grows : List Call → List Call → Type 0
Grows calls more = (more ≡ calls) ⊎ ((call : Call) × (more ≡ calls ++ call ∷ []))

-- a note that had room or not
pub grows_noted : (noted : Bool) (calls kept more : List Call) (call : Call) → kept ≡ calls → more ≡ (if noted then kept ++ call ∷ [] else kept) → Grows calls more
grows_noted true calls kept more call same is = inr (call, is ∙ ap (λ l. l ++ call ∷ []) same)
grows_noted false calls kept more call same is = inl (is ∙ same)

-- time goes on by a call that may be recorded
pub elapses_to : (first now : List ℕ) (calls more : List Call) → now ≡ first → Grows calls more → Elapses (length calls) (length more) (WasImage first calls) (WasImage now more) (IsImageOf (shape_of now more))
elapses_to first now calls more same (inl none) =
    subst (λ f. Elapses (length calls) (length more) (WasImage first calls) (WasImage f more) (IsImageOf (shape_of f more))) (sym same)
    (subst (λ l. Elapses (length calls) (length l) (WasImage first calls) (WasImage first l) (IsImageOf (shape_of first l))) (sym none) (elapses_same first calls))
elapses_to first now calls more same (inr one) =
    subst (λ f. Elapses (length calls) (length more) (WasImage first calls) (WasImage f more) (IsImageOf (shape_of f more))) (sym same)
    (subst (λ l. Elapses (length calls) (length l) (WasImage first calls) (WasImage first l) (IsImageOf (shape_of first l))) (sym one.1) (elapses_more first calls one.0))

-- the images after a write
write_follows : (s : Shape) (at : ℕ) (v : Vec ℕ Global) (ok : Bool) (c : List ℕ) → IsImageOf (after s (Wrote at v ok)) c → (d : List ℕ) × IsImageOf s d × Torn at (length v.items) d c
write_follows s at v true c (inl is) = (s.current, inl refl, subst (λ l. Torn at (length v.items) s.current l) (sym is) (torn_written at v.items s.current))
write_follows s at v false c (inl is) = (s.current, inl refl, subst (λ l. Torn at (length v.items) s.current l) (sym is) (torn_none at (length v.items) s.current))
write_follows s at v ok c (inr reached) = (reached.0, inr reached.1, reached.2)

-- what the record of a write says
abbrev pub Noted : {E : Type 0} → Result Bool E → ℕ → List ℕ → List Call → List Call → Type 0
Noted outcome at bytes kept more = IfOk outcome (λ ok. (v : Vec ℕ Global) × (v.items ≡ bytes) × (more ≡ kept ++ Wrote at v ok ∷ [])) × OnErr outcome (more ≡ kept)

-- a write
pub grows_written : {E : Type 0} (outcome : Result Bool E) (at : ℕ) (bytes : List ℕ) (calls kept more : List Call) → kept ≡ calls → Noted outcome at bytes kept more → Grows calls more
grows_written (Ok ok) at bytes calls kept more same noted = inr (Wrote at noted.0.0 ok, noted.0.2 ∙ ap (λ l. l ++ Wrote at noted.0.0 ok ∷ []) same)
grows_written (Err e) at bytes calls kept more same noted = inl (noted.1 ∙ same)

-- the images after a write come from those before it
pub follows_written : {E : Type 0} (outcome : Result Bool E) (at : ℕ) (bytes first now : List ℕ) (calls kept more : List Call) → now ≡ first → kept ≡ calls → Noted outcome at bytes kept more
    → ImagesFollow (Torn at (length bytes)) (IsImageOf (shape_of first calls)) (IsImageOf (shape_of now more))
follows_written (Ok ok) at bytes first now calls kept more same kept_is noted c left =
    let call = Wrote at noted.0.0 ok in
    let more_is : more ≡ calls ++ call ∷ [] = noted.0.2 ∙ ap (λ l. l ++ call ∷ []) kept_is in
    let here : IsImageOf (after (shape_of first calls) call) c = subst (λ s. IsImageOf s c) ((λ i. shape_of (same i) (more_is i)) ∙ shape-push first calls call) left in
    subst (λ b. (d : List ℕ) × IsImageOf (shape_of first calls) d × Torn at (length b) d c) noted.0.1 (write_follows (shape_of first calls) at noted.0.0 ok c here)
follows_written (Err e) at bytes first now calls kept more same kept_is noted c left =
    (c, subst (λ s. IsImageOf s c) (λ i. shape_of (same i) ((noted.1 ∙ kept_is) i)) left, torn_none at (length bytes) c)

-- the record after a write that was done
pub recorded_done : {E : Type 0} (outcome : Result Bool E) (at : ℕ) (bytes : List ℕ) (calls kept more : List Call) → kept ≡ calls → Noted outcome at bytes kept more → outcome ≡ Ok true
    → (v : Vec ℕ Global) × (v.items ≡ bytes) × (more ≡ calls ++ Wrote at v true ∷ [])
recorded_done (Ok true) at bytes calls kept more same noted is = (noted.0.0, noted.0.1, noted.0.2 ∙ ap (λ l. l ++ Wrote at noted.0.0 true ∷ []) same)
recorded_done (Ok false) at bytes calls kept more same noted is = absurd cc
recorded_done (Err e) at bytes calls kept more same noted is = absurd cc

-- the record after one that wasn't
pub recorded_failed : {E : Type 0} (outcome : Result Bool E) (at : ℕ) (bytes : List ℕ) (calls kept more : List Call) → kept ≡ calls → Noted outcome at bytes kept more → (outcome ≡ Ok true → ⊥)
    → (more ≡ calls) ⊎ ((v : Vec ℕ Global) × (v.items ≡ bytes) × (more ≡ calls ++ Wrote at v false ∷ []))
recorded_failed (Ok true) at bytes calls kept more same noted other = absurd (other refl)
recorded_failed (Ok false) at bytes calls kept more same noted other = inr (noted.0.0, noted.0.1, noted.0.2 ∙ ap (λ l. l ++ Wrote at noted.0.0 false ∷ []) same)
recorded_failed (Err e) at bytes calls kept more same noted other = inl (noted.1 ∙ same)
