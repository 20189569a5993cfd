-- No image of a journal is foreign.
-- Used by `images_have_the_commits` and `recover`.
use Rattle.std.proofs.Common.{◌≡◌, ◌≢◌, inl, inr, ℕ, List, [], ◌∷◌, ◌++◌, length, get_or, Option, refl, sym, ◌∙◌, ap, arith, append_assoc}
use Rattle.std.proofs.lemmas.Bool.{cases_eq}
use Rattle.std.proofs.lemmas.List.{get_or_at}
use Rattle.store_journal.specs.Journal.{Walk, framed, gate_of, IsForeign}
use Rattle.store_journal.specs.Standing.{AreRecords, IsJournal}
use Rattle.store_journal.proofs.Walking.{walk_to_gate, one_record_more}

module _ {C : Type 0} (reader : List C → List ℕ → Option C) where
  -- at a gate byte that isn't 1
  gate_is : (front : List ℕ) (commits : List C) (gate : ℕ) (tail file : List ℕ) → AreRecords reader front commits → gate ≢ 1 → file ≡ front ++ gate ∷ tail → get_or file (gate_of reader file) 0 ≡ gate
  gate_is front commits gate tail file records shut is =
      let there : gate_of reader file ≡ length front = ap (λ f. gate_of reader f) is ∙ ap (λ (w : Walk C). w.gate) (walk_to_gate reader front commits gate tail records shut) in
      (λ i. get_or (is i) (there i) 0) ∙ get_or_at front gate tail 0 (length front) refl

  -- so no image is foreign
  pub never_foreign : (commits : List C) (pending : Option C) (file : List ℕ) → IsJournal reader commits pending file → IsForeign reader file → ⊥
  never_foreign commits pending file (inl unborn) foreign = omega (arith, unborn.1, foreign.0)
  never_foreign commits pending file (inr (inl closed)) foreign =
      let k = closed.1 in
      omega (arith, gate_is k.front commits 0 k.tail file k.records (omega arith) k.file_is, foreign.2)
  never_foreign commits pending file (inr (inr staged)) foreign =
      let s = staged.2 in
      elim (cases_eq s.gate 1) [
        | inl is_open ↦
            let head = s.front ++ 1 ∷ framed s.payload in
            let is : file ≡ head ++ 0 ∷ s.tail = s.file_is ∙ ap (λ g. s.front ++ g ∷ (framed s.payload ++ 0 ∷ s.tail)) is_open ∙ sym (append_assoc s.front (1 ∷ framed s.payload) (0 ∷ s.tail)) in
            omega (arith, gate_is head (commits ++ staged.0 ∷ []) 0 s.tail file (one_record_more reader s.front commits staged.0 s.payload s.records s.short s.reads) (omega arith) is, foreign.2)
        | inr shut ↦ absurd (shut (sym (gate_is s.front commits s.gate (framed s.payload ++ 0 ∷ s.tail) file s.records shut s.file_is) ∙ foreign.2))
      ]
