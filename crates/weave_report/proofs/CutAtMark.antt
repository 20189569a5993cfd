-- `cut_first` splits a text at its first mark, which is where `position` finds it; it gives nothing if there is none.
-- Used by `cut_item` and `cut_tag`.
use Rattle.std.proofs.Common.{◌≡◌, ℕ, suc, ◌+◌, ◌<◌, ◌≤◌, ◌-◌, Bool, true, false, cond, ltb, not, List, [], ◌∷◌, length, take, drop, get_or, Some, None, refl, sym, ap, ◌∙◌, arith, add-one}
use Rattle.std.specs.List.{position, position_or_len}
use Rattle.std.proofs.lemmas.Bool.{cond-true, cond-false, ltb-true, ltb-false}
use Rattle.std.proofs.lemmas.List.{take_all, length-drop}
use Rattle.std.proofs.lemmas.Option.{cond_some}
use Rattle.weave_text.proofs.FirstPiece.{test_failed}
use Rattle.weave_report.specs.Marks.{CutText, cut_behind, cut_first}

module _ (is_mark : ℕ → Bool) where
  -- the cut at a place
  abbrev cut_at : List ℕ → ℕ → CutText
  cut_at text at = (take at text, get_or text at 0, drop (suc at) text)

  -- the place of the first mark of a text with one more byte in front
  place : (byte : ℕ) (text : List ℕ) (b : Bool) → is_mark byte ≡ b → position_or_len is_mark (byte ∷ text) ≡ cond b 0 (suc (position_or_len is_mark text))
  place byte text true e = ap (λ b. cond (not b) (1 + position_or_len is_mark text) 0) e
  place byte text false e = let same : 1 + position_or_len is_mark text ≡ suc (position_or_len is_mark text) = omega arith in ap (λ b. cond (not b) (1 + position_or_len is_mark text) 0) e ∙ same

  there : (byte : ℕ) (text : List ℕ) (b : Bool) → is_mark byte ≡ b → (b ≡ false → cut_first is_mark text ≡ Some (cut_at text (position_or_len is_mark text)))
      → cut_first is_mark (byte ∷ text) ≡ Some (cut_at (byte ∷ text) (position_or_len is_mark (byte ∷ text)))
  there byte text true e more = cond-true (is_mark byte) _ _ e ∙ ap (λ at. Some (cut_at (byte ∷ text) at)) (sym (place byte text true e))
  there byte text false e more =
      cond-false (is_mark byte) _ _ e ∙ ap (cut_behind byte) (more refl) ∙ ap (λ at. Some (cut_at (byte ∷ text) at)) (sym (place byte text false e))

  cut_there : (text : List ℕ) → position_or_len is_mark text < length text → cut_first is_mark text ≡ Some (cut_at text (position_or_len is_mark text))
  cut_there [] h = absurd (omega arith)
  cut_there (byte ∷ text) h = there byte text (is_mark byte) refl (λ e. cut_there text (omega (arith, place byte text false e)))

  nowhere : (byte : ℕ) (text : List ℕ) (b : Bool) → is_mark byte ≡ b → suc (length text) ≤ position_or_len is_mark (byte ∷ text) → (b ≡ false → cut_first is_mark text ≡ None)
      → cut_first is_mark (byte ∷ text) ≡ None
  nowhere byte text true e h more = absurd (omega (arith, place byte text true e))
  nowhere byte text false e h more = cond-false (is_mark byte) _ _ e ∙ ap (cut_behind byte) (more refl)

  cut_nowhere : (text : List ℕ) → length text ≤ position_or_len is_mark text → cut_first is_mark text ≡ None
  cut_nowhere [] h = refl
  cut_nowhere (byte ∷ text) h = nowhere byte text (is_mark byte) refl (omega arith) (λ e. cut_nowhere text (omega (arith, place byte text false e)))

  -- a text is cut at its first mark
  pub cut_first-at : (text : List ℕ) (at : ℕ) → position is_mark text ≡ Some at → cut_first is_mark text ≡ Some (take at text, get_or text at 0, take (length text - (at + 1)) (drop (at + 1) text))
  cut_first-at text at e =
      let found = cond_some (ltb (position_or_len is_mark text) (length text)) (position_or_len is_mark text) at e in
      let rest : take (length text - (at + 1)) (drop (at + 1) text) ≡ drop (suc at) text = take_all _ _ (omega (arith, length-drop (at + 1) text)) ∙ ap (λ k. drop k text) (add-one at) in
      cut_there text (ltb-true _ _ found.0) ∙ ap (λ k. Some (cut_at text k)) found.1 ∙ ap (λ behind. Some (take at text, get_or text at 0, behind)) (sym rest)

  -- a text without a mark isn't cut
  pub cut_first-none : (text : List ℕ) → position is_mark text ≡ None → cut_first is_mark text ≡ None
  cut_first-none text e = cut_nowhere text (ltb-false _ _ (test_failed (ltb (position_or_len is_mark text) (length text)) (position_or_len is_mark text) e))
