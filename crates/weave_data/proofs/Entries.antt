-- Logs, entry by entry: a rule that holds at each entry, of the entries before it and of the entry.
-- Used by 13 crates above.
use Rattle.std.proofs.Common.{◌≡◌, List, [], ◌∷◌, ◌++◌, length, inl, inr, refl, ap, subst, ◌∙◌, arith}
use Rattle.std.proofs.lemmas.List.{append_assoc, length-append}
use Rattle.weave_data.proofs.Ends.{by_last, split_last}

module _ {E : Type 0} (P : List E → E → Type 0) where
  -- at each entry P holds of the entries before it and of the entry
  abbrev pub AtEach : List E → Type 0
  AtEach log = (before : List E) (entry : E) (after : List E) → log ≡ before ++ entry ∷ after → P before entry

  -- it holds in the empty log
  pub each_none : AtEach []
  each_none before entry after is = absurd (omega (arith, ap length is, length-append before (entry ∷ after)))

  -- and with one more entry of which it holds
  pub each_push : (log : List E) (entry : E) → AtEach log → P log entry → AtEach (log ++ entry ∷ [])
  each_push log entry each here before e after is =
      elim (split_last log before after entry e is) [
        | inl last ↦ subst (λ (x : E). P before x) last.1 (subst (λ (xs : List E). P xs entry) last.0 here)
        | inr earlier ↦ each before e earlier.0 earlier.1
      ]

  -- it holds in each beginning of the log
  pub each_before : (log rest : List E) → AtEach (log ++ rest) → AtEach log
  each_before log rest each before entry after is = each before entry (after ++ rest) (ap (λ (xs : List E). xs ++ rest) is ∙ append_assoc before (entry ∷ after) rest)

  -- and of the last entry
  pub each_last : (log : List E) (entry : E) → AtEach (log ++ entry ∷ []) → P log entry
  each_last log entry each = each log entry [] refl

  -- what holds at the start, and after each entry of which P holds, holds of each log in which P holds at each entry
  pub by_entries : (Q : List E → Type 0) → Q [] → ((log : List E) (entry : E) → AtEach log → P log entry → Q log → Q (log ++ entry ∷ [])) → (log : List E) → AtEach log → Q log
  by_entries Q none more =
      by_last (λ (log : List E). AtEach log → Q log) (λ _. none) (λ log entry so_far right.
      let before = each_before log (entry ∷ []) right in
      more log entry before (each_last log entry right) (so_far before))
