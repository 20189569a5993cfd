-- Logs of which one has one more entry.
-- Used by BeginAccount, FinishStep, QuietGateEntry, ShardStep, StepGoesOn and VisitStep.
use Rattle.std.proofs.Common.{◌≡◌, ◌≢◌, ℕ, ◌<◌, List, [], ◌∷◌, ◌++◌, length, inl, inr, sym, ap, subst, ◌∙◌, get_or, get_or-set_same, get_or-set_other}
use Rattle.std.specs.Prelude.{slice_set}
use Rattle.std.proofs.lemmas.Bool.{cases_eq}
use Rattle.std.proofs.lemmas.List.{append-nil}
use Rattle.weave_data.proofs.Entries.{each_push}
use Rattle.weave_entries.specs.declared.gate_log.GateDeed.{GateDeed}
use Rattle.weave_entries.specs.declared.gate_log.GateEntry.{GateEntry}
use Rattle.weave_entries.specs.declared.shard_log.ShardDeed.{ShardDeed}
use Rattle.weave_entries.specs.declared.shard_log.ShardEntry.{ShardEntry}
use Rattle.weave_entries.specs.Logs.{AtEachEntry}
use Rattle.weave_account.specs.GoesOn.{IsBeginningOf}

-- the entry of a gatekeeper's deed
abbrev pub gate-entry : ℕ → GateDeed → GateEntry
gate-entry author deed = record { author = author; deed = deed }

-- the entry of a shard's deed, of author 0
abbrev pub shard-entry : ShardDeed → ShardEntry
shard-entry deed = record { author = 0; deed = deed }

module _ {E : Type 0} (logs : List (List E)) (i : ℕ) (within : i < length logs) (entry : E) where
  -- the logs with the entry put at the end of log i
  abbrev pub set-logs : List (List E)
  set-logs = slice_set logs i (get_or logs i [] ++ entry ∷ [])

  -- the one that has it
  pub set-here : get_or set-logs i [] ≡ get_or logs i [] ++ entry ∷ []
  set-here = get_or-set_same logs i (get_or logs i [] ++ entry ∷ []) [] within

  -- the others are as they were
  pub set-there : (j : ℕ) → j ≢ i → get_or set-logs j [] ≡ get_or logs j []
  set-there j other = get_or-set_other logs i j (get_or logs i [] ++ entry ∷ []) [] other

  -- each begins with what it was
  pub set-log : (j : ℕ) → IsBeginningOf (get_or logs j []) (get_or set-logs j [])
  set-log j = elim (cases_eq j i) [
    | inl same ↦ (entry ∷ [], ap (λ n. get_or set-logs n []) same ∙ set-here ∙ ap (λ n. get_or logs n [] ++ entry ∷ []) (sym same))
    | inr other ↦ ([], set-there j other ∙ sym (append-nil (get_or logs j [])))
  ]

  -- a rule that each entry of them keeps, if the new one does
  pub each-set : (P : ℕ → List E → E → Type 0) → ((j : ℕ) → AtEachEntry (P j) (get_or logs j [])) → P i (get_or logs i []) entry
      → (j : ℕ) → AtEachEntry (P j) (get_or set-logs j [])
  each-set P each here j = elim (cases_eq j i) [
    | inl same ↦ subst (λ n. AtEachEntry (P n) (get_or set-logs n [])) (sym same) (subst (AtEachEntry (P i)) (sym set-here) (each_push (P i) (get_or logs i []) entry (each i) here))
    | inr other ↦ subst (AtEachEntry (P j)) (sym (set-there j other)) (each j)
  ]
