-- Logs of gatekeepers of which one has gained entries.
-- Used by StepGains, StepsInStep and crate sessions_account.
use Rattle.std.proofs.Common.{◌≡◌, ◌≢◌, inl, inr, ℕ, ◌<◌, ◌==◌, cond, List, [], ◌++◌, length, sym, ap, ◌∙◌, subst}
use Rattle.std.proofs.lemmas.Bool.{cases_eq, eq-eqb, ne_eqb}
use Rattle.std.proofs.lemmas.List.{append-nil, get_or-set_other, get_or-set_same, length-set}
use Rattle.weave_entries.specs.declared.gate_log.GateEntry.{GateEntry}
use Rattle.weave_account.specs.declared.account.Account.{Account}
use Rattle.weave_account.specs.Account.{gate_log}
use Rattle.weaver_locks.specs.Hands.{with_gate_entries}

-- One list among many

-- the list of this number has these elements, and each other is empty
abbrev pub at_one : {E : Type 0} → ℕ → List E → ℕ → List E
at_one {E} gate added home = cond (home == gate) added []

module _ {E : Type 0} (gate : ℕ) (added : List E) where
  -- the list at the number that has it is that list
  pub at-it : (home : ℕ) → home ≡ gate → at_one gate added home ≡ added
  at-it home same = ap (λ b. cond b added []) (eq-eqb home gate same)

  at-other : (home : ℕ) → home ≢ gate → at_one gate added home ≡ []
  at-other home other = ap (λ b. cond b added []) (ne_eqb home gate other)

  -- what holds of the one, and of the empty list at each other number, holds at each number
  pub at-each : (P : ℕ → List E → Type 0) → P gate added → ((home : ℕ) → home ≢ gate → P home [])
      → (home : ℕ) → P home (at_one gate added home)
  at-each P here others home = elim (cases_eq home gate) [
    | inl same ↦ subst (P home) (sym (at-it home same)) (subst (λ (k : ℕ). P k added) (sym same) here)
    | inr other ↦ subst (P home) (sym (at-other home other)) (others home other)
  ]

-- Accounts

module _ (old new : Account) (gate : ℕ) (added : List GateEntry) (made : new ≡ with_gate_entries gate added old) where
  -- the log that goes on
  pub log-here : gate < length old.gates → gate_log new gate ≡ gate_log old gate ++ added
  log-here low = ap (λ (a : Account). gate_log a gate) made
      ∙ get_or-set_same old.gates gate (gate_log old gate ++ added) [] low

  -- each log of a gatekeeper but the one that was extended stays
  pub log-elsewhere : (home : ℕ) → home ≢ gate → gate_log new home ≡ gate_log old home
  log-elsewhere home other = ap (λ (a : Account). gate_log a home) made
      ∙ get_or-set_other old.gates gate home (gate_log old gate ++ added) [] other

  -- the number of gatekeepers' logs is as before
  pub as-many : length new.gates ≡ length old.gates
  as-many = ap (λ (a : Account). length a.gates) made ∙ length-set old.gates gate (gate_log old gate ++ added)

  -- each log, with what it has gained
  pub logs-gain : gate < length old.gates → (home : ℕ) → gate_log new home ≡ gate_log old home ++ at_one gate added home
  logs-gain low = at-each gate added (λ home l. gate_log new home ≡ gate_log old home ++ l) (log-here low)
      (λ home other. log-elsewhere home other ∙ sym (append-nil (gate_log old home)))
