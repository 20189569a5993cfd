-- What is among the stamps of a row, before and after a call.
-- Used by `try_commit`.
use Rattle.std.proofs.Common.{◌≡◌, ℕ, List, [], ◌∷◌, ◌++◌, Contains, ◌⊎◌, inl, inr, Result, Ok, Err, IfOk, OnErr, refl, sym, ap, subst, ◌∙◌}
use Rattle.std.proofs.lemmas.List.Elements.{Contains-append_left, Contains-append_cases, Contains-push}
use Rattle.weave_data.proofs.Members.{has_none, has_read}
use Rattle.vector_stamp.specs.declared.clock.Stamp.{Stamp}
use Rattle.graph_ops.specs.declared.op.Op.{Op}
use Rattle.weave_entries.specs.declared.store_log.StoreEntry.{StoreEntry}
use Rattle.weave_entries.specs.declared.verdict.Verdict.{Verdict}
use Rattle.weave_entries.specs.StoreReplay.{judged_by, commits_of}
use Rattle.backing_store.specs.Commits.{stamps_judged, stamps_kept, asked_at, judged_entry}
use Rattle.machine_tests.specs.Covers.{HasAllStamps}

-- the stamp of one more entry is the last one
judged_push : (log : List StoreEntry) (entry : StoreEntry) → stamps_judged (log ++ entry ∷ []) ≡ stamps_judged log ++ (judged_by entry.author entry.deed).stamp ∷ []
judged_push [] entry = refl
judged_push (first ∷ rest) entry = ap (λ (stamps : List Stamp). (judged_by first.author first.deed).stamp ∷ stamps) (judged_push rest entry)

module _ (stamps grown : List Stamp) (log : List StoreEntry) (learnt : List Stamp) (stamp : Stamp) (more : grown ≡ stamps ++ stamp ∷ []) (covers : HasAllStamps stamps log learnt) where
  has_stamp : Contains grown stamp
  has_stamp = subst (λ (all : List Stamp). Contains all stamp) (sym more) (Contains-push stamps stamp)

  has_old : (one : Stamp) → Contains stamps one → Contains grown one
  has_old one has = subst (λ (all : List Stamp). Contains all one) (sym more) (Contains-append_left stamps (stamp ∷ []) one has)

  -- before the call: the new stamp, those that the store keeps and those that the judge knows
  pub has_all : ((one : Stamp) → Contains (stamps_kept (commits_of log)) one → Contains (stamps_judged log) one) → (one : Stamp) → Contains (stamp ∷ stamps_kept (commits_of log) ++ learnt) one → Contains grown one
  has_all kept one has =
      elim (has_read stamp (stamps_kept (commits_of log) ++ learnt) one has) [
        | inl same ↦ subst (λ (s : Stamp). Contains grown s) same has_stamp
        | inr there ↦ elim (Contains-append_cases (stamps_kept (commits_of log)) learnt one there) [
          | inl held ↦ has_old one (covers.of_store one (kept one held))
          | inr known ↦ has_old one (covers.of_judge one known)
        ]
      ]

  has_judged : (entry : StoreEntry) → (judged_by entry.author entry.deed).stamp ≡ stamp → (one : Stamp) → Contains (stamps_judged (log ++ entry ∷ [])) one → Contains grown one
  has_judged entry is one has =
      elim (Contains-append_cases (stamps_judged log) ((judged_by entry.author entry.deed).stamp ∷ []) one (subst (λ (s : List Stamp). Contains s one) (judged_push log entry) has)) [
        | inl before ↦ has_old one (covers.of_store one before)
        | inr last ↦ elim (has_read (judged_by entry.author entry.deed).stamp [] one last) [
          | inl same ↦ subst (λ (s : Stamp). Contains grown s) (sym is ∙ same) has_stamp
          | inr none ↦ absurd (has_none one none)
        ]
      ]

  -- after it: what the store has judged
  pub store_after : {E : Type 0} (author request : ℕ) (ops : List Op) (new : List StoreEntry) (result : Result Verdict E) → IfOk result (λ verdict. new ≡ log ++ judged_entry author request stamp ops log verdict ∷ []) → OnErr result (new ≡ log) → (one : Stamp) → Contains (stamps_judged new) one → Contains grown one
  store_after author request ops new (Ok verdict) is same one has = has_judged (judged_entry author request stamp ops log verdict) refl one (subst (λ (entries : List StoreEntry). Contains (stamps_judged entries) one) is has)
  store_after author request ops new (Err error) is same one has = has_old one (covers.of_store one (subst (λ (entries : List StoreEntry). Contains (stamps_judged entries) one) same has))

  -- and what the judge has heard
  pub judge_after : (ops : List Op) → ((one : Stamp) → Contains (asked_at log stamp ops) one → Contains (stamps_kept (commits_of log)) one) → ((one : Stamp) → Contains (stamps_kept (commits_of log)) one → Contains (stamps_judged log) one) → (one : Stamp) → Contains learnt one ⊎ Contains (stamp ∷ asked_at log stamp ops) one → Contains grown one
  judge_after ops asked kept one has =
      elim has [
        | inl known ↦ has_old one (covers.of_judge one known)
        | inr handed ↦ elim (has_read stamp (asked_at log stamp ops) one handed) [
          | inl same ↦ subst (λ (s : Stamp). Contains grown s) same has_stamp
          | inr there ↦ has_old one (covers.of_store one (kept one (asked one there)))
        ]
      ]
