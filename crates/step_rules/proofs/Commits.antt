-- Each commit of a store's log is of a judgement there, with its stamp.
-- Used by JudgeStep and VisitStep.
use Rattle.std.proofs.Common.{◌≡◌, ℕ, List, [], ◌∷◌, Contains, inl, inr, subst, ap}
use Rattle.std.specs.Prelude.{reverse}
use Rattle.std.proofs.lemmas.List.{reverse-append}
use Rattle.std.proofs.lemmas.List.Elements.{Contains-append_cases}
use Rattle.weave_data.proofs.Members.{flat_has, has_head, has_map, has_none, has_tail, only}
use Rattle.weave_entries.specs.declared.store_log.StoreEntry.{StoreEntry}
use Rattle.weave_entries.specs.declared.store_log.StoreDeed.{StoreDeed}
use Rattle.weave_entries.specs.declared.store_log.StoreDeed.TheVariants.{Judged}
use Rattle.weave_entries.specs.declared.verdict.Verdict.{Verdict}
use Rattle.weave_entries.specs.declared.verdict.Verdict.TheVariants.{Committed, Conflict, Refused}
use Rattle.weave_entries.specs.StoreReplay.{Commit, Judgement, commit_by, commit_if, commits_of, judged_by, judgements_of}

-- a member of the list turned round is one of the list
pub in-reverse : {A : Type 0} (xs : List A) (x : A) → Contains (reverse xs) x → Contains xs x
in-reverse [] x h = absurd (has_none x h)
in-reverse (y ∷ ys) x h = elim (Contains-append_cases (reverse ys) (y ∷ []) x (subst (λ (zs : List _). Contains zs x) (reverse-append (y ∷ []) ys) h)) [
  | inl rest ↦ has_tail y ys x (in-reverse ys x rest)
  | inr here ↦ subst (λ z. Contains (y ∷ ys) z) (only y x here) (has_head y ys)
]

-- a commit has the stamp of its judgement
pub commit-stamp : (author : ℕ) (deed : StoreDeed) (commit : Commit) → Contains (commit_by deed) commit → (judged_by author deed).stamp ≡ commit.stamp
commit-stamp author (Judged request stamp ops asked verdict) commit h = at verdict h
  where
    the : Commit
    the = record { request = request; stamp = stamp; ops = ops }

    at : (verdict : Verdict) → Contains (commit_if verdict the) commit → stamp ≡ commit.stamp
    at (Committed number answers counts) h = ap (λ (c : Commit). c.stamp) (only the commit h)
    at (Conflict v newer) h = absurd (has_none commit h)
    at (Refused op reason seen) h = absurd (has_none commit h)

-- and it is of a judgement
pub commit-judged : (store : List StoreEntry) (commit : Commit) → Contains (commits_of store) commit → (judged : Judgement) × Contains (judgements_of store) judged × (judged.stamp ≡ commit.stamp)
commit-judged store commit h =
    let from = flat_has (λ (e : StoreEntry). commit_by e.deed) store commit h in
    (judged_by from.0.author from.0.deed, has_map (λ (e : StoreEntry). judged_by e.author e.deed) store from.0 from.1, commit-stamp from.0.author from.0.deed commit from.2)
