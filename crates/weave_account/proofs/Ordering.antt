-- At each vertex the commits that name it are ordered by precedence, as their numbers are; and nothing precedes itself.
-- Used by `commits_are_ordered`, ConflictsClause, InSession, ListingClause, Meeting, PhasesKept, ReadingPlace,
-- Replies, RightReport, Transactions and Visiting.
use Rattle.std.proofs.Common.{◌≡◌, ℕ, Bool, true, false, cond, List, [], ◌∷◌, ◌++◌, get_or, Contains, AllPairs, IsTrue, Option, Some, None, ◌⊎◌, inl, inr, refl, sym, ap, subst, ◌∙◌, arith}
use Rattle.std.specs.Prelude.{reverse}
use Rattle.std.specs.List.{filter, find}
use Rattle.std.specs.Option.{ForSome}
use Rattle.std.proofs.lemmas.List.{append-nil, reverse-append}
use Rattle.std.proofs.lemmas.List.Elements.{filter-append, Contains-get_or, Contains-append_cases}
use Rattle.std.proofs.lemmas.List.Quantifiers.{all_pairs_push}
use Rattle.weave_data.proofs.Members.{has_read, has_head, has_tail, has_none}
use Rattle.vector_stamp.specs.declared.clock.Stamp.{Stamp}
use Rattle.vector_stamp.specs.Precedence.{Precedes, Through}
use Rattle.weave_data.specs.declared.name.Name.{Name}
use Rattle.graph_ops.specs.Mentions.{named_by, is_among}
use Rattle.graph_ops.specs.declared.op.Op.{Op}
use Rattle.program_defs.specs.declared.script.Script.{Script}
use Rattle.weave_entries.specs.declared.store_log.StoreEntry.{StoreEntry}
use Rattle.weave_entries.specs.declared.store_log.StoreDeed.{StoreDeed}
use Rattle.weave_entries.specs.declared.store_log.StoreDeed.TheVariants.{Judged}
use Rattle.weave_entries.specs.declared.verdict.Verdict.TheVariants.{Committed, Conflict, Refused}
use Rattle.weave_entries.specs.Logs.{AtEachEntry}
use Rattle.weave_entries.specs.StoreReplay.{Commit, judged_by, commit_by, commits_of, names_vertex as names, commits_naming, last_naming}
use Rattle.weave_data.proofs.Ends.{by_last}
use Rattle.weave_data.proofs.Entries.{each_before, each_last}
use Rattle.report_rules.specs.Lookups.{AreBoth, request_at, request_names_vertex}
use Rattle.weave_account.specs.declared.account.Account.{Account}
use Rattle.weave_account.specs.Account.{stamp_of, pairs_in, Precedence}
use Rattle.weave_account.specs.Store.{AreJudgements, IsRightVerdict}
use Rattle.weave_data.proofs.Ordered.{pairs_across, pairs_head, pairs_tail}
use Rattle.weave_data.proofs.Images.{last-none, map-has}
use Rattle.weave_data.proofs.Numbers.{has-in, IsSorted}
use Rattle.weave_account.proofs.Storing.{IsOfScript, requests_of_commits, commits-push, work-named, JudgesRightly}
use Rattle.weave_account.proofs.Basis.{Basis, acyclic}

-- The last of a list

-- if each two elements of a list are related, and each is to a further one, each two are with that at the end
pub pairs-push : {A : Type 0} (R : A → A → Type 0) (xs : List A) (y : A) → AllPairs R xs → ((x : A) → Contains xs x → R x y)
    → AllPairs R (xs ++ y ∷ [])
pairs-push R xs y pairs each = all_pairs_push R xs y pairs (λ k d below. each (get_or xs k d) (Contains-get_or xs k d below))

-- each that passes is the last one that does, or relates to it
module _ {A : Type 0} (R : A → A → Type 0) (p : A → Bool) where
  -- each element that passes is the last one that does, or relates to it
  pub up-to-last : (xs : List A) → AllPairs R (filter p xs) → (x l : A) → find p (reverse xs) ≡ Some l → Contains (filter p xs) x
      → (x ≡ l) ⊎ R x l
  up-to-last =
      by_last (λ xs. AllPairs R (filter p xs) → (x l : A) → find p (reverse xs) ≡ Some l → Contains (filter p xs) x → (x ≡ l) ⊎ R x l)
      (λ pairs x l e h. absurd (has_none x h))
      (λ xs y more pairs x l e h.
      at xs y (p y) more
      (subst (AllPairs R) (filter-append p xs (y ∷ [])) pairs) x l
      (sym (ap (find p) (reverse-append xs (y ∷ []))) ∙ e)
      (subst (λ zs. Contains zs x) (filter-append p xs (y ∷ [])) h))
    where
      at : (xs : List A) (y : A) (b : Bool)
          → (AllPairs R (filter p xs) → (x l : A) → find p (reverse xs) ≡ Some l → Contains (filter p xs) x → (x ≡ l) ⊎ R x l)
          → AllPairs R (filter p xs ++ cond b (y ∷ []) []) → (x l : A) → cond b (Some y) (find p (reverse xs)) ≡ Some l
          → Contains (filter p xs ++ cond b (y ∷ []) []) x → (x ≡ l) ⊎ R x l
      at xs y true more pairs x l e h =
          let last : y ≡ l = cc in
          elim (Contains-append_cases (filter p xs) (y ∷ []) x h) [
            | inl earlier ↦ inr (subst (R x) last (pairs_across R (filter p xs) (y ∷ []) x y pairs earlier (has_head y [])))
            | inr here ↦ elim (has_read y [] x here) [ inl same ↦ inl (sym same ∙ last) | inr none ↦ absurd (has_none x none) ]
          ]
      at xs y false more pairs x l e h =
          more (subst (AllPairs R) (append-nil (filter p xs)) pairs) x l e (subst (λ zs. Contains zs x) (append-nil (filter p xs)) h)

-- the first precedes the second
abbrev pub Earlier : Account → Commit → Commit → Type 0
Earlier account a b = Precedence account a.stamp b.stamp

module _ (script : Script) (account : Account) where
  -- a commit follows all that name a vertex of its own
  follows : (commits : List Commit) (v : Name) (stamp : Stamp) → AllPairs (Earlier account) (commits_naming v commits)
      → ForSome (last_naming v commits) (λ (last : Commit). Precedence account last.stamp stamp)
      → (commit : Commit) → Contains (commits_naming v commits) commit → Precedence account commit.stamp stamp
  follows commits v stamp pairs after commit h = at (last_naming v commits) refl
    where
      at : (o : Option Commit) → last_naming v commits ≡ o → Precedence account commit.stamp stamp
      at None e = absurd (last-none (names v) commits commit e h)
      at (Some l) e =
          let p : Precedence account l.stamp stamp = after l e in
          elim (up-to-last (Earlier account) (names v) commits pairs commit l e h) [
            | inl same ↦ subst (λ (c : Commit). Precedence account c.stamp stamp) (sym same) p
            | inr before ↦ Through commit.stamp l.stamp stamp before p
          ]

  ordered-more : (commits : List Commit) (v : Name) (r : ℕ) (stamp : Stamp) (ops : List Op)
      → ((v : Name) → IsTrue (is_among (named_by ops) v) → ForSome (last_naming v commits) (λ (last : Commit). Precedence account last.stamp stamp))
      → AllPairs (Earlier account) (commits_naming v commits)
      → AllPairs (Earlier account) (commits_naming v (commits ++ record { request = r; stamp = stamp; ops = ops } ∷ []))
  ordered-more commits v r stamp ops after pairs =
      subst (AllPairs (Earlier account)) (sym (filter-append (names v) commits (commit ∷ []))) (at (is_among (named_by ops) v) (after v))
    where
      commit : Commit
      commit = record { request = r; stamp = stamp; ops = ops }

      at : (b : Bool) → (IsTrue b → ForSome (last_naming v commits) (λ (last : Commit). Precedence account last.stamp stamp))
          → AllPairs (Earlier account) (commits_naming v commits ++ cond b (commit ∷ []) [])
      at false f = subst (AllPairs (Earlier account)) (sym (append-nil (commits_naming v commits))) pairs
      at true f = pairs-push (Earlier account) (commits_naming v commits) commit pairs (follows commits v stamp pairs (f refl))

  ordered-deed : (before : List Commit) (v : Name) (author : ℕ) (deed : StoreDeed)
      → IsRightVerdict account before (judged_by author deed).stamp (judged_by author deed).ops (judged_by author deed).verdict
      → AllPairs (Earlier account) (commits_naming v before)
      → AllPairs (Earlier account) (commits_naming v (before ++ commit_by deed))
  ordered-deed before v author (Judged r stamp ops asked (Committed number answers counts)) right pairs =
      ordered-more before v r stamp ops right.after_last pairs
  ordered-deed before v author (Judged r stamp ops asked (Conflict w newer)) right pairs =
      subst (λ cs. AllPairs (Earlier account) (commits_naming v cs)) (sym (append-nil before)) pairs
  ordered-deed before v author (Judged r stamp ops asked (Refused op reason at)) right pairs =
      subst (λ cs. AllPairs (Earlier account) (commits_naming v cs)) (sym (append-nil before)) pairs

  -- of two commits that name a vertex the earlier one precedes the later one
  pub ordered : (v : Name) (log : List StoreEntry)
      → AreJudgements script account log
      → AllPairs (Earlier account) (commits_naming v (commits_of log))
  ordered v =
      by_last (λ log. AtEachEntry (JudgesRightly script account) log → AllPairs (Earlier account) (commits_naming v (commits_of log)))
      (λ each i j d below within. absurd (omega (arith, within)))
      (λ log entry more each.
      subst (λ cs. AllPairs (Earlier account) (commits_naming v cs)) (sym (commits-push log entry))
      (ordered-deed (commits_of log) v entry.author entry.deed (each_last (JudgesRightly script account) log entry each).verdict (more (each_before (JudgesRightly script account) log (entry ∷ []) each))))

  -- As requests

  -- the first request precedes the second
  abbrev pub RequestBefore : ℕ → ℕ → Type 0
  RequestBefore a b = AreBoth (Precedes (pairs_in account)) (stamp_of account a) (stamp_of account b)

  -- a request whose stamp precedes that of another precedes it
  pub by-stamps : (a b : ℕ) (x y : Stamp) → stamp_of account a ≡ Some x → stamp_of account b ≡ Some y → Precedence account x y → RequestBefore a b
  by-stamps a b x y stamp-a stamp-b precedes =
      subst (λ s. AreBoth (Precedes (pairs_in account)) s (stamp_of account b)) (sym stamp-a)
      (subst (λ s. AreBoth (Precedes (pairs_in account)) (Some x) s) (sym stamp-b) precedes)

  -- the requests of commits that name a vertex are the requests that name it
  pub naming-requests : (v : Name) (commits : List Commit)
      → ((commit : Commit) → Contains commits commit → IsOfScript script account commit)
      → filter (λ r. request_names_vertex script r v) (requests_of_commits commits) ≡ requests_of_commits (commits_naming v commits)
  naming-requests v [] known = refl
  naming-requests v (commit ∷ commits) known =
      ap (λ b. cond b (commit.request ∷ filter (λ r. request_names_vertex script r v) (requests_of_commits commits)) (filter (λ r. request_names_vertex script r v) (requests_of_commits commits)))
      (work-named (request_at script commit.request) commit.ops v (known commit (has_head commit commits)).work)
      ∙ at (names v commit) (naming-requests v commits (λ c h. known c (has_tail commit commits c h)))
    where
      at : (b : Bool)
          → filter (λ r. request_names_vertex script r v) (requests_of_commits commits) ≡ requests_of_commits (commits_naming v commits)
          → cond b (commit.request ∷ filter (λ r. request_names_vertex script r v) (requests_of_commits commits)) (filter (λ r. request_names_vertex script r v) (requests_of_commits commits))
          ≡ requests_of_commits (cond b (commit ∷ commits_naming v commits) (commits_naming v commits))
      at true e = ap (λ rs. commit.request ∷ rs) e
      at false e = e

  before-from : (a b : Commit) → IsOfScript script account a → IsOfScript script account b → Earlier account a b
      → RequestBefore a.request b.request
  before-from a b ka kb p =
      subst (λ s. AreBoth (Precedes (pairs_in account)) s (stamp_of account b.request)) (sym ka.stamp)
      (subst (λ s. AreBoth (Precedes (pairs_in account)) (Some a.stamp) s) (sym kb.stamp) p)

  -- commits in order of precedence are requests in that order
  pub sorted-requests : (commits : List Commit) → ((commit : Commit) → Contains commits commit → IsOfScript script account commit)
      → AllPairs (Earlier account) commits → IsSorted RequestBefore (requests_of_commits commits)
  sorted-requests [] known pairs = tt
  sorted-requests (commit ∷ commits) known pairs = (
    λ r h. let from = map-has (λ (c : Commit). c.request) commits r (has-in (requests_of_commits commits) r h) in
        subst (λ k. RequestBefore commit.request k) from.is
        (before-from commit from.of (known commit (has_head commit commits)) (known from.of (has_tail commit commits from.of from.has)) (pairs_head (Earlier account) commit commits from.of pairs from.has)),
    sorted-requests commits (λ c h. known c (has_tail commit commits c h)) (pairs_tail (Earlier account) commit commits pairs),
  )

  -- nothing precedes itself, so of two requests not each precedes the other
  pub not-both : Basis script account → (a b : ℕ) → RequestBefore a b → RequestBefore b a → ⊥
  not-both basis a b = at (stamp_of account a) (stamp_of account b)
    where
      at : (x y : Option Stamp) → AreBoth (Precedes (pairs_in account)) x y → AreBoth (Precedes (pairs_in account)) y x → ⊥
      at None y p q = p
      at (Some x) None p q = p
      at (Some x) (Some y) p q =
          acyclic script account basis x ((basis.laws.decided (pairs_in account) x x).0 (Through x y x p q))
