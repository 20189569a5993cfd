-- A run by phases keeps the phases: precedence, conflicts, commit numbers and refusals.
-- Used by `phases_are_kept`.
use Rattle.std.proofs.Common.{◌≡◌, ℕ, zero, suc, ◌<◌, ◌≤◌, List, [], ◌∷◌, ◌++◌, length, Contains, Option, Some, None, inl, inr, refl, sym, ap, subst, ◌∙◌, append_assoc, arith}
use Rattle.std.specs.Prelude.{reverse, slice_get}
use Rattle.std.specs.Option.{option_and_then}
use Rattle.std.proofs.lemmas.Bool.{cases_order}
use Rattle.std.proofs.lemmas.List.{length-append}
use Rattle.std.proofs.lemmas.List.Concat.{flat_map-append}
use Rattle.weave_data.proofs.Members.{has_head, has_tail, find_has, cut_at}
use Rattle.vector_stamp.specs.declared.clock.Stamp.{Stamp}
use Rattle.weave_data.specs.declared.name.Name.{Name}
use Rattle.program_defs.specs.declared.script.Script.{Script}
use Rattle.weave_entries.specs.declared.store_log.StoreEntry.{StoreEntry}
use Rattle.weave_entries.specs.StoreReplay.{Commit, Judgement, judged_by, commit_by, commits_of, names_vertex as names}
use Rattle.report_rules.specs.declared.report.Reply.{Reply}
use Rattle.report_rules.specs.declared.report.ReplyState.{ReplyState}
use Rattle.report_rules.specs.declared.report.ReplyState.TheVariants.{Unbegun, Begun as Running, Committed, Conflict, Refused, Finished}
use Rattle.report_rules.specs.declared.report.Report.{Report}
use Rattle.report_rules.specs.Lookups.{AreBoth, committed_number, RequestPrecedes}
use Rattle.report_rules.specs.Meetings.{phase_of, commit_number, IsConflictInOnePhase, IsRefusalInPhase, PhasesAreKept}
use Rattle.weave_account.specs.declared.account.Account.{Account}
use Rattle.weave_account.specs.Account.{stamp_of, Precedence}
use Rattle.weave_account.specs.Phases.{IsRunByPhases}
use Rattle.weave_account.specs.Report.{IsReportOfAccount}
use Rattle.weave_account.specs.Store.{Conflicts, IsRefused, IsRightVerdict}
use Rattle.weave_account.proofs.Basis.{Basis}
use Rattle.weave_account.proofs.Beginning.{tx-stamp}
use Rattle.weave_account.proofs.Listed.{IsJudgedAt, judged-at}
use Rattle.weave_data.proofs.Images.{flat-has}
use Rattle.weave_data.proofs.ListPlaces.{all-from}
use Rattle.weave_account.proofs.NumbersClause.{IsNumberedAt, numbered-at, count-after, verdict-at}
use Rattle.weave_account.proofs.Ordering.{RequestBefore}
use Rattle.weave_account.proofs.PhaseOrder.{judged-in-turn}
use Rattle.weave_account.proofs.PhasePrecedence.{later-never-precedes}
use Rattle.weave_account.proofs.Storing.{commit-of}
use Rattle.weave_account.proofs.Replies.{reply-number, same-precedence, convert}
use Rattle.weave_account.proofs.Transactions.{known}
use Rattle.weave_account.proofs.ConflictsClause.{IsVerdictState, commits-before, reverse-has, verdict-of, reported-conflict}
use Rattle.weave_account.proofs.RefusalsClause.{reported-refused}

-- the reply with a commit number is a member
numbered-reply : (replies : List Reply) (r : ℕ) (n : ℕ)
    → option_and_then (λ (reply : Reply). committed_number reply.state) (slice_get replies r) ≡ Some n
    → (reply : Reply) × Contains replies reply × (slice_get replies r ≡ Some reply) × (committed_number reply.state ≡ Some n)
numbered-reply [] r n e = cc
numbered-reply (reply ∷ replies) zero n e = (reply, has_head reply replies, refl, e)
numbered-reply (reply ∷ replies) (suc r) n e =
    let rest = numbered-reply replies r n e in (rest.0, has_tail reply replies rest.0 rest.1, rest.2, rest.3)

module _ (script : Script) (account : Account) (basis : Basis script account) (run : IsRunByPhases script account) (report : Report) (reported : IsReportOfAccount script account report) where
  -- Precedence

  between : (a b : ℕ) → phase_of script a < phase_of script b → ¬ RequestBefore script account b a
  between a b less h = at (stamp_of account b) (stamp_of account a) refl refl h
    where
      at : (y x : Option Stamp) → stamp_of account b ≡ y → stamp_of account a ≡ x → AreBoth (Precedence account) y x → ⊥
      at None x eb ea h = h
      at (Some y) None eb ea h = h
      at (Some y) (Some x) eb ea h = later-never-precedes script account basis run a b x y less ea eb h

  later-never : (a b : ℕ) → phase_of script a < phase_of script b → ¬ RequestPrecedes report b a
  later-never a b less h = between a b less (convert (same-precedence script account report reported.matches basis b a) h)

  -- Conflicts

  -- the commits before a judgement were judged at places before it
  earlier-place : (r : ℕ) (j : Judgement) (at : IsJudgedAt script account basis r j) (commit : Commit)
      → Contains (commits_of at.before) commit
      → (k : Judgement) × (by : IsJudgedAt script account basis commit.request k) × (rest : List StoreEntry) × (at.before ≡ by.before ++ by.entry ∷ rest)
  earlier-place r j at commit h =
      let from = flat-has (λ (e : StoreEntry). commit_by e.deed) at.before commit h in
      let place = cut_at at.before from.0 from.1.0 in
      let is : account.store ≡ place.before ++ from.0 ∷ (place.after ++ at.entry ∷ at.after) =
      at.is ∙ ap (λ l. l ++ at.entry ∷ at.after) place.is ∙ append_assoc place.before (from.0 ∷ place.after) (at.entry ∷ at.after) in
      let of = commit-of (from.0).author (from.0).deed commit from.1.1 in (
        judged_by (from.0).author (from.0).deed,
        record { before = place.before; entry = from.0; after = place.after ++ at.entry ∷ at.after; is = is; judged_is = refl; request_is = of.request; rule = basis.is.store.judges place.before from.0 (place.after ++ at.entry ∷ at.after) is },
        place.after,
        place.is,
      )

  one-phase : (r newer : ℕ) (v : Name) (j : Judgement) (at : IsJudgedAt script account basis r j)
      → Conflicts account (commits_of at.before) j.stamp j.ops v newer → phase_of script r ≡ phase_of script newer
  one-phase r newer v j at conflict =
      let last = conflict.last in
      let found = find_has (names v) (reverse (commits_of at.before)) last conflict.last_is in
      let there = reverse-has (commits_of at.before) last found.0 in
      let earlier = earlier-place r j at last there in
      let request : last.request ≡ newer = conflict.newer_is in
      let stamp-r : stamp_of account r ≡ Some j.stamp =
      subst (λ k. stamp_of account k ≡ Some j.stamp) at.request_is
      (tx-stamp account basis.is.gatekeepers.once (at.rule).home _ _ _ (at.rule).begun) in
      let stamp-newer : stamp_of account newer ≡ Some last.stamp =
      ap (stamp_of account) (sym request)
      ∙ (known script account basis report reported last (commits-before script account basis report reported at.before (at.entry ∷ at.after) at.is last there)).stamp in
      elim (cases_order (phase_of script r) (phase_of script newer)) [
        | inl same ↦ same
        | inr (inl less) ↦ absurd (
            let turn =
            judged-in-turn script account basis run r last.request j earlier.0 at earlier.1
            (subst (λ n. phase_of script r < phase_of script n) (sym request) less) in
            let long = ap length turn.1 ∙ length-append at.before (at.entry ∷ turn.0) in
            let short = ap length earlier.3 ∙ length-append (earlier.1).before ((earlier.1).entry ∷ earlier.2) in
            omega (arith, long, short))
        | inr (inr more) ↦ absurd (later-never-precedes script account basis run newer r last.stamp j.stamp more stamp-newer stamp-r conflict.precedes)
      ]

  conflict-kept : (reply : Reply) → Contains report.replies reply → (state : ReplyState) → reply.state ≡ state
      → IsConflictInOnePhase script reply.request state
  conflict-kept reply h (Conflict v newer) is =
      let has = verdict-of script account basis report reported reply h (subst IsVerdictState (sym is) tt) in
      let verdict = reported-conflict (has.judged).verdict v newer (sym is ∙ has.reported) in
      let at = judged-at script account basis reply.request has.judged has.found in
      one-phase reply.request newer v has.judged at
      (subst (λ k. IsRightVerdict account (commits_of at.before) (has.judged).stamp (has.judged).ops k) verdict (at.rule).verdict)
  conflict-kept reply h Unbegun is = tt
  conflict-kept reply h Running is = tt
  conflict-kept reply h (Committed number answers) is = tt
  conflict-kept reply h (Refused op reason at) is = tt
  conflict-kept reply h (Finished answer) is = tt

  -- Numbers

  number-of : (r n : ℕ) → commit_number report r ≡ Some n → IsNumberedAt script account basis report reported r n
  number-of r n e =
      let reply = numbered-reply report.replies r n e in
      subst (λ k. IsNumberedAt script account basis report reported k n)
      (reply-number script account report reported.matches r reply.0 reply.2)
      (numbered-at script account basis report reported reply.0 reply.1 n reply.3)

  -- a commit is counted by all that is judged after it
  counted : (r n : ℕ) (a : IsNumberedAt script account basis report reported r n) (before rest : List StoreEntry)
      → before ≡ (a.at).before ++ (a.at).entry ∷ rest → n ≤ length (commits_of before)
  counted r n a before rest is =
      let number = a.number_is in
      let more =
      count-after script account basis report reported (a.at).before (a.at).entry rest
      (verdict-at script account basis report reported a.at a.commits_here) in
      let same = ap (λ l. length (commits_of l)) is in
      omega (arith, number, more, same)

  numbers-kept : (a b m n : ℕ) → phase_of script a < phase_of script b → commit_number report a ≡ Some m
      → commit_number report b ≡ Some n → m < n
  numbers-kept a b m n less ea eb =
      let x = number-of a m ea in
      let y = number-of b n eb in
      let turn = judged-in-turn script account basis run a b x.judged y.judged x.at y.at less in
      let le = counted a m x (y.at).before turn.0 turn.1 in
      let number = y.number_is in
      omega (arith, le, number)

  -- Refusals

  refused-kept : (r k : ℕ) (j : Judgement) (at : IsJudgedAt script account basis r j) → k ≡ length (commits_of at.before)
      → (other number : ℕ) → commit_number report other ≡ Some number
      → (phase_of script other < phase_of script r → number ≤ k) × (phase_of script r < phase_of script other → k < number)
  refused-kept r k j at is other number e =
      let x = number-of other number e in (
        λ less. (let turn = judged-in-turn script account basis run other r x.judged j x.at at less in let le = counted other number x at.before turn.0 turn.1 in omega (arith, le, is)),
        λ less. (
            let turn = judged-in-turn script account basis run r other j x.judged at x.at less in
            let parts =
            ap (λ l. length (commits_of l)) turn.1
            ∙ ap length (flat_map-append (λ (e : StoreEntry). commit_by e.deed) at.before (at.entry ∷ turn.0))
            ∙ length-append (commits_of at.before) (commits_of (at.entry ∷ turn.0)) in
            let here = x.number_is in
            omega (arith, is, parts, here)),
      )

  refusal-kept : (reply : Reply) → Contains report.replies reply → (state : ReplyState) → reply.state ≡ state
      → IsRefusalInPhase script report reply.request state
  refusal-kept reply h (Refused op reason k) is =
      let has = verdict-of script account basis report reported reply h (subst IsVerdictState (sym is) tt) in
      let verdict = reported-refused (has.judged).verdict op reason k (sym is ∙ has.reported) in
      let at = judged-at script account basis reply.request has.judged has.found in
      let refused : IsRefused (commits_of at.before) (has.judged).ops op reason k =
      subst (λ v. IsRightVerdict account (commits_of at.before) (has.judged).stamp (has.judged).ops v) verdict (at.rule).verdict in
      refused-kept reply.request k has.judged at refused.at_is
  refusal-kept reply h Unbegun is = tt
  refusal-kept reply h Running is = tt
  refusal-kept reply h (Committed number answers) is = tt
  refusal-kept reply h (Conflict v newer) is = tt
  refusal-kept reply h (Finished answer) is = tt

  -- the report of a run by phases keeps the phases
  pub phases-kept : PhasesAreKept script report
  phases-kept = record {
    later_never_precedes = later-never;
    conflicts = all-from (λ (reply : Reply). IsConflictInOnePhase script reply.request reply.state) report.replies (λ reply h. conflict-kept reply h reply.state refl);
    numbers = numbers-kept;
    refusals = all-from (λ (reply : Reply). IsRefusalInPhase script report reply.request reply.state) report.replies (λ reply h. refusal-kept reply h reply.state refl);
  }
