-- What is judged are the operations of its request. This needs no reference to other logs: it is so at the start by the
-- account there, and later by the hand that judged.
-- Used by Account, InTurn and Needed.
use Rattle.std.proofs.Common.{◌≡◌, ℕ, ◌==◌, List, Contains, inl, inr, sym, subst, ◌∙◌}
use Rattle.std.specs.Prelude.{IsSomeAnd}
use Rattle.std.proofs.lemmas.Bool.{eq-eqb}
use Rattle.weave_data.proofs.Members.{cut_at, has_cut, has_filter, has_map, map_has}
use Rattle.program_defs.specs.declared.script.Request.{Request}
use Rattle.program_defs.specs.declared.script.Script.{Script}
use Rattle.program_defs.specs.declared.script.Work.TheVariants.{Change}
use Rattle.report_rules.specs.Lookups.{request_at}
use Rattle.weave_entries.specs.declared.store_log.StoreEntry.{StoreEntry}
use Rattle.weave_entries.specs.StoreReplay.{Judgement, judged_by, judgements_of}
use Rattle.weave_entries.proofs.StoreLogs.{judged-author}
use Rattle.weave_account.specs.declared.account.Account.{Account}
use Rattle.seen_logs.specs.Seen.{entries_since}
use Rattle.hands_account.specs.Runs.{own_judgements}
use Rattle.hands_account.proofs.ByHands.{IsClosedRun, IsStoreByHand, follows, starts, store-case}
use Rattle.hands_account.proofs.Places.{since-place}

-- an entry of the store as a judgement
abbrev pub judgement : StoreEntry → Judgement
judgement entry = judged_by entry.author entry.deed

-- a judgement has the operations of its request
abbrev pub HasWork : Script → Judgement → Type 0
HasWork script judged = IsSomeAnd (request_at script judged.request) (λ (request : Request). request.work ≡ Change judged.ops)

module _ {script : Script} {hands : ℕ} {start : Account} {seen_by : ℕ → Account} {closed : Account} (run : IsClosedRun script hands start seen_by closed) where
  -- what a hand has judged is among its judgements
  pub own-judged : (before : List StoreEntry) (entry : StoreEntry) (number : ℕ) → IsStoreByHand run before entry number
      → Contains (own_judgements number start (seen_by number)) (judgement entry)
  own-judged before entry number mine =
      let log = (seen_by number).store in
      let place = since-place start.store log (starts run number mine.known).store before entry mine.rest mine.at mine.own.1 in
      has_filter (λ (judged : Judgement). judged.author == number) (judgements_of (entries_since start.store log)) (judgement entry)
      (has_map judgement (entries_since start.store log) entry (subst (λ l. Contains l entry) (sym place.2) (has_cut place.0 entry mine.rest)))
      (eq-eqb (judgement entry).author number (judged-author entry.author entry.deed ∙ mine.own.0))

  -- each judgement has the operations of its request
  pub work-all : (judged : Judgement) → Contains (judgements_of closed.store) judged → HasWork script judged
  work-all judged h =
      let of = map_has judgement closed.store judged h in
      let cut = cut_at closed.store of.0 of.1 in
      subst (HasWork script) of.2 (elim (store-case run cut.before of.0 cut.after cut.is) [
        | inl given ↦ (run.runs.at_start.store.judges cut.before of.0 given.0 given.1).work
        | inr mine ↦ (follows run (of.0).author mine.known).work (judgement of.0) (own-judged cut.before of.0 (of.0).author mine)
      ])
