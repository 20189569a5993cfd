-- What the report of logs says is kept in the report of logs that go on from them: stamps and final states.
-- Used by Loaded.
use Rattle.std.proofs.Common.{◌≡◌, ℕ, zero, suc, ◌+◌, ◌<◌, false, List, [], ◌∷◌, map, length, IsTrue, Option, Some, None, ◌⊎◌, inl, inr, refl, sym, ap, subst, ◌∙◌, arith}
use Rattle.std.specs.Prelude.{slice_get, IsSomeAnd}
use Rattle.std.specs.List.{AllByRecursion, range_with_len}
use Rattle.std.specs.Option.{option_and_then}
use Rattle.std.proofs.lemmas.Bool.{both_ways}
use Rattle.std.proofs.lemmas.List.{length-map}
use Rattle.std.proofs.lemmas.Option.{slice_get-get_or, slice_get_within}
use Rattle.vector_stamp.specs.declared.clock.Stamp.{Stamp}
use Rattle.graph_ops.specs.PlainGraph.{PlainGraph}
use Rattle.program_defs.specs.declared.program.Answer.{Answer}
use Rattle.program_defs.specs.declared.program.Program.{Program}
use Rattle.program_defs.specs.declared.script.Request.{Request}
use Rattle.program_defs.specs.declared.script.Script.{Script}
use Rattle.program_defs.specs.declared.script.Work.{Work}
use Rattle.program_defs.specs.declared.script.Work.TheVariants.{Change, Look}
use Rattle.program_defs.specs.PlainAnswer.{IsPlainAnswer}
use Rattle.program_defs.specs.Visits.{graph_read}
use Rattle.program_defs.specs.Works.{is_look}
use Rattle.report_rules.specs.declared.report.Reply.{Reply}
use Rattle.report_rules.specs.declared.report.ReplyState.{ReplyState}
use Rattle.report_rules.specs.declared.report.ReplyState.TheVariants.{Unbegun, Begun as Running, Finished}
use Rattle.report_rules.specs.declared.report.Report.{Report}
use Rattle.report_rules.specs.Lookups.{is_final, reply_at, request_at, stamp_at}
use Rattle.weave_entries.specs.StoreReplay.{Judgement, judgement_of}
use Rattle.weave_account.specs.declared.account.Account.{Account}
use Rattle.weave_account.specs.Account.{reads_of, stamp_of}
use Rattle.weave_account.specs.Report.{IsReplyInAccount, IsStateOf, IsStateOfProgram, MatchesAccount, state_of_tx}
use Rattle.weave_drive.specs.Staying.{ReportStays}
use Rattle.weave_account.proofs.OneReport.{IsDone, IsOpen, done-or-open}
use mathlib.Core.List.{tail-eq_of_cons-eq}

-- Lists

all-at : {A : Type 0} (P : A → Type 0) (xs : List A) (i : ℕ) (x : A) → AllByRecursion P xs → slice_get xs i ≡ Some x → P x
all-at P [] i x all e = absurd (cc)
all-at P (y ∷ xs) zero x all e = let same : y ≡ x = cc in subst P same all.0
all-at P (y ∷ xs) (suc i) x all e = all-at P xs i x all.1 e

-- each reply is that of the request of its place
request-there : (replies : List Reply) (start n r : ℕ) (reply : Reply) → map (λ (reply : Reply). reply.request) replies ≡ range_with_len start n
    → slice_get replies r ≡ Some reply → reply.request ≡ start + r
request-there [] start n r reply are e = absurd (cc)
request-there (first ∷ replies) start zero r reply are e = absurd (cc)
request-there (first ∷ replies) start (suc n) zero reply are e =
    let same : first ≡ reply = cc in
    let head : first.request ≡ start = cc in
    sym (ap (λ (x : Reply). x.request) same) ∙ head ∙ omega arith
request-there (first ∷ replies) start (suc n) (suc r) reply are e =
    let rest = tail-eq_of_cons-eq are in
    request-there replies (start + 1) n r reply rest e ∙ omega arith

-- Programs

-- a program has one plain answer at most
abbrev pub AnswersAreOne : Type 0
AnswersAreOne =
    (graph : PlainGraph) (program : Program) (a b : Answer) → IsPlainAnswer graph program a → IsPlainAnswer graph program b → a ≡ b

not-final : (state other : ReplyState) → state ≡ other → is_final other ≡ false → IsTrue (is_final state) → ⊥
not-final state other is still final = both_ways (is_final other) still (subst (λ (s : ReplyState). IsTrue (is_final s)) is final)

-- The report

module _ (law : AnswersAreOne) (script : Script) (account next : Account) (stays : ReportStays script account next) where
  -- a transaction's final state
  tx-kept : (r : ℕ) (judged : Option Judgement) → judgement_of r account.store ≡ judged → (old new : ReplyState)
      → old ≡ state_of_tx judged → new ≡ state_of_tx (judgement_of r next.store) → IsTrue (is_final old) → new ≡ old
  tx-kept r None found old new is too final = absurd (not-final old Running is refl final)
  tx-kept r (Some judged) found old new is too final = too ∙ ap state_of_tx (stays.verdicts r judged found) ∙ sym is

  -- a program's
  program-kept : (r : ℕ) (request : Request) (program : Program) → request_at script r ≡ Some request → request.work ≡ Look program → (old new : ReplyState)
      → IsStateOfProgram account r program old → IsStateOfProgram next r program new → IsTrue (is_final old) → new ≡ old
  program-kept r request program there work old new is too final =
      at (done-or-open account r program old is) (done-or-open next r program new too)
    where
      at : IsDone account r program old ⊎ IsOpen account r old → IsDone next r program new ⊎ IsOpen next r new → new ≡ old
      at (inr a) b = absurd (not-final old Running a.is refl final)
      at (inl a) (inr b) = absurd (both_ways _ b.ended (stays.finished r a.ended))
      at (inl a) (inl b) =
          let look : IsTrue (is_look request.work) = subst (λ w. IsTrue (is_look w)) (sym work) refl in
          let same = stays.answers r request there look a.ended in
          let plain = subst (λ reads. IsPlainAnswer (graph_read reads) program b.answer) same b.plain in
          b.is ∙ ap Finished (law (graph_read (reads_of account r)) program b.answer a.answer plain a.plain) ∙ sym a.is

  -- a request's
  state-kept : (r : ℕ) (request : Request) → request_at script r ≡ Some request → (work : Work) → request.work ≡ work
      → (s t : Option Stamp) → s ≡ stamp_of account r → t ≡ stamp_of next r → (old new : ReplyState)
      → IsStateOf account r s work old → IsStateOf next r t work new → IsTrue (is_final old) → new ≡ old
  state-kept r request there work work_is None t es et old new is too final = absurd (not-final old Unbegun is refl final)
  state-kept r request there work work_is (Some stamp) None es et old new is too final =
      let kept = stays.stamps r stamp (sym es) in absurd (cc)
  state-kept r request there (Change ops) work_is (Some stamp) (Some other) es et old new is too final =
      tx-kept r (judgement_of r account.store) refl old new is too final
  state-kept r request there (Look program) work_is (Some stamp) (Some other) es et old new is too final =
      program-kept r request program there work_is old new is too final

  module _ (first second : Report) (is : MatchesAccount script account first) (too : MatchesAccount script next second) where
    of-first : (r : ℕ) (old : Reply) → reply_at first r ≡ Some old → old.request ≡ r
    of-first r old e = request-there first.replies 0 (length script.requests) r old is.requests e ∙ omega arith

    of-second : (r : ℕ) (new : Reply) → reply_at second r ≡ Some new → new.request ≡ r
    of-second r new e = request-there second.replies 0 (length script.requests) r new too.requests e ∙ omega arith

    as-many : length first.replies ≡ length second.replies
    as-many =
        sym (length-map first.replies (λ (reply : Reply). reply.request))
        ∙ ap (λ (xs : List ℕ). length xs) (is.requests ∙ sym too.requests)
        ∙ length-map second.replies (λ (reply : Reply). reply.request)

    -- a stamp of a request in the first report is its stamp in the second
    pub stamps-kept : (r : ℕ) (stamp : Stamp) → stamp_at first r ≡ Some stamp → stamp_at second r ≡ Some stamp
    stamps-kept r stamp e = at (reply_at first r) refl (reply_at second r) refl e
      where
        at : (o : Option Reply) → reply_at first r ≡ o → (p : Option Reply) → reply_at second r ≡ p
            → option_and_then (λ (reply : Reply). reply.stamp) o ≡ Some stamp → option_and_then (λ (reply : Reply). reply.stamp) p ≡ Some stamp
        at None eo p ep e = absurd (cc)
        at (Some old) eo None ep e = absurd (missing (slice_get_within first.replies r old eo))
          where
            missing : r < length first.replies → ⊥
            missing within = let there = slice_get-get_or second.replies r old (omega (arith, within, as-many)) in cc
        at (Some old) eo (Some new) ep e =
            let a = all-at (IsReplyInAccount script account) first.replies r old is.replies eo in
            let b = all-at (IsReplyInAccount script next) second.replies r new too.replies ep in
            let there : stamp_of account r ≡ Some stamp = sym (a.stamp_is ∙ ap (stamp_of account) (of-first r old eo)) ∙ e in
            b.stamp_is ∙ ap (stamp_of next) (of-second r new ep) ∙ stays.stamps r stamp there

    -- and a final state in the first is the request's state in the second
    pub states-kept : (r : ℕ) (old new : Reply) → reply_at first r ≡ Some old → reply_at second r ≡ Some new
        → IsTrue (is_final old.state) → new.state ≡ old.state
    states-kept r old new eo en final =
        let a = all-at (IsReplyInAccount script account) first.replies r old is.replies eo in
        let b = all-at (IsReplyInAccount script next) second.replies r new too.replies en in
        let ra = of-first r old eo in
        let rb = of-second r new en in
        let sa : IsSomeAnd (request_at script r) (λ (request : Request). IsStateOf account r old.stamp request.work old.state) =
        subst (λ k. IsSomeAnd (request_at script k) (λ (request : Request). IsStateOf account k old.stamp request.work old.state)) ra a.state_is in
        let sb : IsSomeAnd (request_at script r) (λ (request : Request). IsStateOf next r new.stamp request.work new.state) =
        subst (λ k. IsSomeAnd (request_at script k) (λ (request : Request). IsStateOf next k new.stamp request.work new.state)) rb b.state_is in
        at (request_at script r) refl (a.stamp_is ∙ ap (stamp_of account) ra) (b.stamp_is ∙ ap (stamp_of next) rb) sa sb
      where
        at : (o : Option Request) → request_at script r ≡ o → old.stamp ≡ stamp_of account r → new.stamp ≡ stamp_of next r
            → IsSomeAnd o (λ (request : Request). IsStateOf account r old.stamp request.work old.state)
            → IsSomeAnd o (λ (request : Request). IsStateOf next r new.stamp request.work new.state) → new.state ≡ old.state
        at None there es et h g = absurd h
        at (Some request) there es et h g =
            state-kept r request there request.work refl old.stamp new.stamp es et old.state new.state h g final
