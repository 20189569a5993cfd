-- The store judges a request of an earlier phase before one of a later phase. It rests on the clauses on sessions,
-- channels and the store.
-- Used by FinalReplies, InSession, OneReport, OpenRequests, PhasePrecedence, PhasesKept, Requests and crate
-- weaver_top.
use Rattle.std.proofs.Common.{◌≡◌, ◌≢◌, ℕ, ◌<◌, ◌≤◌, ◌==◌, List, ◌∷◌, ◌++◌, Contains, AllPairs, IsTrue, Option, Some, None, refl, sym, ap, subst, ◌∙◌, append_assoc, arith}
use Rattle.std.specs.Prelude.{IsSomeAnd}
use Rattle.std.specs.List.{flat_map}
use Rattle.std.proofs.lemmas.Bool.{eqb-true}
use Rattle.std.proofs.lemmas.List.{map-append}
use Rattle.std.proofs.lemmas.List.Concat.{flat_map-append}
use Rattle.std.proofs.lemmas.List.Elements.{Contains-append_left}
use Rattle.weave_data.proofs.Members.{has_none, has_head, has_cut, has_map, any_has, cut_at, only}
use Rattle.weave_data.proofs.Ordered.{pairs_across}
use Rattle.program_defs.specs.declared.script.Request.{Request}
use Rattle.program_defs.specs.declared.script.Script.{Script}
use Rattle.program_defs.specs.declared.script.Work.TheVariants.{Change, Look}
use Rattle.graph_ops.specs.declared.op.Op.{Op}
use Rattle.weave_entries.specs.declared.gate_log.GateEntry.{GateEntry}
use Rattle.weave_entries.specs.declared.gate_log.GateDeed.{GateDeed}
use Rattle.weave_entries.specs.declared.gate_log.GateDeed.TheVariants.{BeganTx, BeganProgram, Sent, Nop, Heard, Raised, Finished}
use Rattle.weave_entries.specs.declared.session_log.SessionEntry.{SessionEntry}
use Rattle.weave_entries.specs.declared.session_log.SessionDeed.{SessionDeed}
use Rattle.weave_entries.specs.declared.session_log.SessionDeed.TheVariants as session
use Rattle.weave_entries.specs.declared.store_log.StoreEntry.{StoreEntry}
use Rattle.weave_entries.specs.GateReplay.{BegunRequest, begun_by, begun_in, program_by, programs_of, ended_by, ended_in}
use Rattle.weave_entries.specs.GateRules.{EndsAs}
use Rattle.weave_entries.specs.SessionReplay.{reply_by, replied_in, has_reply_in}
use Rattle.weave_entries.specs.StoreReplay.{Judgement, judged_by, judgements_of}
use Rattle.weave_entries.proofs.OwnStamps.{tx-begun, program-begun as program-begun-in}
use Rattle.report_rules.specs.Lookups.{request_at}
use Rattle.report_rules.specs.Meetings.{phase_of}
use Rattle.weave_account.specs.declared.account.Account.{Account}
use Rattle.weave_account.specs.Account.{all_begun, gate_log, is_ended, session_log}
use Rattle.weave_account.specs.Channels.{SendsAs}
use Rattle.weave_account.specs.Phases.{EndsPhase, IsRunByPhases}
use Rattle.weave_account.specs.Sessions.{RepliesAs}
use Rattle.weave_account.proofs.Basis.{Basis}
use Rattle.weave_account.proofs.Beginning.{all-in}
use Rattle.weave_data.proofs.Images.{flat-has, map-has}
use Rattle.weave_data.proofs.Numbers.{has-in}
use Rattle.weave_data.proofs.Counting.{First, Same, Second, apart}
use Rattle.weave_account.proofs.Listed.{IsJudgedAt}
use Rattle.weave_account.proofs.PlacedPairs.{judged-begun}
use Rattle.weave_account.proofs.Replying.{place-of}
use Rattle.weave_account.proofs.VisitedPairs.{program-begun}

-- no request is judged twice
pub twice : (script : Script) (account : Account) → Basis script account
    → (before : List StoreEntry) (entry : StoreEntry) (after : List StoreEntry) → account.store ≡ before ++ entry ∷ after
    → (other : StoreEntry) → Contains before other
    → (judged_by other.author other.deed).request ≡ (judged_by entry.author entry.deed).request → ⊥
twice script account basis before entry after is other h same =
    pairs_across (λ (a b : Judgement). a.request ≢ b.request) (judgements_of before) (judgements_of (entry ∷ after))
    (judged_by other.author other.deed) (judged_by entry.author entry.deed)
    (subst (AllPairs (λ (a b : Judgement). a.request ≢ b.request)) (ap judgements_of is ∙ map-append (λ (e : StoreEntry). judged_by e.author e.deed) before (entry ∷ after)) basis.is.store.once)
    (has_map (λ (e : StoreEntry). judged_by e.author e.deed) before other h) (has_head _ _) same

-- In one account

module _ (script : Script) (logs : Account) (basis : Basis script logs) where
  reply-ended : (session-number : ℕ) (before : List SessionEntry) (deed : SessionDeed) (r : ℕ) → Contains (reply_by deed) r
      → RepliesAs logs deed → IsTrue (is_ended logs r)
  reply-ended number before (session.Begun q stamp) r h right = absurd (has_none r h)
  reply-ended number before (session.Replied q) r h right = subst (λ k. IsTrue (is_ended logs k)) (only q r h) right

  -- what has its reply was sent or finished
  pub replied-ended : (r number : ℕ) → IsTrue (has_reply_in r (session_log logs number)) → IsTrue (is_ended logs r)
  replied-ended r number h =
      let found = any_has (λ replied. replied == r) (replied_in (session_log logs number)) h in
      let from = flat-has (λ (e : SessionEntry). reply_by e.deed) (session_log logs number) found.0 found.1 in
      let place = cut_at (session_log logs number) from.0 from.1.0 in
      subst (λ k. IsTrue (is_ended logs k)) (eqb-true found.0 r found.2)
      (reply-ended number place.before (from.0).deed found.0 from.1.1 (basis.is.sessions.replies number place.before from.0 place.after place.is))

  -- a judgement of this request
  abbrev pub IsJudged : ℕ → Type 0
  IsJudged r = (judged : Judgement) × Contains (judgements_of logs.store) judged × (judged.request ≡ r)

  deed-judged : (home : ℕ) (before : List GateEntry) (author : ℕ) (deed : GateDeed) (after : List GateEntry)
      → gate_log logs home ≡ before ++ record { author = author; deed = deed } ∷ after
      → (r : ℕ) (request : Request) (ops : List Op) → request_at script r ≡ Some request → request.work ≡ Change ops
      → Contains (ended_by deed) r → EndsAs before author deed → SendsAs logs script.shards before author deed → IsJudged r
  deed-judged home before author (Sent q messages) after is r request ops there work h ends sends =
      (sends.judged, sends.is_judged, sends.request_is ∙ only q r h)
  deed-judged home before author (Finished q) after is r request ops there work h ends sends =
      let in-log : Contains (programs_of (gate_log logs home)) (record { author = author; request = q; stamp = ends.0 }) =
      subst (λ l. Contains (programs_of l) (record { author = author; request = q; stamp = ends.0 })) (sym is)
      (programs-front before (record { author = author; deed = Finished q } ∷ after) _ ends.1) in
      let program = program-begun script logs basis home _ in-log in
      let same : Some request ≡ Some program.request = sym there ∙ ap (request_at script) (sym (only q r h)) ∙ program.request_is in
      let one : request ≡ program.request = cc in
      let clash : Change ops ≡ Look program.program = sym work ∙ ap (λ (k : Request). k.work) one ∙ program.work in
      cc
    where
      programs-front : (xs ys : List GateEntry) (b : BegunRequest) → Contains (programs_of xs) b → Contains (programs_of (xs ++ ys)) b
      programs-front xs ys b h =
          subst (λ bs. Contains bs b) (sym (flat_map-append (λ (e : GateEntry). program_by e.author e.deed) xs ys))
          (Contains-append_left (programs_of xs) (programs_of ys) b h)
  deed-judged home before author (BeganTx q stamp) after is r request ops there work h ends sends = absurd (has_none r h)
  deed-judged home before author (BeganProgram q stamp) after is r request ops there work h ends sends = absurd (has_none r h)
  deed-judged home before author (Nop to number stamp low) after is r request ops there work h ends sends = absurd (has_none r h)
  deed-judged home before author (Heard clock) after is r request ops there work h ends sends = absurd (has_none r h)
  deed-judged home before author (Raised epoch) after is r request ops there work h ends sends = absurd (has_none r h)

  -- a transaction that has its reply was judged
  pub replied-judged : (r : ℕ) (request : Request) (ops : List Op) → request_at script r ≡ Some request
      → request.work ≡ Change ops → IsTrue (has_reply_in r (session_log logs request.session)) → IsJudged r
  replied-judged r request ops there work replied =
      let ended = has-in (flat_map ended_in logs.gates) r (replied-ended r request.session replied) in
      let log = flat-has ended_in logs.gates r ended in
      let home = place-of logs.gates log.0 log.1.0 in
      let entry =
      flat-has (λ (e : GateEntry). ended_by e.deed) (gate_log logs home.0) r (subst (λ l. Contains (ended_in l) r) (sym home.1) log.1.1) in
      let place = cut_at (gate_log logs home.0) entry.0 entry.1.0 in
      deed-judged home.0 place.before (entry.0).author (entry.0).deed place.after place.is r request ops there work entry.1.1
      (basis.laws.ends home.0 script.shards (gate_log logs home.0) (basis.is.gatekeepers.logs home.0) place.before entry.0 place.after place.is)
      (basis.is.channels home.0 place.before entry.0 place.after place.is)

-- what a deed ends was begun before
pub ended-deed : (before : List GateEntry) (author : ℕ) (deed : GateDeed) (r : ℕ) → Contains (ended_by deed) r
    → EndsAs before author deed → (b : BegunRequest) × Contains (begun_in before) b × (b.request ≡ r)
ended-deed before author (Sent q messages) r h ends = (_, tx-begun before _ ends.1, only q r h)
ended-deed before author (Finished q) r h ends = (_, program-begun-in before _ ends.1, only q r h)
ended-deed before author (BeganTx q stamp) r h ends = absurd (has_none r h)
ended-deed before author (BeganProgram q stamp) r h ends = absurd (has_none r h)
ended-deed before author (Nop to number stamp low) r h ends = absurd (has_none r h)
ended-deed before author (Heard clock) r h ends = absurd (has_none r h)
ended-deed before author (Raised epoch) r h ends = absurd (has_none r h)

-- a request that has its reply was begun
pub replied-begun : (script : Script) (logs : Account) (basis : Basis script logs) (r number : ℕ)
    → IsTrue (has_reply_in r (session_log logs number)) → (b : BegunRequest) × Contains (all_begun logs) b × (b.request ≡ r)
replied-begun script logs basis r number replied =
    let ended = has-in (flat_map ended_in logs.gates) r (replied-ended script logs basis r number replied) in
    let log = flat-has ended_in logs.gates r ended in
    let home = place-of logs.gates log.0 log.1.0 in
    let entry = flat-has (λ (e : GateEntry). ended_by e.deed) (gate_log logs home.0) r (subst (λ l. Contains (ended_in l) r) (sym home.1) log.1.1) in
    let place = cut_at (gate_log logs home.0) entry.0 entry.1.0 in
    let begun =
    ended-deed place.before (entry.0).author (entry.0).deed r entry.1.1
    (basis.laws.ends home.0 script.shards (gate_log logs home.0) (basis.is.gatekeepers.logs home.0) place.before entry.0 place.after place.is) in
    let longer : Contains (begun_in (gate_log logs home.0)) begun.0 = subst (λ l. Contains (begun_in l) begun.0) (sym place.is)
    (subst (λ bs. Contains bs begun.0) (sym (flat_map-append (λ (e : GateEntry). begun_by e.author e.deed) place.before (entry.0 ∷ place.after))) (Contains-append_left (begun_in place.before) (begun_in (entry.0 ∷ place.after)) begun.0 begun.1)) in
    (begun.0, all-in logs home.0 begun.0 longer, begun.2)

-- In a run by phases

module _ (script : Script) (account : Account) (basis : Basis script account) (phase : ℕ) (logs : Account) (ends : EndsPhase script account phase logs) where
  -- the logs at the end of the phase are an account of the script too
  abbrev pub at-end : Basis script logs
  at-end = record { laws = basis.laws; limits = basis.limits; is = ends.is_account }

  -- what was judged by the end of a phase is of that phase or an earlier one
  judged-so-far : (entry : StoreEntry) → Contains logs.store entry
      → phase_of script (judged_by entry.author entry.deed).request ≤ phase
  judged-so-far entry h =
      let b =
      judged-begun script logs at-end (judged_by entry.author entry.deed)
      (has_map (λ (e : StoreEntry). judged_by e.author e.deed) logs.store entry h) in
      subst (λ r. phase_of script r ≤ phase) b.2 (ends.begun b.0 b.1)

  work-of : (r : ℕ) (judged : Judgement) (at : IsJudgedAt script account basis r judged)
      → (request : Request) × (request_at script r ≡ Some request) × (request.work ≡ Change judged.ops)
  work-of r judged at =
      from (request_at script r) refl
      (subst (λ k. IsSomeAnd (request_at script k) (λ (q : Request). q.work ≡ Change judged.ops)) at.request_is (at.rule).work)
    where
      from : (o : Option Request) → request_at script r ≡ o → IsSomeAnd o (λ (q : Request). q.work ≡ Change judged.ops)
          → (request : Request) × (request_at script r ≡ Some request) × (request.work ≡ Change judged.ops)
      from None e work = absurd work
      from (Some request) e work = (request, e, work)

  -- what is judged of that phase, or an earlier one, was judged by its end
  judged-by-then : (r : ℕ) (judged : Judgement) (at : IsJudgedAt script account basis r judged) → phase_of script r ≤ phase
      → (rest : List StoreEntry) × (logs.store ≡ at.before ++ at.entry ∷ rest)
  judged-by-then r judged at early =
      let work = work-of r judged at in
      let done = replied-judged script logs at-end r work.0 judged.ops work.1 work.2 (ends.replied r work.0 work.1 early) in
      let image = map-has (λ (e : StoreEntry). judged_by e.author e.deed) logs.store done.0 done.1 in
      let place = cut_at logs.store image.of image.has in
      let more = (ends.goes_on).store in
      let whole : account.store ≡ place.before ++ image.of ∷ (place.after ++ more.0) =
      more.1 ∙ ap (λ l. l ++ more.0) place.is ∙ append_assoc place.before (image.of ∷ place.after) more.0 in
      let same : (judged_by (image.of).author (image.of).deed).request ≡ (judged_by (at.entry).author (at.entry).deed).request =
      ap (λ (j : Judgement). j.request) image.is ∙ done.2 ∙ sym at.request_is ∙ ap (λ (j : Judgement). j.request) (sym at.judged_is) in
      elim (apart at.before at.entry at.after place.before image.of (place.after ++ more.0) (sym at.is ∙ whole)) [
        | Same before entry ↦ (place.after, place.is ∙ ap (λ b. b ++ image.of ∷ place.after) (sym before) ∙ ap (λ e. at.before ++ e ∷ place.after) (sym entry))
        | First rest is ↦ (rest ++ image.of ∷ place.after, place.is ∙ ap (λ b. b ++ image.of ∷ place.after) is ∙ append_assoc at.before (at.entry ∷ rest) (image.of ∷ place.after))
        | Second rest is ↦ absurd (twice script account basis at.before at.entry at.after at.is image.of (subst (λ b. Contains b image.of) (sym is) (has_cut place.before image.of rest)) same)
      ]

-- of two judgements that of an earlier phase comes first
pub judged-in-turn : (script : Script) (account : Account) (basis : Basis script account) → IsRunByPhases script account
    → (r s : ℕ) (j k : Judgement) (at : IsJudgedAt script account basis r j) (by : IsJudgedAt script account basis s k)
    → phase_of script r < phase_of script s
    → (rest : List StoreEntry) × (by.before ≡ at.before ++ at.entry ∷ rest)
judged-in-turn script account basis run r s j k at by less =
    let phase = phase_of script r in
    let in-store : Contains account.store by.entry = subst (λ l. Contains l by.entry) (sym by.is) (has_cut by.before by.entry by.after) in
    let later =
    judged-begun script account basis (judged_by (by.entry).author (by.entry).deed)
    (has_map (λ (e : StoreEntry). judged_by e.author e.deed) account.store by.entry in-store) in
    let its : (later.0).request ≡ s = later.2 ∙ ap (λ (q : Judgement). q.request) by.judged_is ∙ by.request_is in
    let ended = run phase later.0 later.1 (subst (λ n. phase < phase_of script n) (sym its) less) in
    let logs = ended.0 in
    let ends = ended.1 in
    let early = judged-by-then script account basis phase logs ends r j at (omega arith) in
    let not-yet : ¬ Contains logs.store by.entry = λ h.
    (let le : phase_of script s ≤ phase = subst (λ n. phase_of script n ≤ phase) (ap (λ (q : Judgement). q.request) by.judged_is ∙ by.request_is) (judged-so-far script account basis phase logs ends by.entry h) in omega (arith, le, less)) in
    elim (apart at.before at.entry at.after by.before by.entry by.after (sym at.is ∙ by.is)) [
      | First rest is ↦ (rest, is)
      | Same before entry ↦ absurd (not-yet (subst (λ e. Contains logs.store e) entry (subst (λ l. Contains l at.entry) (sym early.1) (has_cut at.before at.entry early.0))))
      | Second rest is ↦ absurd (not-yet (subst (λ l. Contains l by.entry) (sym early.1)
          (Contains-append_left at.before (at.entry ∷ early.0) by.entry (subst (λ b. Contains b by.entry) (sym is) (has_cut by.before by.entry rest)))))
    ]
