-- The later end of a pair that a visit added: a program, which visits the vertex at its place if it is finished.
-- Used by OneReport, PhaseOrder, PlacedPairs and RightReport.
use Rattle.std.proofs.Common.{◌≡◌, ℕ, ◌==◌, ◌&&◌, List, [], ◌∷◌, take, Contains, IsTrue, Option, Some, None, inl, inr, refl, sym, ap, subst, ◌∙◌}
use Rattle.std.specs.List.{filter}
use Rattle.std.specs.Map.{keys_of}
use Rattle.std.proofs.lemmas.Bool.{and_parts, or_left, or_right, eq-eqb}
use Rattle.weave_data.proofs.Members.{has_read, has_none, cut_at, has_map, has_filter, has_flat}
use Rattle.weave_data.specs.Names.{same_name}
use Rattle.weave_data.specs.declared.name.Name.{Name}
use Rattle.graph_ops.specs.Mentions.{is_among}
use Rattle.graph_ops.specs.Operations.{State}
use Rattle.graph_ops.proofs.Vertices.{same_name-refl}
use Rattle.program_defs.specs.declared.program.Program.{Program}
use Rattle.program_defs.specs.declared.script.Request.{Request}
use Rattle.program_defs.specs.declared.script.Script.{Script}
use Rattle.program_defs.specs.declared.script.Work.{Work}
use Rattle.program_defs.specs.declared.script.Work.TheVariants.{Change, Look}
use Rattle.weave_entries.specs.declared.gate_log.GateEntry.{GateEntry}
use Rattle.weave_entries.specs.declared.gate_log.GateDeed.{GateDeed}
use Rattle.weave_entries.specs.declared.gate_log.GateDeed.TheVariants.{BeganTx, BeganProgram, Sent, Nop, Heard, Raised, Finished}
use Rattle.weave_entries.specs.GateReplay.{BegunRequest, program_by, programs_of}
use Rattle.weave_entries.specs.ShardReplay.{Visit, updates_of, visit_by, visits_of, reads_in}
use Rattle.weave_entries.specs.declared.shard_log.ShardEntry.{ShardEntry}
use Rattle.program_defs.specs.Visits.{IsVisited}
use Rattle.report_rules.specs.PrintedOrder.{begun_requests}
use Rattle.weave_entries.specs.ShardReplay as shard
use Rattle.report_rules.specs.declared.report.Pair.{Pair}
use Rattle.report_rules.specs.declared.report.Reply.{Reply}
use Rattle.report_rules.specs.declared.report.ReplyState.{ReplyState}
use Rattle.report_rules.specs.declared.report.ReplyState.TheVariants as reply
use Rattle.report_rules.specs.declared.report.Report.{Report}
use Rattle.report_rules.specs.Replay.{graph_at_place}
use Rattle.report_rules.specs.RightReport.{VisitsWhereFinished, MayBeLaterAt}
use Rattle.report_rules.specs.Lookups.{is_in, is_some_and, AreBoth, request_at, reply_at, is_committed_or_finished, may_be_listed}
use Rattle.weave_account.specs.declared.account.Account.{Account}
use Rattle.weave_account.specs.Account.{gate_log, shard_log, reads_of}
use Rattle.weave_account.specs.Gatekeepers.{BeginsAs}
use Rattle.weave_account.specs.Pairs.{IsAddedByVisit}
use Rattle.weave_account.specs.Report.{IsReplyInAccount, IsReportOfAccount}
use Rattle.weave_account.proofs.Beginning.{list-there}
use Rattle.weave_account.proofs.Listed.{listed-is, in-begun}
use Rattle.weave_account.proofs.ListingClause.{final-begun}
use Rattle.weave_account.proofs.Meeting.{visit-there, read-visited-there}
use Rattle.weave_data.proofs.Images.{flat-has}
use Rattle.weave_account.proofs.Printing.{has-order}
use Rattle.weave_account.proofs.Replies.{has-reply}
use Rattle.weave_account.proofs.Basis.{Basis}
use Rattle.program_defs.specs.Works.{is_look}

-- a request that was begun as a program is one
pub record IsProgram (script : Script) (r : ℕ) : Type 0 where
  pub request : Request
  pub request_is : request_at script r ≡ Some request
  pub program : Program
  pub work : request.work ≡ Look program

deed-program : (script : Script) (account : Account) (home : ℕ) (before : List GateEntry) (author : ℕ) (deed : GateDeed) (begun : BegunRequest)
    → Contains (program_by author deed) begun → BeginsAs script account home before deed → IsProgram script begun.request
deed-program script account home before author (BeganProgram r stamp) begun h rule =
    elim (has_read _ [] begun h) [ inl same ↦ subst (λ (b : BegunRequest). IsProgram script b.request) same (at (request_at script r) refl rule.own) | inr none ↦ absurd (has_none begun none) ]
  where
    at : (q : Option Request) → request_at script r ≡ q
        → IsTrue (is_some_and (λ (request : Request). (request.gate == home) && is_look request.work) q) → IsProgram script r
    at None e h = cc
    at (Some request) e h = look request.work refl (and_parts _ _ h).1
      where
        look : (work : Work) → request.work ≡ work → IsTrue (is_look work) → IsProgram script r
        look (Change ops) is k = cc
        look (Look program) is k = record { request = request; request_is = e; program = program; work = is }
deed-program script account home before author (BeganTx r stamp) begun h rule = absurd (has_none begun h)
deed-program script account home before author (Sent r messages) begun h rule = absurd (has_none begun h)
deed-program script account home before author (Nop to number stamp low) begun h rule = absurd (has_none begun h)
deed-program script account home before author (Heard clock) begun h rule = absurd (has_none begun h)
deed-program script account home before author (Raised epoch) begun h rule = absurd (has_none begun h)
deed-program script account home before author (Finished r) begun h rule = absurd (has_none begun h)

-- what was begun as a program is one
pub program-begun : (script : Script) (account : Account) → Basis script account → (home : ℕ) (begun : BegunRequest)
    → Contains (programs_of (gate_log account home)) begun → IsProgram script begun.request
program-begun script account basis home begun h =
    let entry = flat-has (λ (e : GateEntry). program_by e.author e.deed) (gate_log account home) begun h in
    let place = cut_at (gate_log account home) entry.0 entry.1.0 in
    deed-program script account home place.before (entry.0).author (entry.0).deed begun entry.1.1
    (basis.is.gatekeepers.begins home place.before entry.0 place.after place.is)

key-of : (reads : List (Name × State)) (read : Name × State) → Contains reads read → IsTrue (is_among (keys_of reads) read.0)
key-of [] read h = absurd (has_none read h)
key-of (first ∷ reads) read h =
    elim (has_read first reads read h) [
      | inl same ↦ or_left _ _ (subst (λ (q : Name × State). IsTrue (same_name first.0 q.0)) same (same_name-refl first.0))
      | inr more ↦ or_right (same_name first.0 read.0) _ (key-of reads read more)
    ]

module _ (script : Script) (account : Account) (basis : Basis script account) (report : Report) (reported : IsReportOfAccount script account report) where
  -- what a visit read is among the program's reads
  visit-key : (number : ℕ) (visit : Visit) → Contains (visits_of (shard_log account number)) visit
      → IsTrue (is_among (keys_of (reads_of account visit.request)) visit.vertex)
  visit-key number visit h =
      let log = shard_log account number in
      let read : Name × State = (visit.vertex, shard.state_of_updates (take visit.updates (updates_of visit.vertex log))) in
      let in-log : Contains (reads_in visit.request log) read =
      has_map (λ (v : Visit). (v.vertex, shard.state_of_updates (take v.updates (updates_of v.vertex log))))
      (filter (λ (v : Visit). v.request == visit.request) (visits_of log)) visit
      (has_filter (λ (v : Visit). v.request == visit.request) (visits_of log) visit h (eq-eqb visit.request visit.request refl)) in
      let entry = flat-has (λ (e : ShardEntry). visit_by e.author e.deed) log visit h in
      key-of (reads_of account visit.request) read
      (has_flat (reads_in visit.request) account.shards log read (list-there account.shards number entry.0 entry.1.0) in-log)

  -- the later end of a pair that a visit added is a program that visits the vertex, if it is finished
  pub visited-pair : (pair : Pair) → IsAddedByVisit account pair
      → AreBoth (λ (request : Request) (reply : Reply). MayBeLaterAt script report pair.vertex pair.later request.work reply.state) (request_at script pair.later) (reply_at report pair.later)
  visited-pair pair added =
      let has = visit-there script account basis added.shard added.visit added.visited in
      let is-program : IsProgram script pair.later =
      subst (IsProgram script) added.later_is (program-begun script account basis (has.visit).home _ (has.visit).begun) in
      let reply = has-reply script account report reported.matches pair.later is-program.request is-program.request_is in
      let key : IsTrue (is_among (keys_of (reads_of account pair.later)) pair.vertex) =
      subst (λ r. IsTrue (is_among (keys_of (reads_of account r)) pair.vertex)) added.later_is
      (subst (λ v. IsTrue (is_among (keys_of (reads_of account (added.visit).request)) v)) added.vertex_is (visit-key added.shard added.visit added.visited)) in
      subst (λ q. AreBoth (λ (request : Request) (reply : Reply). MayBeLaterAt script report pair.vertex pair.later request.work reply.state) q (reply_at report pair.later))
      (sym is-program.request_is)
      (subst (λ o. AreBoth (λ (request : Request) (reply : Reply). MayBeLaterAt script report pair.vertex pair.later request.work reply.state) (Some is-program.request) o) (sym reply.at)
      (subst (λ w. MayBeLaterAt script report pair.vertex pair.later w (reply.reply).state) (sym is-program.work) (where-finished is-program reply.reply reply.at reply.of reply.matched key (reply.reply).state refl)))
    where
      where-finished : (is-program : IsProgram script pair.later) (e : Reply) → reply_at report pair.later ≡ Some e
          → e.request ≡ pair.later → IsReplyInAccount script account e
          → IsTrue (is_among (keys_of (reads_of account pair.later)) pair.vertex) → (state : ReplyState) → e.state ≡ state
          → VisitsWhereFinished (graph_at_place script report pair.later) is-program.program pair.vertex state
      where-finished is-program e at of matched key (reply.Finished answer) is =
          let final : IsTrue (is_committed_or_finished e.state) = subst (λ s. IsTrue (is_committed_or_finished s)) (sym is) refl in
          let begun = final-begun script account basis report reported.matches e matched final in
          let may : IsTrue (may_be_listed report pair.later) =
          subst (λ o. IsTrue (is_some_and (λ (reply : Reply). is_committed_or_finished reply.state) o)) (sym at) final in
          let listed : IsTrue (is_in pair.later report.order) =
          has-order report report.order reported.order pair.later
          (subst (λ k. IsTrue (is_in k (begun_requests report))) of (in-begun script account report reported.matches pair.later begun.0 e at begun.1)) may in
          elim (listed-is script account report reported.matches pair.later may) [
            | inl tx ↦ (let same : Some tx.request ≡ Some is-program.request = sym tx.request_is ∙ is-program.request_is in let one : tx.request ≡ is-program.request = cc in let clash : Change tx.ops ≡ Look is-program.program = sym tx.work ∙ ap (λ (q : Request). q.work) one ∙ is-program.work in cc)
            | inr program ↦
                let same : Some program.request ≡ Some is-program.request = sym program.request_is ∙ is-program.request_is in
                let one : program.request ≡ is-program.request = cc in
                let works : Look program.program ≡ Look is-program.program = sym program.work ∙ ap (λ (q : Request). q.work) one ∙ is-program.work in
                let which : program.program ≡ is-program.program = cc in
                subst (λ k. IsVisited (graph_at_place script report pair.later) k pair.vertex) which
                (read-visited-there script account basis report reported pair.later listed program pair.vertex key)
          ]
      where-finished is-program e at of matched key reply.Unbegun is = tt
      where-finished is-program e at of matched key reply.Begun is = tt
      where-finished is-program e at of matched key (reply.Committed number answers) is = tt
      where-finished is-program e at of matched key (reply.Conflict v newer) is = tt
      where-finished is-program e at of matched key (reply.Refused op reason at') is = tt
