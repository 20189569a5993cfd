-- The clause on replay from each request's own: if each listed request results in its reply on the graph of those
-- before it, provided that these pass, the whole order does.
-- Used by Meeting, ReplayClause and Transactions.
use Rattle.std.proofs.Common.{◌≡◌, ℕ, List, [], ◌∷◌, ◌++◌, Option, Some, None, Ok, Err, refl, subst, ◌∙◌}
use Rattle.graph_ops.specs.PlainGraph.{PlainGraph, TxOutcome, empty_graph, transaction}
use Rattle.program_defs.specs.declared.script.Request.{Request}
use Rattle.program_defs.specs.declared.script.Script.{Script}
use Rattle.program_defs.specs.declared.script.Work.{Work}
use Rattle.program_defs.specs.declared.script.Work.TheVariants.{Change, Look}
use Rattle.report_rules.specs.declared.report.Report.{Report}
use Rattle.report_rules.specs.declared.report.Reply.{Reply}
use Rattle.report_rules.specs.declared.report.ReplyState.{ReplyState}
use Rattle.weave_data.specs.Facts.{AllHold}
use Rattle.report_rules.specs.Replay.{OutcomeMatchesReply, MatchesReply, replay_from}
use Rattle.report_rules.specs.Lookups.{AreBoth, request_at, reply_at}
use Rattle.weave_data.proofs.Lists.{append-step}
use Rattle.weave_account.proofs.Replaying.{graph_after_all, PassesWork, Passes, AllPass, all-pass-append, after-append}

-- on this graph the request results in its reply
abbrev pub ComesToReply : Script → Report → PlainGraph → ℕ → Type 0
ComesToReply script report graph r =
    AreBoth (λ (request : Request) (reply : Reply). MatchesReply graph request.work reply.state) (request_at script r) (reply_at report r)

told-passes : (o : TxOutcome) (state : ReplyState) → OutcomeMatchesReply o state
    → (passed : Rattle.graph_ops.specs.PlainGraph.PassedTx) × (o ≡ Ok passed)
told-passes (Ok passed) state h = (passed, refl)
told-passes (Err stopped) state h = absurd h

work-passes : (graph : PlainGraph) (work : Work) (state : ReplyState) → MatchesReply graph work state → PassesWork graph work
work-passes graph (Change ops) state h = told-passes (transaction ops graph) state h
work-passes graph (Look program) state h = tt

both-pass : (graph : PlainGraph) (q : Option Request) (e : Option Reply)
    → AreBoth (λ (request : Request) (reply : Reply). MatchesReply graph request.work reply.state) q e → Passes graph q
both-pass graph None e h = tt
both-pass graph (Some request) None h = absurd h
both-pass graph (Some request) (Some reply) h = work-passes graph request.work reply.state h

module _ (script : Script) (report : Report)
    (each : (before : List ℕ) (r : ℕ) (after : List ℕ) → report.order ≡ before ++ r ∷ after → AllPass empty_graph script before → ComesToReply script report (graph_after_all empty_graph script before) r) where
  from : (before rest : List ℕ) → report.order ≡ before ++ rest → AllPass empty_graph script before
      → AllHold (replay_from (graph_after_all empty_graph script before) script report rest)
  from before [] is passes = tt
  from before (r ∷ rest) is passes =
      let here = each before r rest is passes in
      let next : AllPass empty_graph script (before ++ r ∷ []) =
      all-pass-append script before (r ∷ []) empty_graph passes
      (both-pass (graph_after_all empty_graph script before) (request_at script r) (reply_at report r) here, tt) in
      (here, subst (λ (graph : PlainGraph). AllHold (replay_from graph script report rest)) (after-append script before (r ∷ []) empty_graph) (from (before ++ r ∷ []) rest (is ∙ append-step before r rest) next))

  -- the report of an account satisfies the clause on replay
  pub replay-clause : AllHold (replay_from empty_graph script report report.order)
  replay-clause = from [] report.order refl tt

  -- and all pass
  all-from : (before rest : List ℕ) → report.order ≡ before ++ rest → AllPass empty_graph script before
      → AllPass (graph_after_all empty_graph script before) script rest
  all-from before [] is passes = tt
  all-from before (r ∷ rest) is passes =
      let here = both-pass (graph_after_all empty_graph script before) (request_at script r) (reply_at report r) (each before r rest is passes) in
      let next : AllPass empty_graph script (before ++ r ∷ []) = all-pass-append script before (r ∷ []) empty_graph passes (here, tt) in
      (here, subst (λ (graph : PlainGraph). AllPass graph script rest) (after-append script before (r ∷ []) empty_graph) (all-from (before ++ r ∷ []) rest (is ∙ append-step before r rest) next))

  -- the listed requests pass, one after another
  pub all-pass : AllPass empty_graph script report.order
  all-pass = all-from [] report.order refl tt
