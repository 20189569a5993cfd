-- A finished program answers in its place in the printed order as its reply says, from states that were read there. It
-- rests on the clauses on shards, channels and programs and, for transactions, on that on the store.
-- Used by Meeting and RightReport.
use Rattle.std.proofs.Common.{◌≡◌, ℕ, not, List, ◌∷◌, ◌++◌, IsTrue, Some, None, inl, inr, sym, subst}
use Rattle.std.specs.Map.{keys_of}
use Rattle.weave_data.proofs.Members.{find_lacks}
use Rattle.weave_data.specs.declared.name.Name.{Name}
use Rattle.graph_ops.specs.Mentions.{is_among}
use Rattle.graph_ops.specs.Operations.{State}
use Rattle.graph_ops.specs.PlainGraph.{empty_graph}
use Rattle.program_defs.specs.declared.program.Program.{Program}
use Rattle.program_defs.specs.declared.script.Request.{Request}
use Rattle.program_defs.specs.declared.script.Script.{Script}
use Rattle.program_defs.specs.PlainAnswer.{IsPlainAnswer}
use Rattle.program_defs.specs.Visits.{graph_read, next_visit}
use Rattle.report_rules.specs.declared.report.Reply.{Reply}
use Rattle.report_rules.specs.declared.report.Report.{Report}
use Rattle.weave_data.specs.Facts.{AllHold}
use Rattle.report_rules.specs.Replay.{AnswerMatchesReply, MatchesReply}
use Rattle.report_rules.specs.RightReport as right
use Rattle.report_rules.specs.Lookups.{is_in, AreBoth, reply_at}
use Rattle.weave_account.specs.declared.account.Account.{Account}
use Rattle.weave_account.specs.Account.{reads_of}
use Rattle.weave_account.proofs.Replaying.{graph_after_all, AllPass}
use Rattle.weave_account.specs.Report.{IsReportOfAccount}
use Rattle.weave_account.proofs.Listed.{IsListedProgram, listed-is}
use Rattle.weave_account.proofs.Printing.{order-has}
use Rattle.weave_account.proofs.ReadingPlace.{read-at-place}
use Rattle.weave_account.proofs.ReplayInTurn.{ComesToReply, replay-clause}
use Rattle.weave_data.proofs.Numbers.{in-head, in-append_right}
use Rattle.weave_account.proofs.Transactions.{tx-comes}
use Rattle.weave_account.proofs.Basis.{Basis}
use Rattle.weave_account.proofs.Ready.{not-not}
use Rattle.program_defs.specs.Agreement.{AgreeOnVisits}
use Rattle.weave_account.specs.LowerLaws.{LawsForAccounts}
use Rattle.weave_account.specs.Programs.{visits_over}

-- if no visit comes next, each vertex of the list of visits was read
pub all-read : LawsForAccounts → (reads : List (Name × State)) (program : Program) → next_visit reads program ≡ None → (v : Name)
    → IsTrue (is_among (visits_over reads program) v) → IsTrue (is_among (keys_of reads) v)
all-read laws reads program none v visited =
    not-not (is_among (keys_of reads) v)
    (find_lacks (λ w. not (is_among (keys_of reads) w)) (visits_over reads program) v none ((laws.named_among (visits_over reads program) v).0 visited))

module _ (script : Script) (account : Account) (basis : Basis script account) (report : Report) (reported : IsReportOfAccount script account report) where
  -- the graph that a finished program read agrees with the graph at its place on all that it visits
  pub reads-agree : (before : List ℕ) (p : ℕ) (after : List ℕ) → report.order ≡ before ++ p ∷ after
      → AllPass empty_graph script before → (program : IsListedProgram script account report p)
      → AgreeOnVisits (graph_read (reads_of account p)) (graph_after_all empty_graph script before) program.program
  reads-agree before p after is passes program v visited =
      let turn = basis.is.programs p program.request program.program program.request_is program.work in
      read-at-place script account basis report reported p before after is passes v
      (all-read basis.laws (reads_of account p) program.program (turn.whole (program.matched).0) v ((basis.laws.visits_whole (reads_of account p) program.program).whole v visited))

  -- a listed program results in its reply on the graph at its place
  pub program-comes : (before : List ℕ) (p : ℕ) (after : List ℕ) → report.order ≡ before ++ p ∷ after
      → AllPass empty_graph script before → IsListedProgram script account report p
      → ComesToReply script report (graph_after_all empty_graph script before) p
  program-comes before p after is passes program =
      let answers : IsPlainAnswer (graph_after_all empty_graph script before) program.program program.answer =
      basis.laws.answers_alike (graph_read (reads_of account p)) (graph_after_all empty_graph script before) program.program
      (reads-agree before p after is passes program) program.answer (program.matched).1 in
      subst (λ q. AreBoth (λ (request : Request) (reply : Reply). MatchesReply (graph_after_all empty_graph script before) request.work reply.state) q (reply_at report p))
      (sym program.request_is)
      (subst (λ e. AreBoth (λ (request : Request) (reply : Reply). MatchesReply (graph_after_all empty_graph script before) request.work reply.state) (Some program.request) e) (sym program.reply_is)
      (subst (λ w. MatchesReply (graph_after_all empty_graph script before) w (program.reply).state) (sym program.work)
      (subst (λ s. AnswerMatchesReply (graph_after_all empty_graph script before) program.program s) (sym program.state) answers)))

  -- each request in the printed order results in its reply, if all before it pass
  pub each-comes : (before : List ℕ) (r : ℕ) (after : List ℕ) → report.order ≡ before ++ r ∷ after
      → AllPass empty_graph script before → ComesToReply script report (graph_after_all empty_graph script before) r
  each-comes before r after is passes =
      elim (listed-is script account report reported.matches r (order-has report report.order reported.order r (subst (λ xs. IsTrue (is_in r xs)) (sym is) (in-append_right r before (r ∷ after) (in-head r after)))).1) [
        | inl tx ↦ tx-comes script account basis report reported before r after is passes tx
        | inr program ↦ program-comes before r after is passes program
      ]

  -- the report of an account satisfies the clause on replay
  pub replay : AllHold (right.replay_clause script report)
  replay = replay-clause script report each-comes
