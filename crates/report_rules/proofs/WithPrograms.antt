-- Programs among transactions, and raised epochs.
-- Used by nothing: worked examples.
use Rattle.std.proofs.Common.{ℕ, ◌&&◌, true, false, List, [], ◌∷◌, IsTrue, refl, subst, Option, Some, None}
use Rattle.std.specs.Prelude.{codes, is_some}
use Rattle.std.proofs.lemmas.Bool.{and_parts}
use Rattle.weave_data.specs.Names.{same_name, one_name}
use Rattle.weave_data.specs.declared.name.Name.{Name}
use Rattle.graph_ops.specs.Mentions.{is_among}
use Rattle.graph_ops.specs.PlainGraph.{PlainGraph, empty_graph}
use Rattle.graph_ops.specs.declared.op.Op.TheVariants.{Create, Delete, Set, Link}
use Rattle.program_defs.specs.declared.passing.Passing.{Passing}
use Rattle.program_defs.specs.declared.passing.Passing.TheVariants.{Every}
use Rattle.program_defs.specs.declared.program.Program.TheVariants.{Show, Reach}
use Rattle.program_defs.specs.declared.program.Answer.TheVariants.{Shown, Reached}
use Rattle.program_defs.specs.declared.script.Script.{Script}
use Rattle.program_defs.specs.Walks.{is_walk, targets}
use Rattle.report_rules.specs.declared.report.Report.{Report}
use Rattle.report_rules.specs.declared.report.ReplyState.TheVariants.{Committed, Finished}
use Rattle.report_rules.specs.Lookups.{request_at}
use Rattle.report_rules.specs.Replay.{graph_after}
use Rattle.report_rules.specs.RightReport.{IsRightReport, BreaksFirst}
use Rattle.report_rules.specs.declared.report.Clause.TheVariants.{I}
use Rattle.report_rules.specs.ReportOf.{IsReportOf}
use Rattle.report_rules.proofs.Precedence.{IsDecided, no_way}
use Rattle.report_rules.proofs.Examples.{stamp, stamp_in, transaction, look, script_of, reply, settled, report_of, empty_record, t1, t2, v, w, k, x}

-- a walk's end is there
end_present : (graph : PlainGraph) (pass : Passing) (from to : Name) (walk : List Name) → IsTrue (is_walk graph pass from to walk) → IsTrue (is_some (graph to))
end_present graph pass from to [] h = cc
end_present graph pass from to (v ∷ []) h =
    let all = and_parts (same_name from v && is_some (graph v)) _ h in
    let two = and_parts (same_name from v) _ all.0 in
    subst (λ x. IsTrue (is_some (graph x))) (one_name v to all.1) two.1
end_present graph pass from to (v ∷ w ∷ rest) h =
    end_present graph pass w to (w ∷ rest) (and_parts (same_name from v && is_some (graph v) && is_among (targets pass (graph v)) w) _ h).1

module _ (decided : IsDecided) where
  -- An unordered write is seen, a later one is not

  abbrev between_script : Script
  between_script = script_of 2 (transaction t1 0 1 (Create v ∷ []) ∷ look (codes "p") 1 0 (Show v) ∷ transaction t2 0 1 (Set v k x ∷ []) ∷ [])

  abbrev between_report : Report
  between_report =
      report_of
      (reply 0 (stamp 1 (0 ∷ 1 ∷ [])) (Committed 1 [])
      ∷ reply 1 (stamp 0 (1 ∷ 0 ∷ [])) (Finished (Shown (Some empty_record)))
      ∷ reply 2 (stamp 1 (1 ∷ 2 ∷ [])) (Committed 2 [])
      ∷ [])
      (settled v 0 1 ∷ []) (0 ∷ 1 ∷ 2 ∷ [])

  -- the report where the program shows the vertex, but not the property that the later transaction sets, is right
  pub program_between_writes : IsRightReport between_script between_report
  program_between_writes = (
    (refl, (refl, (refl, (refl, tt)))),
    (
      (refl, (refl, (refl, (refl, tt)))),
      (
        (
          (((no_way decided) _ _ _ refl, tt), refl),
          (
            (((no_way decided) _ _ _ refl, ((no_way decided) _ _ _ refl, tt)), refl),
            ((((no_way decided) _ _ _ refl, ((no_way decided) _ _ _ refl, ((no_way decided) _ _ _ refl, tt))), refl), tt),
          ),
        ),
        ((refl, (refl, (refl, tt))), (((refl, refl, (0, refl)), tt), ((tt, (tt, (tt, tt))), ((tt, (tt, (tt, tt))), ((refl, (refl, (refl, tt))), tt))))),
      ),
    ),
  )

  -- and it is a report of the script
  pub between_of_the_script : IsReportOf between_script between_report
  between_of_the_script = record { replies = ((refl, refl), ((refl, refl), ((refl, refl), tt))); pairs = (refl, tt); order = (refl, (refl, (refl, tt))) }

  -- A session keeps its order: the program's gatekeeper heard the transaction's stamp

  abbrev session_script : Script
  session_script = script_of 2 (transaction t1 0 0 (Create v ∷ []) ∷ look (codes "p") 0 1 (Show v) ∷ [])

  abbrev session_report : List ℕ → Report
  session_report counts = report_of (reply 0 (stamp 0 (1 ∷ 0 ∷ [])) (Committed 1 []) ∷ reply 1 (stamp 1 counts) (Finished (Shown (Some empty_record))) ∷ []) [] (0 ∷ 1 ∷ [])

  -- the report where the program's stamp is after the transaction's, and it shows the vertex, is right
  pub session_in_order : IsRightReport session_script (session_report (1 ∷ 1 ∷ []))
  session_in_order = (
    (refl, (refl, (refl, tt))),
    (
      (refl, (refl, (refl, tt))),
      (
        ((((no_way decided) _ _ _ refl, tt), refl), ((((no_way decided) _ _ _ refl, ((no_way decided) _ _ _ refl, tt)), refl), tt)),
        ((refl, (refl, tt)), (tt, ((tt, (tt, tt)), ((tt, (tt, tt)), ((refl, (refl, tt)), tt))))),
      ),
    ),
  )

  -- the report where the program's stamp isn't after the transaction's breaks replies, 2
  pub session_not_heard : BreaksFirst session_script (session_report (0 ∷ 1 ∷ [])) I 2
  session_not_heard = (tt, (refl, λ fact. cc))

  -- A program before both writes

  abbrev first_script : Script
  first_script = script_of 2 (look (codes "p") 0 0 (Show v) ∷ transaction t1 1 0 (Create v ∷ []) ∷ transaction t2 2 1 (Set v k x ∷ []) ∷ [])

  abbrev first_report : Report
  first_report =
      report_of
      (reply 0 (stamp 0 (1 ∷ 0 ∷ [])) (Finished (Shown None)) ∷ reply 1 (stamp 0 (3 ∷ 0 ∷ [])) (Committed 1 []) ∷ reply 2 (stamp 1 (1 ∷ 1 ∷ [])) (Committed 2 []) ∷ [])
      (settled v 1 2 ∷ []) (0 ∷ 1 ∷ 2 ∷ [])

  -- the report where the program, before both writes, shows no vertex is right
  pub program_before_writes : IsRightReport first_script first_report
  program_before_writes = (
    (refl, (refl, (refl, (refl, tt)))),
    (
      (refl, (refl, (refl, (refl, tt)))),
      (
        (
          (((no_way decided) _ _ _ refl, tt), refl),
          (
            (((no_way decided) _ _ _ refl, ((no_way decided) _ _ _ refl, tt)), refl),
            ((((no_way decided) _ _ _ refl, ((no_way decided) _ _ _ refl, ((no_way decided) _ _ _ refl, tt))), refl), tt),
          ),
        ),
        ((refl, (refl, (refl, tt))), (((refl, refl, refl), tt), ((tt, (tt, (tt, tt))), ((tt, (tt, (tt, tt))), ((refl, (refl, (refl, tt))), tt))))),
      ),
    ),
  )

  -- A dangling edge: it passes, and its target isn't there

  abbrev a : Name
  a = codes "a"

  abbrev b : Name
  b = codes "b"

  abbrev dangling_script : Script
  dangling_script =
      script_of 1
      (transaction t1 0 0 (Create a ∷ Link a (codes "e") b ∷ [])
      ∷ look (codes "p1") 1 0 (Reach a b None)
      ∷ transaction t2 0 0 (Create b ∷ [])
      ∷ look (codes "p2") 1 0 (Reach a b None)
      ∷ [])

  abbrev dangling_report : Report
  dangling_report =
      report_of
      (reply 0 (stamp 0 (1 ∷ [])) (Committed 1 [])
      ∷ reply 1 (stamp 0 (2 ∷ [])) (Finished (Reached false))
      ∷ reply 2 (stamp 0 (3 ∷ [])) (Committed 2 [])
      ∷ reply 3 (stamp 0 (5 ∷ [])) (Finished (Reached true))
      ∷ [])
      [] (0 ∷ 1 ∷ 2 ∷ 3 ∷ [])

  -- the report where the first program doesn't reach the target, and the one after its creation does, is right
  pub dangling_edge : IsRightReport dangling_script dangling_report
  dangling_edge = (
    (refl, (refl, (refl, (refl, (refl, tt))))),
    (
      (refl, (refl, (refl, (refl, (refl, tt))))),
      (
        (
          (((no_way decided) _ _ _ refl, tt), refl),
          (
            (((no_way decided) _ _ _ refl, ((no_way decided) _ _ _ refl, tt)), refl),
            (
              (((no_way decided) _ _ _ refl, ((no_way decided) _ _ _ refl, ((no_way decided) _ _ _ refl, tt))), refl),
              ((((no_way decided) _ _ _ refl, ((no_way decided) _ _ _ refl, ((no_way decided) _ _ _ refl, ((no_way decided) _ _ _ refl, tt)))), refl), tt),
            ),
          ),
        ),
        (
          (refl, ((λ h. cc, λ h. absurd (gone h.0 h.1)), (refl, ((λ h. (a ∷ b ∷ [], refl), λ h. refl), tt)))),
          (tt, ((tt, (tt, (tt, (tt, tt)))), ((tt, (tt, (tt, (tt, tt)))), ((refl, (refl, (refl, (refl, tt)))), tt)))),
        ),
      ),
    ),
  )
    where
      graph : PlainGraph
      graph = graph_after empty_graph (request_at dangling_script 0)

      gone : (walk : List Name) → ¬ IsTrue (is_walk graph Every a b walk)
      gone walk h = let there = end_present graph Every a b walk h in cc

  -- A program reads the state before a later deletion

  abbrev collected_script : Script
  collected_script =
      script_of 1
      (transaction t1 0 0 (Create v ∷ Link v (codes "e") w ∷ Create w ∷ [])
      ∷ look (codes "p") 1 0 (Reach v w None)
      ∷ transaction t2 0 0 (Delete w ∷ [])
      ∷ [])

  abbrev collected_report : Report
  collected_report =
      report_of
      (reply 0 (stamp 0 (1 ∷ [])) (Committed 1 []) ∷ reply 1 (stamp 0 (2 ∷ [])) (Finished (Reached true)) ∷ reply 2 (stamp 0 (3 ∷ [])) (Committed 2 []) ∷ [])
      [] (0 ∷ 1 ∷ 2 ∷ [])

  -- the report where the program reaches the vertex that a later transaction deletes is right
  pub before_a_deletion : IsRightReport collected_script collected_report
  before_a_deletion = (
    (refl, (refl, (refl, (refl, tt)))),
    (
      (refl, (refl, (refl, (refl, tt)))),
      (
        (
          (((no_way decided) _ _ _ refl, tt), refl),
          (
            (((no_way decided) _ _ _ refl, ((no_way decided) _ _ _ refl, tt)), refl),
            ((((no_way decided) _ _ _ refl, ((no_way decided) _ _ _ refl, ((no_way decided) _ _ _ refl, tt))), refl), tt),
          ),
        ),
        ((refl, ((λ h. (v ∷ w ∷ [], refl), λ h. refl), (refl, tt))), (tt, ((tt, (tt, (tt, tt))), ((tt, (tt, (tt, tt))), ((refl, (refl, (refl, tt))), tt))))),
      ),
    ),
  )

  -- Raised epochs: the later transaction's gatekeeper hears of the epoch

  abbrev epoch_script : Script
  epoch_script = script_of 2 (transaction t1 0 0 (Create v ∷ []) ∷ transaction t2 0 1 (Set v k x ∷ []) ∷ [])

  abbrev epoch_report : Report
  epoch_report = report_of (reply 0 (stamp_in 1 0 (1 ∷ 0 ∷ [])) (Committed 1 []) ∷ reply 1 (stamp_in 1 1 (1 ∷ 1 ∷ [])) (Committed 2 []) ∷ []) [] (0 ∷ 1 ∷ [])

  -- the report where both transactions are committed with stamps of the raised epoch is right
  pub raised_epoch : IsRightReport epoch_script epoch_report
  raised_epoch = (
    (refl, (refl, (refl, tt))),
    (
      (refl, (refl, (refl, tt))),
      (
        ((((no_way decided) _ _ _ refl, tt), refl), ((((no_way decided) _ _ _ refl, ((no_way decided) _ _ _ refl, tt)), refl), tt)),
        ((refl, (refl, tt)), (tt, ((tt, (tt, tt)), ((tt, (tt, tt)), ((refl, (refl, tt)), tt))))),
      ),
    ),
  )
