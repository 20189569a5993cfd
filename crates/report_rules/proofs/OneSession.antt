-- Two transactions of one session: one creates a vertex with a property, and the other reads it. And a script without
-- a request.
-- Used by nothing: worked examples.
use Rattle.std.proofs.Common.{◌≡◌, ℕ, Bool, true, false, List, [], ◌∷◌, refl, ap, Option, Some, None}
use Rattle.std.specs.Prelude.{codes, is_some}
use Rattle.graph_ops.specs.declared.op.Op.TheVariants.{Create, Set, Get}
use Rattle.graph_ops.specs.declared.record.Record.{Record}
use Rattle.graph_ops.specs.declared.tx.Got.{Got}
use Rattle.program_defs.specs.declared.script.Script.{Script}
use Rattle.report_rules.specs.declared.report.Report.{Report}
use Rattle.report_rules.specs.declared.report.ReplyState.TheVariants.{Committed, Conflict}
use Rattle.report_rules.specs.declared.report.Clause.TheVariants.{I, Ii, Iii, Iv, Vi}
use Rattle.weave_data.specs.Facts.{AllHold}
use Rattle.report_rules.specs.RightReport.{IsRightReport, BreaksFirst, facts_of}
use Rattle.report_rules.specs.PrintedOrder.{IsPrintedOrder}
use Rattle.report_rules.specs.ReportOf.{IsReportOf}
use Rattle.report_rules.proofs.Precedence.{IsDecided, no_way}
use Rattle.report_rules.proofs.Examples.{stamp, transaction, script_of, reply, report_of, t1, t2, v}

module _ (decided : IsDecided) where
  abbrev script : Script
  script = script_of 1 (transaction t1 0 0 (Create v ∷ Set v (codes "color") (codes "red") ∷ []) ∷ transaction t2 0 0 (Get v ∷ []) ∷ [])

  abbrev red : Record
  red = record { props = (codes "color", codes "red") ∷ []; edges = [] }

  -- the report, with these own counts of the two stamps and this state read
  abbrev report : ℕ → ℕ → Option Record → Report
  report one two state =
      report_of
      (reply 0 (stamp 0 (one ∷ [])) (Committed 1 []) ∷ reply 1 (stamp 0 (two ∷ [])) (Committed 2 (record { op = 1; state = state } ∷ [])) ∷ [])
      [] (0 ∷ 1 ∷ [])

  replies : (state : Option Record) → AllHold (facts_of script (report 1 2 state) I)
  replies state = (refl, (refl, (refl, tt)))

  listing : (state : Option Record) → AllHold (facts_of script (report 1 2 state) Ii)
  listing state = (refl, (refl, (refl, tt)))

  order : (state : Option Record) → AllHold (facts_of script (report 1 2 state) Iii)
  order state = ((((no_way decided) _ _ _ refl, tt), refl), ((((no_way decided) _ _ _ refl, ((no_way decided) _ _ _ refl, tt)), refl), tt))

  -- the report where the second transaction reads the vertex with its property is right
  pub right : IsRightReport script (report 1 2 (Some red))
  right = (replies (Some red), (listing (Some red), (order (Some red), ((refl, (refl, tt)), (tt, ((tt, (tt, tt)), ((tt, (tt, tt)), ((refl, (refl, tt)), tt))))))))

  -- and it is a report of the script
  pub of_the_script : IsReportOf script (report 1 2 (Some red))
  of_the_script = record { replies = ((refl, refl), ((refl, refl), tt)); pairs = tt; order = (refl, (refl, tt)) }

  first_there : List Got → Bool
  first_there [] = false
  first_there (got ∷ gots) = is_some got.state

  -- the vertex is read as absent: replay, 2
  pub another_answer : BreaksFirst script (report 1 2 None) Iv 2
  unfolding first_there
  another_answer = ((replies None, (listing None, (order None, tt))), (refl, λ e. let h : true ≡ false = ap first_there e in cc))

  -- the two stamps are exchanged: replies, 2
  pub stamps_exchanged : BreaksFirst script (report 2 1 (Some red)) I 2
  stamps_exchanged = (tt, (refl, λ fact. cc))

  -- a conflict within the session: conflicts, 1
  abbrev own_conflict : Report
  own_conflict =
      report_of
      (reply 0 (stamp 0 (1 ∷ [])) (Conflict v 1) ∷ reply 1 (stamp 0 (2 ∷ [])) (Committed 1 (record { op = 1; state = None } ∷ [])) ∷ [])
      [] (1 ∷ [])

  -- the report with a conflict within the session breaks first in its conflicts, at 1
  pub conflict_in_session : BreaksFirst script own_conflict Vi 1
  conflict_in_session = (
    ((refl, (refl, (refl, tt))), ((refl, (refl, tt)), (((((no_way decided) _ _ _ refl, tt), refl), tt), ((refl, tt), (tt, tt))))),
    λ fact. let h = fact.0 in cc,
  )

  -- No request at all

  -- the report without any reply, pair or order is right for the script without a request
  pub empty : IsRightReport (script_of 1 []) (report_of [] [] [])
  empty = ((refl, tt), ((refl, tt), (tt, (tt, (tt, (tt, (tt, (tt, tt))))))))

  -- and its printed order is the empty one
  pub empty_printed : IsPrintedOrder (report_of [] [] []) []
  empty_printed = record { taken = []; in_turn = refl; listed = refl }
