-- One script of two sessions, run three ways: one transaction creates a vertex, and the other sets a property of it.
-- Used by nothing: worked examples.
use Rattle.std.proofs.Common.{◌≡◌, ℕ, Bool, true, false, List, [], ◌∷◌, refl, ap, Ok, Err}
use Rattle.vector_stamp.specs.declared.clock.Stamp.{Stamp}
use Rattle.vector_stamp.specs.Precedence.{ByStamps}
use Rattle.graph_ops.specs.declared.op.Op.TheVariants.{Create, Set}
use Rattle.graph_ops.specs.declared.op.Reason.TheVariants.{Exists, Missing}
use Rattle.graph_ops.specs.PlainGraph.{TxOutcome}
use Rattle.program_defs.specs.declared.script.Script.{Script}
use Rattle.report_rules.specs.declared.report.Report.{Report}
use Rattle.report_rules.specs.declared.report.Pair.{Pair}
use Rattle.report_rules.specs.declared.report.ReplyState.{ReplyState}
use Rattle.report_rules.specs.declared.report.ReplyState.TheVariants.{Committed, Conflict, Refused}
use Rattle.report_rules.specs.declared.report.Clause.TheVariants.{I, Ii, Iii, V, Vi, Vii, Viii}
use Rattle.report_rules.specs.RightReport.{IsRightReport, BreaksFirst}
use Rattle.report_rules.specs.ReportOf.{IsReportOf}
use Rattle.report_rules.proofs.Precedence.{IsDecided, way, no_way}
use Rattle.report_rules.proofs.Examples.{stamp, transaction, script_of, reply, settled, report_of, t1, t2, v, w, k, x}

module _ (decided : IsDecided) where
  abbrev script : Script
  script = script_of 2 (transaction t1 0 0 (Create v ∷ []) ∷ transaction t2 1 1 (Set v k x ∷ []) ∷ [])

  abbrev s10 : Stamp
  s10 = stamp 0 (1 ∷ 0 ∷ [])

  abbrev s01 : Stamp
  s01 = stamp 1 (0 ∷ 1 ∷ [])

  -- Both commit, and the oracle puts the first before the second

  abbrev settled_report : List Pair → List ℕ → Report
  settled_report pairs order = report_of (reply 0 s10 (Committed 1 []) ∷ reply 1 s01 (Committed 2 []) ∷ []) pairs order

  abbrev both_committed : Report
  both_committed = settled_report (settled v 0 1 ∷ []) (0 ∷ 1 ∷ [])

  -- the report with both committed, the first before the second in a pair and in the order, is right
  pub right : IsRightReport script both_committed
  right = (
    (refl, (refl, (refl, tt))),
    (
      (refl, (refl, (refl, tt))),
      (
        ((((no_way decided) _ _ _ refl, tt), refl), ((((no_way decided) _ _ _ refl, ((no_way decided) _ _ _ refl, tt)), refl), tt)),
        ((refl, (refl, tt)), (((refl, refl, refl), tt), ((tt, (tt, tt)), ((tt, (tt, tt)), ((refl, (refl, tt)), tt))))),
      ),
    ),
  )

  -- and it is a report of the script
  pub of_the_script : IsReportOf script both_committed
  of_the_script = record { replies = ((refl, refl), ((refl, refl), tt)); pairs = (refl, tt); order = (refl, (refl, tt)) }

  -- the report without the pair, in the same order, is right too
  pub right_without_pair : IsRightReport script (settled_report [] (0 ∷ 1 ∷ []))
  right_without_pair = (
    (refl, (refl, (refl, tt))),
    (
      (refl, (refl, (refl, tt))),
      (
        ((((no_way decided) _ _ _ refl, tt), refl), ((((no_way decided) _ _ _ refl, ((no_way decided) _ _ _ refl, tt)), refl), tt)),
        ((refl, (refl, tt)), (tt, ((tt, (tt, tt)), ((tt, (tt, tt)), ((refl, (refl, tt)), tt))))),
      ),
    ),
  )

  -- the order is turned round: order, 2
  pub turned_round : BreaksFirst script (settled_report (settled v 0 1 ∷ []) (1 ∷ 0 ∷ [])) Iii 2
  turned_round = (
    ((refl, (refl, (refl, tt))), ((refl, (refl, (refl, tt))), tt)),
    ((((no_way decided) _ _ _ refl, tt), refl), λ fact. fact.0.1.0 ((way decided) _ _ _ refl)),
  )

  -- the pair is of a vertex that neither names: pairs, 1
  pub pair_elsewhere : BreaksFirst script (settled_report (settled w 0 1 ∷ []) (0 ∷ 1 ∷ [])) V 1
  pair_elsewhere = (
    (
      (refl, (refl, (refl, tt))),
      (
        (refl, (refl, (refl, tt))),
        (
          ((((no_way decided) _ _ _ refl, tt), refl), ((((no_way decided) _ _ _ refl, ((no_way decided) _ _ _ refl, tt)), refl), tt)),
          ((refl, (refl, tt)), tt),
        ),
      ),
    ),
    λ fact. let h = fact.1 in cc,
  )

  -- a committed transaction isn't listed: listing, 2
  pub not_listed : BreaksFirst script (settled_report [] (0 ∷ [])) Ii 2
  not_listed = (((refl, (refl, (refl, tt))), tt), (refl, λ fact. cc))

  -- one is listed twice: listing, 2
  pub listed_twice : BreaksFirst script (settled_report [] (0 ∷ 0 ∷ [])) Ii 2
  listed_twice = (((refl, (refl, (refl, tt))), tt), (refl, λ fact. cc))

  -- the second stamp has the first one's home: replies, 2
  abbrev of_home_0 : Report
  of_home_0 = report_of (reply 0 s10 (Committed 1 []) ∷ reply 1 (stamp 0 (0 ∷ 1 ∷ [])) (Committed 2 []) ∷ []) (settled v 0 1 ∷ []) (0 ∷ 1 ∷ [])

  -- the report with such a second stamp breaks first in its replies, at 2
  pub another_home : BreaksFirst script of_home_0 I 2
  another_home = (tt, (refl, λ fact. cc))

  -- the last reply is missing: replies, 2
  pub line_missing : BreaksFirst script (report_of (reply 0 s10 (Committed 1 []) ∷ []) [] (0 ∷ [])) I 2
  line_missing = (tt, (refl, λ fact. cc))

  -- one number is used twice: numbers, 2
  abbrev numbered_twice : Report
  numbered_twice = report_of (reply 0 s10 (Committed 1 []) ∷ reply 1 s01 (Committed 1 []) ∷ []) (settled v 0 1 ∷ []) (0 ∷ 1 ∷ [])

  -- the report with a number used twice breaks first in its numbers, at 2
  pub number_twice : BreaksFirst script numbered_twice Viii 2
  number_twice = (
    (
      (refl, (refl, (refl, tt))),
      (
        (refl, (refl, (refl, tt))),
        (
          ((((no_way decided) _ _ _ refl, tt), refl), ((((no_way decided) _ _ _ refl, ((no_way decided) _ _ _ refl, tt)), refl), tt)),
          ((refl, (refl, tt)), (((refl, refl, refl), tt), ((tt, (tt, tt)), ((tt, (tt, tt)), tt)))),
        ),
      ),
    ),
    (refl, λ fact. cc),
  )

  -- The second runs first, and is refused

  abbrev refused_report : ReplyState → List ℕ → Report
  refused_report state order = report_of (reply 0 s10 (Committed 1 []) ∷ reply 1 s01 state ∷ []) [] order

  -- the report where the second is refused before any commit, since the vertex is missing, is right
  pub right_refusal : IsRightReport script (refused_report (Refused 1 Missing 0) (0 ∷ []))
  right_refusal = (
    (refl, (refl, (refl, tt))),
    (
      (refl, (refl, tt)),
      (
        ((((no_way decided) _ _ _ refl, tt), refl), tt),
        ((refl, tt), (tt, ((tt, (tt, tt)), ((tt, ((refl, refl), tt)), ((refl, (refl, tt)), tt))))),
      ),
    ),
  )

  -- and it is a report of the script
  pub refusal_of_the_script : IsReportOf script (refused_report (Refused 1 Missing 0) (0 ∷ []))
  refusal_of_the_script = record { replies = ((refl, refl), ((refl, tt), tt)); pairs = tt; order = (refl, tt) }

  -- the refused one is listed: listing, 2
  pub refused_listed : BreaksFirst script (refused_report (Refused 1 Missing 0) (0 ∷ 1 ∷ [])) Ii 2
  refused_listed = (((refl, (refl, (refl, tt))), tt), (refl, λ fact. cc))

  is_missing : TxOutcome → Bool
  is_missing (Ok passed) = false
  is_missing (Err stopped) = elim stopped.reason [ Missing ↦ true | _ ↦ false ]

  -- the report that gives another reason for the refusal breaks refusals, 2
  pub another_reason : BreaksFirst script (refused_report (Refused 1 Exists 0) (0 ∷ [])) Vii 2
  unfolding is_missing
  another_reason = (
    ((refl, (refl, (refl, tt))), ((refl, (refl, tt)), (((((no_way decided) _ _ _ refl, tt), refl), tt), ((refl, tt), (tt, ((tt, (tt, tt)), tt)))))),
    (tt, λ fact. let h : true ≡ false = ap is_missing fact.1 in cc),
  )

  -- refused after more commits than there are: refusals, 2
  pub refused_too_late : BreaksFirst script (refused_report (Refused 1 Missing 2) (0 ∷ [])) Vii 2
  refused_too_late = (
    ((refl, (refl, (refl, tt))), ((refl, (refl, tt)), (((((no_way decided) _ _ _ refl, tt), refl), tt), ((refl, tt), (tt, ((tt, (tt, tt)), tt)))))),
    (tt, λ fact. let h = fact.0 in cc),
  )

  -- The first hears of the second, which reaches the store later

  abbrev conflict_report : ℕ → Report
  conflict_report newer = report_of (reply 0 (stamp 0 (1 ∷ 1 ∷ [])) (Committed 1 []) ∷ reply 1 s01 (Conflict v newer) ∷ []) [] (0 ∷ [])

  -- the report where the second is aborted by a conflict with the first, which is committed, is right
  pub right_conflict : IsRightReport script (conflict_report 0)
  right_conflict = (
    (refl, (refl, (refl, tt))),
    (
      (refl, (refl, tt)),
      (
        ((((no_way decided) _ _ _ refl, tt), refl), tt),
        ((refl, tt), (tt, ((tt, ((refl, ByStamps _ _ refl), tt)), ((tt, (tt, tt)), ((refl, (refl, tt)), tt))))),
      ),
    ),
  )

  -- and it is a report of the script
  pub conflict_of_the_script : IsReportOf script (conflict_report 0)
  conflict_of_the_script = record { replies = ((refl, refl), ((refl, refl), tt)); pairs = tt; order = (refl, tt) }

  -- a conflict with itself: conflicts, 2
  pub conflict_with_itself : BreaksFirst script (conflict_report 1) Vi 2
  conflict_with_itself = (
    ((refl, (refl, (refl, tt))), ((refl, (refl, tt)), (((((no_way decided) _ _ _ refl, tt), refl), tt), ((refl, tt), (tt, tt))))),
    (tt, λ fact. let h = fact.0 in cc),
  )
