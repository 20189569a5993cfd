-- Three gatekeepers: a conflict through a path, a pair that isn't kept, and no real time between sessions.
-- Used by nothing: worked examples.
use Rattle.std.proofs.Common.{[], ◌∷◌, refl, Some}
use Rattle.std.specs.Prelude.{codes}
use Rattle.graph_ops.specs.declared.op.Op.TheVariants.{Create, Get}
use Rattle.program_defs.specs.declared.script.Script.{Script}
use Rattle.report_rules.specs.declared.report.Report.{Report}
use Rattle.report_rules.specs.declared.report.ReplyState.TheVariants.{Committed, Conflict}
use Rattle.report_rules.specs.RightReport.{IsRightReport}
use Rattle.report_rules.specs.PrintedOrder.{IsPrintedOrder}
use Rattle.report_rules.specs.ReportOf.{IsReportOf}
use Rattle.report_rules.proofs.Precedence.{IsDecided, way, no_way}
use Rattle.report_rules.proofs.Examples.{stamp, transaction, script_of, reply, settled, report_of, empty_record, t1, t2, v, w, x}

module _ (decided : IsDecided) where
  -- A conflict through a path: z precedes x by its stamp, and x precedes y by a pair

  abbrev path_script : Script
  path_script =
      script_of 3 (transaction x 0 0 (Create w ∷ []) ∷ transaction (codes "y") 1 1 (Get w ∷ Create v ∷ []) ∷ transaction (codes "z") 2 2 (Get v ∷ []) ∷ [])

  abbrev path_report : Report
  path_report =
      report_of
      (reply 0 (stamp 0 (1 ∷ 0 ∷ 1 ∷ [])) (Committed 1 [])
      ∷ reply 1 (stamp 1 (0 ∷ 1 ∷ 0 ∷ [])) (Committed 2 (record { op = 1; state = Some empty_record } ∷ []))
      ∷ reply 2 (stamp 2 (0 ∷ 0 ∷ 1 ∷ [])) (Conflict v 1)
      ∷ [])
      (settled w 0 1 ∷ []) (0 ∷ 1 ∷ [])

  -- the report where z is aborted by a conflict with y, which it precedes through x, is right
  pub conflict_through_a_path : IsRightReport path_script path_report
  conflict_through_a_path = (
    (refl, (refl, (refl, (refl, tt)))),
    (
      (refl, (refl, (refl, tt))),
      (
        ((((no_way decided) _ _ _ refl, tt), refl), ((((no_way decided) _ _ _ refl, ((no_way decided) _ _ _ refl, tt)), refl), tt)),
        ((refl, (refl, tt)), (((refl, refl, refl), tt), ((tt, (tt, ((refl, (way decided) _ _ _ refl), tt))), ((tt, (tt, (tt, tt))), ((refl, (refl, (refl, tt))), tt))))),
      ),
    ),
  )

  -- and it is a report of the script
  pub path_report_of_script : IsReportOf path_script path_report
  path_report_of_script = record { replies = ((refl, refl), ((refl, refl), ((refl, refl), tt))); pairs = (refl, tt); order = (refl, (refl, tt)) }

  -- the printed order of this report is x, then y, without the aborted z
  pub printed_without_the_aborted : IsPrintedOrder path_report (0 ∷ 1 ∷ [])
  printed_without_the_aborted =
      record {
        taken = 2 ∷ 0 ∷ 1 ∷ [];
        in_turn = (
          record {
            remains = refl;
            free = ((no_way decided) _ _ _ refl, ((no_way decided) _ _ _ refl, ((no_way decided) _ _ _ refl, tt)));
            least = ((λ other free. absurd (free.1.1.0 ((way decided) _ _ _ refl))), ((λ other free. absurd (free.0 ((way decided) _ _ _ refl))), ((λ other free. cc), tt)));
          },
          (
            record {
              remains = refl;
              free = ((no_way decided) _ _ _ refl, ((no_way decided) _ _ _ refl, tt));
              least = ((λ other free. cc), ((λ other free. absurd (free.0 ((way decided) _ _ _ refl))), tt));
            },
            (
              record {
                remains = refl;
                free = ((no_way decided) _ _ _ refl, tt);
                least = ((λ other free. cc), tt);
              },
              refl,
            ),
          ),
        );
        listed = refl;
      }

  -- All or none: z names u too, where a pair of q and z would be permitted, and none is kept

  abbrev none_script : Script
  none_script =
      script_of 3
      (transaction x 0 0 (Create w ∷ [])
      ∷ transaction (codes "q") 1 1 (Create (codes "u") ∷ [])
      ∷ transaction (codes "y") 1 1 (Get w ∷ Create v ∷ [])
      ∷ transaction (codes "z") 2 2 (Get (codes "u") ∷ Get v ∷ [])
      ∷ [])

  abbrev none_report : Report
  none_report =
      report_of
      (reply 0 (stamp 0 (1 ∷ 0 ∷ 1 ∷ [])) (Committed 1 [])
      ∷ reply 1 (stamp 1 (0 ∷ 1 ∷ 0 ∷ [])) (Committed 2 [])
      ∷ reply 2 (stamp 1 (0 ∷ 2 ∷ 0 ∷ [])) (Committed 3 (record { op = 1; state = Some empty_record } ∷ []))
      ∷ reply 3 (stamp 2 (0 ∷ 0 ∷ 1 ∷ [])) (Conflict v 2)
      ∷ [])
      (settled w 0 2 ∷ []) (1 ∷ 0 ∷ 2 ∷ [])

  -- the report where z is aborted by a conflict with y, and no pair of q and z is there, is right
  pub all_or_none : IsRightReport none_script none_report
  all_or_none = (
    (refl, (refl, (refl, (refl, (refl, tt))))),
    (
      (refl, (refl, (refl, (refl, tt)))),
      (
        (
          (((no_way decided) _ _ _ refl, tt), refl),
          (
            (((no_way decided) _ _ _ refl, ((no_way decided) _ _ _ refl, tt)), refl),
            ((((no_way decided) _ _ _ refl, ((no_way decided) _ _ _ refl, ((no_way decided) _ _ _ refl, tt))), refl), tt),
          ),
        ),
        (
          (refl, (refl, (refl, tt))),
          (
            ((refl, refl, refl), tt),
            ((tt, (tt, (tt, ((refl, (way decided) _ _ _ refl), tt)))), ((tt, (tt, (tt, (tt, tt)))), ((refl, (refl, (refl, (refl, tt)))), tt))),
          ),
        ),
      ),
    ),
  )

  -- No real time: t1 has the lower commit number, and is listed after t2

  abbrev time_script : Script
  time_script =
      script_of 3
      (transaction t1 0 0 (Create (codes "a") ∷ []) ∷ transaction t2 1 2 (Create (codes "b") ∷ []) ∷ transaction (codes "z") 2 1 (Get (codes "b") ∷ []) ∷ [])

  abbrev time_report : Report
  time_report =
      report_of
      (reply 0 (stamp 0 (1 ∷ 1 ∷ 0 ∷ [])) (Committed 1 [])
      ∷ reply 1 (stamp 2 (0 ∷ 0 ∷ 1 ∷ [])) (Committed 2 [])
      ∷ reply 2 (stamp 1 (0 ∷ 1 ∷ 0 ∷ [])) (Committed 3 (record { op = 1; state = Some empty_record } ∷ []))
      ∷ [])
      (settled (codes "b") 1 2 ∷ []) (1 ∷ 2 ∷ 0 ∷ [])

  -- the report whose order lists t2, then z, and t1 last is right
  pub no_real_time : IsRightReport time_script time_report
  no_real_time = (
    (refl, (refl, (refl, (refl, tt)))),
    (
      (refl, (refl, (refl, (refl, tt)))),
      (
        (
          (((no_way decided) _ _ _ refl, tt), refl),
          (
            (((no_way decided) _ _ _ refl, ((no_way decided) _ _ _ refl, tt)), refl),
            ((((no_way decided) _ _ _ refl, ((no_way decided) _ _ _ refl, ((no_way decided) _ _ _ refl, tt))), refl), tt),
          ),
        ),
        ((refl, (refl, (refl, tt))), (((refl, refl, refl), tt), ((tt, (tt, (tt, tt))), ((tt, (tt, (tt, tt))), ((refl, (refl, (refl, tt))), tt))))),
      ),
    ),
  )

  -- the printed order of this report is t2, then z, and t1 last
  pub printed_without_real_time : IsPrintedOrder time_report (1 ∷ 2 ∷ 0 ∷ [])
  printed_without_real_time =
      record {
        taken = 1 ∷ 2 ∷ 0 ∷ [];
        in_turn = (
          record {
            remains = refl;
            free = ((no_way decided) _ _ _ refl, ((no_way decided) _ _ _ refl, ((no_way decided) _ _ _ refl, tt)));
            least = ((λ other free. absurd (free.1.0 ((way decided) _ _ _ refl))), ((λ other free. cc), ((λ other free. absurd (free.1.0 ((way decided) _ _ _ refl))), tt)));
          },
          (
            record {
              remains = refl;
              free = ((no_way decided) _ _ _ refl, ((no_way decided) _ _ _ refl, tt));
              least = ((λ other free. absurd (free.1.0 ((way decided) _ _ _ refl))), ((λ other free. cc), tt));
            },
            (
              record {
                remains = refl;
                free = ((no_way decided) _ _ _ refl, tt);
                least = ((λ other free. cc), tt);
              },
              refl,
            ),
          ),
        );
        listed = refl;
      }
