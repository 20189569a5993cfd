-- Reports with one thing wrong: a commit numbered 0, a pair of ordered stamps, a conflict at a vertex that the aborted
-- request doesn't name. And the printed order of two requests that nothing orders.
-- Used by nothing: worked examples.
use Rattle.std.proofs.Common.{[], ◌∷◌, refl, arith}
use Rattle.vector_stamp.specs.declared.clock.Stamp.{Stamp}
use Rattle.graph_ops.specs.declared.op.Op.TheVariants.{Create, Set}
use Rattle.program_defs.specs.declared.script.Script.{Script}
use Rattle.report_rules.specs.declared.report.Report.{Report}
use Rattle.report_rules.specs.declared.report.ReplyState.TheVariants.{Committed, Conflict}
use Rattle.report_rules.specs.declared.report.Clause.TheVariants.{V, Vi, Viii}
use Rattle.report_rules.specs.RightReport.{BreaksFirst}
use Rattle.report_rules.specs.PrintedOrder.{IsPrintedOrder}
use Rattle.report_rules.proofs.Precedence.{IsDecided, no_way}
use Rattle.report_rules.proofs.Examples.{stamp, transaction, script_of, reply, settled, report_of, t1, t2, v, w, k, x}

module _ (decided : IsDecided) where
  abbrev s10 : Stamp
  s10 = stamp 0 (1 ∷ 0 ∷ [])

  abbrev s01 : Stamp
  s01 = stamp 1 (0 ∷ 1 ∷ [])

  abbrev s11 : Stamp
  s11 = stamp 1 (1 ∷ 1 ∷ [])

  -- two sessions at two gatekeepers: the first transaction creates v, and the second one w
  abbrev apart : Script
  apart = script_of 2 (transaction t1 0 0 (Create v ∷ []) ∷ transaction t2 1 1 (Create w ∷ []) ∷ [])

  -- the first transaction creates v, and the second one sets a property of it
  abbrev joint : Script
  joint = script_of 2 (transaction t1 0 0 (Create v ∷ []) ∷ transaction t2 1 1 (Set v k x ∷ []) ∷ [])

  -- the only commit has number 0: numbers, 1
  pub number_0 : BreaksFirst (script_of 1 (transaction t1 0 0 (Create v ∷ []) ∷ [])) (report_of (reply 0 (stamp 0 (1 ∷ [])) (Committed 0 []) ∷ []) [] (0 ∷ [])) Viii 1
  number_0 = (
    (
      (refl, (refl, tt)),
      (
        (refl, (refl, tt)),
        (((((no_way decided) _ _ _ refl, tt), refl), tt), ((refl, tt), (tt, ((tt, tt), ((tt, tt), tt))))),
      ),
    ),
    λ fact. cc,
  )

  -- a pair of two requests whose stamps are ordered already: pairs, 1
  pub pair_of_ordered : BreaksFirst joint (report_of (reply 0 s10 (Committed 1 []) ∷ reply 1 s11 (Committed 2 []) ∷ []) (settled v 0 1 ∷ []) (0 ∷ 1 ∷ [])) V 1
  pair_of_ordered = (
    (
      (refl, (refl, (refl, tt))),
      (
        (refl, (refl, (refl, tt))),
        (
          ((((no_way decided) _ _ _ refl, tt), refl), ((((no_way decided) _ _ _ refl, ((no_way decided) _ _ _ refl, tt)), refl), tt)),
          ((refl, (refl, tt)), tt),
        ),
      ),
    ),
    λ fact. let h = fact.0 in cc,
  )

  -- the aborted request precedes the committed one, which names v, but names another vertex itself: conflicts, 2
  pub conflict_elsewhere : BreaksFirst apart (report_of (reply 0 (stamp 0 (1 ∷ 1 ∷ [])) (Committed 1 []) ∷ reply 1 s01 (Conflict v 0) ∷ []) [] (0 ∷ [])) Vi 2
  conflict_elsewhere = (
    (
      (refl, (refl, (refl, tt))),
      (
        (refl, (refl, tt)),
        (((((no_way decided) _ _ _ refl, tt), refl), tt), ((refl, tt), (tt, tt))),
      ),
    ),
    (tt, λ fact. let h = fact.0 in cc),
  )

  abbrev both_committed : Report
  both_committed = report_of (reply 0 s10 (Committed 1 []) ∷ reply 1 s01 (Committed 2 []) ∷ []) [] (0 ∷ 1 ∷ [])

  -- of two requests that nothing orders, the printed order has the one of the lesser home first
  pub lesser_home_first : IsPrintedOrder both_committed (0 ∷ 1 ∷ [])
  lesser_home_first =
      record {
        taken = 0 ∷ 1 ∷ [];
        in_turn = (
          record {
            remains = refl;
            free = ((no_way decided) _ _ _ refl, ((no_way decided) _ _ _ refl, tt));
            least = ((λ other free. cc), ((λ other free. omega arith), tt));
          },
          (
            record {
              remains = refl;
              free = ((no_way decided) _ _ _ refl, tt);
              least = ((λ other free. cc), tt);
            },
            refl,
          ),
        );
        listed = refl;
      }
