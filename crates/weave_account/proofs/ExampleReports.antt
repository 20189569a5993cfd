-- The reports of worked accounts, and reports that aren't theirs.
-- Used by nothing: worked examples.
use Rattle.std.proofs.Common.{◌≡◌, ℕ, false, List, [], ◌∷◌, Some, None, inl, inr, refl, true, arith}
use Rattle.std.proofs.lemmas.Bool.{both_ways}
use Rattle.vector_stamp.specs.declared.clock.Stamp.{Stamp}
use Rattle.vector_stamp.specs.Precedence.{GivenPair, Precedes, precedes}
use Rattle.std.proofs.Common.{IsTrue}
use Rattle.program_defs.specs.declared.program.Answer.TheVariants.{Reached, Shown}
use Rattle.program_defs.specs.declared.program.Program.TheVariants.{Reach}
use Rattle.program_defs.specs.PlainAnswer.{IsPlainAnswer}
use Rattle.program_defs.specs.Visits.{graph_read}
use Rattle.report_rules.specs.declared.report.Pair.{Pair}
use Rattle.report_rules.specs.declared.report.Reply.{Reply}
use Rattle.report_rules.specs.declared.report.ReplyState.TheVariants.{Begun as Running, Committed, Conflict, Finished}
use Rattle.report_rules.specs.declared.report.Report.{Report}
use Rattle.report_rules.specs.PrintedOrder.{IsPrintedOrder}
use Rattle.weave_account.specs.LowerLaws.{LawsForAccounts}
use Rattle.weave_account.specs.Pairs.{IsPairInAccount}
use Rattle.weave_account.specs.Report.{IsReportOfAccount, MatchesAccount}
use Rattle.weave_account.specs.Account.{reads_of}
use Rattle.weave_account.proofs.ExampleLists.{in-one}
use Rattle.weave_account.proofs.ExampleMarked as marks
use Rattle.weave_account.proofs.ExamplePath as path
use Rattle.weave_account.proofs.ExampleReader as reader
use Rattle.weave_account.proofs.ExampleWriters as writers
use Rattle.report_rules.proofs.Examples.{reply}

-- a report with these replies, pairs and order
abbrev report-of : List Reply → List Pair → List ℕ → Report
report-of replies pairs order = record { replies = replies; pairs = pairs; order = order; answers = [] }

-- Two unordered writers

abbrev of-writers : List Reply
of-writers = reply 0 writers.x (Committed 1 []) ∷ reply 1 writers.y (Committed 2 []) ∷ []

abbrev first-then-second : Pair
first-then-second = record { vertex = writers.v; earlier = 0; later = 1 }

writers-match : (order : List ℕ)
    → MatchesAccount writers.script writers.account (report-of of-writers (first-then-second ∷ []) order)
writers-match order = record {
  requests = refl;
  replies = (record { stamp_is = refl; state_is = refl }, (record { stamp_is = refl; state_is = refl }, tt));
  pairs = (writers.pair-is, tt);
}

-- a report that swaps the commit numbers of the two writers is not that of their account
pub other-number : ¬ IsReportOfAccount writers.script writers.account (report-of (reply 0 writers.x (Committed 2 []) ∷ reply 1 writers.y (Committed 1 []) ∷ []) (first-then-second ∷ []) (0 ∷ 1 ∷ []))
other-number is = let state : Committed 2 [] ≡ Committed 1 [] = is.matches.replies.0.state_is in cc

-- a report that says of the first of the two writers that it is running is not that of their account
pub still-running : ¬ IsReportOfAccount writers.script writers.account (report-of (reply 0 writers.x Running ∷ reply 1 writers.y (Committed 2 []) ∷ []) (first-then-second ∷ []) (1 ∷ []))
still-running is = let state : Running ≡ Committed 1 [] = is.matches.replies.0.state_is in cc

-- a report that leaves out the oracle's pair of the two writers is not that of their account
pub pair-left-out : ¬ IsReportOfAccount writers.script writers.account (report-of of-writers [] (0 ∷ 1 ∷ []))
pair-left-out is = is.matches.pairs

-- A transaction and a program that reads it

abbrev of-reader : Report
of-reader =
    report-of (reply 0 (reader.stamp 1) (Committed 1 []) ∷ reply 1 (reader.stamp 2) (Finished (Shown (Some (record { props = []; edges = [] })))) ∷ []) []
    (0 ∷ 1 ∷ [])

-- A conflict through a path

abbrev of-path : Report
of-path =
    report-of (reply 0 path.x (Committed 1 []) ∷ reply 1 path.y (Committed 2 (path.read-u ∷ [])) ∷ reply 2 path.z (Conflict path.v 1) ∷ [])
    (record { vertex = path.u; earlier = 0; later = 1 } ∷ []) (0 ∷ 1 ∷ [])

path-pair : IsPairInAccount path.account (record { vertex = path.u; earlier = 0; later = 1 }) (path.x, path.y)
path-pair = record {
  earlier_is = refl;
  later_is = refl;
  added = inl (record { before = path.judges-x ∷ []; entry = path.judges-y; after = path.judges-z ∷ []; at = refl; commit = _; commit_is = refl; later_is = refl; vertex_is = refl });
}

same-first : (a b : ℕ) (xs ys : List ℕ) → a ∷ xs ≡ b ∷ ys → a ≡ b
same-first a b xs ys e = cc

-- A program that reaches a vertex over two shards

abbrev of-marked : Report
of-marked =
    report-of (reply 0 (marks.at-first 1 0) (Committed 1 []) ∷ reply 1 (marks.at-second 0 1) (Finished (Reached true)) ∷ [])
    (record { vertex = marks.a; earlier = 0; later = 1 } ∷ []) (0 ∷ 1 ∷ [])

marked-pair : IsPairInAccount marks.account (record { vertex = marks.a; earlier = 0; later = 1 }) (marks.at-first 1 0, marks.at-second 0 1)
marked-pair = record {
  earlier_is = refl;
  later_is = refl;
  added = inr (record {
    shard = 1;
    visit = record { author = 0; request = 1; stamp = marks.at-second 0 1; vertex = marks.a; updates = 1; settled = true };
    visited = in-one _;
    marked = refl;
    later_is = refl;
    vertex_is = refl;
    sees = omega arith;
    last_is = refl;
  });
}

-- there is a walk from a to b in what it read
walk-there : IsPlainAnswer (graph_read (reads_of marks.account 1)) (Reach marks.a marks.b None) (Reached true)
walk-there = ((λ reached. (marks.a ∷ marks.b ∷ [], refl)), (λ walk. refl))

module _ (laws : LawsForAccounts) where
  way : (pairs : List GivenPair) (a b : Stamp) → IsTrue (precedes pairs a b) → Precedes pairs a b
  way pairs a b = (laws.decided pairs a b).1

  no-way : (pairs : List GivenPair) (a b : Stamp) → precedes pairs a b ≡ false → ¬ Precedes pairs a b
  no-way pairs a b e h = both_ways _ e ((laws.decided pairs a b).0 h)

  -- the pair puts the first writer first
  writers-printed : (order : List ℕ) → IsPrintedOrder (report-of of-writers (first-then-second ∷ []) order) (0 ∷ 1 ∷ [])
  writers-printed order =
      record {
        taken = 0 ∷ 1 ∷ [];
        in_turn = (
          record { remains = refl; free = (no-way _ _ _ refl, (no-way _ _ _ refl, tt)); least = ((λ other free. cc), ((λ other free. absurd (free.0 (way _ _ _ refl))), tt)) },
          (record { remains = refl; free = (no-way _ _ _ refl, tt); least = ((λ other free. cc), tt) }, refl),
        );
        listed = refl;
      }

  -- the report with both writers' commits, the oracle's pair and the first one first is that of their account
  pub report-of-writers : IsReportOfAccount writers.script writers.account (report-of of-writers (first-then-second ∷ []) (0 ∷ 1 ∷ []))
  report-of-writers = record { matches = writers-match (0 ∷ 1 ∷ []); order = writers-printed (0 ∷ 1 ∷ []) }

  -- the two exchanged are not its printed order
  pub other-order : ¬ IsReportOfAccount writers.script writers.account (report-of of-writers (first-then-second ∷ []) (1 ∷ 0 ∷ []))
  other-order is =
      let first : 0 ≡ 1 = same-first 0 1 (1 ∷ []) (0 ∷ []) (laws.one_order _ (0 ∷ 1 ∷ []) (1 ∷ 0 ∷ []) (writers-printed (1 ∷ 0 ∷ [])) is.order) in
      absurd (omega (arith, first))

  -- the program shows the vertex that the transaction made
  pub report-of-reader : IsReportOfAccount reader.script reader.account of-reader
  report-of-reader =
      record {
        matches = record { requests = refl; replies = (record { stamp_is = refl; state_is = refl }, (record { stamp_is = refl; state_is = (refl, refl) }, tt)); pairs = tt };
        order = record {
          taken = 0 ∷ 1 ∷ [];
          in_turn = (
            record { remains = refl; free = (no-way _ _ _ refl, (no-way _ _ _ refl, tt)); least = ((λ other free. cc), ((λ other free. absurd (free.0 (way _ _ _ refl))), tt)) },
            (record { remains = refl; free = (no-way _ _ _ refl, tt); least = ((λ other free. cc), tt) }, refl),
          );
          listed = refl;
        };
      }

  -- the one in conflict is taken first, and left out
  pub report-of-path : IsReportOfAccount path.script path.account of-path
  report-of-path =
      record {
        matches = record {
          requests = refl;
          replies = (record { stamp_is = refl; state_is = refl }, (record { stamp_is = refl; state_is = refl }, (record { stamp_is = refl; state_is = refl }, tt)));
          pairs = (path-pair, tt);
        };
        order = record {
          taken = 2 ∷ 0 ∷ 1 ∷ [];
          in_turn = (
            record {
              remains = refl;
              free = (no-way _ _ _ refl, (no-way _ _ _ refl, (no-way _ _ _ refl, tt)));
              least = ((λ other free. absurd (free.1.1.0 (way _ _ _ refl))), ((λ other free. absurd (free.0 (way _ _ _ refl))), ((λ other free. cc), tt)));
            },
            (
              record { remains = refl; free = (no-way _ _ _ refl, (no-way _ _ _ refl, tt)); least = ((λ other free. cc), ((λ other free. absurd (free.0 (way _ _ _ refl))), tt)) },
              (record { remains = refl; free = (no-way _ _ _ refl, tt); least = ((λ other free. cc), tt) }, refl),
            ),
          );
          listed = refl;
        };
      }

  -- the program reaches the vertex, after the transaction that the oracle put before it
  pub report-of-marked : IsReportOfAccount marks.script marks.account of-marked
  report-of-marked =
      record {
        matches = record {
          requests = refl;
          replies = (record { stamp_is = refl; state_is = refl }, (record { stamp_is = refl; state_is = (refl, walk-there) }, tt));
          pairs = (marked-pair, tt);
        };
        order = record {
          taken = 0 ∷ 1 ∷ [];
          in_turn = (
            record { remains = refl; free = (no-way _ _ _ refl, (no-way _ _ _ refl, tt)); least = ((λ other free. cc), ((λ other free. absurd (free.0 (way _ _ _ refl))), tt)) },
            (record { remains = refl; free = (no-way _ _ _ refl, tt); least = ((λ other free. cc), tt) }, refl),
          );
          listed = refl;
        };
      }
