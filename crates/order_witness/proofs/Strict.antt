-- The order of stamps is strict, so that of begun requests by their stamps is.
-- Used by `next`, `runs_of`, Acyclic, Cutting, Leading, RisingSteps, TakenTurns and Ways.
use Rattle.std.proofs.Common.{ℕ, IsTrue, Option, Some, None}
use Rattle.vector_stamp.specs.declared.clock.Stamp.{Stamp}
use Rattle.vector_stamp.specs.Order.{stamp_before}
use Rattle.report_rules.specs.declared.report.Report.{Report}
use Rattle.report_rules.specs.Lookups.{are_both, stamp_at}
use Rattle.order_witness.specs.Begun.{is_request_before}

-- the order of stamps is a strict one
pub record IsStrict : Type 0 where
  pub irreflexive : (a : Stamp) → ¬ IsTrue (stamp_before a a)
  pub transitive : (a b c : Stamp) → IsTrue (stamp_before a b) → IsTrue (stamp_before b c) → IsTrue (stamp_before a c)

-- one request's stamp is before another's, and that one's before a third's
pub before_trans : IsStrict → (report : Report) (a b c : ℕ) → IsTrue (is_request_before report a b) → IsTrue (is_request_before report b c) → IsTrue (is_request_before report a c)
before_trans strict report a b c g h = of_options (stamp_at report a) (stamp_at report b) (stamp_at report c) g h
  where
    of_options : (o p q : Option Stamp) → IsTrue (are_both stamp_before o p) → IsTrue (are_both stamp_before p q) → IsTrue (are_both stamp_before o q)
    of_options None p q g h = cc
    of_options (Some s) None q g h = cc
    of_options (Some s) (Some t) None g h = cc
    of_options (Some s) (Some t) (Some u) g h = strict.transitive s t u g h
