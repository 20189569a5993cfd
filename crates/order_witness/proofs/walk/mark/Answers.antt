use Rattle.std.proofs.Common.{◌≡◌, List, ℕ, true, sym, subst, arith}
use Rattle.std.specs.Prelude.{slice_set}
use Rattle.order_witness.specs.Marks.{AreMoreMarked}
use Rattle.order_witness.proofs.Walking.{grown_none, grown_one}
use Rattle.order_witness.proofs.walk.mark.Goals as goal

pub returns-clause-grown : goal.returns-clause-grown
returns-clause-grown c =
    subst (λ (xs : List ℕ). AreMoreMarked (λ a. a ≡ c.args.request) c.args.marked.now (slice_set c.args.marked.now c.args.request true) c.args.due.now.items xs) (sym c.in_ok-push.ensures.items)
    (grown_one c.args.marked.now c.args.due.now.items c.args.request (omega (arith, c.if-request-marked.false)) c.if-marked-request.false)

pub returns-then-request-marked-clause-grown : goal.returns-then-request-marked-clause-grown
returns-then-request-marked-clause-grown c = grown_none (λ a. a ≡ c.args.request) c.args.marked.now c.args.due.now.items

pub returns-then-marked-request-clause-grown : goal.returns-then-marked-request-clause-grown
returns-then-marked-request-clause-grown c = grown_none (λ a. a ≡ c.args.request) c.args.marked.now c.args.due.now.items
