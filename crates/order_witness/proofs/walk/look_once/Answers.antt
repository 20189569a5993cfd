use Rattle.std.proofs.Common.{ℕ, IsTrue, sym, ◌∙◌}
use Rattle.order_witness.specs.Begun.{is_request_before}
use Rattle.order_witness.specs.ByNumber.{list_at}
use Rattle.order_witness.specs.Preceding.{leads_directly}
use Rattle.order_witness.proofs.Walking.{grown_none, looked_one}
use Rattle.order_witness.proofs.walk.look_once.Goals as goal

pub returns-then-is_marked-clause-all : goal.returns-then-is_marked-clause-all
returns-then-is_marked-clause-all c = c.requires.looked c.args.request (sym c.is_marked.ensures ∙ c.if-is_marked.true)

pub returns-then-is_marked-clause-grown : goal.returns-then-is_marked-clause-grown
returns-then-is_marked-clause-grown c =
    grown_none (λ a. IsTrue (leads_directly (is_request_before c.args.report.now) (list_at c.args.befores.now) a c.args.request)) c.args.marked.now c.args.due.now.items

pub returns-clause-looked : goal.returns-clause-looked
returns-clause-looked c =
    looked_one (leads_directly (is_request_before c.args.report.now) (list_at c.args.befores.now)) c.args.marked.now c.look.new.marked c.args.looked.now c.put.new.looked c.args.request c.requires.looked
    c.in_ok-look.ensures.grown.stay c.in_ok-look.ensures.all c.put.ensures
