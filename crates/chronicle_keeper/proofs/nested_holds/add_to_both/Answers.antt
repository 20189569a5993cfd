use Rattle.std.proofs.Common.{◌∙◌, sym}
use Rattle.chronicle.specs.Passes.{number_of, own_entries, seen_by_pass}
use Rattle.chronicle.specs.Holds.{log_at_entry}
use Rattle.chronicle_keeper.proofs.Added.{follows, own_grows, held_added}
use Rattle.chronicle_keeper.proofs.nested_holds.add_to_both.Goals as goal

pub leave-requires-clause-log : goal.leave-requires-clause-log
leave-requires-clause-log g c = follows (number_of c.enter-inside.new.pass) c.number-inner_author.result c.args.value (log_at_entry c.enter-inside.result) c.state.result.now c.add-inner_added.new.self c.add-inner_added.result (c.number-inner_author.ensures ∙ sym c.enter-inside.ensures.number) (c.state.ensures.value ∙ sym c.enter-inside.ensures.entry) c.add-inner_added.ensures.ok c.add-inner_added.ensures.err

pub returns-clause-outer_own : goal.returns-clause-outer_own
returns-clause-outer_own g c = own_grows (number_of c.args.owner.now.outer) (number_of c.leave-2.new.pass) c.number-outer_author.result c.args.value c.enter-outside.result.machine c.state-2.result.now c.add-outer_added.new.self (seen_by_pass c.leave-2.new.pass) (own_entries c.args.owner.now.outer) c.add-outer_added.result (c.leave-2.ensures.number ∙ c.enter-outside.ensures.number) c.enter-outside.ensures.own c.number-outer_author.ensures c.state-2.ensures.value c.add-outer_added.ensures.ok c.leave-2.ensures.seen

pub returns-clause-outer_added : goal.returns-clause-outer_added
returns-clause-outer_added g c = held_added c.args.owner.now.outer c.leave-2.new.pass c.number-outer_author.result c.args.value c.enter-outside.result.machine c.state-2.result.now c.add-outer_added.new.self c.add-outer_added.result (c.leave-2.ensures.number ∙ c.enter-outside.ensures.number) c.enter-outside.ensures.own c.number-outer_author.ensures c.state-2.ensures.value c.add-outer_added.ensures.ok c.add-outer_added.ensures.err c.leave-2.ensures.seen

pub returns-clause-inner_added : goal.returns-clause-inner_added
returns-clause-inner_added g c = held_added c.args.owner.now.inner c.leave.new.pass c.number-inner_author.result c.args.value c.enter-inside.result.machine c.state.result.now c.add-inner_added.new.self c.add-inner_added.result (c.leave.ensures.number ∙ c.enter-inside.ensures.number) c.enter-inside.ensures.own c.number-inner_author.ensures c.state.ensures.value c.add-inner_added.ensures.ok c.add-inner_added.ensures.err c.leave.ensures.seen

pub returns-in_err-inner_added-clause-outer_added : goal.returns-in_err-inner_added-clause-outer_added
returns-in_err-inner_added-clause-outer_added g c = held_added c.args.owner.now.outer c.leave-2.new.pass c.number-outer_author.result c.args.value c.enter-outside.result.machine c.state-2.result.now c.add-outer_added.new.self c.add-outer_added.result (c.leave-2.ensures.number ∙ c.enter-outside.ensures.number) c.enter-outside.ensures.own c.number-outer_author.ensures c.state-2.ensures.value c.add-outer_added.ensures.ok c.add-outer_added.ensures.err c.leave-2.ensures.seen

pub returns-in_err-inner_added-clause-inner_added : goal.returns-in_err-inner_added-clause-inner_added
returns-in_err-inner_added-clause-inner_added g c = held_added c.args.owner.now.inner c.leave.new.pass c.number-inner_author.result c.args.value c.enter-inside.result.machine c.state.result.now c.add-inner_added.new.self c.add-inner_added.result (c.leave.ensures.number ∙ c.enter-inside.ensures.number) c.enter-inside.ensures.own c.number-inner_author.ensures c.state.ensures.value c.add-inner_added.ensures.ok c.add-inner_added.ensures.err c.leave.ensures.seen
