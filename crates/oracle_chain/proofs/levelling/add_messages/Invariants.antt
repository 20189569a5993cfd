use Rattle.std.proofs.Common.{◌≡◌, ◌++◌, ◌-◌}
use Rattle.oracle_chain.specs.Held.{sent_from}
use Rattle.oracle_chain.proofs.levelling.add_messages.Given as goal

abbrev pub invariant-loop-position : goal.invariant-loop-position
invariant-loop-position l =
    l.sent.items ++ sent_from l.kept_by l.addressee l.position (l.many - l.position) ≡ l.initial.sent.items ++ sent_from l.kept_by l.addressee l.from (l.many - l.from)
