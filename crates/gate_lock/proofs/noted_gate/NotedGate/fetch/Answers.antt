use Rattle.std.proofs.Common.{◌≡◌, Option, Contains, subst}
use Rattle.std.specs.Prelude.{IfOk, option_copied}
use Rattle.std.specs.Option.{ForSome}
use Rattle.shard_queue.specs.Outbox.{sent_as}
use Rattle.weave_entries.specs.declared.message.Message.{Message}
use Rattle.weave_entries.specs.GateReplay.{addressed_to, channel_of}
use Rattle.weave_account.specs.Seen.{IsMade}
use Rattle.gate_lock.specs.Notes.{NotedGateView, seen_of_gate}
use Rattle.gate_lock.proofs.Fetching.{copied_ok, made_ok, sent_ok}
use Rattle.gate_lock.proofs.noted_gate.NotedGate.fetch.Goals as goal

pub returns-clause-message : goal.returns-clause-message
returns-clause-message c =
    let found = copied_ok c.copy_of.result (option_copied c.fetch.result) (sent_as c.args.number
    (channel_of c.args.shard c.self.inside.gate.log)) c.fetch.ensures c.copy_of.ensures in
    subst (λ (v : NotedGateView). IfOk c.copy_of.result (λ (message : Option Message). message ≡ sent_as c.args.number
    (channel_of c.args.shard v.gate.log))) c.self.view_is found

pub returns-clause-sent : goal.returns-clause-sent
returns-clause-sent c =
    let found = copied_ok c.copy_of.result (option_copied c.fetch.result) (sent_as c.args.number
    (channel_of c.args.shard c.self.inside.gate.log)) c.fetch.ensures c.copy_of.ensures in
    subst (λ (v : NotedGateView). IfOk c.copy_of.result (λ (message : Option Message). ForSome message (λ (one : Message).
    Contains (addressed_to c.args.shard v.gate.log) (record { shard = c.args.shard; number = c.args.number; message = one })))) c.self.view_is
    (sent_ok c.the_crates_below_keep_their_laws.ensures c.self.inside.gate c.self.inside.notes c.self.invariant c.shows_rules.ensures.home
    c.shows_rules.ensures.rules
    c.args.shard c.args.number c.copy_of.result found)

pub returns-clause-made : goal.returns-clause-made
returns-clause-made c =
    let found = copied_ok c.copy_of.result (option_copied c.fetch.result) (sent_as c.args.number
    (channel_of c.args.shard c.self.inside.gate.log)) c.fetch.ensures c.copy_of.ensures in
    subst (λ (v : NotedGateView). IfOk c.copy_of.result (λ (message : Option Message). ForSome message (λ (one : Message).
    IsMade v.gate.shards (seen_of_gate v.gate v.notes).store c.args.shard one))) c.self.view_is
    (made_ok c.the_crates_below_keep_their_laws.ensures c.self.inside.gate c.self.inside.notes c.self.invariant c.shows_rules.ensures.home
    c.shows_rules.ensures.rules
    c.args.shard c.args.number c.copy_of.result found)
