use Rattle.std.proofs.Common.{◌∷◌, ◌++◌, ◌⊎◌, List, Contains, sym, subst}
use Rattle.vector_stamp.specs.declared.clock.Stamp.{Stamp}
use Rattle.vector_stamp.specs.Coherence.{AreCoherent}
use Rattle.oracle_chain.specs.Replay.{ask_stamps}
use Rattle.chain_tests.proofs.Known.{asked-coherent, still-knows}
use Rattle.chain_tests.proofs.calls.settle_wish.Goals as goal

pub settle-requires-clause-coherent : goal.settle-requires-clause-coherent
settle-requires-clause-coherent g c =
    subst (λ (l : List Stamp). AreCoherent (c.ask_of-ask.result.later ∷ l ++ g.J.Judge.known c.args.judge.now)) (sym c.as_slice.ensures)
    (asked-coherent c.parts_and_unions_are_coherent.ensures.part c.args.events.now (ask_stamps c.ask_of-ask.result) (g.J.Judge.known c.args.judge.now) c.ask_of-ask.ensures.of_events c.requires)

pub returns-in-Ok : goal.returns-in-Ok
returns-in-Ok g c =
    let from = subst (λ (l : List Stamp). (one : Stamp) → Contains (g.J.Judge.known c.settle.new.self) one → Contains (g.J.Judge.known c.args.judge.now) one ⊎ Contains (c.ask_of-ask.result.later ∷ l) one) c.as_slice.ensures c.settle.ensures.known in
    still-knows c.args.events.now (g.J.Judge.known c.args.judge.now) (g.J.Judge.known c.settle.new.self) (ask_stamps c.ask_of-ask.result) c.requires c.ask_of-ask.ensures.of_events from

pub returns-in-Err-Precedes : goal.returns-in-Err-Precedes
returns-in-Err-Precedes g c =
    let from = subst (λ (l : List Stamp). (one : Stamp) → Contains (g.J.Judge.known c.settle.new.self) one → Contains (g.J.Judge.known c.args.judge.now) one ⊎ Contains (c.ask_of-ask.result.later ∷ l) one) c.as_slice.ensures c.settle.ensures.known in
    still-knows c.args.events.now (g.J.Judge.known c.args.judge.now) (g.J.Judge.known c.settle.new.self) (ask_stamps c.ask_of-ask.result) c.requires c.ask_of-ask.ensures.of_events from
