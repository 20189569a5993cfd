use Rattle.std.proofs.Common.{List, sym, ap, ◌∙◌}
use Rattle.std.specs.List.{count_by}
use Rattle.std.proofs.lemmas.List.{take_all}
use Rattle.oracle_chain.specs.Held.{HeldView}
use Rattle.oracle_chain.proofs.Finding.{live-held}
use Rattle.oracle_chain.proofs.ends.count_live.Goals as goal

pub returns : goal.returns
returns c =
    c.loop-replica.invariant
    ∙ ap (λ (xs : List HeldView). count_by (λ (held : HeldView). held.live) xs) (take_all c.loop-replica.replica-index c.args.replicas.now c.loop-replica-test.false)
    ∙ sym (live-held c.args.replicas.now)
