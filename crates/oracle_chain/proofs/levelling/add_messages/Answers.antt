use Rattle.std.proofs.Common.{◌+◌, ◌-◌, ◌∷◌, ◌++◌, [], List, sym, ap, ◌∙◌, append_assoc, arith}
use Rattle.oracle_chain.specs.declared.message.Sent.{Sent}
use Rattle.oracle_chain.specs.Held.{sent_from}
use Rattle.oracle_chain.proofs.Lacking.{from-next}
use Rattle.oracle_chain.proofs.levelling.add_messages.Goals as goal

pub loop-position-preserved : goal.loop-position-preserved
loop-position-preserved c =
    let test = c.loop-position-test.true in
    let position = c.loop-position.position in
    let rest = sent_from c.args.kept_by c.args.addressee (c.loop-position.position + 1) (c.args.many - (c.loop-position.position + 1)) in
    let sent : Sent = record { addressee = c.args.addressee; position = c.loop-position.position; kept_by = c.args.kept_by } in
    ap (λ (l : List Sent). l ++ rest) c.in_ok-push.ensures.items
    ∙ append_assoc c.loop-position.sent.items (sent ∷ []) rest
    ∙ ap (λ (l : List Sent). c.loop-position.sent.items ++ l) (sym (from-next c.args.kept_by c.args.addressee c.loop-position.position c.args.many (omega (arith, test))))
    ∙ c.loop-position.invariant
