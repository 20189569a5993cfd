use Rattle.std.proofs.Common.{◌≡◌, ◌+◌, ◌∷◌, [], drop, sym, ap, subst, ◌∙◌, arith}
use Rattle.std.proofs.lemmas.List.{drop_more, drop_all}
use Rattle.gatekeeper.proofs.Delivery.{GoesOn, goes-start, goes-step, goes-end}
use Rattle.gatekeeper.proofs.sending.send_all.Goals as goal

pub loop-at-init : goal.loop-at-init
loop-at-init c = goes-start _ c.args.entry c.args.messages.now c.requires

pub send_one-requires : goal.send_one-requires
send_one-requires c =
    let messages = c.args.messages.now in
    let at = c.loop-at.at in
    let one = c.index-messages-at.result in
    let rest_is : drop at messages ≡ one ∷ drop (at + 1) messages = drop_more messages at one c.loop-at-test.true ∙ ap (λ x. x ∷ drop (at + 1) messages) (sym c.index-messages-at.is) in
    let goes : GoesOn c.args.channels.now.items c.loop-at.channels.items c.args.entry messages at (one ∷ drop (at + 1) messages) = subst (GoesOn _ _ _ _ _) rest_is c.loop-at.invariant in
    goes.can.0

pub loop-at-preserved : goal.loop-at-preserved
loop-at-preserved c =
    let messages = c.args.messages.now in
    let at = c.loop-at.at in
    let one = c.index-messages-at.result in
    let rest_is : drop at messages ≡ one ∷ drop (at + 1) messages = drop_more messages at one c.loop-at-test.true ∙ ap (λ x. x ∷ drop (at + 1) messages) (sym c.index-messages-at.is) in
    goes-step _ _ _ _ _ at one _ (subst (GoesOn _ _ _ _ _) rest_is c.loop-at.invariant) c.send_one.ensures.sent

pub returns : goal.returns
returns c =
    let messages = c.args.messages.now in
    let over : drop c.loop-at.at messages ≡ [] = drop_all c.loop-at.at messages (omega (arith, c.loop-at-test.false)) in
    goes-end _ _ _ _ c.loop-at.at (subst (GoesOn _ _ _ _ _) over c.loop-at.invariant)
