use Rattle.std.proofs.Common.{◌≡◌, ◌≢◌, ◌<◌, AllPairs, Contains, List, rules, sym, subst}
use Rattle.std.proofs.lemmas.List.Sorted.{answers_always}
use Rattle.report_rules.specs.declared.report.Reply.{Reply}
use Rattle.weaver_core.proofs.Searched.{found-here, not-found}
use Rattle.weaver_core.proofs.client.Client.reply.Goals as goal

pub returns-in-Ok : goal.returns-in-Ok
returns-in-Ok c =
    let facts = c.in-Ok.ensures in
    let r = c.args.request in
    let reply = c.index-replies-place.result in
    subst (λ (replies : List Reply). Contains replies reply × (reply.request ≡ r)) c.as_slice-replies.ensures.value
    (found-here c.as_slice-replies.result.now r c.in-Ok.place facts.bound (facts.position (λ (one : Reply). one.request) (answers_always _ _ _ (λ f a r g called. search rules))) reply c.index-replies-place.is)

pub returns-in-Err : goal.returns-in-Err
returns-in-Err c =
    let facts = c.in-Err.ensures in
    let r = c.args.request in
    let value = c.as_slice-replies.ensures.value in
    subst (λ (replies : List Reply). (reply : Reply) → Contains replies reply → reply.request ≢ r) value
    (not-found c.as_slice-replies.result.now r (subst (AllPairs (λ (a b : Reply). a.request < b.request)) (sym value) c.requires) _ facts.bound (facts.position (λ (one : Reply). one.request) (answers_always _ _ _ (λ f a r g called. search rules))))
