use Rattle.std.proofs.Common.{◌≡◌, List, ap, ◌∙◌, ◌-◌, arith, subst, sym, refl, Some, None, slice_index_or, []}
use Rattle.order_graph.specs.declared.chain.Event.{Event}
use Rattle.order_graph.specs.Chains.{EventChainView, IsRisingChain, IsLatestAt}
use Rattle.order_graph.proofs.Chains.{latest_none, latest_some}
use Rattle.order_graph.proofs.chain.Chain.latest.Goals as goal

pub returns-then-number-eq0 : goal.returns-then-number-eq0
returns-then-number-eq0 c rising =
    let same : c.as_slice-events.result.now ≡ c.args.self.now.events = c.as_slice-events.ensures.value ∙ ap (λ (v : EventChainView). v.events) c.self.view_is in
    let still : IsRisingChain c.as_slice-events.result.now = subst IsRisingChain (sym same) rising in
    subst (λ (events : List Event). IsLatestAt events c.args.stamp.now None) same (latest_none c.stamps_keep_the_laws.ensures c.as_slice-events.result.now c.args.stamp.now c.number_until-number.result (c.number_until-number.ensures.until still) c.if-number-eq0.true)

pub returns : goal.returns
returns c rising =
    let same : c.as_slice-events.result.now ≡ c.args.self.now.events = c.as_slice-events.ensures.value ∙ ap (λ (v : EventChainView). v.events) c.self.view_is in
    let still : IsRisingChain c.as_slice-events.result.now = subst IsRisingChain (sym same) rising in
    let d : Event = record { stamp = record { home = 0; clock = record { epoch = 0; counts = [] } }; frontier = record { latest = [] } } in
    let latest : Event = slice_index_or c.as_slice-events.result.now (c.number_until-number.result - 1) d in
    subst (λ (events : List Event). IsLatestAt events c.args.stamp.now (Some latest)) same (latest_some c.stamps_keep_the_laws.ensures c.as_slice-events.result.now still c.args.stamp.now c.number_until-number.result latest d (c.number_until-number.ensures.until still) (omega arith) c.number_until-number.ensures.within refl)
