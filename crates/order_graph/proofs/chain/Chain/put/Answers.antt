use Rattle.std.proofs.Common.{◌≡◌, ◌≤◌, ◌-◌, List, length, Contains, IsTrue, ap, ◌∙◌, arith, subst, sym, slice_index_or}
use Rattle.std.specs.List.{insert}
use Rattle.std.proofs.lemmas.Bool.{both_ways}
use Rattle.std.proofs.lemmas.List.{get_or_default}
use Rattle.vector_stamp.specs.Order.{same_stamp}
use Rattle.order_graph.specs.declared.chain.Event.{Event}
use Rattle.order_graph.specs.Chains.{EventChainView, IsRisingChain, IsPut}
use Rattle.order_graph.proofs.Chains.{IsUntil, put_there, put_in}
use Rattle.order_graph.proofs.chain.Chain.put.Goals as goal
use Rattle.order_graph.proofs.chain.Chain.put.Goals.{else-number-gt0-via-then-number-gt0+else-eq, else-number-gt0-via-else-number-gt0}

pub returns-then-eq-clause-put : goal.returns-then-eq-clause-put
returns-then-eq-clause-put c =
    let inside : c.self.inside.events.items ≡ c.args.self.now.events = ap (λ (v : EventChainView). v.events) c.self.view_is in
    let long : c.number_until-number.result ≤ length c.self.inside.events.items = omega (arith, ap (length {A = Event}) c.as_slice.ensures.value, c.number_until-number.ensures.within) in
    let has : Contains c.args.self.now.events c.index.result.now = subst (λ (events : List Event). Contains events c.index.result.now) inside (c.number_until-number.result - 1, omega (arith, c.if-number-gt0.true), sym c.index.ensures) in
    put_there c.stamps_keep_the_laws.ensures c.args.self.now.events c.requires.rising c.args.event c.index.result.now has (c.stamps_keep_the_laws.ensures.same_is c.index.result.now.stamp c.args.event.stamp (sym c.if-eq.ensures))

pub returns-clause-put : goal.returns-clause-put
returns-clause-put c =
    let inside : c.self.inside.events.items ≡ c.args.self.now.events = ap (λ (v : EventChainView). v.events) c.self.view_is in
    let slice : c.as_slice.result.now ≡ c.args.self.now.events = c.as_slice.ensures.value ∙ inside in
    let number = c.number_until-number.result in
    let until : IsUntil c.args.self.now.events c.args.event.stamp number = subst (λ (events : List Event). IsUntil events c.args.event.stamp number) slice (c.number_until-number.ensures.until (subst IsRisingChain (sym slice) c.requires.rising)) in
    let within : number ≤ length c.args.self.now.events = subst (λ (events : List Event). number ≤ length events) slice c.number_until-number.ensures.within in
    let put = put_in c.stamps_keep_the_laws.ensures c.args.self.now.events c.requires.rising c.args.event number until within
    (λ some d same. elim c.else-number-gt0.branch [
      | else-number-gt0-via-else-number-gt0 w ↦ absurd (omega (arith, some, w.if-number-gt0.false))
      | else-number-gt0-via-then-number-gt0+else-eq w ↦
          let at : slice_index_or c.args.self.now.events (number - 1) d ≡ w.index.result.now = get_or_default c.args.self.now.events (number - 1) d w.index.result.now (omega (arith, some, within)) ∙ sym (w.index.ensures ∙ ap (λ (events : List Event). slice_index_or events (number - 1) w.index.result.now) inside) in
          let is : w.index.result.now.stamp ≡ c.args.event.stamp = sym (ap (λ (event : Event). event.stamp) at) ∙ same in
          both_ways _ w.if-eq.false (w.eq.ensures ∙ subst (λ x. IsTrue (same_stamp w.index.result.now.stamp x)) is (c.stamps_keep_the_laws.ensures.same_itself w.index.result.now.stamp))
    ]) c.requires.in_turn in
    subst (λ (events : List Event). IsPut c.args.self.now.events c.args.event events) (sym (c.in_ok-insert.ensures.items ∙ ap (λ (events : List Event). insert events number c.args.event) inside)) put
