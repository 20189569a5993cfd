use Rattle.std.proofs.Common.{◌∷◌, ◌++◌, [], List, length, sum_by, Contains, sym, ap, subst, ◌∙◌, append_assoc, inl, inr, arith}
use Rattle.std.specs.List.{flat_map}
use Rattle.std.specs.Vec.Iter.{into_iter_items}
use Rattle.std.proofs.lemmas.List.Sums.{sum_by-cons}
use Rattle.std.proofs.lemmas.List.Elements.{Contains-append_left, Contains-append_right, Contains-append_cases}
use Rattle.weave_data.proofs.Members.{has_head, has_tail, flat_has, has_flat}
use Rattle.vector_stamp.specs.declared.clock.Stamp.{Stamp}
use Rattle.oracle_chain.specs.declared.ask.Ask.{Ask}
use Rattle.oracle_chain.specs.Replay.{ask_stamps}
use Rattle.oracle_chain.proofs.prepared.append_all.Goals as goal

-- the stamps of an ask and of those before it are stamps of the whole list
among : (before after : List Ask) (one : Ask) (s : Stamp) → Contains (ask_stamps one ++ flat_map ask_stamps before) s → Contains (flat_map ask_stamps (before ++ one ∷ after)) s
among before after one s h = elim (Contains-append_cases (ask_stamps one) (flat_map ask_stamps before) s h) [
  | inl own ↦ has_flat ask_stamps (before ++ one ∷ after) one s (Contains-append_right before (one ∷ after) one (has_head one after)) own
  | inr other ↦ (let of = flat_has ask_stamps before s other in has_flat ask_stamps (before ++ one ∷ after) of.0 s (Contains-append_left before (one ∷ after) of.0 of.1) of.2)
]

pub append_prepared-requires-clause-coherent : goal.append_prepared-requires-clause-coherent
append_prepared-requires-clause-coherent c =
    let steps = c.in-Some.ensures.steps in
    let all = ap (λ (l : List Ask). c.loop-one.replica.asks ++ l) (sym steps.0) ∙ c.loop-one.invariant.all in
    c.parts_and_unions_are_coherent.ensures.part _ _ c.requires.coherent (λ s h.
    subst (λ (l : List Ask). Contains (flat_map ask_stamps l) s) all (among c.loop-one.replica.asks _ c.in-Some.one s h))

pub loop-one-preserved : goal.loop-one-preserved
loop-one-preserved c =
    let steps = c.in-Some.ensures.steps in
    let rest = into_iter_items c.next.new.self in
    let was = c.loop-one.invariant in
    let fewer = ap (λ (l : List Ask). length l) steps.0 in
    record {
      all = ap (λ (l : List Ask). l ++ rest) c.append_prepared.ensures.asks ∙ append_assoc c.loop-one.replica.asks (c.in-Some.one ∷ []) rest
          ∙ ap (λ (l : List Ask). c.loop-one.replica.asks ++ l) (sym steps.0) ∙ was.all;
      long = let long = was.long in let gone = steps.1 in omega (arith, long, gone, fewer);
      live = c.append_prepared.ensures.live ∙ was.live;
      room = let room = was.room in let left = c.append_prepared.ensures.room in omega (arith, room, left, fewer);
      events =
          let many = ap (λ (l : List Ask). sum_by (λ (ask : Ask). length ask.earlier) l) steps.0 ∙ sum_by-cons (λ (ask : Ask). length ask.earlier) c.in-Some.one rest in
          let events = was.events in let left = c.append_prepared.ensures.events in omega (arith, many, events, left);
      are = λ ask h. was.are ask (subst (λ (l : List Ask). Contains l ask) (sym steps.0) (has_tail c.in-Some.one rest ask h));
    }
