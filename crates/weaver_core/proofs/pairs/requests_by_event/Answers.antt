use Rattle.std.proofs.Common.{◌≡◌, ◌-◌, ◌<◌, suc, length, Contains, None, Option, subst, arith, drop, ℕ}
use Rattle.std.proofs.lemmas.List.Elements.{Contains-get_or}
use Rattle.vector_stamp.specs.declared.clock.Stamp.{Stamp}
use Rattle.weaver_core.specs.Reporting.{HasRequests}
use Rattle.weaver_core.proofs.Events.{table-more}
use Rattle.weaver_core.proofs.pairs.requests_by_event.Goals as goal

pub key_of-requires : goal.key_of-requires
key_of-requires c =
    let stamps = c.args.stamps.now in
    let place : ℕ = c.loop-place.place - 1 in
    let within : place < length stamps = omega (arith, c.loop-place.invariant.within) in
    c.requires.begun c.in-Some.stamp (subst (λ (o : Option Stamp). Contains stamps o) c.in-Some.is (Contains-get_or stamps place None within))

pub loop-place-preserved-in_ok-insert : goal.loop-place-preserved-in_ok-insert
loop-place-preserved-in_ok-insert c =
    let stamps = c.args.stamps.now in
    let place : ℕ = c.loop-place.place - 1 in
    let within : place < length stamps = omega (arith, c.loop-place.invariant.within) in
    let next : c.loop-place.place ≡ suc place = omega arith in
    record {
      within = omega (arith, c.loop-place.invariant.within);
      has = table-more stamps place c.in-Some.stamp _ _ _ within c.in-Some.is c.key_of.ensures
          (subst (λ (n : ℕ). HasRequests n (drop n stamps) c.loop-place.requests.entries) next c.loop-place.invariant.has)
          (λ key. c.in_ok-insert.ensures.updates.0 key);
    }
