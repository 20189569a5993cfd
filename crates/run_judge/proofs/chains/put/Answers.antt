use Rattle.std.proofs.Common.{◌≤◌, ℕ, List, length, sym, subst, arith}
use Rattle.order_witness.specs.Begun.{is_request_before}
use Rattle.order_witness.specs.ByNumber.{list_at}
use Rattle.order_witness.proofs.Strict.{before_trans}
use Rattle.run_judge.specs.declared.chains.Spot.{Spot}
use Rattle.run_judge.specs.Chains.{IsAtSpot, MayGoOn}
use Rattle.run_judge.proofs.ChainLaws.{put_rising, put_stay, spot_here}
use Rattle.run_judge.proofs.chains.put.Goals as goal

pub add_at-requires : goal.add_at-requires
add_at-requires c =
    c.in_ok-make_chain.ensures.there (subst (λ (xs : List (List ℕ)). c.chain_for-chain.result ≤ length xs) c.as_slice.ensures.value c.chain_for-chain.ensures.within)

pub returns-clause-rising : goal.returns-clause-rising
returns-clause-rising c = λ rising.
    put_rising c.args.lists.now.items c.make_chain.new.lists.items c.add_at.new.lists.items c.chain_for-chain.result c.args.request
    c.in_ok-make_chain.ensures.same c.in_ok-place.ensures.here c.in_ok-place.ensures.others
    (is_request_before c.args.report.now) (before_trans (record { irreflexive = c.stamps_are_ordered.ensures.irreflexive; transitive = c.stamps_are_ordered.ensures.transitive }) c.args.report.now)
    (subst (λ (xs : List (List ℕ)). MayGoOn (is_request_before c.args.report.now) (list_at xs c.chain_for-chain.result) c.args.request) c.as_slice.ensures.value c.chain_for-chain.ensures.goes_on)
    rising

pub returns-clause-stay : goal.returns-clause-stay
returns-clause-stay c = λ spot a at.
    put_stay c.args.lists.now.items c.make_chain.new.lists.items c.add_at.new.lists.items c.chain_for-chain.result c.args.request
    c.in_ok-make_chain.ensures.same c.in_ok-place.ensures.here c.in_ok-place.ensures.others c.in_ok-make_chain.ensures.no_fewer c.in_ok-place.ensures.size spot a at

pub returns-clause-here : goal.returns-clause-here
returns-clause-here c =
    subst (λ (spot : Spot). IsAtSpot c.add_at.new.lists.items spot c.args.request) (sym (c.set_spot.ensures.here c.requires))
    (spot_here c.make_chain.new.lists.items c.add_at.new.lists.items c.chain_for-chain.result c.args.request c.in_ok-place.ensures.here c.in_ok-place.ensures.others
    (let there = c.in_ok-make_chain.ensures.there (subst (λ (xs : List (List ℕ)). c.chain_for-chain.result ≤ length xs) c.as_slice.ensures.value c.chain_for-chain.ensures.within) in let size = c.in_ok-place.ensures.size in omega (arith, there, size))
    c.in_ok-place.place c.in_ok-place.ensures.place)
