use Rattle.std.proofs.Common.{◌≡◌, ◌^◌, nat_lt, true, arith}
use Rattle.std.proofs.lemmas.Bool.{and_from, lt-ltb}
use Rattle.std.proofs.lemmas.List.{get_or_default}
use Rattle.std.proofs.lemmas.List.Sums.{list_all-from_AllPass}
use Rattle.vector_stamp.proofs.clock.show_64_bits.Goals as goal

pub returns : goal.returns
returns c =
    and_from _ _ (lt-ltb c.args.epoch (2 ^ 64) (omega (arith, c.ranges.epoch.fits)))
    (list_all-from_AllPass (λ count. nat_lt count (2 ^ 64)) c.args.counts.now (λ k d below. lt-ltb _ (2 ^ 64) (let h = c.type_inv.counts k in omega (arith, h.fits, get_or_default c.args.counts.now k d 0 below))))
