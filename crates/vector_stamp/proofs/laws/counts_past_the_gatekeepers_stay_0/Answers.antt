use Rattle.std.proofs.Common.{arith}
use Rattle.std.proofs.lemmas.List.{get_or_past}
use Rattle.vector_stamp.proofs.Counts.{none-counted}
use Rattle.vector_stamp.proofs.NonePast.{tick-none, hearing-none, meet-none}
use Rattle.vector_stamp.proofs.laws.counts_past_the_gatekeepers_stay_0.Goals as goal

pub returns : goal.returns
returns c =
    record {
      first = λ gates epoch gate past. none-counted gate;
      ticked = tick-none;
      heard = hearing-none;
      met = meet-none;
      of_eight = λ clock eight gate past. get_or_past clock.counts gate 0 (omega (arith, eight));
    }
