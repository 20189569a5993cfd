use Rattle.std.proofs.Common.{zero-add, ◌≡◌, ◌++◌, ◌∷◌, [], length, Some, slice_get, subst, ◌∙◌, sym}
use Rattle.vector_stamp.specs.Settling.{additions_from}
use Rattle.vector_stamp.proofs.Settle.{after_precedes, additions-push, pairs_after, additions_read, places_rise, pairs_of_earlier, permitted_none, permitted_after, added-open}
use Rattle.vector_stamp.proofs.laws.settling_puts_all_before.Goals as goal

pub returns : goal.returns
returns c =
    record {
      all_precede = after_precedes 0;
      place_by_place = λ pairs earlier event later. subst (λ n. additions_from 0 pairs (earlier ++ event ∷ []) later ≡ additions_from 0 pairs earlier later ++ additions_from n (pairs_after 0 pairs earlier later) (event ∷ []) later) (zero-add (length earlier)) (additions-push 0 pairs earlier event later);
      in_place = λ pairs earlier later place event h. let stands = additions_read 0 pairs earlier later (place, event) h in subst (λ n. slice_get earlier n ≡ Some event) (sym (stands.1 ∙ zero-add stands.0)) stands.2;
      rising = places_rise 0;
      still_permitted = λ pairs earlier later event others permitted still. permitted_after 0 pairs earlier later event (λ other h. (others other h, permitted_none pairs earlier later permitted other h)) still;
      of_earlier = pairs_of_earlier 0;
      left_open = added-open;
    }
