use Rattle.weaver_locks.proofs.Hearing.{hears-begun, hears-on, hears-still}
use Rattle.weaver_locks.proofs.laws.what_was_begun_may_be_heard.Goals as goal

pub returns : goal.returns
returns c = record {
  begun = λ shared old new gate before deed begun is was h.
      hears-begun c.hands_keep_their_laws.ensures shared old new is gate before deed begun was h;
  gate = hears-on;
  others = hears-still;
}
