use Rattle.std.proofs.Common.{add-one, ◌∙◌, arith}
use Rattle.std.proofs.lemmas.Bool.{both_ways}
use Rattle.vector_stamp.specs.Seeing.{is_seen}
use Rattle.vector_stamp.proofs.Seen.{place-within, place-passes, none-after, last-is}
use Rattle.vector_stamp.proofs.laws.the_last_update_read_is_seen.Goals as goal

pub returns : goal.returns
returns c =
    record {
      within = λ pairs program updates. place-within (is_seen pairs program) updates;
      last = λ pairs program update updates before is at. place-passes (is_seen pairs program) updates before update (omega (arith, is)) at;
      skipped = λ pairs program update updates place past at seen. both_ways _ (none-after (is_seen pairs program) updates place update past at) seen;
      named = λ updates update before at. rw (add-one before) (last-is before updates update at);
    }
