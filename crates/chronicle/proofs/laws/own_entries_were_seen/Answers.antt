use Rattle.std.proofs.Common.{⊎_elim, ◌<◌, ◌≤◌, length}
use Rattle.std.proofs.lemmas.Bool.{cases_lt}
use Rattle.chronicle.proofs.Authors.{of_passes, place_seen}
use Rattle.chronicle.proofs.laws.own_entries_were_seen.Goals as goal

pub returns : goal.returns
returns g c = record {
  authors = of_passes;
  places = λ author seen log before after entry begins same at is.
      ⊎_elim (λ (h : length before < length seen). h)
      (λ (h : length seen ≤ length before). absurd (place_seen author seen log before after entry begins same at is h))
      (cases_lt (length before) (length seen));
}
