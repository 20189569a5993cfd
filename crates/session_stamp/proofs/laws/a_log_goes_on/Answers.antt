use Rattle.std.proofs.Common.{◌≡◌, ℕ, List, ◌∷◌, [], refl}
use Rattle.std.proofs.lemmas.List.Sums.{fold-append}
use Rattle.weave_entries.specs.declared.session_log.SessionEntry.{SessionEntry}
use Rattle.weave_entries.specs.SessionReplay.{session_of, FitsSession}
use Rattle.weave_data.proofs.Entries.{each_none, each_push, each_before}
use Rattle.session_stamp.proofs.laws.a_log_goes_on.Goals as goal

-- what holds at each entry
abbrev Rule : ℕ → List ℕ → List SessionEntry → SessionEntry → Type 0
Rule number requests before entry = (entry.author ≡ number) × FitsSession (session_of requests before) entry.deed

pub returns : goal.returns
returns c =
    record {
      at_first = λ requests. refl;
      replay = λ requests log entry. fold-append _ _ log (entry ∷ []);
      right_at_first = λ number requests. each_none (Rule number requests);
      right = λ number requests log entry so_far author fits. each_push (Rule number requests) log entry so_far (author, fits);
      right_before = λ number requests log rest all. each_before (Rule number requests) log rest all;
    }
