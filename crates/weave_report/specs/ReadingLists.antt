-- Lists of a line that are read as their words are cut. No public contract cites this.
use Rattle.std.specs.Prelude.{ℕ, ◌==◌, length, List, [], ◌∷◌, ◌++◌, Option, None, Some, Ok, Err, option_map, if◌then◌else◌}
use Rattle.vector_stamp.specs.declared.clock.Stamp.{Stamp}
use Rattle.weave_data.specs.declared.name.Name.{Name}
use Rattle.weave_text.specs.Lines.{Word}
use Rattle.program_defs.specs.declared.script.Script.{Script}
use Rattle.weave_report.specs.declared.fault.ReportCause.TheVariants as cause
use Rattle.weave_data.specs.Steps.{◌>>=◌}
use Rattle.weave_data.specs.Limits.{most_gates}
use Rattle.weave_report.specs.ReadingFields.{ReadResult, count_in, counts_from, name_in, or_cause, stamp_with_counts}
use Rattle.weave_report.specs.ReadingReplies.{request_named}

-- the requests so far and the one of this name; none once there is none of a name
abbrev pub with_named : Script → Option (List ℕ) → Name → Option (List ℕ)
with_named script None name = None
with_named script (Some order) name = option_map (λ r. order ++ r ∷ []) (request_named script name)

-- an order that goes on with these words
abbrev pub order_from : Script → Option (List ℕ) → List Word → ReadResult (List ℕ)
order_from script order [] = or_cause cause.Request order
order_from script order (word ∷ words) = name_in word >>= λ name. order_from script (with_named script order name) words

-- counts that go on with these words, eight at most
abbrev pub few_counts : List ℕ → List Word → ReadResult (List ℕ)
few_counts before [] = Ok before
few_counts before (word ∷ words) =
    if length before == most_gates then Err cause.Stamp
    else (count_in word >>= λ count. few_counts (before ++ count ∷ []) words)

-- the stamp of an epoch, a home, and the words of its counts
abbrev pub counted_stamp : ℕ → ℕ → ℕ → List Word → ReadResult Stamp
counted_stamp gates epoch home words = counts_from [] words >>= λ counts. stamp_with_counts gates epoch home counts
