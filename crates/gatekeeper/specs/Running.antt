-- The running programs, found by who began them and under which number. No public contract cites this.
use Rattle.std.specs.Prelude.{◌≡◌, ℕ, Bool, ◌&&◌, nat_eq, List, [], ◌∷◌, filter, Option, None, Some}
use Rattle.std.specs.Map.{lookup}
use Rattle.vector_stamp.specs.declared.clock.Clock.{Clock}
use Rattle.vector_stamp.specs.Clocks.{meet_of}
use Rattle.weave_entries.specs.GateReplay.{BegunRequest, is_begun, low_mark}

-- whether two programs were begun by the same author under the same number
abbrev pub same_program : ℕ × ℕ → ℕ × ℕ → Bool
same_program a b = nat_eq a.0 b.0 && nat_eq a.1 b.1

-- the meet of the stamps of these programs, if there is one
abbrev pub meet_of_stamps : List BegunRequest → Option Clock
meet_of_stamps [] = None
meet_of_stamps (begun ∷ rest) = Some (low_mark begun.stamp rest)

-- the meet of a clock and what was met before, if anything. No public contract cites this.
abbrev pub met_after : Option Clock → Clock → Clock
met_after None clock = clock
met_after (Some low) clock = meet_of low clock

-- a table has, for each author and number, the meet of the stamps of the programs that are running under them
abbrev pub HoldsPrograms : List ((ℕ × ℕ) × Clock) → List BegunRequest → Type 0
HoldsPrograms table running = (program : ℕ × ℕ)
    → lookup (same_program program) table ≡ meet_of_stamps (filter (is_begun program.0 program.1) running)
