-- The phases of a script: from which request to which.
use Rattle.std.specs.Prelude.{ℕ, ◌-◌, ◌==◌, if◌then◌else◌, filter, length, slice_index_or}
use Rattle.std.specs.List.{range_with_len}
use Rattle.program_defs.specs.declared.script.Script.{Script}
use Rattle.report_rules.specs.Lookups.{is_program}

-- the number of the first request after a phase
abbrev pub phase_end : Script → ℕ → ℕ
phase_end script phase = slice_index_or script.phases phase (length script.requests)

-- the number of the first request of a phase, if it has one
abbrev pub phase_start : Script → ℕ → ℕ
phase_start script phase = if phase == 0 then 0 else phase_end script (phase - 1)

-- how many programs there are among the `count` requests from this one on
abbrev pub programs_in : Script → ℕ → ℕ → ℕ
programs_in script from count = length (filter (is_program script) (range_with_len from count))
