-- The programs among the requests of a phase, one by one.
-- Used by `program_turns`.
use Rattle.std.proofs.Common.{◌≡◌, ℕ, suc, ◌+◌, ◌-◌, ◌<◌, Bool, true, false, ◌∷◌, length, filter, ap, ◌∙◌, arith}
use Rattle.std.specs.Prelude.{if◌then◌else◌}
use Rattle.std.specs.List.{range_with_len}
use Rattle.program_defs.specs.declared.script.Script.{Script}
use Rattle.weaver_workers.specs.Phases.{programs_in}
use Rattle.report_rules.specs.Lookups.{is_program}

module _ (script : Script) (r upto : ℕ) (low : r < upto) where
  one-less : upto - r ≡ suc (upto - (r + 1))
  one-less = omega (arith, low)

  -- the first one is a program
  pub one-program : is_program script r ≡ true → programs_in script r (upto - r) ≡ programs_in script (r + 1) (upto - (r + 1)) + 1
  one-program is =
      let rest = filter (is_program script) (range_with_len (r + 1) (upto - (r + 1))) in
      ap (programs_in script r) one-less ∙ ap (λ (b : Bool). length (if b then r ∷ rest else rest)) is ∙ omega arith

  -- if the first one is no program, there are as many programs from the next one on
  pub no-program : is_program script r ≡ false → programs_in script r (upto - r) ≡ programs_in script (r + 1) (upto - (r + 1))
  no-program is =
      let rest = filter (is_program script) (range_with_len (r + 1) (upto - (r + 1))) in
      ap (programs_in script r) one-less ∙ ap (λ (b : Bool). length (if b then r ∷ rest else rest)) is
