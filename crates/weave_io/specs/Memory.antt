-- A source and a sink over memory, as contracts see them.
use Rattle.std.specs.Prelude.{ℕ, List}

-- a source: the bytes still to come, the numbers of the calls that fail, the most bytes that a call gives, how many
-- calls there were and how many failed
pub record Reading : Type 0 where
  pub left : List ℕ
  pub fails : List ℕ
  pub piece : ℕ
  pub calls : ℕ
  pub faults : ℕ

-- a sink: the bytes taken, the numbers of the calls that fail, the most bytes that a call takes, how many calls there
-- were, how many failed and how many took nothing
pub record Writing : Type 0 where
  pub written : List ℕ
  pub fails : List ℕ
  pub piece : ℕ
  pub calls : ℕ
  pub faults : ℕ
  pub stalls : ℕ
