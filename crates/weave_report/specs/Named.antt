-- The requests of a script, found by their names. No public contract cites this.
use Rattle.std.specs.Prelude.{◌≡◌, ℕ, List}
use Rattle.weave_data.specs.Pairs.{at_key}
use Rattle.weave_report.specs.ReadingReplies.{request_named}
use Rattle.weave_report.specs.TextOf.{HasDistinctNames}
use Rattle.weave_report.specs.declared.read.named.Named.TheInside.{Inside}

-- the map has for each name the request of that name, in a script whose requests have distinct names
pub record IsFound (named : Inside) : Type 0 where
  pub tells : HasDistinctNames named.script.now
  pub places : (name : List ℕ) → at_key name named.places.entries ≡ request_named named.script.now name
