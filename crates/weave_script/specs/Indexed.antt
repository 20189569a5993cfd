-- What the reader keeps besides the script so far. No public contract cites this.
use Rattle.std.specs.Prelude.{◌≡◌, ℕ, List, length, None, Result, Ok, Err}
use Rattle.weave_data.specs.Pairs.{at_key, has}
use Rattle.weave_data.specs.declared.name.Name.{Name}
use Rattle.graph_ops.specs.Mentions.{is_among}
use Rattle.program_defs.specs.declared.script.Request.{Request}
use Rattle.weave_script.specs.declared.fault.LineFault.{LineFault}
use Rattle.weave_script.specs.declared.fault.LineFault.TheVariants.{Refused, Memory}
use Rattle.weave_script.specs.declared.read.index.Index.{Index}
use Rattle.weave_script.specs.declared.read.lines.Reader.{Reader}
use Rattle.weave_script.specs.declared.read.partial_script.Reading.{Reading}
use Rattle.weave_script.specs.Fields.{ReadOrCause}
use Rattle.weave_script.specs.Limits.{over_limit, vertices_of, count_programs, count_gets}
use Rattle.weave_script.specs.Reading.{requests_so_far, counts_so_far}
use Rattle.weave_script.specs.Steps.{place_of}

-- the map has these names as its keys
pub record IsSetOf {X : Type 0} (pairs : List (List ℕ × X)) (names : List Name) : Type 0 where
  pub among : (name : Name) → has name pairs ≡ is_among names name
  pub count : length pairs ≡ length names

-- the map has at each name the place of its request
abbrev pub IsPlaces : List (List ℕ × ℕ) → List Request → Type 0
IsPlaces pairs requests = (name : Name) → at_key name pairs ≡ place_of name requests

-- no request has the name, and the place is that of a request after all of them
abbrev pub IsNewRequest : Name → ℕ → List Request → Type 0
IsNewRequest name place requests = (place_of name requests ≡ None) × (place ≡ length requests)

-- the index is that of these requests
pub record IsIndexOf (index : Index) (requests : List Request) : Type 0 where
  pub places : IsPlaces index.places.entries requests
  pub vertices : IsSetOf index.vertices.entries (vertices_of requests)
  pub programs : index.programs ≡ count_programs requests
  pub gets : index.gets ≡ count_gets requests

-- the reader's index is that of its requests so far
abbrev pub IsIndexed : Reader → Type 0
IsIndexed reader = IsIndexOf reader.index (requests_so_far reader.reading.place reader.reading.requests)

-- and no limit is met
pub record IsReaderReady (reader : Reader) : Type 0 where
  pub indexed : IsIndexed reader
  pub within : over_limit (counts_so_far reader.reading) ≡ None

-- a function changes the reader to that after a line, or gives the line's cause, unless memory runs out
abbrev pub GivesReading : (Reader → Type 0) → Result Unit LineFault → Reader → ReadOrCause Reading → Type 0
GivesReading Fits (Ok done) reader read = (read ≡ Ok reader.reading) × Fits reader
GivesReading Fits (Err (Refused cause)) reader read = read ≡ Err cause
GivesReading Fits (Err Memory) reader read = Unit {0}

-- the same of a function that takes no memory
abbrev pub GivesReadingExactly : (Reader → Type 0) → Result Unit LineFault → Reader → ReadOrCause Reading → Type 0
GivesReadingExactly Fits (Ok done) reader read = (read ≡ Ok reader.reading) × Fits reader
GivesReadingExactly Fits (Err (Refused cause)) reader read = read ≡ Err cause
GivesReadingExactly Fits (Err Memory) reader read = ⊥
