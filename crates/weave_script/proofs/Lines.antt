-- A line of a program or a transaction with a new name is accepted.
-- Used by `after_prog`, `after_tx` and ReadAgain.
use Rattle.std.proofs.Common.{◌≡◌, ℕ, false, List, [], ◌∷◌, ◌++◌, Option, Some, None, Ok, Err, refl, sym, ap, ◌∙◌}
use Rattle.std.specs.Prelude.{is_some, if◌then◌else◌}
use Rattle.weave_script.specs.declared.fault.Cause.TheVariants as causes
use Rattle.weave_data.specs.Pairs.{at_key, has}
use Rattle.weave_data.specs.declared.name.Name.{Name}
use Rattle.program_defs.specs.declared.program.Program.{Program}
use Rattle.program_defs.specs.declared.script.Request.{Request}
use Rattle.program_defs.specs.declared.script.Work.TheVariants.{Look}
use Rattle.weave_text.specs.Lines.{Line}
use Rattle.weave_script.specs.declared.read.partial_script.Opening.{Opening}
use Rattle.weave_script.specs.declared.read.partial_script.Reading.{Reading}
use Rattle.weave_data.specs.Steps.{◌>>=◌}
use Rattle.weave_script.specs.Indexed.{IsPlaces}
use Rattle.weave_script.specs.Reading.{after_prog, unless_taken}
use Rattle.weave_script.specs.Requests.{request_of, prog_of}
use Rattle.weave_script.specs.Steps.{place_of}

nothing : (found : Option ℕ) → is_some found ≡ false → found ≡ None
nothing None e = refl
nothing (Some n) e = absurd cc

-- no request has a name that the map lacks
pub is_free : (name : Name) (requests : List Request) (pairs : List (List ℕ × ℕ)) → IsPlaces pairs requests → has name pairs ≡ false → place_of name requests ≡ None
is_free name requests pairs places lacks = sym (places name) ∙ nothing (at_key name pairs) lacks

-- a new name isn't taken
pub unless_taken-free : {A : Type 0} (name : Name) (requests : List Request) (value : A) → place_of name requests ≡ None → unless_taken name requests value ≡ Ok value
unless_taken-free name requests value free = ap (λ (found : Option ℕ). if is_some found then Err causes.Taken else Ok value) free

-- a program with a new name
pub after_prog-ok : (reading : Reading) (line : Line) (prog : Opening × Program) → prog_of reading.gates line ≡ Ok prog → place_of prog.0.name reading.requests ≡ None
    → after_prog reading line ≡ Ok (record reading { requests = reading.requests ++ request_of prog.0 (Look prog.1) ∷ [] })
after_prog-ok reading line prog read free =
    ap (λ read. read >>= λ prog. unless_taken prog.0.name reading.requests (record reading { requests = reading.requests ++ request_of prog.0 (Look prog.1) ∷ [] })) read
    ∙ unless_taken-free prog.0.name reading.requests (record reading { requests = reading.requests ++ request_of prog.0 (Look prog.1) ∷ [] }) free
