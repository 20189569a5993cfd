use Rattle.std.proofs.Common.{ℕ, [], ◌∷◌, ◌++◌, map, Option, Ok, sym, ap, ◌∙◌}
use Rattle.weave_data.specs.declared.name.Name.{Name}
use Rattle.weave_data.specs.Steps.{◌>>=◌}
use Rattle.weave_script.specs.Steps.{step_of}
use Rattle.weave_script.specs.declared.read.partial_script.Place.TheVariants.{Behind}
use Rattle.weave_script.proofs.read.lines.after_step.Goals as goal

pub returns-in-Err : goal.returns-in-Err
returns-in-Err c =
    let reading = c.args.reader.now.reading in
    let line = map (λ word. word.now) c.args.words.now in
    ap (λ (places : Name → Option ℕ). step_of reading.gates reading.shards places line >>= λ step. Ok (record reading { place = Behind (c.args.steps ++ step ∷ []) })) (λ i name. sym (c.requires.places name) i)
    ∙ ap (λ read. read >>= λ step. Ok (record reading { place = Behind (c.args.steps ++ step ∷ []) })) (sym c.step_of.ensures ∙ c.in-Err.is)
