use Rattle.std.proofs.Common.{◌≡◌, [], ◌∷◌, ◌++◌, length, None, Ok, sym, ap, ◌∙◌, subst}
use Rattle.program_defs.specs.declared.script.Work.TheVariants.{Change}
use Rattle.weave_data.specs.Steps.{◌>>=◌}
use Rattle.weave_script.specs.Indexed.{IsIndexOf}
use Rattle.weave_script.specs.Reading.{requests_so_far, unless_taken}
use Rattle.weave_script.specs.Requests.{request_of}
use Rattle.weave_script.specs.Steps.{place_of}
use Rattle.weave_script.specs.declared.read.partial_script.Place.TheVariants.{Inside}
use Rattle.weave_script.proofs.Lines.{is_free, unless_taken-free}
use Rattle.weave_script.proofs.read.lines.after_tx.Goals as goal

pub returns : goal.returns
returns c =
    let reading = c.args.reader.now.reading in
    let opening = c.in-Ok.opening in
    let index : IsIndexOf c.args.reader.now.index reading.requests = subst (λ p. IsIndexOf c.args.reader.now.index (requests_so_far p reading.requests)) c.requires.place c.requires.ready.indexed in
    let free : place_of opening.name reading.requests ≡ None = is_free opening.name reading.requests c.args.reader.now.index.places.entries index.places (cc (c.contains_key.ensures, c.if-contains_key.false)) in (
      ap (λ read. read >>= λ opening. unless_taken opening.name reading.requests (record reading { place = Inside opening [] })) (sym c.tx_of.ensures ∙ c.in-Ok.is)
          ∙ unless_taken-free opening.name reading.requests (record reading { place = Inside opening [] }) free
          ∙ ap (λ ops. Ok (record reading { place = Inside opening ops })) (sym c.new.ensures),
      subst (λ ops. IsIndexOf c.add_transaction.new.self (reading.requests ++ request_of opening (Change ops) ∷ [])) (sym c.new.ensures)
          (c.in_ok-add_transaction.ensures reading.requests opening index (free, ap length c.as_slice.ensures) (λ i. opening.name)),
    )
