use Rattle.std.proofs.Common.{◌≡◌, [], ◌∷◌, ◌++◌, length, map, Ok, None, sym, ap, ◌∙◌, subst}
use Rattle.program_defs.specs.declared.script.Work.TheVariants.{Look}
use Rattle.weave_script.specs.Indexed.{IsIndexOf}
use Rattle.weave_script.specs.Reading.{requests_so_far}
use Rattle.weave_script.specs.Requests.{request_of}
use Rattle.weave_script.specs.Steps.{place_of}
use Rattle.weave_script.proofs.Lines.{after_prog-ok, is_free}
use Rattle.weave_script.proofs.read.lines.after_prog.Goals as goal

pub returns : goal.returns
returns c =
    let reading = c.args.reader.now.reading in
    let prog = c.in-Ok.prog in
    let index : IsIndexOf c.args.reader.now.index reading.requests = subst (λ p. IsIndexOf c.args.reader.now.index (requests_so_far p reading.requests)) c.requires.place c.requires.ready.indexed in
    let free : place_of prog.0.name reading.requests ≡ None = is_free prog.0.name reading.requests c.args.reader.now.index.places.entries index.places (cc (c.contains_key.ensures, c.if-contains_key.false)) in (
      after_prog-ok reading (map (λ word. word.now) c.args.words.now) prog (sym c.prog_of.ensures ∙ c.in-Ok.is) free ∙ ap (λ requests. Ok (record reading { requests = requests })) (sym c.in_ok-push.ensures.ok),
      subst (λ requests. IsIndexOf c.add_program.new.self (requests_so_far reading.place requests)) (sym c.in_ok-push.ensures.ok)
          (subst (λ p. IsIndexOf c.add_program.new.self (requests_so_far p (reading.requests ++ request_of prog.0 (Look prog.1) ∷ []))) (sym c.requires.place)
          (c.in_ok-add_program.ensures reading.requests prog.0 index (free, ap length c.as_slice.ensures) (λ i. prog.0.name))),
    )
