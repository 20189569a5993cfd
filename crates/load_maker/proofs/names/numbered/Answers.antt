use Rattle.std.proofs.Common.{[], ◌∷◌, ap, Option, ◌∙◌, sym}
use Rattle.std.specs.Option.{is_some, unwrap_or}
use Rattle.weave_data.specs.declared.name.Name.{Name}
use Rattle.load_maker.specs.Generated.{numbered_name}
use Rattle.load_maker.proofs.NumberedNames.{parsed}
use Rattle.load_maker.proofs.names.numbered.Goals as goal

pub unwrap-requires : goal.unwrap-requires
unwrap-requires c =
    ap (λ (o : Option Name). is_some o) (parsed c.args.letter c.args.number c.as_bytes-digits.result.now c.copy_from_slice.new.self _ c.parse.result c.requires c.ranges.number.fits (c.as_bytes-digits.ensures.value ∙ c.format.ensures.text) c.copy_from_slice.ensures.after c.parse.ensures)

pub returns : goal.returns
returns c =
    let parse = parsed c.args.letter c.args.number c.as_bytes-digits.result.now c.copy_from_slice.new.self _ c.parse.result c.requires c.ranges.number.fits (c.as_bytes-digits.ensures.value ∙ c.format.ensures.text) c.copy_from_slice.ensures.after c.parse.ensures in
    ap (λ (o : Option Name). unwrap_or o (numbered_name (c.args.letter ∷ []) c.args.number)) (sym c.unwrap.ensures ∙ parse)
