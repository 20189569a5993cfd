use Rattle.std.proofs.Common.{map, sym, arith}
use Rattle.std.proofs.lemmas.List.{length-map}
use Rattle.weave_script.proofs.Forms.{prog_of-short}
use Rattle.weave_script.proofs.read.requests.prog_of.Goals as goal

pub returns-in_default : goal.returns-in_default
returns-in_default c = sym (prog_of-short c.args.gates (map (λ word. word.now) c.args.words.now) (omega (arith, length-map c.args.words.now (λ word. word.now), c.in_default.len_below)))
