use Rattle.std.proofs.Common.{sym, arith}
use Rattle.std.proofs.lemmas.List.{get_or_past}
use Rattle.order_witness.proofs.BitLemmas.{tested, past}
use Rattle.order_witness.proofs.bits.bit.Goals as goal

pub returns-in-Some : goal.returns-in-Some
returns-in-Some c = tested c.args.words.now c.in-Some.word.now c.args.number (grind (arith, c.in-Some.ensures.lookup))

pub returns-in-None : goal.returns-in-None
returns-in-None c = sym (past c.args.words.now c.args.number (get_or_past c.args.words.now _ 0 (grind (arith, c.in-None.ensures.lookup))))
