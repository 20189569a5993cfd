use Rattle.std.proofs.Common.{ap, sym, ◌∙◌, arith, Some}
use Rattle.weave_io.proofs.Pieces.{piece_and_rest}
use Rattle.weave_io.proofs.memory_source.MemorySourceSource.take.Goals as goal

pub returns-clause-taken : goal.returns-clause-taken
returns-clause-taken c =
    ap Some (sym (ap (λ s. s.left) c.self.view_is) ∙ piece_and_rest _ _ _ c.args.buf.now _ _ c.as_slice-2.ensures.value (omega arith) c.copy_from_slice.ensures.after)
