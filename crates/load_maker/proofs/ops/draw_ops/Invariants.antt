use Rattle.std.proofs.Common.{◌≡◌, ◌+◌}
use Rattle.std.specs.Prelude.{count_by}
use Rattle.load_maker.specs.Generated.{operation_of}
use Rattle.load_maker.specs.Words.{drawn_list, words_from}
use Rattle.graph_ops.specs.Operations.{is_get}
use Rattle.load_maker.proofs.ops.draw_ops.Given as goal

abbrev pub invariant-loop : goal.invariant-loop
invariant-loop l = record {
  drawn : (l.ops.items, words_from l.words) ≡ drawn_list (λ ops words. operation_of (l.initial.gets + count_by is_get ops) words) l.counter (words_from l.initial.words);
  gets : l.gets ≡ l.initial.gets + count_by is_get l.ops.items;
}
