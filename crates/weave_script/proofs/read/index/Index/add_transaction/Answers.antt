use Rattle.std.proofs.Common.{sym, ◌∙◌, subst}
use Rattle.weave_script.specs.Indexed.{IsSetOf}
use Rattle.weave_script.proofs.Indexing.{places_put, transaction_vertices, transaction_counts}
use Rattle.weave_script.proofs.read.index.Index.add_transaction.Goals as goal

pub returns : goal.returns
returns c = λ requests opening index new named. record {
  places = places_put _ _ requests c.args.name c.args.place _ c.in_ok-insert.ensures.updates.0 index.places new named;
  vertices = subst (IsSetOf c.args.self.now.vertices.entries) (sym (transaction_vertices requests opening)) index.vertices;
  programs = index.programs ∙ sym (transaction_counts requests opening).0;
  gets = index.gets ∙ sym (transaction_counts requests opening).1;
}
