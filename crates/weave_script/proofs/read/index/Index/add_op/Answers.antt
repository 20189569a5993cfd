use Rattle.std.proofs.Common.{sym, ap, ◌∙◌, subst, ◌+◌}
use Rattle.weave_script.specs.Indexed.{IsSetOf}
use Rattle.weave_script.proofs.Indexing.{op_places, op_vertices, op_programs, get_more, no_get_more}
use Rattle.weave_script.proofs.read.index.Index.add_op.Goals as goal

pub returns-then-is_get : goal.returns-then-is_get
returns-then-is_get c = λ requests opening ops index. record {
  places = op_places _ requests opening ops _ index.places;
  vertices = subst (IsSetOf c.add_vertices_of_op.new.vertices.entries) (sym (op_vertices requests opening ops c.args.op.now)) (c.in_ok-add_vertices_of_op.ensures _ index.vertices);
  programs = index.programs ∙ sym (op_programs requests opening ops _);
  gets = ap (λ n. n + 1) index.gets ∙ get_more requests opening ops c.args.op.now (sym c.is_get.ensures ∙ c.if-is_get.true);
}

pub returns-else-is_get : goal.returns-else-is_get
returns-else-is_get c = λ requests opening ops index. record {
  places = op_places _ requests opening ops _ index.places;
  vertices = subst (IsSetOf c.add_vertices_of_op.new.vertices.entries) (sym (op_vertices requests opening ops c.args.op.now)) (c.in_ok-add_vertices_of_op.ensures _ index.vertices);
  programs = index.programs ∙ sym (op_programs requests opening ops _);
  gets = index.gets ∙ no_get_more requests opening ops c.args.op.now (sym c.is_get.ensures ∙ c.if-is_get.false);
}
