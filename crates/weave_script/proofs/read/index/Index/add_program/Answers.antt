use Rattle.std.proofs.Common.{sym, ap, ◌∙◌, subst, arith, ◌+◌}
use Rattle.program_defs.specs.declared.script.Work.TheVariants.{Look}
use Rattle.weave_script.specs.Indexed.{IsSetOf}
use Rattle.weave_script.specs.Requests.{request_of}
use Rattle.weave_script.proofs.Indexing.{places_put, vertices_of-push, gets_of-push, programs_of-push}
use Rattle.weave_script.proofs.read.index.Index.add_program.Goals as goal

pub returns : goal.returns
returns c = λ requests opening index new named. record {
  places = places_put _ _ requests c.args.name c.args.place _ c.in_ok-insert.ensures.updates.0 index.places new named;
  vertices = subst (IsSetOf c.add_vertices_of_program.new.vertices.entries) (sym (vertices_of-push requests (request_of opening (Look c.args.program.now)))) (c.in_ok-add_vertices_of_program.ensures _ index.vertices);
  programs = ap (λ n. n + 1) index.programs ∙ sym (programs_of-push requests (request_of opening (Look c.args.program.now)));
  gets = index.gets ∙ omega (arith, gets_of-push requests (request_of opening (Look c.args.program.now)));
}
