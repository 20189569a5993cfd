use Rattle.std.proofs.Common.{sym, ap, ◌∙◌, append-nil, ◌++◌, ◌∷◌, ◌||◌, [], option_copied, is_some}
use Rattle.std.specs.Prelude.{if◌then◌else◌}
use Rattle.graph_ops.specs.Mentions.{is_among}
use Rattle.program_defs.specs.Searching.{SearchState, has_name, new_names}
use Rattle.program_defs.specs.Visits.{first_of}
use Rattle.program_defs.specs.Walks.{targets}
use Rattle.program_defs.proofs.Turning.{next-first, next-rest}
use Rattle.program_defs.proofs.search.Search.add.Goals as goal

pub returns-in-Some : goal.returns-in-Some
returns-in-Some c =
    let next = (next-first c.args.self.now c.args.v c.requires.next).0 in
    let view = c.self.view_is in
    let state = ap option_copied c.in-Some.is in
    record {
      aim = ap (λ (s : SearchState). s.aim) view;
      left = ap (λ (s : SearchState). s.left) view;
      over = ap (λ (s : SearchState). s.over) view;
      rest = ap (λ (s : SearchState). s.rest) (sym view) ∙ next-rest c.self.inside.at c.self.inside.level.items c.args.v (ap (λ (s : SearchState). first_of s.rest) view ∙ next);
      found = c.look.ensures.found ∙ (λ i. (view i).found ++ new_names (has_name (view i).reached) (targets (view i).aim.pass (sym state i)));
      reached = λ w. c.look.ensures.reached w ∙ (λ i. is_among (targets (view i).aim.pass (sym state i)) w || has_name (view i).reached w);
      present = c.push_reserved.ensures.items ∙ (λ i. (view i).present ++ (if is_some (sym state i) then c.args.v ∷ [] else []));
    }

pub returns-in_default : goal.returns-in_default
returns-in_default c =
    let next = (next-first c.args.self.now c.args.v c.requires.next).0 in
    let view = c.self.view_is in
    let state = ap option_copied c.in_default.is in
    record {
      aim = ap (λ (s : SearchState). s.aim) view;
      left = ap (λ (s : SearchState). s.left) view;
      over = ap (λ (s : SearchState). s.over) view;
      rest = ap (λ (s : SearchState). s.rest) (sym view) ∙ next-rest c.self.inside.at c.self.inside.level.items c.args.v (ap (λ (s : SearchState). first_of s.rest) view ∙ next);
      found = sym (append-nil _) ∙ (λ i. (view i).found ++ new_names (has_name (view i).reached) (targets (view i).aim.pass (sym state i)));
      reached = λ w. (λ i. is_among (targets (view i).aim.pass (sym state i)) w || has_name (view i).reached w);
      present = sym (append-nil _) ∙ (λ i. (view i).present ++ (if is_some (sym state i) then c.args.v ∷ [] else []));
    }
