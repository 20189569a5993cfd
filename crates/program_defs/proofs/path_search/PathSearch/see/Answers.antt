use Rattle.std.proofs.Common.{◌≡◌, ◌++◌, sym, ap, subst, ◌∙◌, option_copied}
use Rattle.std.proofs.lemmas.Option.{same_Some}
use Rattle.program_defs.specs.LeastWalks.{WalkState, HasWalked, mark_in, ranks, hops_from}
use Rattle.program_defs.specs.Searching.{next_of}
use Rattle.program_defs.specs.Walks.{targets}
use Rattle.program_defs.proofs.Pathing.{see-on, see-down}
use Rattle.program_defs.proofs.path_search.PathSearch.see.Goals as goal

pub returns-else-last-clause-reads : goal.returns-else-last-clause-reads
returns-else-last-clause-reads c = λ program v reads next h.
    let walk : WalkState = record { search = c.self.inside.search; marks = c.self.inside.marks.entries; hops = c.self.inside.hops.items; room = _ } in
    let was : HasWalked program walk reads = subst (λ w. HasWalked program w reads) (sym c.self.view_is) h in
    let first = ap (λ (w : WalkState). next_of w.search) c.self.view_is ∙ next in
    let same : c.in-Some.v ≡ v = same_Some _ _ (sym c.in-Some.is ∙ c.next.ensures ∙ first) in
    let rank = c.rank_of-rank.ensures ∙ ap (λ (w : WalkState). ranks (mark_in w.marks) c.in-Some.v) (sym c.self.view_is) ∙ ap (ranks (mark_in walk.marks)) same in
    let noted = c.note.ensures.hops ∙ ap (λ u. c.self.inside.hops.items ++ hops_from u c.rank_of-rank.result (targets c.pass-pass.result (option_copied c.args.state))) same in
    see-on program walk v (option_copied c.args.state) reads was first c.see.new.self (c.see.ensures.onward v first) c.see.ensures.aim c.rank_of-rank.result rank c.pass-pass.result c.pass-pass.ensures c.note.new.hops.items noted c.is_last-last.result c.is_last-last.ensures _ c.if-last.false

pub returns-then-last-clause-reads : goal.returns-then-last-clause-reads
returns-then-last-clause-reads c = λ program v reads next h.
    let walk : WalkState = record { search = c.self.inside.search; marks = c.self.inside.marks.entries; hops = c.self.inside.hops.items; room = _ } in
    let was : HasWalked program walk reads = subst (λ w. HasWalked program w reads) (sym c.self.view_is) h in
    let first = ap (λ (w : WalkState). next_of w.search) c.self.view_is ∙ next in
    let same : c.in-Some.v ≡ v = same_Some _ _ (sym c.in-Some.is ∙ c.next.ensures ∙ first) in
    let rank = c.rank_of-rank.ensures ∙ ap (λ (w : WalkState). ranks (mark_in w.marks) c.in-Some.v) (sym c.self.view_is) ∙ ap (ranks (mark_in walk.marks)) same in
    let noted = c.note.ensures.hops ∙ ap (λ u. c.self.inside.hops.items ++ hops_from u c.rank_of-rank.result (targets c.pass-pass.result (option_copied c.args.state))) same in
    see-down program walk v (option_copied c.args.state) reads was first c.see.new.self (c.see.ensures.onward v first) c.see.ensures.aim c.rank_of-rank.result rank c.pass-pass.result c.pass-pass.ensures c.note.new.hops.items noted c.is_last-last.result c.is_last-last.ensures _ c.if-last.true c.mark_targets.new.marks.entries c.mark_targets.new.hops.items c.mark_targets.ensures
