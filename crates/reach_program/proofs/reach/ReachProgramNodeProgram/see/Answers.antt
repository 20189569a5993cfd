use Rattle.std.proofs.Common.{sym, subst, ◌≡◌, ◌∷◌, Some}
use Rattle.program_defs.specs.Searching.{HasSearched}
use Rattle.reach_program.specs.Reach.{HasReached, next_reached, program_asked}
use Rattle.reach_program.proofs.reach.ReachProgramNodeProgram.see.Goals as goal

pub returns-clause-reads : goal.returns-clause-reads
returns-clause-reads c = λ v reads next h.
    let to = c.args.self.now.goal in
    let search = c.deref_mut.result.now in
    let asked = subst (λ s. next_reached s ≡ Some v) (sym c.deref_mut.ensures.value) next in
    let before : HasReached to search reads = subst (λ s. HasReached to s reads) (sym c.deref_mut.ensures.value) h in
    let seen = c.see.ensures.reads (program_asked to search.aim) v reads asked before in
    let read = subst (λ state. HasSearched (program_asked to search.aim) c.see.new.self ((v, state) ∷ reads)) c.as_ref.ensures.value seen in
    subst (λ aim. HasSearched (program_asked to aim) c.see.new.self ((v, c.args.state) ∷ reads)) (sym c.see.ensures.aim) read
