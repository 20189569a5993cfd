use Rattle.std.proofs.Common.{sym, subst, ◌≡◌, ◌∷◌, Some}
use Rattle.program_defs.specs.LeastWalks.{HasWalked}
use Rattle.program_defs.specs.Walks.{filter_in}
use Rattle.program_defs.specs.declared.program.Program.TheVariants.{Path}
use Rattle.path_program.specs.Path.{HasPathed, next_pathed, path_asked}
use Rattle.path_program.proofs.path.PathProgramNodeProgram.see.Goals as goal

pub returns-clause-reads : goal.returns-clause-reads
returns-clause-reads c = λ v reads next h.
    let to = c.args.self.now.to in
    let bound = c.args.self.now.bound in
    let search = c.deref_mut.result.now in
    let program = path_asked to bound search in
    let asked = subst (λ s. next_pathed s ≡ Some v) (sym c.deref_mut.ensures.value) next in
    let before = subst (λ s. HasPathed to bound s reads) (sym c.deref_mut.ensures.value) h in
    let seen = c.see.ensures.reads program v reads asked before in
    let read = subst (λ state. HasWalked program c.see.new.self ((v, state) ∷ reads)) c.as_ref.ensures.value seen in
    subst (λ aim. HasWalked (Path aim.from to bound (filter_in aim.pass)) c.see.new.self ((v, c.args.state) ∷ reads)) (sym c.see.ensures.aim) read
