use Rattle.std.proofs.Common.{◌≡◌, ◌≤◌, refl, ap, ◌∙◌, arith}
use Rattle.program_defs.specs.declared.script.Script.{Script}
use Rattle.weaver_workers.specs.Phases.{phase_end, phase_start}
use Rattle.weaver_top.proofs.OnThreads.{answered, end-fits, ended-already, has-phase, none-flies, of-workers, runs-and-ends, runs-no-request}
use Rattle.weaver_top.proofs.on_threads.run_and_end.Goals as goal

pub run_phase-requires-clause-phase : goal.run_phase-requires-clause-phase
run_phase-requires-clause-phase g c κs within = has-phase c.args.core.script c.args.phase c.requires.number c.requires.rise

pub run_phase-requires-clause-landed : goal.run_phase-requires-clause-landed
run_phase-requires-clause-landed g c κs within =
    none-flies c.the_crates_below_keep_their_laws.ensures c.args.core.script c.script.ensures.limits c.args.phase (phase_start c.args.core.script c.args.phase) c.args.core.state.account c.requires.run

pub run_phase-requires-clause-before : goal.run_phase-requires-clause-before
run_phase-requires-clause-before g c κs within =
    answered c.the_crates_below_keep_their_laws.ensures c.args.core.script c.script.ensures.limits c.args.phase (phase_start c.args.core.script c.args.phase) c.args.core.state.account c.requires.run

pub end_phase-requires : goal.end_phase-requires
end_phase-requires g c =
    end-fits c.args.core.script c.in_ok-core.core.script c.args.phase c.end_of_phase-end.result (has-phase c.args.core.script c.args.phase c.requires.number c.requires.rise)
    c.in_ok-core.ensures.script (c.end_of_phase-end.ensures ∙ ap (λ (s : Script). phase_end s c.args.phase) c.script-2.ensures.script)

pub returns-clause-ends : goal.returns-clause-ends
returns-clause-ends g c =
    runs-and-ends c.the_crates_below_keep_their_laws.ensures c.args.core.script c.script.ensures.limits c.args.phase c.end_of_phase-end.result c.args.core c.in_ok-core.core c.end_phase.new.core.state.account
    refl (c.script-3.ensures.core).account c.in_ok-core.ensures (c.end_of_phase-end.ensures ∙ ap (λ (s : Script). phase_end s c.args.phase) c.script-2.ensures.script) c.in_ok-end_phase.ensures.ends

pub returns-then-end-from-clause-ends : goal.returns-then-end-from-clause-ends
returns-then-end-from-clause-ends g c =
    let end-is : c.end_of_phase-end.result ≡ phase_end c.args.core.script c.args.phase = c.end_of_phase-end.ensures ∙ ap (λ (s : Script). phase_end s c.args.phase) c.script-2.ensures.script in
    let from-is : c.start_of_phase-from.result ≡ phase_start c.args.core.script c.args.phase = c.start_of_phase-from.ensures ∙ ap (λ (s : Script). phase_start s c.args.phase) c.script.ensures.script in
    let test = c.if-end-from.true in
    let no-later : phase_end c.args.core.script c.args.phase ≤ phase_start c.args.core.script c.args.phase = omega (arith, end-is, from-is, test) in
    ended-already c.the_crates_below_keep_their_laws.ensures c.args.core.script c.script.ensures.limits c.args.phase c.args.core.state.account no-later c.requires.run

pub returns-clause-workers : goal.returns-clause-workers
returns-clause-workers g c =
    of-workers c.the_crates_below_keep_their_laws.ensures c.args.core.script c.script.ensures.limits c.args.phase c.end_of_phase-end.result c.args.core c.in_ok-core.core c.end_phase.new.core.state.account
    refl (c.script-3.ensures.core).account c.requires.run c.in_ok-core.ensures c.in_ok-end_phase.ensures.ends

pub returns-then-end-from-clause-workers : goal.returns-then-end-from-clause-workers
returns-then-end-from-clause-workers g c =
    let end-is : c.end_of_phase-end.result ≡ phase_end c.args.core.script c.args.phase = c.end_of_phase-end.ensures ∙ ap (λ (s : Script). phase_end s c.args.phase) c.script-2.ensures.script in
    let from-is : c.start_of_phase-from.result ≡ phase_start c.args.core.script c.args.phase = c.start_of_phase-from.ensures ∙ ap (λ (s : Script). phase_start s c.args.phase) c.script.ensures.script in
    let test = c.if-end-from.true in
    let no-later : phase_end c.args.core.script c.args.phase ≤ phase_start c.args.core.script c.args.phase = omega (arith, end-is, from-is, test) in
    let laws = c.the_crates_below_keep_their_laws.ensures in
    let script = c.args.core.script in
    of-workers laws script c.script.ensures.limits c.args.phase (phase_end script c.args.phase) c.args.core c.args.core c.args.core.state.account
    refl c.requires.run.is_account c.requires.run (runs-no-request laws script c.script.ensures.limits c.args.phase c.args.core refl no-later c.requires.run)
    (ended-already laws script c.script.ensures.limits c.args.phase c.args.core.state.account no-later c.requires.run)
