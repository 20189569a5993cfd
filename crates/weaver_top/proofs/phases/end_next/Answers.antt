use Rattle.weaver_top.proofs.PhaseEnds.{end-within, ended-next, ended-with}
use Rattle.weaver_top.proofs.phases.end_next.Goals as goal

pub end_phase-requires : goal.end_phase-requires
end_phase-requires c = (end-within _ _ _ _ _ c.requires.rise c.end_of-end.ensures.is).1

pub returns-then-end-bound-clause-run : goal.returns-then-end-bound-clause-run
returns-then-end-bound-clause-run c = ended-with c.the_crates_below_keep_their_laws.ensures _ c.end_of-end.ensures.limits c.args.phase c.args.bound c.end_of-end.result _ c.requires.rise c.end_of-end.ensures.is c.if-end-bound.true c.requires.run

pub returns-clause-run : goal.returns-clause-run
returns-clause-run c = ended-next c.the_crates_below_keep_their_laws.ensures _ c.end_of-end.ensures.limits c.args.phase c.args.bound _ _ _ c.requires.rise c.end_of-end.ensures.is c.requires.run c.in_ok-end_phase.ensures.ends
