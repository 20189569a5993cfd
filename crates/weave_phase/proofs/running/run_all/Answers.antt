use denote.Builtin.{u32}
use denote.Param.Send.{IsSync, sendable}
use Rattle.std.proofs.Common.{get_or, refl}
use Rattle.std.proofs.Crossing.{sync}
use Rattle.std.proofs.lemmas.Option.{slice_get_read}
use Rattle.weaver_locks.proofs.Crossing.{shared_sync}
use Rattle.program_defs.proofs.script.Script.TheSendSync as script
use Rattle.weave_phase.proofs.Crossing.{seat_send}
use Rattle.weave_phase.proofs.Ran.{have_run, ran_as}
use Rattle.weave_phase.proofs.running.run_all.Goals as goal

pub for_each_mut-requires-send-T : goal.for_each_mut-requires-send-T
for_each_mut-requires-send-T g c κs within = search (seat_send, sendable) depth 12

number_sync : IsSync u32
number_sync = search sendable

-- What the closure holds may be shared: each reference, in the order in which they are captured. The search doesn't see
-- through the closure's type.
pub for_each_mut-requires-sync-F : goal.for_each_mut-requires-sync-F
for_each_mut-requires-sync-F g c κs within = record {
  shared = λ x b o κ. (
    (
      (λ q. tt, c.type_bounds.sync-R.shared x.0.now x.0.ref_ptr.0 x.0.ref_ptr.1 _),
      (
        (λ q. tt, sync.shared x.1.now x.1.ref_ptr.0 x.1.ref_ptr.1 κ),
        (
          (λ q. tt, shared_sync.shared x.2.now x.2.ref_ptr.0 x.2.ref_ptr.1 _),
          (
            (λ q. tt, script.the_sync.shared x.3.now x.3.ref_ptr.0 x.3.ref_ptr.1 _),
            (
              (λ q. tt, number_sync.shared x.4.now x.4.ref_ptr.0 x.4.ref_ptr.1 κ),
              ((λ q. tt, c.type_bounds.sync-P.shared x.5.now x.5.ref_ptr.0 x.5.ref_ptr.1 _), tt),
            ),
          ),
        ),
      ),
    ),
    λ q. tt,
  );
}

pub for_each_mut-requires-clause-accepts : goal.for_each_mut-requires-clause-accepts
for_each_mut-requires-clause-accepts g c κs within = λ i p low at. (
  (
    c.requires.limits,
    c.requires.phase,
    c.requires.locks,
    c.requires.ready i p.now (slice_get_read c.args.seats.now _ i p.now refl low at),
  ),
  (search sendable depth 12, search sendable depth 12),
)

pub returns-then-not-all_done-clause-ran : goal.returns-then-not-all_done-clause-ran
returns-then-not-all_done-clause-ran g c =
    have_run c.args.shared.now c.args.script.now c.args.phase c.args.seats.now c.for_each_mut.new.s c.for_each_mut.auto.s (λ k d low.
    let changed = (c.for_each_mut.ensures k d low).1 in
    ran_as c.args.shared.now c.args.script.now c.args.phase changed.argument.now changed.after_call.now (get_or c.args.seats.now k d) (get_or c.for_each_mut.new.s k d)
    changed.argument_is changed.left changed.call)

pub returns-clause-ran : goal.returns-clause-ran
returns-clause-ran g c =
    have_run c.args.shared.now c.args.script.now c.args.phase c.args.seats.now c.for_each_mut.new.s c.for_each_mut.auto.s (λ k d low.
    let changed = (c.for_each_mut.ensures k d low).1 in
    ran_as c.args.shared.now c.args.script.now c.args.phase changed.argument.now changed.after_call.now (get_or c.args.seats.now k d) (get_or c.for_each_mut.new.s k d)
    changed.argument_is changed.left changed.call)
