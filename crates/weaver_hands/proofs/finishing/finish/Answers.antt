use Rattle.std.proofs.Common.{Err, sym, subst, ◌∙◌}
use Rattle.path_program.specs.AnyPrograms.{any_of}
use Rattle.weaver_locks.specs.Hands.{hand_number, seen_by}
use Rattle.weaver_locks.specs.Locks.{shard_count}
use Rattle.weaver_hands.specs.Programs.{own_reads, FinishesAs}
use Rattle.weaver_hands.proofs.Alone.{none-at-gate}
use Rattle.weaver_hands.proofs.OwnReads.{own-among}
use Rattle.weaver_hands.proofs.Refusals.{never-idle}
use Rattle.weaver_hands.proofs.finishing.finish.Goals as goal

pub finish-requires-clause-visits : goal.finish-requires-clause-visits
finish-requires-clause-visits g c =
    let hand = c.args.hand.now in
    let running = c.args.running.now in
    let was = c.requires.running in
    let reads = own_reads hand running.request in
    let program = any_of running.walk in
    record {
      program = program;
      reads = reads;
      read = own-among (hand_number hand) running.request (seen_by hand);
      whole = sym (c.order_of_reads_is_free.ensures.next was.reads reads program was.same)
          ∙ sym (c.shows_its_next.ensures was.reads was.walk) ∙ c.requires.over;
    }

pub returns-in-Ok-clause-done : goal.returns-in-Ok-clause-done
returns-in-Ok-clause-done g c =
    let hand = c.args.hand.now in
    let running = c.args.running.now in
    let was = c.requires.running in
    let reads = own_reads hand running.request in
    let program = any_of running.walk in
    let hold = c.in-Ok.ensures.hold in
    record {
      before = hold.0;
      was = hold.1;
      whole = sym (c.order_of_reads_is_free.ensures.next was.reads reads program was.same)
          ∙ sym (c.shows_its_next.ensures was.reads was.walk) ∙ c.requires.over;
      plain = c.order_of_reads_is_free.ensures.answer was.reads reads program c.in_ok-answer.answer was.same
          (c.in_ok-answer.ensures was.reads was.walk);
    }

pub out_of_memory-requires : goal.out_of_memory-requires
out_of_memory-requires g c =
    let hold = c.in-Err.ensures.hold in
    never-idle c.hands_keep_their_laws.ensures c.own_programs_are_running.ensures c.args.shared.now c.args.hand.now c.finish.new.hand
    c.requires.hand c.finish.ensures.hand c.args.running.now c.requires.running hold.0 hold.1 c.in-Err.fault hold.2

pub returns-in-Err-clause-done : goal.returns-in-Err-clause-done
returns-in-Err-clause-done g c =
    let hold = c.in-Err.ensures.hold in
    subst (λ fault. FinishesAs (shard_count c.args.shared.now) c.args.hand.now c.finish.new.hand c.args.running.now (Err fault)) (sym c.out_of_memory.ensures)
    (none-at-gate c.args.hand.now c.finish.new.hand c.args.running.now.stamp.home hold.0 hold.1)
