use Rattle.weaver_hands.proofs.starting.start.Goals as goal

pub begin_program-requires-clause-last : goal.begin_program-requires-clause-last
begin_program-requires-clause-last g c x is =
    c.begun_stamps_may_be_heard.ensures c.args.shared.now c.args.hand.now x c.requires.hand (c.requires.last x is)
