use Rattle.gate_lock.proofs.lower_laws.the_crates_below_keep_their_laws.Goals as goal

pub returns : goal.returns
returns c = record {
  hears = c.a_log_goes_on.ensures.hears;
  channel = c.channels_rise.ensures.channel;
  may_be_heard = c.clocks_are_known.ensures.may_be_heard;
  heard = c.clocks_are_known.ensures.heard;
  ticked = c.clocks_are_known.ensures.ticked;
  own_clock = c.clocks_count_within.ensures.own;
  notes = c.machines_note_more.ensures.gate;
  stays = c.references_go_on.ensures.gate;
  beginnings = c.beginnings_are_legal.ensures;
  made = c.messages_are_made.ensures;
}
