use Rattle.workers_account.proofs.ready_laws.phases_start_by_their_laws.Goals as goal

pub returns : goal.returns
returns c = record {
  last_begun = c.stamps_are_begun.ensures.last;
  seen = c.accounts_refer_within.ensures.hand;
  unread = c.only_begun_programs_read.ensures;
  own_unread = c.own_reads_were_seen.ensures.nothing;
}
