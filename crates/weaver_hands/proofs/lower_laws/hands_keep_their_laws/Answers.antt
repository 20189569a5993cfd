use Rattle.weaver_hands.proofs.lower_laws.hands_keep_their_laws.Goals as goal

pub returns : goal.returns
returns c = record {
  see_more = c.hands_see_more.ensures;
  legal_before = c.beginnings_are_legal.ensures;
  gate_places = c.own_entries_were_seen.ensures.places;
  store_places = c.own_entries_were_seen-2.ensures.places;
  oracle_places = c.own_entries_were_seen-3.ensures.places;
  shard_places = c.own_entries_were_seen-4.ensures.places;
  gate_records = c.entries_come_back.ensures.records_of_gate;
  store_records = c.entries_come_back.ensures.records_of_store;
  oracle_records = c.entries_come_back.ensures.records_of_oracle;
  shard_records = c.entries_come_back.ensures.records_of_shard;
  gate_back = c.entries_come_back.ensures.pairs_of_gate;
  store_back = c.entries_come_back.ensures.pairs_of_store;
  oracle_back = c.entries_come_back.ensures.pairs_of_oracle;
  shard_back = c.entries_come_back.ensures.pairs_of_shard;
  at_gate = c.accounts_have_logs_of_locks.ensures.gate;
  at_shard = c.accounts_have_logs_of_locks.ensures.shard;
  within = c.accounts_have_logs_of_locks.ensures.more;
}
