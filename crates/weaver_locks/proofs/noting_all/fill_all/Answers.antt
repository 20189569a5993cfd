use Rattle.weaver_locks.proofs.noting_all.fill_all.Goals as goal

pub returns : goal.returns
returns c = record {
  gate_count = c.fill_row.ensures.count;
  gates = c.fill_row.ensures.row;
  gate_names = c.fill_row.ensures.names;
  gates_filled = c.fill_row.ensures.filled;
  store = c.fill.ensures.lock;
  store_filled = c.fill.ensures.filled;
  oracle = c.fill-2.ensures.lock;
  oracle_filled = c.fill-2.ensures.filled;
  shard_count = c.fill_row-2.ensures.count;
  shards = c.fill_row-2.ensures.row;
  shard_names = c.fill_row-2.ensures.names;
  shards_filled = c.fill_row-2.ensures.filled;
}
