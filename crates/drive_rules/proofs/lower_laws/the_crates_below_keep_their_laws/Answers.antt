use Rattle.drive_rules.proofs.lower_laws.the_crates_below_keep_their_laws.Goals as goal

pub returns : goal.returns
returns c = record {
  stamps = record {
    irreflexive = c.stamps_are_ordered.ensures.irreflexive;
    transitive = c.stamps_are_ordered.ensures.transitive;
    at_most_before = c.clocks_are_ordered.ensures.at_most_before;
    ticks = c.ticks_rise.ensures;
    then_after = c.hearing_brings_order.ensures.then_after;
    tested = c.precedence_is_decided.ensures.tested;
  };
  logs = record {
    under = c.stamps_rise.ensures.under;
    homes = c.stamps_rise.ensures.homes;
    eight = c.stamps_rise.ensures.eight;
    channel = c.channels_rise.ensures.channel;
    sent = c.stamps_are_its_own.ensures.sent;
    processed = c.the_shard_replay_goes_on.ensures.processed;
    visits = c.the_shard_replay_goes_on.ensures.visits;
    commits = c.the_store_replay_goes_on.ensures.commits;
    count = c.the_store_replay_goes_on.ensures.count;
    stay = c.arrivals_stay.ensures.stay;
    counted = c.updates_go_on.ensures.count;
    count_still = c.updates_go_on.ensures.count_still;
  };
  accounts = record {
    on_the_way = c.commits_are_on_the_way.ensures;
    ordered = c.commits_are_ordered.ensures;
    updates = c.updates_are_commits.ensures.whole;
    seen = c.accounts_were_seen.ensures.shards;
    made = c.accounts_were_seen.ensures.channels;
    judged_work = c.judgements_are_of_requests.ensures.work;
    kept_here = c.messages_can_be_taken.ensures.kept_here;
    acyclic = c.begun_stamps_are_coherent.ensures.acyclic;
    known = c.clocks_are_known.ensures.gatekeepers;
    may_be_heard = c.clocks_are_known.ensures.may_be_heard;
    same_reads = c.facts_stay_true.ensures.same_reads;
    goes_on = c.steps_keep_the_core.ensures.goes_on;
  };
  among = c.each_vertex_is_named_once.ensures.tested;
}
