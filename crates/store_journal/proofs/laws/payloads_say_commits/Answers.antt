use Rattle.store_journal.proofs.SaidCommits.{is_said, says}
use Rattle.store_journal.proofs.laws.payloads_say_commits.Goals as goal

pub returns-clause-said : goal.returns-clause-said
returns-clause-said c = says (record {
  read = c.operations_come_back.ensures.read;
  names = c.operations_come_back.ensures.names;
  version = c.operations_come_back.ensures.version;
  clean = c.operations_come_back.ensures.clean;
  words = c.clean_lines_come_back.ensures.words;
  lines = c.clean_lines_come_back.ensures.lines;
})

pub returns-clause-read : goal.returns-clause-read
returns-clause-read c = is_said (record {
  read = c.operations_come_back.ensures.read;
  names = c.operations_come_back.ensures.names;
  version = c.operations_come_back.ensures.version;
  clean = c.operations_come_back.ensures.clean;
  words = c.clean_lines_come_back.ensures.words;
  lines = c.clean_lines_come_back.ensures.lines;
})
