use Rattle.std.proofs.Common.{◌≡◌}
use Rattle.load_maker.specs.Generated.{drawn_request}
use Rattle.load_maker.specs.Words.{drawn_list, words_from}
use Rattle.weave_script.specs.Limits.{count_gets, count_programs}
use Rattle.load_maker.proofs.requests.draw_requests.Given as goal

abbrev pub invariant-loop-number : goal.invariant-loop-number
invariant-loop-number l = record {
  drawn : (l.requests.items, words_from l.words) ≡ drawn_list drawn_request l.number (words_from l.initial.words);
  programs : l.counts.programs ≡ count_programs l.requests.items;
  gets : l.counts.gets ≡ count_gets l.requests.items;
}
