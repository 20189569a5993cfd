use Rattle.weave_report.proofs.text_laws.texts_keep_the_laws.Goals as goal

pub returns : goal.returns
returns c = record {
  name_lacks = c.words_lack_other_bytes.ensures.name;
  decimal_lacks = c.words_lack_other_bytes.ensures.number;
  lacks-append = c.words_lack_other_bytes.ensures.appended;
  name_is_clean = c.words_are_clean.ensures.name;
  decimal_is_clean = c.words_are_clean.ensures.number;
  is_clean-append = c.words_are_clean.ensures.appended;
  pieces_come_back = c.joined_pieces_come_back.ensures;
  joined_of-pieces = c.cut_texts_are_joined.ensures.pieces;
  kept = c.clean_lines_come_back.ensures.kept;
  number_of-decimal = c.numbers_come_back.ensures.number;
  word_of-number = c.numbers_come_back.ensures.word;
}
