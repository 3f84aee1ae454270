use Rattle.lg_script.proofs.Listings.{listing_cut, listing_is}
use Rattle.lg_script.proofs.listing.listing_of.Goals as goal

pub returns-in-None : goal.returns-in-None
returns-in-None c = λ from want s is. c.in-None.ensures from (listing_cut _ _ _ _ _ _ _ (record {
  split = c.first_word.ensures.split;
  first_inner = c.first_word.ensures.inner;
  first_ends = c.first_word.ensures.ends;
  gap = c.skip_blanks.ensures.skips;
  left_begins = c.skip_blanks.ensures.begins;
  left_split = c.first_word-2.ensures.split;
  second_inner = c.first_word-2.ensures.inner;
  second_ends = c.first_word-2.ensures.ends;
  more = c.skip_blanks-sentence.ensures.skips;
  sentence_begins = c.skip_blanks-sentence.ensures.begins;
}) from want s is).0

pub returns-in-None-number_of : goal.returns-in-None-number_of
returns-in-None-number_of c = λ from want s is. c.in-None-number_of.ensures want (listing_cut _ _ _ _ _ _ _ (record {
  split = c.first_word.ensures.split;
  first_inner = c.first_word.ensures.inner;
  first_ends = c.first_word.ensures.ends;
  gap = c.skip_blanks.ensures.skips;
  left_begins = c.skip_blanks.ensures.begins;
  left_split = c.first_word-2.ensures.split;
  second_inner = c.first_word-2.ensures.inner;
  second_ends = c.first_word-2.ensures.ends;
  more = c.skip_blanks-sentence.ensures.skips;
  sentence_begins = c.skip_blanks-sentence.ensures.begins;
}) from want s is).1

pub returns-in-Some-number_of : goal.returns-in-Some-number_of
returns-in-Some-number_of c = listing_is _ _ _ _ _ _ _ (record {
  split = c.first_word.ensures.split;
  first_inner = c.first_word.ensures.inner;
  first_ends = c.first_word.ensures.ends;
  gap = c.skip_blanks.ensures.skips;
  left_begins = c.skip_blanks.ensures.begins;
  left_split = c.first_word-2.ensures.split;
  second_inner = c.first_word-2.ensures.inner;
  second_ends = c.first_word-2.ensures.ends;
  more = c.skip_blanks-sentence.ensures.skips;
  sentence_begins = c.skip_blanks-sentence.ensures.begins;
}) c.in-Some.from c.in-Some-number_of.want c.requires c.in-Some.ensures c.in-Some-number_of.ensures
