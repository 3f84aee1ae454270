use Rattle.lg_forest.proofs.Spelled.{under, alone, made}
use Rattle.lg_forest.proofs.law.linkages_are_spelled.Goals as goal

pub returns : goal.returns
returns c = λ positions lists first.
    let numbers = c.numbers_tell_lists_apart.ensures positions lists first in
    record {
      under = under positions lists c.regions_are_cut_once.ensures c.sentences_are_cut_once.ensures c.parts_make_linkages.ensures c.cuts_are_valid.ensures numbers;
      nothing = alone positions lists c.regions_are_cut_once.ensures c.sentences_are_cut_once.ensures c.parts_make_linkages.ensures c.cuts_are_valid.ensures numbers;
      made = made positions lists c.regions_are_cut_once.ensures c.sentences_are_cut_once.ensures c.parts_make_linkages.ensures c.cuts_are_valid.ensures numbers;
    }
