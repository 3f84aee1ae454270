use Rattle.std.specs.FinMap.{from_entries}
use Rattle.lg_dict.proofs.dict.Dict.of.Goals as goal

pub invariant_of-result : goal.invariant_of-result
invariant_of-result c =
    let are = c.in_ok-formulas.ensures in
    record {
      words = are.within;
      macros = are.fit;
      stems = c.in_ok-stems.ensures;
      firsts = c.in_ok-firsts.ensures;
      longest = c.longest_word-longest.ensures;
      lengths = c.in_ok-lengths.ensures;
    }

pub returns : goal.returns
returns c =
    let are = c.in_ok-formulas.ensures in
    λ j. record { words = from_entries (are.words_are j); macros = from_entries (are.macros_are j) }
