use Rattle.std.proofs.Common.{rules, tests}
use Rattle.std.proofs.lemmas.Iterator.Search.{all_from_yields_List}
use Rattle.std.proofs.lemmas.Iterator.Splits.{YieldsList-from_slice_split}
use Rattle.lg_dict.specs.Compounds.{is_underscore, is_filled}
use Rattle.lg_dict.proofs.compound.are_filled.Goals as goal

-- each piece is tested
pub returns : goal.returns
returns c =
    all_from_yields_List is_filled _ _ _ c.all.ensures.ran
    (YieldsList-from_slice_split _ is_underscore c.args.text.now c.split.ensures.rest c.split.ensures.done c.split.ensures.closure (λ x b q k. search rules))
    (λ x b q k. search (rules, tests))
