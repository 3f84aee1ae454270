use Rattle.std.proofs.Common.{rules}
use borrow.Author.Tests.{tests}
use Rattle.std.proofs.lemmas.Iterator.{YieldsList-from_slice, first_from_find}
use Rattle.std.proofs.lemmas.Iterator.Consumers.{YieldsList-from_copied}
use Rattle.lg_token.specs.Words.{specials, MayStand}
use Rattle.lg_token.proofs.Specials.{MayNot, first_found}
use Rattle.lg_token.proofs.special.first_special.Goals as goal

pub returns : goal.returns
returns c =
    let dict = c.args.view.now in
    let text = c.args.text.now in
    first_found dict text c.find.result
    (first_from_find _ _ c.find.result (MayStand dict text) (MayNot dict text) c.find.ensures.ran (YieldsList-from_copied (YieldsList-from_slice specials (search rules))) (λ x q k. search (rules, tests)) (λ x q k. search (rules, tests)))
