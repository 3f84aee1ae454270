use Rattle.std.proofs.Common.{◌≡◌, ◌↔◌, map, IsSome, true, Contains, sym, subst}
use Rattle.std.specs.FinMap.{get}
use Rattle.lg_dict.specs.Tables.{is_under, text_at, text_keys}
use Rattle.lg_dict.specs.declared.tables.By.TheVariants.{Stem}
use Rattle.lg_dict.proofs.Words.{listed_seen}
use Rattle.lg_dict.proofs.dict.Dict.with_stem.Goals as goal

pub returns : goal.returns
returns c = λ word.
    subst (λ numbers. Contains (map (λ number. text_at (text_keys c.self.inside.words) number) numbers) word ↔ (IsSome (get c.args.self.now.words word) × (is_under Stem c.args.stem.now word ≡ true)))
    (sym c.numbers_under.ensures)
    (listed_seen Stem c.self.inside c.args.self.now c.self.view_is c.self.inside.stems c.self.invariant.stems c.args.stem.now word)
