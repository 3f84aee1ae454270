use Rattle.std.proofs.Common.{Some, ap, sym, ◌∙◌}
use Rattle.lg_dict.specs.Tables.{same_text}
use Rattle.lg_dict.proofs.Lookups.{own_stem, not_own_stem}
use Rattle.lg_dict.proofs.tables.other_stem.Goals as goal

pub returns-then-eq : goal.returns-then-eq
returns-then-eq c = sym (own_stem c.args.word.now (ap (λ s. same_text s c.args.word.now) (sym c.stem-stem.ensures) ∙ sym c.eq.ensures ∙ c.if-eq.true))

pub returns : goal.returns
returns c =
    ap Some c.stem-stem.ensures
    ∙ sym (not_own_stem c.args.word.now (ap (λ s. same_text s c.args.word.now) (sym c.stem-stem.ensures) ∙ sym c.eq.ensures ∙ c.if-eq.false))
