use Rattle.std.proofs.Common.{ℕ, List, [], ◌∷◌, subst, sym, ◌∙◌}
use Rattle.lg_dictread.specs.declared.dict_error.DictError.TheVariants.{DuplicateWord}
use Rattle.lg_dictread.specs.Definitions.{IsTwice}
use Rattle.lg_dictread.specs.Tables.{text_entries}
use Rattle.lg_dictread.proofs.NewNames.{twice_here}
use Rattle.lg_dictread.proofs.define.define.Goals as goal

-- the name has a line already
pub returns-in-Some : goal.returns-in-Some
returns-in-Some c =
    let lines = text_entries c.args.table.now in
    let d : List ℕ × ℕ = (c.args.name.now, c.args.line) in
    subst (λ (name : List ℕ). IsTwice lines (d ∷ []) (DuplicateWord name c.in-Some.first c.args.line)) (sym c.in_ok-of.ensures)
    (twice_here lines [] d c.in-Some.first (sym c.in_ok-first.ensures.found ∙ c.in-Some.is))
