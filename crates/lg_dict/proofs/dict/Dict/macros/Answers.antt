use Rattle.std.proofs.Common.{◌↔◌, List, ℕ, IsSome, Contains, subst}
use Rattle.std.specs.FinMap.{get}
use Rattle.lg_dict.specs.Dictionary.{Dictionary}
use Rattle.lg_dict.specs.Tables.{text_keys, macro_at}
use Rattle.lg_dict.proofs.Words.{is_key}
use Rattle.lg_dict.proofs.dict.Dict.macros.Goals as goal

pub returns : goal.returns
returns c =
    let table = c.self.inside.macros in
    subst (λ (d : Dictionary). (text : List ℕ) → Contains (text_keys table) text ↔ IsSome (get d.macros text)) c.self.view_is
    (is_key (macro_at c.self.inside.formulas.items) table)
