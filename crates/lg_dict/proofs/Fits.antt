-- Macros keep to their levels.
use Rattle.std.proofs.Common.{◌≡◌, List, nat_eq, Option, Some, None, IfSome, sym, subst}
use lib.Pointwise.{pointwise}
use Rattle.std.proofs.lemmas.Map.Views.{IfSome-lookup_from_All}
use Rattle.std.specs.Option.{option_map}
use Rattle.lg_gram.specs.Fits.{Fits, AllFit}
use Rattle.lg_gram.specs.declared.expr.Expr.{Expr}
use Rattle.lg_dict.specs.Dictionary.{Dictionary, macros_of}
use Rattle.lg_dict.specs.Layout.{shown, IsKept}
use Rattle.lg_dict.specs.Tables.{at_text, macro_at, IsMacro}
use Rattle.lg_dict.specs.declared.dict.Dict.TheInside.{Inside}
use Rattle.lg_dict.specs.declared.tables.Macro.{Macro}
use Rattle.lg_dict.proofs.Lookups.{get-shown}

pub macro_fits : (formulas : List Expr) (found : Option Macro) → IfSome found (IsMacro formulas) → IfSome (option_map (macro_at formulas) found) (λ m. Fits m.1 m.0)
macro_fits formulas None h = tt
macro_fits formulas (Some m) h = h.fits

pub fit_seen : (a : Inside) (dict : Dictionary) → shown a ≡ dict → IsKept a → AllFit (macros_of dict)
fit_seen a dict seen kept =
    let formulas = a.formulas.items in
    subst (λ (d : Dictionary). AllFit (macros_of d)) seen
    (λ name.
    subst (λ o. IfSome o (λ m. Fits m.1 m.0)) (sym (get-shown (macro_at formulas) a.macros name))
    (macro_fits formulas (at_text a.macros name) (IfSome-lookup_from_All (IsMacro formulas) (λ k. pointwise nat_eq name k.items) a.macros.entries kept.macros)))
