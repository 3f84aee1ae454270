use Rattle.std.proofs.Common.{◌≡◌, ℕ, List, [], Option, unwrap_or, slice_index_or, sym, ap, ◌∙◌}
use Rattle.std.proofs.lemmas.Option.{unwrap_or-slice_get}
use Rattle.lg_gram.specs.RawTrees.{raw_tree_of}
use Rattle.lg_gram.specs.Filled.{macro_names}
use Rattle.lg_audit.proofs.cause.name_in.Goals as goal

-- past the last reference there is no name
pub returns-in-None : goal.returns-in-None
returns-in-None c =
    let names : List (List ℕ) = macro_names (raw_tree_of c.args.entry.now.expr) in
    let none : slice_index_or names c.args.number [] ≡ [] = sym (unwrap_or-slice_get names c.args.number []) ∙ ap (λ (o : Option (List ℕ)). unwrap_or o []) (sym c.in-None.ensures) in
    sym none
