use Rattle.std.proofs.Common.{◌≡◌, List, ℕ, cond, Some, nat_eq, refl, ap, ◌∙◌}
use lib.Pointwise.{pointwise}
use Rattle.std.specs.Map.{lookup}
use Rattle.lg_dict.specs.Tables.{at_text, same_text}
use Rattle.lg_dict.specs.declared.changes.Changes.{Changes}
use Rattle.lg_dict.specs.declared.changes.Named.{Named}
use Rattle.lg_dict.proofs.Admitted.{on_err}
use Rattle.lg_dict.proofs.Lookups.{at_text-updates}
use Rattle.lg_dict.proofs.Changed.{same_dictionary, macro_set, still_kept}
use Rattle.lg_dict.proofs.changes.Changes.put_named.Goals as goal

pub returns-in_err-insert-clause-unchanged : goal.returns-in_err-insert-clause-unchanged
returns-in_err-insert-clause-unchanged c =
    let old = c.args.self.now in
    let new : Changes = record old { macros = c.insert.new.self } in
    on_err c.from_residual-in_err-insert.result
    (λ dict. same_dictionary dict old new (record { words = λ word. refl; macros = λ name. ap (lookup (λ k. pointwise nat_eq name k.items)) c.in_err-insert.ensures.err }))

-- the macro alone has the formula
pub returns-clause-laid : goal.returns-clause-laid
returns-clause-laid c =
    let old = c.args.self.now in
    let new : Changes = record old { macros = c.insert.new.self } in
    let found : Named = record { formula = c.args.formula; level = c.args.level } in
    let set : (text : List ℕ) → at_text new.macros text ≡ cond (same_text text c.args.name.now) (Some found) (at_text old.macros text) =
    λ text. at_text-updates old.macros new.macros c.in_ok-key.key (Some found) c.in_ok-insert.ensures.updates text ∙ ap (λ k. cond (same_text text k) (Some found) (at_text old.macros text)) c.in_ok-key.ensures in
    record {
      macros = still_kept old new refl c.args.name.now found set c.requires.fits c.requires.laid.macros;
      stems = c.requires.laid.stems;
      firsts = c.requires.laid.firsts;
      lengths = c.requires.laid.lengths;
    }

pub returns-clause-put : goal.returns-clause-put
returns-clause-put c =
    let old = c.args.self.now in
    let new : Changes = record old { macros = c.insert.new.self } in
    let found : Named = record { formula = c.args.formula; level = c.args.level } in
    let set : (text : List ℕ) → at_text new.macros text ≡ cond (same_text text c.args.name.now) (Some found) (at_text old.macros text) =
    λ text. at_text-updates old.macros new.macros c.in_ok-key.key (Some found) c.in_ok-insert.ensures.updates text ∙ ap (λ k. cond (same_text text k) (Some found) (at_text old.macros text)) c.in_ok-key.ensures in
    macro_set old new refl c.args.name.now found set
