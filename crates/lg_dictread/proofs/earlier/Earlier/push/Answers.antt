use Rattle.std.proofs.Common.{◌≡◌, ◌∷◌, [], ◌++◌, ℕ, List, Option, Some, IfSome, ◌<◌, length, ap, sym, subst, ◌∙◌, arith, if◌then◌else◌}
use Rattle.std.specs.List.{list_any, AllByRecursion}
use Rattle.std.specs.Map.{lookup}
use Rattle.lg_gram.specs.declared.entry.Entry.{Entry}
use Rattle.lg_gram.specs.declared.expr.Expr.{Expr}
use Rattle.lg_gram.specs.Filled.{Formulas}
use Rattle.lg_gram.specs.Fits.{Fits}
use Rattle.lg_gram.specs.Trees.{tree_of}
use Rattle.lg_dictread.specs.Definitions.{same_text}
use Rattle.lg_dictread.specs.Tables.{text_entries}
use Rattle.lg_dictread.specs.Reading.{entry_formula, formula_at, formulas_of, number_of_macro, number_of_section}
use Rattle.lg_dictread.specs.Recalling.{Writes}
use Rattle.lg_dictread.proofs.Formulas.{formulas_more, numbers_more, all_push}
use Rattle.lg_dictread.proofs.Remembered.{numbers_recalled, written_more}
use Rattle.lg_dictread.proofs.earlier.Earlier.push.Goals as goal

pub returns-clause-formulas : goal.returns-clause-formulas
returns-clause-formulas c =
    let e = c.args.self.now in
    let at : c.len-number.result ≡ length e.entries.items = omega (arith, c.len-number.ensures, e.entries.ok.0) in
    let pushed : Entry = record { words = c.of.result; macros = c.of-macros.result; formula = c.in_ok-formula.formula; level = c.args.read.level; line = c.args.line } in
    let now : List ℕ → Option ℕ = λ name. lookup (same_text name) (text_entries c.name_entry.new.formulas) in
    let names : c.items-2.result.now ≡ c.args.names.macros.items = c.items-2.ensures ∙ c.of-macros.ensures in
    let here : (l : List Entry) → Formulas = λ l name. formula_at l (now name) in
    let told : (ms : List (List ℕ)) (f : Expr) → Formulas = λ ms f name. if list_any (same_text name) ms then Some (tree_of f, c.args.read.level) else formulas_of e name in
    ap here c.in_ok-push.ensures.items
    ∙ formulas_more e.entries.items pushed c.len-number.result c.items-2.result.now now (number_of_macro e) at c.requires.kept.numbers c.in_ok-name_entry.ensures
    ∙ (λ i. told (names i) (c.in_ok-formula.ensures i))

pub returns-clause-kept : goal.returns-clause-kept
returns-clause-kept c =
    let e = c.args.self.now in
    let at : c.len-number.result ≡ length e.entries.items = omega (arith, c.len-number.ensures, e.entries.ok.0) in
    let pushed : Entry = record { words = c.of.result; macros = c.of-macros.result; formula = c.in_ok-formula.formula; level = c.args.read.level; line = c.args.line } in
    let now : List ℕ → Option ℕ = λ name. lookup (same_text name) (text_entries c.name_entry.new.formulas) in
    let recalled : List ℕ → Option ℕ = λ text. lookup (same_text text) (text_entries c.remember.new.sections) in
    let entries : c.push.new.self.items ≡ e.entries.items ++ pushed ∷ [] = c.in_ok-push.ensures.items in
    let fits = subst (λ (f : Expr). Fits c.args.read.level (tree_of f)) (sym c.in_ok-formula.ensures) c.requires.fits in
    let own = subst (λ (f : Expr). IfSome c.args.read.section (λ s. Writes (formulas_of e) s.now (tree_of f) c.args.read.level)) (sym c.in_ok-formula.ensures) c.requires.written in
    let forgets = λ (some : 0 < length c.items.result.now) (text : List ℕ). ap (lookup (same_text text)) (c.in_ok-remember.ensures.forgets some) in
    let macros : c.items-2.result.now ≡ c.items.result.now = c.items-2.ensures ∙ sym c.items.ensures in
    let told : List (List ℕ) → Formulas = λ ms name. if list_any (same_text name) ms then Some (entry_formula pushed) else formulas_of e name in
    let after : Formulas = λ name. formula_at (e.entries.items ++ pushed ∷ []) (now name) in
    let meant : after ≡ (λ name. if list_any (same_text name) c.items.result.now then Some (entry_formula pushed) else formulas_of e name) =
    formulas_more e.entries.items pushed c.len-number.result c.items-2.result.now now (number_of_macro e) at c.requires.kept.numbers c.in_ok-name_entry.ensures
    ∙ ap told macros in
    record {
      numbers = subst (λ (l : List Entry). (name : List ℕ) → IfSome (now name) (λ p. p < length l)) (sym entries)
          (numbers_more e.entries.items pushed c.len-number.result c.items-2.result.now now (number_of_macro e) at c.requires.kept.numbers c.in_ok-name_entry.ensures);
      fits = subst (AllByRecursion (λ (x : Entry). Fits x.level (tree_of x.formula))) (sym entries) (all_push (λ (x : Entry). Fits x.level (tree_of x.formula)) e.entries.items pushed c.requires.kept.fits fits);
      sections = subst (λ (l : List Entry). (text : List ℕ) → IfSome (recalled text) (λ p. p < length l)) (sym entries)
          (numbers_recalled e.entries.items pushed c.args.read.section (number_of_section e) recalled c.len-number.result at c.requires.kept.sections c.items.result.now forgets c.in_ok-remember.ensures.recalls);
      written = subst (λ (l : List Entry). (text : List ℕ) → IfSome (formula_at l (recalled text)) (λ m. Writes (λ name. formula_at l (now name)) text m.0 m.1)) (sym entries)
          (written_more e.entries.items pushed c.args.read.section (number_of_section e) recalled c.len-number.result at c.requires.kept.sections (formulas_of e) after c.requires.kept.written own
          c.items.result.now meant forgets c.in_ok-remember.ensures.recalls);
    }
