use Rattle.std.proofs.Common.{List, ap, sym, subst, ◌∙◌}
use Rattle.std.specs.Slice.{IsItemAt}
use Rattle.lg_gram.specs.declared.entry.Entry.{Entry}
use Rattle.lg_dictread.specs.Reading.{formula_at}
use Rattle.lg_dictread.proofs.Formulas.{entry_got, number_found, number_missing}
use Rattle.lg_dictread.proofs.earlier.Earlier.entry_of.Goals as goal

pub returns-in-Some : goal.returns-in-Some
returns-in-Some c =
    let e = c.args.self.now in
    entry_got e.entries.items c.in-Some.at.now c.get-in-Some.result (subst (λ (l : List Entry). IsItemAt l c.in-Some.at.now c.get-in-Some.result) c.deref.ensures.value c.get-in-Some.ensures.lookup)
    ∙ sym (ap (formula_at e.entries.items) (number_found e.formulas c.args.name.now c.in-Some.at c.in-Some.ensures.value))

pub returns-in-None : goal.returns-in-None
returns-in-None c =
    let e = c.args.self.now in
    sym (ap (formula_at e.entries.items) (number_missing e.formulas c.args.name.now c.in-None.ensures.value))
