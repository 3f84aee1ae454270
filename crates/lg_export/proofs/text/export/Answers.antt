use Rattle.std.proofs.Common.{Some, ap, sym, ◌∙◌}
use Rattle.std.specs.List.{find}
use Rattle.lg_export.specs.Exports.{has_quote}
use Rattle.lg_export.specs.Spelling.{macro_line, word_line}
use Rattle.lg_export.proofs.Keys.{are_keys, lines_are, two_parts}
use Rattle.lg_export.proofs.text.export.Goals as goal

pub returns-in-Some-clause-quote : goal.returns-in-Some-clause-quote
returns-in-Some-clause-quote c =
    let words = are_keys c.args.view.now.words c.in_ok-words.words c.in_ok-words.ensures in
    let seen = rw c.in-Some.is at c.quoted.ensures in
    ap (find has_quote) words ∙ ap (find has_quote) (sym c.items.ensures) ∙ sym seen ∙ ap Some (sym (c.in_ok-of.ensures ∙ c.bytes.ensures))

pub returns-clause-text : goal.returns-clause-text
returns-clause-text c =
    let words = lines_are c.args.view.now.words c.in_ok-words.words c.in_ok-words.ensures word_line in
    let macros = lines_are c.args.view.now.macros c.in_ok-macros.macros c.in_ok-macros.ensures macro_line in
    two_parts _ _ _ _ _ _ _ _ _ _ _ c.new-out.ensures.items c.in_ok-write_macros.ensures c.items-2.ensures macros c.in_ok-write_words.ensures c.items-3.ensures words

pub returns-clause-quote : goal.returns-clause-quote
returns-clause-quote c =
    let words = are_keys c.args.view.now.words c.in_ok-words.words c.in_ok-words.ensures in
    let seen = rw c.in_default.is at c.quoted.ensures in
    ap (find has_quote) words ∙ ap (find has_quote) (sym c.items.ensures) ∙ sym seen
