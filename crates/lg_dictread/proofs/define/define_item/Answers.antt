use Rattle.std.proofs.Common.{[], refl, ap, ◌∙◌, Global}
use Rattle.std.proofs.lemmas.Result.{err_from_is_err_and}
use Rattle.lg_lex.specs.declared.run.Separators.TheVariants.{WhiteSpace}
use Rattle.lg_lex.specs.Marked.{without_mark}
use Rattle.lg_dictread.specs.Defining.{defined_in, listed_in}
use Rattle.lg_dictread.specs.Tables.{text_entries}
use Rattle.lg_dictread.proofs.ItemTold.{of_word, of_macro, of_file, unread_told}
use Rattle.lg_dictread.proofs.define.define_item.Goals as goal

pub returns-in-Word-clause-told : goal.returns-in-Word-clause-told
returns-in-Word-clause-told g c =
    let asked = g.F.Files.asked c.args.files.now in
    of_word (g.F.Files.contents c.args.files.now) asked asked (defined_in c.args.tables.now) (text_entries c.define.new.table) (listed_in c.args.names.now) c.define.new.names.items c.args.item.now.text c.args.line
    c.define.result c.args.item.now.kind c.bytes-text.result.now c.in-Word.is c.bytes-text.ensures refl c.define.ensures

pub returns-in-Macro-clause-told : goal.returns-in-Macro-clause-told
returns-in-Macro-clause-told g c =
    let asked = g.F.Files.asked c.args.files.now in
    of_macro (g.F.Files.contents c.args.files.now) asked asked (defined_in c.args.tables.now) (text_entries c.define-in-Macro.new.table) (listed_in c.args.names.now) c.define-in-Macro.new.names.items c.args.item.now.text c.args.line
    c.define-in-Macro.result c.args.item.now.kind c.bytes-text.result.now c.in-Macro.is c.bytes-text.ensures refl c.define-in-Macro.ensures

-- the word file gives no words
pub returns-in_err-bytes-in-File-clause-told : goal.returns-in_err-bytes-in-File-clause-told
returns-in_err-bytes-in-File-clause-told g c =
    let p = err_from_is_err_and c.from_residual.result c.from_residual.ensures.1 in
    rw (p.1, p.2) (unread_told (g.F.Files.contents c.args.files.now) (g.F.Files.asked c.args.files.now) (g.F.Files.asked c.read_word_file.new.files) (defined_in c.args.tables.now) (text_entries c.args.tables.now.words) (listed_in c.args.names.now) [] c.args.item.now.text c.args.line
    Global c.in_err-bytes-in-File.field-0.0 c.args.item.now.kind c.bytes-text.result.now c.in-File.is c.bytes-text.ensures c.in_err-bytes-in-File.ensures.asked c.in_err-bytes-in-File.ensures.told)

pub returns-in_ok-bytes-in-File-clause-told : goal.returns-in_ok-bytes-in-File-clause-told
returns-in_ok-bytes-in-File-clause-told g c =
    of_file (g.F.Files.contents c.args.files.now) (g.F.Files.asked c.args.files.now) (g.F.Files.asked c.read_word_file.new.files) (defined_in c.args.tables.now) (text_entries c.define_words.new.table) (listed_in c.args.names.now) c.define_words.new.names.items c.args.item.now.text c.args.line
    (c.runs_are_one_list.ensures.cut WhiteSpace 0) Global c.in_ok-bytes-in-File.bytes c.define_words.result c.args.item.now.kind c.bytes-text.result.now c.without_mark.result.now
    c.in-File.is c.bytes-text.ensures (c.without_mark.ensures ∙ ap without_mark c.deref.ensures.value) c.in_ok-bytes-in-File.ensures.asked c.in_ok-bytes-in-File.ensures.told c.define_words.ensures
