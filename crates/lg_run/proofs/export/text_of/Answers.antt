use Rattle.std.proofs.Common.{ℕ, List, [], ◌∷◌, sym, subst}
use Rattle.lg_export.specs.Spelling.{dictionary_spelled}
use Rattle.lg_run.specs.Inputs.{ExportGiven, ExportReads, accepted, refused, spelled, quoted}
use Rattle.lg_run.specs.Lines.{quote_line}
use Rattle.lg_run.specs.Reads.{Comes}
use Rattle.lg_run.proofs.Told.{comes_at_once}
use Rattle.lg_run.proofs.About.{first_name}
use Rattle.lg_run.proofs.export.text_of.Goals as goal

-- the text
pub returns-in-Ok-clause-told : goal.returns-in-Ok-clause-told
returns-in-Ok-clause-told c = λ asked script number dict commands is.
    let reading = ExportReads c.args.dictionary.now script number dict commands in
    subst (λ (l : List ℕ). Comes reading asked asked (accepted (ExportGiven l))) (sym c.in-Ok.ensures.text)
    (comes_at_once reading (accepted (ExportGiven (dictionary_spelled c.args.view.now))) (spelled c.args.view.now is c.in-Ok.ensures.quote) asked)

-- or a word with a quote
pub returns-in-Err-QuoteInWord-clause-told : goal.returns-in-Err-QuoteInWord-clause-told
returns-in-Err-QuoteInWord-clause-told c = λ asked script number dict commands is.
    let reading = ExportReads c.args.dictionary.now script number dict commands in
    let word = c.in-Err-QuoteInWord.word in
    comes_at_once reading (refused (quote_line c.args.dictionary.now word)) (quoted c.args.view.now word is (rw c.in-Err-QuoteInWord.field-0-is at c.in-Err-QuoteInWord.ensures.quote)) asked

pub returns-in-Err-QuoteInWord-clause-about : goal.returns-in-Err-QuoteInWord-clause-about
returns-in-Err-QuoteInWord-clause-about c = λ asked script. first_name c.args.dictionary.now (script ∷ [])
