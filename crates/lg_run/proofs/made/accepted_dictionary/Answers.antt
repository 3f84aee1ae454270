use Rattle.std.proofs.Common.{◌≡◌, ◌∙◌, map, Some}
use Rattle.lg_dict.specs.Dictionary.{Dictionary, dictionary_of}
use Rattle.lg_dictread.specs.Texts.{stands}
use Rattle.lg_dictread.specs.DictTexts.{entry_meaning}
use Rattle.lg_run.specs.Inputs.{dictionary_from}
use Rattle.lg_run.proofs.Answered.{of_each}
use Rattle.lg_run.proofs.Dictionaries.{told_value}
use Rattle.lg_run.proofs.MadeInputs.{read_alone}
use Rattle.lg_run.proofs.made.accepted_dictionary.Goals as goal

-- the reader's entries are those that the text stands for
pub returns-in-Ok : goal.returns-in-Ok
returns-in-Ok c = λ meanings gives.
    let es = c.in-Ok.entries.items in
    let contents = c.new-files.result.contents in
    let told = told_value (Some contents) c.args.text.now c.new-files.result.asked c.read_dict.new.files.asked (stands (map entry_meaning es)) c.in-Ok.ensures.value in
    of_each c.of.result (λ (d : Dictionary). d ≡ dictionary_of es) (λ (d : Dictionary). d ≡ dictionary_from meanings)
    (λ d e. e ∙ read_alone c.exactly_one_dictionary.ensures.one contents c.args.text.now told.0 es meanings told.2 gives) c.of.ensures
