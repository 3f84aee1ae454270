use Rattle.std.proofs.Common.{rules, map, sym, ◌∙◌, subst, []}
use Rattle.std.proofs.lemmas.Option.{IfSome_then}
use Rattle.lg_dict.specs.Dictionary.{Dictionary}
use Rattle.lg_dictread.specs.Findings.{names_of}
use Rattle.lg_dictread.specs.Texts.{stands}
use Rattle.lg_dictread.specs.DictTexts.{entry_meaning}
use Rattle.lg_run.specs.Inputs.{accepted, DictionaryReads, reads}
use Rattle.lg_run.proofs.Dictionaries.{same_dictionary, asks_text, told_error, told_value}
use Rattle.lg_run.proofs.About.{first_name, of_last}
use Rattle.lg_run.proofs.Asking.{asks_till_error}
use Rattle.lg_run.proofs.inputs.take_apart.Goals as goal

-- no more was asked than the format reads
pub returns-in-Ok-of-clause-names : goal.returns-in-Ok-of-clause-names
returns-in-Ok-of-clause-names g c =
    asks_text (g.F.Files.contents c.args.files.now) c.args.name.now c.args.bytes.now (g.F.Files.asked c.args.files.now) (g.F.Files.asked c.read_dict.new.files) c.read_dict.ensures.asks

pub returns-in-Err-of-clause-names : goal.returns-in-Err-of-clause-names
returns-in-Err-of-clause-names g c =
    asks_text (g.F.Files.contents c.args.files.now) c.args.name.now c.args.bytes.now (g.F.Files.asked c.args.files.now) (g.F.Files.asked c.read_dict.new.files) c.read_dict.ensures.asks

pub returns-in-Err-clause-names : goal.returns-in-Err-clause-names
returns-in-Err-clause-names g c =
    asks_text (g.F.Files.contents c.args.files.now) c.args.name.now c.args.bytes.now (g.F.Files.asked c.args.files.now) (g.F.Files.asked c.read_dict.new.files) c.read_dict.ensures.asks

-- the dictionary of the entries
pub returns-in-Ok-of-clause-told : goal.returns-in-Ok-of-clause-told
returns-in-Ok-of-clause-told g c =
    let entries = c.in-Ok.entries.items in
    let bytes = c.args.bytes.now in
    let name = c.args.name.now in
    IfSome_then (g.F.Files.contents c.args.files.now)
    (told_value (g.F.Files.contents c.args.files.now) bytes (g.F.Files.asked c.args.files.now) (g.F.Files.asked c.read_dict.new.files) (stands (map entry_meaning entries)) c.in-Ok.ensures.value)
    (λ known is. record {
      names = is.0;
      read = subst (λ (d : Dictionary). DictionaryReads known name bytes is.0 (accepted d)) (same_dictionary entries ∙ sym c.in-Ok-of.ensures) (reads is.0 (stands (map entry_meaning entries)) is.2);
      grown = is.1;
    })

-- an error of the text or of a word file
pub returns-in-Err-clause-told : goal.returns-in-Err-clause-told
returns-in-Err-clause-told g c =
    told_error (g.F.Files.contents c.args.files.now) c.args.name.now c.args.bytes.now (g.F.Files.asked c.args.files.now) (g.F.Files.asked c.read_dict.new.files) c.in-Err.error (search rules) c.in-Err.ensures.fault

pub returns-in-Err-clause-about : goal.returns-in-Err-clause-about
returns-in-Err-clause-about g c = (first_name c.args.name.now [], search rules, of_last _ _ _ c.in-Err.error c.in-Err.ensures.cause.error)

-- the names only grow
pub returns-in-Ok-of-clause-asks : goal.returns-in-Ok-of-clause-asks
returns-in-Ok-of-clause-asks g c = record { names = names_of c.in-Ok.ensures.value.asked; grown = c.in-Ok.ensures.value.names }

pub returns-in-Err-of-clause-asks : goal.returns-in-Err-of-clause-asks
returns-in-Err-of-clause-asks g c = record { names = names_of c.in-Ok.ensures.value.asked; grown = c.in-Ok.ensures.value.names }

pub returns-in-Err-clause-asks : goal.returns-in-Err-clause-asks
returns-in-Err-clause-asks g c = asks_till_error (g.F.Files.contents c.args.files.now) _ _ (g.F.Files.asked c.args.files.now) (g.F.Files.asked c.read_dict.new.files) c.in-Err.error c.in-Err.ensures.fault

-- memory ran out while the dictionary was read
pub returns-in-Err-NoMemory-clause-names : goal.returns-in-Err-NoMemory-clause-names
returns-in-Err-NoMemory-clause-names g c =
    asks_text (g.F.Files.contents c.args.files.now) c.args.name.now c.args.bytes.now (g.F.Files.asked c.args.files.now) (g.F.Files.asked c.read_dict.new.files) c.read_dict.ensures.asks
