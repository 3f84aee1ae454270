use Rattle.std.proofs.Common.{[], refl, sym}
use Rattle.std.proofs.lemmas.List.{append-nil}
use Rattle.std.proofs.lemmas.Option.{IfSome_then}
use Rattle.lg_run.specs.Inputs.{DictionaryInput, given, accepted, OneGiven}
use Rattle.lg_run.specs.Stops.{stop_status, stop_line}
use Rattle.lg_run.proofs.Readings.{asks_none, asks_first, asks_next, comes_next, stops_first}
use Rattle.lg_run.proofs.Dictionaries.{one_dictionary}
use Rattle.lg_run.proofs.inputs.inputs_of_one.Goals as goal

-- the dictionary, and then nothing
pub returns-in-Ok-clause-names : goal.returns-in-Ok-clause-names
returns-in-Ok-clause-names g c =
    let name = c.args.dictionary.now in
    let sentence = c.args.sentence.now in
    let old = g.F.Files.asked c.args.files.now in
    let new = g.F.Files.asked c.read_dictionary.new.files in
    let dict = c.in-Ok.dict in
    IfSome_then (g.F.Files.contents c.args.files.now) c.in-Ok.ensures.told
    (λ k h. asks_next (DictionaryInput k name) (λ d. given (OneGiven c.args.setup d sentence)) old new new dict h (one_dictionary c.exactly_one_dictionary.ensures.one k name) (asks_none (given (OneGiven c.args.setup dict sentence)) new new refl))

pub returns-in-Ok-clause-told : goal.returns-in-Ok-clause-told
returns-in-Ok-clause-told g c =
    let name = c.args.dictionary.now in
    let sentence = c.args.sentence.now in
    let old = g.F.Files.asked c.args.files.now in
    let new = g.F.Files.asked c.read_dictionary.new.files in
    let dict = c.in-Ok.dict in
    IfSome_then (g.F.Files.contents c.args.files.now) c.in-Ok.ensures.told
    (λ k h. comes_next (DictionaryInput k name) (λ d. given (OneGiven c.args.setup d sentence)) old new new dict h (accepted (OneGiven c.args.setup dict sentence)) (record { names = []; read = (refl, refl); grown = sym (append-nil new) }))

-- the dictionary was not had
pub returns-in-Err-clause-names : goal.returns-in-Err-clause-names
returns-in-Err-clause-names g c =
    IfSome_then (g.F.Files.contents c.args.files.now) c.read_dictionary.ensures.names
    (λ k h. asks_first (DictionaryInput k c.args.dictionary.now) (λ d. given (OneGiven c.args.setup d c.args.sentence.now)) (g.F.Files.asked c.args.files.now) (g.F.Files.asked c.read_dictionary.new.files) h)

pub returns-in-Err-clause-told : goal.returns-in-Err-clause-told
returns-in-Err-clause-told g c =
    IfSome_then (g.F.Files.contents c.args.files.now) c.in-Err.ensures.told
    (λ k h. stops_first (DictionaryInput k c.args.dictionary.now) (λ d. given (OneGiven c.args.setup d c.args.sentence.now)) (g.F.Files.asked c.args.files.now) (g.F.Files.asked c.read_dictionary.new.files) (stop_status c.in-Err.stop) (stop_line c.in-Err.stop) h)
