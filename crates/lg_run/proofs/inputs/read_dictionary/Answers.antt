use Rattle.std.proofs.Common.{ℕ, List, Option, IfSome, subst}
use Rattle.std.proofs.lemmas.Option.{IfSome_then}
use Rattle.lg_base.specs.Contents.{Contents}
use Rattle.lg_run.specs.Inputs.{FileIs, DictionaryReads}
use Rattle.lg_run.specs.Reads.{AsksInOrder, Tells}
use Rattle.lg_run.specs.Stops.{stop_status, stop_line}
use Rattle.lg_run.proofs.Readings.{known_both, asks_first, asks_next, stops_first, tells_next}
use Rattle.lg_run.proofs.Dictionaries.{one_file}
use Rattle.lg_run.proofs.Asking.{asks_then}
use Rattle.lg_run.proofs.inputs.read_dictionary.Goals as goal

-- the file, and then its text
pub returns-in-Ok-clause-names : goal.returns-in-Ok-clause-names
returns-in-Ok-clause-names g c =
    let name = c.args.name.now in
    let old = g.F.Files.asked c.args.files.now in
    let middle = g.F.Files.asked c.read_file.new.files in
    let new = g.F.Files.asked c.take_apart.new.files in
    let Asks : Option Contents → List ℕ → Type 0 = λ known bytes. IfSome known (λ k. AsksInOrder (DictionaryReads k name bytes) middle new) in
    let known = g.F.Files.contents c.args.files.now in
    let asks = subst (λ (o : Option Contents). Asks o c.in-Ok.bytes.items) c.in-Ok.ensures.unchanged (subst (Asks (g.F.Files.contents c.read_file.new.files)) c.deref.ensures.value c.take_apart.ensures.names) in
    known_both known c.in-Ok.ensures.told asks (λ k h next. asks_next (FileIs k name) (DictionaryReads k name) old middle new c.in-Ok.bytes.items h (one_file k name) next)

pub returns-in-Ok-clause-told : goal.returns-in-Ok-clause-told
returns-in-Ok-clause-told g c =
    let name = c.args.name.now in
    let old = g.F.Files.asked c.args.files.now in
    let middle = g.F.Files.asked c.read_file.new.files in
    let new = g.F.Files.asked c.take_apart.new.files in
    let Says : Option Contents → List ℕ → Type 0 = λ known bytes. IfSome known (λ k. Tells (λ d. d) (DictionaryReads k name bytes) middle new c.take_apart.result) in
    let known = g.F.Files.contents c.args.files.now in
    let says = subst (λ (o : Option Contents). Says o c.in-Ok.bytes.items) c.in-Ok.ensures.unchanged (subst (Says (g.F.Files.contents c.read_file.new.files)) c.deref.ensures.value c.take_apart.ensures.told) in
    known_both known c.in-Ok.ensures.told says (λ k h next. tells_next (FileIs k name) (DictionaryReads k name) old middle new c.in-Ok.bytes.items h (λ d. d) c.take_apart.result next)

-- the file was not had
pub returns-in-Err-clause-names : goal.returns-in-Err-clause-names
returns-in-Err-clause-names g c =
    IfSome_then (g.F.Files.contents c.args.files.now) c.read_file.ensures.names
    (λ k h. asks_first (FileIs k c.args.name.now) (DictionaryReads k c.args.name.now) (g.F.Files.asked c.args.files.now) (g.F.Files.asked c.read_file.new.files) h)

pub returns-in-Err-clause-told : goal.returns-in-Err-clause-told
returns-in-Err-clause-told g c =
    IfSome_then (g.F.Files.contents c.args.files.now) c.in-Err.ensures.told
    (λ k h. stops_first (FileIs k c.args.name.now) (DictionaryReads k c.args.name.now) (g.F.Files.asked c.args.files.now) (g.F.Files.asked c.read_file.new.files) (stop_status c.in-Err.stop) (stop_line c.in-Err.stop) h)

-- the names of the first, and then of the others
pub returns-in-Ok-clause-asks : goal.returns-in-Ok-clause-asks
returns-in-Ok-clause-asks g c = asks_then (g.F.Files.asked c.args.files.now) (g.F.Files.asked c.read_file.new.files) (g.F.Files.asked c.take_apart.new.files) c.read_file.ensures.asks c.take_apart.ensures.asks
