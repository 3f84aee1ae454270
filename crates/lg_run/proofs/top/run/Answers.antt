use Rattle.std.proofs.Common.{rules}
use Rattle.std.proofs.lemmas.Option.{IfSome_then}
use Rattle.std.proofs.KnownBytes.{Keeps-refl}
use Rattle.lg_base.specs.Faults.{Rose}
use Rattle.lg_run.specs.Commands.{task}
use Rattle.lg_run.specs.Inputs.{InputsAre}
use Rattle.lg_run.specs.Reads.{AsksInOrder, given_in, TellsStop}
use Rattle.lg_run.specs.Stops.{stop_status, stop_line}
use Rattle.lg_run.specs.Answers.{Told, AnswersRefused, AnswersAccepted}
use Rattle.lg_run.proofs.Ends.{told_read, about_read, range_read, finished, told_stop, caused_so, unwritten_so, answers_refused, answers_accepted, stop_written, stop_front, last_written, last_front, shows_what_it_says}
use Rattle.lg_run.proofs.top.run.Goals as goal

-- the options are those of the command
pub read_inputs-requires-clause-range : goal.read_inputs-requires-clause-range
read_inputs-requires-clause-range g c = range_read _ _ _ _ c.in-Some.ensures c.options.ensures c.in-Ok.ensures

-- the inputs are in hand
pub returns-in-Ok-read_inputs-clause-names : goal.returns-in-Ok-read_inputs-clause-names
returns-in-Ok-read_inputs-clause-names g c =
    told_read _ _ _ _ c.in-Some.ensures c.options.ensures c.in-Ok.ensures c.words_have_one_task.ensures (g.F.Files.contents c.args.files.now) (λ inputs. AsksInOrder inputs (g.F.Files.asked c.args.files.now) (g.F.Files.asked c.read_inputs.new.files)) c.in-Ok-read_inputs.ensures.names

pub returns-in-Ok-read_inputs-clause-told : goal.returns-in-Ok-read_inputs-clause-told
returns-in-Ok-read_inputs-clause-told g c =
    let old = g.F.Files.asked c.args.files.now in
    let new = g.F.Files.asked c.read_inputs.new.files in
    let before = g.O.Sink.written c.args.out.now in
    let after = g.O.Sink.written c.finish.new.out in
    told_read _ _ _ _ c.in-Some.ensures c.options.ensures c.in-Ok.ensures c.words_have_one_task.ensures (g.F.Files.contents c.args.files.now) (λ inputs. Told inputs old new before after c.finish.result)
    (IfSome_then (g.F.Files.contents c.args.files.now) c.in-Ok-read_inputs.ensures.told
    (λ known h. finished (InputsAre known (task c.in-Ok.setup c.in-Some.command)) old new before after (given_in c.in-Ok-read_inputs.inputs) c.finish.result h c.finish.ensures.told))

pub returns-in-Ok-read_inputs-clause-caused : goal.returns-in-Ok-read_inputs-clause-caused
returns-in-Ok-read_inputs-clause-caused g c =
    caused_so (given_in c.in-Ok-read_inputs.inputs) c.finish.result (g.O.Sink.written c.args.out.now) (g.O.Sink.written c.finish.new.out) (g.F.Files.faults c.args.files.now) (g.F.Files.faults c.read_inputs.new.files)
    (g.O.Sink.faults c.args.out.now) (g.O.Sink.faults c.finish.new.out) c.finish.ensures.told c.finish.ensures.caused

pub returns-in-Ok-read_inputs-clause-unwritten : goal.returns-in-Ok-read_inputs-clause-unwritten
returns-in-Ok-read_inputs-clause-unwritten g c =
    unwritten_so (given_in c.in-Ok-read_inputs.inputs) c.finish.result (g.O.Sink.written c.args.out.now) (g.O.Sink.written c.finish.new.out) c.finish.ensures.told

pub returns-in-Ok-read_inputs-clause-refused : goal.returns-in-Ok-read_inputs-clause-refused
returns-in-Ok-read_inputs-clause-refused g c =
    let old = g.F.Files.asked c.args.files.now in
    let new = g.F.Files.asked c.read_inputs.new.files in
    let before = g.O.Sink.written c.args.out.now in
    let after = g.O.Sink.written c.finish.new.out in
    let calm = Rose (g.F.Files.faults c.args.files.now) (g.F.Files.faults c.read_inputs.new.files) → ⊥ in
    told_read _ _ _ _ c.in-Some.ensures c.options.ensures c.in-Ok.ensures c.words_have_one_task.ensures (g.F.Files.contents c.args.files.now) (λ inputs. AnswersRefused inputs calm c.finish.result)
    (IfSome_then (g.F.Files.contents c.args.files.now) c.in-Ok-read_inputs.ensures.told
    (λ known h. let inputs = InputsAre known (task c.in-Ok.setup c.in-Some.command) in
    answers_refused inputs old new before after (c.inputs_have_one_verdict.ensures.one known (task c.in-Ok.setup c.in-Some.command)) (g.F.Files.faults c.args.files.now) (g.F.Files.faults c.read_inputs.new.files)
    (g.O.Sink.faults c.args.out.now) (g.O.Sink.faults c.finish.new.out) c.finish.result
    (finished inputs old new before after (given_in c.in-Ok-read_inputs.inputs) c.finish.result h c.finish.ensures.told) (returns-in-Ok-read_inputs-clause-caused g c)))

pub returns-in-Ok-read_inputs-clause-complete : goal.returns-in-Ok-read_inputs-clause-complete
returns-in-Ok-read_inputs-clause-complete g c =
    let old = g.F.Files.asked c.args.files.now in
    let new = g.F.Files.asked c.read_inputs.new.files in
    let before = g.O.Sink.written c.args.out.now in
    let after = g.O.Sink.written c.finish.new.out in
    let calm = Rose (g.F.Files.faults c.args.files.now) (g.F.Files.faults c.read_inputs.new.files) → ⊥ in
    let quiet = Rose (g.O.Sink.faults c.args.out.now) (g.O.Sink.faults c.finish.new.out) → ⊥ in
    told_read _ _ _ _ c.in-Some.ensures c.options.ensures c.in-Ok.ensures c.words_have_one_task.ensures (g.F.Files.contents c.args.files.now) (λ inputs. AnswersAccepted inputs calm quiet c.finish.result)
    (IfSome_then (g.F.Files.contents c.args.files.now) c.in-Ok-read_inputs.ensures.told
    (λ known h. let inputs = InputsAre known (task c.in-Ok.setup c.in-Some.command) in
    answers_accepted inputs old new before after (c.inputs_have_one_verdict.ensures.one known (task c.in-Ok.setup c.in-Some.command)) (g.F.Files.faults c.args.files.now) (g.F.Files.faults c.read_inputs.new.files)
    (g.O.Sink.faults c.args.out.now) (g.O.Sink.faults c.finish.new.out) c.finish.result
    (finished inputs old new before after (given_in c.in-Ok-read_inputs.inputs) c.finish.result h c.finish.ensures.told) (returns-in-Ok-read_inputs-clause-caused g c)))

pub returns-in-Ok-read_inputs-clause-line : goal.returns-in-Ok-read_inputs-clause-line
returns-in-Ok-read_inputs-clause-line g c =
    λ calm. last_written (g.F.Files.contents c.args.files.now) _ (g.F.Files.asked c.args.files.now) (g.F.Files.asked c.read_inputs.new.files) (g.F.Files.faults c.args.files.now) (g.F.Files.faults c.read_inputs.new.files)
    (given_in c.in-Ok-read_inputs.inputs) c.finish.result (g.O.Sink.written c.args.out.now) (g.O.Sink.written c.finish.new.out) (g.E.Sink.written c.args.err.now) (g.E.Sink.written c.finish.new.err)
    c.finish.ensures.told (c.finish.ensures.line calm)

-- and they are not
pub returns-in-Err-clause-names : goal.returns-in-Err-clause-names
returns-in-Err-clause-names g c =
    told_read _ _ _ _ c.in-Some.ensures c.options.ensures c.in-Ok.ensures c.words_have_one_task.ensures (g.F.Files.contents c.args.files.now) (λ inputs. AsksInOrder inputs (g.F.Files.asked c.args.files.now) (g.F.Files.asked c.read_inputs.new.files)) c.in-Err.ensures.names

pub returns-in-Err-clause-told : goal.returns-in-Err-clause-told
returns-in-Err-clause-told g c =
    let old = g.F.Files.asked c.args.files.now in
    let new = g.F.Files.asked c.read_inputs.new.files in
    let out = g.O.Sink.written c.args.out.now in
    let calm = Rose (g.E.Sink.faults c.args.err.now) (g.E.Sink.faults c.refuse.new.err) → ⊥ in
    told_read _ _ _ _ c.in-Some.ensures c.options.ensures c.in-Ok.ensures c.words_have_one_task.ensures (g.F.Files.contents c.args.files.now) (λ inputs. Told inputs old new out out c.refuse.result)
    (IfSome_then (g.F.Files.contents c.args.files.now) c.in-Err.ensures.told
    (λ known h. told_stop (InputsAre known (task c.in-Ok.setup c.in-Some.command)) old new out out (Keeps-refl out) c.in-Err.stop c.refuse.result calm (g.E.Sink.written c.args.err.now) (g.E.Sink.written c.refuse.new.err) c.refuse.ensures.stopped c.refuse.ensures.line h))

pub returns-in-Err-clause-complete : goal.returns-in-Err-clause-complete
returns-in-Err-clause-complete g c =
    let calm = Rose (g.F.Files.faults c.args.files.now) (g.F.Files.faults c.read_inputs.new.files) → ⊥ in
    let faults = g.O.Sink.faults c.args.out.now in
    told_read _ _ _ _ c.in-Some.ensures c.options.ensures c.in-Ok.ensures c.words_have_one_task.ensures (g.F.Files.contents c.args.files.now) (λ inputs. AnswersAccepted inputs calm (Rose faults faults → ⊥) c.refuse.result) (search rules)

pub returns-in-Err-clause-line : goal.returns-in-Err-clause-line
returns-in-Err-clause-line g c =
    let old = g.F.Files.asked c.args.files.now in
    let new = g.F.Files.asked c.read_inputs.new.files in
    let stop = c.in-Err.stop in
    stop_written (g.F.Files.contents c.args.files.now) _ old new (g.F.Files.faults c.args.files.now) (g.F.Files.faults c.read_inputs.new.files) stop c.refuse.result _ (g.E.Sink.written c.args.err.now) (g.E.Sink.written c.refuse.new.err)
    c.refuse.ensures.stopped c.refuse.ensures.line c.in-Err.ensures.cause.fault
    (about_read _ _ _ _ c.in-Some.ensures c.options.ensures c.in-Ok.ensures c.words_have_one_task.ensures new stop c.in-Err.ensures.about)
    (told_read _ _ _ _ c.in-Some.ensures c.options.ensures c.in-Ok.ensures c.words_have_one_task.ensures (g.F.Files.contents c.args.files.now) (λ inputs. TellsStop inputs old new (stop_status stop) (stop_line stop)) c.in-Err.ensures.told)

-- a front part of the line
pub returns-in-Ok-read_inputs-clause-line_front : goal.returns-in-Ok-read_inputs-clause-line_front
returns-in-Ok-read_inputs-clause-line_front g c =
    last_front (g.F.Files.contents c.args.files.now) _ (g.F.Files.asked c.args.files.now) (g.F.Files.asked c.read_inputs.new.files) (g.F.Files.faults c.args.files.now) (g.F.Files.faults c.read_inputs.new.files)
    (given_in c.in-Ok-read_inputs.inputs) c.finish.result (g.O.Sink.written c.args.out.now) (g.O.Sink.written c.finish.new.out) (g.E.Sink.written c.args.err.now) (g.E.Sink.written c.finish.new.err)
    c.finish.ensures.told c.finish.ensures.line_front

pub returns-in-Err-clause-line_front : goal.returns-in-Err-clause-line_front
returns-in-Err-clause-line_front g c =
    let old = g.F.Files.asked c.args.files.now in
    let new = g.F.Files.asked c.read_inputs.new.files in
    let stop = c.in-Err.stop in
    stop_front (g.F.Files.contents c.args.files.now) _ old new (g.F.Files.faults c.args.files.now) (g.F.Files.faults c.read_inputs.new.files) stop c.refuse.result _ (g.E.Sink.written c.args.err.now) (g.E.Sink.written c.refuse.new.err)
    c.refuse.ensures.stopped c.refuse.ensures.line c.in-Err.ensures.cause.fault
    (about_read _ _ _ _ c.in-Some.ensures c.options.ensures c.in-Ok.ensures c.words_have_one_task.ensures new stop c.in-Err.ensures.about)
    (told_read _ _ _ _ c.in-Some.ensures c.options.ensures c.in-Ok.ensures c.words_have_one_task.ensures (g.F.Files.contents c.args.files.now) (λ inputs. TellsStop inputs old new (stop_status stop) (stop_line stop)) c.in-Err.ensures.told)

-- what was written shows the journal and the versions
pub returns-in-Ok-read_inputs-clause-shown : goal.returns-in-Ok-read_inputs-clause-shown
returns-in-Ok-read_inputs-clause-shown g c =
    shows_what_it_says c.documents_show.ensures.inputs (g.F.Files.contents c.args.files.now) _ (g.O.Sink.written c.args.out.now) (g.O.Sink.written c.finish.new.out) c.finish.result
