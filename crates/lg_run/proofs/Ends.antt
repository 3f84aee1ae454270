-- How a run ends, by what was read and how it finishes.
use Rattle.std.proofs.Common.{◌≡◌, Bool, true, false, cond, ℕ, List, inl, inr, Option, None, Some, IfSome, Vec, Result, Ok, Err, IfOk, refl, sym, ◌∙◌, subst}
use Rattle.std.specs.Io.KnownBytes.{Appends, Keeps}
use Rattle.lg_base.specs.Contents.{Contents}
use Rattle.lg_base.specs.Faults.{Rose}
use Rattle.lg_base.specs.Sinks.{AppendsFront}
use Rattle.lg_base.specs.declared.memory.NoMemory.{NoMemory as OutOfMemory}
use Rattle.lg_run.specs.Words.{Task, TaskIs, run_options, OptionsAre, AreInRange}
use Rattle.lg_run.specs.Commands.{option_words, task, IsCommand}
use Rattle.lg_run.specs.declared.command.Command.{Command}
use Rattle.lg_run.specs.declared.setup.Setup.{Setup}
use Rattle.lg_run.specs.Inputs.{Found, Reading, accepted, refused, IsOne, Given, InputsAre}
use Rattle.lg_run.specs.Lines.{memory_line}
use Rattle.lg_run.specs.Stops.{is_unread, stop_status, stop_line, EndsAs, EndsWithLine}
use Rattle.lg_run.specs.Reads.{Comes, TellsStop, IsFaultOf, IsAbout}
use Rattle.lg_run.specs.Answers.{WhereTold, Unwritten, Caused, Told, AnswersRefused, AnswersAccepted, names_of, IsRefusal, HasLine, WritesLine, WritesLineFront, Finishes, last_line, IsStopped}
use Rattle.lg_run.specs.Shown.{RunsOfInputsAreShown, ShowsWhatItSays}
use Rattle.lg_run.specs.declared.stop.Stop.{Stop}
use Rattle.lg_run.specs.declared.stop.Stop.TheVariants.{Memory, Unreadable, TooLong, Dictionary, Knowledge, Script, TooManyEdits, TooFewVersions, Quoted}
use Rattle.lg_run.specs.declared.status.Status.{Status}
use Rattle.lg_run.specs.declared.status.Status.TheVariants.{Done, BadInput, Usage, ReadFault, WriteFault, NoMemory}
use Rattle.lg_run.proofs.About.{stop_refuses}

-- ---- where something is told or not

-- what the law of words says
abbrev pub OneTask : Type 0
OneTask = (words : List (List ℕ)) (t u : Task) → TaskIs words t → TaskIs words u → t ≡ u

-- what holds of the inputs of the command's task
told_of : OneTask → (contents : Option Contents) (task : Task) (words : List (List ℕ)) (Holds : Reading Given → Type 0) → TaskIs words task → IfSome contents (λ known. Holds (InputsAre known task)) → WhereTold contents words Holds
told_of one None task words Holds is h = tt
told_of one (Some known) task words Holds is h = λ other that. subst (λ (t : Task). Holds (InputsAre known t)) (one words task other is that) h

-- ---- what the bytes show

-- by the law, whatever was written
shown_so : RunsOfInputsAreShown → (contents : Contents) (words : List (List ℕ)) (before after : Option (List ℕ)) (status : Status) → ShowsWhatItSays contents words before after status
shown_so shown contents words before after Done = λ setup dict know scripts document is written one other.
    shown contents contents words words setup setup dict dict know know scripts scripts document is is one other
shown_so shown contents words before after WriteFault = tt
shown_so shown contents words before after BadInput = tt
shown_so shown contents words before after Usage = tt
shown_so shown contents words before after ReadFault = tt
shown_so shown contents words before after NoMemory = tt

pub shows_what_it_says : RunsOfInputsAreShown → (contents : Option Contents) (words : List (List ℕ)) (before after : Option (List ℕ)) (status : Status)
    → IfSome contents (λ known. ShowsWhatItSays known words before after status)
shows_what_it_says shown None words before after status = tt
shows_what_it_says shown (Some known) words before after status = shown_so shown known words before after status

-- ---- the options that were read

module _ (words texts : List (List ℕ)) (command : Command) (setup : Setup) (is : IsCommand words command) (same : texts ≡ option_words command) (read : (o : Setup) → OptionsAre run_options texts o → setup ≡ o) where
  are_read : setup ≡ is.setup
  are_read = read is.setup (subst (λ (w : List (List ℕ)). OptionsAre run_options w is.setup) (sym same) is.are_options)

  pub range_read : AreInRange setup
  range_read = subst AreInRange (sym are_read) is.range

  -- so that the task is the command's with them
  is_task_read : TaskIs words (task setup command)
  is_task_read = subst (λ (o : Setup). TaskIs words (task o command)) (sym are_read) is.is_task

  pub about_read : OneTask → (asked : List (List ℕ)) (stop : Stop) → IsAbout (names_of (task setup command)) asked stop → (t : Task) → TaskIs words t → IsAbout (names_of t) asked stop
  about_read one asked stop h t that = subst (λ (t : Task). IsAbout (names_of t) asked stop) (one words (task setup command) t is_task_read that) h

  pub told_read : OneTask → (contents : Option Contents) (Holds : Reading Given → Type 0) → IfSome contents (λ known. Holds (InputsAre known (task setup command))) → WhereTold contents words Holds
  told_read one contents Holds h = told_of one contents (task setup command) words Holds is_task_read h

-- ---- what is written

-- an output fails only where the count of its faults rose
pub caused_so : (g : Given) (status : Status) (before after : Option (List ℕ)) (files_before files_now out_before out_now : ℕ) → Finishes g status before after → (status ≡ WriteFault → Rose out_before out_now)
    → Caused status files_before files_now out_before out_now
caused_so g Done before after files_before files_now out_before out_now f rose = tt
caused_so g WriteFault before after files_before files_now out_before out_now f rose = rose refl
caused_so g NoMemory before after files_before files_now out_before out_now f rose = tt
caused_so g ReadFault before after files_before files_now out_before out_now f rose = absurd f
caused_so g BadInput before after files_before files_now out_before out_now f rose = tt
caused_so g Usage before after files_before files_now out_before out_now f rose = tt

-- with its inputs in hand a command ends by no status that writes nothing
pub unwritten_so : (g : Given) (status : Status) (before after : Option (List ℕ)) → Finishes g status before after → Unwritten status before after
unwritten_so g Done before after f = tt
unwritten_so g WriteFault before after f = tt
unwritten_so g NoMemory before after f = tt
unwritten_so g ReadFault before after f = absurd f
unwritten_so g BadInput before after f = absurd f
unwritten_so g Usage before after f = absurd f

module _ (inputs : Reading Given) (old new : List (List ℕ)) (before after : Option (List ℕ)) where
  -- a command that has its inputs in hand finishes so
  pub finished : (g : Given) (status : Status) → Comes inputs old new (accepted g) → Finishes g status before after → Told inputs old new before after status
  finished g Done h f = record { given = g; read = h; document = f.0; is = f.1; grown = f.2 }
  finished g WriteFault h f = record { given = g; read = h; document = f.0; is = f.1; grown = f.2 }
  finished g NoMemory h (inl same) = inl same
  finished g NoMemory h (inr f) = inr (record { given = g; read = h; document = f.0; is = f.1; grown = f.2 })
  finished g ReadFault h f = absurd f
  finished g BadInput h f = absurd f
  finished g Usage h f = absurd f

  -- a command whose inputs are not had ends so
  pub stopped : Keeps before after → (status : Status) (line : List ℕ) → IsStopped status → TellsStop inputs old new status line → Told inputs old new before after status
  stopped same BadInput line is h = (line, h)
  stopped same ReadFault line is h = tt
  stopped same NoMemory line is h = inl same
  stopped same Done line is h = absurd is
  stopped same Usage line is h = absurd is
  stopped same WriteFault line is h = absurd is

  pub told_stop : Keeps before after → (stop : Stop) (status : Status) (so : Type 0) (err_old err_new : Option (List ℕ)) → IsStopped status → EndsAs stop status so err_old err_new → TellsStop inputs old new (stop_status stop) (stop_line stop) → Told inputs old new before after status
  told_stop same stop status so err_old err_new is (inl says) h = subst (λ (s : Status). Told inputs old new before after s) (sym says.same) (stopped same (stop_status stop) (stop_line stop) (subst IsStopped says.same is) h)
  told_stop same stop status so err_old err_new is (inr says) h = subst (λ (s : Status). Told inputs old new before after s) (sym says.same) (inl same)

  module _ (one : IsOne inputs) (files_before files_now out_before out_now : ℕ) where
    clash : (g : Given) (line : List ℕ) → ◌≡◌ {A = Found Given} (accepted g) (refused line) → ⊥
    clash g line h = cc

    -- a text that is refused is told
    pub answers_refused : (status : Status) → Told inputs old new before after status → Caused status files_before files_now out_before out_now →
        AnswersRefused inputs (¬ Rose files_before files_now) status
    answers_refused Done told caused names line is calm = absurd (clash told.given line (one told.read.names names (accepted told.given) (refused line) told.read.read is).1)
    answers_refused WriteFault told caused names line is calm = absurd (clash told.given line (one told.read.names names (accepted told.given) (refused line) told.read.read is).1)
    answers_refused ReadFault told caused names line is calm = absurd (calm caused)
    answers_refused Usage told caused names line is calm = absurd told
    answers_refused BadInput told caused names line is calm = inl refl
    answers_refused NoMemory told caused names line is calm = inr refl

    -- inputs that are accepted are answered
    pub answers_accepted : (status : Status) → Told inputs old new before after status → Caused status files_before files_now out_before out_now →
        AnswersAccepted inputs (¬ Rose files_before files_now) (¬ Rose out_before out_now) status
    answers_accepted Done told caused names g is read written = inl refl
    answers_accepted NoMemory told caused names g is read written = inr refl
    answers_accepted WriteFault told caused names g is read written = absurd (written caused)
    answers_accepted ReadFault told caused names g is read written = absurd (read caused)
    answers_accepted Usage told caused names g is read written = absurd told
    answers_accepted BadInput told caused names g is read written = absurd (clash g told.0 (one names told.1.names (accepted g) (refused told.0) is told.1.read).1)

-- ---- the line

-- the line of a stop where memory ran out
never_memory : (b : Bool) → cond b ReadFault BadInput ≡ NoMemory → ⊥
never_memory true h = cc
never_memory false h = cc

stop_said : (stop : Stop) → stop_status stop ≡ NoMemory → stop_line stop ≡ memory_line
stop_said Memory h = refl
stop_said (Unreadable name) h = cc
stop_said (TooLong name) h = cc
stop_said (Dictionary name error) h = absurd (never_memory (is_unread error) h)
stop_said (Knowledge name error) h = cc
stop_said (Script name error) h = cc
stop_said (TooManyEdits name) h = cc
stop_said (TooFewVersions name count) h = cc
stop_said (Quoted name word) h = cc

module _ (contents : Option Contents) (words : List (List ℕ)) (old new : List (List ℕ)) (before now : ℕ) where
  -- the line of a stop, by its status
  stop_fits : (status : Status) (line : List ℕ) → IsStopped status → (status ≡ NoMemory → line ≡ memory_line) → (status ≡ BadInput → (task : Task) → TaskIs words task → IsRefusal (names_of task) new line) →
      IsFaultOf new before now status line → WhereTold contents words (λ inputs. TellsStop inputs old new status line) → HasLine contents words old new status line
  stop_fits BadInput line is memory refuses fault told = (refuses refl, told)
  stop_fits ReadFault line is memory refuses fault told = fault.1
  stop_fits NoMemory line is memory refuses fault told = memory refl
  stop_fits Done line is memory refuses fault told = absurd is
  stop_fits Usage line is memory refuses fault told = absurd is
  stop_fits WriteFault line is memory refuses fault told = absurd is

  -- a stop has its line
  record HasItsLine (status : Status) (so : Type 0) (err_old err_new : Option (List ℕ)) : Type 0 where
    line : List ℕ
    fits : HasLine contents words old new status line
    written : so → Appends err_old err_new line
    front : AppendsFront err_old err_new line

  stop_has : (stop : Stop) (status : Status) (so : Type 0) (err_old err_new : Option (List ℕ)) → IsStopped status → EndsAs stop status so err_old err_new →
      IsFaultOf new before now (stop_status stop) (stop_line stop) → ((task : Task) → TaskIs words task → IsAbout (names_of task) new stop) →
      WhereTold contents words (λ inputs. TellsStop inputs old new (stop_status stop) (stop_line stop)) → HasItsLine status so err_old err_new
  stop_has stop status so err_old err_new is (inl says) fault about told = record {
    line = stop_line stop;
    fits = subst (λ (s : Status). HasLine contents words old new s (stop_line stop)) (sym says.same)
        (stop_fits (stop_status stop) (stop_line stop) (subst IsStopped says.same is) (stop_said stop) (λ bad task is. stop_refuses (names_of task) new stop (about task is) bad) fault told);
    written = says.written;
    front = says.front;
  }
  stop_has stop status so err_old err_new is (inr says) fault about told = record {
    line = memory_line;
    fits = subst (λ (s : Status). HasLine contents words old new s memory_line) (sym says.same) refl;
    written = says.written;
    front = says.front;
  }

  pub stop_written : (stop : Stop) (status : Status) (so : Type 0) (err_old err_new : Option (List ℕ)) → IsStopped status → EndsAs stop status so err_old err_new →
      IsFaultOf new before now (stop_status stop) (stop_line stop) → ((task : Task) → TaskIs words task → IsAbout (names_of task) new stop) →
      WhereTold contents words (λ inputs. TellsStop inputs old new (stop_status stop) (stop_line stop)) → so → WritesLine contents words old new status err_old err_new
  stop_written stop status so err_old err_new is says fault about told holds =
      let l = stop_has stop status so err_old err_new is says fault about told in
      record { line = l.line; fits = l.fits; grown = l.written holds }

  pub stop_front : (stop : Stop) (status : Status) (so : Type 0) (err_old err_new : Option (List ℕ)) → IsStopped status → EndsAs stop status so err_old err_new →
      IsFaultOf new before now (stop_status stop) (stop_line stop) → ((task : Task) → TaskIs words task → IsAbout (names_of task) new stop) →
      WhereTold contents words (λ inputs. TellsStop inputs old new (stop_status stop) (stop_line stop)) → WritesLineFront contents words old new status err_old err_new
  stop_front stop status so err_old err_new is says fault about told =
      let l = stop_has stop status so err_old err_new is says fault about told in
      record { line = l.line; fits = l.fits; grown = l.front }

  -- a command that has its inputs in hand ends by a line of its status
  last_fits : (g : Given) (status : Status) (out_old out_new : Option (List ℕ)) → Finishes g status out_old out_new → HasLine contents words old new status (last_line status)
  last_fits g Done out_old out_new f = refl
  last_fits g WriteFault out_old out_new f = refl
  last_fits g NoMemory out_old out_new f = refl
  last_fits g BadInput out_old out_new f = absurd f
  last_fits g Usage out_old out_new f = absurd f
  last_fits g ReadFault out_old out_new f = absurd f

  pub last_written : (g : Given) (status : Status) (out_old out_new err_old err_new : Option (List ℕ)) → Finishes g status out_old out_new → Appends err_old err_new (last_line status) → WritesLine contents words old new status err_old err_new
  last_written g status out_old out_new err_old err_new f grown = record { line = last_line status; fits = last_fits g status out_old out_new f; grown = grown }

  pub last_front : (g : Given) (status : Status) (out_old out_new err_old err_new : Option (List ℕ)) → Finishes g status out_old out_new → AppendsFront err_old err_new (last_line status) → WritesLineFront contents words old new status err_old err_new
  last_front g status out_old out_new err_old err_new f grown = record { line = last_line status; fits = last_fits g status out_old out_new f; grown = grown }

-- a stop whose line is told ends so
pub ends_as : {A : Type 0} (stop : Stop) (status wanted : Status) (line : Result (Vec ℕ A) OutOfMemory) (so : Type 0) (err_old err_new : Option (List ℕ)) → wanted ≡ stop_status stop →
    IfOk line (λ l. l.items ≡ stop_line stop) → EndsWithLine status wanted line so err_old err_new → EndsAs stop status so err_old err_new
ends_as stop status wanted (Ok line) so err_old err_new same is says = inl (record { same = says.same ∙ same; written = λ h. subst (λ (l : List ℕ). Appends err_old err_new l) is (says.written h); front = subst (AppendsFront err_old err_new) is says.front })
ends_as stop status wanted (Err e) so err_old err_new same is says = inr says
