-- A command as a task.
use Rattle.std.specs.Prelude.{ℕ, List, [], map, string_bytes}
use Rattle.lg_run.specs.Words.{Task, One, Run, Gen, Export, Audit, TaskIs, run_options, OptionsAre, IsShort, AreInRange}
use Rattle.lg_run.specs.declared.setup.Setup.{Setup}
use Rattle.lg_run.specs.declared.command.Command.{Command}
use Rattle.lg_run.specs.declared.command.Command.TheVariants as command

-- the words that are its options
abbrev pub option_words : Command → List (List ℕ)
option_words (command.One options dictionary sentence) = map string_bytes options.now
option_words (command.Run options dictionary knowledge scripts) = map string_bytes options.now
option_words (command.Gen seed words sentences) = []
option_words (command.Export dictionary script number) = []
option_words (command.Audit dictionary knowledge document scripts) = []

-- what it asks for, where its options are these
abbrev pub task : Setup → Command → Task
task setup (command.One options dictionary sentence) = One setup dictionary.now sentence.now
task setup (command.Run options dictionary knowledge scripts) = Run setup dictionary.now knowledge.now (map string_bytes scripts.now)
task setup (command.Gen seed words sentences) = Gen seed words sentences
task setup (command.Export dictionary script number) = Export dictionary.now (string_bytes script.now) number
task setup (command.Audit dictionary knowledge document scripts) = Audit dictionary.now knowledge.now document.now (map string_bytes scripts.now)

-- the command that the words are; each command knows no other options than `run`
pub record IsCommand (words : List (List ℕ)) (c : Command) : Type 0 where
  pub setup : Setup
  pub are_options : OptionsAre run_options (option_words c) setup
  pub is_task : TaskIs words (task setup c)
  pub range : AreInRange setup
  pub short : IsShort (task setup c)
