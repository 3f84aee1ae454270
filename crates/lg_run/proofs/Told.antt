-- What is told of a text that names no further file.
use Rattle.std.proofs.Common.{ℕ, List, [], Ok, Err, ◌≡◌, refl, sym}
use Rattle.std.proofs.lemmas.List.{append-nil}
use Rattle.lg_knowread.specs.declared.fault.KnowError.{KnowError}
use Rattle.lg_knowread.specs.declared.fault.KnowError.TheVariants as know_errors
use Rattle.lg_knowread.specs.Reading.{KnowledgeIs, TellsKnowledge}
use Rattle.lg_script.specs.declared.script_error.ScriptError.{ScriptError}
use Rattle.lg_script.specs.declared.script_error.ScriptError.TheVariants as script_errors
use Rattle.lg_script.specs.Commands.{CommandView}
use Rattle.lg_script.specs.Scripts.{ScriptIs}
use Rattle.lg_run.specs.Inputs.{Found, Reading, accepted, refused, KnowledgeReads, reads_knowledge, ScriptReads, reads_script}
use Rattle.lg_run.specs.Lines.{know_line, script_line}
use Rattle.lg_run.specs.Reads.{Comes}

-- nothing was asked for
pub comes_at_once : {A : Type 0} (reading : Reading A) (found : Found A) → reading [] found → (asked : List (List ℕ)) → Comes reading asked asked found
comes_at_once reading found h asked = record { names = []; read = h; grown = sym (append-nil asked) }

module _ (name bytes : List ℕ) where
  refused_know : (error : KnowError) → KnowledgeIs bytes (Err error) → (asked : List (List ℕ)) → Comes (KnowledgeReads name bytes) asked asked (refused (know_line name error))
  refused_know error h asked = comes_at_once (KnowledgeReads name bytes) (refused (know_line name error)) (reads_knowledge (Err error) h) asked

  pub told_know : (error : KnowError) → (error ≡ know_errors.NoMemory → ⊥) → TellsKnowledge bytes (Err error) → (asked : List (List ℕ)) → Comes (KnowledgeReads name bytes) asked asked (refused (know_line name error))
  told_know know_errors.NoMemory other h asked = absurd (other refl)
  told_know (know_errors.NotUtf8 n) other h asked = refused_know (know_errors.NotUtf8 n) h asked
  told_know (know_errors.Syntax line column) other h asked = refused_know (know_errors.Syntax line column) h asked
  told_know (know_errors.UnknownSection line) other h asked = refused_know (know_errors.UnknownSection line) h asked
  told_know (know_errors.BadPattern line) other h asked = refused_know (know_errors.BadPattern line) h asked
  told_know (know_errors.BadType line) other h asked = refused_know (know_errors.BadType line) h asked

  refused_script : (error : ScriptError) → ScriptIs bytes (Err error) → (asked : List (List ℕ)) → Comes (ScriptReads name bytes) asked asked (refused (script_line name error))
  refused_script error h asked = comes_at_once (ScriptReads name bytes) (refused (script_line name error)) (reads_script (Err error) h) asked

  -- what the reader of scripts says of an error
  abbrev pub SaysScript : ScriptError → Type 0
  SaysScript script_errors.NoMemory = Unit {0}
  SaysScript error = ScriptIs bytes (Err error)

  pub told_script : (error : ScriptError) → (error ≡ script_errors.NoMemory → ⊥) → SaysScript error → (asked : List (List ℕ)) → Comes (ScriptReads name bytes) asked asked (refused (script_line name error))
  told_script script_errors.NoMemory other h asked = absurd (other refl)
  told_script (script_errors.NotUtf8 n) other h asked = refused_script (script_errors.NotUtf8 n) h asked
  told_script (script_errors.UnknownCommand line) other h asked = refused_script (script_errors.UnknownCommand line) h asked
  told_script (script_errors.BadNumber line) other h asked = refused_script (script_errors.BadNumber line) h asked
  told_script (script_errors.BadEdit line) other h asked = refused_script (script_errors.BadEdit line) h asked

  pub read_script_told : (commands : List CommandView) → ScriptIs bytes (Ok commands) → (asked : List (List ℕ)) → Comes (ScriptReads name bytes) asked asked (accepted commands)
  read_script_told commands is asked = comes_at_once (ScriptReads name bytes) (accepted commands) (reads_script (Ok commands) is) asked
