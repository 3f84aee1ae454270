-- At least one: the lines of a text give an outcome.
use Rattle.std.proofs.Common.{ℕ, ◌+◌, List, [], ◌∷◌, ◌⊎◌, inl, inr, min, Result, Ok, Err}
use Rattle.std.specs.Str.{IsUtf8, IsValidUpTo}
use Rattle.lg_lex.specs.Marked.{without_mark}
use Rattle.lg_dictread.specs.declared.entry_text.EntryError.{EntryError}
use Rattle.lg_gram.specs.EntryViews.{EntryView}
use Rattle.lg_dictread.specs.EntryTexts.{EntryTextIs}
use Rattle.lg_script.specs.declared.script_error.ScriptError.TheVariants.{NotUtf8}
use Rattle.lg_script.specs.Lines.{Says, IsCommand}
use Rattle.lg_script.specs.Scripts.{LINES_COUNTED, error_at, Outcome, with_command, LinesGive, ended, passed, command, fault, ScriptIs, not_utf8, lines}
use Rattle.lg_script.proofs.Texts.{lines_of}
use Rattle.lg_script.proofs.SomeLine.{skip, said, returns, Told, told_by}
use Rattle.lg_script.proofs.SomeCommand.{Meaning, meaning}

module _ (some_text : (bytes : List ℕ) → (x : Result EntryView EntryError) × EntryTextIs bytes x) where
  abbrev Given : ℕ → List (List ℕ) → Type 0
  Given n ls = (x : Outcome) × LinesGive n ls x

  command_by : (n : ℕ) (line body word rest : List ℕ) (ls : List (List ℕ)) → Says line body → IsCommand body word rest → Meaning word rest → Given (n + 1) ls → Given n (line ∷ ls)
  command_by n line body word rest ls says is (Ok c, h) (x, more_lines) = (with_command c x, command n line body word rest ls c x says is h more_lines)
  command_by n line body word rest ls says is (Err f, h) others = (Err (error_at (min n LINES_COUNTED) f), fault n line body word rest ls f says is h)

  line_by : (n : ℕ) (line body : List ℕ) (ls : List (List ℕ)) → Says line body → Told body → Given (n + 1) ls → Given n (line ∷ ls)
  line_by n line body ls says (inl is) (x, h) = (x, passed n line body ls x says is h)
  line_by n line body ls says (inr (word, rest, is, ends)) others = command_by n line body word rest ls says is (meaning some_text word rest ends) others

  given : (n : ℕ) (ls : List (List ℕ)) → Given n ls
  given n [] = (Ok [], ended n)
  given n (line ∷ ls) = let body = said line (returns line) in line_by n line body.0 ls body.1 (told_by body.0 (skip body.0)) (given (n + 1) ls)

  script_by : (bytes : List ℕ) → IsUtf8 bytes ⊎ ((n : ℕ) × IsValidUpTo bytes n) → (x : Outcome) × ScriptIs bytes x
  script_by bytes (inl utf8) = let ls = lines_of (without_mark bytes) in let x = given 1 ls.0 in (x.0, lines ls.0 x.0 utf8 ls.1 x.1)
  script_by bytes (inr (n, h)) = (Err (NotUtf8 n), not_utf8 n h)

  pub some_script : ((bytes : List ℕ) → IsUtf8 bytes ⊎ ((n : ℕ) × IsValidUpTo bytes n)) → (bytes : List ℕ) → (x : Outcome) × ScriptIs bytes x
  some_script utf8 bytes = script_by bytes (utf8 bytes)
