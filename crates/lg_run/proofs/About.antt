-- The text that a stop is about.
use Rattle.std.proofs.Common.{◌≡◌, ℕ, zero, suc, List, [], ◌∷◌, Contains, Result, Ok, Err, IfErr, refl, subst, arith}
use Rattle.lg_dictread.specs.declared.dict_error.DictError.{DictError}
use Rattle.lg_dictread.specs.declared.dict_error.DictError.TheVariants as errors
use Rattle.lg_dictread.specs.Telling.{IsCause}
use Rattle.lg_run.specs.Reads.{IsOfLast, IsAbout}
use Rattle.lg_run.specs.Stops.{stop_status, stop_line}
use Rattle.lg_run.specs.Answers.{IsRefusal, too_long, dictionary, knowledge, script, too_many_edits, too_few_versions, quoted}
use Rattle.lg_run.specs.declared.status.Status.TheVariants.{BadInput}
use Rattle.lg_run.specs.declared.stop.Stop.{Stop}
use Rattle.lg_run.specs.declared.stop.Stop.TheVariants.{Memory, Unreadable, TooLong, Dictionary, Knowledge, Script, TooManyEdits, TooFewVersions, Quoted}

-- ---- names

abbrev Names : Type 0
Names = List (List ℕ)

pub first_name : (name : List ℕ) (names : Names) → Contains (name ∷ names) name
first_name name names = (0, omega arith, refl)

only_name : (name : List ℕ) (names : Names) (x : List ℕ) → Contains (name ∷ []) x → Contains (name ∷ names) x
only_name name names x (zero, small, is) = (0, omega arith, is)
only_name name names x (suc k, small, is) = absurd (omega (arith, small))

pub later_name : (name : List ℕ) (names : Names) (x : List ℕ) → Contains names x → Contains (name ∷ names) x
later_name name names x (k, small, is) = (suc k, omega (arith, small), is)

module _ (names more asked : Names) (wider : (x : List ℕ) → Contains names x → Contains more x) where
  about_more : (stop : Stop) → IsAbout names asked stop → IsAbout more asked stop
  about_more Memory h = tt
  about_more (Unreadable name) h = tt
  about_more (TooLong name) h = wider name.now h
  about_more (Dictionary name error) h = (wider name.now h.0, h.1, h.2)
  about_more (Knowledge name error) h = (wider name.now h.0, h.1)
  about_more (Script name error) h = (wider name.now h.0, h.1)
  about_more (TooManyEdits name) h = wider name.now h
  about_more (TooFewVersions name count) h = wider name.now h
  about_more (Quoted name word) h = wider name.now h

  result_more : {T : Type 0} (r : Result T Stop) → IfErr r (IsAbout names asked) → IfErr r (IsAbout more asked)
  result_more (Ok x) h = tt
  result_more (Err stop) h = about_more stop h

one_name : (names : Names) (name : List ℕ) → Contains names name → (x : List ℕ) → Contains (name ∷ []) x → Contains names x
one_name names name there x (zero, small, is) = subst (Contains names) is there
one_name names name there x (suc k, small, is) = absurd (omega (arith, small))

-- a stop that is about one of the names
pub about_one : (names asked : Names) (name : List ℕ) (stop : Stop) → Contains names name → IsAbout (name ∷ []) asked stop → IsAbout names asked stop
about_one names asked name stop there = about_more (name ∷ []) names asked (one_name names name there) stop

-- a stop that is about the first name, or about a later one
pub about_first : (name : List ℕ) (names asked : Names) (stop : Stop) → IsAbout (name ∷ []) asked stop → IsAbout (name ∷ names) asked stop
about_first name names asked = about_more (name ∷ []) (name ∷ names) asked (only_name name names)

pub about_later : {T : Type 0} (name : List ℕ) (names asked : Names) (r : Result T Stop) → IfErr r (IsAbout names asked) → IfErr r (IsAbout (name ∷ names) asked)
about_later name names asked = result_more names (name ∷ names) asked (later_name name names)

pub about_second : (name other : List ℕ) (asked : Names) (stop : Stop) → IsAbout (other ∷ []) asked stop → IsAbout (name ∷ other ∷ []) asked stop
about_second name other asked = about_more (other ∷ []) (name ∷ other ∷ []) asked (later_name name (other ∷ []))

-- ---- where it comes from

pub of_last : (before now : ℕ) (asked : Names) (error : DictError) → IsCause before now asked error → IsOfLast asked error
of_last before now asked errors.NoMemory h = tt
of_last before now asked (errors.WordFile line file cause) h = h.0
of_last before now asked (errors.NotUtf8 n) h = tt
of_last before now asked (errors.Syntax line column) h = tt
of_last before now asked (errors.UnknownMacro line macro) h = tt
of_last before now asked (errors.CostForm line) h = tt
of_last before now asked (errors.TooDeep line) h = tt
of_last before now asked (errors.TooManyNodes line n) h = tt
of_last before now asked (errors.TooManyChoices line n) h = tt
of_last before now asked (errors.SideTooLong line n) h = tt
of_last before now asked (errors.DuplicateWord word n m) h = tt

-- ---- its line

pub stop_refuses : (names asked : Names) (stop : Stop) → IsAbout names asked stop → stop_status stop ≡ BadInput → IsRefusal names asked (stop_line stop)
stop_refuses names asked Memory about h = cc
stop_refuses names asked (Unreadable name) about h = cc
stop_refuses names asked (TooLong name) about h = too_long name.now about
stop_refuses names asked (Dictionary name error) about h = dictionary name.now error about.0 about.2 about.1 h
stop_refuses names asked (Knowledge name error) about h = knowledge name.now error about.0 about.1
stop_refuses names asked (Script name error) about h = script name.now error about.0 about.1
stop_refuses names asked (TooManyEdits name) about h = too_many_edits name.now about
stop_refuses names asked (TooFewVersions name count) about h = too_few_versions name.now count about
stop_refuses names asked (Quoted name word) about h = quoted name.now word about
