-- The scripts of a command, read one after another.
use Rattle.std.proofs.Common.{◌≡◌, ℕ, zero, suc, ◌+◌, ◌<◌, List, [], ◌∷◌, ◌++◌, length, map, drop, get_or, All, Contains, option_map, refl, sym, ap, subst, ◌∙◌, arith}
use Rattle.std.proofs.lemmas.List.{append-nil, append_assoc, drop_more}
use Rattle.std.proofs.lemmas.List.Elements.{All-append}
use Rattle.std.proofs.lemmas.Option.{slice_get-map, slice_get_read}
use Rattle.lg_base.specs.Contents.{Contents}
use Rattle.lg_script.specs.Bounds.{AreInBounds}
use Rattle.lg_script.specs.Commands.{CommandView}
use Rattle.lg_script.specs.Scripts.{Outcome, ScriptIs}
use Rattle.lg_run.specs.Inputs.{Found, accepted, refused, missing, HasSome, IsOne, given, Followed, both, ends_refused, ends_missing, FileIs, found_script, ScriptReads, reads_script, ScriptInput, ScriptsInput, EditsRead}
use Rattle.lg_run.specs.Reads.{AsksInOrder, Comes, TellsStop}
use Rattle.lg_run.specs.declared.status.Status.{Status}
use Rattle.lg_run.specs.declared.status.Status.TheVariants.{Done, BadInput, Usage, ReadFault, WriteFault, NoMemory}
use Rattle.lg_run.proofs.Readings.{one_given, some_given, asks_none, asks_first, some_followed, one_followed}
use Rattle.lg_run.proofs.Dictionaries.{some_file, one_file}
use Rattle.lg_run.proofs.EditSums.{one_of_edits, some_of_edits, name_at}

abbrev Scripts : Type 0
Scripts = List (List CommandView)

-- ---- a script

abbrev pub SomeScript : Type 0
SomeScript = (bytes : List ℕ) → (x : Outcome) × ScriptIs bytes x

abbrev pub OneScript : Type 0
OneScript = (bytes : List ℕ) (x y : Outcome) → ScriptIs bytes x → ScriptIs bytes y → x ≡ y

one_script_text : OneScript → (name bytes : List ℕ) → IsOne (ScriptReads name bytes)
one_script_text law name bytes _ _ _ _ (reads_script x p) (reads_script y q) = (refl, ap (found_script name) (law bytes x y p q))

some_script_text : SomeScript → (name bytes : List ℕ) → HasSome (ScriptReads name bytes)
some_script_text law name bytes = let x = law bytes in ([], found_script name x.0, reads_script x.0 x.1)

pub some_script : SomeScript → (contents : Contents) (name : List ℕ) → HasSome (ScriptInput contents name)
some_script law contents name = some_followed (FileIs contents name) (ScriptReads name) (some_file contents name) (some_script_text law name)

pub one_script : OneScript → (contents : Contents) (name : List ℕ) → IsOne (ScriptInput contents name)
one_script law contents name = one_followed (FileIs contents name) (ScriptReads name) (one_file contents name) (one_script_text law name)

-- ---- scripts

module _ (contents : Contents) where
  pub one_of_scripts : OneScript → (names : List (List ℕ)) → IsOne (ScriptsInput contents names)
  one_of_scripts law [] = one_given []
  one_of_scripts law (name ∷ names) =
      one_followed (ScriptInput contents name) (λ commands. Followed (ScriptsInput contents names) (λ more. given (commands ∷ more))) (one_script law contents name)
      (λ commands. one_followed (ScriptsInput contents names) (λ more. given (commands ∷ more)) (one_of_scripts law names) (λ more. one_given (commands ∷ more)))

  pub some_of_scripts : SomeScript → (names : List (List ℕ)) → HasSome (ScriptsInput contents names)
  some_of_scripts law [] = some_given []
  some_of_scripts law (name ∷ names) =
      some_followed (ScriptInput contents name) (λ commands. Followed (ScriptsInput contents names) (λ more. given (commands ∷ more))) (some_script law contents name)
      (λ commands. some_followed (ScriptsInput contents names) (λ more. given (commands ∷ more)) (some_of_scripts law names) (λ more. some_given (commands ∷ more)))

  -- what is found has as many scripts as there are names
  abbrev HasNumber : List (List ℕ) → Found Scripts → Type 0
  HasNumber names (accepted scripts) = length scripts ≡ length names
  HasNumber names (refused line) = Unit {0}
  HasNumber names (missing name) = Unit {0}

  one_more : (name : List ℕ) (names asked : List (List ℕ)) (commands : List CommandView) (found : Found Scripts)
      → ((asked : List (List ℕ)) (found : Found Scripts) → ScriptsInput contents names asked found → HasNumber names found)
      → Followed (ScriptsInput contents names) (λ more. given (commands ∷ more)) asked found → HasNumber (name ∷ names) found
  one_more name names _ commands found each (both more first rest _ p q) = subst (HasNumber (name ∷ names)) (sym q.1) (ap suc (each first (accepted more) p))
  one_more name names _ commands _ each (ends_refused asked line p) = tt
  one_more name names _ commands _ each (ends_missing asked missed p) = tt

  has_number : (names asked : List (List ℕ)) (found : Found Scripts) → ScriptsInput contents names asked found → HasNumber names found
  has_number [] asked found p = subst (HasNumber []) (sym p.1) refl
  has_number (name ∷ names) _ _ (both commands first rest found p q) = one_more name names rest commands found (has_number names) q
  has_number (name ∷ names) _ _ (ends_refused asked line p) = tt
  has_number (name ∷ names) _ _ (ends_missing asked missed p) = tt

  pub one_within : OneScript → (names : List (List ℕ)) → IsOne (Followed (ScriptsInput contents names) (EditsRead names))
  one_within law names = one_followed (ScriptsInput contents names) (EditsRead names) (one_of_scripts law names) (one_of_edits names)

  then_edits : (names asked : List (List ℕ)) (found : Found Scripts) → ScriptsInput contents names asked found → HasSome (Followed (ScriptsInput contents names) (EditsRead names))
  then_edits names asked (accepted scripts) p =
      let more = some_of_edits names scripts (has_number names asked (accepted scripts) p) in (asked ++ more.0, more.1, both scripts asked more.0 more.1 p more.2)
  then_edits names asked (refused line) p = (asked, refused line, ends_refused asked line p)
  then_edits names asked (missing name) p = (asked, missing name, ends_missing asked name p)

  pub some_within : SomeScript → (names : List (List ℕ)) → HasSome (Followed (ScriptsInput contents names) (EditsRead names))
  some_within law names = let all = some_of_scripts law names in then_edits names all.0 all.1 all.2

-- ---- read so far

-- behind these scripts
abbrev behind : Scripts → Found Scripts → Found Scripts
behind done (accepted more) = accepted (done ++ more)
behind done (refused line) = refused line
behind done (missing name) = missing name

behind_none : (found : Found Scripts) → behind [] found ≡ found
behind_none (accepted more) = refl
behind_none (refused line) = refl
behind_none (missing name) = refl

behind_more : (done : Scripts) (commands : List CommandView) (found : Found Scripts) → behind done (behind (commands ∷ []) found) ≡ behind (done ++ commands ∷ []) found
behind_more done commands (accepted more) = ap accepted (sym (append_assoc done (commands ∷ []) more))
behind_more done commands (refused line) = refl
behind_more done commands (missing name) = refl

-- These scripts were read, of all those names, and what comes of the names that are left is what comes of all, behind them.
pub record ComesOn (contents : Contents) (names : List (List ℕ)) (done : Scripts) (left old now : List (List ℕ)) : Type 0 where
  pub front : List (List ℕ)
  pub grown : now ≡ old ++ front
  pub goes : (asked : List (List ℕ)) (found : Found Scripts) → ScriptsInput contents left asked found → ScriptsInput contents names (front ++ asked) (behind done found)

module _ (contents : Contents) where
  pub at_start : (names old : List (List ℕ)) → ComesOn contents names [] names old old
  at_start names old = record { front = []; grown = sym (append-nil old); goes = λ asked found p. subst (ScriptsInput contents names asked) (sym (behind_none found)) p }

  one_in_front : (name : List ℕ) (names first asked : List (List ℕ)) (commands : List CommandView) (found : Found Scripts) → ScriptInput contents name first (accepted commands)
      → ScriptsInput contents names asked found → ScriptsInput contents (name ∷ names) (first ++ asked) (behind (commands ∷ []) found)
  one_in_front name names first asked commands (accepted more) p q =
      let rest : Followed (ScriptsInput contents names) (λ more. given (commands ∷ more)) (asked ++ []) (accepted (commands ∷ more)) = both more asked [] (accepted (commands ∷ more)) q (refl, refl) in
      both commands first asked (accepted (commands ∷ more)) p (subst (λ (l : List (List ℕ)). Followed (ScriptsInput contents names) (λ more. given (commands ∷ more)) l (accepted (commands ∷ more))) (append-nil asked) rest)
  one_in_front name names first asked commands (refused line) p q = both commands first asked (refused line) p (ends_refused asked line q)
  one_in_front name names first asked commands (missing missed) p q = both commands first asked (missing missed) p (ends_missing asked missed q)

  module _ (names : List (List ℕ)) (done : Scripts) (old now next : List (List ℕ)) where
    -- one more is read
    pub comes_on : (name : List ℕ) (left : List (List ℕ)) (commands : List CommandView) → ComesOn contents names done (name ∷ left) old now → Comes (ScriptInput contents name) now next (accepted commands)
        → ComesOn contents names (done ++ commands ∷ []) left old next
    comes_on name left commands w h = record {
      front = w.front ++ h.names;
      grown = h.grown ∙ ap (λ (l : List (List ℕ)). l ++ h.names) w.grown ∙ append_assoc old w.front h.names;
      goes = λ asked found p.
          subst (λ (l : List (List ℕ)). ScriptsInput contents names l (behind (done ++ commands ∷ []) found)) (sym (append_assoc w.front h.names asked))
          (subst (ScriptsInput contents names (w.front ++ (h.names ++ asked))) (behind_more done commands found)
          (w.goes (h.names ++ asked) (behind (commands ∷ []) found) (one_in_front name left h.names asked commands found h.read p)));
    }

    -- the next is refused
    pub comes_to_stop : (name : List ℕ) (left : List (List ℕ)) (status : Status) (line : List ℕ) → ComesOn contents names done (name ∷ left) old now
        → TellsStop (ScriptInput contents name) now next status line → TellsStop (ScriptsInput contents names) old next status line
    comes_to_stop name left BadInput line w h = record {
      names = w.front ++ h.names;
      read = w.goes h.names (refused line) (ends_refused h.names line h.read);
      grown = h.grown ∙ ap (λ (l : List (List ℕ)). l ++ h.names) w.grown ∙ append_assoc old w.front h.names;
    }
    comes_to_stop name left Done line w h = tt
    comes_to_stop name left Usage line w h = tt
    comes_to_stop name left ReadFault line w h = tt
    comes_to_stop name left WriteFault line w h = tt
    comes_to_stop name left NoMemory line w h = tt

    -- what was asked for the names that are left
    asks_left : OneScript → SomeScript → (left : List (List ℕ)) → ComesOn contents names done left old now → AsksInOrder (ScriptsInput contents left) now next → AsksInOrder (ScriptsInput contents names) old next
    asks_left one some left w asks others found is =
        let rest = some_of_scripts contents some left in
        let same = one_of_scripts contents one names others (w.front ++ rest.0) found (behind done rest.1) is (w.goes rest.0 rest.1 rest.2) in
        let a = asks rest.0 rest.1 rest.2 in (
          w.front ++ a.0,
          a.1,
          same.0 ∙ ap (λ (l : List (List ℕ)). w.front ++ l) a.2 ∙ sym (append_assoc w.front a.0 a.1),
          a.3 ∙ ap (λ (l : List (List ℕ)). l ++ a.0) w.grown ∙ append_assoc old w.front a.0,
        )

    -- and for the next of them
    pub asks_one : OneScript → SomeScript → (name : List ℕ) (left : List (List ℕ)) → ComesOn contents names done (name ∷ left) old now → AsksInOrder (ScriptInput contents name) now next
        → AsksInOrder (ScriptsInput contents names) old next
    asks_one one some name left w asks =
        asks_left one some (name ∷ left) w (asks_first (ScriptInput contents name) (λ commands. Followed (ScriptsInput contents left) (λ more. given (commands ∷ more))) now next asks)

  module _ (names : List (List ℕ)) (done : Scripts) (old now : List (List ℕ)) where
    pub asks_so_far : OneScript → SomeScript → (left : List (List ℕ)) → ComesOn contents names done left old now → AsksInOrder (ScriptsInput contents names) old now
    asks_so_far one some left w = asks_left names done old now now one some left w (asks_none (ScriptsInput contents left) now now refl)

    -- all are read
    pub comes_to_end : ComesOn contents names done [] old now → Comes (ScriptsInput contents names) old now (accepted done)
    comes_to_end w = record {
      names = w.front;
      read = subst (λ (l : List (List ℕ)). ScriptsInput contents names l (accepted done)) (append-nil w.front)
          (subst (λ (l : Scripts). ScriptsInput contents names (w.front ++ []) (accepted l)) (append-nil done) (w.goes [] (accepted []) (refl, refl)));
      grown = w.grown;
    }

-- ---- the names that are left

module _ {A : Type 0} (text : A → List ℕ) (names : List A) (i : ℕ) (name : A) (within : i < length names) (is : name ≡ get_or names i name) where
  pub next_name : map text (drop i names) ≡ text name ∷ map text (drop (i + 1) names)
  next_name = ap (map text) (drop_more names i name within ∙ ap (λ (n : A). n ∷ drop (i + 1) names) (sym is))

  pub is_one_name : Contains (map text names) (text name)
  is_one_name = name_at (map text names) i (text name) (slice_get-map text names i ∙ ap (option_map text) (slice_get_read names (length names) i name refl within is))

-- ---- their bounds

of_first : (commands : List CommandView) → AreInBounds commands → All AreInBounds (commands ∷ [])
of_first commands bounds zero other within = bounds
of_first commands bounds (suc k) other within = absurd (omega (arith, within))

pub each_more : (done : Scripts) (commands : List CommandView) → All AreInBounds done → AreInBounds commands → All AreInBounds (done ++ commands ∷ [])
each_more done commands each bounds = All-append AreInBounds done (commands ∷ []) each (of_first commands bounds)
