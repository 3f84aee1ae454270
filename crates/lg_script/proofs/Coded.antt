-- The codes of edits, and the places and the edits that they name.
use Rattle.std.proofs.Common.{◌≡◌, ℕ, zero, suc, ◌+◌, ◌<◌, true, List, [], length, map, take, count_by, get_or, slice_get, slice_index, slice_index_or, All, Option, Some, None, refl, ap, sym, ◌∙◌, subst, arith, add-one}
use Rattle.std.proofs.lemmas.List.{length-map, get_or-map}
use Rattle.std.proofs.lemmas.List.Sums.{count_by-le-length}
use Rattle.std.proofs.lemmas.Option.{none-some, slice_get-get_or, slice_get_within, get_or_from_slice_get}
use Rattle.lg_gram.specs.declared.reply.Place.{Place}
use Rattle.lg_edit.specs.Edits.{EditView}
use Rattle.lg_log.specs.Codes.{code_session, code_index, is_code, EditsHaveCodes, CodesAreOfEdits}
use Rattle.lg_script.specs.declared.command.Command.{Command}
use Rattle.lg_script.specs.Bounds.{IsInBounds, AreInBounds}
use Rattle.lg_script.specs.Codes.{commands_of, code_after, place_of, EditsHavePlaces}
use Rattle.lg_script.specs.Commands.{CommandView, command_view, script_views, makes, is_edit}
use Rattle.lg_script.specs.EditNumbers.{edit_numbers, edit_counts}
use Rattle.lg_script.specs.Histories.{numbered, command_in, command_at}
use Rattle.lg_script.proofs.Numbers.{number_of_edit, index_below}

-- how many edits a session has
count_of : (scripts : List (List CommandView)) (session : ℕ) → session < length scripts → slice_index (edit_counts scripts) session ≡ count_by is_edit (commands_of scripts session)
count_of scripts session in_ = get_or-map (count_by is_edit) scripts session [] 0 in_

-- ---- commands within their bounds

numbered_all : {A : Type 0} (P : A → Type 0) (xs : List A) (n : ℕ) (x : A) → All P xs → numbered xs n ≡ Some x → P x
numbered_all P xs zero x all is = absurd (none-some x is)
numbered_all P xs (suc n) x all is = subst P (get_or_from_slice_get xs n x x is) (all n x (slice_get_within xs n x is))

pub in_bounds : (scripts : List (List CommandView)) (p : Place) (c : CommandView) → All AreInBounds scripts → command_at scripts p ≡ Some c → IsInBounds c
in_bounds scripts p c all is = go (numbered scripts p.session) refl is
  where
    go : (o : Option (List CommandView)) → numbered scripts p.session ≡ o → command_in o p.command ≡ Some c → IsInBounds c
    go None read is = absurd (none-some c is)
    go (Some cs) read is = numbered_all IsInBounds cs p.command c (numbered_all AreInBounds scripts p.session cs all read).each is

-- ---- from a code to its edit

-- the commands of a session, as they are read
commands_read : (scripts seen : List (List Command)) (session : ℕ) (commands : List Command) → session < length (script_views scripts) → seen ≡ scripts → commands ≡ get_or seen session commands
    → commands_of (script_views scripts) session ≡ map command_view commands
commands_read scripts seen session commands inside same read =
    let in_ : session < length scripts = omega (arith, inside, length-map scripts (map command_view)) in
    get_or-map (map command_view) scripts session commands [] in_
    ∙ ap (map command_view) (sym (read ∙ ap (λ (l : List (List Command)). get_or l session commands) same))

place_named : (scripts : List (List CommandView)) (code session number : ℕ) → session ≡ code_session code → Some number ≡ slice_get (edit_numbers (commands_of scripts session)) (code_index code)
    → record { session = session + 1; command = number } ≡ place_of scripts code
place_named scripts code session number same at =
    let command : number ≡ slice_index_or (edit_numbers (commands_of scripts (code_session code))) (code_index code) 0 =
    sym (get_or_from_slice_get (edit_numbers (commands_of scripts session)) (code_index code) number 0 (sym at)) ∙ ap (λ (k : ℕ). slice_index_or (edit_numbers (commands_of scripts k)) (code_index code) 0) same in
    λ i. record { session = same i + 1; command = command i }

edit_stands : (scripts : List (List CommandView)) (session number : ℕ) (edit : EditView) → session < length scripts → numbered (commands_of scripts session) number ≡ Some (makes edit)
    → command_at scripts (record { session = session + 1; command = number }) ≡ Some (makes edit)
edit_stands scripts session number edit inside is =
    let commands : numbered scripts (session + 1) ≡ Some (commands_of scripts session) = ap (numbered scripts) (add-one session) ∙ slice_get-get_or scripts session [] inside in
    ap (λ (o : Option (List CommandView)). command_in o number) commands ∙ is

module _ (scripts seen : List (List Command)) (code session : ℕ) (commands : List Command) (of_edits : CodesAreOfEdits) (good : is_code (edit_counts (script_views scripts)) code ≡ true)
    (same : seen ≡ scripts) (is : session ≡ code_session code) (read : commands ≡ get_or seen session commands) where
  inside : session < length (script_views scripts)
  inside = omega (arith, (of_edits (edit_counts (script_views scripts)) code good).1, is, length-map (script_views scripts) (count_by is_edit))

  script_is : commands_of (script_views scripts) session ≡ map command_view commands
  script_is = commands_read scripts seen session commands inside same read

  -- the session has that many edits
  pub has_index : code_index code < count_by is_edit (map command_view commands)
  has_index =
      omega (
        arith,
        (of_edits (edit_counts (script_views scripts)) code good).2,
        ap (slice_index (edit_counts (script_views scripts))) is,
        count_of (script_views scripts) session inside,
        ap (count_by is_edit) script_is,
      )

  module _ (number : ℕ) (at : Some number ≡ slice_get (edit_numbers (map command_view commands)) (code_index code)) where
    pub place_is : record { session = session + 1; command = number } ≡ place_of (script_views scripts) code
    place_is = place_named (script_views scripts) code session number is (rw script_is at)

    pub edit_is : (edit : EditView) → numbered (map command_view commands) number ≡ Some (makes edit) → command_at (script_views scripts) (place_of (script_views scripts) code) ≡ Some (makes edit)
    edit_is edit stands = ap (command_at (script_views scripts)) (sym place_is) ∙ edit_stands (script_views scripts) session number edit inside (rw script_is stands)

-- ---- from an edit to its code

at_place : (scripts : List (List CommandView)) (session place : ℕ) (c : CommandView) → command_at scripts (record { session = session + 1; command = place + 1 }) ≡ Some c
    → (session < length scripts) × (slice_get (commands_of scripts session) place ≡ Some c)
at_place scripts session place c is =
    go (slice_get scripts session) refl ((λ i. command_in (numbered scripts (sym (add-one session) i)) (sym (add-one place) i)) ∙ is)
  where
    go : (o : Option (List CommandView)) → slice_get scripts session ≡ o → command_in o (suc place) ≡ Some c → (session < length scripts) × (slice_get (commands_of scripts session) place ≡ Some c)
    go None read is = absurd (none-some c is)
    go (Some cs) read is = (slice_get_within scripts session cs read, ap (λ (l : List CommandView). slice_get l place) (get_or_from_slice_get scripts session cs [] read) ∙ is)

place_coded : (scripts : List (List CommandView)) (session index place code : ℕ) → code_session code ≡ session → code_index code ≡ index → slice_get (edit_numbers (commands_of scripts session)) index ≡ Some (place + 1)
    → place_of scripts code ≡ record { session = session + 1; command = place + 1 }
place_coded scripts session index place code session_is index_is is =
    let command : slice_index_or (edit_numbers (commands_of scripts (code_session code))) (code_index code) 0 ≡ place + 1 =
    (λ i. slice_index_or (edit_numbers (commands_of scripts (session_is i))) (index_is i) 0) ∙ get_or_from_slice_get (edit_numbers (commands_of scripts session)) index (place + 1) 0 is in
    λ i. record { session = session_is i + 1; command = command i }

pub edits_placed : EditsHaveCodes → EditsHavePlaces
edits_placed have scripts good session place edit is =
    let found = at_place scripts session place (makes edit) is in
    let commands : List CommandView = commands_of scripts session in
    let index : ℕ = count_by is_edit (take place commands) in
    let below : index < count_by is_edit commands = index_below commands place edit found.1 in
    let few = (good.each session [] found.0).few in
    let coded = have (edit_counts scripts) session index (omega (arith, few, below, count_by-le-length is_edit commands)) (omega (arith, below, count_of scripts session found.0)) in
    let number : slice_get (edit_numbers commands) index ≡ Some (place + 1) = number_of_edit 1 commands place edit found.1 ∙ ap Some (omega arith) in
    (coded.0, place_coded scripts session index place (code_after scripts session place) coded.1 coded.2 number)
