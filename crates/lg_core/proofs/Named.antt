-- The edit that a code of the history names, and the dictionary after it.
use Rattle.std.proofs.Common.{◌≡◌, ℕ, ◌+◌, ◌<◌, List, [], ◌∷◌, ◌++◌, length, map, take, get_or, Some, None, slice_get, count_by, refl, ap, sym, subst, ◌∙◌, arith}
use Rattle.std.specs.Option.{option_map}
use Rattle.std.proofs.lemmas.List.{take_more, length-map}
use Rattle.std.proofs.lemmas.Option.{same_Some, get_or_from_slice_get, slice_get_within, slice_get-map, slice_get-get_or}
use Rattle.lg_gram.specs.declared.reply.Place.{Place}
use Rattle.lg_dict.specs.Dictionary.{Dictionary}
use Rattle.lg_edit.specs.Edits.{EditView, accept, after_edit}
use Rattle.lg_log.specs.Codes.{code_of}
use Rattle.lg_script.specs.declared.command.Command.{Command}
use Rattle.lg_script.specs.Commands.{CommandView, command_view, is_edit, makes, script_views}
use Rattle.lg_script.specs.Histories.{command_at, after_command, dictionary_after, version_of}
use Rattle.lg_core.specs.declared.state.Actor.{Actor}
use Rattle.lg_core.specs.declared.state.Core.{Core}
use Rattle.lg_script.specs.Codes.{commands_of, place_of}
use Rattle.lg_core.specs.Core.{journal_of, next_code, IsNext, IsAccepted}
use Rattle.lg_core.proofs.NextCommand.{item_at, asked}
use Rattle.lg_core.proofs.Outcomes.{same_edit}

-- the views of the script of a session
pub view_at : (scripts : List (List Command)) (s : ℕ) (commands : List Command) → slice_get scripts s ≡ Some commands → slice_get (script_views scripts) s ≡ Some (map command_view commands)
view_at scripts s commands is = slice_get-map (map command_view) scripts s ∙ ap (option_map (map command_view)) is

-- ---- one version more

after_push : (scripts : List (List CommandView)) (base : Dictionary) (journal : List Place) (p : Place)
    → dictionary_after scripts base (journal ++ p ∷ []) ≡ after_command (dictionary_after scripts base journal) (command_at scripts p)
after_push scripts base [] p = refl
after_push scripts base (q ∷ qs) p = after_push scripts (after_command base (command_at scripts q)) qs p

version_next : (scripts : List (List CommandView)) (base : Dictionary) (journal : List Place) (n : ℕ) (p : Place) (edit : EditView) → slice_get journal n ≡ Some p → command_at scripts p ≡ Some (makes edit)
    → version_of scripts base journal (n + 1) ≡ after_edit (version_of scripts base journal n) edit
version_next scripts base journal n p edit at is =
    let more : take (n + 1) journal ≡ take n journal ++ p ∷ [] = take_more journal n p (slice_get_within journal n p at) ∙ ap (λ (q : Place). take n journal ++ q ∷ []) (get_or_from_slice_get journal n p p at) in
    ap (dictionary_after scripts base) more ∙ after_push scripts base (take n journal) p ∙ ap (after_command (version_of scripts base journal n)) is

module _ (scripts : List (List CommandView)) (base : Dictionary) (core : Core) (n code : ℕ) (at : slice_get core.history n ≡ Some code) (edit : EditView) (names : command_at scripts (place_of scripts code) ≡ Some (makes edit)) where
  pub next_accepts : (dict : Dictionary) → dict ≡ version_of scripts base (journal_of scripts core) n → IsAccepted scripts base core n code → accept dict edit ≡ None
  next_accepts dict same is =
      let edits : is.edit ≡ edit = same_edit is.edit edit (same_Some (makes is.edit) (makes edit) (sym is.names ∙ names)) in
      ap (λ (d : Dictionary). accept d edit) same ∙ ap (accept (version_of scripts base (journal_of scripts core) n)) (sym edits) ∙ is.accepted

  pub next_version : (dict after : Dictionary) → dict ≡ version_of scripts base (journal_of scripts core) n → after ≡ after_edit dict edit → after ≡ version_of scripts base (journal_of scripts core) (n + 1)
  next_version dict after same made =
      let placed : slice_get (journal_of scripts core) n ≡ Some (place_of scripts code) = slice_get-map (place_of scripts) core.history n ∙ ap (option_map (place_of scripts)) at in
      made ∙ ap (λ (d : Dictionary). after_edit d edit) same ∙ sym (version_next scripts base (journal_of scripts core) n (place_of scripts code) edit placed names)

-- ---- what is read of the scripts and of the history

pub code_at : (history items : List ℕ) (n : ℕ) → items ≡ history → n < length items → slice_get history n ≡ Some (get_or items n 0)
code_at history items n same less = subst (λ (l : List ℕ). slice_get l n ≡ Some (get_or items n 0)) same (slice_get-get_or items n 0 less)

-- ---- the code of the next command

pub session_there : (scripts : List (List Command)) (core : Core) (s : ℕ) (a : Actor) (command : CommandView) → IsNext (script_views scripts) core s a command → s < length scripts
session_there scripts core s a command next = omega (arith, (asked (script_views scripts) s a.place command next.asks_for).0, length-map scripts (map command_view))

pub code_is : (scripts seen : List (List Command)) (s : ℕ) (a : Actor) (commands : List Command) (index code : ℕ) → seen ≡ scripts → s < length scripts → commands ≡ get_or seen s commands
    → index ≡ count_by is_edit (take a.place (map command_view commands)) → code ≡ code_of s index → code ≡ next_code (script_views scripts) s a
code_is scripts seen s a commands index code same less is counted coded =
    let script : slice_get scripts s ≡ Some commands = item_at scripts seen s commands same (subst (λ (l : List (List Command)). s < length l) (sym same) less) is in
    let view : commands_of (script_views scripts) s ≡ map command_view commands = get_or_from_slice_get (script_views scripts) s (map command_view commands) [] (view_at scripts s commands script) in
    coded ∙ ap (code_of s) (counted ∙ sym (ap (λ (l : List CommandView). count_by is_edit (take a.place l)) view))
