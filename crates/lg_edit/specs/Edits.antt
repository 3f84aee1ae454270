-- Edits of a dictionary: what they are refused for, and what they make of it.
use Rattle.std.specs.Prelude.{◌≡◌, ℕ, List, [], ◌∷◌, map, Option, Some, None, is_none, nat_lt, if◌then◌else◌}
use Rattle.std.specs.List.{AllByRecursion, position}
use Rattle.std.specs.Option.{option_map, option_or, is_some}
use Rattle.std.specs.FinMap.{get, remove}
use Rattle.lg_gram.specs.EntryBounds.{IsEntryInBounds}
use Rattle.lg_gram.specs.EntryViews.{EntryView, entry_view}
use Rattle.lg_gram.specs.Filled.{filled, filled_level, macro_names, is_unknown}
use Rattle.lg_gram.specs.Limits.{LEVEL}
use Rattle.lg_gram.specs.Measured.{excess}
use Rattle.lg_gram.specs.Trees.{Tree}
use Rattle.lg_gram.specs.declared.edit.EditRefusal.{EditRefusal}
use Rattle.lg_gram.specs.declared.edit.EditRefusal.TheVariants.{UnknownMacro, TooDeep, TooManyNodes, TooManyChoices, SideTooLong, NoSuchWord}
use Rattle.lg_gram.specs.declared.entry.Item.{Item}
use Rattle.lg_gram.specs.declared.entry.ItemKind.TheVariants as kinds
use Rattle.lg_gram.specs.declared.measures.Excess.{Excess}
use Rattle.lg_gram.specs.declared.measures.Excess.TheVariants.{Nodes, Choices, Side}
use Rattle.lg_dict.specs.Dictionary.{Dictionary, insert_all, macros_of}
use Rattle.lg_edit.specs.declared.edit.Edit.{Edit}
use Rattle.lg_edit.specs.declared.edit.Edit.TheVariants.{Put, Macro, Del}

-- ---- what an edit is

-- what contracts see of an edit: it gives words an expression, sets a macro, or removes a word
pub data EditView : Type 0 where
  puts : EntryView → EditView
  sets : EntryView → EditView
  removes : List ℕ → EditView

abbrev pub edit_view : Edit → EditView
edit_view (Put e) = puts (entry_view e)
edit_view (Macro e) = sets (entry_view e)
edit_view (Del word) = removes word

abbrev pub DefinesWords : EntryView → Type 0
DefinesWords e = AllByRecursion (λ i. i.kind ≡ kinds.Word) e.items

abbrev pub DefinesOneMacro : EntryView → Type 0
DefinesOneMacro e = (i : Item) × (e.items ≡ i ∷ []) × (i.kind ≡ kinds.Macro)

-- an edit defines words alone, or one macro alone
abbrev pub DefinesAsItMay : EditView → Type 0
DefinesAsItMay (puts e) = DefinesWords e
DefinesAsItMay (sets e) = DefinesOneMacro e
DefinesAsItMay (removes word) = Unit {0}

-- its entry is as one that is read from a text
abbrev pub IsEditInBounds : EditView → Type 0
IsEditInBounds (puts e) = IsEntryInBounds e
IsEditInBounds (sets e) = IsEntryInBounds e
IsEditInBounds (removes word) = Unit {0}

-- the names that an entry defines
abbrev pub names_of : EntryView → List (List ℕ)
names_of e = map (λ i. i.text) e.items

-- its expression with the macros of the dictionary put in, and the greatest number of brackets open at once
abbrev pub formula_in : Dictionary → EntryView → Tree
formula_in dict e = filled (macros_of dict) e.expr

abbrev pub level_in : Dictionary → EntryView → ℕ
level_in dict e = filled_level (macros_of dict) e.level e.expr

-- ---- what an edit is refused for

abbrev pub refuse_excess : Excess → EditRefusal
refuse_excess (Nodes count) = TooManyNodes count
refuse_excess (Choices count) = TooManyChoices count
refuse_excess (Side count) = SideTooLong count

abbrev pub unknown_macro : Dictionary → EntryView → Option EditRefusal
unknown_macro dict e = option_map UnknownMacro (position (is_unknown (macros_of dict)) (macro_names e.expr))

abbrev pub too_deep : Dictionary → EntryView → Option EditRefusal
too_deep dict e = if nat_lt LEVEL (level_in dict e) then Some (TooDeep (level_in dict e)) else None

abbrev pub too_large : Dictionary → EntryView → Option EditRefusal
too_large dict e = option_map refuse_excess (excess (formula_in dict e))

-- the first of these causes
abbrev pub accept_entry : Dictionary → EntryView → Option EditRefusal
accept_entry dict e = option_or (unknown_macro dict e) (option_or (too_deep dict e) (too_large dict e))

-- None where the edit is accepted
abbrev pub accept : Dictionary → EditView → Option EditRefusal
accept dict (puts e) = accept_entry dict e
accept dict (sets e) = accept_entry dict e
accept dict (removes word) = if is_some (get dict.words word) then None else Some NoSuchWord

-- ---- what an edit makes of a dictionary

-- each word of the entry has its expression; all other words stay
abbrev pub with_words : Dictionary → EntryView → Dictionary
with_words dict e = record dict { words = insert_all (names_of e) (formula_in dict e) dict.words }

-- its macro stands for the expression; all other macros stay
abbrev pub with_macro : Dictionary → EntryView → Dictionary
with_macro dict e = record dict { macros = insert_all (names_of e) (formula_in dict e, level_in dict e) dict.macros }

abbrev pub without_word : Dictionary → List ℕ → Dictionary
without_word dict word = record dict { words = remove dict.words word }

abbrev pub edited : Dictionary → EditView → Dictionary
edited dict (puts e) = with_words dict e
edited dict (sets e) = with_macro dict e
edited dict (removes word) = without_word dict word

-- an edit that is refused changes nothing
abbrev pub after_edit : Dictionary → EditView → Dictionary
after_edit dict edit = if is_none (accept dict edit) then edited dict edit else dict
