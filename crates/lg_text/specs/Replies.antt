-- What is printed of a session's answers and of the journal.
use Rattle.std.specs.Prelude.{ℕ, List, [], ◌∷◌, ◌++◌, length, All, codes}
use Rattle.std.specs.List.{flat_map, enumerate_from}
use Rattle.std.specs.Fmt.{decimal}
use Rattle.lg_gram.specs.declared.edit.EditRefusal.{EditRefusal}
use Rattle.lg_gram.specs.declared.edit.EditRefusal.TheVariants.{UnknownMacro, TooDeep, TooManyNodes, TooManyChoices, SideTooLong, NoSuchWord}
use Rattle.lg_gram.specs.declared.reply.CommandKind.{CommandKind}
use Rattle.lg_gram.specs.declared.reply.CommandKind.TheVariants as kinds
use Rattle.lg_gram.specs.declared.reply.Place.{Place}
use Rattle.lg_gram.specs.declared.reply.Reply.{Reply}
use Rattle.lg_gram.specs.declared.reply.Reply.TheVariants.{Listed, Beyond, Published, Refused, At, NoListing}
use Rattle.lg_text.specs.Pages.{listing_text}
use Rattle.lg_text.specs.Texts.{IsPrintable, line_of, bound_pieces}
use Rattle.lg_text.specs.declared.look.Look.{Look}

-- the word of a command
abbrev pub kind_word : CommandKind → List ℕ
kind_word kinds.Parse = codes "parse"
kind_word kinds.List = codes "list"
kind_word kinds.More = codes "more"
kind_word kinds.Set = codes "set"
kind_word kinds.Macro = codes "macro"
kind_word kinds.Del = codes "del"
kind_word kinds.Version = codes "version"

-- the session and the command, with a point between
abbrev pub place_text : Place → List ℕ
place_text p = decimal p.session ++ (codes "." ++ decimal p.command)

-- why an edit is refused; the name is that of the macro that is not known
abbrev pub cause_pieces : EditRefusal → List ℕ → List (List ℕ)
cause_pieces (UnknownMacro number) name = codes "unknown" ∷ codes "macro" ∷ name ∷ []
cause_pieces (TooDeep level) name = codes "too" ∷ codes "deep" ∷ decimal level ∷ []
cause_pieces (TooManyNodes count) name = codes "too" ∷ codes "many" ∷ codes "nodes" ∷ decimal count ∷ []
cause_pieces (TooManyChoices count) name = codes "too" ∷ codes "many" ∷ codes "choices" ∷ decimal count ∷ []
cause_pieces (SideTooLong count) name = codes "too" ∷ codes "many" ∷ codes "connectors" ∷ codes "on" ∷ codes "a" ∷ codes "side" ∷ decimal count ∷ []
cause_pieces NoSuchWord name = codes "no" ∷ codes "such" ∷ codes "word" ∷ []

-- the version of the dictionary that a command was answered by
abbrev pub version_pieces : Place → CommandKind → ℕ → List (List ℕ)
version_pieces place kind version = place_text place ∷ kind_word kind ∷ codes "version" ∷ decimal version ∷ []

-- what a command of that place and kind was answered
abbrev pub reply_text : Look → Place → CommandKind → Reply → List ℕ
reply_text look place kind (Listed version tokens page stats) = line_of (version_pieces place kind version) ++ listing_text look tokens page stats
reply_text look place kind (Beyond version bound) = line_of (version_pieces place kind version ++ bound_pieces bound)
reply_text look place kind (Published version) = line_of (version_pieces place kind version)
reply_text look place kind (Refused version cause name) =
    line_of (place_text place ∷ kind_word kind ∷ codes "refused" ∷ codes "at" ∷ (decimal version ++ codes ":") ∷ cause_pieces cause name)
reply_text look place kind (At version) = line_of (place_text place ∷ kind_word kind ∷ decimal version ∷ [])
reply_text look place kind NoListing = line_of (place_text place ∷ kind_word kind ∷ codes "nothing" ∷ codes "held" ∷ [])

-- an answer that a command of that kind can have
abbrev pub IsAnswerTo : CommandKind → Reply → Type 0
IsAnswerTo kinds.Parse (Listed version tokens page stats) = Unit {0}
IsAnswerTo kinds.Parse (Beyond version bound) = Unit {0}
IsAnswerTo kinds.List (Listed version tokens page stats) = Unit {0}
IsAnswerTo kinds.List (Beyond version bound) = Unit {0}
IsAnswerTo kinds.More (Listed version tokens page stats) = Unit {0}
IsAnswerTo kinds.More NoListing = Unit {0}
IsAnswerTo kinds.Set (Published version) = Unit {0}
IsAnswerTo kinds.Set (Refused version cause name) = Unit {0}
IsAnswerTo kinds.Macro (Published version) = Unit {0}
IsAnswerTo kinds.Macro (Refused version cause name) = Unit {0}
IsAnswerTo kinds.Del (Published version) = Unit {0}
IsAnswerTo kinds.Del (Refused version cause name) = Unit {0}
IsAnswerTo kinds.Version (At version) = Unit {0}
IsAnswerTo _ _ = ⊥

-- each linkage of its page can be printed
abbrev pub IsPrintableReply : Reply → Type 0
IsPrintableReply (Listed version tokens page stats) = All (λ item. IsPrintable tokens item.linkage) page.items
IsPrintableReply _ = Unit {0}

-- an edit that was published, with the version that it made
abbrev pub edit_line : ℕ × Place → List ℕ
edit_line e = line_of (codes "edit" ∷ decimal e.0 ∷ place_text e.1 ∷ [])

-- the journal: how many edits were published, each in order, and a last line
abbrev pub journal_text : List Place → List ℕ
journal_text journal =
    line_of (codes "journal" ∷ decimal (length journal) ∷ []) ++ (flat_map edit_line (enumerate_from 1 journal) ++ line_of (codes "done" ∷ []))
