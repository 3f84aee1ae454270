-- What is written of a made session: sums over the pages that answer its sentences.
use Rattle.std.specs.Prelude.{◌≡◌, ℕ, List, [], ◌∷◌, ◌++◌, length, codes, is_none, if◌then◌else◌, Ok}
use Rattle.std.specs.List.{sum_by}
use Rattle.std.specs.Fmt.{decimal}
use Rattle.lg_gram.specs.Linkages.{Linkage, unlinked, total_length}
use Rattle.lg_gram.specs.declared.listing.PageItem.{PageItem}
use Rattle.lg_gram.specs.declared.reply.Reply.{Reply}
use Rattle.lg_answer.specs.Pages.{default_options}
use Rattle.lg_dictread.specs.Texts.{Meaning, DictionaryGives, stands}
use Rattle.lg_gen.specs.Made.{made_dictionary, made_script}
use Rattle.lg_script.specs.Commands.{CommandView}
use Rattle.lg_script.specs.Scripts.{ScriptIs}
use Rattle.lg_session.specs.Legal.{IsLegal, AnswersAll}
use Rattle.lg_text.specs.Pages.{shown}
use Rattle.lg_text.specs.Texts.{line_of}
use Rattle.lg_run.specs.Documents.{listings, no_knowledge, items_of}
use Rattle.lg_run.specs.Inputs.{dictionary_from}

-- what a measure gives for the first linkage that passes, or 0 where none does
abbrev pub first_of : (Linkage → ℕ) → List PageItem → ℕ
first_of measure [] = 0
first_of measure (item ∷ items) = if is_none item.broken then measure item.linkage else first_of measure items

-- a line with a word and a number
abbrev pub number_line : List ℕ → ℕ → List ℕ
number_line word n = line_of (word ∷ decimal n ∷ [])

-- The numbers that were asked for, and then: how many sentences there are, how many candidates were looked at and shown, and the
-- unlinked words and the lengths of the first linkage of each sentence, all together.
abbrev pub sums_text : (seed words sentences : ℕ) → List Reply → List ℕ
sums_text seed words sentences replies =
    line_of (codes "gen" ∷ decimal seed ∷ decimal words ∷ decimal sentences ∷ [])
    ++ (number_line (codes "sentences") sentences
    ++ (number_line (codes "examined") (sum_by (λ r. length (items_of r)) replies)
    ++ (number_line (codes "shown") (sum_by (λ r. shown (items_of r)) replies)
    ++ (number_line (codes "unused") (sum_by (λ r. first_of unlinked (items_of r)) replies)
    ++ number_line (codes "length") (sum_by (λ r. first_of total_length (items_of r)) replies)))))

-- The document of a made session: the sums over legal answers to the made script, by the made dictionary, without knowledge and with
-- the usual options.
pub record IsMadeDocument (seed words sentences : ℕ) (document : List ℕ) : Type 0 where
  pub entries : List Meaning
  pub read_dictionary : DictionaryGives (made_dictionary words) [] (stands entries)
  pub commands : List CommandView
  pub read_script : ScriptIs (made_script seed words sentences) (Ok commands)
  pub replies : List Reply
  pub legal : IsLegal (record { meaning = listings no_knowledge default_options; scripts = commands ∷ []; base = dictionary_from entries; journal = [] }) (replies ∷ [])
  pub whole : AnswersAll (commands ∷ []) (replies ∷ [])
  pub is : document ≡ sums_text seed words sentences replies
