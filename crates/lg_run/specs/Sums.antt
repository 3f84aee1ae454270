-- The sums over the answers of a made session, and what they are made of.
use Rattle.std.specs.Prelude.{◌≡◌, ℕ, ◌≤◌, ◌<◌, ◌*◌, ◌^◌, List, [], ◌∷◌, ◌++◌, length, codes, Ok}
use Rattle.std.specs.List.{All, sum_by}
use Rattle.lg_gram.specs.Linkages.{Linkage, unlinked, total_length}
use Rattle.lg_gram.specs.declared.listing.PageItem.{PageItem}
use Rattle.lg_gram.specs.declared.reply.Reply.{Reply}
use Rattle.lg_dict.specs.Dictionary.{Dictionary}
use Rattle.lg_dictread.specs.Texts.{Meaning, DictionaryGives, stands}
use Rattle.lg_gen.specs.Accepted.{IsParse}
use Rattle.lg_gen.specs.Made.{made_dictionary, made_script}
use Rattle.lg_script.specs.Bounds.{AreInBounds}
use Rattle.lg_script.specs.Commands.{CommandView}
use Rattle.lg_script.specs.Scripts.{ScriptIs}
use Rattle.lg_text.specs.Pages.{shown}
use Rattle.lg_run.specs.Inputs.{dictionary_from}
use Rattle.lg_run.specs.Documents.{items_of}
use Rattle.lg_run.specs.MadeRuns.{first_of, number_line}
use Rattle.lg_run.specs.declared.made.Sums.{Sums}

-- what is made of a seed: the dictionary and the script, as the readers take them
pub record AreMade (seed words sentences : ℕ) (dict : Dictionary) (scripts : List (List CommandView)) : Type 0 where
  pub entries : List Meaning
  pub read_dictionary : DictionaryGives (made_dictionary words) [] (stands entries)
  pub dictionary : dict ≡ dictionary_from entries
  pub commands : List CommandView
  pub read_script : ScriptIs (made_script seed words sentences) (Ok commands)
  pub script : scripts ≡ commands ∷ []
  pub bounds : AreInBounds commands
  pub count : length commands ≡ sentences
  pub parse : All IsParse commands

-- each link ends at a position of the linkage
abbrev pub EndsWithin : Linkage → Type 0
EndsWithin g = All (λ l. l.right < length g.chosen) g.links

-- an answer that adds little to the sums
pub record IsSmall (r : Reply) : Type 0 where
  pub few : length (items_of r) ≤ 1000
  pub each : All (λ item. EndsWithin item.linkage) (items_of r)

-- what these candidates of an answer add to the sums
pub record AreSumsOf (items : List PageItem) (sums : Sums) : Type 0 where
  pub looked : sums.examined ≡ length items
  pub pass : sums.shown ≡ shown items
  pub free : sums.unused ≡ first_of unlinked items
  pub long : sums.lengths ≡ first_of total_length items

-- the sums over these answers
pub record AreSums (replies : List Reply) (sums : Sums) : Type 0 where
  pub looked : sums.examined ≡ sum_by (λ r. length (items_of r)) replies
  pub pass : sums.shown ≡ sum_by (λ r. shown (items_of r)) replies
  pub free : sums.unused ≡ sum_by (λ r. first_of unlinked (items_of r)) replies
  pub long : sums.lengths ≡ sum_by (λ r. first_of total_length (items_of r)) replies

-- each of them is at most so many times what one answer may add
pub record AreAtMost (count : ℕ) (sums : Sums) : Type 0 where
  pub looked : sums.examined ≤ 1000 * count
  pub pass : sums.shown ≤ 1000 * count
  pub free : sums.unused ≤ 2 ^ 32 * count
  pub long : sums.lengths ≤ 2 ^ 40 * count

-- a line for each of them
abbrev pub sum_lines : Sums → List ℕ
sum_lines sums = number_line (codes "examined") sums.examined ++ (number_line (codes "shown") sums.shown ++ (number_line (codes "unused") sums.unused ++ number_line (codes "length") sums.lengths))
