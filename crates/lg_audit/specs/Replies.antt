-- Which answers of a document hold, by what the session came to before them.
use Rattle.std.specs.Prelude.{◌≡◌, ℕ, ◌+◌, ◌<◌, ◌≤◌, true, List, [], ◌∷◌, ◌++◌, length, map, take, All, Option, Some, None}
use Rattle.std.specs.List.{enumerate_from, flat_map, range_with_len, zip}
use Rattle.std.specs.List.Sorted.{IsStrictlySortedBy}
use Rattle.lg_gram.specs.Linkages.{Linkage, linkage_cmp, unlinked, total_cost, total_length}
use Rattle.lg_gram.specs.Rules.{Good}
use Rattle.lg_gram.specs.declared.disjunct.Disjunct.{Disjunct}
use Rattle.lg_gram.specs.declared.edit.EditRefusal.{EditRefusal}
use Rattle.lg_gram.specs.declared.listing.Bound.{Bound}
use Rattle.lg_gram.specs.declared.listing.Token.{Token}
use Rattle.lg_gram.specs.declared.reply.Place.{Place}
use Rattle.lg_gram.specs.declared.reply.Reply.{Reply}
use Rattle.lg_gram.specs.declared.reply.Reply.TheVariants.{Published, At, NoListing}
use Rattle.lg_dict.specs.Dictionary.{Dictionary}
use Rattle.lg_token.specs.Bounds.{AreListed, IsBeyond}
use Rattle.lg_edit.specs.Edits.{EditView}
use Rattle.lg_knowread.specs.declared.knowledge.Knowledge.{Knowledge}
use Rattle.lg_pp.specs.Breaks.{Judges}
use Rattle.lg_token.specs.Problems.{IsProblemOf}
use Rattle.lg_text.specs.Texts.{side_text, label_text}
use Rattle.lg_text.specs.Replies.{cause_pieces}
use Rattle.lg_script.specs.Commands.{CommandView, parses, lists, goes_on, makes, asks}
use Rattle.lg_script.specs.Histories.{numbered, version_of, AreInTime, IsPublishedAt, IsRefusedAt}
use Rattle.lg_audit.specs.Lines.{ShownChoice, ShownWord, ShownLinkage, ShownItem, passes, fails, ShownPage, ShownReply, listed, beyond, published, refused, at, nothing_held, line}

-- ---- linkages

abbrev pub shown_choice : Disjunct → ShownChoice
shown_choice d = record { word = d.word; left = side_text d.left; right = side_text d.right; cost = d.cost }

abbrev pub shown_of : Option Disjunct → Option ShownChoice
shown_of None = None
shown_of (Some d) = Some (shown_choice d)

abbrev pub shown_word : ℕ × (Token × Option Disjunct) → ShownWord
shown_word w = record { position = w.0; text = w.1.0.text; choice = shown_of w.1.1 }

-- what is shown of a linkage beside these tokens
abbrev pub shown_linkage : List Token → Linkage → ShownLinkage
shown_linkage tokens g = record {
  sums = record { unused = unlinked g; cost = total_cost g; length = total_length g };
  words = map shown_word (enumerate_from 0 (zip tokens g.chosen));
  links = map (λ l. record { link = l; label = label_text g l }) g.links;
}

-- ---- pages

abbrev pub number_of : ShownItem → ℕ
number_of (passes number g unread) = number
number_of (fails number v) = number

abbrev pub linkages_of : ShownItem → List ShownLinkage
linkages_of (passes number g unread) = g ∷ []
linkages_of (fails number v) = []

-- the linkages that a page shows
abbrev pub linkages_on : ShownPage → List ShownLinkage
linkages_on page = flat_map linkages_of page.items

-- a rule of the knowledge and two positions, one behind the other
abbrev pub IsNamed : Knowledge → List Token → ShownItem → Type 0
IsNamed know tokens (passes number g unread) = Unit {0}
IsNamed know tokens (fails number v) = (1 ≤ v.rule) × (v.rule ≤ length know.rules) × (v.left < v.right) × (v.right < length tokens)

-- The page begins with candidate `from`, or, if it has none, behind the last one of all, which is no later.
pub data Begins : ℕ → ShownPage → Type 0 where
  with_some : (page : ShownPage) (from : ℕ) → 1 ≤ length page.items → page.last.next ≡ from + length page.items → Begins from page
  behind_all : (page : ShownPage) (from : ℕ) → page.items ≡ [] → 2 ≤ page.last.next → page.last.next ≤ from → page.last.end ≡ true → Begins from page

-- A page of a sentence that begins with candidate `from`, behind these linkages of its listing; it shows these.
pub record IsPageOf (know : Knowledge) (dict : Dictionary) (text : List ℕ) (from : ℕ) (before shown : List Linkage) (page : ShownPage) : Type 0 where
  pub tokens : List Token
  pub listed : AreListed dict text tokens
  pub problem : List (List Disjunct)
  pub of_tokens : IsProblemOf dict tokens problem
  pub numbered : map number_of page.items ≡ range_with_len from (length page.items)
  pub examined : page.last.examined ≡ length page.items
  pub begins : Begins from page
  pub counted : page.last.shown ≡ length shown
  pub named : All (IsNamed know tokens) page.items
  pub are : linkages_on page ≡ map (shown_linkage tokens) shown
  pub good : All (Good problem) shown
  pub pass : All (λ g. Judges know g None) shown
  pub rise : IsStrictlySortedBy linkage_cmp (before ++ shown)

-- ---- answers

-- what a session holds, as its answers show it: the listing of a sentence at a version, the candidate that comes next, and the linkages
-- that were shown of it
pub record Held : Type 0 where
  pub version : ℕ
  pub text : List ℕ
  pub next : ℕ
  pub shown : List Linkage

-- what an audit is made of: the dictionary, the knowledge, the scripts, and the journal that the document shows
pub record Basis : Type 0 where
  pub base : Dictionary
  pub know : Knowledge
  pub scripts : List (List CommandView)
  pub journal : List Place

abbrev pub dictionary_at : Basis → ℕ → Dictionary
dictionary_at basis version = version_of basis.scripts basis.base basis.journal version

-- the sentence that a command asks for, and the first candidate of its page
pub data AsksFor : CommandView → List ℕ → ℕ → Type 0 where
  parse : (text : List ℕ) → AsksFor (parses text) text 1
  list : (first want : ℕ) (text : List ℕ) → AsksFor (lists first want text) text first

-- `more` begins where the page before it ended, if it has no candidates too
abbrev pub GoesOn : ℕ → ShownPage → Type 0
GoesOn from page = page.items ≡ [] → page.last.next ≡ from

-- The answer to the command at a place holds, by what is held before it, and then that is held.
pub data ReplyHolds (basis : Basis) (p : Place) : Option Held → CommandView → ShownReply → Option Held → Type 0 where
  edited : (held : Option Held) (edit : EditView) (version : ℕ) → IsPublishedAt basis.scripts basis.base basis.journal p edit version
      → ReplyHolds basis p held (makes edit) (published version) held
  not_edited : (held : Option Held) (edit : EditView) (version : ℕ) (cause : EditRefusal) (name : List ℕ) → IsRefusedAt basis.scripts basis.base basis.journal edit version cause name
      → ReplyHolds basis p held (makes edit) (refused version (line (cause_pieces cause name))) held
  tells : (held : Option Held) (version : ℕ) → ReplyHolds basis p held asks (at version) held
  lists_page : (held : Option Held) (command : CommandView) (text : List ℕ) (first version : ℕ) (stats : Option (List ℕ)) (page : ShownPage) (shown : List Linkage)
      → AsksFor command text first → IsPageOf basis.know (dictionary_at basis version) text first [] shown page
      → ReplyHolds basis p held command (listed version stats page) (Some (record { version = version; text = text; next = page.last.next; shown = shown }))
  past_bound : (held : Option Held) (command : CommandView) (text : List ℕ) (first version : ℕ) (bound : Bound)
      → AsksFor command text first → IsBeyond (dictionary_at basis version) text bound
      → ReplyHolds basis p held command (beyond version bound) None
  more : (h : Held) (page : ShownPage) (shown : List Linkage) → GoesOn h.next page
      → IsPageOf basis.know (dictionary_at basis h.version) h.text h.next h.shown shown page
      → ReplyHolds basis p (Some h) goes_on (listed h.version None page) (Some (record h { next = page.last.next; shown = h.shown ++ shown }))
  no_more : ReplyHolds basis p None goes_on nothing_held None

-- the version that an answer shows, as an answer that the rules of versions speak of
abbrev pub outline : ShownReply → Reply
outline (listed version stats page) = At version
outline (beyond version bound) = At version
outline (published version) = Published version
outline (refused version cause) = At version
outline (at version) = At version
outline nothing_held = NoListing

-- The first n answers of a session hold, and after them that is held. Their versions are there, and none falls.
pub data Hold (basis : Basis) (session : ℕ) (commands : List CommandView) (replies : List ShownReply) : ℕ → Option Held → Type 0 where
  none_yet : Hold basis session commands replies 0 None
  one_more : (n : ℕ) (held then : Option Held) (command : CommandView) (r : ShownReply) → Hold basis session commands replies n held
      → numbered commands (n + 1) ≡ Some command → numbered replies (n + 1) ≡ Some r
      → AreInTime basis.journal (take (n + 1) commands) (map outline (take (n + 1) replies))
      → ReplyHolds basis (record { session = session; command = n + 1 }) held command r then
      → Hold basis session commands replies (n + 1) then
