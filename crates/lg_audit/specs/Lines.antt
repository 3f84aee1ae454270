-- What the lines of a document show. A line is named without its line feed.
use Rattle.std.specs.Prelude.{◌≡◌, ℕ, eqb, Bool, true, false, List, [], ◌∷◌, ◌++◌, codes, decimal, Option, Some, None, ℤ, IfSome}
use Rattle.std.specs.List.{starts_with, join_with_byte, AllByRecursion}
use Rattle.lg_base.specs.Costs.{cost_text, IsWithinCosts}
use Rattle.lg_gram.specs.declared.linkage.Link.{Link}
use Rattle.lg_gram.specs.declared.listing.Bound.{Bound}
use Rattle.lg_gram.specs.declared.listing.Violation.{Violation}
use Rattle.lg_gram.specs.declared.reply.CommandKind.{CommandKind}
use Rattle.lg_gram.specs.declared.reply.Place.{Place}
use Rattle.lg_text.specs.Shown.{IsOneLine}
use Rattle.lg_text.specs.Texts.{bound_pieces}
use Rattle.lg_text.specs.Replies.{kind_word, place_text, version_pieces}
use Rattle.lg_audit.specs.declared.shown.ShownEnd.{ShownEnd}
use Rattle.lg_audit.specs.declared.shown.ShownSums.{ShownSums}
use Rattle.lg_audit.specs.Pieces.{HasNoBlank, IsNumber, IsSmallNumber}

-- pieces with single spaces between them
abbrev pub line : List (List ℕ) → List ℕ
line pieces = join_with_byte 32 pieces

-- no byte is a blank or a line feed
pub record IsRun (text : List ℕ) : Type 0 where
  pub solid : HasNoBlank text
  pub single : IsOneLine text

-- ---- a linkage

-- what a linked position uses: a word, its connectors to the left and to the right as they are printed, and its cost
pub record ShownChoice : Type 0 where
  pub word : List ℕ
  pub left : List ℕ
  pub right : List ℕ
  pub cost : ℤ

-- a position: its number, the text of its token, and what it uses, or none
pub record ShownWord : Type 0 where
  pub position : ℕ
  pub text : List ℕ
  pub choice : Option ShownChoice

-- a link and its label
pub record ShownLink : Type 0 where
  pub link : Link
  pub label : List ℕ

-- a linkage: its sums, its positions and its links
pub record ShownLinkage : Type 0 where
  pub sums : ShownSums
  pub words : List ShownWord
  pub links : List ShownLink

abbrev pub heading_line : ℕ → ShownSums → List ℕ
heading_line number sums =
    line (codes "linkage" ∷ decimal number ∷ codes "unused" ∷ decimal sums.unused ∷ codes "cost" ∷ cost_text sums.cost ∷ codes "length" ∷ decimal sums.length ∷ [])

abbrev pub choice_pieces : Option ShownChoice → List (List ℕ)
choice_pieces None = codes "null" ∷ []
choice_pieces (Some c) = c.word ∷ c.left ∷ c.right ∷ cost_text c.cost ∷ []

abbrev pub choice_text : ShownChoice → List ℕ
choice_text c = line (choice_pieces (Some c))

abbrev pub word_line : ShownWord → List ℕ
word_line w = line (codes "word" ∷ decimal w.position ∷ w.text ∷ choice_pieces w.choice)

abbrev pub link_line : ShownLink → List ℕ
link_line l = line (codes "link" ∷ decimal l.link.left ∷ decimal l.link.right ∷ l.label ∷ decimal l.link.lplace ∷ decimal l.link.rplace ∷ [])

-- a word may have blanks in it, and the other texts have none
pub record IsChoiceInForm (c : ShownChoice) : Type 0 where
  pub word : IsOneLine c.word
  pub left : IsRun c.left
  pub right : IsRun c.right
  pub cost : IsWithinCosts c.cost

pub record IsWordInForm (w : ShownWord) : Type 0 where
  pub position : IsNumber w.position
  pub text : IsRun w.text
  pub choice : IfSome w.choice IsChoiceInForm

pub record IsLinkInForm (l : ShownLink) : Type 0 where
  pub left : IsSmallNumber l.link.left
  pub right : IsSmallNumber l.link.right
  pub lplace : IsSmallNumber l.link.lplace
  pub rplace : IsSmallNumber l.link.rplace
  pub label : IsRun l.label

pub record AreSumsInForm (sums : ShownSums) : Type 0 where
  pub unused : IsNumber sums.unused
  pub cost : IsWithinCosts sums.cost
  pub length : IsNumber sums.length

pub record IsLinkageInForm (g : ShownLinkage) : Type 0 where
  pub sums : AreSumsInForm g.sums
  pub words : AllByRecursion IsWordInForm g.words
  pub links : AllByRecursion IsLinkInForm g.links

-- ---- a page

-- a candidate that was looked at: its number, and the linkage if it passes, with the lines behind it that are not read, or the rule
-- that it breaks
pub data ShownItem : Type 0 where
  passes : ℕ → ShownLinkage → List (List ℕ) → ShownItem
  fails : ℕ → Violation → ShownItem

-- the candidates, and the last line
pub record ShownPage : Type 0 where
  pub items : List ShownItem
  pub last : ShownEnd

abbrev pub fail_line : ℕ → Violation → List ℕ
fail_line number v = line (codes "fail" ∷ decimal number ∷ codes "rule" ∷ decimal v.rule ∷ codes "link" ∷ decimal v.left ∷ decimal v.right ∷ [])

-- whether there is no further candidate
abbrev pub end_word : Bool → List ℕ
end_word true = codes "end"
end_word false = codes "more"

abbrev pub page_line : ShownEnd → List ℕ
page_line e =
    line (codes "page" ∷ codes "shown" ∷ decimal e.shown ∷ codes "examined" ∷ decimal e.examined ∷ codes "next" ∷ decimal e.next ∷ end_word e.end ∷ [])

pub record IsEndInForm (e : ShownEnd) : Type 0 where
  pub shown : IsNumber e.shown
  pub examined : IsNumber e.examined
  pub next : IsNumber e.next

pub record IsViolationInForm (v : Violation) : Type 0 where
  pub rule : IsSmallNumber v.rule
  pub left : IsSmallNumber v.left
  pub right : IsSmallNumber v.right

-- a line that is passed over: it begins so
abbrev pub IsUnread : List ℕ → List ℕ → Type 0
IsUnread beginning l = IsOneLine l × (starts_with eqb l beginning ≡ true)

abbrev pub AreUnread : List ℕ → List (List ℕ) → Type 0
AreUnread beginning lines = AllByRecursion (IsUnread beginning) lines

abbrev pub IsItemInForm : ShownItem → Type 0
IsItemInForm (passes number g unread) = IsNumber number × IsLinkageInForm g × AreUnread (codes ">") unread
IsItemInForm (fails number v) = IsNumber number × IsViolationInForm v

-- ---- an answer

-- What is shown of an answer: a page at a version, behind a line of numbers of disjuncts that is not read; a bound; the version that an
-- edit made; why an edit was refused, as it is printed; a version; or that there was nothing to go on with.
pub data ShownReply : Type 0 where
  listed : ℕ → Option (List ℕ) → ShownPage → ShownReply
  beyond : ℕ → Bound → ShownReply
  published : ℕ → ShownReply
  refused : ℕ → List ℕ → ShownReply
  at : ℕ → ShownReply
  nothing_held : ShownReply

-- the first line of an answer to the command of that place and kind
abbrev pub head_line : Place → CommandKind → ShownReply → List ℕ
head_line place kind (listed version stats page) = line (version_pieces place kind version)
head_line place kind (beyond version bound) = line (version_pieces place kind version ++ bound_pieces bound)
head_line place kind (published version) = line (version_pieces place kind version)
head_line place kind (refused version cause) = line (place_text place ∷ kind_word kind ∷ codes "refused" ∷ codes "at" ∷ (decimal version ++ codes ":") ∷ cause ∷ [])
head_line place kind (at version) = line (place_text place ∷ kind_word kind ∷ decimal version ∷ [])
head_line place kind nothing_held = line (place_text place ∷ kind_word kind ∷ codes "nothing" ∷ codes "held" ∷ [])
