-- What the bytes of a document show: the journal, and of each answer its place, its kind and its version.
use Rattle.std.specs.Prelude.{◌≡◌, ℕ, ◌<◌, ◌^◌, eqb, leb, ◌&&◌, Bool, true, false, List, [], ◌∷◌, ◌++◌, map, codes, Option, Some, None, IfSome}
use Rattle.std.specs.List.{list_any, flat_map, starts_with, AllByRecursion}
use Rattle.lg_gram.specs.Connectors.{connector_text}
use Rattle.lg_gram.specs.declared.disjunct.Disjunct.{Disjunct}
use Rattle.lg_gram.specs.declared.listing.Token.{Token}
use Rattle.lg_gram.specs.declared.listing.Page.{Page}
use Rattle.lg_gram.specs.declared.reply.CommandKind.{CommandKind}
use Rattle.lg_gram.specs.declared.reply.Place.{Place}
use Rattle.lg_gram.specs.declared.reply.Reply.{Reply}
use Rattle.lg_gram.specs.declared.reply.Reply.TheVariants.{Listed, Beyond, Published, Refused, At, NoListing}
use Rattle.lg_text.specs.Replies.{reply_text, journal_text}
use Rattle.lg_text.specs.declared.look.Look.{Look}

-- ---- texts without a line feed

-- no byte is a line feed
abbrev pub IsOneLine : List ℕ → Type 0
IsOneLine text = list_any (eqb 10) text ≡ false

-- its word and its connectors have no line feed
pub record IsPlainDisjunct (d : Disjunct) : Type 0 where
  pub word : IsOneLine d.word
  pub left : AllByRecursion (λ c. IsOneLine (connector_text c)) d.left
  pub right : AllByRecursion (λ c. IsOneLine (connector_text c)) d.right

-- no token of the sentence and no disjunct that a candidate chooses has a line feed
pub record IsPlainPage (tokens : List Token) (page : Page) : Type 0 where
  pub tokens_plain : AllByRecursion (λ (token : Token). IsOneLine token.text) tokens
  pub chosen_plain : AllByRecursion (λ item. AllByRecursion (λ choice. IfSome choice IsPlainDisjunct) item.linkage.chosen) page.items

-- what a reply prints of sentences, dictionaries and scripts has no line feed
abbrev pub IsPlainReply : Reply → Type 0
IsPlainReply (Listed version tokens page stats) = IsPlainPage tokens page
IsPlainReply (Refused version cause name) = IsOneLine name
IsPlainReply _ = Unit {0}

-- ---- answers

-- the numbers of a place are of 32 bits
abbrev pub IsPlace : Place → Type 0
IsPlace p = (p.session < 2 ^ 32) × (p.command < 2 ^ 32)

-- the version that a reply prints
abbrev pub shown_version : Reply → Option ℕ
shown_version (Listed version tokens page stats) = Some version
shown_version (Beyond version bound) = Some version
shown_version (Published version) = Some version
shown_version (Refused version cause name) = Some version
shown_version (At version) = Some version
shown_version NoListing = None

-- a command's place and kind, and what it was answered
pub record Answered : Type 0 where
  pub place : Place
  pub kind : CommandKind
  pub reply : Reply

-- the answer's numbers are of 32 and 64 bits, and its texts have no line feed
pub record IsPlain (a : Answered) : Type 0 where
  pub place : IsPlace a.place
  pub version : IfSome (shown_version a.reply) (λ v. v < 2 ^ 64)
  pub texts : IsPlainReply a.reply

-- what is shown of an answer
pub record Shown : Type 0 where
  pub place : Place
  pub kind : CommandKind
  pub version : Option ℕ

abbrev pub shown_of : Answered → Shown
shown_of a = record { place = a.place; kind = a.kind; version = shown_version a.reply }

abbrev pub answer_text : Look → Answered → List ℕ
answer_text look a = reply_text look a.place a.kind a.reply

-- a document: the texts of answers, and then the journal
abbrev pub document_text : Look → List Answered → List Place → List ℕ
document_text look answers journal = flat_map (answer_text look) answers ++ journal_text journal

-- ---- lines

-- a line with its line feed
abbrev pub closed : List ℕ → List ℕ
closed line = line ++ 10 ∷ []

abbrev pub begins : List (List ℕ) → List ℕ → Bool
begins words line = list_any (starts_with eqb line) words

-- The text is lines, each with a line feed behind it and none inside, and each begins with one of these words.
pub record HasLines (words : List (List ℕ)) (text : List ℕ) : Type 0 where
  pub lines : List (List ℕ)
  pub is : text ≡ flat_map closed lines
  pub single : AllByRecursion (λ line. IsOneLine line) lines
  pub begun : AllByRecursion (λ line. begins words line ≡ true) lines

-- how the lines of a page and of the journal begin
abbrev pub page_words : List (List ℕ)
page_words = codes "stats " ∷ codes "linkage " ∷ codes "word " ∷ codes "link " ∷ codes ">" ∷ codes "fail " ∷ codes "page " ∷ []

abbrev pub journal_words : List (List ℕ)
journal_words = codes "journal " ∷ codes "edit " ∷ codes "done" ∷ []

abbrev pub is_digit : ℕ → Bool
is_digit c = leb 48 c && leb c 57

-- The text of an answer is one line that begins with a digit, and then the lines of a page, or none.
pub record HasHead (head text : List ℕ) : Type 0 where
  pub rest : List ℕ
  pub is : text ≡ closed head ++ rest
  pub single : IsOneLine head
  pub digit : ℕ
  pub more : List ℕ
  pub begins_so : head ≡ digit ∷ more
  pub is_one : is_digit digit ≡ true
  pub page : HasLines page_words rest

-- ---- laws

-- The text of a journal determines the journal.
abbrev pub JournalsAreShown : Type 0
JournalsAreShown = (j k : List Place) → AllByRecursion IsPlace j → AllByRecursion IsPlace k → journal_text j ≡ journal_text k → j ≡ k

-- The first line of an answer begins with a digit, and no other line of it does; nor does a line of the journal.
abbrev pub LinesAreApart : Type 0
LinesAreApart = ((look : Look) (a : Answered) → IsPlain a → (head : List ℕ) × HasHead head (answer_text look a)) × ((j : List Place) → HasLines journal_words (journal_text j))

-- The first line of an answer determines its place, its kind and its version.
abbrev pub HeadsAreShown : Type 0
HeadsAreShown =
    (look other : Look) (a b : Answered) → IsPlain a → IsPlain b → (head : List ℕ) → HasHead head (answer_text look a) → HasHead head (answer_text other b) → shown_of a ≡ shown_of b

-- A document determines the journal and, of each answer in order, its place, its kind and its version.
abbrev pub DocumentsShow : Type 0
DocumentsShow =
    (look look' : Look) (one other : List Answered) (j k : List Place) → AllByRecursion IsPlain one → AllByRecursion IsPlain other → AllByRecursion IsPlace j → AllByRecursion IsPlace k
    → document_text look one j ≡ document_text look' other k → (map shown_of one ≡ map shown_of other) × (j ≡ k)
