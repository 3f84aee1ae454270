-- The documents of sessions: what one shows, and when bytes are one.
use Rattle.std.specs.Prelude.{◌≡◌, ℕ, ◌+◌, List, [], ◌∷◌, ◌++◌, length, map, codes, decimal, Option, Some, None}
use Rattle.std.specs.List.{flat_map, enumerate_from, AllByRecursion}
use Rattle.lg_gram.specs.declared.edit.EditRefusal.{EditRefusal}
use Rattle.lg_gram.specs.declared.edit.EditRefusal.TheVariants.{UnknownMacro, TooDeep, TooManyNodes, TooManyChoices, SideTooLong, NoSuchWord}
use Rattle.lg_gram.specs.declared.listing.Bound.{Bound}
use Rattle.lg_gram.specs.declared.listing.Bound.TheVariants.{TooManyWords, TooWide}
use Rattle.lg_gram.specs.declared.reply.CommandKind.{CommandKind}
use Rattle.lg_gram.specs.declared.reply.CommandKind.TheVariants as kinds
use Rattle.lg_gram.specs.declared.reply.Place.{Place}
use Rattle.lg_text.specs.Shown.{IsOneLine, closed, IsPlace}
use Rattle.lg_text.specs.Replies.{cause_pieces, place_text}
use Rattle.lg_script.specs.Commands.{CommandView}
use Rattle.lg_script.specs.Kinds.{kind_of}
use Rattle.lg_script.specs.Histories.{numbered}
use Rattle.lg_audit.specs.Pieces.{IsNumber, IsSmallNumber}
use Rattle.lg_audit.specs.Lines.{ShownItem, passes, fails, ShownPage, ShownReply, listed, beyond, published, refused, at, nothing_held, line, heading_line, word_line, link_line, fail_line, page_line, head_line, AreUnread, IsItemInForm, IsEndInForm}

-- the answers of each session, the journal, and the lines of usage, which are not read
pub record ShownDocument : Type 0 where
  pub replies : List (List ShownReply)
  pub journal : List Place
  pub usage : List (List ℕ)

-- ---- its lines

abbrev pub item_lines : ShownItem → List (List ℕ)
item_lines (passes number g unread) = heading_line number g.sums ∷ (map word_line g.words ++ (map link_line g.links ++ unread))
item_lines (fails number v) = fail_line number v ∷ []

abbrev pub page_lines : ShownPage → List (List ℕ)
page_lines page = flat_map item_lines page.items ++ page_line page.last ∷ []

abbrev pub unread_of : Option (List ℕ) → List (List ℕ)
unread_of None = []
unread_of (Some l) = l ∷ []

-- the lines behind the first line of an answer
abbrev pub more_lines : ShownReply → List (List ℕ)
more_lines (listed version stats page) = unread_of stats ++ page_lines page
more_lines _ = []

abbrev pub reply_lines : Place → CommandView × ShownReply → List (List ℕ)
reply_lines place a = head_line place (kind_of a.0) a.1 ∷ more_lines a.1

-- the lines of a session's answers, from the command of that number on
abbrev pub session_lines : ℕ → ℕ → List CommandView → List ShownReply → List (List ℕ)
session_lines session n (command ∷ commands) (r ∷ rs) = reply_lines (record { session = session; command = n }) (command, r) ++ session_lines session (n + 1) commands rs
session_lines session n commands [] = []
session_lines session n [] rs = []

-- the lines of all answers, from the session of that number on
abbrev pub sessions_lines : ℕ → List (List CommandView) → List (List ShownReply) → List (List ℕ)
sessions_lines session (commands ∷ scripts) (rs ∷ replies) = session_lines session 1 commands rs ++ sessions_lines (session + 1) scripts replies
sessions_lines session scripts [] = []
sessions_lines session [] replies = []

abbrev pub edit_line : ℕ × Place → List ℕ
edit_line e = line (codes "edit" ∷ decimal e.0 ∷ place_text e.1 ∷ [])

-- the journal: how many edits, each with its number from 1, and a last line
abbrev pub journal_lines : List Place → List (List ℕ) → List (List ℕ)
journal_lines journal usage =
    line (codes "journal" ∷ decimal (length journal) ∷ []) ∷ (map edit_line (enumerate_from 1 journal) ++ (usage ++ codes "done" ∷ []))

abbrev pub document_lines : List (List CommandView) → ShownDocument → List (List ℕ)
document_lines scripts d = sessions_lines 1 scripts d.replies ++ journal_lines d.journal d.usage

-- ---- its form

-- the number of a cause has as many bits as the program gives it
abbrev pub IsCauseInForm : EditRefusal → Type 0
IsCauseInForm (UnknownMacro number) = Unit {0}
IsCauseInForm (TooDeep level) = IsSmallNumber level
IsCauseInForm (TooManyNodes count) = IsNumber count
IsCauseInForm (TooManyChoices count) = IsNumber count
IsCauseInForm (SideTooLong count) = IsSmallNumber count
IsCauseInForm NoSuchWord = Unit {0}

-- a cause for which an edit is refused, as it is printed
pub record IsCause (text : List ℕ) : Type 0 where
  pub cause : EditRefusal
  pub name : List ℕ
  pub form : IsCauseInForm cause
  pub single : IsOneLine name
  pub is : text ≡ line (cause_pieces cause name)

pub record IsPageInForm (page : ShownPage) : Type 0 where
  pub items : AllByRecursion IsItemInForm page.items
  pub last : IsEndInForm page.last

abbrev pub IsBoundInForm : Bound → Type 0
IsBoundInForm (TooManyWords count) = IsNumber count
IsBoundInForm (TooWide count) = IsNumber count

-- the answers that a command of that kind may have
abbrev pub IsReplyInForm : CommandKind → ShownReply → Type 0
IsReplyInForm kinds.Parse (listed version stats page) = IsNumber version × AreUnread (codes "stats ") (unread_of stats) × IsPageInForm page
IsReplyInForm kinds.Parse (beyond version bound) = IsNumber version × IsBoundInForm bound
IsReplyInForm kinds.List (listed version stats page) = IsNumber version × AreUnread (codes "stats ") (unread_of stats) × IsPageInForm page
IsReplyInForm kinds.List (beyond version bound) = IsNumber version × IsBoundInForm bound
IsReplyInForm kinds.More (listed version stats page) = IsNumber version × (stats ≡ None) × IsPageInForm page
IsReplyInForm kinds.More nothing_held = Unit {0}
IsReplyInForm kinds.Set (published version) = IsNumber version
IsReplyInForm kinds.Set (refused version cause) = IsNumber version × IsCause cause
IsReplyInForm kinds.Macro (published version) = IsNumber version
IsReplyInForm kinds.Macro (refused version cause) = IsNumber version × IsCause cause
IsReplyInForm kinds.Del (published version) = IsNumber version
IsReplyInForm kinds.Del (refused version cause) = IsNumber version × IsCause cause
IsReplyInForm kinds.Version (at version) = IsNumber version
IsReplyInForm _ _ = ⊥

-- every command of every session has its answer
pub record AreRepliesInForm (scripts : List (List CommandView)) (replies : List (List ShownReply)) : Type 0 where
  pub sessions : length replies ≡ length scripts
  pub each : (session : ℕ) (commands : List CommandView) (rs : List ShownReply) → numbered scripts session ≡ Some commands → numbered replies session ≡ Some rs → length rs ≡ length commands
  pub form : (session n : ℕ) (commands : List CommandView) (rs : List ShownReply) (command : CommandView) (r : ShownReply) → numbered scripts session ≡ Some commands → numbered replies session ≡ Some rs
      → numbered commands n ≡ Some command → numbered rs n ≡ Some r → IsReplyInForm (kind_of command) r

-- The bytes are a document of these scripts, and show d.
pub record Shows (scripts : List (List CommandView)) (bytes : List ℕ) (d : ShownDocument) : Type 0 where
  pub replies : AreRepliesInForm scripts d.replies
  pub journal : AllByRecursion IsPlace d.journal
  pub count : IsNumber (length d.journal)
  pub usage : AreUnread (codes "usage ") d.usage
  pub is : bytes ≡ flat_map closed (document_lines scripts d)
