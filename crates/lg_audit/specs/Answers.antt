-- What a reader finds of an answer behind its place and its kind.
use Rattle.std.specs.Prelude.{◌≡◌, ℕ, eqb, false, List, ◌∷◌, ◌++◌, map, codes, decimal, Option}
use Rattle.std.specs.List.{starts_with}
use Rattle.std.specs.declared.vec.Vec.{Vec}
use Rattle.lg_gram.specs.declared.reply.CommandKind.{CommandKind}
use Rattle.lg_text.specs.Texts.{bound_pieces}
use Rattle.lg_script.specs.Commands.{CommandView}
use Rattle.lg_script.specs.Kinds.{kind_of}
use Rattle.lg_audit.specs.Lines.{ShownReply, listed, beyond, published, refused, at, nothing_held, line, head_line, AreUnread}
use Rattle.lg_audit.specs.Documents.{IsReplyInForm, more_lines, unread_of}
use Rattle.lg_audit.specs.Fronts.{Leaves, AreFormed, numbered_lines}
use Rattle.lg_audit.specs.Views.{text_of}
use Rattle.lg_audit.specs.declared.shown.ShownReply.{ShownReply as Reply}
use Rattle.lg_audit.specs.declared.shown.ShownReply.TheVariants as replies

-- what is shown of an answer, as the program holds it
abbrev pub reply_of : Reply → ShownReply
reply_of (replies.Listed version stats page) = listed version (text_of stats) page
reply_of (replies.Beyond version bound) = beyond version bound
reply_of (replies.Published version) = published version
reply_of (replies.Refused version cause) = refused version cause.now
reply_of (replies.At version) = at version
reply_of replies.NothingHeld = nothing_held

-- what the first line of an answer tells
abbrev pub told_text : ShownReply → List ℕ
told_text (listed version stats page) = codes "version " ++ decimal version
told_text (beyond version bound) = codes "version " ++ (decimal version ++ 32 ∷ line (bound_pieces bound))
told_text (published version) = codes "version " ++ decimal version
told_text (refused version cause) = codes "refused at " ++ (decimal version ++ 58 ∷ 32 ∷ cause)
told_text (at version) = decimal version
told_text nothing_held = codes "nothing held"

-- a first line tells this, and the text stands behind it: no answer of the kind does so
pub record HasNoAnswer (kind : CommandKind) (told text : List ℕ) : Type 0 where
  pub none : (r : ShownReply) (s : List ℕ) → IsReplyInForm kind r → told ≡ told_text r → Leaves (more_lines r) text s → ⊥

-- this answer of the kind does so, and none that leaves another rest
pub record IsAnswer (kind : CommandKind) (told text : List ℕ) (r : ShownReply) (rest : List ℕ) : Type 0 where
  pub form : IsReplyInForm kind r
  pub tells : told ≡ told_text r
  pub is : Leaves (more_lines r) text rest
  pub only : (q : ShownReply) (s : List ℕ) → IsReplyInForm kind q → told ≡ told_text q → Leaves (more_lines q) text s → s ≡ rest

-- a line of numbers of disjuncts, or none
abbrev pub MayBeStats : Option (List ℕ) → Type 0
MayBeStats stats = AreUnread (codes "stats ") (unread_of stats)

abbrev pub HasNoStats : List ℕ → Type 0
HasNoStats text = starts_with eqb text (codes "stats ") ≡ false

-- the lines of the answer to a command of that kind
abbrev pub answer_lines : ℕ → ℕ → CommandKind → ShownReply → List (List ℕ)
answer_lines session command kind r = head_line (record { session = session; command = command }) kind r ∷ more_lines r

-- ---- sessions

abbrev pub IsReplyTo : CommandView → ShownReply → Type 0
IsReplyTo command r = IsReplyInForm (kind_of command) r

abbrev pub command_lines : ℕ → ℕ → CommandView → ShownReply → List (List ℕ)
command_lines session n command r = answer_lines session n (kind_of command) r

-- every command of a session has its answer
abbrev pub AreRepliesTo : List CommandView → List ShownReply → Type 0
AreRepliesTo commands replies = AreFormed IsReplyTo commands replies

abbrev pub script_lines : ℕ → List CommandView → List ShownReply → List (List ℕ)
script_lines session commands replies = numbered_lines (command_lines session) 1 commands replies

abbrev pub replies_of : {A : Type 0} → List (Vec Reply A) → List (List ShownReply)
replies_of {A} replies = map (λ (rs : Vec Reply A). map reply_of rs.items) replies
