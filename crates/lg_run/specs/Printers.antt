-- What a run keeps of the answers of its sessions: their texts, and what their first linkages use.
use Rattle.std.specs.Prelude.{◌≡◌, ◌^◌, ℕ, true, List, [], ◌∷◌, length, map}
use Rattle.std.specs.declared.vec.Vec.{Vec}
use Rattle.std.specs.List.{flat_map}
use Rattle.lg_gram.specs.Linkages.{Linkage}
use Rattle.lg_gram.specs.declared.reply.Reply.{Reply}
use Rattle.lg_script.specs.Commands.{CommandView}
use Rattle.lg_script.specs.Kinds.{kind_of}
use Rattle.lg_text.specs.Replies.{IsAnswerTo, IsPrintableReply}
use Rattle.lg_run.specs.Counted.{IsShare}
use Rattle.lg_run.specs.Documents.{reply_texts, first_linkages}
use Rattle.lg_run.specs.Lines.{joined}
use Rattle.lg_run.specs.declared.printer.PrintedSession.{PrintedSession}
use Rattle.lg_run.specs.declared.printer.Printer.{Printer}

-- an answer that its command can have, and that can be printed
abbrev pub MayBePrinted : CommandView → Reply → Type 0
MayBePrinted command r = IsAnswerTo (kind_of command) r × IsPrintableReply r

-- the bytes of pieces
abbrev pub texts_of : {A : Type 0} → List (Vec ℕ A) → List (List ℕ)
texts_of pieces = map (λ piece. piece.items) pieces

-- The texts of the answers to these commands, one after another; and if it is asked for, what the first linkages of these answers use.
pub record IsPrinted (printer : Printer) (session : ℕ) (commands : List CommandView) (replies : List Reply) (printed : PrintedSession) : Type 0 where
  pub many : length replies ≡ length commands
  pub text : joined (texts_of printed.pieces.items) ≡ joined (reply_texts printer.look session 1 commands replies)
  pub share : printer.usage ≡ true → IsShare (length replies) (first_linkages commands replies) printed.share

-- the texts of all sessions
abbrev pub printed_text : List PrintedSession → List ℕ
printed_text all = flat_map (λ printed. joined (texts_of printed.pieces.items)) all

-- the linkages of all sessions
abbrev pub together : List (List Linkage) → List Linkage
together lists = flat_map (λ gs. gs) lists

-- each session's share has counted these linkages
abbrev pub HaveShares : List (List Linkage) → List PrintedSession → Type 0
HaveShares [] [] = Unit {0}
HaveShares (gs ∷ all) (printed ∷ others) = IsShare (2 ^ 32) gs printed.share × HaveShares all others
HaveShares all others = ⊥
