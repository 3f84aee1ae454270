-- What is kept on the way through the answers of a session.
use Rattle.std.specs.Prelude.{◌≡◌, ℕ, ◌≤◌, ◌<◌, List, ◌++◌, length, map, take, Option, Some, None}
use Rattle.std.specs.List.{last_or}
use Rattle.std.specs.List.Sorted.{IsStrictlySortedBy}
use Rattle.lg_gram.specs.Linkages.{Linkage, linkage_cmp}
use Rattle.lg_gram.specs.declared.reply.Place.{Place}
use Rattle.lg_dict.specs.Dictionary.{Dictionary}
use Rattle.lg_knowread.specs.declared.knowledge.Knowledge.{Knowledge}
use Rattle.lg_script.specs.Bounds.{IsSentence}
use Rattle.lg_script.specs.Commands.{CommandView}
use Rattle.lg_script.specs.Histories.{numbered, AreInTime, fresh}
use Rattle.lg_audit.specs.Lines.{ShownPage, ShownReply}
use Rattle.lg_audit.specs.Replies.{Basis, Held, Hold, ReplyHolds, IsPageOf, outline}
use Rattle.lg_audit.specs.Grounds.{IsDated}
use Rattle.lg_audit.specs.Rising.{Rises, named_after, IsNamed}
use Rattle.lg_audit.specs.declared.dated.Dated.{Dated}
use Rattle.lg_audit.specs.declared.listed.Going.{Going}
use Rattle.lg_audit.specs.declared.verdict.Verdict.{Verdict}
use Rattle.lg_audit.specs.declared.verdict.Verdict.TheVariants.{Wrong, Right}
use Rattle.lg_audit.specs.declared.walk.Walked.{Walked}

-- ---- listings

-- that much of what is held is kept, beside the version
pub record IsGoing (version : ℕ) (h : Held) (g : Going) : Type 0 where
  pub version_is : h.version ≡ version
  pub text : h.text ≡ g.text.now
  pub sentence : IsSentence h.text
  pub next : h.next ≡ g.next
  pub last : g.last ≡ last_or None h.shown
  pub rise : IsStrictlySortedBy linkage_cmp h.shown

abbrev pub IsKept : ℕ → Option Held → Option Going → Type 0
IsKept version None None = Unit {0}
IsKept version (Some h) (Some g) = IsGoing version h g
IsKept version _ _ = ⊥

-- It is a page of the sentence behind these linkages, and shows just these.
pub record IsJustPage (know : Knowledge) (dict : Dictionary) (text : List ℕ) (from : ℕ) (before shown : List Linkage) (page : ShownPage) : Type 0 where
  pub is : IsPageOf know dict text from before shown page
  pub only : (other : List Linkage) → IsPageOf know dict text from before other page → other ≡ shown

-- what is kept once the page is shown
pub record Follows (know : Knowledge) (dict : Dictionary) (text : List ℕ) (from : ℕ) (before : List Linkage) (page : ShownPage) (g : Going) : Type 0 where
  pub shown : List Linkage
  pub just : IsJustPage know dict text from before shown page
  pub text_is : g.text.now ≡ text
  pub next : g.next ≡ page.last.next
  pub last : g.last ≡ last_or None (before ++ shown)

-- ---- one answer

-- the answer holds, and then just this is held
pub record IsNext (basis : Basis) (p : Place) (held : Option Held) (command : CommandView) (r : ShownReply) (then : Option Held) : Type 0 where
  pub holds : ReplyHolds basis p held command r then
  pub only : (other : Option Held) → ReplyHolds basis p held command r other → other ≡ then

-- it does not hold, or it does and then that much of what is held is kept
abbrev pub ComesTo : Basis → Place → Option Held → CommandView → ShownReply → ℕ → Verdict → Type 0
ComesTo basis p held command r version Wrong = (then : Option Held) → ReplyHolds basis p held command r then → ⊥
ComesTo basis p held command r version (Right going) = (then : Option Held) × IsKept version then going × IsNext basis p held command r then

-- versions have not fallen, the answer holds, and that is kept then
pub record IsStepped (basis : Basis) (p : Place) (named : ℕ) (held : Option Held) (command : CommandView) (r : ShownReply) (edits lists : Dated) (w : Walked) : Type 0 where
  pub then : Option Held
  pub next : IsNext basis p held command r then
  pub rises : Rises named (length basis.journal) command r
  pub named_is : w.named ≡ named_after named command r
  pub kept : IsKept lists.version then w.held
  pub edits_dated : IsDated basis edits
  pub lists_dated : IsDated basis lists
  pub edits_low : edits.version ≤ w.named
  pub lists_low : lists.version ≤ w.named

-- ---- the answers of a session

-- after so many answers of a session, which hold
pub record IsWalked (basis : Basis) (session : ℕ) (commands : List CommandView) (replies : List ShownReply) (n : ℕ) (edits lists : Dated) (w : Walked) : Type 0 where
  pub held : Option Held
  pub hold : Hold basis session commands replies n held
  pub only : (other : Option Held) → Hold basis session commands replies n other → other ≡ held
  pub kept : IsKept lists.version held w.held
  pub edits_dated : IsDated basis edits
  pub lists_dated : IsDated basis lists
  pub edits_low : edits.version ≤ w.named
  pub lists_low : lists.version ≤ w.named
  pub named : IsNamed w.named (fresh (take n commands) (map outline (take n replies)))
  pub time : AreInTime basis.journal (take n commands) (map outline (take n replies))

-- the first n answers hold
abbrev pub HoldSome : Basis → ℕ → List CommandView → List ShownReply → ℕ → Type 0
HoldSome basis session commands replies n = (held : Option Held) × Hold basis session commands replies n held

-- the answer of that number is the first that does not hold
pub record IsFirstWrong (basis : Basis) (session : ℕ) (commands : List CommandView) (replies : List ShownReply) (n : ℕ) : Type 0 where
  pub least : 1 ≤ n
  pub most : n ≤ length commands
  pub before : (k : ℕ) → k < n → HoldSome basis session commands replies k
  pub wrong : HoldSome basis session commands replies n → ⊥

-- ---- all answers

-- every answer of each session holds, for the first n sessions
abbrev pub AllHold : Basis → List (List ShownReply) → ℕ → Type 0
AllHold basis replies n = (session : ℕ) (commands : List CommandView) (rs : List ShownReply) → session ≤ n
    → numbered basis.scripts session ≡ Some commands → numbered replies session ≡ Some rs → HoldSome basis session commands rs (length commands)

-- the answer at the place is the first that does not hold
pub record IsFirstPlace (basis : Basis) (replies : List (List ShownReply)) (p : Place) : Type 0 where
  pub commands : List CommandView
  pub rs : List ShownReply
  pub script : numbered basis.scripts p.session ≡ Some commands
  pub answers : numbered replies p.session ≡ Some rs
  pub before : (session : ℕ) (cs : List CommandView) (others : List ShownReply) → session < p.session
      → numbered basis.scripts session ≡ Some cs → numbered replies session ≡ Some others → HoldSome basis session cs others (length cs)
  pub first : IsFirstWrong basis p.session commands rs p.command
