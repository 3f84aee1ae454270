-- The versions that the answers of a session name.
use Rattle.std.specs.Prelude.{◌≡◌, ◌⊎◌, ℕ, ◌≤◌, List, All, Any}
use Rattle.lg_gram.specs.declared.reply.Reply.{Reply}
use Rattle.lg_gram.specs.declared.reply.Reply.TheVariants.{At}
use Rattle.lg_script.specs.Commands.{CommandView, goes_on}
use Rattle.lg_script.specs.Histories.{Precedes, reply_version}
use Rattle.lg_audit.specs.Lines.{ShownReply}
use Rattle.lg_audit.specs.Replies.{outline}

-- the answer's version is there, and comes behind one that named this version
pub record IsAhead (named newest : ℕ) (r : ShownReply) : Type 0 where
  pub there : reply_version (outline r) ≤ newest
  pub behind : Precedes (At named) (outline r)

-- versions have not fallen; `more` goes on with an old version
abbrev pub Rises : ℕ → ℕ → CommandView → ShownReply → Type 0
Rises named newest goes_on r = reply_version (outline r) ≤ newest
Rises named newest command r = IsAhead named newest r

-- the version that was named last, once the answer is given
abbrev pub named_after : ℕ → CommandView → ShownReply → ℕ
named_after named goes_on r = named
named_after named command r = reply_version (outline r)

-- no answer named a higher version, and one named this, or it is 0
pub record IsNamed (named : ℕ) (replies : List Reply) : Type 0 where
  pub highest : All (λ r. reply_version r ≤ named) replies
  pub some : (named ≡ 0) ⊎ Any (λ r. reply_version r ≡ named) replies
