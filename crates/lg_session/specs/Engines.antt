-- What answers the sentences of a session.
use Rattle.std.specs.Prelude.{◌≡◌, ℕ, ◌+◌, ◌-◌, ◌≤◌, List, Option}
use Rattle.lg_gram.specs.declared.listing.Page.{Page}
use Rattle.lg_gram.specs.declared.listing.Stats.{Stats}
use Rattle.lg_gram.specs.declared.listing.Token.{Token}
use Rattle.lg_dict.specs.Dictionary.{Dictionary}
use Rattle.lg_token.specs.Bounds.{AreListed, IsBeyond}
use Rattle.lg_session.specs.declared.engine.Opening.{Opening}
use Rattle.lg_session.specs.declared.engine.Opening.TheVariants.{Listed, Beyond}

-- How far the listing of a sentence has come: its text, how many candidates that pass are wanted in a page, where that is
-- not left to the engine, its tokens, and how many candidates stand before the next page.
pub record Progress : Type 0 where
  pub text : List ℕ
  pub want : Option ℕ
  pub tokens : List Token
  pub position : ℕ

-- it has come to the place where this page stopped
abbrev pub moved : Progress → Page → Progress
moved progress page = record progress { position = page.next - 1 }

-- What an engine means, by the dictionary: the page of a listing that has come so far, and the numbers of disjuncts of a
-- sentence.
pub record Meaning : Type 1 where
  pub shows : Dictionary → Progress → Page → Type 0
  pub counts : Dictionary → List ℕ → Stats → Type 0

-- where a listing starts
abbrev pub start_of : List ℕ → Option ℕ → List Token → ℕ → Progress
start_of text want tokens first = record { text = text; want = want; tokens = tokens; position = first - 1 }

-- the tokens of a sentence that is listed, the first page, and what is held then
pub record IsOpened {H : Type 0} (meaning : Meaning) (Stands : H → Dictionary → Progress → Type 0) (dict : Dictionary) (start : Progress) (held : H) (page : Page) (stats : Stats) : Type 0 where
  pub tokenized : AreListed dict start.text start.tokens
  pub shows : meaning.shows dict start page
  pub counts : meaning.counts dict start.text stats
  pub stands : Stands held dict (moved start page)
  pub near : page.next - 1 ≤ 2000000

-- an engine opens the listing of a sentence, or says which bound it passes, if it passes one
abbrev pub Opens : {H : Type 0} → Meaning → (H → Dictionary → Progress → Type 0) → Dictionary → List ℕ → ℕ → Option ℕ → Opening H → Type 0
Opens meaning Stands dict text first want (Listed held tokens page stats) = IsOpened meaning Stands dict (start_of text want tokens first) held page stats
Opens meaning Stands dict text first want (Beyond bound) = IsBeyond dict text bound

-- the next page of a listing, and what is held then
pub record GoesOn {H : Type 0} (meaning : Meaning) (Stands : H → Dictionary → Progress → Type 0) (dict : Dictionary) (progress : Progress) (held : H) (tokens : List Token) (page : Page) : Type 0 where
  pub shows : meaning.shows dict progress page
  pub same_tokens : tokens ≡ progress.tokens
  pub stands : Stands held dict (moved progress page)
  pub near : page.next - 1 ≤ progress.position + 1000000
