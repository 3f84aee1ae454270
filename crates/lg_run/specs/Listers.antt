-- What lists the sentences of a session, and what it holds of a listing.
use Rattle.std.specs.Prelude.{◌≡◌, ◌+◌, ◌-◌, ◌≤◌, ◌<◌, ◌^◌, List, length, All}
use Rattle.lg_gram.specs.declared.disjunct.Disjunct.{Disjunct}
use Rattle.lg_gram.specs.declared.listing.Page.{Page}
use Rattle.lg_gram.specs.declared.listing.Token.{Token}
use Rattle.lg_dict.specs.Dictionary.{Dictionary}
use Rattle.lg_knowread.specs.declared.knowledge.Knowledge.{Knowledge}
use Rattle.lg_answer.specs.Candidates.{IsBehind}
use Rattle.lg_answer.specs.Candidates as candidates
use Rattle.lg_answer.specs.Pages.{IsSentenceOf, HasLinkagesOf, IsPage, IsLinkageFor, IsSameListing}
use Rattle.lg_answer.specs.declared.options.Options.{Options}
use Rattle.lg_session.specs.Engines.{Progress}
use Rattle.lg_run.specs.Words.{HasCounts}
use Rattle.lg_run.specs.Documents.{wanted}
use Rattle.lg_run.specs.declared.lister.Held.{Held}

pub record Lister : Type 0 where
  pub know : Knowledge
  pub options : Options

pub record IsLister (l : Lister) : Type 0 where
  pub few : length l.know.rules < 2 ^ 32
  pub range : HasCounts l.options

-- What is held is the listing of the sentence, at that place or at its end, right for the knowledge, and how many candidates are
-- wanted.
pub record StandsFor (l : Lister) (held : Held) (dict : Dictionary) (progress : Progress) : Type 0 where
  pub problem : List (List Disjunct)
  pub sentence : IsSentenceOf l.options.idioms dict progress.text held.listing.tokens problem
  pub keeps : HasLinkagesOf problem held.listing.course.problem
  pub same_tokens : progress.tokens ≡ held.listing.tokens
  pub nulls : held.listing.course.nulls ≡ l.options.nulls
  pub behind : IsBehind problem l.know l.options.nulls progress.position held.listing.course.position
  pub knows : candidates.StandsFor l.know held.listing.course
  pub want : held.want ≡ wanted l.options progress.want

-- a page of what is held was turned: the page, of any problem with the same linkages, with the tokens beside which its linkages may be printed, and what is held then
pub record Turns (l : Lister) (held next : Held) (tokens : List Token) (page : Page) : Type 0 where
  pub shown : (problem : List (List Disjunct)) → HasLinkagesOf problem held.listing.course.problem → IsPage problem l.know held.listing.course.nulls held.listing.course.position held.want l.options.examine page
  pub same : IsSameListing held.listing next.listing
  pub moved : next.listing.course.position + 1 ≡ page.next
  pub knows : candidates.StandsFor l.know next.listing.course
  pub want : next.want ≡ held.want
  pub same_tokens : tokens ≡ held.listing.tokens
  pub printable : All (λ item. IsLinkageFor tokens item.linkage) page.items
  pub near : page.next - 1 ≤ held.listing.course.position + 1000000

-- what a page is turned of: a listing that stands for the knowledge and has come no farther than this
pub record MayTurn (l : Lister) (held : Held) : Type 0 where
  pub knows : candidates.StandsFor l.know held.listing.course
  pub near : held.listing.course.position ≤ 2 ^ 60
