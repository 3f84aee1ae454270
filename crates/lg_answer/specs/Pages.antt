-- Listings of a sentence, and their pages.
use Rattle.std.specs.Prelude.{◌≡◌, ◌↔◌, ◌⊎◌, ℕ, ◌+◌, ◌<◌, Bool, true, false, MatchBool, List, length, map, take, drop, All, None, is_none, count_by}
use Rattle.std.specs.List.{enumerate_from, sum_by}
use Rattle.lg_gram.specs.Linkages.{Linkage}
use Rattle.lg_gram.specs.declared.disjunct.Disjunct.{Disjunct}
use Rattle.lg_gram.specs.declared.listing.Token.{Token}
use Rattle.lg_gram.specs.declared.listing.PageItem.{PageItem}
use Rattle.lg_gram.specs.declared.listing.Page.{Page}
use Rattle.lg_gram.specs.declared.listing.Stats.{Stats}
use Rattle.lg_gram.specs.Rules.{Good}
use Rattle.lg_dict.specs.Dictionary.{Dictionary}
use Rattle.lg_token.specs.Tokens.{AreTokens}
use Rattle.lg_knowread.specs.declared.knowledge.Knowledge.{Knowledge}
use Rattle.lg_pp.specs.Labels.{IsGood}
use Rattle.lg_pprune.specs.Alive.{IsPruned}
use Rattle.lg_pp.specs.Breaks.{Judges}
use Rattle.lg_token.specs.Bounds.{bound_of}
pub use Rattle.lg_token.specs.Bounds.{IsBeyond}
use Rattle.lg_answer.specs.Candidates.{AreFirst, AreAll, IsBehind, Course, IsSameCourse}
use Rattle.lg_answer.specs.Problems.{IsProblemInUse}
use Rattle.lg_answer.specs.declared.options.Nulls.{Nulls}
use Rattle.lg_answer.specs.declared.options.Nulls.TheVariants.{First}
use Rattle.lg_answer.specs.declared.options.Options.{Options}
use Rattle.lg_answer.specs.declared.refusal.AnswerRefusal.{AnswerRefusal}
use Rattle.lg_answer.specs.declared.refusal.AnswerRefusal.TheVariants.{NoMemory, Beyond}

-- ten candidates are shown, and a thousand looked at, where nothing else is asked, all good linkages decide how many words may stay
-- unlinked, and disjuncts are pruned and not counted, by one worker, without idioms
abbrev pub default_options : Options
default_options = record { want = 10; examine = 1000; nulls = First; prune = true; count = false; workers = 1; idioms = false }

-- how many of the candidates that were looked at pass
abbrev pub passed : List PageItem → ℕ
passed items = count_by (λ item. is_none item.broken) items

-- A page of the candidates behind the first `from`. Before each candidate it stops where `want` have passed, else where
-- `examine` were looked at, else where none is left; the last alone is the end.
pub record IsPage (positions : List (List Disjunct)) (know : Knowledge) (nulls : Nulls) (from want examine : ℕ) (page : Page) : Type 0 where
  pub front : List Linkage
  pub first : AreFirst positions know nulls front
  pub looked : ℕ
  pub within : from + looked ≡ length front
  pub numbered : map (λ item. (item.number, item.linkage)) page.items ≡ enumerate_from (from + 1) (drop from front)
  pub judged : All (λ item. Judges know item.linkage item.broken) page.items
  pub goes_on : (k : ℕ) → k < looked → (passed (take k page.items) < want) × (k < examine)
  pub stops : (passed page.items ≡ want) ⊎ ((looked ≡ examine) ⊎ AreAll positions know nulls front)
  pub ends : (page.end ≡ true) ↔ ((passed page.items < want) × (looked < examine) × AreAll positions know nulls front)
  pub next : page.next ≡ from + looked + 1

-- a problem has the good linkages of another, and no others
abbrev pub HasLinkagesOf : List (List Disjunct) → List (List Disjunct) → Type 0
HasLinkagesOf positions kept = (g : Linkage) → Good positions g ↔ Good kept g

-- What contracts see of a listing. The problem of its course is what pruning, and often sharpening, has left of the sentence's.
pub record Listing : Type 0 where
  pub tokens : List Token
  pub course : Course
  pub stats : Stats

-- what holds of every listing: its problem has a position for each token
abbrev pub IsOpen : Listing → Type 0
IsOpen listing = length listing.course.problem ≡ length listing.tokens

-- how many disjuncts a problem has, and how many are kept: those that are alive where it is pruned, and else all
pub record AreStats (positions : List (List Disjunct)) (prune : Bool) (stats : Stats) : Type 0 where
  pub disjuncts : stats.disjuncts ≡ sum_by length positions
  pub kept : MatchBool prune ((pruned : List (List Disjunct)) × IsPruned positions pruned × (stats.kept ≡ sum_by length pruned)) (stats.kept ≡ stats.disjuncts)

-- a good linkage of some problem, with a position for each of these tokens: it may be printed beside them
pub record IsLinkageFor (tokens : List Token) (g : Linkage) : Type 0 where
  pub same_length : length tokens ≡ length g.chosen
  pub good : IsGood g

-- a sentence within the bounds, with its tokens and its problem, with idioms or without
pub record IsSentenceOf (idioms : Bool) (dict : Dictionary) (text : List ℕ) (tokens : List Token) (problem : List (List Disjunct)) : Type 0 where
  pub of_text : AreTokens dict text tokens
  pub unbound : bound_of dict tokens ≡ None
  pub of_tokens : IsProblemInUse idioms dict tokens problem

-- a listing of a sentence, pruned or not: its tokens, a problem with the linkages of the sentence's, and, where they are counted, the
-- numbers of disjuncts
pub record IsListing (dict : Dictionary) (text : List ℕ) (options : Options) (listing : Listing) : Type 0 where
  pub problem : List (List Disjunct)
  pub sentence : IsSentenceOf options.idioms dict text listing.tokens problem
  pub keeps : HasLinkagesOf problem listing.course.problem
  pub counted : options.count ≡ true → AreStats problem options.prune listing.stats

-- a listing of the same sentence
pub record IsSameListing (old new : Listing) : Type 0 where
  pub tokens : new.tokens ≡ old.tokens
  pub course : IsSameCourse old.course new.course
  pub stats : new.stats ≡ old.stats

-- the listing stands behind n more candidates of the problem, or behind all where they are fewer
abbrev pub HasSkipped : Knowledge → List (List Disjunct) → Listing → ℕ → Listing → Type 0
HasSkipped know problem old n new = IsBehind problem know old.course.nulls (old.course.position + n) new.course.position

-- why a sentence is not listed: memory may run out at any time, and a bound has its cause
abbrev pub IsRefused : Dictionary → List ℕ → AnswerRefusal → Type 0
IsRefused dict text NoMemory = Unit {0}
IsRefused dict text (Beyond bound) = IsBeyond dict text bound
