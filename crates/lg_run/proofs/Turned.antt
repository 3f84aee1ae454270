-- A page of a listing, and what is held after it.
use Rattle.std.proofs.Common.{◌≡◌, ◌⊎◌, inl, inr, Option, None, Some, ℕ, zero, suc, ◌+◌, ◌-◌, ◌^◌, ◌≤◌, ◌<◌, List, All, refl, sym, subst, ◌∙◌, arith}
use Rattle.std.specs.Option.{unwrap_or}
use Rattle.lg_gram.specs.declared.disjunct.Disjunct.{Disjunct}
use Rattle.lg_gram.specs.declared.listing.Page.{Page}
use Rattle.lg_gram.specs.declared.listing.Stats.{Stats}
use Rattle.lg_gram.specs.declared.listing.Token.{Token}
use Rattle.lg_dict.specs.Dictionary.{Dictionary}
use Rattle.lg_knowread.specs.declared.knowledge.Knowledge.{Knowledge}
use Rattle.lg_token.specs.Bounds.{AreListed}
use Rattle.lg_answer.specs.Candidates.{IsBehind}
use Rattle.lg_answer.specs.Candidates as candidates
use Rattle.lg_answer.specs.Pages.{Listing, IsListing, IsSentenceOf, HasLinkagesOf, AreStats, IsSameListing, HasSkipped, IsPage, IsLinkageFor}
use Rattle.lg_answer.specs.declared.options.Nulls.{Nulls}
use Rattle.lg_answer.specs.declared.options.Options.{Options}
use Rattle.lg_session.specs.Engines.{Progress, GoesOn, IsOpened, start_of, moved}
use Rattle.lg_run.specs.Documents.{IsShown, listings, wanted}
use Rattle.lg_run.specs.Listers.{Lister, StandsFor, Turns, MayTurn}
use Rattle.lg_run.specs.declared.lister.Held.{Held}

-- what is above no number that is less is no more
pub no_more_than : (looked examine : ℕ) → ((k : ℕ) → k < looked → k < examine) → looked ≤ examine
no_more_than zero examine h = omega arith
no_more_than (suc k) examine h = omega (arith, h k (omega arith))

-- the place behind so many candidates, or behind all where they are fewer, is no farther
pub no_farther : (positions : List (List Disjunct)) (know : Knowledge) (nulls : Nulls) (n place : ℕ) → IsBehind positions know nulls n place → place ≤ n
no_farther positions know nulls n place behind = by behind.at where
  by : (place ≡ n) ⊎ ((place < n) × candidates.AreAll positions know nulls behind.front) → place ≤ n
  by (inl same) = omega (arith, same)
  by (inr fewer) = omega (arith, fewer.0)

module _ (positions : List (List Disjunct)) (know : Knowledge) (nulls : Nulls) (from want examine : ℕ) (page : Page) (p : IsPage positions know nulls from want examine page) where
  -- where a page stops
  pub stops_near : page.next - 1 ≤ from + examine
  stops_near =
      let few = no_more_than p.looked examine (λ k h. (p.goes_on k h).1) in
      omega (arith, p.next, few)

  -- behind the candidates of its front
  pub stops_behind : (place : ℕ) → place + 1 ≡ page.next → IsBehind positions know nulls (page.next - 1) place
  stops_behind place moved = record { front = p.front; first = p.first; count = omega (arith, moved, p.next, p.within); at = inl (omega (arith, moved)) }

-- a listing of the same sentence has the linkages of the same problems
pub same_linkages : (problem : List (List Disjunct)) (old new : Listing) → IsSameListing old new → HasLinkagesOf problem old.course.problem → HasLinkagesOf problem new.course.problem
same_linkages problem old new same keeps = subst (HasLinkagesOf problem) (sym same.course.problem) keeps

-- what is held has come no farther than the progress says
pub may_turn : (l : Lister) (dict : Dictionary) (progress : Progress) (held : Held) → StandsFor l held dict progress → progress.position ≤ 2 ^ 60 → MayTurn l held
may_turn l dict progress held stands near = record {
  knows = stands.knows;
  near = let low = no_farther _ _ _ progress.position held.listing.course.position stands.behind in omega (arith, low, near);
}

module _ (l : Lister) (dict : Dictionary) (progress : Progress) (held next : Held) (tokens : List Token) (page : Page) (stands : StandsFor l held dict progress) (turns : Turns l held next tokens page) where
  shown_so : IsPage stands.problem l.know l.options.nulls held.listing.course.position (wanted l.options progress.want) l.options.examine page
  shown_so =
      subst (λ (n : Nulls). IsPage stands.problem l.know n held.listing.course.position (wanted l.options progress.want) l.options.examine page) stands.nulls
      (subst (λ (n : ℕ). IsPage stands.problem l.know held.listing.course.nulls held.listing.course.position n l.options.examine page) stands.want (turns.shown stands.problem stands.keeps))

  pub page_shown : IsShown l.know l.options dict progress page
  page_shown = record {
    problem = stands.problem;
    sentence = subst (λ (ts : List Token). IsSentenceOf l.options.idioms dict progress.text ts stands.problem) (sym stands.same_tokens) stands.sentence;
    place = held.listing.course.position;
    behind = stands.behind;
    shown = shown_so;
    printable = subst (λ (ts : List Token). All (λ item. IsLinkageFor ts item.linkage) page.items) (turns.same_tokens ∙ sym stands.same_tokens) turns.printable;
  }

  pub next_stands : StandsFor l next dict (moved progress page)
  next_stands = record {
    problem = stands.problem;
    sentence = subst (λ (ts : List Token). IsSentenceOf l.options.idioms dict progress.text ts stands.problem) (sym turns.same.tokens) stands.sentence;
    keeps = same_linkages stands.problem held.listing next.listing turns.same stands.keeps;
    same_tokens = stands.same_tokens ∙ sym turns.same.tokens;
    nulls = turns.same.course.nulls ∙ stands.nulls;
    behind = stops_behind _ _ _ _ _ _ page shown_so next.listing.course.position turns.moved;
    knows = turns.knows;
    want = turns.want ∙ stands.want;
  }

  pub goes_on : GoesOn (listings l.know l.options) (StandsFor l) dict progress next tokens page
  goes_on = record {
    shows = page_shown;
    same_tokens = turns.same_tokens ∙ sym stands.same_tokens;
    stands = next_stands;
    near = let low = no_farther _ _ _ progress.position held.listing.course.position stands.behind in omega (arith, turns.near, low);
  }

-- ---- the start of a listing

pub wanted_is : (options : Options) (want : Option ℕ) → unwrap_or want options.want ≡ wanted options want
wanted_is options None = refl
wanted_is options (Some n) = refl

-- A listing at its start passes over the candidates before the first that is asked for, and is held there.
pub record Skips (l : Lister) (dict : Dictionary) (text : List ℕ) (want : Option ℕ) (first : ℕ) (held : Held) : Type 0 where
  pub start : Listing
  pub is : IsListing dict text l.options start
  pub nulls : start.course.nulls ≡ l.options.nulls
  pub at_start : start.course.position ≡ 0
  pub skipped : HasSkipped l.know is.problem start (first - 1) held.listing
  pub same : IsSameListing start held.listing
  pub knows : candidates.StandsFor l.know held.listing.course
  pub wants : held.want ≡ wanted l.options want

module _ (l : Lister) (dict : Dictionary) (text : List ℕ) (want : Option ℕ) (first : ℕ) (held : Held) (skips : Skips l dict text want first held) where
  abbrev problem : List (List Disjunct)
  problem = skips.is.problem

  -- the sentence, by what is held
  sentence_held : IsSentenceOf l.options.idioms dict text held.listing.tokens problem
  sentence_held = subst (λ (ts : List Token). IsSentenceOf l.options.idioms dict text ts problem) (sym skips.same.tokens) skips.is.sentence

  pub skipped_stands : (tokens : List Token) → tokens ≡ held.listing.tokens → StandsFor l held dict (start_of text want tokens first)
  skipped_stands tokens same =
      let from_start : skips.start.course.position + (first - 1) ≡ first - 1 = omega (arith, skips.at_start) in
      let place = held.listing.course.position in
      record {
        problem = problem;
        sentence = sentence_held;
        keeps = same_linkages problem skips.start held.listing skips.same skips.is.keeps;
        same_tokens = same;
        nulls = skips.same.course.nulls ∙ skips.nulls;
        behind = subst (λ (n : Nulls). IsBehind problem l.know n (first - 1) place) skips.nulls
            (subst (λ (n : ℕ). IsBehind problem l.know skips.start.course.nulls n place) from_start skips.skipped);
        knows = skips.knows;
        want = skips.wants;
      }

  pub opened : (next : Held) (tokens : List Token) (page : Page) (stats : Stats) → first ≤ 1000000 → Turns l held next tokens page → stats ≡ held.listing.stats
      → IsOpened (listings l.know l.options) (StandsFor l) dict (start_of text want tokens first) next page stats
  opened next tokens page stats low turns counted =
      let on = goes_on l dict (start_of text want tokens first) held next tokens page (skipped_stands tokens turns.same_tokens) turns in
      let is = sentence_held in
      record {
        tokenized = subst (AreListed dict text) (sym turns.same_tokens) (record { of_text = is.of_text; unbound = is.unbound });
        shows = on.shows;
        counts = record {
          tokens = held.listing.tokens;
          problem = problem;
          sentence = is;
          counted = λ count. subst (AreStats problem l.options.prune) (sym (counted ∙ skips.same.stats)) (skips.is.counted count);
        };
        stands = on.stands;
        near = omega (arith, on.near, low);
      }

-- the place of a listing that has passed over some candidates is not far
pub skips_near : (know : Knowledge) (problem : List (List Disjunct)) (start listing : Listing) (n : ℕ) → HasSkipped know problem start n listing → start.course.position ≡ 0 → listing.course.position ≤ n
skips_near know problem start listing n skipped at_start = let low = no_farther _ _ _ (start.course.position + n) listing.course.position skipped in omega (arith, low, at_start)
