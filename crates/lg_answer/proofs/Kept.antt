-- What is said of the candidates of a problem holds of each problem with the same good linkages.
use Rattle.std.proofs.Common.{ℕ, List, inl, inr}
use Rattle.lg_gram.specs.Linkages.{Linkage, linkage_cmp}
use Rattle.lg_gram.specs.declared.disjunct.Disjunct.{Disjunct}
use Rattle.lg_gram.specs.declared.listing.Page.{Page}
use Rattle.lg_knowread.specs.declared.knowledge.Knowledge.{Knowledge}
use Rattle.lg_rank.specs.Fronts.{IsFront}
use Rattle.lg_answer.specs.Candidates.{IsCandidate, AreFirst, AreAll, IsBehind}
use Rattle.lg_answer.specs.Pages.{HasLinkagesOf, IsPage}
use Rattle.lg_answer.specs.declared.options.Nulls.{Nulls}

pub front_of : {V : Type 0} (cmp : V → V → _) (A B : V → Type 0) (made : List V) → ((v : V) → A v → B v) → ((v : V) → B v → A v) → IsFront cmp A made → IsFront cmp B made
front_of cmp A B made to back front = record {
  rise = front.rise;
  sound = λ i a at. to a (front.sound i a at);
  below = λ v has. front.below v (back v has);
}

module _ (positions kept : List (List Disjunct)) (same : HasLinkagesOf positions kept) (know : Knowledge) (nulls : Nulls) where
  candidate : (g : Linkage) → IsCandidate kept know nulls g → IsCandidate positions know nulls g
  candidate g c = record { good = (same g).1 c.good; fewest = λ h good decides. c.fewest h ((same h).0 good) decides }

  back : (g : Linkage) → IsCandidate positions know nulls g → IsCandidate kept know nulls g
  back g c = record { good = (same g).0 c.good; fewest = λ h good decides. c.fewest h ((same h).1 good) decides }

  first : (front : List Linkage) → AreFirst kept know nulls front → AreFirst positions know nulls front
  first front are = front_of linkage_cmp (IsCandidate kept know nulls) (IsCandidate positions know nulls) front candidate back are

  all : (front : List Linkage) → AreAll kept know nulls front → AreAll positions know nulls front
  all front are = λ g is. are g (back g is)

  all_back : (front : List Linkage) → AreAll positions know nulls front → AreAll kept know nulls front
  all_back front are = λ g is. are g (candidate g is)

  pub behind_kept : (n place : ℕ) → IsBehind kept know nulls n place → IsBehind positions know nulls n place
  behind_kept n place b = record {
    front = b.front;
    first = first b.front b.first;
    count = b.count;
    at = elim b.at [
      | inl here ↦ inl here
      | inr short ↦ inr (short.0, all b.front short.1)
    ];
  }

  pub page_kept : (from want examine : ℕ) (page : Page) → IsPage kept know nulls from want examine page → IsPage positions know nulls from want examine page
  page_kept from want examine page is = record {
    front = is.front;
    first = first is.front is.first;
    looked = is.looked;
    within = is.within;
    numbered = is.numbered;
    judged = is.judged;
    goes_on = is.goes_on;
    stops = elim is.stops [
      | inl enough ↦ inl enough
      | inr more ↦ inr (elim more [
        | inl so_many ↦ inl so_many
        | inr none ↦ inr (all is.front none)
      ])
    ];
    ends = (λ end. let e = is.ends.0 end in (e.0, e.1, all is.front e.2), λ e. is.ends.1 (e.0, e.1, all_back is.front e.2));
    next = is.next;
  }
