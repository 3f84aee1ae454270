-- One candidate more of a page, and the page of those that were looked at.
use Rattle.std.proofs.Common.{◌≡◌, ◌↔◌, ℕ, suc, ◌+◌, ◌<◌, ◌≤◌, List, [], ◌∷◌, ◌++◌, length, take, drop, map, Bool, true, false, cond, inl, inr, refl, sym, ap, ◌∙◌, subst, arith, length-drop}
use Rattle.std.specs.Prelude.{None, is_none, ◌||◌}
use Rattle.std.specs.List.{enumerate_from}
use Rattle.std.proofs.lemmas.Bool.{cases_lt}
use Rattle.std.proofs.lemmas.List.{map-append, take_all, take-append-le, drop-append-le, length_push}
use Rattle.std.proofs.lemmas.List.Elements.{All-push}
use Rattle.std.proofs.lemmas.List.Sums.{sum_by-append, count_by-le-length}
use Rattle.lg_gram.specs.Linkages.{Linkage}
use Rattle.lg_gram.specs.declared.listing.Page.{Page}
use Rattle.lg_gram.specs.declared.listing.PageItem.{PageItem}
use Rattle.lg_knowread.specs.declared.knowledge.Knowledge.{Knowledge}
use Rattle.lg_pp.specs.Breaks.{Judges}
use Rattle.lg_answer.specs.Candidates.{Decides, Course, HasCome, HasComeBut, IsNextOf, IsSameCourse}
use Rattle.lg_answer.specs.Pages.{passed, IsPage}
use Rattle.lg_answer.specs.Steps.{AreLookedAt, IsLookedAt, HasLooked}
use Rattle.lg_answer.proofs.Coming.{are_first, noted}

enumerate_push : {A : Type 0} (n : ℕ) (xs : List A) (x : A) → enumerate_from n (xs ++ x ∷ []) ≡ enumerate_from n xs ++ (n + length xs, x) ∷ []
enumerate_push n [] x = let e : n ≡ n + 0 = omega arith in λ i. (e i, x) ∷ []
enumerate_push n (y ∷ xs) x =
    let e : n + 1 + length xs ≡ n + suc (length xs) = omega arith in
    ap (λ l. (n, y) ∷ l) (enumerate_push (n + 1) xs x) ∙ (λ i. (n, y) ∷ (enumerate_from (n + 1) xs ++ (e i, x) ∷ []))

-- how many pass with one more candidate
pub passed_push : (items : List PageItem) (item : PageItem) → passed (items ++ item ∷ []) ≡ passed items + passed (item ∷ [])
passed_push items item = sum_by-append (λ (i : PageItem). cond (is_none i.broken) 1 0) items (item ∷ [])

pub passes_once : (item : PageItem) → passed (item ∷ []) ≤ 1
passes_once item = count_by-le-length (λ (i : PageItem). is_none i.broken) (item ∷ [])

-- the numbers of the candidates that a page looked at, and of one more
numbers_more : (front : List Linkage) (from n : ℕ) (g : Linkage) → from + n ≡ length front
    → enumerate_from (from + 1) (drop from (front ++ g ∷ [])) ≡ enumerate_from (from + 1) (drop from front) ++ (from + n + 1, g) ∷ []
numbers_more front from n g long =
    let rest = drop from front in
    let count : from + 1 + length rest ≡ from + n + 1 = omega (arith, length-drop from front) in
    ap (enumerate_from (from + 1)) (drop-append-le from front (g ∷ []) (omega arith)) ∙ enumerate_push (from + 1) rest g ∙ ap (λ k. enumerate_from (from + 1) rest ++ (k, g) ∷ []) count

module _ (know : Knowledge) (front : List Linkage) (from want examine : ℕ) where
  pub looked_more : (items : List PageItem) (item : PageItem) (g : Linkage) → AreLookedAt know front from want examine items → IsLookedAt know (from + length items + 1) g item
      → passed items < want → length items < examine → AreLookedAt know (front ++ g ∷ []) from want examine (items ++ item ∷ [])
  looked_more items item g old new more_wanted more_examined =
      let within = old.within in
      let shown : map (λ (i : PageItem). (i.number, i.linkage)) (items ++ item ∷ []) ≡ enumerate_from (from + 1) (drop from front) ++ (from + length items + 1, g) ∷ [] =
      map-append (λ (i : PageItem). (i.number, i.linkage)) items (item ∷ []) ∙ (λ j. old.numbered j ++ (new.number_is j, new.linkage j) ∷ []) in
      record {
        within = omega (arith, length_push items item, length_push front g);
        numbered = shown ∙ sym (numbers_more front from (length items) g within);
        judged = All-push (λ (i : PageItem). Judges know i.linkage i.broken) items item old.judged (subst (λ l. Judges know l item.broken) (sym new.linkage) new.judged);
        goes_on = λ k below.
            let inside : k ≤ length items = omega (arith, length_push items item) in
            let shorter : take k (items ++ item ∷ []) ≡ take k items = take-append-le k items (item ∷ []) inside in
            elim (cases_lt k (length items)) [
              | inl earlier ↦ rw shorter (old.goes_on k earlier)
              | inr last ↦ rw (shorter, take_all k items last) (more_wanted, let e : k < examine = omega arith in e)
            ];
      }

-- one candidate more was looked at, and it was noted whether it decides
pub one_looked_at : (know : Knowledge) (c new : Course) (front : List Linkage) (from want examine : ℕ) (items : List PageItem) (item : PageItem) (g : Linkage) (decides : Bool)
    → HasComeBut know c front g → AreLookedAt know front from want examine items → IsLookedAt know (from + length items + 1) g item → passed items < want → length items < examine
    → new ≡ record c { decided = c.decided || decides } → (decides ≡ true) ↔ Decides c.nulls know item.linkage
    → (longer : List Linkage) × HasCome know new longer × AreLookedAt know longer from want examine (items ++ item ∷ [])
one_looked_at know c new front from want examine items item g decides but old here wanted unseen is tells = (
  front ++ g ∷ [],
  noted know c new front g decides is (subst (λ l. (decides ≡ true) ↔ Decides c.nulls know l) here.linkage tells) but,
  looked_more know front from want examine items item g old here wanted unseen,
)

-- none is left
pub looked_at_all : (know : Knowledge) (c : Course) (front : List Linkage) (from want examine : ℕ) (items : List PageItem) → IsNextOf know c front None
    → AreLookedAt know front from want examine items → passed items < want → length items < examine → HasLooked know c from want examine items true
looked_at_all know c front from want examine items last old wanted unseen = record { front = front; come = last.0; looked = old; stops = (wanted, unseen, last.1) }

-- a page is at its end where it stopped for no other reason
page_is : (know : Knowledge) (course : Course) (from want examine : ℕ) (items : List PageItem) (end : Bool) → HasLooked know course from want examine items end
    → IsPage course.problem know course.nulls from want examine (record { items = items; next = from + length items + 1; end = end })
page_is know course from want examine items true is = record {
  front = is.front;
  first = are_first know course is.front is.come;
  looked = length items;
  within = is.looked.within;
  numbered = is.looked.numbered;
  judged = is.looked.judged;
  goes_on = is.looked.goes_on;
  stops = inr (inr is.stops.2);
  ends = (λ t. is.stops, λ h. refl);
  next = refl;
}
page_is know course from want examine items false is = record {
  front = is.front;
  first = are_first know course is.front is.come;
  looked = length items;
  within = is.looked.within;
  numbered = is.looked.numbered;
  judged = is.looked.judged;
  goes_on = is.looked.goes_on;
  stops = elim is.stops [ inl e ↦ inl e | inr e ↦ inr (inl e) ];
  ends = (
    λ t. let no : ⊥ = cc in absurd no,
    λ h. let w = h.0 in let e = h.1 in elim is.stops [ inl s ↦ absurd (omega arith) | inr s ↦ absurd (omega arith) ],
  );
  next = refl;
}

pub page_of_same : (know : Knowledge) (old course : Course) (from want examine : ℕ) (items : List PageItem) (end : Bool) → IsSameCourse old course → HasLooked know course from want examine items end
    → IsPage old.problem know old.nulls from want examine (record { items = items; next = from + length items + 1; end = end })
page_of_same know old course from want examine items end same is =
    let page : Page = record { items = items; next = from + length items + 1; end = end } in
    subst (λ p. IsPage p know old.nulls from want examine page) same.problem
    (subst (λ m. IsPage course.problem know m from want examine page) same.nulls (page_is know course from want examine items end is))
