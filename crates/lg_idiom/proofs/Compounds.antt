-- The compounds that fit at a position are those that begin with its token and whose other parts follow.
use Rattle.std.proofs.Common.{◌≡◌, ◌⊎◌, inl, inr, ℕ, zero, suc, ◌+◌, List, [], ◌∷◌, Bool, true, false, if◌then◌else◌, take, drop, slice_get, filter, length, ◌-◌, IfOk, Result, Ok, Err, Some, None, IsSome, refl, sym, ap, subst, ◌∙◌, arith, true≢false}
use Rattle.std.specs.FinMap.{get}
use Rattle.std.specs.List.{list_all}
use Rattle.std.specs.Ordering.{nat_cmp}
use Rattle.std.specs.Cmp.Lexicographic.{slice_cmp}
use Rattle.std.proofs.lemmas.Bool.{and_parts}
use Rattle.std.proofs.lemmas.Option.{same_Some, none-some}
use Rattle.std.proofs.lemmas.List.Kept.{IsStrictlySortedBy-filter}
use Rattle.std.specs.List.Sorted.{IsStrictlySortedBy}
use Rattle.lg_base.proofs.Elements.{filter_in, filter_out, contains_none}
use Rattle.lg_gram.specs.declared.listing.Token.{Token}
use Rattle.lg_dict.specs.Compounds.{parts_of, is_compound, are_several, first_in, compound_first}
use Rattle.lg_dict.specs.Dictionary.{Dictionary, IsCompoundOf}
use Rattle.lg_token.specs.Words.{is_capitalized, lowered, AreWords}
use Rattle.lg_idiom.specs.Idioms.{IsWall, StandsForPart, FitsAt, AreFitting}
use Rattle.lg_idiom.specs.Steps.{is_wall, do_follow, does_go_on, IsBegun}
use Rattle.lg_idiom.proofs.Following.{Follow, follow_gives, follow_by, later-means, later-is, initial_gives, initial_by, slice_get-drop}

-- the parts of a compound

first_by : (b : Bool) (parts : List (List ℕ)) (x : List ℕ) → (if b then first_in parts else None) ≡ Some x → (b ≡ true) × (more : List (List ℕ)) × (parts ≡ x ∷ more)
first_by true [] x h = absurd (none-some x h)
first_by true (p ∷ parts) x h = (refl, parts, ap (λ y. y ∷ parts) (same_Some p x h))
first_by false parts x h = absurd (none-some x h)

pub first_is : (word x : List ℕ) → compound_first word ≡ Some x → (is_compound word ≡ true) × (more : List (List ℕ)) × (parts_of word ≡ x ∷ more)
first_is word x h = first_by (is_compound word) (parts_of word) x h

several : (parts : List (List ℕ)) → are_several parts ≡ true → (x : List ℕ) × (more : List (List ℕ)) × (parts ≡ x ∷ more)
several [] h = absurd (true≢false (sym h))
several (x ∷ []) h = absurd (true≢false (sym h))
several (x ∷ y ∷ more) h = (x, y ∷ more, refl)

pub some_first : (word : List ℕ) → is_compound word ≡ true → (x : List ℕ) × (more : List (List ℕ)) × (parts_of word ≡ x ∷ more)
some_first word h = several (parts_of word) (and_parts _ _ h).0

first_of : (word x : List ℕ) (more : List (List ℕ)) → is_compound word ≡ true → parts_of word ≡ x ∷ more → compound_first word ≡ Some x
first_of word x more sure is = ap (λ b. if b then first_in (parts_of word) else None) sure ∙ ap first_in is

module _ (dict : Dictionary) (tokens : List Token) (s : ℕ) (token : Token) (at : slice_get tokens s ≡ Some token) (no_wall : IsWall token → ⊥) where
  abbrev pub initial : Bool
  initial = list_all is_wall (take s tokens)

  abbrev pub after : List Token
  after = drop (s + 1) tokens

  -- the first part
  stands_first : (x : List ℕ) → (token.text ≡ x) ⊎ ((initial ≡ true) × (is_capitalized token.text ≡ true) × (lowered token.text ≡ x)) → StandsForPart tokens s x
  stands_first x how = record {
    token = token;
    there = at;
    no_wall = no_wall;
    same = elim how [
      | inl e ↦ inl e
      | inr e ↦ inr (record { walls_before = initial_gives tokens s e.0 }, e.1, e.2)
    ];
  }

  first_stands : (x : List ℕ) → StandsForPart tokens s x → (token.text ≡ x) ⊎ ((initial ≡ true) × (is_capitalized token.text ≡ true) × (lowered token.text ≡ x))
  first_stands x p =
      let one : p.token ≡ token = same_Some p.token token (sym p.there ∙ at) in
      elim p.same [
        | inl e ↦ inl (ap (λ (t : Token). t.text) (sym one) ∙ e)
        | inr e ↦ inr (initial_by tokens s (e.0.walls_before), ap (λ (t : Token). is_capitalized t.text) (sym one) ∙ e.1, ap (λ (t : Token). lowered t.text) (sym one) ∙ e.2)
      ]

  -- the later parts
  later_stands : (k : ℕ) (part : List ℕ) → StandsForPart tokens (s + suc k) part → (t : Token) × (slice_get tokens (s + suc k) ≡ Some t) × (IsWall t → ⊥) × (t.text ≡ part)
  later_stands k part p =
      elim p.same [
        | inl e ↦ (p.token, p.there, p.no_wall, e)
        | inr e ↦ absurd (no_wall (e.0.walls_before s token (omega arith) at))
      ]

  module _ (word x : List ℕ) (more : List (List ℕ)) (is : parts_of word ≡ x ∷ more) where
    stand : StandsForPart tokens s x → Follow more after → (i : ℕ) (part : List ℕ) → slice_get (x ∷ more) i ≡ Some part → StandsForPart tokens (s + i) part
    stand first rest zero part here =
        subst (λ n. StandsForPart tokens n part) (let e : s ≡ s + 0 = omega arith in e) (subst (StandsForPart tokens s) (same_Some x part here) first)
    stand first rest (suc i) part here =
        let found = rest i part here in
        let means = later-means part found.0 found.2 in
        record {
          token = found.0;
          there = ap (slice_get tokens) (let e : s + suc i ≡ s + 1 + i = omega arith in e) ∙ sym (slice_get-drop tokens (s + 1) i) ∙ found.1;
          no_wall = means.0;
          same = inl means.1;
        }

    follow : ((i : ℕ) (part : List ℕ) → slice_get (x ∷ more) i ≡ Some part → StandsForPart tokens (s + i) part) → Follow more after
    follow all k part here =
        let (t, there, not_wall, same) = later_stands k part (all (suc k) part here) in
        (t, slice_get-drop tokens (s + 1) k ∙ ap (slice_get tokens) (let e : s + 1 + k ≡ s + suc k = omega arith in e) ∙ there, later-is part t not_wall same)

    goes_on : Follow more after → does_go_on after word ≡ true
    goes_on f = subst (λ ps. do_follow (drop 1 ps) after ≡ true) (sym is) (follow_by more after f)

    on_goes : does_go_on after word ≡ true → Follow more after
    on_goes h = follow_gives more after (subst (λ ps. do_follow (drop 1 ps) after ≡ true) is h)

  -- which compounds fit
  fits : (word : List ℕ) → IsBegun dict initial token.text word → does_go_on after word ≡ true → FitsAt dict tokens s word
  fits word begun on =
      let (x, known, begins, first) : (x : List ℕ) × IsSome (get dict.words word) × (compound_first word ≡ Some x) × StandsForPart tokens s x =
      elim begun [
        | inl b ↦ (token.text, b.kept, b.begins, stands_first token.text (inl refl))
        | inr b ↦ (lowered token.text, b.2.kept, b.2.begins, stands_first (lowered token.text) (inr (b.0, b.1, refl)))
      ] in
      let (sure, more, is) = first_is word x begins in
      record {
        known = known;
        compound = sure;
        parts = λ i part here. stand word x more is first (on_goes word x more is on) i part (subst (λ ps. slice_get ps i ≡ Some part) is here);
      }

  fit_is : (word : List ℕ) → FitsAt dict tokens s word → IsBegun dict initial token.text word × (does_go_on after word ≡ true)
  fit_is word fit =
      let (x, more, is) = some_first word fit.compound in
      let parts : (i : ℕ) (part : List ℕ) → slice_get (x ∷ more) i ≡ Some part → StandsForPart tokens (s + i) part =
      λ i part here. fit.parts i part (subst (λ ps. slice_get ps i ≡ Some part) (sym is) here) in
      let first : StandsForPart tokens s x = subst (λ n. StandsForPart tokens n x) (let e : s + 0 ≡ s = omega arith in e) (parts zero x refl) in
      let of : (y : List ℕ) → y ≡ x → IsCompoundOf dict y word = λ y e. record { kept = fit.known; begins = first_of word x more fit.compound is ∙ ap Some (sym e) } in (
        elim (first_stands x first) [
          | inl e ↦ inl (of token.text e)
          | inr e ↦ inr (e.0, e.1, of (lowered token.text) e.2)
        ],
        goes_on word x more is (follow word x more is parts),
      )

  pub are_fitting : (words : List (List ℕ)) → AreWords (IsBegun dict initial token.text) words → AreFitting dict tokens s (filter (does_go_on after) words)
  are_fitting words are = record {
    rise = IsStrictlySortedBy-filter (slice_cmp nat_cmp) (does_go_on after) words are.rise;
    exactly = λ word. (
      λ h. let found = filter_out (does_go_on after) words word h in fits word ((are.exactly word).0 found.0) found.1,
      λ h. let found = fit_is word h in filter_in (does_go_on after) words word ((are.exactly word).1 found.0) found.1,
    );
  }

  pub fitting_result : {E : Type 0} (r : Result (List (List ℕ)) E) (words : List (List ℕ)) (rest : List Token) (first : Bool) (text : List ℕ) → IfOk r (λ texts. texts ≡ filter (does_go_on rest) words)
      → rest ≡ drop (s + 1) tokens → first ≡ list_all is_wall (take s tokens) → text ≡ token.text → AreWords (IsBegun dict first text) words → IfOk r (AreFitting dict tokens s)
  fitting_result (Err e) words rest first text is rest_is first_is text_is are = tt
  fitting_result (Ok texts) words rest first text is rest_is first_is text_is are =
      let begun = subst (λ b. AreWords (IsBegun dict b token.text) words) first_is (subst (λ t. AreWords (IsBegun dict first t) words) text_is are) in
      subst (AreFitting dict tokens s) (sym (is ∙ ap (λ ts. filter (does_go_on ts) words) rest_is)) (are_fitting words begun)

-- at a wall no compound fits
none_rise : IsStrictlySortedBy (slice_cmp nat_cmp) []
unfolding IsStrictlySortedBy
none_rise = tt

pub none_fit : (dict : Dictionary) (tokens : List Token) (s : ℕ) (token : Token) → slice_get tokens s ≡ Some token → IsWall token → AreFitting dict tokens s []
none_fit dict tokens s token at wall = record {
  rise = none_rise;
  exactly = λ word. (
    λ h. absurd (contains_none word h),
    λ fit.
        let (x, more, is) = some_first word fit.compound in
        let first : StandsForPart tokens (s + 0) x = fit.parts zero x (ap (λ ps. slice_get ps zero) is) in
        let same : first.token ≡ token = same_Some first.token token (sym first.there ∙ ap (slice_get tokens) (let e : s + 0 ≡ s = omega arith in e) ∙ at) in
        absurd (first.no_wall (subst IsWall (sym same) wall)),
  );
}

-- what is left from a place on
take_all : {X : Type 0} (xs : List X) (n : ℕ) → n ≡ length xs → take n xs ≡ xs
take_all [] zero is = refl
take_all [] (suc n) is = refl
take_all (x ∷ xs) zero is = absurd (omega (arith, is))
take_all (x ∷ xs) (suc n) is = ap (λ l. x ∷ l) (take_all xs n (omega (arith, is)))

length_left : {X : Type 0} (xs : List X) (n : ℕ) → length xs - n ≡ length (drop n xs)
length_left xs zero = omega arith
length_left [] (suc n) = omega arith
length_left (x ∷ xs) (suc n) = let e = length_left xs n in omega (arith, e)

pub left_from : {X : Type 0} (xs : List X) (n : ℕ) → take (length xs - n) (drop n xs) ≡ drop n xs
left_from xs n = take_all (drop n xs) (length xs - n) (length_left xs n)
