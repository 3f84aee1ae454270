-- What a `list` asks for: the cuts of its rest are those of the definition.
use Rattle.std.proofs.Common.{◌≡◌, ◌≢◌, ℕ, ◌≤◌, true, false, List, [], ◌∷◌, ◌++◌, refl, sym, ap, subst, ◌∙◌, append_assoc, arith}
use Rattle.std.specs.List.{AllByRecursion}
use Rattle.std.proofs.lemmas.Bool.Decides.{nat_tests}
use Rattle.lg_lex.specs.declared.run.Separators.TheVariants.{Blanks}
use Rattle.lg_lex.specs.Runs.{is_separator, AreSeparators, AreInner, EndsRun}
use Rattle.lg_script.specs.Commands.{IsDigit, IsNumber, IsListing}
use Rattle.lg_script.specs.Parts.{BeginsInner, EndsInner, SkipsFront}
use Rattle.lg_script.proofs.Cuts.{same_run, same_gap}

digit_inner : (b : ℕ) → 48 ≤ b → b ≤ 57 → is_separator Blanks b ≡ false
digit_inner b low high = grind (arith, nat_tests)

pub digits_inner : (bs : List ℕ) → AllByRecursion IsDigit bs → AreInner Blanks bs
digits_inner [] h = tt
digits_inner (b ∷ bs) h = (digit_inner b h.0.0 h.0.1, digits_inner bs h.1)

pub gap_ends : (gap more : List ℕ) → gap ≢ [] → AreSeparators Blanks gap → EndsRun Blanks (gap ++ more)
gap_ends [] more some are = absurd (some refl)
gap_ends (b ∷ gap) more some are = are.0

pub inner_begins : (w more : List ℕ) → w ≢ [] → AreInner Blanks w → BeginsInner (w ++ more)
inner_begins [] more some are = absurd (some refl)
inner_begins (c ∷ w) more some are = λ b rest e. let same : c ≡ b = cc in subst (λ (x : ℕ). is_separator Blanks x ≡ false) same are.0

-- a text is cut so
pub record Cut (rest first behind left second end sentence : List ℕ) : Type 0 where
  pub split : rest ≡ first ++ behind
  pub first_inner : AreInner Blanks first
  pub first_ends : EndsRun Blanks behind
  pub gap : SkipsFront behind left
  pub left_begins : BeginsInner left
  pub left_split : left ≡ second ++ end
  pub second_inner : AreInner Blanks second
  pub second_ends : EndsRun Blanks end
  pub more : SkipsFront end sentence
  pub sentence_begins : BeginsInner sentence

module _ (rest first behind left second end sentence : List ℕ) (cut : Cut rest first behind left second end sentence) where
  pub listing_cut : (from want : ℕ) (s : List ℕ) → IsListing rest from want s → IsNumber first from × IsNumber second want × (s ≡ sentence)
  listing_cut from want s is =
      let one = same_run is.first first (is.gap ++ (is.second ++ (is.more ++ s))) behind
      (digits_inner is.first is.first_is.all_digits) cut.first_inner
      (gap_ends is.gap (is.second ++ (is.more ++ s)) is.apart.0 is.apart.1) cut.first_ends (sym is.split ∙ cut.split) in
      let two = same_gap is.gap cut.gap.0 (is.second ++ (is.more ++ s)) left is.apart.1 cut.gap.2
      (inner_begins is.second (is.more ++ s) is.second_is.some (digits_inner is.second is.second_is.all_digits)) cut.left_begins (one.1 ∙ cut.gap.1) in
      let three = same_run is.second second (is.more ++ s) end
      (digits_inner is.second is.second_is.all_digits) cut.second_inner is.ends cut.second_ends (two.1 ∙ cut.left_split) in
      let four = same_gap is.more cut.more.0 s sentence is.apart.2 cut.more.2 is.trimmed.front cut.sentence_begins (three.1 ∙ cut.more.1) in
      (subst (λ (x : List ℕ). IsNumber x from) one.0 is.first_is, subst (λ (x : List ℕ). IsNumber x want) three.0 is.second_is, four.1)

  whole : rest ≡ first ++ (cut.gap.0 ++ (second ++ (cut.more.0 ++ sentence)))
  whole = cut.split ∙ ap (λ (x : List ℕ). first ++ x) (cut.gap.1 ∙ ap (λ (x : List ℕ). cut.gap.0 ++ x) (cut.left_split ∙ ap (λ (x : List ℕ). second ++ x) cut.more.1))

  no_end : (left : List ℕ) → EndsRun Blanks left → BeginsInner left → left ≡ []
  no_end [] ends begins = refl
  no_end (b ∷ l) ends begins = let e : true ≡ false = sym ends ∙ begins b l refl in absurd cc

  nothing_second : (w x : List ℕ) → w ++ x ≡ [] → w ≡ []
  nothing_second [] x e = refl
  nothing_second (b ∷ w) x e = absurd cc

  gap_some : second ≢ [] → cut.gap.0 ≢ []
  gap_some some none =
      let same : behind ≡ left = cut.gap.1 ∙ ap (λ (g : List ℕ). g ++ left) none in
      some (nothing_second second end (sym cut.left_split ∙ no_end left (subst (EndsRun Blanks) same cut.first_ends) cut.left_begins))

  pub listing_is : (from want : ℕ) → EndsInner rest → IsNumber first from → IsNumber second want → IsListing rest from want sentence
  listing_is from want ends h k = record {
    first = first;
    gap = cut.gap.0;
    second = second;
    more = cut.more.0;
    split = whole;
    first_is = h;
    second_is = k;
    apart = (gap_some k.some, cut.gap.2, cut.more.2);
    ends = subst (EndsRun Blanks) cut.more.1 cut.second_ends;
    trimmed = record {
      front = cut.sentence_begins;
      back = λ b r e. ends b (first ++ (cut.gap.0 ++ (second ++ (cut.more.0 ++ r))))
          (whole ∙ ap (λ (x : List ℕ). first ++ (cut.gap.0 ++ (second ++ (cut.more.0 ++ x)))) e ∙ sym (pushed b r));
    };
  } where
    pushed : (b : ℕ) (r : List ℕ) → (first ++ (cut.gap.0 ++ (second ++ (cut.more.0 ++ r)))) ++ b ∷ [] ≡ first ++ (cut.gap.0 ++ (second ++ (cut.more.0 ++ (r ++ b ∷ []))))
    pushed b r = simp append_assoc refl
