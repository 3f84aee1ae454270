-- The choices of the words of a sentence.
use Rattle.std.proofs.Common.{◌≡◌, ◌+◌, ◌<◌, ◌≤◌, ℕ, min, List, [], ◌∷◌, ◌++◌, false, true, length, take, get_or, Some, None, refl, sym, ap, subst, ◌∙◌, arith}
use Rattle.std.specs.Prelude.{nat_lt, if◌then◌else◌}
use Rattle.std.specs.List.{sum_by}
use Rattle.std.proofs.lemmas.List.{take_more}
use Rattle.std.proofs.lemmas.List.Sums.{sum_by_push}
use Rattle.std.proofs.lemmas.Bool.Decides.{nat_tests}
use Rattle.lg_gram.specs.Limits.{POSITIONS}
use Rattle.lg_gram.specs.declared.listing.Token.{Token}
use Rattle.lg_gram.specs.declared.listing.Bound.TheVariants.{TooManyWords, TooWide}
use Rattle.lg_dict.specs.Dictionary.{Dictionary}
use Rattle.lg_token.specs.declared.place.Place.{Place}
use Rattle.lg_token.specs.Tokens.{AreTokens, HasTokens}
use Rattle.lg_token.specs.Places.{AreWordsAt, IsAt, AreAt, Lead, HaveChoices}
use Rattle.lg_token.specs.Bounds.{LISTED_CHOICES, CHOICES_COUNTED, word_choices, token_choices, all_choices, bound_of, AreListed, IsBeyond}
use Rattle.lg_token.proofs.Adding.{AreAt-push}

-- one place after another

min_sum : (a b c : ℕ) → min (min a c + min b c) c ≡ min (a + b) c
min_sum a b c = omega arith

module _ (dict : Dictionary) (ps : List Place) (i : ℕ) (d : Place) (within : i < length ps) where
  pub token_next : (ts : List Token) (t : Token) → AreAt dict (take i ps) ts → IsAt dict (get_or ps i d) t → AreAt dict (take (i + 1) ps) (ts ++ t ∷ [])
  token_next ts t at is = subst (λ l. AreAt dict l (ts ++ t ∷ [])) (sym (take_more ps i d within)) (AreAt-push dict (take i ps) (get_or ps i d) ts t at is)

  pub choices_next : (words : List (List ℕ)) (sum here new : ℕ) → HaveChoices dict (take i ps) sum → AreWordsAt dict (get_or ps i d).kind (get_or ps i d).text.now words
      → here ≡ min (sum_by (word_choices dict) words) CHOICES_COUNTED → new ≡ min (sum + here) CHOICES_COUNTED → HaveChoices dict (take (i + 1) ps) new
  choices_next words sum here new so_far are is new_is =
      let p = get_or ps i d in
      let t : Token = record { from = p.from; to = p.to; text = p.text.now; words = words } in
      let both : all_choices dict (so_far.tokens ++ t ∷ []) ≡ all_choices dict so_far.tokens + token_choices dict t = sum_by_push (token_choices dict) so_far.tokens t in
      record {
        tokens = so_far.tokens ++ t ∷ [];
        stand = token_next so_far.tokens t so_far.stand (record { begins = refl; ends = refl; text = refl; words = are });
        counted =
            new_is
            ∙ (λ k. min (so_far.counted k + is k) CHOICES_COUNTED)
            ∙ min_sum (all_choices dict so_far.tokens) (token_choices dict t) CHOICES_COUNTED
            ∙ ap (λ n. min n CHOICES_COUNTED) (sym both);
      }

-- the bound of the sentence whose tokens stand at these places

module _ (dict : Dictionary) (text : List ℕ) (one : (ts us : List Token) → AreTokens dict text ts → AreTokens dict text us → ts ≡ us) where
  module _ (count : ℕ) (has : HasTokens dict text count) (few : count ≤ POSITIONS) (ps : List Place) (lead : Lead dict (AreTokens dict text) ps) (choices : ℕ) (have : HaveChoices dict ps choices) where
    not_many : (ts : List Token) → AreTokens dict text ts → nat_lt POSITIONS (length ts) ≡ false
    not_many ts are =
        let same : count ≡ length ts = has.counted ∙ ap length (one has.tokens ts has.of_text are) in
        grind (arith, nat_tests)

    counted_at : (ts : List Token) → AreAt dict ps ts → choices ≡ min (all_choices dict ts) CHOICES_COUNTED
    counted_at ts at = have.counted ∙ ap (λ l. min (all_choices dict l) CHOICES_COUNTED) (one have.tokens ts (lead have.tokens have.stand) (lead ts at))

    by_choices : (ts : List Token) → AreTokens dict text ts
        → bound_of dict ts ≡ if nat_lt LISTED_CHOICES (all_choices dict ts) then Some (TooWide (min (all_choices dict ts) CHOICES_COUNTED)) else None
    by_choices ts are =
        ap
        (λ b. if b then Some (TooManyWords (length ts)) else (if nat_lt LISTED_CHOICES (all_choices dict ts) then Some (TooWide (min (all_choices dict ts) CHOICES_COUNTED)) else None))
        (not_many ts are)

    pub is_listed : choices ≤ LISTED_CHOICES → (ts : List Token) → AreAt dict ps ts → AreListed dict text ts
    is_listed low ts at =
        let counted = counted_at ts at in
        let test : nat_lt LISTED_CHOICES (all_choices dict ts) ≡ false = grind (arith, nat_tests) in
        record {
          of_text = lead ts at;
          unbound = by_choices ts (lead ts at) ∙ ap (λ b. if b then Some (TooWide (min (all_choices dict ts) CHOICES_COUNTED)) else None) test;
        }

    pub is_beyond : LISTED_CHOICES < choices → IsBeyond dict text (TooWide choices)
    is_beyond high =
        let ts = have.tokens in
        let are = lead ts have.stand in
        let counted = have.counted in
        let test : nat_lt LISTED_CHOICES (all_choices dict ts) ≡ true = grind (arith, nat_tests) in
        record {
          tokens = ts;
          of_text = are;
          is_bound =
              by_choices ts are
              ∙ ap (λ b. if b then Some (TooWide (min (all_choices dict ts) CHOICES_COUNTED)) else None) test
              ∙ ap (λ n. Some (TooWide n)) (sym counted);
        }
