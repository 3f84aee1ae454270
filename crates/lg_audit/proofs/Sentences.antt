-- The linkages of a sentence's problem are those of problems that have just what the linkage uses.
use Rattle.std.proofs.Common.{◌≡◌, ℕ, zero, suc, ◌+◌, List, [], ◌∷◌, length, map, get_or, drop, slice_get, Contains, Option, Some, None, refl, sym, ap, ◌∙◌, subst, arith}
use Rattle.std.specs.Prelude.{IfSome}
use Rattle.std.specs.List.{enumerate_from, zip}
use Rattle.lg_base.proofs.Elements.{contains_here}
use Rattle.lg_gram.specs.Linkages.{Linkage}
use Rattle.lg_gram.specs.Rules.{Good}
use Rattle.lg_gram.specs.declared.disjunct.Disjunct.{Disjunct}
use Rattle.lg_gram.specs.declared.listing.Token.{Token}
use Rattle.lg_dict.specs.Dictionary.{Dictionary}
use Rattle.lg_knowread.specs.declared.knowledge.Knowledge.{Knowledge}
use Rattle.lg_pp.specs.Breaks.{Judges}
use Rattle.lg_token.specs.Problems.{IsOfWords, IsProblemOf}
use Rattle.lg_audit.specs.Lines.{ShownWord, ShownLinkage}
use Rattle.lg_audit.specs.Replies.{shown_word, shown_linkage}
use Rattle.lg_audit.specs.Pages.{AreShown, IsOneOf, alone, problem_of}
use Rattle.lg_audit.proofs.Alone.{as_many}
use Rattle.lg_audit.proofs.ShownLinkages.{row_length}

-- ---- good of what it uses

alone_at : (os : List (Option Disjunct)) (i : ℕ) (d : Disjunct) → get_or os i None ≡ Some d → Contains (get_or (problem_of os) i []) d
alone_at [] i d e = let f : None ≡ Some d = e in let no : ⊥ = cc in absurd no
alone_at (o ∷ os) zero d e = subst (λ (p : Option Disjunct). Contains (alone p) d) (sym e) (contains_here d [])
alone_at (o ∷ os) (suc i) d e = alone_at os i d e

good_alone : (positions : List (List Disjunct)) (g : Linkage) → Good positions g → Good (problem_of g.chosen) g
good_alone positions g good = record {
  belongs = record { same_length = sym (as_many g.chosen); listed = λ i d e. alone_at g.chosen i d e; set = good.belongs.set };
  rules = good.rules;
  connected = good.connected;
}

-- ---- what the tokens use

-- what stands at a place is of the words of its token
record IsUsedAt (dict : Dictionary) (ts : List Token) (i : ℕ) (d : Disjunct) : Type 0 where
  token : Token
  here : slice_get ts i ≡ Some token
  of_words : IsOfWords dict token.words d

module _ (dict : Dictionary) where
  if_used : (words : List (List ℕ)) (o : Option Disjunct) → ((d : Disjunct) → o ≡ Some d → IsOfWords dict words d) → IfSome o (IsOfWords dict words)
  if_used words None h = tt
  if_used words (Some d) h = h d refl

  row_from : (position : ℕ) (ts : List Token) (ws : List ShownWord) (os : List (Option Disjunct)) → length os ≡ length ts
      → ((i : ℕ) (t : Token) (d : Disjunct) → slice_get ts i ≡ Some t → get_or os i None ≡ Some d → IsOfWords dict t.words d)
      → map shown_word (enumerate_from position (zip ts os)) ≡ ws → AreShown dict position ts ws os
  row_from position [] [] [] many used e = tt
  row_from position [] (w ∷ ws) [] many used e = let f : 0 ≡ suc (length ws) = ap length e in absurd (omega (arith, f))
  row_from position [] ws (o ∷ os) many used e = absurd (omega (arith, many))
  row_from position (t ∷ ts) ws [] many used e = absurd (omega (arith, many))
  row_from position (t ∷ ts) [] (o ∷ os) many used e =
      let f : suc (length (map shown_word (enumerate_from (position + 1) (zip ts os)))) ≡ 0 = ap length e in absurd (omega (arith, f))
  row_from position (t ∷ ts) (w ∷ ws) (o ∷ os) many used e =
      let rest = ap (drop 1) e in
      let shorter : length os ≡ length ts = omega (arith, many) in (
        record { of_words = if_used t.words o (λ d f. used 0 t d refl f); is = ap (λ (xs : List ShownWord). get_or xs 0 w) e },
        row_from (position + 1) ts ws os shorter (λ i u d at f. used (suc i) u d at f) rest,
      )

  used_at : (position : ℕ) (ts : List Token) (ws : List ShownWord) (os : List (Option Disjunct)) → AreShown dict position ts ws os → (i : ℕ) (d : Disjunct) → get_or os i None ≡ Some d
      → IsUsedAt dict ts i d
  used_at position [] [] [] h i d e = let f : None ≡ Some d = e in let no : ⊥ = cc in absurd no
  used_at position (t ∷ ts) (w ∷ ws) (o ∷ os) h zero d e = record { token = t; here = refl; of_words = subst (λ (p : Option Disjunct). IfSome p (IsOfWords dict t.words)) e h.0.of_words }
  used_at position (t ∷ ts) (w ∷ ws) (o ∷ os) h (suc i) d e = (let used = used_at (position + 1) ts ws os h.1 i d e in record { token = used.token; here = used.here; of_words = used.of_words })
  used_at position [] [] (o ∷ os) h i d e = absurd h
  used_at position [] (w ∷ ws) [] h i d e = absurd h
  used_at position [] (w ∷ ws) (o ∷ os) h i d e = absurd h
  used_at position (t ∷ ts) [] [] h i d e = absurd h
  used_at position (t ∷ ts) [] (o ∷ os) h i d e = absurd h
  used_at position (t ∷ ts) (w ∷ ws) [] h i d e = absurd h

  -- ---- both ways

  module _ (know : Knowledge) (tokens : List Token) (problem : List (List Disjunct)) (of : IsProblemOf dict tokens problem) (s : ShownLinkage) (g : Linkage) where
    pub one_of_sentence : Good problem g → Judges know g None → shown_linkage tokens g ≡ s → IsOneOf know dict tokens s g
    one_of_sentence good passes is = record {
      chosen = row_from 0 tokens s.words g.chosen (good.belongs.same_length ∙ of.same_length)
          (λ i t d at e. ((of.each i t at).exactly d).0 (good.belongs.listed i d e)) (ap (λ (v : ShownLinkage). v.words) is);
      good = good_alone problem g good;
      passes = passes;
      is = is;
    }

    pub good_in_sentence : IsOneOf know dict tokens s g → Good problem g
    good_in_sentence one = record {
      belongs = record {
        same_length = row_length dict 0 tokens s.words g.chosen one.chosen ∙ sym of.same_length;
        listed = λ i d e. (let used = used_at 0 tokens s.words g.chosen one.chosen i d e in ((of.each i used.token used.here).exactly d).1 used.of_words);
        set = one.good.belongs.set;
      };
      rules = one.good.rules;
      connected = one.good.connected;
    }
