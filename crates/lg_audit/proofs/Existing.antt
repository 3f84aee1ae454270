-- There is a problem of any tokens whose words' formulas have connectors with names.
use Rattle.std.proofs.Common.{◌≡◌, ◌↔◌, ℕ, zero, suc, List, [], ◌∷◌, ◌++◌, get_or, slice_get, Contains, inl, inr, Option, Some, None, refl, sym, ap, ◌∙◌, subst, arith, Equal}
use Rattle.std.specs.FinMap.{get}
use Rattle.std.specs.Ordering.{nat_cmp}
use Rattle.std.proofs.lemmas.List.Elements.{Contains-append_left, Contains-append_right, Contains-append_cases}
use Rattle.std.proofs.lemmas.Map.Lookups.{exact_unsigned}
use Rattle.std.proofs.lemmas.Option.{same_Some, slice_get_within}
use Rattle.lg_base.proofs.Elements.{contains_here, contains_later, contains_cases, contains_none}
use Rattle.lg_gram.specs.Disjuncts.{disjunct_cmp, IsDisjunctOf}
use Rattle.lg_gram.specs.Trees.{Tree}
use Rattle.lg_gram.specs.declared.disjunct.Disjunct.{Disjunct}
use Rattle.lg_gram.specs.declared.listing.Token.{Token}
use Rattle.lg_gram.proofs.Exact.{first_equal, exact_lists}
use Rattle.lg_gram.proofs.Orders.{disjuncts_total}
use Rattle.lg_dict.specs.Dictionary.{Dictionary}
use Rattle.lg_disj.specs.Exist.{HasNames, ExpressionsHaveDisjuncts}
use Rattle.lg_token.specs.Problems.{IsOfWords, IsPositionOf, IsProblemOf}
use Rattle.lg_audit.specs.Pages.{HasNamedWords, HaveNamedWords}
use Rattle.lg_audit.proofs.Rising.{one_in_rising, rising_of}

-- a disjunct of this one word
record IsOfWord (dict : Dictionary) (word : List ℕ) (d : Disjunct) : Type 0 where
  tree : Tree
  got : get dict.words word ≡ Some tree
  is : IsDisjunctOf word tree d

-- the same of some words
record IsOfSome (dict : Dictionary) (words : List (List ℕ)) (d : Disjunct) : Type 0 where
  word : List ℕ
  among : Contains words word
  of_word : IsOfWord dict word d

-- a list of all of them
record Lists (P : Disjunct → Type 0) : Type 0 where
  items : List Disjunct
  exactly : (d : Disjunct) → Contains items d ↔ P d

module _ (exist : ExpressionsHaveDisjuncts) (dict : Dictionary) where
  -- ---- told apart

  same_word : (d e : Disjunct) → disjunct_cmp d e ≡ Equal → d.word ≡ e.word
  same_word d e alike = exact_lists nat_cmp exact_unsigned d.word e.word (first_equal _ _ alike)

  one_formula : (word : List ℕ) (t : Tree) → HasNames t → (d e : Disjunct) → IsDisjunctOf word t d → IsDisjunctOf word t e → disjunct_cmp d e ≡ Equal → d ≡ e
  one_formula word t named d e of_d of_e alike =
      let (ds, are) = exist word t named in
      one_in_rising disjunct_cmp disjuncts_total ds are.rise d e ((are.exactly d).1 of_d) ((are.exactly e).1 of_e) alike

  told_apart : (words : List (List ℕ)) → HasNamedWords dict words → (d e : Disjunct) → IsOfSome dict words d → IsOfSome dict words e → disjunct_cmp d e ≡ Equal → d ≡ e
  told_apart words named d e of_d of_e alike =
      let word : of_d.word ≡ of_e.word = sym of_d.of_word.is.named ∙ same_word d e alike ∙ of_e.of_word.is.named in
      let tree : of_d.of_word.tree ≡ of_e.of_word.tree = same_Some of_d.of_word.tree of_e.of_word.tree (sym of_d.of_word.got ∙ ap (get dict.words) word ∙ of_e.of_word.got) in
      one_formula of_d.word of_d.of_word.tree (named of_d.word of_d.of_word.tree of_d.among of_d.of_word.got) d e of_d.of_word.is
      (subst (λ (w : List ℕ). IsDisjunctOf w of_d.of_word.tree e) (sym word) (subst (λ (t : Tree). IsDisjunctOf of_e.word t e) (sym tree) of_e.of_word.is)) alike

  -- ---- one word after another

  of_one : (word : List ℕ) → ((t : Tree) → get dict.words word ≡ Some t → HasNames t) → (o : Option Tree) → get dict.words word ≡ o → Lists (IsOfWord dict word)
  of_one word named None none = record {
    items = [];
    exactly = λ d. (λ h. absurd (contains_none d h), λ h. (let got = h.got in let no : ⊥ = cc in absurd no));
  }
  of_one word named (Some t) some =
      let (ds, are) = exist word t (named t some) in
      record {
        items = ds;
        exactly = λ d. (
          λ h. record { tree = t; got = some; is = (are.exactly d).0 h },
          λ h. (are.exactly d).1 (subst (λ (u : Tree). IsDisjunctOf word u d) (same_Some h.tree t (sym h.got ∙ some)) h.is),
        );
      }

  of_all : (words : List (List ℕ)) → HasNamedWords dict words → Lists (IsOfSome dict words)
  of_all [] named = record { items = []; exactly = λ d. (λ h. absurd (contains_none d h), λ h. absurd (contains_none h.word h.among)) }
  of_all (w ∷ words) named =
      let one = of_one w (λ t got. named w t (contains_here w words) got) (get dict.words w) refl in
      let rest = of_all words (λ v t m got. named v t (contains_later w words v m) got) in
      record {
        items = one.items ++ rest.items;
        exactly = λ d. (
          λ h. elim (Contains-append_cases one.items rest.items d h) [
            | inl m ↦ record { word = w; among = contains_here w words; of_word = (one.exactly d).0 m }
            | inr m ↦ (let of = (rest.exactly d).0 m in record { word = of.word; among = contains_later w words of.word of.among; of_word = of.of_word })
          ],
          λ h. elim (contains_cases w words h.word h.among) [
            | inl same ↦ Contains-append_left one.items rest.items d ((one.exactly d).1 (subst (λ (v : List ℕ). IsOfWord dict v d) (sym same) h.of_word))
            | inr m ↦ Contains-append_right one.items rest.items d ((rest.exactly d).1 (record { word = h.word; among = m; of_word = h.of_word }))
          ],
        );
      }

  -- ---- a position, and all

  some_words : (words : List (List ℕ)) (d : Disjunct) → IsOfSome dict words d → IsOfWords dict words d
  some_words words d h = (h.word, h.of_word.tree, h.among, h.of_word.got, h.of_word.is)

  words_some : (words : List (List ℕ)) (d : Disjunct) → IsOfWords dict words d → IsOfSome dict words d
  words_some words d h = record { word = h.0; among = h.2; of_word = record { tree = h.1; got = h.3; is = h.4 } }

  position : (words : List (List ℕ)) → HasNamedWords dict words → (ds : List Disjunct) × IsPositionOf dict words ds
  position words named =
      let all = of_all words named in
      let (ds, rise, same) = rising_of disjunct_cmp disjuncts_total all.items (λ d e m n alike. told_apart words named d e ((all.exactly d).0 m) ((all.exactly e).0 n) alike) in (
        ds,
        record {
          rise = rise;
          exactly = λ d. (λ m. some_words words d ((all.exactly d).0 ((same d).0 m)), λ h. (same d).1 ((all.exactly d).1 (words_some words d h)));
        },
      )

  one_more : (t : Token) (ts : List Token) (ds : List Disjunct) (rest : List (List Disjunct)) → IsPositionOf dict t.words ds → IsProblemOf dict ts rest → (i : ℕ) (u : Token)
      → slice_get (t ∷ ts) i ≡ Some u → IsPositionOf dict u.words (get_or (ds ∷ rest) i [])
  one_more t ts ds rest first others zero u e = subst (λ (v : Token). IsPositionOf dict v.words ds) (same_Some t u e) first
  one_more t ts ds rest first others (suc i) u e = others.each i u e

  pub some_problem : (tokens : List Token) → HaveNamedWords dict tokens → (problem : List (List Disjunct)) × IsProblemOf dict tokens problem
  some_problem [] named = ([], record { same_length = refl; each = λ i t e. absurd (omega (arith, slice_get_within [] i t e)) })
  some_problem (t ∷ ts) named =
      let (ds, first) = position t.words named.0 in
      let (rest, others) = some_problem ts named.1 in (
        ds ∷ rest,
        record { same_length = ap suc others.same_length; each = one_more t ts ds rest first others },
      )
