-- What a line shows of a token: a disjunct of one of its words, or nothing.
use Rattle.std.proofs.Common.{◌≡◌, ℕ, ◌+◌, ◌<◌, List, [], ◌∷◌, ◌++◌, length, get_or, drop, Contains, Option, Some, None, refl, sym, ap, ◌∙◌, subst, arith}
use Rattle.std.specs.FinMap.{get}
use Rattle.std.proofs.lemmas.List.{append_assoc, append-nil, drop_more}
use Rattle.lg_gram.specs.Disjuncts.{IsDisjunctOf}
use Rattle.lg_gram.specs.Trees.{Tree}
use Rattle.lg_gram.specs.declared.disjunct.Disjunct.{Disjunct}
use Rattle.lg_gram.specs.declared.listing.Token.{Token}
use Rattle.lg_dict.specs.Dictionary.{Dictionary}
use Rattle.lg_audit.specs.Lines.{ShownChoice, ShownWord}
use Rattle.lg_audit.specs.Printed.{IsPrintedSo, IsPrintedBy}
use Rattle.lg_audit.specs.Pages.{IsShownAs, IsFoundAs, IsShownAt, IsFoundAt, AreShown, AreFound}

module _ (dict : Dictionary) (words : List (List ℕ)) (s : ShownChoice) where
  -- the word that is shown is one of the words
  shown_as : (d : Disjunct) (is : IsShownAs dict words s d) → is.of_words.0 ≡ s.word
  shown_as d is = sym is.of_words.4.named ∙ ap (λ (c : ShownChoice). c.word) is.is

  pub no_word : (Contains words s.word → ⊥) → (d : Disjunct) → IsShownAs dict words s d → ⊥
  no_word never d is = never (subst (Contains words) (shown_as d is) is.of_words.2)

  pub no_formula : get dict.words s.word ≡ None → (d : Disjunct) → IsShownAs dict words s d → ⊥
  no_formula none d is = let got = ap (get dict.words) (sym (shown_as d is)) ∙ is.of_words.3 in let bad : ⊥ = cc in bad

  module _ (t : Tree) (got : get dict.words s.word ≡ Some t) where
    pub not_printed : ((d : Disjunct) → IsDisjunctOf s.word t d → IsPrintedSo s.left s.right s.cost d → ⊥) → (d : Disjunct) → IsShownAs dict words s d → ⊥
    not_printed never d is =
        let same = shown_as d is in
        let tree : is.of_words.1 ≡ t = (let have = ap (get dict.words) (sym same) ∙ is.of_words.3 in cc) in
        never d (subst (λ (u : Tree). IsDisjunctOf s.word u d) tree (subst (λ (w : List ℕ). IsDisjunctOf w is.of_words.1 d) same is.of_words.4)) (record {
          left_side = ap (λ (c : ShownChoice). c.left) is.is;
          right_side = ap (λ (c : ShownChoice). c.right) is.is;
          costs = ap (λ (c : ShownChoice). c.cost) is.is;
        })

    pub printed : Contains words s.word → (d : Disjunct) → IsPrintedBy s.word t s.left s.right s.cost d → IsFoundAs dict words s d
    printed has d is = record {
      shown = record {
        of_words = (s.word, t, has, got, is.one);
        is = λ i. record { word = is.one.named i; left = is.printed.left_side i; right = is.printed.right_side i; cost = is.printed.costs i };
      };
      fits = is.fits;
    }

-- ---- a position

module _ (dict : Dictionary) (position : ℕ) (t : Token) (w : ShownWord) where
  pub other_text : (w.text ≡ t.text → ⊥) → (o : Option Disjunct) → IsShownAt dict position t w o → ⊥
  other_text never o is = never (sym (ap (λ (v : ShownWord). v.text) is.is))

-- ---- all positions

-- what the tokens that are left use gives all, and if nothing shows them nothing shows all
pub record Gives (dict : Dictionary) (tokens : List Token) (words : List ShownWord) (position : ℕ) (left : List Token) (lines : List ShownWord) (done : List (Option Disjunct)) : Type 0 where
  pub all : (os : List (Option Disjunct)) → AreFound dict position left lines os → AreFound dict 0 tokens words (done ++ os)
  pub none : ((os : List (Option Disjunct)) → AreShown dict position left lines os → ⊥) → (os : List (Option Disjunct)) → AreShown dict 0 tokens words os → ⊥

module _ (dict : Dictionary) (tokens : List Token) (words : List ShownWord) where
  pub gives_start : Gives dict tokens words 0 tokens words []
  gives_start = record { all = λ os found. found; none = λ never. never }

  pub gives_more : (position : ℕ) (left rest : List Token) (lines more : List ShownWord) (done new : List (Option Disjunct)) (t : Token) (w : ShownWord) (o : Option Disjunct)
      → left ≡ t ∷ rest → lines ≡ w ∷ more → new ≡ done ++ o ∷ [] → IsFoundAt dict position t w o → Gives dict tokens words position left lines done
      → Gives dict tokens words (position + 1) rest more new
  gives_more position left rest lines more done new t w o is are grown found g = record {
    all = λ os f. subst (λ (xs : List (Option Disjunct)). AreFound dict 0 tokens words (xs ++ os)) (sym grown)
        (subst (AreFound dict 0 tokens words) (sym (append_assoc done (o ∷ []) os)) (g.all (o ∷ os) (front (o ∷ os) (record { shown = (found.shown, f.shown); fit = (found.fits, f.fit) }))));
    none = λ never. g.none (λ os h. tail never os (subst (λ (ls : List ShownWord). AreShown dict position (t ∷ rest) ls os) are (subst (λ (ts : List Token). AreShown dict position ts lines os) is h)));
  }
    where
      front : (os : List (Option Disjunct)) → AreFound dict position (t ∷ rest) (w ∷ more) os → AreFound dict position left lines os
      front os f = subst (λ (ls : List ShownWord). AreFound dict position left ls os) (sym are) (subst (λ (ts : List Token). AreFound dict position ts (w ∷ more) os) (sym is) f)

      tail : ((os : List (Option Disjunct)) → AreShown dict (position + 1) rest more os → ⊥) → (os : List (Option Disjunct)) → AreShown dict position (t ∷ rest) (w ∷ more) os → ⊥
      tail never [] h = h
      tail never (p ∷ os) h = never os h.1

  pub no_use : (position : ℕ) (left rest : List Token) (lines more : List ShownWord) (done : List (Option Disjunct)) (t : Token) (w : ShownWord) → left ≡ t ∷ rest → lines ≡ w ∷ more
      → ((o : Option Disjunct) → IsShownAt dict position t w o → ⊥) → Gives dict tokens words position left lines done → (os : List (Option Disjunct)) → AreShown dict 0 tokens words os → ⊥
  no_use position left rest lines more done t w is are never g =
      g.none (λ os h. cut os (subst (λ (ls : List ShownWord). AreShown dict position (t ∷ rest) ls os) are (subst (λ (ts : List Token). AreShown dict position ts lines os) is h)))
    where
      cut : (os : List (Option Disjunct)) → AreShown dict position (t ∷ rest) (w ∷ more) os → ⊥
      cut [] h = h
      cut (o ∷ os) h = never o h.0

  pub all_found : (position : ℕ) (left : List Token) (lines : List ShownWord) (done : List (Option Disjunct)) → left ≡ [] → lines ≡ [] → Gives dict tokens words position left lines done
      → AreFound dict 0 tokens words done
  all_found position left lines done is are g =
      subst (AreFound dict 0 tokens words) (append-nil done)
      (g.all [] (subst (λ (ls : List ShownWord). AreFound dict position left ls []) (sym are) (subst (λ (ts : List Token). AreFound dict position ts [] []) (sym is) (record { shown = tt; fit = tt }))))

  -- as many lines as tokens
  pub as_many : (position : ℕ) (ts : List Token) (ws : List ShownWord) (os : List (Option Disjunct)) → AreShown dict position ts ws os → length ws ≡ length ts
  as_many position [] [] [] h = refl
  as_many position (t ∷ ts) (w ∷ ws) (o ∷ os) h = let more = as_many (position + 1) ts ws os h.1 in omega arith
  as_many position [] [] (o ∷ os) h = absurd h
  as_many position [] (w ∷ ws) [] h = absurd h
  as_many position [] (w ∷ ws) (o ∷ os) h = absurd h
  as_many position (t ∷ ts) [] [] h = absurd h
  as_many position (t ∷ ts) [] (o ∷ os) h = absurd h
  as_many position (t ∷ ts) (w ∷ ws) [] h = absurd h

-- what stands at a place, and behind it
pub read_at : {X : Type 0} (xs : List X) (i : ℕ) (x : X) → i < length xs → x ≡ get_or xs i x → drop i xs ≡ x ∷ drop (i + 1) xs
read_at {X} xs i x within read = drop_more xs i x within ∙ ap (λ (y : X). y ∷ drop (i + 1) xs) (sym read)
