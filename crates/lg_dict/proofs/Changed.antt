-- What a dictionary has with changes laid over it.
use Rattle.std.proofs.Common.{◌≡◌, ◌⊎◌, inl, inr, ◌↔◌, ℕ, ◌≤◌, List, [], ◌∷◌, Bool, true, false, cond, ◌||◌, if◌then◌else◌, map, length, nat_eq, is_some, Option, Some, None, IsSome, IfSome, Vec, Contains, All, refl, sym, ap, subst, ◌∙◌, true≢false, arith}
use lib.Pointwise.{pointwise}
use mathlib.Core.Logic.{⊎_elim}
use Rattle.std.proofs.lemmas.Bool.{cases_Bool}
use Rattle.std.specs.Cmp.Lexicographic.{slice_cmp, nat_list_cmp_total, texts_ties}
use Rattle.std.specs.FinMap.{get, insert, remove, get-insert, get-remove, same_map, IsAntisymmetric, nat_cmp-IsAntisymmetric, slice_cmp-IsAntisymmetric}
use Rattle.std.specs.List.{list_any}
use Rattle.std.specs.Map.{lookup}
use Rattle.std.specs.Option.{option_map, unwrap_or}
use Rattle.std.specs.Ordering.{nat_cmp}
use Rattle.lg_gram.specs.Fits.{Fits, AllFit}
use Rattle.lg_gram.specs.Trees.{Tree}
use Rattle.lg_gram.specs.declared.expr.Expr.{Expr}
use Rattle.lg_dict.specs.Changed.{set_key, laid_over, word_by, named_by, changed, change_at, IsNamed, KeepsToLevel, IsLaid, IsTree, HasGiven, HasSame}
use Rattle.lg_dict.specs.Dictionary.{Dictionary, TextMap, insert_all, macros_of, IsWordOf}
use Rattle.lg_dict.specs.Lengths.{HasLengths}
use Rattle.lg_dict.specs.Subscripts.{stem_of}
use Rattle.lg_dict.specs.Tables.{AreListed, at_text, texts_at, same_text, is_under}
use Rattle.lg_dict.specs.declared.changes.Change.{Change}
use Rattle.lg_dict.specs.declared.changes.Change.TheVariants.{Same}
use Rattle.lg_dict.specs.declared.changes.Changes.{Changes}
use Rattle.lg_dict.specs.declared.changes.Named.{Named}
use Rattle.lg_dict.specs.declared.tables.By.{By}
use Rattle.lg_dict.specs.declared.tables.By.TheVariants.{Stem, First}
use Rattle.indexmap.specs.IndexMap.{IndexMap}
use Rattle.lg_dict.proofs.Lookups.{under_itself, not_own_stem, stem_under}
use Rattle.lg_dict.proofs.Words.{text_is, Contains-among}

-- ---- one key

texts_apart : IsAntisymmetric (slice_cmp nat_cmp)
texts_apart = slice_cmp-IsAntisymmetric nat_cmp-IsAntisymmetric

-- maps that answer alike are one
pub same_texts : {X : Type 0} (m n : TextMap X) → ((text : List ℕ) → get m text ≡ get n text) → m ≡ n
same_texts m n h = same_map nat_list_cmp_total texts_apart m n h

module _ {X : Type 0} where
  pub get-inserted : (m : TextMap X) (key : List ℕ) (x : X) (text : List ℕ) → get (insert m key x) text ≡ cond (same_text text key) (Some x) (get m text)
  get-inserted m key x text = get-insert nat_list_cmp_total m key x text ∙ ap (λ b. cond b (Some x) (get m text)) (sym (texts_ties text key))

  pub get-removed : (m : TextMap X) (key : List ℕ) (text : List ℕ) → get (remove m key) text ≡ cond (same_text text key) None (get m text)
  get-removed m key text = get-remove nat_list_cmp_total m key text ∙ ap (λ b. cond b None (get m text)) (sym (texts_ties text key))

  get-set_key : (m : TextMap X) (key : List ℕ) (found : Option X) (text : List ℕ) → get (set_key m key found) text ≡ cond (same_text text key) found (get m text)
  get-set_key m key None text = get-removed m key text
  get-set_key m key (Some x) text = get-inserted m key x text

  either : (a b : Bool) (x y : Option X) → cond b x (cond a x y) ≡ cond (a || b) x y
  either true true x y = refl
  either true false x y = refl
  either false b x y = refl

  -- many keys that get one value
  pub get-insert_all : (keys : List (List ℕ)) (x : X) (m : TextMap X) (text : List ℕ) → get (insert_all keys x m) text ≡ cond (list_any (same_text text) keys) (Some x) (get m text)
  get-insert_all [] x m text = refl
  get-insert_all (key ∷ keys) x m text =
      get-insert_all keys x (insert m key x) text
      ∙ ap (cond (list_any (same_text text) keys) (Some x)) (get-inserted m key x text)
      ∙ either (same_text text key) (list_any (same_text text) keys) (Some x) (get m text)

-- ---- all changes

-- what stands at a key that may be changed
abbrev pub over : {X : Type 0} → Option (Option X) → Option X → Option X
over None old = old
over (Some new) old = new

module _ {V X : Type 0} (means : List ℕ → V → Option X) where
  one_key : (key : List ℕ) (v : V) (rest : Option V) (old : Option X) (text : List ℕ)
      → cond (same_text text key) (means key v) (over (option_map (means text) rest) old) ≡ over (option_map (means text) (cond (same_text text key) (Some v) rest)) old
  one_key key v rest old text =
      ⊎_elim
      (λ same. ap (λ b. cond b (means key v) (over (option_map (means text) rest) old)) same
      ∙ ap (λ t. means t v) (sym (text_is text key same))
      ∙ sym (ap (λ b. over (option_map (means text) (cond b (Some v) rest)) old) same))
      (λ other. ap (λ b. cond b (means key v) (over (option_map (means text) rest) old)) other
      ∙ sym (ap (λ b. over (option_map (means text) (cond b (Some v) rest)) old) other))
      (cases_Bool (same_text text key))

  get-laid_over : {A : Type 0} (es : List (Vec ℕ A × V)) (m : TextMap X) (text : List ℕ)
      → get (laid_over means (map (λ (e : Vec ℕ A × V). (e.0.items, e.1)) es) m) text ≡ over (option_map (means text) (lookup (λ k. pointwise nat_eq text k.items) es)) (get m text)
  get-laid_over [] m text = refl
  get-laid_over {A} (e ∷ es) m text =
      get-set_key (laid_over means (map (λ (e : Vec ℕ A × V). (e.0.items, e.1)) es) m) e.0.items (means e.0.items e.1) text
      ∙ ap (cond (same_text text e.0.items) (means e.0.items e.1)) (get-laid_over es m text)
      ∙ one_key e.0.items e.1 (lookup (λ k. pointwise nat_eq text k.items) es) (get m text) text

none_laid : {A V X : Type 0} (means : List ℕ → V → Option X) (es : List (Vec ℕ A × V)) (m : TextMap X) → es ≡ [] → laid_over means (map (λ (e : Vec ℕ A × V). (e.0.items, e.1)) es) m ≡ m
none_laid {A} {V} means es m h = ap (λ l. laid_over means (map (λ (e : Vec ℕ A × V). (e.0.items, e.1)) l) m) h

over_word : (words : TextMap Tree) (word : List ℕ) (found : Option Change) → over (option_map (word_by words word) found) (get words word) ≡ word_by words word (unwrap_or found Same)
over_word words word None = refl
over_word words word (Some change) = refl

module _ (dict : Dictionary) where
  -- a word has what its change gives it
  pub get-word : (c : Changes) (word : List ℕ) → get (changed dict c).words word ≡ word_by dict.words word (change_at c word)
  get-word c word =
      get-laid_over (word_by dict.words) c.words.entries dict.words word
      ∙ over_word dict.words word (at_text c.words word)

  pub get-found : (c : Changes) (word : List ℕ) (change : Change) → at_text c.words word ≡ Some change → get (changed dict c).words word ≡ word_by dict.words word change
  get-found c word change is = get-word c word ∙ ap (λ o. word_by dict.words word (unwrap_or o Same)) is

  -- and a macro
  pub get-macro : (c : Changes) (name : List ℕ) → get (changed dict c).macros name ≡ over (option_map (λ m. Some (named_by m)) (at_text c.macros name)) (get dict.macros name)
  get-macro c name = get-laid_over (λ name m. Some (named_by m)) c.macros.entries dict.macros name

  -- where the changes of macros stay, so do the macros
  kept_macros : (old new : Changes) → ((name : List ℕ) → at_text new.macros name ≡ at_text old.macros name) → (name : List ℕ) → get (changed dict new).macros name ≡ get (changed dict old).macros name
  kept_macros old new same name =
      get-macro new name ∙ ap (λ o. over (option_map (λ m. Some (named_by m)) o) (get dict.macros name)) (same name) ∙ sym (get-macro old name)

  dictionaries : (words : TextMap Tree) (macros : TextMap (Tree × ℕ)) (c : Changes)
      → ((word : List ℕ) → get (changed dict c).words word ≡ get words word) → ((name : List ℕ) → get (changed dict c).macros name ≡ get macros name)
      → changed dict c ≡ record { words = words; macros = macros }
  dictionaries words macros c w m =
      let same_words = same_texts (changed dict c).words words w in
      let same_macros = same_texts (changed dict c).macros macros m in
      λ i. record { words = same_words i; macros = same_macros i }

  -- no changes
  pub nothing_changed : (c : Changes) → c.words.entries ≡ [] → c.macros.entries ≡ [] → changed dict c ≡ dict
  nothing_changed c no_words no_macros =
      let words = none_laid (word_by dict.words) c.words.entries dict.words no_words in
      let macros = none_laid (λ name m. Some (named_by m)) c.macros.entries dict.macros no_macros in
      λ i. record { words = words i; macros = macros i }

  -- where nothing is changed, the dictionary is the same
  pub same_dictionary : (old new : Changes) → HasSame old new → changed dict new ≡ changed dict old
  same_dictionary old new h =
      dictionaries (changed dict old).words (changed dict old).macros new
      (λ word. get-word new word ∙ ap (word_by dict.words word) (h.words word) ∙ sym (get-word old word))
      (kept_macros old new h.macros)

-- ---- the same table of lists

lists_still : {A B S : Type 0} (by : By) (IsOld IsNew : List ℕ → Type 0) (old new : IndexMap (Vec ℕ A) (Vec (List ℕ) B) S) → AreListed by IsOld old → new ≡ old → ((text : List ℕ) → IsNew text → IsOld text) → AreListed by IsNew new
lists_still by IsOld IsNew old new lists is named = record {
  only = λ key word h. lists.only key word (subst (λ t. Contains (texts_at t key) word) is h);
  all = λ key word h under. subst (λ t. Contains (texts_at t key) word) (sym is) (lists.all key word (named word h) under);
}

-- ---- words that get a formula

module _ (old new : Changes) where
  pub words_given : (formulas : List Expr) (tree : Tree) (names : List (List ℕ)) → All (IsTree tree) formulas → HasGiven formulas names old new → new.macros ≡ old.macros
      → (dict : Dictionary) → changed dict new ≡ record (changed dict old) { words = insert_all names tree (changed dict old).words }
  words_given formulas tree names all given same dict =
      dictionaries dict (insert_all names tree (changed dict old).words) (changed dict old).macros new
      (λ word.
      get-word dict new word ∙ given tree all dict.words word ∙ ap (cond (list_any (same_text word) names) (Some tree)) (sym (get-word dict old word))
      ∙ sym (get-insert_all names tree (changed dict old).words word))
      (kept_macros dict old new (λ name i. at_text (same i) name))

  pub laid_given : IsLaid old → new.macros ≡ old.macros → new.stems ≡ old.stems → new.firsts ≡ old.firsts → new.lengths ≡ old.lengths → ((text : List ℕ) → is_some (at_text new.words text) ≡ is_some (at_text old.words text)) → IsLaid new
  laid_given laid same stems firsts lengths named = record {
    macros = λ name. subst (λ ms. IfSome (at_text ms name) KeepsToLevel) (sym same) (laid.macros name);
    stems = lists_still Stem (IsNamed old) (IsNamed new) old.stems new.stems laid.stems stems (λ word h. sym (named word) ∙ h);
    firsts = lists_still First (IsNamed old) (IsNamed new) old.firsts new.firsts laid.firsts firsts (λ word h. sym (named word) ∙ h);
    lengths = λ word h. subst (λ l. HasLengths l word) (sym lengths) (laid.lengths word (sym (named word) ∙ h));
  }

-- ---- one word

-- what a word has by a change of it alone
module _ (old new : Changes) (macros : new.macros ≡ old.macros) (word : List ℕ) (change : Change)
    (set : (text : List ℕ) → at_text new.words text ≡ (if same_text text word then Some change else at_text old.words text)) where
  change_now : (text : List ℕ) (b : Bool) → same_text text word ≡ b → change_at new text ≡ cond b change (change_at old text)
  change_now text true is = ap (λ o. unwrap_or o Same) (set text ∙ ap (λ b. if b then Some change else at_text old.words text) is)
  change_now text false is = ap (λ o. unwrap_or o Same) (set text ∙ ap (λ b. if b then Some change else at_text old.words text) is)

  module _ (found : Option Tree) (means : (words : TextMap Tree) (text : List ℕ) → word_by words text change ≡ found) where
    word_now : (dict : Dictionary) (text : List ℕ) (b : Bool) → same_text text word ≡ b → get (changed dict new).words text ≡ cond b found (get (changed dict old).words text)
    word_now dict text true is = get-word dict new text ∙ ap (word_by dict.words text) (change_now text true is) ∙ means dict.words text
    word_now dict text false is =
        get-word dict new text ∙ ap (word_by dict.words text) (change_now text false is) ∙ sym (get-word dict old text)

    pub word_set : (dict : Dictionary) → changed dict new ≡ record (changed dict old) { words = set_key (changed dict old).words word found }
    word_set dict =
        dictionaries dict (set_key (changed dict old).words word found) (changed dict old).macros new
        (λ text. word_now dict text (same_text text word) refl ∙ sym (get-set_key (changed dict old).words word found text))
        (kept_macros dict old new (λ name i. at_text (macros i) name))

-- ---- one macro

module _ (old new : Changes) (words : new.words ≡ old.words) (name : List ℕ) (found : Named)
    (set : (text : List ℕ) → at_text new.macros text ≡ cond (same_text text name) (Some found) (at_text old.macros text)) where
  macro_now : (dict : Dictionary) (text : List ℕ) (b : Bool) → same_text text name ≡ b → get (changed dict new).macros text ≡ cond b (Some (named_by found)) (get (changed dict old).macros text)
  macro_now dict text true is =
      get-macro dict new text ∙ ap (λ o. over (option_map (λ m. Some (named_by m)) o) (get dict.macros text)) (set text ∙ ap (λ b. cond b (Some found) (at_text old.macros text)) is)
  macro_now dict text false is =
      get-macro dict new text ∙ ap (λ o. over (option_map (λ m. Some (named_by m)) o) (get dict.macros text)) (set text ∙ ap (λ b. cond b (Some found) (at_text old.macros text)) is)
      ∙ sym (get-macro dict old text)

  pub macro_set : (dict : Dictionary) → changed dict new ≡ record (changed dict old) { macros = insert (changed dict old).macros name (named_by found) }
  macro_set dict =
      dictionaries dict (changed dict old).words (insert (changed dict old).macros name (named_by found)) new
      (λ word. get-word dict new word ∙ (λ i. word_by dict.words word (unwrap_or (at_text (words i) word) Same)) ∙ sym (get-word dict old word))
      (λ text. macro_now dict text (same_text text name) refl ∙ sym (get-inserted (changed dict old).macros name (named_by found) text))

  -- each macro still keeps to its level
  pub still_kept : KeepsToLevel found → ((text : List ℕ) → IfSome (at_text old.macros text) KeepsToLevel) → (text : List ℕ) → IfSome (at_text new.macros text) KeepsToLevel
  still_kept fits before text = by (same_text text name) refl
    where
      by : (b : Bool) → same_text text name ≡ b → IfSome (at_text new.macros text) KeepsToLevel
      by true is = subst (λ o. IfSome o KeepsToLevel) (sym (set text ∙ ap (λ b. cond b (Some found) (at_text old.macros text)) is)) fits
      by false is = subst (λ o. IfSome o KeepsToLevel) (sym (set text ∙ ap (λ b. cond b (Some found) (at_text old.macros text)) is)) (before text)

-- ---- macros keep to their levels

fits_over : (found : Option Named) (old : Option (Tree × ℕ)) → IfSome found KeepsToLevel → IfSome old (λ m. Fits m.1 m.0) → IfSome (over (option_map (λ m. Some (named_by m)) found) old) (λ m. Fits m.1 m.0)
fits_over None old h k = k
fits_over (Some m) old h k = h

pub fit_changed : (dict : Dictionary) (c : Changes) → IsLaid c → AllFit (macros_of dict) → AllFit (macros_of (changed dict c))
fit_changed dict c laid below =
    λ name. subst (λ o. IfSome o (λ m. Fits m.1 m.0)) (sym (get-macro dict c name)) (fits_over (at_text c.macros name) (get dict.macros name) (laid.macros name) (below name))

-- ---- words of a text

module _ (dict : Dictionary) (c : Changes) (laid : IsLaid c) where
  below_kept : (word : List ℕ) (found : Option Change) → at_text c.words word ≡ found → IsSome (get (changed dict c).words word) → IsNamed c word ⊎ IsSome (get dict.words word)
  below_kept word None is h = inr (subst IsSome (get-word dict c word ∙ ap (λ o. word_by dict.words word (unwrap_or o Same)) is) h)
  below_kept word (Some change) is h = inl (ap is_some is)

  -- a word is named by the changes, or is a word of the dictionary below
  pub where_kept : (word : List ℕ) → IsSome (get (changed dict c).words word) → IsNamed c word ⊎ IsSome (get dict.words word)
  where_kept word h = below_kept word (at_text c.words word) refl h

  stem_cases : (text word : List ℕ) (own : Bool) → same_text (stem_of word) word ≡ own → stem_of word ≡ text → (word ≡ text) ⊎ (is_under Stem text word ≡ true)
  stem_cases text word true is stem = inl (sym (text_is (stem_of word) word is) ∙ stem)
  stem_cases text word false is stem = inr (under_itself Stem text word (not_own_stem word is ∙ ap Some stem))

  -- a word of a text is the text, or is listed below or among the changes
  pub word_listed : (text word : List ℕ) (below : List (List ℕ)) → ((w : List ℕ) → Contains below w ↔ (IsSome (get dict.words w) × (is_under Stem text w ≡ true)))
      → IsWordOf (changed dict c) text word → (word ≡ text) ⊎ (Contains below word ⊎ Contains (texts_at c.stems text) word)
  word_listed text word below exact is =
      elim is.fits [
        | inl same ↦ inl same
        | inr stem ↦ elim (stem_cases text word (same_text (stem_of word) word) refl stem) [
          | inl same ↦ inl same
          | inr under ↦ elim (where_kept word is.kept) [
            | inl named ↦ inr (inr (laid.stems.all text word named under))
            | inr there ↦ inr (inl ((exact word).1 (there, under)))
          ]
        ]
      ]

  pub listed_word : (text word : List ℕ) → IsSome (get (changed dict c).words word) → is_under Stem text word ≡ true → IsWordOf (changed dict c) text word
  listed_word text word kept under = record { kept = kept; fits = inr (stem_under text word under) }

-- ---- how long words are

module _ (old : TextMap Tree) (n : ℕ) (bound : (word : List ℕ) → IsSome (get old word) → length word ≤ n) where
  -- with words that were given
  module _ (names : List (List ℕ)) (tree : Tree) (m : ℕ) (above : n ≤ m) (bounds : All (λ (word : List ℕ). length word ≤ m) names) where
    short : (word : List ℕ) (b : Bool) → list_any (same_text word) names ≡ b → IsSome (cond b (Some tree) (get old word)) → length word ≤ m
    short word true is h = let there = (Contains-among names word).1 is in subst (λ (w : List ℕ). length w ≤ m) there.2 (bounds there.0 word there.1)
    short word false is h = let low = bound word h in omega arith

    pub short_given : (word : List ℕ) → IsSome (get (insert_all names tree old) word) → length word ≤ m
    short_given word h = short word (list_any (same_text word) names) refl (subst IsSome (get-insert_all names tree old word) h)

  -- without one
  was : (b : Bool) (o : Option Tree) → IsSome (cond b None o) → IsSome o
  was true o h = absurd (true≢false (sym h))
  was false o h = h

  pub short_left : (gone word : List ℕ) → IsSome (get (remove old gone) word) → length word ≤ n
  short_left gone word h = bound word (was (same_text word gone) (get old word) (subst IsSome (get-removed old gone word) h))
