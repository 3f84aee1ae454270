-- Room for the change of a word.
use Rattle.std.proofs.Common.{◌≡◌, ◌⊎◌, inl, inr, ℕ, ◌+◌, ◌<◌, List, [], ◌∷◌, ◌++◌, take, length, get_or, Bool, true, false, ◌||◌, cond, if◌then◌else◌, is_some, Option, Some, None, IsSome, IfSome, OnOk, OnErr, Result, Ok, Err, Contains, Vec, All, length-append, refl, sym, ap, subst, ◌∙◌, true≢false, arith}
use Rattle.std.proofs.lemmas.List.Elements.{Contains-append_left, Contains-append_right, Contains-push_cases}
use Rattle.std.proofs.lemmas.List.Folds.{list_any_more}
use Rattle.indexmap.specs.IndexMap.{IndexMap}
use Rattle.std.specs.List.{list_any}
use Rattle.std.specs.Option.{unwrap_or}
use Rattle.lg_dict.specs.Changed.{word_by, change_at, IsNamed, KeepsToLevel, IsLaid, HasSame}
use Rattle.lg_dict.specs.Tables.{AreListed, at_text, texts_at, same_text, is_under}
use Rattle.lg_dict.specs.declared.tables.By.{By}
use Rattle.lg_dict.specs.declared.tables.By.TheVariants.{Stem, First}
use Rattle.lg_dict.specs.declared.changes.Change.{Change}
use Rattle.lg_dict.specs.declared.changes.Change.TheVariants.{Same, Given}
use Rattle.lg_gram.specs.Trees.{Tree, tree_of}
use Rattle.lg_gram.specs.declared.expr.Expr.{Expr}
use Rattle.lg_dict.specs.Dictionary.{TextMap}
use Rattle.lg_dict.specs.Lengths.{has_length, HasLengths}
use Rattle.lg_dict.proofs.Lengthened.{still_has}
use Rattle.std.proofs.lemmas.List.{get_or_append_left}
use Rattle.std.proofs.Math.Seq.{get_or-append_seam}
use Rattle.lg_dict.specs.declared.changes.Changes.{Changes}
use Rattle.lg_dict.proofs.Words.{text_is, text_is_itself}

-- ---- a table of lists with one word more, or with the same for each key

module _ {A B S : Type 0} (by : By) (IsOld IsNew : List ℕ → Type 0) (old new : IndexMap (Vec ℕ A) (Vec (List ℕ) B) S) (lists : AreListed by IsOld old) where
  module _ (word : List ℕ) (set : (text : List ℕ) → texts_at new text ≡ (if is_under by text word then texts_at old text ++ word ∷ [] else texts_at old text)) where
    listed_now : (text : List ℕ) (b : Bool) → is_under by text word ≡ b → texts_at new text ≡ (if b then texts_at old text ++ word ∷ [] else texts_at old text)
    listed_now text b is = set text ∙ ap (λ b. if b then texts_at old text ++ word ∷ [] else texts_at old text) is

    only_by : (key w : List ℕ) (b : Bool) → is_under by key word ≡ b → Contains (texts_at new key) w → is_under by key w ≡ true
    only_by key w true is h = elim (Contains-push_cases (texts_at old key) word w (subst (λ l. Contains l w) (listed_now key true is) h)) [
      | inl before ↦ lists.only key w before
      | inr new_one ↦ subst (λ t. is_under by key t ≡ true) new_one is
    ]
    only_by key w false is h = lists.only key w (subst (λ l. Contains l w) (listed_now key false is) h)

    more_by : (key w : List ℕ) (b : Bool) → is_under by key word ≡ b → Contains (texts_at old key) w → Contains (texts_at new key) w
    more_by key w true is h = subst (λ l. Contains l w) (sym (listed_now key true is)) (Contains-append_left (texts_at old key) (word ∷ []) w h)
    more_by key w false is h = subst (λ l. Contains l w) (sym (listed_now key false is)) h

    the_word : (key : List ℕ) → is_under by key word ≡ true → Contains (texts_at new key) word
    the_word key is = subst (λ l. Contains l word) (sym (listed_now key true is)) (Contains-append_right (texts_at old key) (word ∷ []) word (0, omega arith, refl))

    module _ (named : (text : List ℕ) (b : Bool) → same_text text word ≡ b → IsNew text → (same_text text word ≡ true) ⊎ IsOld text) where
      all_by : (key w : List ℕ) → IsNew w → is_under by key w ≡ true → Contains (texts_at new key) w
      all_by key w h under = elim (named w (same_text w word) refl h) [
        | inl is ↦ subst (λ t. Contains (texts_at new key) t) (sym (text_is w word is)) (the_word key (subst (λ t. is_under by key t ≡ true) (text_is w word is) under))
        | inr before ↦ more_by key w (is_under by key word) refl (lists.all key w before under)
      ]

      pub lists_more : AreListed by IsNew new
      lists_more = record { only = λ key w h. only_by key w (is_under by key word) refl h; all = all_by }

  pub lists_kept : ((text : List ℕ) → texts_at new text ≡ texts_at old text) → ((text : List ℕ) → IsNew text → IsOld text) → AreListed by IsNew new
  lists_kept same named = record {
    only = λ key w h. lists.only key w (subst (λ l. Contains l w) (same key) h);
    all = λ key w h under. subst (λ l. Contains l w) (sym (same key)) (lists.all key w (named w h) under);
  }

-- where nothing is changed, macros are right as before
pub same_laid : (old new : Changes) → IsLaid old → HasSame old new → AreListed Stem (IsNamed new) new.stems → AreListed First (IsNamed new) new.firsts
    → ((word : List ℕ) → IsNamed new word → HasLengths new.lengths word) → IsLaid new
same_laid old new laid same stems firsts lengths = record {
  macros = λ name. subst (λ o. IfSome o KeepsToLevel) (sym (same.macros name)) (laid.macros name);
  stems = stems;
  firsts = firsts;
  lengths = lengths;
}

-- the lengths of one word more
pub lengths_named : (old new : List ℕ) (IsOld IsNew : List ℕ → Type 0) (word : List ℕ) → ((n : ℕ) → has_length old n ≡ true → has_length new n ≡ true) → HasLengths new word
    → ((w : List ℕ) → IsOld w → HasLengths old w) → ((w : List ℕ) (b : Bool) → same_text w word ≡ b → IsNew w → (same_text w word ≡ true) ⊎ IsOld w) → (w : List ℕ) → IsNew w → HasLengths new w
lengths_named old new IsOld IsNew word kept here before named w h = elim (named w (same_text w word) refl h) [
  | inl is ↦ subst (HasLengths new) (sym (text_is w word is)) here
  | inr was ↦ still_has old new w kept (before w was)
]

-- ---- a word that is named now

module _ (old new : Changes) (word : List ℕ) (absent : at_text old.words word ≡ None)
    (set : (text : List ℕ) → at_text new.words text ≡ cond (same_text text word) (Some Same) (at_text old.words text)) where
  changes_by : (text : List ℕ) (b : Bool) → same_text text word ≡ b → change_at new text ≡ change_at old text
  changes_by text true is =
      ap (λ o. unwrap_or o Same) (set text ∙ ap (λ b. cond b (Some Same) (at_text old.words text)) is)
      ∙ sym (ap (λ o. unwrap_or o Same) (ap (at_text old.words) (text_is text word is) ∙ absent))
  changes_by text false is = ap (λ o. unwrap_or o Same) (set text ∙ ap (λ b. cond b (Some Same) (at_text old.words text)) is)

  pub named_same : (text : List ℕ) → change_at new text ≡ change_at old text
  named_same text = changes_by text (same_text text word) refl

  pub named_one : IsNamed new word
  named_one = ap is_some (set word ∙ ap (λ b. cond b (Some Same) (at_text old.words word)) (text_is_itself word))

  pub named_before : (text : List ℕ) (b : Bool) → same_text text word ≡ b → IsNamed new text → (same_text text word ≡ true) ⊎ IsNamed old text
  named_before text true is h = inl is
  named_before text false is h = inr (subst IsSome (set text ∙ ap (λ b. cond b (Some Same) (at_text old.words text)) is) h)

  pub named_still : (text : List ℕ) → IsNamed old text → IsNamed new text
  named_still text h = still (same_text text word) refl
    where
      still : (b : Bool) → same_text text word ≡ b → IsNamed new text
      still true is = subst (IsNamed new) (sym (text_is text word is)) named_one
      still false is = subst IsSome (sym (set text ∙ ap (λ b. cond b (Some Same) (at_text old.words text)) is)) h

pub none_of : {A : Type 0} (o : Option A) → is_some o ≡ false → o ≡ None
none_of None h = refl
none_of (Some x) h = absurd (true≢false h)

-- ---- words that are set one after another

either : {A : Type 0} (a b : Bool) (x y : A) → cond b x (cond a x y) ≡ cond (a || b) x y
either true true x y = refl
either true false x y = refl
either false b x y = refl

-- what a word has once one of the words has a formula
pub given_one : (words : TextMap Tree) (text : List ℕ) (found new : Option Change) (formula : Expr) (tree : Tree) (b : Bool) → tree_of formula ≡ tree → new ≡ (if b then Some (Given formula) else found)
    → word_by words text (unwrap_or new Same) ≡ (if b then Some tree else word_by words text (unwrap_or found Same))
given_one words text found new formula tree true same is = ap (λ o. word_by words text (unwrap_or o Same)) is ∙ ap Some same
given_one words text found new formula tree false same is = ap (λ o. word_by words text (unwrap_or o Same)) is

pub given_more : {X : Type 0} (text : List ℕ) (words : List (List ℕ)) (i : ℕ) (word given : List ℕ) (before after start value : X) → i < length words → given ≡ get_or words i word
    → after ≡ (if same_text text given then value else before) → before ≡ (if list_any (same_text text) (take i words) then value else start)
    → after ≡ (if list_any (same_text text) (take (i + 1) words) then value else start)
given_more text words i word given before after start value within is step so_far =
    step
    ∙ ap (λ c. if same_text text given then value else c) so_far
    ∙ either (list_any (same_text text) (take i words)) (same_text text given) value start
    ∙ ap (λ b. if b then value else start) (ap (λ w. list_any (same_text text) (take i words) || same_text text w) is ∙ sym (list_any_more (same_text text) words i word within))

-- what holds of all with one more at the end
pub All-front : {X : Type 0} (P : X → Type 0) (xs : List X) (x : X) → All P (xs ++ x ∷ []) → All P xs
All-front P xs x all k d low = subst P (get_or_append_left xs (x ∷ []) d k low) (all k d (omega (arith, length-append xs (x ∷ []))))

pub All-last : {X : Type 0} (P : X → Type 0) (xs : List X) (x : X) → All P (xs ++ x ∷ []) → P x
All-last P xs x all = subst P (get_or-append_seam xs x [] x) (all (length xs) x (omega (arith, length-append xs (x ∷ []))))

pub named_set : (text word : List ℕ) (found new : Option Change) (change : Change) (b : Bool) → same_text text word ≡ b → new ≡ (if b then Some change else found) → (text ≡ word → IsSome found) → is_some new ≡ is_some found
named_set text word found new change true same is named = ap is_some is ∙ sym (named (text_is text word same))
named_set text word found new change false same is named = ap is_some is

-- ---- several steps

pub same_then : (first second third : Changes) → HasSame first second → HasSame second third → HasSame first third
same_then first second third h k = record {
  words = λ word. k.words word ∙ h.words word;
  macros = λ name. k.macros name ∙ h.macros name;
}

pub on_err : {T E P : Type 0} (r : Result T E) → P → OnErr r P
on_err (Ok x) h = tt
on_err (Err e) h = h

pub either_way : {T E P Q R : Type 0} (r : Result T E) → OnOk r P → OnErr r Q → (P → R) → (Q → R) → R
either_way (Ok x) p q f g = f p
either_way (Err e) p q f g = g q
