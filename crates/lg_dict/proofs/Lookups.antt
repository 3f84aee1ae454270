-- Look-ups by bytes in tables whose keys are bytes.
use Rattle.std.proofs.Common.{◌≡◌, ◌<◌, ◌+◌, ℕ, length, take, filter, get_or, All, subst, List, [], ◌∷◌, ◌++◌, Bool, true, false, true≢false, cond, if◌then◌else◌, map, nat_eq, vec_len, Option, Some, None, is_some, refl, sym, ap, ◌∙◌}
use Rattle.std.proofs.lemmas.Bool.{cases_Bool, cond-true, cond-false}
use mathlib.Core.Logic.{⊎_elim}
use lib.Pointwise.{pointwise}
use Rattle.std.specs.declared.vec.Vec.{Vec}
use Rattle.std.specs.Map.{KeepsOthers, lookup}
use Rattle.std.specs.Option.{option_map, option_map_or, unwrap_or, UnwrapsOrElse}
use Rattle.std.specs.Ordering.{nat_cmp}
use Rattle.std.specs.Cmp.Lexicographic.{slice_cmp, bytes_decides, nat_list_eq_equiv, nat_list_cmp_total, texts_ties}
use Rattle.std.specs.FinMap.{get, find, from_entries, get-from_entries}
use Rattle.indexmap.specs.IndexMap.{IndexMap, Updates, UpdatesBy, get as get_in}
use Rattle.std.specs.List.{IsAmong}
use Rattle.std.proofs.lemmas.Grind.{take_at_read}
use Rattle.std.proofs.lemmas.List.{append-nil, map-append}
use Rattle.std.proofs.lemmas.List.Elements.{filter-append}
use Rattle.std.proofs.lemmas.Option.{slice_get-get_or, unwrap_or-slice_get}
use Rattle.lg_gram.specs.Trees.{empty, tree_of}
use Rattle.lg_gram.specs.declared.expr.Expr.{Expr}
use Rattle.lg_dict.specs.Subscripts.{stem_of}
use Rattle.lg_dict.specs.Tables.{text_entries, at_text, text_at, numbers_at, texts_at, listed, same_text, other_stem, key_of, is_at, is_under, tree_at}
use Rattle.lg_dict.specs.declared.tables.By.{By}
use Rattle.lg_dict.specs.declared.tables.By.TheVariants.{Stem}

-- how the keys of a table are compared
abbrev pub key_eq : {A : Type 0} → Vec ℕ A → Vec ℕ A → Bool
key_eq a b = pointwise nat_eq a.items b.items

-- each entry with what its value stands for
abbrev pub shown_as : {V X : Type 0} → (V → X) → List (List ℕ × V) → List (List ℕ × X)
shown_as g es = map (λ e. (e.0, g e.1)) es

found_shown : {A V X : Type 0} (g : V → X) (text : List ℕ) (es : List (Vec ℕ A × V))
    → find (slice_cmp nat_cmp) text (shown_as g (map (λ (e : Vec ℕ A × V). (e.0.items, e.1)) es)) ≡ option_map g (lookup (λ k. pointwise nat_eq text k.items) es)
found_shown g text [] = refl
found_shown {A} {V} {X} g text (e ∷ es) =
    let step : (b : Bool) → cond b (Some (g e.1)) (option_map g (lookup (λ k. pointwise nat_eq text k.items) es)) ≡ option_map g (cond b (Some e.1) (lookup (λ k. pointwise nat_eq text k.items) es))
    = λ b. elim b as (λ t. cond t (Some (g e.1)) (option_map g (lookup (λ k. pointwise nat_eq text k.items) es)) ≡ option_map g (cond t (Some e.1) (lookup (λ k. pointwise nat_eq text k.items) es))) [ true ↦ refl | false ↦ refl ] in
    ap (λ b. cond b (Some (g e.1)) (find (slice_cmp nat_cmp) text (shown_as g (map (λ (e : Vec ℕ A × V). (e.0.items, e.1)) es)))) (sym (texts_ties text e.0.items))
    ∙ ap (cond (pointwise nat_eq text e.0.items) (Some (g e.1))) (found_shown g text es)
    ∙ step (pointwise nat_eq text e.0.items)

module _ {A V S : Type 0} where
  -- a change at a key is seen at its bytes alone
  pub at_text-updates : (old new : IndexMap (Vec ℕ A) V S) (key : Vec ℕ A) (w : Option V) → Updates key_eq old new key w
      → (text : List ℕ) → at_text new text ≡ cond (same_text text key.items) w (at_text old text)
  unfolding KeepsOthers
  at_text-updates old new key w h text =
      ⊎_elim
      (λ same. ap (at_text new) ((bytes_decides text key.items).0 same) ∙ h.1 ∙ sym (cond-true (same_text text key.items) w (at_text old text) same))
      (λ other.
      h.3 (λ k. pointwise nat_eq text k.items) (λ x y p. nat_list_eq_equiv.congr text x.items y.items p)
      (λ k p. nat_list_eq_equiv.symm text k.items ∙ sym (nat_list_eq_equiv.congr key.items k.items text p) ∙ nat_list_eq_equiv.symm key.items text ∙ other)
      ∙ sym (cond-false (same_text text key.items) w (at_text old text) other))
      (cases_Bool (same_text text key.items))

  -- and so is a change at a key that is looked up by its bytes
  pub at_text-written : (old new : IndexMap (Vec ℕ A) V S) (word : List ℕ) (w : Option V) → UpdatesBy key_eq (λ k. pointwise nat_eq word k.items) old new w
      → (text : List ℕ) → at_text new text ≡ cond (same_text text word) w (at_text old text)
  unfolding KeepsOthers
  at_text-written old new word w h text =
      ⊎_elim
      (λ same. ap (at_text new) ((bytes_decides text word).0 same) ∙ h.1 ∙ sym (cond-true (same_text text word) w (at_text old text) same))
      (λ other.
      h.3 (λ k. pointwise nat_eq text k.items) (λ x y p. nat_list_eq_equiv.congr text x.items y.items p)
      (λ k p. nat_list_eq_equiv.symm text k.items ∙ sym (nat_list_eq_equiv.congr word k.items text p) ∙ nat_list_eq_equiv.symm word text ∙ other)
      ∙ sym (cond-false (same_text text word) w (at_text old text) other))
      (cases_Bool (same_text text word))

  -- what the map of the entries has at a text is what the table has there
  pub get-shown : {X : Type 0} (g : V → X) (table : IndexMap (Vec ℕ A) V S) (text : List ℕ)
      → get (from_entries {R = slice_cmp nat_cmp} (shown_as g (text_entries table))) text ≡ option_map g (at_text table text)
  get-shown g table text = get-from_entries nat_list_cmp_total _ text ∙ found_shown g text table.entries

unwrapped : {B : Type 0} (found : Option (Vec ℕ B)) (start : Vec ℕ B) → UnwrapsOrElse found (λ x. (x.items ≡ []) × (vec_len x ≡ 0)) start
    → start.items ≡ option_map_or (λ numbers. numbers.items) found []
unwrapped None start h = h.0
unwrapped (Some numbers) start h = ap (λ numbers. numbers.items) h

module _ {A B S : Type 0} where
  -- one more number at a key
  pub numbers-push : (old new : IndexMap (Vec ℕ A) (Vec ℕ B) S) (key : Vec ℕ A) (list start : Vec ℕ B) (found : Option (Vec ℕ B)) (number : ℕ)
      → Updates key_eq old new key (Some list) → found ≡ get_in key_eq old key → UnwrapsOrElse found (λ x. (x.items ≡ []) × (vec_len x ≡ 0)) start → list.items ≡ start.items ++ number ∷ []
      → (text : List ℕ) → numbers_at new text ≡ (if same_text text key.items then numbers_at old text ++ number ∷ [] else numbers_at old text)
  numbers-push old new key list start found number h is from more text =
      let items : list.items ≡ numbers_at old key.items ++ number ∷ [] = more ∙ ap (λ l. l ++ number ∷ []) (unwrapped found start from ∙ ap (λ o. option_map_or (λ numbers. numbers.items) o []) is) in
      ap (λ o. option_map_or (λ numbers. numbers.items) o []) (at_text-updates old new key (Some list) h text)
      ∙ ⊎_elim
      (λ same. ap (λ b. option_map_or (λ numbers. numbers.items) (cond b (Some list) (at_text old text)) []) same ∙ items
      ∙ ap (λ t. numbers_at old t ++ number ∷ []) (sym ((bytes_decides text key.items).0 same))
      ∙ sym (cond-true (same_text text key.items) (numbers_at old text ++ number ∷ []) (numbers_at old text) same))
      (λ other. ap (λ b. option_map_or (λ numbers. numbers.items) (cond b (Some list) (at_text old text)) []) other
      ∙ sym (cond-false (same_text text key.items) (numbers_at old text ++ number ∷ []) (numbers_at old text) other))
      (cases_Bool (same_text text key.items))

-- texts that are set at a key
module _ {A B S : Type 0} (old new : IndexMap (Vec ℕ A) (Vec (List ℕ) B) S) (stem : List ℕ) (list : Vec (List ℕ) B)
    (set : (text : List ℕ) → at_text new text ≡ cond (same_text text stem) (Some list) (at_text old text)) where
  texts-set : (text : List ℕ) (b : Bool) → same_text text stem ≡ b → texts_at new text ≡ cond b list.items (texts_at old text)
  texts-set text true is = ap (λ o. option_map_or (λ texts. texts.items) o []) (set text ∙ ap (λ b. cond b (Some list) (at_text old text)) is)
  texts-set text false is = ap (λ o. option_map_or (λ texts. texts.items) o []) (set text ∙ ap (λ b. cond b (Some list) (at_text old text)) is)

  kept_by : list.items ≡ texts_at old stem → (text : List ℕ) (b : Bool) → same_text text stem ≡ b → texts_at new text ≡ texts_at old text
  kept_by same text true is = texts-set text true is ∙ same ∙ ap (texts_at old) (sym ((bytes_decides text stem).0 is))
  kept_by same text false is = texts-set text false is

  pub texts-kept : list.items ≡ texts_at old stem → (text : List ℕ) → texts_at new text ≡ texts_at old text
  texts-kept same text = kept_by same text (same_text text stem) refl

  pushed_by : (word : List ℕ) → list.items ≡ texts_at old stem ++ word ∷ [] → (text : List ℕ) (b : Bool) → same_text text stem ≡ b
      → texts_at new text ≡ (if b then texts_at old text ++ word ∷ [] else texts_at old text)
  pushed_by word more text true is = texts-set text true is ∙ more ∙ ap (λ t. texts_at old t ++ word ∷ []) (sym ((bytes_decides text stem).0 is))
  pushed_by word more text false is = texts-set text false is

  pub texts-pushed : (word : List ℕ) → list.items ≡ texts_at old stem ++ word ∷ [] → (text : List ℕ)
      → texts_at new text ≡ (if same_text text stem then texts_at old text ++ word ∷ [] else texts_at old text)
  texts-pushed word more text = pushed_by word more text (same_text text stem) refl

-- one more word under its key
module _ (by : By) (words : List (List ℕ)) (text : List ℕ) (number : ℕ) where
  pushed : (numbers : List ℕ) (b : Bool) → map (λ n. text_at words n) (if b then numbers ++ number ∷ [] else numbers)
      ≡ map (λ n. text_at words n) numbers ++ (if b then get_or words number [] ∷ [] else [])
  pushed numbers true = map-append (λ n. text_at words n) numbers (number ∷ []) ∙ ap (λ word. map (λ n. text_at words n) numbers ++ word ∷ []) (unwrap_or-slice_get words number [])
  pushed numbers false = sym (append-nil (map (λ n. text_at words n) numbers))

  pub listed-more : {A B S : Type 0} (old new : IndexMap (Vec ℕ A) (Vec ℕ B) S) (word : List ℕ) → number < length words → word ≡ text_at words number
      → numbers_at new text ≡ (if is_under by text word then numbers_at old text ++ number ∷ [] else numbers_at old text)
      → listed words old text ≡ filter (λ w. is_under by text w) (take number words) → listed words new text ≡ filter (λ w. is_under by text w) (take (number + 1) words)
  listed-more old new word within is step so_far =
      let here = get_or words number [] in
      ap (map (λ n. text_at words n)) (step ∙ ap (λ w. if is_under by text w then numbers_at old text ++ number ∷ [] else numbers_at old text) (is ∙ unwrap_or-slice_get words number []))
      ∙ pushed (numbers_at old text) (is_under by text here)
      ∙ ap (λ l. l ++ (if is_under by text here then here ∷ [] else [])) so_far
      ∙ sym (ap (filter (λ w. is_under by text w)) ((take_at_read words number [] within).1) ∙ filter-append (λ w. is_under by text w) (take number words) (here ∷ []))

-- a word without a key is under none, and each other word is under its own alone
module _ (by : By) (text word : List ℕ) where
  pub under_none : key_of by word ≡ None → is_under by text word ≡ false
  unfolding is_under
  under_none none = ap (λ o. is_at o text) none

  pub under_key : (key : List ℕ) → key_of by word ≡ Some key → is_under by text word ≡ same_text text key
  unfolding is_under
  under_key key is = ap (λ o. is_at o text) is

  pub under_itself : key_of by word ≡ Some text → is_under by text word ≡ true
  under_itself is = under_key text is ∙ nat_list_eq_equiv.refl text

  under_by : (found : Option (List ℕ)) → key_of by word ≡ found → is_under by text word ≡ true → key_of by word ≡ Some text
  under_by None is h = absurd (true≢false (sym h ∙ under_none is))
  under_by (Some key) is h = is ∙ ap Some (sym ((bytes_decides text key).0 (sym (under_key key is) ∙ h)))

  pub under_gives : is_under by text word ≡ true → key_of by word ≡ Some text
  under_gives h = under_by (key_of by word) refl h

-- a word with a subscript
module _ (word : List ℕ) where
  pub own_stem : same_text (stem_of word) word ≡ true → other_stem word ≡ None
  own_stem own = ap (λ b. if b then None else Some (stem_of word)) own

  pub not_own_stem : same_text (stem_of word) word ≡ false → other_stem word ≡ Some (stem_of word)
  not_own_stem other = ap (λ b. if b then None else Some (stem_of word)) other

stem_by : (text word : List ℕ) (own : Bool) → same_text (stem_of word) word ≡ own → other_stem word ≡ Some text → stem_of word ≡ text
stem_by text word true is h = absurd (true≢false (sym (ap is_some (sym (own_stem word is) ∙ h))))
stem_by text word false is h = ap (λ o. unwrap_or o []) (sym (not_own_stem word is) ∙ h)

pub stem_under : (text word : List ℕ) → is_under Stem text word ≡ true → stem_of word ≡ text
stem_under text word h = stem_by text word (same_text (stem_of word) word) refl (under_gives Stem text word h)

-- what holds of all holds of one of them
pub among_all : {X : Type 0} (P : X → Type 0) (xs : List X) (x : X) → All P xs → IsAmong xs x → P x
among_all P xs x all one = subst P (sym one.1.1) (all one.0 x one.1.0)

pub tree_at-get_or : (formulas : List Expr) (number : ℕ) (formula : Expr) → number < length formulas → formula ≡ get_or formulas number formula → tree_at formulas number ≡ tree_of formula
tree_at-get_or formulas number formula within is = ap (λ o. option_map_or tree_of o empty) (slice_get-get_or formulas number formula within ∙ ap Some (sym is))
