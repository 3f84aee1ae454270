-- The words that equal a text or have it as stem.
use Rattle.std.proofs.Common.{◌≡◌, ◌↔◌, ℕ, List, [], ◌∷◌, Bool, true, false, cond, ◌&&◌, ◌||◌, map, filter, is_some, IsSome, nat_eq, Bor, Contains, IsSorted, IsPermutation, IfOk, Option, Some, None, Result, Ok, Err, refl, sym, ap, subst, ◌∙◌}
use lib.Pointwise.{pointwise}
use mathlib.Core.Logic.{⊎_elim}
use Rattle.std.proofs.lemmas.Bool.{cases_Bool, and_parts}
use Rattle.std.proofs.lemmas.Map.Views.{list_any-from_Contains, Contains-from_any}
use Rattle.std.specs.declared.vec.Vec.{Vec}
use Rattle.std.specs.declared.cmp.Ordering.TheVariants.{Less}
use Rattle.std.specs.declared.cmp.Ordering.{Ordering}
use Rattle.std.specs.List.{list_any, dedup, dedup_from, AllByRecursion}
use Rattle.std.specs.List.Sorted.{IsStrictlySortedBy}
use Rattle.std.specs.Map.{lookup}
use Rattle.std.specs.Option.{option_map}
use Rattle.std.specs.FinMap.{get, from_entries}
use Rattle.indexmap.specs.IndexMap.{IndexMap}
use Rattle.std.specs.Ordering.{nat_cmp}
use Rattle.std.specs.Cmp.Lexicographic.{slice_cmp, bytes_decides, nat_list_eq_equiv, on_texts, texts_ties}
use Rattle.std.proofs.lemmas.List.Kept.{IsStrictlySortedBy-dedup, Contains-dedup, Contains-from_dedup}
use Rattle.std.proofs.lemmas.List.Sorted.{IsPermutation-map, IsPermutation-sym, Contains-permutation}
use Rattle.lg_dict.specs.Dictionary.{Dictionary, TextMap, IsWordOf, AreWordsOf, IsCompoundOf, AreCompoundsOf, AreKeys}
use Rattle.lg_dict.specs.Tables.{text_entries, text_keys, at_text, listed, Lists, same_text, is_under, tree_at}
use Rattle.lg_dict.specs.declared.tables.By.{By}
use Rattle.lg_dict.specs.Layout.{shown}
use Rattle.lg_dict.specs.declared.dict.Dict.TheInside.{Inside}
use Rattle.lg_dict.proofs.Lookups.{get-shown, shown_as}

-- `dedup` by what f reads
dedup_from-map : {X Y : Type 0} (f : X → Y) (same : Y → Y → Bool) (k : X) (xs : List X) → map f (dedup_from (λ a b. same (f a) (f b)) k xs) ≡ dedup_from same (f k) (map f xs)
dedup_from-map f same k [] = refl
dedup_from-map f same k (x ∷ xs) =
    elim (same (f x) (f k)) as (λ b. map f (cond b (dedup_from (λ a b. same (f a) (f b)) k xs) (k ∷ dedup_from (λ a b. same (f a) (f b)) x xs)) ≡ cond b (dedup_from same (f k) (map f xs)) (f k ∷ dedup_from same (f x) (map f xs))) [
      | true ↦ dedup_from-map f same k xs
      | false ↦ ap (λ l. f k ∷ l) (dedup_from-map f same x xs)
    ]

pub dedup-map : {X Y : Type 0} (f : X → Y) (same : Y → Y → Bool) (xs : List X) → map f (dedup (λ a b. same (f a) (f b)) xs) ≡ dedup same (map f xs)
dedup-map f same [] = refl
dedup-map f same (x ∷ xs) = dedup_from-map f same x xs

all_read : {X Y : Type 0} (f : X → Y) (P : Y → Type 0) (xs : List X) → AllByRecursion (λ x. P (f x)) xs → AllByRecursion P (map f xs)
all_read f P [] h = tt
all_read f P (x ∷ xs) h = (h.0, all_read f P xs h.1)

pub IsStrictlySortedBy-map : {X Y : Type 0} (f : X → Y) (R : Y → Y → Ordering) (xs : List X) → IsStrictlySortedBy (λ a b. R (f a) (f b)) xs → IsStrictlySortedBy R (map f xs)
unfolding IsStrictlySortedBy
IsStrictlySortedBy-map f R [] h = tt
IsStrictlySortedBy-map f R (x ∷ xs) h = (all_read f (λ y. R (f x) y ≡ Less) xs h.0, IsStrictlySortedBy-map f R xs h.1)

pub filter-map : {X Y : Type 0} (f : X → Y) (p : Y → Bool) (xs : List X) → map f (filter (λ x. p (f x)) xs) ≡ filter p (map f xs)
filter-map f p [] = refl
filter-map f p (x ∷ xs) =
    elim (p (f x)) as (λ b. map f (cond b (x ∷ filter (λ x. p (f x)) xs) (filter (λ x. p (f x)) xs)) ≡ cond b (f x ∷ filter p (map f xs)) (filter p (map f xs))) [ true ↦ ap (λ l. f x ∷ l) (filter-map f p xs) | false ↦ filter-map f p xs ]

-- whether a text is among texts
abbrev pub among : List ℕ → List (List ℕ) → Bool
among text texts = list_any (same_text text) texts

pub text_is : (a b : List ℕ) → same_text a b ≡ true → a ≡ b
text_is a b h = (bytes_decides a b).0 h

pub text_is_itself : (a : List ℕ) → same_text a a ≡ true
text_is_itself a = nat_list_eq_equiv.refl a

pub Contains-among : (texts : List (List ℕ)) (text : List ℕ) → Contains texts text ↔ (among text texts ≡ true)
Contains-among texts text = (list_any-from_Contains nat_list_eq_equiv text texts, Contains-from_any text_is text texts)

and_false : (b : Bool) → (b && false) ≡ false
and_false true = refl
and_false false = refl

module _ (p : List ℕ → Bool) (text x : List ℕ) (xs : List (List ℕ)) (rest : among text (filter p xs) ≡ (among text xs && p text)) where
  kept_same : same_text text x ≡ true → (b : Bool) → p text ≡ b → among text (cond (p x) (x ∷ filter p xs) (filter p xs)) ≡ (among text (x ∷ xs) && p text)
  kept_same same true e =
      ap (λ b. among text (cond b (x ∷ filter p xs) (filter p xs))) (sym (ap p (text_is text x same)) ∙ e)
      ∙ ap (λ b. b || among text (filter p xs)) same
      ∙ sym (ap (λ b. (b || among text xs) && p text) same ∙ e)
  kept_same same false e =
      ap (λ b. among text (cond b (x ∷ filter p xs) (filter p xs))) (sym (ap p (text_is text x same)) ∙ e)
      ∙ rest ∙ ap (λ b. among text xs && b) e ∙ and_false (among text xs)
      ∙ sym (ap (λ b. among text (x ∷ xs) && b) e ∙ and_false (among text (x ∷ xs)))

  kept_other : same_text text x ≡ false → among text (cond (p x) (x ∷ filter p xs) (filter p xs)) ≡ (among text (x ∷ xs) && p text)
  kept_other other =
      elim (p x) as (λ b. among text (cond b (x ∷ filter p xs) (filter p xs)) ≡ among text (filter p xs)) [ true ↦ ap (λ b. b || among text (filter p xs)) other | false ↦ refl ]
      ∙ rest ∙ sym (ap (λ b. (b || among text xs) && p text) other)

  among-filter_more : among text (filter p (x ∷ xs)) ≡ (among text (x ∷ xs) && p text)
  among-filter_more = ⊎_elim (λ same. kept_same same (p text) refl) kept_other (cases_Bool (same_text text x))

-- among those that pass a test
pub among-filter : (p : List ℕ → Bool) (text : List ℕ) (texts : List (List ℕ)) → among text (filter p texts) ≡ (among text texts && p text)
among-filter p text [] = refl
among-filter p text (x ∷ xs) = among-filter_more p text x xs (among-filter p text xs)

-- a look-up finds what is among the keys
pub found_among : {A V : Type 0} (text : List ℕ) (es : List (Vec ℕ A × V)) → is_some (lookup (λ k. pointwise nat_eq text k.items) es) ≡ among text (map (λ e. e.0.items) es)
found_among text [] = refl
found_among text (e ∷ es) =
    elim (pointwise nat_eq text e.0.items) as (λ b. is_some (cond b (Some e.1) (lookup (λ k. pointwise nat_eq text k.items) es)) ≡ (b || among text (map (λ e. e.0.items) es))) [ true ↦ refl | false ↦ found_among text es ]

pub is_some-map : {X Y : Type 0} (f : X → Y) (o : Option X) → is_some (option_map f o) ≡ is_some o
is_some-map f None = refl
is_some-map f (Some x) = refl

module _ (a : Inside) where
  pub known : (word : List ℕ) → is_some (get (shown a).words word) ≡ among word (text_keys a.words)
  known word = ap is_some (get-shown (tree_at a.formulas.items) a.words word) ∙ is_some-map (tree_at a.formulas.items) (at_text a.words word) ∙ found_among word a.words.entries

-- the keys of a table are those of the map that it stands for
module _ {A V S X : Type 0} (g : V → X) (table : IndexMap (Vec ℕ A) V S) where
  pub is_key : (text : List ℕ) → Contains (text_keys table) text ↔ IsSome (get (from_entries {R = slice_cmp nat_cmp} (shown_as g (text_entries table))) text)
  is_key text =
      let same : is_some (get (from_entries {R = slice_cmp nat_cmp} (shown_as g (text_entries table))) text) ≡ among text (text_keys table)
      = ap is_some (get-shown g table text) ∙ is_some-map g (at_text table text) ∙ found_among text table.entries in
      (λ h. same ∙ (Contains-among (text_keys table) text).0 h, λ h. (Contains-among (text_keys table) text).1 (sym same ∙ h))

-- at a key stand the words that are listed there
pub listed_seen : {A B S : Type 0} (by : By) (a : Inside) (dict : Dictionary) → shown a ≡ dict → (lists : IndexMap (Vec ℕ A) (Vec ℕ B) S) → Lists by (text_keys a.words) lists → (key word : List ℕ)
    → Contains (listed (text_keys a.words) lists key) word ↔ (IsSome (get dict.words word) × (is_under by key word ≡ true))
listed_seen by a dict seen lists kept key word =
    let test : among word (listed (text_keys a.words) lists key) ≡ (among word (text_keys a.words) && is_under by key word) = ap (among word) (kept key) ∙ among-filter (λ w. is_under by key w) word (text_keys a.words) in
    let here : is_some (get dict.words word) ≡ among word (text_keys a.words) = ap (λ (d : Dictionary). is_some (get d.words word)) (sym seen) ∙ known a word in (
      λ h. let parts = and_parts (among word (text_keys a.words)) (is_under by key word) (sym test ∙ (Contains-among (listed (text_keys a.words) lists key) word).0 h) in (here ∙ parts.0, parts.1),
      λ h. (Contains-among (listed (text_keys a.words) lists key) word).1 (test ∙ (λ i. (sym here ∙ h.0) i && h.1 i)),
    )

pub words_result : {E : Type 0} (r : Result (List (List ℕ)) E) (dict : Dictionary) (text : List ℕ) (found : List (List ℕ)) → ((word : List ℕ) → Contains found word ↔ IsWordOf dict text word)
    → IfOk r (λ texts. IsStrictlySortedBy (slice_cmp nat_cmp) texts) → IfOk r (λ texts. (word : List ℕ) → Contains texts word ↔ Contains found word) → IfOk r (AreWordsOf dict text)
words_result (Ok texts) dict text found exact rise same = record { rise = rise; exactly = λ word. (λ h. (exact word).0 ((same word).0 h), λ w. (same word).1 ((exact word).1 w)) }
words_result (Err e) dict text found exact rise same = tt

pub compounds_result : {E : Type 0} (r : Result (List (List ℕ)) E) (dict : Dictionary) (first : List ℕ) (found : List (List ℕ)) → ((word : List ℕ) → Contains found word ↔ IsCompoundOf dict first word)
    → IfOk r (λ texts. IsStrictlySortedBy (slice_cmp nat_cmp) texts) → IfOk r (λ texts. (word : List ℕ) → Contains texts word ↔ Contains found word) → IfOk r (AreCompoundsOf dict first)
compounds_result (Ok texts) dict first found exact rise same = record { rise = rise; exactly = λ word. (λ h. (exact word).0 ((same word).0 h), λ w. (same word).1 ((exact word).1 w)) }
compounds_result (Err e) dict first found exact rise same = tt

pub keys_result : {E V : Type 0} (r : Result (List (List ℕ)) E) (m : TextMap V) (found : List (List ℕ)) → ((text : List ℕ) → Contains found text ↔ IsSome (get m text))
    → IfOk r (λ texts. IsStrictlySortedBy (slice_cmp nat_cmp) texts) → IfOk r (λ texts. (text : List ℕ) → Contains texts text ↔ Contains found text) → IfOk r (AreKeys m)
keys_result (Ok texts) m found exact rise same = record { rise = rise; exactly = λ text. (λ h. (exact text).0 ((same text).0 h), λ h. (same text).1 ((exact text).1 h)) }
keys_result (Err e) m found exact rise same = tt

-- texts that were sorted by their bytes and are each kept once
module _ (before sorted : List (Bor (List ℕ))) where
  abbrev read : List (Bor (List ℕ)) → List (List ℕ)
  read words = map (λ word. word.now) words

  pub sorted_rise : IsSorted (λ (a b : Bor (List ℕ)). slice_cmp nat_cmp a.now b.now) sorted
      → IsStrictlySortedBy (slice_cmp nat_cmp) (read (dedup (λ a b. same_text a.now b.now) sorted))
  sorted_rise sorts =
      IsStrictlySortedBy-map (λ (word : Bor (List ℕ)). word.now) (slice_cmp nat_cmp) (dedup (λ a b. same_text a.now b.now) sorted)
      (IsStrictlySortedBy-dedup (on_texts (λ (word : Bor (List ℕ)). word.now)) (λ a b. texts_ties a.now b.now) sorted sorts)

  pub sorted_same : IsPermutation before sorted → (text : List ℕ) → Contains (read (dedup (λ a b. same_text a.now b.now) sorted)) text ↔ Contains (read before) text
  sorted_same moved text =
      let once : read (dedup (λ a b. same_text a.now b.now) sorted) ≡ dedup same_text (read sorted) = dedup-map (λ (word : Bor (List ℕ)). word.now) same_text sorted in
      let there : IsPermutation (read before) (read sorted) = IsPermutation-map (λ (word : Bor (List ℕ)). word.now) before sorted moved in (
        λ h. Contains-permutation (read sorted) (read before) text (IsPermutation-sym (read before) (read sorted) there) (Contains-from_dedup same_text (read sorted) text (subst (λ l. Contains l text) once h)),
        λ h. subst (λ l. Contains l text) (sym once) (Contains-dedup nat_list_eq_equiv text_is (read sorted) text (Contains-permutation (read before) (read sorted) text there h)),
      )
