-- What a view finds of a text.
use Rattle.std.proofs.Common.{◌≡◌, ◌⊎◌, inl, inr, ◌↔◌, ℕ, List, [], ◌∷◌, ◌++◌, Bool, true, false, ◌||◌, ◌&&◌, if◌then◌else◌, map, filter, is_some, Option, Some, None, Vec, IsSome, Contains, refl, sym, ap, subst, ◌∙◌, true≢false, arith}
use Rattle.std.proofs.lemmas.Bool.{and_parts}
use Rattle.std.proofs.lemmas.List.Elements.{Contains-append_left, Contains-append_right, Contains-append_cases}
use Rattle.std.specs.FinMap.{get}
use Rattle.std.specs.List.{list_any}
use Rattle.std.specs.Option.{option_map}
use Rattle.lg_dict.specs.Changed.{changed, named_by, IsNamed, IsLaid}
use Rattle.lg_dict.specs.Dictionary.{Dictionary, IsWordOf, IsCompoundOf}
use Rattle.lg_dict.specs.Tables.{AreListed, at_text, text_keys, texts_at, same_text, is_under}
use Rattle.lg_dict.specs.declared.tables.By.{By}
use Rattle.lg_dict.specs.declared.tables.By.TheVariants.{Stem, First}
use Rattle.lg_dict.proofs.Lookups.{under_gives, under_itself}
use Rattle.indexmap.specs.IndexMap.{IndexMap}
use Rattle.lg_dict.specs.declared.changes.Changes.{Changes}
use Rattle.lg_dict.specs.declared.changes.Named.{Named}
use Rattle.lg_dict.proofs.Words.{text_is, Contains-among, among, among-filter, found_among}
use Rattle.lg_dict.proofs.Changed.{over, get-macro, where_kept, word_listed, listed_word}

-- ---- tests over texts

or_true : (b : Bool) → (b || true) ≡ true
or_true true = refl
or_true false = refl

module _ (p : List ℕ → Bool) where
  first_found : (w : List ℕ) (ws : List (List ℕ)) (b : Bool) → p w ≡ b → (list_any p ws ≡ true → (x : List ℕ) × Contains ws x × (p x ≡ true))
      → (b || list_any p ws) ≡ true → (x : List ℕ) × Contains (w ∷ ws) x × (p x ≡ true)
  first_found w ws true is later h = (w, (0, omega arith, refl), is)
  first_found w ws false is later h = let rest = later h in (rest.0, Contains-append_right (w ∷ []) ws rest.0 rest.1, rest.2)

  pub any_found : (ws : List (List ℕ)) → list_any p ws ≡ true → (w : List ℕ) × Contains ws w × (p w ≡ true)
  any_found [] h = absurd (true≢false (sym h))
  any_found (w ∷ ws) h = first_found w ws (p w) refl (any_found ws) h

  first_among : (x : List ℕ) (xs : List (List ℕ)) (w : List ℕ) (b : Bool) → same_text w x ≡ b → p w ≡ true → (among w xs ≡ true → list_any p xs ≡ true)
      → (b || among w xs) ≡ true → (p x || list_any p xs) ≡ true
  first_among x xs w true is passes later h = ap (λ b. b || list_any p xs) (ap p (sym (text_is w x is)) ∙ passes)
  first_among x xs w false is passes later h = ap (λ b. p x || b) (later h) ∙ or_true (p x)

  any_among : (ws : List (List ℕ)) (w : List ℕ) → among w ws ≡ true → p w ≡ true → list_any p ws ≡ true
  any_among [] w h passes = h
  any_among (x ∷ xs) w h passes = first_among x xs w (same_text w x) refl passes (λ k. any_among xs w k passes) h

  pub any_of : (ws : List (List ℕ)) (w : List ℕ) → Contains ws w → p w ≡ true → list_any p ws ≡ true
  any_of ws w h passes = any_among ws w ((Contains-among ws w).0 h) passes

  Contains-filter : (ws : List (List ℕ)) (w : List ℕ) → Contains (filter p ws) w ↔ (Contains ws w × (p w ≡ true))
  Contains-filter ws w = (
    λ h. let parts = and_parts (among w ws) (p w) (sym (among-filter p w ws) ∙ (Contains-among (filter p ws) w).0 h) in ((Contains-among ws w).1 parts.0, parts.1),
    λ h. (Contains-among (filter p ws) w).1 (among-filter p w ws ∙ (λ i. (Contains-among ws w).0 h.0 i && h.1 i)),
  )

-- a test of what is read
pub any_read : (p : List ℕ → Bool) (read : ℕ → List ℕ) (ns : List ℕ) → list_any (λ n. p (read n)) ns ≡ list_any p (map read ns)
any_read p read [] = refl
any_read p read (n ∷ ns) = ap (λ b. p (read n) || b) (any_read p read ns)

one_of_three : (a b c : Bool) → ((a || b) || c) ≡ true → (a ≡ true) ⊎ ((b ≡ true) ⊎ (c ≡ true))
one_of_three true b c h = inl refl
one_of_three false true c h = inr (inl refl)
one_of_three false false c h = inr (inr h)

or_three : (a b c : Bool) → (a ≡ true) ⊎ ((b ≡ true) ⊎ (c ≡ true)) → ((a || b) || c) ≡ true
or_three true b c h = refl
or_three false true c h = refl
or_three false false c (inl h) = absurd (true≢false (sym h))
or_three false false c (inr (inl h)) = absurd (true≢false (sym h))
or_three false false c (inr (inr h)) = h

or_false : (b : Bool) → (b || false) ≡ b
or_false true = refl
or_false false = refl

one_text : (word text : List ℕ) → Contains (text ∷ []) word → same_text word text ≡ true
one_text word text h = sym (or_false (same_text word text)) ∙ (Contains-among (text ∷ []) word).0 h

-- ---- words of a text

module _ (dict : Dictionary) (c : Changes) (laid : IsLaid c) (text : List ℕ) (below : List (List ℕ)) (exact : (w : List ℕ) → Contains below w ↔ (IsSome (get dict.words w) × (is_under Stem text w ≡ true))) where
  abbrev pub kept : List ℕ → Bool
  kept word = is_some (get (changed dict c).words word)

  abbrev pub names : List (List ℕ)
  names = texts_at c.stems text

  word_of : (kept text ≡ true) ⊎ ((list_any kept below ≡ true) ⊎ (list_any kept names ≡ true)) → (word : List ℕ) × IsWordOf (changed dict c) text word
  word_of (inl h) = (text, record { kept = h; fits = inl refl })
  word_of (inr (inl h)) = let w = any_found kept below h in (w.0, listed_word dict c laid text w.0 w.2 ((exact w.0).0 w.1).1)
  word_of (inr (inr h)) = let w = any_found kept names h in (w.0, listed_word dict c laid text w.0 w.2 (laid.stems.only text w.0 w.1))

  of_word : (word : List ℕ) → IsWordOf (changed dict c) text word → (kept text ≡ true) ⊎ ((list_any kept below ≡ true) ⊎ (list_any kept names ≡ true))
  of_word word is = elim (word_listed dict c laid text word below exact is) [
    | inl same ↦ inl (ap kept (sym same) ∙ is.kept)
    | inr (inl there) ↦ inr (inl (any_of kept below word there is.kept))
    | inr (inr there) ↦ inr (inr (any_of kept names word there is.kept))
  ]

  -- whether there is a word
  pub has_word : (b : Bool) → ((kept text || list_any kept below) || list_any kept names) ≡ b → (b ≡ true) ↔ ((word : List ℕ) × IsWordOf (changed dict c) text word)
  has_word b is = (
    λ h. word_of (one_of_three (kept text) (list_any kept below) (list_any kept names) (is ∙ h)),
    λ w. sym is ∙ or_three (kept text) (list_any kept below) (list_any kept names) (of_word w.0 w.1),
  )

  -- all of them
  abbrev pub all_found : List (List ℕ)
  all_found = ((if kept text then text ∷ [] else []) ++ filter kept below) ++ filter kept names

  itself : (word : List ℕ) (b : Bool) → kept text ≡ b → Contains (if b then text ∷ [] else []) word → IsWordOf (changed dict c) text word
  itself word true is h = let same = text_is word text (one_text word text h) in record { kept = ap kept same ∙ is; fits = inl same }
  itself word false is h = absurd (let low = h.1 in omega arith)

  found_word : (word : List ℕ) → Contains all_found word → IsWordOf (changed dict c) text word
  found_word word h = elim (Contains-append_cases ((if kept text then text ∷ [] else []) ++ filter kept below) (filter kept names) word h) [
    | inl first ↦ elim (Contains-append_cases (if kept text then text ∷ [] else []) (filter kept below) word first) [
      | inl here ↦ itself word (kept text) refl here
      | inr there ↦ let is = (Contains-filter kept below word).0 there in listed_word dict c laid text word is.1 ((exact word).0 is.0).1
    ]
    | inr there ↦ let is = (Contains-filter kept names word).0 there in listed_word dict c laid text word is.1 (laid.stems.only text word is.0)
  ]

  word_found : (word : List ℕ) → IsWordOf (changed dict c) text word → Contains all_found word
  word_found word is = elim (word_listed dict c laid text word below exact is) [
    | inl same ↦ Contains-append_left ((if kept text then text ∷ [] else []) ++ filter kept below) (filter kept names) word
        (Contains-append_left (if kept text then text ∷ [] else []) (filter kept below) word
        (subst (λ b. Contains (if b then text ∷ [] else []) word) (sym (ap kept (sym same) ∙ is.kept)) (0, omega arith, sym same)))
    | inr (inl there) ↦ Contains-append_left ((if kept text then text ∷ [] else []) ++ filter kept below) (filter kept names) word
        (Contains-append_right (if kept text then text ∷ [] else []) (filter kept below) word ((Contains-filter kept below word).1 (there, is.kept)))
    | inr (inr there) ↦ Contains-append_right ((if kept text then text ∷ [] else []) ++ filter kept below) (filter kept names) word ((Contains-filter kept names word).1 (there, is.kept))
  ]

  pub Contains-all : (word : List ℕ) → Contains all_found word ↔ IsWordOf (changed dict c) text word
  Contains-all word = (found_word word, word_found word)

-- ---- the same of the dictionary that is seen

abbrev pub is_word : Dictionary → List ℕ → Bool
is_word dict word = is_some (get dict.words word)

-- ---- the words at a key

module _ (base seen : Dictionary) (c : Changes) (laid : IsLaid c) (is : changed base c ≡ seen) (by : By) where
  pub listed_are : {A B S : Type 0} (lists : IndexMap (Vec ℕ A) (Vec (List ℕ) B) S) → AreListed by (IsNamed c) lists → (key : List ℕ) (below : List (List ℕ))
      → ((w : List ℕ) → Contains below w ↔ (IsSome (get base.words w) × (is_under by key w ≡ true))) → (word : List ℕ)
      → Contains (filter (is_word seen) below ++ filter (is_word seen) (texts_at lists key)) word ↔ (IsSome (get seen.words word) × (is_under by key word ≡ true))
  listed_are lists listed key below exact word = (
    λ h. elim (Contains-append_cases (filter (is_word seen) below) (filter (is_word seen) (texts_at lists key)) word h) [
      | inl there ↦ let found = (Contains-filter (is_word seen) below word).0 there in (found.1, ((exact word).0 found.0).1)
      | inr there ↦ let found = (Contains-filter (is_word seen) (texts_at lists key) word).0 there in (found.1, listed.only key word found.0)
    ],
    λ h. elim (where_kept base c laid word (subst (λ (d : Dictionary). IsSome (get d.words word)) (sym is) h.0)) [
      | inl named ↦ Contains-append_right (filter (is_word seen) below) (filter (is_word seen) (texts_at lists key)) word ((Contains-filter (is_word seen) (texts_at lists key) word).1 (listed.all key word named h.1, h.0))
      | inr kept ↦ Contains-append_left (filter (is_word seen) below) (filter (is_word seen) (texts_at lists key)) word ((Contains-filter (is_word seen) below word).1 ((exact word).1 (kept, h.1), h.0))
    ],
  )

-- the compounds with a first part
pub compounds_are : (seen : Dictionary) (first : List ℕ) (found : List (List ℕ)) → ((word : List ℕ) → Contains found word ↔ (IsSome (get seen.words word) × (is_under First first word ≡ true)))
    → (word : List ℕ) → Contains found word ↔ IsCompoundOf seen first word
compounds_are seen first found exact word = (
  λ h. let is = (exact word).0 h in record { kept = is.0; begins = under_gives First first word is.1 },
  λ one. (exact word).1 (one.kept, under_itself First first word one.begins),
)

-- ---- all words and all macros

named_key : (c : Changes) (word : List ℕ) → IsNamed c word → Contains (text_keys c.words) word
named_key c word h = (Contains-among (text_keys c.words) word).1 (sym (found_among word c.words.entries) ∙ h)

module _ (base seen : Dictionary) (c : Changes) (laid : IsLaid c) (is : changed base c ≡ seen) where
  pub words_known : (below : List (List ℕ)) → ((w : List ℕ) → Contains below w ↔ IsSome (get base.words w)) → (word : List ℕ)
      → Contains (filter (is_word seen) (below ++ text_keys c.words)) word ↔ IsSome (get seen.words word)
  words_known below exact word = (
    λ h. ((Contains-filter (is_word seen) (below ++ text_keys c.words) word).0 h).1,
    λ h. (Contains-filter (is_word seen) (below ++ text_keys c.words) word).1 (there (where_kept base c laid word (subst (λ (d : Dictionary). IsSome (get d.words word)) (sym is) h)), h),
  )
    where
      there : IsNamed c word ⊎ IsSome (get base.words word) → Contains (below ++ text_keys c.words) word
      there (inl named) = Contains-append_right below (text_keys c.words) word (named_key c word named)
      there (inr kept) = Contains-append_left below (text_keys c.words) word ((exact word).1 kept)

  pub macros_known : (below : List (List ℕ)) → ((w : List ℕ) → Contains below w ↔ IsSome (get base.macros w)) → (name : List ℕ)
      → Contains (below ++ text_keys c.macros) name ↔ IsSome (get seen.macros name)
  macros_known below exact name = (
    λ h. subst (λ (d : Dictionary). IsSome (get d.macros name)) is (of_keys (at_text c.macros name) refl (Contains-append_cases below (text_keys c.macros) name h)),
    λ h. to_keys (at_text c.macros name) refl (subst (λ (d : Dictionary). IsSome (get d.macros name)) (sym is) h),
  )
    where
      macro_is : (found : Option Named) → at_text c.macros name ≡ found → get (changed base c).macros name ≡ over (option_map (λ m. Some (named_by m)) found) (get base.macros name)
      macro_is found found_is = get-macro base c name ∙ ap (λ o. over (option_map (λ m. Some (named_by m)) o) (get base.macros name)) found_is

      found_key : Contains (text_keys c.macros) name ↔ IsSome (at_text c.macros name)
      found_key = (
        λ h. found_among name c.macros.entries ∙ (Contains-among (text_keys c.macros) name).0 h,
        λ h. (Contains-among (text_keys c.macros) name).1 (sym (found_among name c.macros.entries) ∙ h),
      )

      of_keys : (found : Option Named) → at_text c.macros name ≡ found → Contains below name ⊎ Contains (text_keys c.macros) name → IsSome (get (changed base c).macros name)
      of_keys (Some m) found_is h = ap is_some (macro_is (Some m) found_is)
      of_keys None found_is (inl kept) = subst IsSome (sym (macro_is None found_is)) ((exact name).0 kept)
      of_keys None found_is (inr key) = absurd (true≢false (sym (found_key.0 key) ∙ ap is_some found_is))

      to_keys : (found : Option Named) → at_text c.macros name ≡ found → IsSome (get (changed base c).macros name) → Contains (below ++ text_keys c.macros) name
      to_keys (Some m) found_is h = Contains-append_right below (text_keys c.macros) name (found_key.1 (ap is_some found_is))
      to_keys None found_is h = Contains-append_left below (text_keys c.macros) name ((exact name).1 (subst IsSome (macro_is None found_is) h))

-- the text itself if it is a word, and those of two lists that are words
abbrev pub words_among : Dictionary → List ℕ → List (List ℕ) → List (List ℕ) → List (List ℕ)
words_among dict text below names = ((if is_word dict text then text ∷ [] else []) ++ filter (is_word dict) below) ++ filter (is_word dict) names

module _ (base seen : Dictionary) (c : Changes) (laid : IsLaid c) (is : changed base c ≡ seen) (text : List ℕ) (below : List (List ℕ)) (exact : (w : List ℕ) → Contains below w ↔ (IsSome (get base.words w) × (is_under Stem text w ≡ true))) where
  pub has_seen : (b : Bool) → ((is_word seen text || list_any (is_word seen) below) || list_any (is_word seen) (texts_at c.stems text)) ≡ b → (b ≡ true) ↔ ((word : List ℕ) × IsWordOf seen text word)
  has_seen b =
      subst (λ (d : Dictionary). ((is_word d text || list_any (is_word d) below) || list_any (is_word d) (texts_at c.stems text)) ≡ b → (b ≡ true) ↔ ((word : List ℕ) × IsWordOf d text word)) is
      (has_word base c laid text below exact b)

  pub Contains-seen : (word : List ℕ) → Contains (words_among seen text below (texts_at c.stems text)) word ↔ IsWordOf seen text word
  Contains-seen word =
      subst (λ (d : Dictionary). Contains (words_among d text below (texts_at c.stems text)) word ↔ IsWordOf d text word) is (Contains-all base c laid text below exact word)
