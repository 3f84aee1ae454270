-- Tables that gather the names of entries.
use Rattle.std.proofs.Common.{◌≡◌, ◌≢◌, ℕ, ◌<◌, List, [], ◌∷◌, ◌++◌, Bool, true, false, ◌||◌, if◌then◌else◌, map, length, get_or, Bor, All, AllPairs, refl, sym, ap, subst, ◌∙◌, arith, append_assoc, length-append, Some}
use Rattle.std.specs.declared.vec.Vec.{Vec}
use Rattle.std.specs.List.{IsDistinct, AllByRecursion, list_any, flat_map}
use Rattle.std.specs.Cmp.Lexicographic.{bytes_decides, nat_list_eq_equiv}
use Rattle.std.proofs.lemmas.List.{get_or_append_left, length-map}
use Rattle.std.proofs.lemmas.List.Elements.{All-append, All-nil, All-cons}
use Rattle.std.proofs.Math.Seq.{get_or-append_seam}
use Rattle.std.proofs.lemmas.Map.Keys.{IsDistinct-head, IsDistinct-tail}
use Rattle.std.proofs.lemmas.Map.Made.{IsDistinct-from_AllPairs}
use Rattle.std.specs.Option.{option_map, option_map_or}
use Rattle.std.proofs.lemmas.Option.{slice_get-map, slice_get-get_or}
use Rattle.std.specs.Map.Iter.{deref}
use Rattle.indexmap.specs.IndexMap.{IndexMap, insert_entry, keys, values}
use Rattle.lg_gram.specs.Trees.{empty, tree_of}
use Rattle.lg_gram.specs.declared.entry.Entry.{Entry}
use Rattle.lg_gram.specs.declared.expr.Expr.{Expr}
use Rattle.lg_gram.specs.Formulas.{LevelFits, prices_are_small}
use Rattle.lg_gram.specs.Fits.{Fits}
use Rattle.lg_dict.specs.declared.tables.Macro.{Macro}
use Rattle.lg_dict.specs.Dictionary.{AreEntries, words_with_formulas, macros_with_formulas}
use Rattle.lg_dict.specs.Gathered.{AreGathered}
use Rattle.lg_dict.specs.Tables.{text_entries, text_keys, same_text, tree_at, macro_at, with_trees, with_macros, IsMacro}
use Rattle.lg_dict.proofs.Lookups.{key_eq, shown_as}

map-append : {X Y : Type 0} (f : X → Y) (xs ys : List X) → map f (xs ++ ys) ≡ map f xs ++ map f ys
map-append f [] ys = refl
map-append f (x ∷ xs) ys = ap (λ l. f x ∷ l) (map-append f xs ys)

map-map : {X Y Z : Type 0} (f : Y → Z) (g : X → Y) (xs : List X) → map f (map g xs) ≡ map (λ x. f (g x)) xs
map-map f g [] = refl
map-map f g (x ∷ xs) = ap (λ l. f (g x) ∷ l) (map-map f g xs)

map-same : {X : Type 0} (xs : List X) → map (λ x. x) xs ≡ xs
map-same [] = refl
map-same (x ∷ xs) = ap (λ l. x ∷ l) (map-same xs)

flat_map-append : {X Y : Type 0} (f : X → List Y) (xs ys : List X) → flat_map f (xs ++ ys) ≡ flat_map f xs ++ flat_map f ys
flat_map-append f [] ys = refl
flat_map-append f (x ∷ xs) ys = ap (λ l. f x ++ l) (flat_map-append f xs ys) ∙ sym (append_assoc (f x) (flat_map f xs) (flat_map f ys))

append-none : {X : Type 0} (xs : List X) → xs ++ [] ≡ xs
append-none [] = refl
append-none (x ∷ xs) = ap (λ l. x ∷ l) (append-none xs)

both_false : (a b : Bool) → (a || b) ≡ false → (a ≡ false) × (b ≡ false)
both_false true b e = absurd (let h : true ≡ false = e in cc)
both_false false b e = (refl, e)

seam : {X : Type 0} (P : X → Type 0) (xs : List X) (y : X) (ys : List X) → AllByRecursion P (xs ++ y ∷ ys) → P y
seam P [] y ys h = h.0
seam P (x ∷ xs) y ys h = seam P xs y ys h.1

-- in a list of texts that differ, a text is not among those before it
distinct_front : (xs : List (List ℕ)) (y : List ℕ) (ys : List (List ℕ)) → IsDistinct same_text (xs ++ y ∷ ys) → list_any (same_text y) xs ≡ false
distinct_front [] y ys h = refl
distinct_front (x ∷ xs) y ys h =
    ap (λ b. b || list_any (same_text y) xs) (nat_list_eq_equiv.symm y x ∙ seam (λ z. same_text x z ≡ false) xs y ys (IsDistinct-head same_text x (xs ++ y ∷ ys) h))
    ∙ distinct_front xs y ys (IsDistinct-tail same_text x (xs ++ y ∷ ys) h)

AllPairs-front : {X : Type 0} (R : X → X → Type 0) (xs ys : List X) → AllPairs R (xs ++ ys) → AllPairs R xs
AllPairs-front R xs ys h i j d below within =
    subst (λ x. R x (get_or xs j d)) (get_or_append_left xs ys d i (omega arith))
    (subst (λ y. R (get_or (xs ++ ys) i d) y) (get_or_append_left xs ys d j within) (h i j d below (omega (arith, length-append xs ys))))

-- the names of an entry differ from each other and from those before it
pub distinct_upto : {E : Type 0} (names : E → List (List ℕ)) (done : List E) (e : E) (rest : List E) → AllPairs (λ a b. a ≢ b) (flat_map names (done ++ e ∷ rest))
    → IsDistinct same_text (flat_map names done ++ names e)
distinct_upto names done e rest apart =
    let cut : flat_map names (done ++ e ∷ rest) ≡ (flat_map names done ++ names e) ++ flat_map names rest =
    flat_map-append names done (e ∷ rest) ∙ sym (append_assoc (flat_map names done) (names e) (flat_map names rest)) in
    IsDistinct-from_AllPairs bytes_decides _ (AllPairs-front (λ a b. a ≢ b) _ _ (subst (AllPairs (λ a b. a ≢ b)) cut apart))

abbrev as_texts : {A V : Type 0} → List (Vec ℕ A × V) → List (List ℕ × V)
as_texts es = map (λ e. (e.0.items, e.1)) es

abbrev firsts : {X : Type 0} → List (List ℕ × X) → List (List ℕ)
firsts es = map (λ e. e.0) es

abbrev seconds : {X : Type 0} → List (List ℕ × X) → List X
seconds es = map (λ e. e.1) es

abbrev with_value : {X : Type 0} → X → List (List ℕ) → List (List ℕ × X)
with_value x names = map (λ name. (name, x)) names

all_same : {V : Type 0} (P : V → Type 0) (value : V) → P value → (names : List (List ℕ)) → All P (seconds (with_value value names))
all_same P value here [] = All-nil P
all_same P value here (name ∷ names) = All-cons P value (seconds (with_value value names)) here (all_same P value here names)

inserted : {A V : Type 0} (es : List (Vec ℕ A × V)) (key : Vec ℕ A) (value : V) → list_any (same_text key.items) (map (λ e. e.0.items) es) ≡ false
    → as_texts (insert_entry key_eq es key value) ≡ as_texts es ++ (key.items, value) ∷ []
inserted [] key value h = refl
inserted (e ∷ es) key value h =
    let parts = both_false (same_text key.items e.0.items) (list_any (same_text key.items) (map (λ e. e.0.items) es)) h in
    ap (λ b. as_texts (if b then (e.0, value) ∷ es else e ∷ insert_entry key_eq es key value)) parts.0
    ∙ ap (λ l. (e.0.items, e.1) ∷ l) (inserted es key value parts.1)

module _ {A V S : Type 0} where
  text_keys-entries : (table : IndexMap (Vec ℕ A) V S) → text_keys table ≡ firsts (text_entries table)
  text_keys-entries table = sym (map-map (λ (e : List ℕ × V). e.0) (λ (e : Vec ℕ A × V). (e.0.items, e.1)) table.entries)

  values-entries : (table : IndexMap (Vec ℕ A) V S) → values table ≡ seconds (text_entries table)
  values-entries table = sym (map-map (λ (e : List ℕ × V). e.1) (λ (e : Vec ℕ A × V). (e.0.items, e.1)) table.entries)

  -- one of the names goes into the table, and the rest are left
  pub named-more : (before after : IndexMap (Vec ℕ A) V S) (value : V) (key : Vec ℕ A) (names rest : List (List ℕ)) → names ≡ key.items ∷ rest
      → after.entries ≡ insert_entry key_eq before.entries key value → IsDistinct same_text (text_keys before ++ names)
      → IsDistinct same_text (text_keys after ++ rest) × (text_entries after ++ with_value value rest ≡ text_entries before ++ with_value value names)
  named-more before after value key names rest is step distinct =
      let apart : IsDistinct same_text (text_keys before ++ key.items ∷ rest) = subst (λ l. IsDistinct same_text (text_keys before ++ l)) is distinct in
      let grown : text_entries after ≡ text_entries before ++ (key.items, value) ∷ [] =
      ap as_texts step ∙ inserted before.entries key value (distinct_front (text_keys before) key.items rest apart) in
      let keys : text_keys after ≡ text_keys before ++ key.items ∷ [] =
      text_keys-entries after ∙ ap firsts grown ∙ map-append (λ (e : List ℕ × V). e.0) (text_entries before) ((key.items, value) ∷ []) ∙ ap (λ l. l ++ key.items ∷ []) (sym (text_keys-entries before)) in (
        subst (IsDistinct same_text) (sym (append_assoc (text_keys before) (key.items ∷ []) rest) ∙ ap (λ l. l ++ rest) (sym keys)) apart,
        ap (λ l. l ++ with_value value rest) grown
            ∙ append_assoc (text_entries before) ((key.items, value) ∷ []) (with_value value rest)
            ∙ ap (λ l. text_entries before ++ with_value value l) (sym is),
      )

  -- a fact of each value stays where the new value has it
  pub All-values-more : (P : V → Type 0) (old new : IndexMap (Vec ℕ A) V S) (names : List (List ℕ)) (value : V) → text_entries new ≡ text_entries old ++ map (λ name. (name, value)) names
      → P value → All P (values old) → All P (values new)
  All-values-more P old new names value grown here so_far =
      let vals : values new ≡ values old ++ seconds (with_value value names) =
      values-entries new ∙ ap seconds grown ∙ map-append (λ (e : List ℕ × V). e.1) (text_entries old) (with_value value names)
      ∙ ap (λ l. l ++ seconds (with_value value names)) (sym (values-entries old)) in
      subst (All P) (sym vals) (All-append P (values old) (seconds (with_value value names)) so_far (all_same P value here names))

-- the names of the entries, each with what its entry shows
abbrev pub gathered : {E X : Type 0} → (E → List (List ℕ)) → (E → X) → List E → List (List ℕ × X)
gathered names show es = flat_map (λ e. map (λ name. (name, show e)) (names e)) es

module _ {E X : Type 0} (names : E → List (List ℕ)) (show : E → X) where
  names_gathered : (es : List E) → firsts (gathered names show es) ≡ flat_map names es
  names_gathered [] = refl
  names_gathered (e ∷ es) =
      map-append (λ (p : List ℕ × X). p.0) (with_value (show e) (names e)) (gathered names show es)
      ∙ ap (λ l. l ++ firsts (gathered names show es)) (map-map (λ (p : List ℕ × X). p.0) (λ (name : List ℕ). (name, show e)) (names e) ∙ map-same (names e))
      ∙ ap (λ l. names e ++ l) (names_gathered es)

  module _ {A V S : Type 0} (g : V → X) where
    -- the keys are the names so far
    pub text_keys-gathered : (table : IndexMap (Vec ℕ A) V S) (es : List E) → shown_as g (text_entries table) ≡ gathered names show es → text_keys table ≡ flat_map names es
    text_keys-gathered table es is =
        text_keys-entries table
        ∙ sym (map-map (λ (p : List ℕ × X). p.0) (λ (e : List ℕ × V). (e.0, g e.1)) (text_entries table))
        ∙ ap firsts is
        ∙ names_gathered es

    -- the names of one more entry
    pub gathered-more : (old new : IndexMap (Vec ℕ A) V S) (done : List E) (e : E) (value : V) → shown_as g (text_entries old) ≡ gathered names show done
        → text_entries new ≡ text_entries old ++ with_value value (names e) → g value ≡ show e → shown_as g (text_entries new) ≡ gathered names show (done ++ e ∷ [])
    gathered-more old new done e value so_far grown shows =
        ap (shown_as g) grown
        ∙ map-append (λ (p : List ℕ × V). (p.0, g p.1)) (text_entries old) (with_value value (names e))
        ∙ ap (λ l. l ++ shown_as g (with_value value (names e))) so_far
        ∙ ap (λ l. gathered names show done ++ l) (map-map (λ (p : List ℕ × V). (p.0, g p.1)) (λ (name : List ℕ). (name, value)) (names e) ∙ ap (λ x. with_value x (names e)) shows)
        ∙ sym (flat_map-append (λ e. with_value (show e) (names e)) done (e ∷ []) ∙ ap (λ l. gathered names show done ++ l) (append-none (with_value (show e) (names e))))

abbrev pub formulas_of : List Entry → List Expr
formulas_of es = map (λ e. e.formula) es

-- what stands at the number of an entry
tree_there : (done : List Entry) (e : Entry) (rest : List Entry) → tree_at (formulas_of (done ++ e ∷ rest)) (length done) ≡ tree_of e.formula
tree_there done e rest =
    let within : length done < length (done ++ e ∷ rest) = omega (arith, length-append done (e ∷ rest)) in
    ap (λ o. option_map_or tree_of o empty)
    (slice_get-map (λ (e : Entry). e.formula) (done ++ e ∷ rest) (length done)
    ∙ ap (option_map (λ (e : Entry). e.formula)) (slice_get-get_or (done ++ e ∷ rest) (length done) e within ∙ ap Some (get_or-append_seam done e rest e)))

-- what the first entries come to: each number is that of one of all formulas
pub record HasGathered {A S : Type 0} (entries done : List Entry) (formulas : List Expr) (words : IndexMap (Vec ℕ A) ℕ S) (macros : IndexMap (Vec ℕ A) Macro S) : Type 0 where
  pub formulas_are : formulas ≡ formulas_of done
  pub words_are : with_trees (formulas_of entries) (text_entries words) ≡ words_with_formulas done
  pub within : All (λ number. number < length (formulas_of entries)) (values words)
  pub macros_are : with_macros (formulas_of entries) (text_entries macros) ≡ macros_with_formulas done
  pub fit : All (IsMacro (formulas_of entries)) (values macros)

pub nothing_gathered : {A S : Type 0} (entries : List Entry) (formulas : List Expr) (words : IndexMap (Vec ℕ A) ℕ S) (macros : IndexMap (Vec ℕ A) Macro S)
    → formulas ≡ [] → words.entries ≡ [] → macros.entries ≡ [] → HasGathered entries [] formulas words macros
nothing_gathered entries formulas words macros none no_words no_macros = record {
  formulas_are = none;
  words_are = ap (λ es. with_trees (formulas_of entries) (as_texts es)) no_words;
  within = subst (All (λ number. number < length (formulas_of entries))) (sym (ap (map (λ e. e.1)) no_words)) (All-nil _);
  macros_are = ap (λ es. with_macros (formulas_of entries) (as_texts es)) no_macros;
  fit = subst (All (IsMacro (formulas_of entries))) (sym (ap (map (λ e. e.1)) no_macros)) (All-nil _);
}

module _ {A S : Type 0} (done : List Entry) (e : Entry) (rest : List Entry) (formulas : List Expr) (words : IndexMap (Vec ℕ A) ℕ S) (macros : IndexMap (Vec ℕ A) Macro S)
    (are : AreEntries (done ++ e ∷ rest)) (so_far : HasGathered (done ++ e ∷ rest) done formulas words macros) where
  abbrev all : List Expr
  all = formulas_of (done ++ e ∷ rest)

  -- the words of the next entry are not there yet, and neither are its macros
  pub words_apart : IsDistinct same_text (text_keys words ++ e.words)
  words_apart =
      subst (λ l. IsDistinct same_text (l ++ e.words)) (sym (text_keys-gathered (λ (e : Entry). e.words) (λ (e : Entry). tree_of e.formula) (tree_at all) words done so_far.words_are))
      (distinct_upto (λ (e : Entry). e.words) done e rest are.words)

  pub macros_apart : IsDistinct same_text (text_keys macros ++ e.macros)
  macros_apart =
      subst (λ l. IsDistinct same_text (l ++ e.macros))
      (sym (text_keys-gathered (λ (e : Entry). e.macros) (λ (e : Entry). (tree_of e.formula, e.level)) (macro_at all) macros done so_far.macros_are))
      (distinct_upto (λ (e : Entry). e.macros) done e rest are.macros)

  number_is : length formulas ≡ length done
  number_is = ap length so_far.formulas_are ∙ length-map done (λ (e : Entry). e.formula)

  -- one entry more, by its number
  pub entry-more : (more : List Expr) (words_then : IndexMap (Vec ℕ A) ℕ S) (macros_then : IndexMap (Vec ℕ A) Macro S) (number : ℕ) → number ≡ length formulas → more ≡ formulas ++ e.formula ∷ []
      → text_entries words_then ≡ text_entries words ++ map (λ name. (name, number)) e.words
      → text_entries macros_then ≡ text_entries macros ++ map (λ name. (name, record { formula = number; level = e.level })) e.macros
      → prices_are_small (tree_of e.formula) ≡ true → HasGathered (done ++ e ∷ rest) (done ++ e ∷ []) more words_then macros_then
  entry-more more words_then macros_then number is pushed words_grown macros_grown small =
      let found : Macro = record { formula = number; level = e.level } in
      let within : number < length all = omega (arith, is, number_is, length-map (done ++ e ∷ rest) (λ (e : Entry). e.formula), length-append done (e ∷ rest)) in
      let tree : tree_at all number ≡ tree_of e.formula = ap (tree_at all) (is ∙ number_is) ∙ tree_there done e rest in
      let level : LevelFits e.level (tree_of e.formula) =
      subst (λ x. LevelFits x.level (tree_of x.formula)) (get_or-append_seam done e rest e) (are.levels (length done) e (omega (arith, length-append done (e ∷ rest)))) in
      let fits : Fits e.level (tree_at all number) = subst (Fits e.level) (sym tree) (record { level_fits = level; prices = small }) in
      record {
        formulas_are = pushed ∙ ap (λ l. l ++ e.formula ∷ []) so_far.formulas_are ∙ sym (map-append (λ (e : Entry). e.formula) done (e ∷ []));
        words_are = gathered-more (λ (e : Entry). e.words) (λ (e : Entry). tree_of e.formula) (tree_at all) words words_then done e number so_far.words_are words_grown tree;
        within = All-values-more (λ number. number < length all) words words_then e.words number words_grown within so_far.within;
        macros_are = gathered-more (λ (e : Entry). e.macros) (λ (e : Entry). (tree_of e.formula, e.level)) (macro_at all) macros macros_then done e found so_far.macros_are macros_grown (λ j. (tree j, e.level));
        fit = All-values-more (IsMacro all) macros macros_then e.macros found macros_grown (record { within = within; fits = fits }) so_far.fit;
      }

pub none_left : {X : Type 0} (xs : List X) → length xs ≡ 0 → xs ≡ []
none_left [] none = refl
none_left (x ∷ xs) none = absurd (omega (arith, none))

-- once no entry is left
pub all_gathered : {A S : Type 0} (entries done rest : List Entry) (formulas : List Expr) (words : IndexMap (Vec ℕ A) ℕ S) (macros : IndexMap (Vec ℕ A) Macro S) → entries ≡ done ++ rest → rest ≡ []
    → HasGathered entries done formulas words macros → AreGathered entries formulas words macros
all_gathered entries done rest formulas words macros are none has =
    let all : done ≡ entries = sym (append-none done) ∙ ap (λ l. done ++ l) (sym none) ∙ sym are in
    let same : formulas ≡ formulas_of entries = has.formulas_are ∙ ap formulas_of all in
    record {
      formulas_are = same;
      words_are = ap (λ fs. with_trees fs (text_entries words)) same ∙ has.words_are ∙ ap words_with_formulas all;
      within = subst (λ (fs : List Expr). All (λ number. number < length fs) (values words)) (sym same) has.within;
      macros_are = ap (λ fs. with_macros fs (text_entries macros)) same ∙ has.macros_are ∙ ap macros_with_formulas all;
      fit = subst (λ (fs : List Expr). All (IsMacro fs) (values macros)) (sym same) has.fit;
    }

-- the keys that an iterator showed, as their bytes
pub keys_read : {A V S : Type 0} (table : IndexMap (Vec ℕ A) V S) (shown : List (Bor (Vec ℕ A))) → map deref shown ≡ keys table → map (λ key. key.now.items) shown ≡ text_keys table
keys_read {A} {V} table shown all =
    sym (map-map (λ (key : Vec ℕ A). key.items) deref shown) ∙ ap (map (λ (key : Vec ℕ A). key.items)) all ∙ map-map (λ (key : Vec ℕ A). key.items) (λ (e : Vec ℕ A × V). e.0) table.entries
