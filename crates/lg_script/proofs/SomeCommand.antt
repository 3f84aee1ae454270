-- At least one: a word and a rest mean a command or a fault.
use Rattle.std.proofs.Common.{◌≡◌, ◌≢◌, ℕ, ◌≤◌, ◌<◌, Bool, true, false, List, [], ◌∷◌, ◌⊎◌, inl, inr, length, codes, Result, Ok, Err, refl, sym, subst, ◌∙◌, arith}
use Rattle.std.specs.Prelude.{◌==◌}
use Rattle.std.proofs.Math.Dec.{leb}
use Rattle.std.specs.List.{AllByRecursion}
use Rattle.std.specs.Cmp.Lexicographic.{pointwise}
use Rattle.std.proofs.lemmas.Bool.Decides.{Decides-eqb, leb_tells}
use Rattle.std.proofs.lemmas.Slice.Eq.{slice_eq-Decides}
use Rattle.lg_gram.specs.declared.entry.Item.{Item}
use Rattle.lg_gram.specs.declared.entry.ItemKind.{ItemKind}
use Rattle.lg_gram.specs.declared.entry.ItemKind.TheVariants as kinds
use Rattle.lg_lex.specs.declared.run.Separators.TheVariants.{Blanks}
use Rattle.lg_lex.specs.Runs.{is_separator, AreInner}
use Rattle.lg_dictread.specs.declared.entry_text.EntryError.{EntryError}
use Rattle.lg_gram.specs.EntryViews.{EntryView}
use Rattle.lg_dictread.specs.EntryTexts.{EntryTextIs}
use Rattle.lg_edit.specs.Edits.{puts, sets, removes, DefinesWords, DefinesOneMacro}
use Rattle.lg_script.specs.Commands.{CommandView, parses, lists, goes_on, makes, asks, Fault, unknown_command, bad_number, bad_edit, IsDigit, IsNumber, written_number, no_entry, other_items, CommandIs, parse, list, no_list, more, more_than_more, version, more_than_version, set, no_set, macro, no_macro, del, no_del, unknown}
use Rattle.lg_script.specs.Parts.{EndsInner}
use Rattle.lg_script.proofs.Listings.{Cut, listing_cut, listing_is}
use Rattle.lg_script.proofs.SomeLine.{skip, word_cut}

-- ---- tests

-- a fact, or its contrary
abbrev Decided : Type 0 → Type 0
Decided P = P ⊎ (P → ⊥)

both : {P Q : Type 0} → Decided P → Decided Q → Decided (P × Q)
both (inl p) (inl q) = inl (p, q)
both (inl p) (inr none) = inr (λ h. none h.1)
both (inr none) q = inr (λ h. none h.0)

all_decided : {A : Type 0} (P : A → Type 0) → ((a : A) → Decided (P a)) → (xs : List A) → Decided (AllByRecursion P xs)
all_decided P test [] = inl tt
all_decided P test (x ∷ xs) = both (test x) (all_decided P test xs)

is_false : (b : Bool) → Decided (b ≡ false)
is_false true = inr (λ h. cc)
is_false false = inl refl

at_most_by : (n m : ℕ) → ((leb n m ≡ true) × (n ≤ m)) ⊎ ((leb n m ≡ false) × (m < n)) → Decided (n ≤ m)
at_most_by n m (inl (t, h)) = inl h
at_most_by n m (inr (t, h)) = inr (λ k. omega (arith, h, k))

at_most : (n m : ℕ) → Decided (n ≤ m)
at_most n m = at_most_by n m (leb_tells n m)

is_word : (k : ItemKind) → Decided (k ≡ kinds.Word)
is_word kinds.Word = inl refl
is_word kinds.Macro = inr (λ e. cc)
is_word kinds.File = inr (λ e. cc)

is_macro : (k : ItemKind) → Decided (k ≡ kinds.Macro)
is_macro kinds.Word = inr (λ e. cc)
is_macro kinds.Macro = inl refl
is_macro kinds.File = inr (λ e. cc)

-- ---- numbers

abbrev Number : List ℕ → Type 0
Number ds = ((n : ℕ) × IsNumber ds n) ⊎ ((n : ℕ) → IsNumber ds n → ⊥)

-- the number that is written lies in the range
abbrev InRange : List ℕ → Type 0
InRange ds = ((length ds ≤ 7) × AllByRecursion IsDigit ds) × ((1 ≤ written_number 0 ds) × (written_number 0 ds ≤ 1000000))

number_by : (ds : List ℕ) → ds ≢ [] → Decided (InRange ds) → Number ds
number_by ds some (inl ((f, a), (l, m))) = inl (written_number 0 ds, record { some = some; few = f; all_digits = a; value = refl; least = l; most = m })
number_by ds some (inr none) = inr (λ n h. none ((h.few, h.all_digits), (subst (λ (k : ℕ). 1 ≤ k) h.value h.least, subst (λ (k : ℕ). k ≤ 1000000) h.value h.most)))

number : (ds : List ℕ) → Number ds
number [] = inr (λ n h. h.some refl)
number (d ∷ ds) =
    let v = written_number 0 (d ∷ ds) in
    let digits = all_decided IsDigit (λ b. both (at_most 48 b) (at_most b 57)) (d ∷ ds) in
    number_by (d ∷ ds) (λ e. cc) (both (both (at_most (length (d ∷ ds)) 7) digits) (both (at_most 1 v) (at_most v 1000000)))

-- ---- what a command means

abbrev pub Meaning : List ℕ → List ℕ → Type 0
Meaning w rest = (r : Result CommandView Fault) × CommandIs w rest r

list_by : (rest first behind left second end sentence : List ℕ) → Cut rest first behind left second end sentence → EndsInner rest → Number first → Number second → Meaning (codes "list") rest
list_by rest first behind left second end sentence cut ends (inl (n, h)) (inl (m, k)) =
    (Ok (lists n m sentence), list rest n m sentence (listing_is rest first behind left second end sentence cut n m ends h k))
list_by rest first behind left second end sentence cut ends (inr none) other =
    (Err bad_number, no_list rest (λ n m s is. none n (listing_cut rest first behind left second end sentence cut n m s is).0))
list_by rest first behind left second end sentence cut ends (inl h) (inr none) =
    (Err bad_number, no_list rest (λ n m s is. none m (listing_cut rest first behind left second end sentence cut n m s is).1))

list_some : (rest : List ℕ) → EndsInner rest → Meaning (codes "list") rest
list_some rest ends =
    let a = word_cut rest in
    let b = skip a.1 in
    let c = word_cut b.0 in
    let d = skip c.1 in
    list_by rest a.0 a.1 b.0 c.0 c.1 d.0 (record {
      split = a.2;
      first_inner = a.3;
      first_ends = a.4;
      gap = b.1;
      left_begins = b.2;
      left_split = c.2;
      second_inner = c.3;
      second_ends = c.4;
      more = d.1;
      sentence_begins = d.2;
    }) ends (number a.0) (number c.0)

more_some : (rest : List ℕ) → Meaning (codes "more") rest
more_some [] = (Ok goes_on, more)
more_some (b ∷ bs) = (Err unknown_command, more_than_more (b ∷ bs) (λ e. cc))

version_some : (rest : List ℕ) → Meaning (codes "version") rest
version_some [] = (Ok asks, version)
version_some (b ∷ bs) = (Err unknown_command, more_than_version (b ∷ bs) (λ e. cc))

del_by : (b : ℕ) (bs : List ℕ) → Decided (AreInner Blanks (b ∷ bs)) → Meaning (codes "del") (b ∷ bs)
del_by b bs (inl h) = (Ok (makes (removes (b ∷ bs))), del (b ∷ bs) (λ e. cc) h)
del_by b bs (inr none) = (Err bad_edit, no_del (b ∷ bs) (inr none))

del_some : (rest : List ℕ) → Meaning (codes "del") rest
del_some [] = (Err bad_edit, no_del [] (inl refl))
del_some (b ∷ bs) = del_by b bs (all_decided (λ (c : ℕ). is_separator Blanks c ≡ false) (λ c. is_false (is_separator Blanks c)) (b ∷ bs))

abbrev OneMacro : List Item → Type 0
OneMacro is = (i : Item) × (is ≡ i ∷ []) × (i.kind ≡ kinds.Macro)

macro_by : (i : Item) → Decided (i.kind ≡ kinds.Macro) → Decided (OneMacro (i ∷ []))
macro_by i (inl h) = inl (i, refl, h)
macro_by i (inr none) = inr (λ h. let same : i ≡ h.0 = cc in none (subst (λ (j : Item). j.kind ≡ kinds.Macro) (sym same) h.2))

one_macro : (is : List Item) → Decided (OneMacro is)
one_macro [] = inr (λ h. let wrong : [] ≡ h.0 ∷ [] = h.1 in cc)
one_macro (i ∷ []) = macro_by i (is_macro i.kind)
one_macro (i ∷ j ∷ is) = inr (λ h. let wrong : i ∷ j ∷ is ≡ h.0 ∷ [] = h.1 in cc)

set_by : (rest : List ℕ) (e : EntryView) → EntryTextIs rest (Ok e) → Decided (DefinesWords e) → Meaning (codes "set") rest
set_by rest e h (inl a) = (Ok (makes (puts e)), set rest e h a)
set_by rest e h (inr none) = (Err bad_edit, no_set rest (other_items e h none))

set_some : (rest : List ℕ) (r : Result EntryView EntryError) → EntryTextIs rest r → Meaning (codes "set") rest
set_some rest (Ok e) h = set_by rest e h (all_decided (λ (i : Item). i.kind ≡ kinds.Word) (λ i. is_word i.kind) e.items)
set_some rest (Err error) h = (Err bad_edit, no_set rest (no_entry error h))

macro_of : (rest : List ℕ) (e : EntryView) → EntryTextIs rest (Ok e) → Decided (DefinesOneMacro e) → Meaning (codes "macro") rest
macro_of rest e h (inl a) = (Ok (makes (sets e)), macro rest e h a)
macro_of rest e h (inr none) = (Err bad_edit, no_macro rest (other_items e h none))

macro_some : (rest : List ℕ) (r : Result EntryView EntryError) → EntryTextIs rest r → Meaning (codes "macro") rest
macro_some rest (Ok e) h = macro_of rest e h (one_macro e.items)
macro_some rest (Err error) h = (Err bad_edit, no_macro rest (no_entry error h))

abbrev Same : List ℕ → List ℕ → Type 0
Same w v = Decided (w ≡ v)

same_by : (w v : List ℕ) (b : Bool) → pointwise ◌==◌ w v ≡ b → Same w v
same_by w v true e = inl ((slice_eq-Decides Decides-eqb w v (pointwise ◌==◌ w v) refl).0 e)
same_by w v false e = inr (λ q. let wrong : false ≡ true = sym e ∙ (slice_eq-Decides Decides-eqb w v (pointwise ◌==◌ w v) refl).1 q in cc)

same : (w v : List ℕ) → Same w v
same w v = same_by w v (pointwise ◌==◌ w v) refl

named : (w v rest : List ℕ) → w ≡ v → Meaning v rest → Meaning w rest
named w v rest e (r, h) = (r, subst (λ (x : List ℕ). CommandIs x rest r) (sym e) h)

module _ (some_text : (bytes : List ℕ) → (x : Result EntryView EntryError) × EntryTextIs bytes x) where
  meaning_by : (w rest : List ℕ) → EndsInner rest → Same w (codes "parse") → Same w (codes "list") → Same w (codes "more") → Same w (codes "version") → Same w (codes "set") → Same w (codes "macro") → Same w (codes "del") → Meaning w rest
  meaning_by w rest ends (inl p) b c d e f g = named w (codes "parse") rest p (Ok (parses rest), parse rest)
  meaning_by w rest ends (inr a) (inl p) c d e f g = named w (codes "list") rest p (list_some rest ends)
  meaning_by w rest ends (inr a) (inr b) (inl p) d e f g = named w (codes "more") rest p (more_some rest)
  meaning_by w rest ends (inr a) (inr b) (inr c) (inl p) e f g = named w (codes "version") rest p (version_some rest)
  meaning_by w rest ends (inr a) (inr b) (inr c) (inr d) (inl p) f g = let x = some_text rest in named w (codes "set") rest p (set_some rest x.0 x.1)
  meaning_by w rest ends (inr a) (inr b) (inr c) (inr d) (inr e) (inl p) g = let x = some_text rest in named w (codes "macro") rest p (macro_some rest x.0 x.1)
  meaning_by w rest ends (inr a) (inr b) (inr c) (inr d) (inr e) (inr f) (inl p) = named w (codes "del") rest p (del_some rest)
  meaning_by w rest ends (inr a) (inr b) (inr c) (inr d) (inr e) (inr f) (inr g) = (Err unknown_command, unknown w rest (a, b, c, d, e, f, g))

  pub meaning : (w rest : List ℕ) → EndsInner rest → Meaning w rest
  meaning w rest ends = meaning_by w rest ends (same w (codes "parse")) (same w (codes "list")) (same w (codes "more")) (same w (codes "version")) (same w (codes "set")) (same w (codes "macro")) (same w (codes "del"))
