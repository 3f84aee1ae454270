-- What macros stand for, by the tables of a reader.
use Rattle.std.proofs.Common.{◌≡◌, ℕ, ◌+◌, ◌<◌, Bool, true, false, cond, if◌then◌else◌, List, [], ◌∷◌, ◌++◌, length, Option, None, Some, IfSome, Bor, Vec, nat_eq, refl, sym, ap, subst, ◌∙◌, arith, length-append}
use Rattle.std.proofs.lemmas.List.{get_or_append_left}
use Rattle.std.proofs.lemmas.Option.{slice_get_past, slice_get_read, slice_get-get_or, slice_get_cases}
use Rattle.std.proofs.Math.Seq.{get_or-append_seam}
use lib.Pointwise.{pointwise}
use mathlib.Core.Logic.{⊎_elim}
use Rattle.std.proofs.Common.{All}
use Rattle.std.proofs.lemmas.List.Elements.{All-from_recursion}
use Rattle.lg_gram.specs.Filled.{Formulas}
use Rattle.std.specs.List.{list_any, slice_get, AllByRecursion}
use Rattle.lg_expr.specs.Fits.{Fits, AllFit}
use Rattle.lg_dictread.specs.declared.earlier.Earlier as code_earlier
use Rattle.std.specs.Map.{lookup}
use Rattle.std.specs.Option.{option_map}
use Rattle.std.specs.Slice.{IsItemAt}
use Rattle.indexmap.specs.IndexMap.{IndexMap, get_by}
use Rattle.lg_gram.specs.declared.entry.Entry.{Entry}
use Rattle.lg_gram.specs.Trees.{Tree, tree_of}
use Rattle.lg_dictread.specs.Definitions.{same_text}
use Rattle.lg_dictread.specs.Tables.{text_entries}
use Rattle.lg_dictread.specs.Reading.{entry_formula, formula_at, number_of_macro, formulas_of, IsKept}
use Rattle.lg_dictread.proofs.Lookups.{seen_lookup}

-- the entry at a number
pub entry_got : (entries : List Entry) (number : ℕ) (r : Option (Bor Entry)) → IsItemAt entries number r → option_map (λ e. entry_formula e.now) r ≡ formula_at entries (Some number)
entry_got entries number None h = sym (ap (option_map entry_formula) (slice_get_past entries number h.3))
entry_got entries number (Some e) h = sym (ap (option_map entry_formula) (slice_get_read entries (length entries) number e.now refl h.3.0 h.1))

module _ {A V S : Type 0} (table : IndexMap (Vec ℕ A) V S) (name : List ℕ) where
  -- what a look-up by bytes finds
  pub number_found : (number : Bor V) → Some number.now ≡ get_by (λ k. pointwise nat_eq name k.items) table → lookup (same_text name) (text_entries table) ≡ Some number.now
  number_found number is = seen_lookup name table.entries ∙ sym is

  pub number_missing : None ≡ get_by (λ k. pointwise nat_eq name k.items) table → lookup (same_text name) (text_entries table) ≡ None
  number_missing is = seen_lookup name table.entries ∙ sym is

-- ---- one entry more

slice_seam : (entries : List Entry) (e : Entry) → slice_get (entries ++ e ∷ []) (length entries) ≡ Some e
slice_seam entries e =
    slice_get_read (entries ++ e ∷ []) (length entries + 1) (length entries) e (omega (arith, length-append entries (e ∷ []))) (omega arith) (sym (get_or-append_seam entries e [] e))

slice_within : (entries : List Entry) (e : Entry) (number : ℕ) → number < length entries → slice_get (entries ++ e ∷ []) number ≡ slice_get entries number
slice_within entries e number low =
    slice_get-get_or (entries ++ e ∷ []) number e (omega (arith, length-append entries (e ∷ [])))
    ∙ ap Some (get_or_append_left entries (e ∷ []) e number low)
    ∙ sym (slice_get-get_or entries number e low)

pub formula_within : (entries : List Entry) (e : Entry) (old : Option ℕ) → IfSome old (λ number. number < length entries) → formula_at (entries ++ e ∷ []) old ≡ formula_at entries old
formula_within entries e None low = refl
formula_within entries e (Some number) low = ap (option_map entry_formula) (slice_within entries e number low)

formula_more : (entries : List Entry) (e : Entry) (number : ℕ) (is_new : Bool) (old : Option ℕ) → number ≡ length entries → IfSome old (λ p. p < length entries)
    → formula_at (entries ++ e ∷ []) (cond is_new (Some number) old) ≡ cond is_new (Some (entry_formula e)) (formula_at entries old)
formula_more entries e number true old at low = ap (λ (n : ℕ). option_map entry_formula (slice_get (entries ++ e ∷ []) n)) at ∙ ap (option_map entry_formula) (slice_seam entries e)
formula_more entries e number false old at low = formula_within entries e old low

pub number_more : (entries : List Entry) (e : Entry) (number : ℕ) (is_new : Bool) (old : Option ℕ) → number ≡ length entries → IfSome old (λ p. p < length entries)
    → IfSome (cond is_new (Some number) old) (λ p. p < length (entries ++ e ∷ []))
number_more entries e number true old at low = omega (arith, length-append entries (e ∷ []))
number_more entries e number false None at low = tt
number_more entries e number false (Some p) at low = omega (arith, length-append entries (e ∷ []))

module _ (entries : List Entry) (e : Entry) (number : ℕ) (names : List (List ℕ)) (now old : List ℕ → Option ℕ) (at : number ≡ length entries) (low : (name : List ℕ) → IfSome (old name) (λ p. p < length entries))
    (named : (name : List ℕ) → now name ≡ (if list_any (same_text name) names then Some number else old name)) where
  abbrev pub after : Formulas
  after name = formula_at (entries ++ e ∷ []) (now name)

  abbrev pub wanted : Formulas
  wanted name = if list_any (same_text name) names then Some (entry_formula e) else formula_at entries (old name)

  pub formulas_more : after ≡ wanted
  formulas_more = λ i name. (ap (formula_at (entries ++ e ∷ [])) (named name) ∙ formula_more entries e number (list_any (same_text name) names) (old name) at (low name)) i

  pub numbers_more : (name : List ℕ) → IfSome (now name) (λ p. p < length (entries ++ e ∷ []))
  numbers_more name = subst (λ (o : Option ℕ). IfSome o (λ p. p < length (entries ++ e ∷ []))) (sym (named name)) (number_more entries e number (list_any (same_text name) names) (old name) at (low name))

pub all_push : {T : Type 0} (P : T → Type 0) (xs : List T) (x : T) → AllByRecursion P xs → P x → AllByRecursion P (xs ++ x ∷ [])
all_push P [] x h k = (k, tt)
all_push P (y ∷ xs) x h k = (h.0, all_push P xs x h.1 k)

-- ---- each macro keeps to its level

AtFits : Option Entry → Type 0
AtFits found = IfSome (option_map entry_formula found) (λ m. Fits m.1 m.0)

fit_at : (entries : List Entry) (number : ℕ) → All (λ x. Fits x.level (tree_of x.formula)) entries → AtFits (slice_get entries number)
unfolding AtFits
fit_at entries number h =
    ⊎_elim
    (λ (e, low, found, got). subst AtFits (sym found) (subst (λ (x : Entry). Fits x.level (tree_of x.formula)) got (h number e low)))
    (λ (past, missing). subst AtFits (sym missing) tt)
    (slice_get_cases entries number).1

fits_found : (entries : List Entry) (found : Option ℕ) → AllByRecursion (λ x. Fits x.level (tree_of x.formula)) entries → IfSome (formula_at entries found) (λ m. Fits m.1 m.0)
unfolding AtFits
fits_found entries None h = tt
fits_found entries (Some number) h = fit_at entries number (All-from_recursion (λ x. Fits x.level (tree_of x.formula)) entries h)

pub all_fit : (e : code_earlier.Earlier) → IsKept e → AllFit (formulas_of e)
all_fit e kept name = fits_found e.entries.items (number_of_macro e name) kept.fits

-- ---- what is recalled

-- a section that is recalled after one more entry writes the formula of its entry
module _ (entries : List Entry) (e : Entry) (Written : List ℕ → Tree × ℕ → Type 0) (old now : List ℕ → Option ℕ) (number : ℕ) (at : number ≡ length entries)
    (low : (text : List ℕ) → IfSome (old text) (λ p. p < length entries)) (written : (text : List ℕ) → IfSome (formula_at entries (old text)) (Written text)) where
  abbrev pub WrittenAt : List ℕ → Type 0
  WrittenAt text = IfSome (formula_at (entries ++ e ∷ []) (now text)) (Written text)

  pub written_none : (text : List ℕ) → now text ≡ None → WrittenAt text
  written_none text is = subst (λ (o : Option ℕ). IfSome (formula_at (entries ++ e ∷ []) o) (Written text)) (sym is) tt

  pub written_same : (text : List ℕ) → now text ≡ old text → WrittenAt text
  written_same text is =
      subst (λ (o : Option ℕ). IfSome (formula_at (entries ++ e ∷ []) o) (Written text)) (sym is)
      (subst (λ (m : Option (Tree × ℕ)). IfSome m (Written text)) (sym (formula_within entries e (old text) (low text))) (written text))

  pub written_now : (text : List ℕ) → now text ≡ Some number → Written text (entry_formula e) → WrittenAt text
  written_now text is h =
      subst (λ (o : Option ℕ). IfSome (formula_at (entries ++ e ∷ []) o) (Written text)) (sym is)
      (subst (λ (n : ℕ). IfSome (option_map entry_formula (slice_get (entries ++ e ∷ []) n)) (Written text)) (sym at)
      (subst (λ (o : Option Entry). IfSome (option_map entry_formula o) (Written text)) (sym (slice_seam entries e)) h))
