-- The entries that are read are those of a dictionary: no word and no macro stands twice.
use Rattle.std.proofs.Common.{◌≡◌, ◌≢◌, ℕ, zero, suc, ◌<◌, Bool, true, false, cond, List, [], ◌∷◌, ◌++◌, length, get_or, Option, None, Some, AllPairs, refl, sym, ap, subst, ◌∙◌, append_assoc, arith}
use Rattle.std.proofs.lemmas.List.{append-nil}
use Rattle.std.proofs.lemmas.List.Elements.{All-from_recursion}
use Rattle.std.proofs.lemmas.List.Quantifiers.{all_pairs_push}
use Rattle.std.specs.Cmp.Lexicographic.{bytes_decides}
use Rattle.std.specs.List.{AllByRecursion, flat_map}
use Rattle.lg_gram.specs.declared.entry.Entry.{Entry}
use Rattle.lg_gram.specs.Entries.{AreEntries}
use Rattle.lg_gram.specs.Formulas.{LevelFits}
use Rattle.lg_gram.specs.Trees.{tree_of}
use Rattle.lg_expr.specs.Fits.{Fits}
use Rattle.lg_dictread.specs.declared.earlier.Earlier as code_earlier
use Rattle.lg_dictread.specs.Definitions.{Lines, same_text, line_in, AreNew}
use Rattle.lg_dictread.specs.Defining.{names_in, defined_in}
use Rattle.lg_dictread.specs.Texts.{Earlier, nothing}
use Rattle.lg_dictread.specs.Reading.{earlier_of, IsKept, AreListed, ListsAll}
use Rattle.lg_dictread.proofs.ItemsTold.{names_then}

abbrev Distinct : List (List ℕ) → Type 0
Distinct names = AllPairs (λ a b. a ≢ b) names

-- ---- names that are new are distinct

not_same : (name : List ℕ) (d : List ℕ × ℕ) (rest : Option ℕ) (same : Bool) → same_text name d.0 ≡ same → cond same (Some d.1) rest ≡ None → (d.0 ≢ name) × (rest ≡ None)
not_same name d rest true is e = absurd cc
not_same name d rest false is e = ((λ other. let wrong : true ≡ false = sym ((bytes_decides name d.0).1 (sym other)) ∙ is in cc), e)

other_name : (name : List ℕ) (d : List ℕ × ℕ) (rest : Option ℕ) → cond (same_text name d.0) (Some d.1) rest ≡ None → (d.0 ≢ name) × (rest ≡ None)
other_name name d rest e = not_same name d rest (same_text name d.0) refl e

not_defined : (lines : Lines) (name : List ℕ) → line_in lines name ≡ None → (i : ℕ) (x : List ℕ) → i < length (names_in lines) → get_or (names_in lines) i x ≢ name
not_defined [] name none i x low = absurd (omega arith)
not_defined (d ∷ lines) name none zero x low = (other_name name d (line_in lines name) none).0
not_defined (d ∷ lines) name none (suc i) x low = not_defined lines name (other_name name d (line_in lines name) none).1 i x (omega arith)

distinct_then : (new earlier : Lines) → Distinct (names_in earlier) → AreNew earlier new → Distinct (names_in (earlier ++ new))
distinct_then [] earlier h new = subst (λ (l : Lines). Distinct (names_in l)) (sym (append-nil earlier)) h
distinct_then (d ∷ new) earlier h are_new =
    let more : Distinct (names_in (earlier ++ d ∷ [])) = subst Distinct (sym (names_then earlier (d ∷ []))) (all_pairs_push (λ a b. a ≢ b) (names_in earlier) d.0 h (λ i x low. not_defined earlier d.0 are_new.0 i x low)) in
    subst (λ (l : Lines). Distinct (names_in l)) (append_assoc earlier (d ∷ []) new) (distinct_then new (earlier ++ d ∷ []) more are_new.1)

listed_distinct : (lines : Lines) (names : List (List ℕ)) → AreListed lines names → Distinct names
listed_distinct lines names h = subst Distinct (sym h.listed) (distinct_then lines [] (λ i j x low high. absurd (omega arith)) h.are_new)

level_each : (entries : List Entry) → AllByRecursion (λ x. Fits x.level (tree_of x.formula)) entries → AllByRecursion (λ x. LevelFits x.level (tree_of x.formula)) entries
level_each [] h = tt
level_each (x ∷ xs) h = (h.0.level_fits, level_each xs h.1)

pub entries_fit : (e : code_earlier.Earlier) → IsKept e → ListsAll e → AreEntries e.entries.items
entries_fit e kept h = record {
  words = listed_distinct (defined_in e.tables).words (flat_map (λ x. x.words) e.entries.items) h.words;
  macros = listed_distinct (defined_in e.tables).macros (flat_map (λ x. x.macros) e.entries.items) h.macros;
  levels = All-from_recursion (λ x. LevelFits x.level (tree_of x.formula)) e.entries.items (level_each e.entries.items kept.fits);
}

-- ---- at the start

none_listed_yet : (lines : Lines) (names : List (List ℕ)) → lines ≡ [] → names ≡ [] → AreListed lines names
none_listed_yet lines names no_lines no_names = record {
  are_new = subst (AreNew []) (sym no_lines) tt;
  listed = no_names ∙ sym (ap names_in no_lines);
}

pub lists_none : (e : code_earlier.Earlier) → earlier_of e ≡ nothing → e.entries.items ≡ [] → ListsAll e
lists_none e is none = record {
  words = none_listed_yet (defined_in e.tables).words (flat_map (λ x. x.words) e.entries.items) (ap (λ (x : Earlier). x.defined.words) is) (ap (λ (l : List Entry). flat_map (λ x. x.words) l) none);
  macros = none_listed_yet (defined_in e.tables).macros (flat_map (λ x. x.macros) e.entries.items) (ap (λ (x : Earlier). x.defined.macros) is) (ap (λ (l : List Entry). flat_map (λ x. x.macros) l) none);
}
