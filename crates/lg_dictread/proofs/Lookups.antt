-- Look-ups by bytes in tables whose keys are bytes.
use Rattle.std.proofs.Common.{◌≡◌, ℕ, Bool, cond, if◌then◌else◌, List, [], ◌∷◌, ◌++◌, map, nat_eq, Option, Some, None, IfNone, refl, sym, ap, ◌∙◌}
use Rattle.std.proofs.lemmas.Bool.{cases_Bool, cond-true, cond-false}
use Rattle.std.proofs.lemmas.List.{map_push}
use mathlib.Core.Logic.{⊎_elim}
use lib.Pointwise.{pointwise}
use Rattle.std.specs.declared.vec.Vec.{Vec}
use Rattle.std.specs.Map.{KeepsOthers, lookup}
use Rattle.std.specs.Cmp.Lexicographic.{bytes_decides, nat_list_eq_equiv}
use Rattle.indexmap.specs.IndexMap.{IndexMap, Updates, get, insert_entry}
use Rattle.indexmap.proofs.CallerLemmas.{insert_entry-new}
use Rattle.lg_dictread.specs.Definitions.{same_text}
use Rattle.lg_dictread.specs.Tables.{text_entries}

-- how the keys of a table are compared
abbrev pub key_eq : {A : Type 0} → Vec ℕ A → Vec ℕ A → Bool
key_eq a b = pointwise nat_eq a.items b.items

pub seen_lookup : {A V : Type 0} (text : List ℕ) (es : List (Vec ℕ A × V)) → lookup (same_text text) (map (λ (e : Vec ℕ A × V). (e.0.items, e.1)) es) ≡ lookup (λ k. pointwise nat_eq text k.items) es
seen_lookup text [] = refl
seen_lookup text (e ∷ es) = ap (cond (pointwise nat_eq text e.0.items) (Some e.1)) (seen_lookup text es)

module _ {A V S : Type 0} (old new : IndexMap (Vec ℕ A) V S) (key : Vec ℕ A) (name : List ℕ) (value : V) (is : key.items ≡ name) where
  pub found_is : (found : Option V) → found ≡ get key_eq old key → found ≡ lookup (same_text name) (text_entries old)
  found_is found e = e ∙ sym (seen_lookup key.items old.entries) ∙ ap (λ (t : List ℕ). lookup (same_text t) (text_entries old)) is

  pub added_is : (found : Option V) → found ≡ get key_eq old key → new.entries ≡ insert_entry key_eq old.entries key value → IfNone found (text_entries new ≡ text_entries old ++ (name, value) ∷ [])
  added_is None e entries =
      ap (map (λ (p : Vec ℕ A × V). (p.0.items, p.1))) (entries ∙ insert_entry-new key_eq old key value (sym e))
      ∙ map_push (λ (p : Vec ℕ A × V). (p.0.items, p.1)) old.entries (key, value)
      ∙ ap (λ (t : List ℕ). text_entries old ++ (t, value) ∷ []) is
  added_is (Some v) e entries = tt

  at_key : (text : List ℕ) → Updates key_eq old new key (Some value) → lookup (λ k. pointwise nat_eq text k.items) new.entries ≡ cond (same_text text key.items) (Some value) (lookup (λ k. pointwise nat_eq text k.items) old.entries)
  unfolding KeepsOthers
  at_key text h =
      ⊎_elim
      (λ same. ap (λ (t : List ℕ). lookup (λ k. pointwise nat_eq t k.items) new.entries) ((bytes_decides text key.items).0 same) ∙ h.1
      ∙ sym (cond-true (same_text text key.items) (Some value) (lookup (λ k. pointwise nat_eq text k.items) old.entries) same))
      (λ other.
      h.3 (λ k. pointwise nat_eq text k.items) (λ x y p. nat_list_eq_equiv.congr text x.items y.items p)
      (λ k p. nat_list_eq_equiv.symm text k.items ∙ sym (nat_list_eq_equiv.congr key.items k.items text p) ∙ nat_list_eq_equiv.symm key.items text ∙ other)
      ∙ sym (cond-false (same_text text key.items) (Some value) (lookup (λ k. pointwise nat_eq text k.items) old.entries) other))
      (cases_Bool (same_text text key.items))

  pub lookups_are : Updates key_eq old new key (Some value) → (text : List ℕ) → lookup (same_text text) (text_entries new) ≡ (if same_text text name then Some value else lookup (same_text text) (text_entries old))
  lookups_are h text =
      seen_lookup text new.entries ∙ at_key text h
      ∙ ap (cond (same_text text key.items) (Some value)) (sym (seen_lookup text old.entries))
      ∙ ap (λ (t : List ℕ). cond (same_text text t) (Some value) (lookup (same_text text) (text_entries old))) is
