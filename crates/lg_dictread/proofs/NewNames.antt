-- Names are new, or one of them is the first that is defined twice.
use Rattle.std.proofs.Common.{◌≡◌, ℕ, Option, None, Some, List, [], ◌∷◌, ◌++◌, ◌⊎◌, inl, inr, refl, sym, ap, subst, ◌∙◌, append_assoc}
use Rattle.std.proofs.lemmas.List.{append-nil}
use Rattle.lg_dictread.specs.declared.dict_error.DictError.{DictError}
use Rattle.lg_dictread.specs.declared.dict_error.DictError.TheVariants.{DuplicateWord}
use Rattle.lg_dictread.specs.Definitions.{Lines, line_in, AreNew, IsTwice}

-- the same by recursion: the name in front is defined before, or it is not and one further on is
abbrev Twice : Lines → Lines → DictError → Type 0
Twice earlier [] error = ⊥
Twice earlier (d ∷ new) error = ((first : ℕ) × (line_in earlier d.0 ≡ Some first) × (error ≡ DuplicateWord d.0 first d.1))
    ⊎ ((line_in earlier d.0 ≡ None) × Twice (earlier ++ d ∷ []) new error)

to_twice : (front : Lines) (earlier rest : Lines) (again : List ℕ × ℕ) (first : ℕ) (error : DictError) → AreNew earlier front → line_in (earlier ++ front) again.0 ≡ Some first → error ≡ DuplicateWord again.0 first again.1
    → Twice earlier (front ++ again ∷ rest) error
to_twice [] earlier rest again first error new before told = inl (first, subst (λ (l : Lines). line_in l again.0 ≡ Some first) (append-nil earlier) before, told)
to_twice (d ∷ front) earlier rest again first error new before told =
    inr (new.0, to_twice front (earlier ++ d ∷ []) rest again first error new.1 (subst (λ (l : Lines). line_in l again.0 ≡ Some first) (sym (append_assoc earlier (d ∷ []) front)) before) told)

is_twice : (earlier new : Lines) (error : DictError) → IsTwice earlier new error → Twice earlier new error
is_twice earlier new error h = subst (λ (l : Lines). Twice earlier l error) (sym h.split) (to_twice h.front earlier h.rest h.again h.first error h.distinct h.before h.told)

-- one more name that is new in front
pub more_twice : (earlier new : Lines) (d : List ℕ × ℕ) (error : DictError) → line_in earlier d.0 ≡ None → IsTwice (earlier ++ d ∷ []) new error → IsTwice earlier (d ∷ new) error
more_twice earlier new d error none h = record {
  front = d ∷ h.front;
  again = h.again;
  rest = h.rest;
  first = h.first;
  split = ap (λ (l : Lines). d ∷ l) h.split;
  distinct = (none, h.distinct);
  before = subst (λ (l : Lines). line_in l h.again.0 ≡ Some h.first) (append_assoc earlier (d ∷ []) h.front) h.before;
  told = h.told;
}

-- the name in front is defined before
pub twice_here : (earlier new : Lines) (d : List ℕ × ℕ) (first : ℕ) → line_in earlier d.0 ≡ Some first → IsTwice earlier (d ∷ new) (DuplicateWord d.0 first d.1)
twice_here earlier new d first before = record {
  front = [];
  again = d;
  rest = new;
  first = first;
  split = refl;
  distinct = tt;
  before = subst (λ (l : Lines). line_in l d.0 ≡ Some first) (sym (append-nil earlier)) before;
  told = refl;
}

abbrev pub NewOrTwice : Lines → Lines → Type 0
NewOrTwice earlier new = AreNew earlier new ⊎ ((error : DictError) × IsTwice earlier new error)

further : (earlier new : Lines) (d : List ℕ × ℕ) → line_in earlier d.0 ≡ None → NewOrTwice (earlier ++ d ∷ []) new → NewOrTwice earlier (d ∷ new)
further earlier new d none (inl h) = inl (none, h)
further earlier new d none (inr (error, h)) = inr (error, more_twice earlier new d error none h)

here : (earlier new : Lines) (d : List ℕ × ℕ) (found : Option ℕ) → line_in earlier d.0 ≡ found → NewOrTwice (earlier ++ d ∷ []) new → NewOrTwice earlier (d ∷ new)
here earlier new d None e rest = further earlier new d e rest
here earlier new d (Some first) e rest = inr (DuplicateWord d.0 first d.1, twice_here earlier new d first e)

pub new_or_twice : (new earlier : Lines) → NewOrTwice earlier new
new_or_twice [] earlier = inl tt
new_or_twice (d ∷ new) earlier = here earlier new d (line_in earlier d.0) refl (new_or_twice new (earlier ++ d ∷ []))

new_apart : (new earlier : Lines) (error : DictError) → AreNew earlier new → Twice earlier new error → ⊥
new_apart [] earlier error h k = k
new_apart (d ∷ new) earlier error h (inl (first, before, told)) = let none = h.0 in cc
new_apart (d ∷ new) earlier error h (inr (none, k)) = new_apart new (earlier ++ d ∷ []) error h.1 k

-- not both
pub apart : (earlier new : Lines) (error : DictError) → AreNew earlier new → IsTwice earlier new error → ⊥
apart earlier new error h k = new_apart new earlier error h (is_twice earlier new error k)

same : (new earlier : Lines) (d e : DictError) → Twice earlier new d → Twice earlier new e → d ≡ e
same [] earlier d e h k = absurd h
same (x ∷ new) earlier d e (inl (first, before, told)) (inl (other, again, k)) = let lines : first ≡ other = cc in told ∙ ap (λ (n : ℕ). DuplicateWord x.0 n x.1) lines ∙ sym k
same (x ∷ new) earlier d e (inl (first, before, told)) (inr (none, k)) = absurd cc
same (x ∷ new) earlier d e (inr (none, h)) (inl (first, before, told)) = absurd cc
same (x ∷ new) earlier d e (inr (none, h)) (inr (also, k)) = same new (earlier ++ x ∷ []) d e h k

-- the error is told by the names
pub one_twice : (earlier new : Lines) (d e : DictError) → IsTwice earlier new d → IsTwice earlier new e → d ≡ e
one_twice earlier new d e h k = same new earlier d e (is_twice earlier new d h) (is_twice earlier new e k)
