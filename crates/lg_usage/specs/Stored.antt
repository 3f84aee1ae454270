-- How totals are stored: by text a number, and 0 only keeps a place for a text that is not counted yet.
use Rattle.std.specs.Prelude.{◌≡◌, ℕ, ◌+◌, ◌<◌, ◌≤◌, nat_lt, List, [], ◌∷◌, Vec, Option, IsSome, refl, if◌then◌else◌}
use Rattle.std.specs.Option.{unwrap_or}
use Rattle.std.specs.BTreeMap.{BTreeMap, get_by}
use Rattle.std.specs.Ordering.{nat_cmp}
use Rattle.std.specs.Cmp.Lexicographic.{slice_cmp}
use Rattle.std.specs.Coded.{Coded, code_by, coded×, coded_list, coded_ℕ}
use Rattle.std.specs.FinMap.{code, empty, insert, remove}
use Rattle.std.specs.Str.{bytes_eq}
use Rattle.lg_usage.specs.Totals.{Tally, Totals, times, GREATEST}

abbrev pub tally_code : Coded Tally
tally_code = code (coded_list coded_ℕ) coded_ℕ

abbrev pub totals_code : Coded Totals
totals_code = code_by (Tally × Tally) (coded× tally_code tally_code) (λ t. (t.words, t.labels)) (λ p. record { words = p.0; labels = p.1 }) (λ _. refl)

module _ {A : Type 0} where
  -- the tally that is stored so
  abbrev pub tally_of : List (Vec ℕ A × ℕ) → Tally
  tally_of [] = empty
  tally_of (e ∷ es) = if nat_lt 0 e.1 then insert (tally_of es) e.0.items e.1 else remove (tally_of es) e.0.items

  abbrev pub stored : BTreeMap (Vec ℕ A) ℕ → List ℕ → Option ℕ
  stored counts text = get_by (λ k. slice_cmp nat_cmp text k.items) counts

  -- the number of a text; 0 if it has no place
  abbrev pub number : BTreeMap (Vec ℕ A) ℕ → List ℕ → ℕ
  number counts text = unwrap_or (stored counts text) 0

  abbrev pub HasPlace : BTreeMap (Vec ℕ A) ℕ → List ℕ → Type 0
  HasPlace counts text = IsSome (stored counts text)

  -- no place went
  abbrev pub KeepsPlaces : BTreeMap (Vec ℕ A) ℕ → BTreeMap (Vec ℕ A) ℕ → Type 0
  KeepsPlaces old new = (text : List ℕ) → HasPlace old text → HasPlace new text

  -- places may have come, and no number changed
  pub record OnlyMakesRoom (old new : BTreeMap (Vec ℕ A) ℕ) : Type 0 where
    pub same : (text : List ℕ) → number new text ≡ number old text
    pub kept : KeepsPlaces old new

  -- one text has n more
  pub record Raises (old : BTreeMap (Vec ℕ A) ℕ) (text : List ℕ) (n : ℕ) (new : BTreeMap (Vec ℕ A) ℕ) : Type 0 where
    pub raised : (other : List ℕ) → number new other ≡ number old other + (if bytes_eq other text then n else 0)
    pub kept : KeepsPlaces old new

  -- each text has as much more as the others have
  abbrev pub RaisesAll : BTreeMap (Vec ℕ A) ℕ → BTreeMap (Vec ℕ A) ℕ → BTreeMap (Vec ℕ A) ℕ → Type 0
  RaisesAll old others new = (text : List ℕ) → number new text ≡ number old text + number others text

  -- these texts are counted, and no others
  abbrev pub Counts : BTreeMap (Vec ℕ A) ℕ → List (List ℕ) → Type 0
  Counts counts texts = (text : List ℕ) → number counts text ≡ times text texts

  -- these texts are counted beside the old ones
  abbrev pub CountsMore : BTreeMap (Vec ℕ A) ℕ → List (List ℕ) → BTreeMap (Vec ℕ A) ℕ → Type 0
  CountsMore old texts new = (text : List ℕ) → number new text ≡ number old text + times text texts

  -- each number is below n
  abbrev pub AreBelow : ℕ → BTreeMap (Vec ℕ A) ℕ → Type 0
  AreBelow n counts = (text : List ℕ) → number counts text < n

  -- no sum of two numbers is too great
  abbrev pub AreSmall : BTreeMap (Vec ℕ A) ℕ → BTreeMap (Vec ℕ A) ℕ → Type 0
  AreSmall a b = (text : List ℕ) → number a text + number b text ≤ GREATEST
