-- The first special word that may stand for a text.
use Rattle.std.proofs.Common.{◌≡◌, ◌<◌, ℕ, List, length, Option, Some, None, MatchOption, ap, subst, ◌∙◌, arith}
use Rattle.std.specs.List.{AllWithin, HoldsAt}
use Rattle.std.proofs.lemmas.Option.{slice_get-get_or, get_or_from_slice_get}
use Rattle.lg_dict.specs.Dictionary.{Dictionary}
use Rattle.lg_token.specs.declared.special.Special.{Special}
use Rattle.lg_token.specs.declared.special.Special.TheVariants.{Numbers, Capitalized, Hyphenated, Unknown}
use Rattle.lg_token.specs.Words.{specials, MayStand, IsFirstSpecial}

module _ (dict : Dictionary) (text : List ℕ) where
  abbrev pub MayNot : Special → Type 0
  MayNot s = MayStand dict text s → ⊥

  none_stands : AllWithin MayNot specials 0 (length specials) → (s : Special) → MayNot s
  none_stands none Numbers = none 0 Numbers (omega arith) (omega arith)
  none_stands none Capitalized = none 1 Numbers (omega arith) (omega arith)
  none_stands none Hyphenated = none 2 Numbers (omega arith) (omega arith)
  none_stands none Unknown = none 3 Numbers (omega arith) (omega arith)

  -- what a search from the first one on finds
  pub first_found : (found : Option Special)
      → MatchOption found (AllWithin MayNot specials 0 (length specials))
      (λ s. MayStand dict text s × (i : ℕ) × (i < length specials) × HoldsAt (λ other. other ≡ s) specials i × AllWithin MayNot specials 0 i)
      → MatchOption found ((s : Special) → MayNot s) (IsFirstSpecial dict text)
  first_found None none = none_stands none
  first_found (Some s) (stands, i, within, here, first) = record {
    place = i;
    here = slice_get-get_or specials i s within ∙ ap Some (here s);
    stands = stands;
    first = λ k other below is. subst MayNot (get_or_from_slice_get specials k other other is) (first k other (omega arith) below);
  }
