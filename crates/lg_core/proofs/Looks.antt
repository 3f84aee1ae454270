-- Whether a sentence is listed, by its tokens or the bound that it passes.
use Rattle.std.proofs.Common.{◌≡◌, ℕ, List, Option, Some, None, refl, subst}
use Rattle.lg_gram.specs.declared.listing.Token.{Token}
use Rattle.lg_gram.specs.declared.listing.Bound.{Bound}
use Rattle.lg_dict.specs.Dictionary.{Dictionary}
use Rattle.lg_token.specs.Bounds.{AreListed, IsBeyond}
use Rattle.lg_token.specs.Tokens.{AreTokens}
use Rattle.lg_core.specs.declared.note.NoteKind.TheVariants.{Listed, Beyond}
use Rattle.lg_core.specs.Steps.{HasBound, kind_by}

module _ (dict : Dictionary) (sentence text : List ℕ) (same : sentence ≡ text) where
  pub listed_kind : (tokens : List Token) → AreListed dict sentence tokens → (bound : Option Bound) × HasBound dict text bound × (Listed ≡ kind_by bound)
  listed_kind tokens are = (None, (tokens, subst (λ (t : List ℕ). AreTokens dict t tokens) same are.of_text, are.unbound), refl)

  pub beyond_kind : (bound : Bound) → IsBeyond dict sentence bound → (bound : Option Bound) × HasBound dict text bound × (Beyond ≡ kind_by bound)
  beyond_kind bound is = (Some bound, (is.tokens, subst (λ (t : List ℕ). AreTokens dict t is.tokens) same is.of_text, is.is_bound), refl)
