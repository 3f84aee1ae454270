-- The steps by which a chunk is cut.
use Rattle.std.proofs.Common.{◌≡◌, ◌<◌, ◌+◌, ℕ, List, [], ◌∷◌, ◌++◌, Bool, length, map, reverse, Option, Some, None, MatchOption, Bor, refl, sym, ap, subst, ◌∙◌, arith, length-append}
use Rattle.std.proofs.lemmas.List.{append-nil, reverse-append, map_push}
use Rattle.lg_dict.specs.Dictionary.{Dictionary}
use Rattle.lg_token.specs.declared.cuts.Off.{Off}
use Rattle.lg_token.specs.declared.cuts.Cut.{Cut}
use Rattle.lg_token.specs.Words.{Has, IsKnown}
use Rattle.lg_token.specs.Cuts.{possessive, HasNoClosing, HasNoOpening, HasNoPossessive, Pieces, whole, with_before, with_after, AreCut, closing, opening, owner, unknown}
use Rattle.lg_token.specs.Steps.{pieces_in, put_back, IsClosing, IsOpening, IsPossessive, IsStep}

pub shorter_front : (chunk rest end : List ℕ) → chunk ≡ rest ++ end → 0 < length end → length rest < length chunk
shorter_front chunk rest end is some = let long : length chunk ≡ length rest + length end = ap length is ∙ length-append rest end in omega arith

module _ (dict : Dictionary) (initial : Bool) (chunk : List ℕ) (not_known : IsKnown dict initial chunk → ⊥) where
  pub closing_step : (off : Off) → IsClosing chunk off → IsStep dict initial chunk off
  closing_step off is = record {
    shorter = shorter_front chunk off.rest.now (is.sign ∷ []) is.ends.0 (omega arith);
    cuts = λ p h. subst (AreCut dict initial chunk) (sym (ap (λ s. put_back s off.piece.now p) is.side ∙ ap (with_after p) is.piece)) (closing chunk off.rest.now is.sign p not_known is.ends h);
  }

  module _ (no_closing : HasNoClosing chunk) where
    pub opening_step : (off : Off) → IsOpening chunk off → IsStep dict initial chunk off
    opening_step off is = record {
      shorter = let long : length chunk ≡ length (is.sign ∷ off.rest.now) = ap length is.begins.0 in omega arith;
      cuts = λ p h. subst (AreCut dict initial chunk) (sym (ap (λ s. put_back s off.piece.now p) is.side ∙ ap (λ piece. with_before piece p) is.piece)) (opening chunk off.rest.now is.sign p not_known no_closing is.begins h);
    }

    module _ (no_opening : HasNoOpening chunk) where
      possessive_step : Has dict possessive → (off : Off) → IsPossessive chunk off → IsStep dict initial chunk off
      possessive_step has off is = record {
        shorter = shorter_front chunk off.rest.now possessive is.ends.0 (omega arith);
        cuts = λ p h. subst (AreCut dict initial chunk) (sym (ap (λ s. put_back s off.piece.now p) is.side ∙ ap (with_after p) is.piece)) (owner chunk off.rest.now p not_known no_closing no_opening has is.ends h);
      }

      -- what a search for `'s` answers, where the dictionary has it
      pub possessive_answer : Has dict possessive → (found : Option Off) → MatchOption found (HasNoPossessive chunk) (IsPossessive chunk)
          → MatchOption found (AreCut dict initial chunk (whole chunk)) (IsStep dict initial chunk)
      possessive_answer has None none = unknown chunk not_known no_closing no_opening (λ _. none)
      possessive_answer has (Some off) is = possessive_step has off is

      pub no_possessive : (Has dict possessive → ⊥) → AreCut dict initial chunk (whole chunk)
      no_possessive without = unknown chunk not_known no_closing no_opening (λ has. absurd (without has))

map-reverse : {X Y : Type 0} (f : X → Y) (xs : List X) → map f (reverse xs) ≡ reverse (map f xs)
map-reverse f [] = refl
map-reverse f (x ∷ xs) =
    ap (map f) (reverse-append (x ∷ []) xs) ∙ map_push f (reverse xs) x ∙ ap (λ l. l ++ f x ∷ []) (map-reverse f xs) ∙ sym (reverse-append (f x ∷ []) (map f xs))

-- the pieces of a chunk of which some were cut off already, those after the middle in the order in which they were cut off
abbrev pub around : List (Bor (List ℕ)) → Pieces → List (Bor (List ℕ)) → Pieces
around before p after = record {
  before = map (λ piece. piece.now) before ++ p.before;
  middle = p.middle;
  after = p.after ++ reverse (map (λ piece. piece.now) after);
}

module _ (dict : Dictionary) (initial : Bool) (chunk : List ℕ) where
  -- whatever cuts what is left, cuts the chunk, with what was cut off around it
  pub record Leads (before : List (Bor (List ℕ))) (rest : List ℕ) (after : List (Bor (List ℕ))) : Type 0 where
    pub cuts : (p : Pieces) → AreCut dict initial rest p → AreCut dict initial chunk (around before p after)

  -- what is left is the middle piece
  pub leads_whole : (cut : Cut) (after : List (Bor (List ℕ))) → cut.after.items ≡ reverse after → AreCut dict initial cut.middle.now (whole cut.middle.now) → Leads cut.before.items cut.middle.now after
      → AreCut dict initial chunk (pieces_in cut)
  leads_whole cut after turned last so_far =
      let front = map (λ (x : Bor (List ℕ)). x.now) cut.before.items in
      subst (AreCut dict initial chunk)
      (ap (λ before. record { before = before; middle = cut.middle.now; after = reverse (map (λ (x : Bor (List ℕ)). x.now) after) }) (append-nil front)
      ∙ ap (λ back. record { before = front; middle = cut.middle.now; after = back }) (sym (map-reverse (λ (x : Bor (List ℕ)). x.now) after) ∙ ap (map (λ (x : Bor (List ℕ)). x.now)) (sym turned)))
      (so_far.cuts (whole cut.middle.now) last)
