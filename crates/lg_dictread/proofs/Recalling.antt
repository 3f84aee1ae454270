-- An expression means the same wherever its text stands.
use Rattle.std.proofs.Common.{◌≡◌, ℕ, ◌+◌, List, [], ◌∷◌, ◌++◌, length, map, drop, Option, Some, None, IfSome, Bor, refl, sym, ap, subst, ◌∙◌}
use Rattle.std.proofs.lemmas.List.{append-nil, append_cancel_right}
use Rattle.lg_gram.specs.Filled.{Formulas}
use Rattle.lg_gram.specs.Trees.{Tree}
use Rattle.lg_lex.specs.declared.marks.Marks.TheVariants.{Dictionary}
use Rattle.lg_lex.specs.Lexing.{tokens_from}
use Rattle.lg_lex.specs.Sections.{IsClosed, moved}
use Rattle.lg_lex.specs.Tokens.{Token}
use Rattle.lg_dictread.specs.declared.dict_error.DictError.{DictError}
use Rattle.lg_dictread.specs.declared.dict_error.DictError.TheVariants as errors
use Rattle.lg_dictread.specs.Entries.{part}
use Rattle.lg_dictread.specs.Recalling.{Means, Writes}
use Rattle.lg_dictread.specs.Telling.{UnlessMemory}
use Rattle.lg_dictread.specs.Texts.{IsLarge, nodes, choices, side}

parts_moved : (n : ℕ) (ts : List Token) → map part (map (moved n) ts) ≡ map part ts
parts_moved n [] = refl
parts_moved n (t ∷ ts) = λ i. part t ∷ parts_moved n ts i

-- in a text, where more tokens follow
pub means_within : (formulas : Formulas) (n : ℕ) (alone ts rest : List Token) (t : Tree) (level : ℕ) → ts ≡ map (moved n) alone ++ rest → Means formulas alone t level [] → Means formulas ts t level rest
means_within formulas n alone ts rest t level is h =
    let front = h.stands.front in
    let same : alone ≡ front = h.stands.split ∙ append-nil front in
    record {
      expr = h.expr;
      written = h.written;
      stands = record {
        front = map (moved n) front;
        derivation = h.stands.derivation;
        split = is ∙ ap (λ (l : List Token). map (moved n) l ++ rest) same;
        spells = parts_moved n front ∙ h.stands.spells;
        keeps = h.stands.keeps;
        means = h.stands.means;
        level_is = h.stands.level_is;
      };
      small = h.small;
      formula_is = h.formula_is;
      level_is = h.level_is;
    }

-- alone, where it is all that stands before the rest of a text
pub means_alone : (formulas : Formulas) (n : ℕ) (alone ts rest : List Token) (t : Tree) (level : ℕ) → ts ≡ map (moved n) alone ++ rest → Means formulas ts t level rest → Means formulas alone t level []
means_alone formulas n alone ts rest t level is h =
    let front = h.stands.front in
    let same : front ≡ map (moved n) alone = append_cancel_right front (map (moved n) alone) rest (sym h.stands.split ∙ is) in
    record {
      expr = h.expr;
      written = h.written;
      stands = record {
        front = alone;
        derivation = h.stands.derivation;
        split = sym (append-nil alone);
        spells = sym (parts_moved n alone) ∙ ap (map part) (sym same) ∙ h.stands.spells;
        keeps = h.stands.keeps;
        means = h.stands.means;
        level_is = h.stands.level_is;
      };
      small = h.small;
      formula_is = h.formula_is;
      level_is = h.level_is;
    }

-- the section up to the rest writes what it means
pub writes_up_to : (formulas : Formulas) (text : List ℕ) (from to : ℕ) (t : Tree) (level : ℕ)
    → ((section : List ℕ) → IsClosed Dictionary section → drop from text ≡ section ++ drop (from + length section) text
    → tokens_from Dictionary text from ≡ map (moved from) (tokens_from Dictionary section 0) ++ tokens_from Dictionary text (from + length section))
    → Means formulas (tokens_from Dictionary text from) t level (tokens_from Dictionary text to)
    → (section found : Option (Bor (List ℕ))) → IfSome section (λ s. IsClosed Dictionary s.now) → IfSome section (λ s. drop from text ≡ s.now ++ drop (from + length s.now) text)
    → IfSome found (λ s. (section ≡ Some s) × (from + length s.now ≡ to)) → IfSome found (λ s. Writes formulas s.now t level)
writes_up_to formulas text from to t level law means section None closed stands h = tt
writes_up_to formulas text from to t level law means section (Some s) closed stands (is, ends) =
    let closed_s : IsClosed Dictionary s.now = subst (λ (o : Option (Bor (List ℕ))). IfSome o (λ x. IsClosed Dictionary x.now)) is closed in
    let stands_s = subst (λ (o : Option (Bor (List ℕ))). IfSome o (λ x. drop from text ≡ x.now ++ drop (from + length x.now) text)) is stands in
    record {
      closed = closed_s;
      means = means_alone formulas from (tokens_from Dictionary s.now 0) (tokens_from Dictionary text from) (tokens_from Dictionary text to) t level
          (law s.now closed_s stands_s ∙ ap (λ (n : ℕ). map (moved from) (tokens_from Dictionary s.now 0) ++ tokens_from Dictionary text n) ends) means;
    }

-- ---- errors

pub large_unless : (t : Tree) (line : ℕ) (error : DictError) (Told : DictError → Type 0) → IsLarge t line error → Told error → UnlessMemory Told error
large_unless t line error Told (nodes n) told = told
large_unless t line error Told (choices n k) told = told
large_unless t line error Told (side n k l) told = told
