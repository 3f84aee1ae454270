-- First lines of answers, taken apart.
use Rattle.std.proofs.Common.{◌≡◌, ℕ, ◌<◌, ◌^◌, List, ◌∷◌, ◌++◌, drop, decimal, codes, refl, ap, sym, ◌∙◌, arith, eqb, eq-eqb, true, not, true≢false}
use Rattle.std.proofs.lemmas.Bool.{eqb-true}
use Rattle.std.proofs.lemmas.List.{append_assoc}
use Rattle.std.proofs.lemmas.Slice.Eq.{bytes_eq-Decides}
use Rattle.std.specs.Cmp.Lexicographic.{pointwise}
use Rattle.std.proofs.lemmas.Fmt.{decimal_injective}
use Rattle.lg_gram.specs.declared.listing.Bound.{Bound}
use Rattle.lg_gram.specs.declared.listing.Bound.TheVariants.{TooManyWords, TooWide}
use Rattle.lg_gram.specs.declared.reply.CommandKind.{CommandKind}
use Rattle.lg_gram.specs.declared.reply.CommandKind.TheVariants as kinds
use Rattle.lg_gram.specs.declared.reply.Place.{Place}
use Rattle.lg_text.specs.Replies.{kind_word, place_text}
use Rattle.lg_text.specs.Shown.{IsPlace}
use Rattle.lg_text.specs.Texts.{bound_pieces}
use Rattle.lg_audit.specs.Pieces.{Lacks, HasNoBlank}
use Rattle.lg_audit.specs.Lines.{line}
use Rattle.lg_audit.proofs.Cuts.{same_cut, decimal_lacks, behind_same}

-- ---- places

-- what stands before the point, and behind it
pub place_cut : (text first last : List ℕ) (p : Place) → Lacks 46 first → text ≡ first ++ 46 ∷ last → IsPlace p → text ≡ place_text p → (first ≡ decimal p.session) × (last ≡ decimal p.command)
place_cut text first last p none cut form is =
    same_cut 46 first (decimal p.session) last (decimal p.command) none (decimal_lacks 46 p.session (omega (arith, form.0)) (λ range. omega arith)) (sym cut ∙ is)

-- a number that is printed so
pub same_number : (text : List ℕ) (found number : ℕ) → text ≡ decimal found → found < 2 ^ 64 → number < 2 ^ 64 → (eqb found number ≡ true → text ≡ decimal number) × (text ≡ decimal number → eqb found number ≡ true)
same_number text found number is fits fits' = (λ e. is ∙ ap decimal (eqb-true found number e), λ e. eq-eqb found number (decimal_injective found number fits fits' (sym is ∙ e)))

-- what stands before the point of a place, and behind it
pub session_cut : (line first last : List ℕ) (session command : ℕ) → session < 2 ^ 64 → Lacks 46 first → line ≡ first ++ 46 ∷ last → (rest : List ℕ)
    → line ≡ place_text (record { session = session; command = command }) ++ 32 ∷ rest → (first ≡ decimal session) × (last ≡ decimal command ++ 32 ∷ rest)
session_cut line first last session command fits none cut rest is =
    same_cut 46 first (decimal session) last (decimal command ++ 32 ∷ rest) none (decimal_lacks 46 session fits (λ range. omega arith))
    (sym cut ∙ is ∙ append_assoc (decimal session) (46 ∷ decimal command) (32 ∷ rest))

-- what stands behind a piece and a blank
pub behind_piece : (line piece r s : List ℕ) → line ≡ piece ++ 32 ∷ r → line ≡ piece ++ 32 ∷ s → r ≡ s
behind_piece line piece r s e f = ap (λ (l : List ℕ). drop 1 l) (behind_same piece line (32 ∷ r) (32 ∷ s) e f)

-- ---- kinds

pub kind_solid : (kind : CommandKind) → HasNoBlank (kind_word kind)
kind_solid kinds.Parse = refl
kind_solid kinds.List = refl
kind_solid kinds.More = refl
kind_solid kinds.Set = refl
kind_solid kinds.Macro = refl
kind_solid kinds.Del = refl
kind_solid kinds.Version = refl

-- ---- bounds

pub no_bound : (text : List ℕ) → ((rest : List ℕ) → text ≡ codes "too many words " ++ rest → ⊥) → ((rest : List ℕ) → text ≡ codes "too many choices " ++ rest → ⊥)
    → (bound : Bound) → text ≡ line (bound_pieces bound) → ⊥
no_bound text words choices (TooManyWords count) is = words (decimal count) is
no_bound text words choices (TooWide count) is = choices (decimal count) is

-- ---- tests

pub not_another : (xs ys : List ℕ) → xs ≡ ys → true ≡ not (pointwise eqb xs ys) → ⊥
not_another xs ys p e = true≢false (e ∙ ap not ((bytes_eq-Decides xs ys).1 p))
