-- What a link shows between its ends.
use Rattle.std.proofs.Common.{◌≡◌, ℕ, ◌+◌, ◌-◌, ◌/◌, ◌<◌, ◌≤◌, ◌&&◌, max, nat_lt, List, ◌++◌, if◌then◌else◌, length, get_or, replicate, sym, ap, ◌∙◌, inl, inr, true, refl, arith}
use Rattle.std.proofs.lemmas.Bool.{cases_lt}
use Rattle.std.proofs.lemmas.Bool.Decides.{nat_tests}
use Rattle.std.proofs.lemmas.List.{get_or_append_left, get_or-append_right, get_or-replicate, get_or_default, length-replicate}
use Rattle.std.proofs.Math.Nat.{div-le_self}
use Rattle.lg_text.specs.Diagrams.{Drawn, spans, shows_at}
use Rattle.lg_text.specs.Painted.{Paints}

-- the columns up to one are drawn where they lie behind the start, and the others are as they were
pub record IsDrawnTo (d : Drawn) (column : ℕ) (old new : List ℕ) : Type 0 where
  pub same : length new ≡ length old
  pub most : column ≤ max (d.from + 1) d.to
  pub drawn : (c : ℕ) → d.from < c → c < column → get_or new c 32 ≡ shows_at c d
  pub before : (c : ℕ) → c ≤ d.from → get_or new c 32 ≡ get_or old c 32
  pub behind : (c : ℕ) → column ≤ c → get_or new c 32 ≡ get_or old c 32

between : (a b c x y r : ℕ) → (a < c → c < b → r ≡ x) → (c ≤ a → r ≡ y) → (a < c → b ≤ c → r ≡ y) → r ≡ (if nat_lt a c && nat_lt c b then x else y)
between a b c x y r inside before behind = elim (cases_lt a c) [
  | inl after ↦ elim (cases_lt c b) [
    | inl within ↦ let is = inside after within in grind (arith, nat_tests)
    | inr past ↦ let is = behind after past in grind (arith, nat_tests)
  ]
  | inr early ↦ let is = before early in grind (arith, nat_tests)
]

pub all_drawn : (d : Drawn) (column : ℕ) (old new : List ℕ) → d.to ≤ column → IsDrawnTo d column old new → Paints (λ c b. if spans c d then shows_at c d else b) old new
all_drawn d column old new past is = record {
  same = is.same;
  at = λ c within. between d.from d.to c (shows_at c d) (get_or old c 32) (get_or new c 32)
      (λ after below. is.drawn c after (omega arith)) (is.before c) (λ after beyond. is.behind c (let most = is.most in omega arith));
}

-- what a link shows behind the dashes in front of its label
module _ (d : Drawn) (letters : List ℕ) (column at front : ℕ) (is : letters ≡ d.label) (inside : spans column d ≡ true) (is_at : at ≡ column - d.from - 1) (is_front : front ≡ (d.to - d.from - 1 - length letters) / 2) (late : front ≤ at) where
  abbrev back : List ℕ
  back = replicate (d.to - d.from - 1 - length letters - front) 45

  abbrev bar_with : List ℕ → ℕ → List ℕ
  bar_with label front = replicate front 45 ++ (label ++ replicate (d.to - d.from - 1 - length label - front) 45)

  is_front_of : front ≡ (d.to - d.from - 1 - length d.label) / 2
  is_front_of = is_front ∙ ap (λ l. (d.to - d.from - 1 - length l) / 2) is

  shows : shows_at column d ≡ get_or (letters ++ back) (at - front) 32
  shows =
      (λ t. get_or (bar_with (sym is t) (sym is_front_of t)) (sym is_at t) 32)
      ∙ get_or-append_right (replicate front 45) (letters ++ back) front at 32 (length-replicate front 45) late

  pub shows_letter : at - front < length letters → get_or letters (at - front) 0 ≡ shows_at column d
  shows_letter less = get_or_default letters (at - front) 0 32 less ∙ sym (get_or_append_left letters back 32 (at - front) less) ∙ sym shows

  pub shows_dash : length letters ≤ at - front → 45 ≡ shows_at column d
  shows_dash past =
      let spanned : (d.from < column) × (column < d.to) = grind (arith, nat_tests) in
      let half = div-le_self (d.to - d.from - 1 - length letters) 2 in
      let dash : get_or (letters ++ back) (at - front) 32 ≡ 45 = get_or-append_right letters back (length letters) (at - front) 32 refl past ∙ get_or-replicate (d.to - d.from - 1 - length letters - front) (at - front - length letters) 45 32 (omega arith) in
      sym (shows ∙ dash)
