-- How the letters of a name are kept.
use Rattle.std.specs.Prelude.{◌≡◌, ℕ, ◌+◌, ◌-◌, ◌≤◌, List, ◌++◌, length, take, drop, replicate, slice_range}
use Rattle.std.proofs.Common.{sym, ap, ◌∙◌, arith, take-append-drop, length-take-le, length-drop}
use Rattle.std.proofs.Math.Seq.{take-add}
use Rattle.lg_gram.specs.Names.{Name, IsName}
use Rattle.lg_gram.specs.declared.label.Label.TheInside.{Inside}

abbrev pub named : Inside → Name
named a = record { caps = take a.caps_len a.letters; subs = slice_range a.letters a.caps_len a.len }

-- the letters are those of a text, and zeros after them
abbrev pub HoldsText : List ℕ → List ℕ → Type 0
HoldsText letters text = letters ≡ text ++ replicate (16 - length text) 0

-- the letters stand at the front, and zeros behind them
pub record IsStored (a : Inside) : Type 0 where
  pub is_name : IsName (named a)
  pub ordered : a.caps_len ≤ a.len
  pub fits : a.len ≤ 16
  pub sized : length a.letters ≡ 16
  pub padded : drop a.len a.letters ≡ replicate (16 - a.len) 0

-- a name as it is kept
abbrev pub stored : Name → Inside
stored n = record {
  letters = n.caps ++ n.subs ++ replicate (16 - (length n.caps + length n.subs)) 0;
  caps_len = length n.caps;
  len = length n.caps + length n.subs;
}

-- a list in three parts, of which the last is zeros
three_parts : (l : List ℕ) (i j n : ℕ) → length l ≡ n → i ≤ j → j ≤ n → drop j l ≡ replicate (n - j) 0 →
    take i l ++ take (j - i) (drop i l) ++ replicate (n - j) 0 ≡ l
three_parts l i j n sized ordered fits padded =
    let upto : i + (j - i) ≡ j = omega arith in
    ap (λ x. x ++ replicate (n - j) 0) (sym (take-add i (j - i) l) ∙ ap (λ k. take k l) upto)
    ∙ ap (λ x. take j l ++ x) (sym padded) ∙ take-append-drop j l

-- what is kept is a name's letters and nothing else
pub stored_named : (a : Inside) → IsStored a → stored (named a) ≡ a
stored_named a h =
    let first : length (take a.caps_len a.letters) ≡ a.caps_len = length-take-le a.caps_len a.letters (omega (arith, h.ordered, h.fits, h.sized)) in
    let second : length (take (a.len - a.caps_len) (drop a.caps_len a.letters)) ≡ a.len - a.caps_len =
    length-take-le _ _ (omega (arith, length-drop a.caps_len a.letters, h.ordered, h.fits, h.sized)) in
    let both : length (take a.caps_len a.letters) + length (take (a.len - a.caps_len) (drop a.caps_len a.letters)) ≡ a.len =
    omega (arith, first, second, h.ordered) in
    let letters = ap (λ (k : ℕ). take a.caps_len a.letters ++ take (a.len - a.caps_len) (drop a.caps_len a.letters) ++ replicate (16 - k) 0) both
    ∙ three_parts a.letters a.caps_len a.len 16 h.sized h.ordered h.fits h.padded in
    λ i. record { letters = letters i; caps_len = first i; len = both i }
