-- A token is the part that it writes, and wrong where it writes none.
use Rattle.std.proofs.Common.{◌≡◌, ℕ, suc, ◌-◌, ◌<◌, Bool, true, false, cond, nat_eq, List, [], ◌∷◌, ◌++◌, length, take, drop, get_or, None, Some, refl, sym, ap, subst, ◌∙◌, append_assoc, length-append, arith}
use Rattle.std.specs.List.{list_all, prefix_len}
use Rattle.std.proofs.lemmas.Bool.{eqb-true, and_parts}
use Rattle.std.proofs.lemmas.Bool.Decides.{nat_tests}
use Rattle.std.proofs.lemmas.List.{take_at, drop_at, drop_all, take-append-drop}
use Rattle.std.proofs.Math.Seq.{drop-cons, get_or-append_seam}
use Rattle.lg_gram.specs.Names.{is_capital, is_written, trimmed, NamesAreWritten}
use Rattle.lg_gram.specs.Connectors.{Connector}
use Rattle.lg_expr.specs.Words.{at_text, sign_text, WritesConnector, IsMacroName}
use Rattle.lg_expr.specs.Classes.{last_byte, without_last, connector_from, connector_without_sign, connector_of, is_macro_name}

-- ---- the last byte of a word

pub last_byte-push : (w : List ℕ) (b : ℕ) → last_byte (w ++ b ∷ []) ≡ b
last_byte-push w b =
    let at : length (w ++ b ∷ []) - 1 ≡ length w = omega (arith, length-append w (b ∷ [])) in
    ap (λ (k : ℕ). get_or (w ++ b ∷ []) k 0) at ∙ get_or-append_seam w b [] 0

pub without_last-push : (w : List ℕ) (b : ℕ) → without_last (w ++ b ∷ []) ≡ w
without_last-push w b = take_at w (b ∷ []) (length (w ++ b ∷ []) - 1) (omega (arith, length-append w (b ∷ [])))

pub word_split : (w : List ℕ) → 0 < length w → w ≡ without_last w ++ last_byte w ∷ []
word_split w some =
    let k : ℕ = length w - 1 in
    let lt : k < length w = omega arith in
    sym (take-append-drop k w)
    ∙ ap (λ (x : List ℕ). take k w ++ x) (drop-cons w k 0 lt ∙ ap (λ (x : List ℕ). get_or w k 0 ∷ x) (drop_all (suc k) w (omega arith)))

ends_with : (w : List ℕ) (b : ℕ) → 0 < b → last_byte w ≡ b → w ≡ without_last w ++ b ∷ []
ends_with [] b some is = absurd (omega arith)
ends_with (c ∷ w) b some is = word_split (c ∷ w) (omega arith) ∙ ap (λ (x : ℕ). without_last (c ∷ w) ++ x ∷ []) is

-- ---- connectors

abbrev written_as : List ℕ → List ℕ → Bool → Bool → Connector
written_as caps subs multi right = record { caps = caps; subs = trimmed subs; multi = multi; right = right }

from_letters : NamesAreWritten → (caps subs : List ℕ) (multi right : Bool) → is_written caps subs ≡ true → connector_from (caps ++ subs) multi right ≡ Some (written_as caps subs multi right)
from_letters laws caps subs multi right written =
    let parts = laws caps subs written in
    let n = prefix_len is_capital (caps ++ subs) in
    let size : length caps ≡ n = sym parts.front in
    let front : take n (caps ++ subs) ≡ caps = take_at caps subs n size in
    let back : drop n (caps ++ subs) ≡ subs = drop_at caps subs n size in
    (λ i. cond (is_written (front i) (back i)) (Some (written_as (front i) (back i) multi right)) None)
    ∙ ap (λ (x : Bool). cond x (Some (written_as caps subs multi right)) None) written

without_sign : NamesAreWritten → (caps subs : List ℕ) (multi right : Bool) → is_written caps subs ≡ true → connector_without_sign (at_text multi ++ (caps ++ subs)) right ≡ Some (written_as caps subs multi right)
without_sign laws caps subs true right written = from_letters laws caps subs true right written
without_sign laws [] subs false right written = absurd (let parts = laws [] subs written in omega (arith, parts.some))
without_sign laws (b ∷ caps) subs false right written =
    let parts = laws (b ∷ caps) subs written in
    let capital = (and_parts (is_capital b) (list_all is_capital caps) parts.capitals).0 in
    let other : nat_eq b 64 ≡ false = grind (arith, nat_tests) in
    ap (λ (x : Bool). cond x (connector_from (caps ++ subs) true right) (connector_from (b ∷ (caps ++ subs)) false right)) other
    ∙ from_letters laws (b ∷ caps) subs false right written

with_sign : (w : List ℕ) (right : Bool) → connector_of (w ++ sign_text right) ≡ connector_without_sign w right
with_sign w true = (λ i. cond (nat_eq (last_byte-push w 43 i) 43) (connector_without_sign (without_last-push w 43 i) true) (cond (nat_eq (last_byte-push w 43 i) 45) (connector_without_sign (without_last-push w 43 i) false) None))
with_sign w false = (λ i. cond (nat_eq (last_byte-push w 45 i) 43) (connector_without_sign (without_last-push w 45 i) true) (cond (nat_eq (last_byte-push w 45 i) 45) (connector_without_sign (without_last-push w 45 i) false) None))

-- a word that writes a connector is read as that connector
pub connector_is : NamesAreWritten → (w : List ℕ) (c : Connector) → WritesConnector w c → connector_of w ≡ Some c
connector_is laws w c h =
    let text : w ≡ (at_text c.multi ++ (h.caps ++ h.subs)) ++ sign_text c.right = h.spells ∙ sym (simp append_assoc) in
    let same : written_as h.caps h.subs c.multi c.right ≡ c = (λ i. record { caps = sym h.caps_are i; subs = sym h.subs_are i; multi = c.multi; right = c.right }) in
    ap connector_of text ∙ with_sign (at_text c.multi ++ (h.caps ++ h.subs)) c.right ∙ without_sign laws h.caps h.subs c.multi c.right h.written ∙ ap (λ (x : Connector). Some x) same

-- ---- and back

-- letters with an `@` or none that a connector has, with its direction
record LettersAre (letters : List ℕ) (right : Bool) (c : Connector) : Type 0 where
  caps : List ℕ
  subs : List ℕ
  spells : letters ≡ at_text c.multi ++ (caps ++ subs)
  written : is_written caps subs ≡ true
  caps_are : c.caps ≡ caps
  subs_are : c.subs ≡ trimmed subs
  direction : c.right ≡ right

found : (caps subs : List ℕ) (multi right : Bool) (t : Bool) (c : Connector) → t ≡ is_written caps subs → cond t (Some (written_as caps subs multi right)) None ≡ Some c → (is_written caps subs ≡ true) × (written_as caps subs multi right ≡ c)
found caps subs multi right true c is e = (sym is, cc)
found caps subs multi right false c is e = absurd cc

letters_are : (letters : List ℕ) (multi right : Bool) (c : Connector) → connector_from letters multi right ≡ Some c → LettersAre (at_text multi ++ letters) right c
letters_are letters multi right c e =
    let n = prefix_len is_capital letters in
    let f = found (take n letters) (drop n letters) multi right (is_written (take n letters) (drop n letters)) c refl e in
    record {
      caps = take n letters;
      subs = drop n letters;
      spells = (λ i. at_text (ap (λ (x : Connector). x.multi) f.1 i) ++ sym (take-append-drop n letters) i);
      written = f.0;
      caps_are = sym (ap (λ (x : Connector). x.caps) f.1);
      subs_are = sym (ap (λ (x : Connector). x.subs) f.1);
      direction = sym (ap (λ (x : Connector). x.right) f.1);
    }

at_or_none : (b : ℕ) (bs : List ℕ) (right : Bool) (t : Bool) (c : Connector) → t ≡ nat_eq b 64 → cond t (connector_from bs true right) (connector_from (b ∷ bs) false right) ≡ Some c → LettersAre (b ∷ bs) right c
at_or_none b bs right true c is e = subst (λ (x : ℕ). LettersAre (x ∷ bs) right c) (sym (eqb-true b 64 (sym is))) (letters_are bs true right c e)
at_or_none b bs right false c is e = letters_are (b ∷ bs) false right c e

sign_off : (letters : List ℕ) (right : Bool) (c : Connector) → connector_without_sign letters right ≡ Some c → LettersAre letters right c
sign_off [] right c e = absurd cc
sign_off (b ∷ bs) right c e = at_or_none b bs right (nat_eq b 64) c refl e

signed : (w letters : List ℕ) (right : Bool) (c : Connector) → w ≡ letters ++ sign_text right → LettersAre letters right c → WritesConnector w c
signed w letters right c is h = record {
  caps = h.caps;
  subs = h.subs;
  spells = is ∙ (λ i. h.spells i ++ sign_text (sym h.direction i)) ∙ simp append_assoc;
  written = h.written;
  caps_are = h.caps_are;
  subs_are = h.subs_are;
}

minus_or_none : (w : List ℕ) (t : Bool) (c : Connector) → t ≡ nat_eq (last_byte w) 45 → cond t (connector_without_sign (without_last w) false) None ≡ Some c → WritesConnector w c
minus_or_none w true c is e = signed w (without_last w) false c (ends_with w 45 (omega arith) (eqb-true (last_byte w) 45 (sym is))) (sign_off (without_last w) false c e)
minus_or_none w false c is e = absurd cc

plus_or_minus : (w : List ℕ) (t : Bool) (c : Connector) → t ≡ nat_eq (last_byte w) 43
    → cond t (connector_without_sign (without_last w) true) (cond (nat_eq (last_byte w) 45) (connector_without_sign (without_last w) false) None) ≡ Some c → WritesConnector w c
plus_or_minus w true c is e = signed w (without_last w) true c (ends_with w 43 (omega arith) (eqb-true (last_byte w) 43 (sym is))) (sign_off (without_last w) true c e)
plus_or_minus w false c is e = minus_or_none w (nat_eq (last_byte w) 45) c refl e

-- a word that is read as a connector writes it
pub connector_writes : (w : List ℕ) (c : Connector) → connector_of w ≡ Some c → WritesConnector w c
connector_writes w c e = plus_or_minus w (nat_eq (last_byte w) 43) c refl e

-- ---- macros

pub macro_is : (m : List ℕ) → IsMacroName m → is_macro_name m ≡ true
macro_is m ([], some, is) = absurd (some refl)
macro_is m (b ∷ inner, some, is) =
    let last : last_byte (60 ∷ (b ∷ inner) ++ 62 ∷ []) ≡ 62 = last_byte-push (60 ∷ b ∷ inner) 62 in
    let long : 2 < length (60 ∷ (b ∷ inner) ++ 62 ∷ []) = omega (arith, length-append (b ∷ inner) (62 ∷ [])) in
    ap is_macro_name is ∙ grind (arith, nat_tests, last, long)

last_of_rest : (b : ℕ) (w : List ℕ) → 0 < length w → last_byte w ≡ last_byte (b ∷ w)
last_of_rest b w some =
    let at : length (b ∷ w) - 1 ≡ suc (length w - 1) = omega arith in
    sym (ap (λ (k : ℕ). get_or (b ∷ w) k 0) at)

macro_named : (w : List ℕ) → 2 < length w → get_or w 0 0 ≡ 60 → last_byte w ≡ 62 → IsMacroName w
macro_named [] long first last = absurd (omega arith)
macro_named (b ∷ w) long first last =
    let inner = take (length w - 1) w in
    let some : 0 < length w = omega arith in
    let split : w ≡ inner ++ last_byte w ∷ [] = word_split w some in
    let same : last_byte w ≡ 62 = last_of_rest b w some ∙ last in
    (inner, (λ e. omega (arith, ap length e, ap length split, length-append inner (last_byte w ∷ []))), (λ i. first i ∷ (split ∙ ap (λ (x : ℕ). inner ++ x ∷ []) same) i))

pub macro_writes : (w : List ℕ) → is_macro_name w ≡ true → IsMacroName w
macro_writes w h = macro_named w (grind (arith, nat_tests)) (grind (arith, nat_tests)) (grind (arith, nat_tests))
