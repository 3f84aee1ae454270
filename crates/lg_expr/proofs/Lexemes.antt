-- A token is the part that it writes, and wrong where it writes none.
use Rattle.std.proofs.Common.{◌≡◌, ◌≢◌, ℕ, ◌<◌, ◌≤◌, Bool, true, false, cond, nat_eq, ℤ, List, [], ◌∷◌, ◌++◌, ◌⊎◌, inl, inr, length, Option, None, Some, refl, sym, ap, subst, ◌∙◌, arith}
use Rattle.std.specs.Prelude.{IsTrue, codes}
use Rattle.std.specs.Cmp.Lexicographic.{same_text}
use Rattle.std.proofs.lemmas.Bool.{eqb-true, false≢true, and_parts}
use Rattle.std.proofs.lemmas.Bool.Decides.{nat_tests}
use Rattle.std.proofs.lemmas.List.{append-nil}
use Rattle.std.specs.List.{list_all}
use Rattle.std.proofs.lemmas.Str.Parse.{digit_at}
use Rattle.lg_base.specs.Costs.{AreDigits, CostForm, IsCostNumber, ReadsCost, read_cost, HasOneReading}
use Rattle.lg_base.specs.Costs.IsCostNumber.{Plain, Negated}
use Rattle.lg_base.specs.Costs.CostForm.{Whole, WholeAndPart, Part as PartAlone}
use Rattle.lg_gram.specs.Names.{is_capital, NamesAreWritten}
use Rattle.lg_gram.specs.Connectors.{Connector}
use Rattle.lg_lex.specs.Tokens.{Lexeme, sign, quoted, plain, broken, is_text}
use Rattle.lg_expr.specs.declared.part.Operator.TheVariants.{And, Or}
use Rattle.lg_expr.specs.declared.part.Bracket.TheVariants.{Round, Curly, Square}
use Rattle.lg_expr.specs.Parts.{Part, connects, names, operates, opens, closes, number, no_number, ends, wrong}
use Rattle.lg_expr.specs.Words.{at_text, sign_text, WritesConnector, IsMacroName, begins_number, Writes}
use Rattle.lg_expr.specs.Classes.{connector_of, is_macro_name, part_of_number, part_of_connector, part_of_word, part_of_sign, part_of_lexeme}
use Rattle.lg_expr.proofs.Words.{connector_is, connector_writes, macro_is, macro_writes}

-- ---- what a token is, it writes

-- it is no part, or it writes it
abbrev Right : Lexeme → Part → Type 0
Right x p = (p ≡ wrong) ⊎ Writes x p

sign_or : (b n : ℕ) (p q : Part) (t : Bool) → t ≡ nat_eq b n → Writes (sign n) p → Right (sign b) q → Right (sign b) (cond t p q)
sign_or b n p q true is h k = inr (subst (λ (x : ℕ). Writes (sign x) p) (sym (eqb-true b n (sym is))) h)
sign_or b n p q false is h k = k

sign_right : (b : ℕ) → Right (sign b) (part_of_sign b)
sign_right b =
    sign_or b 40 (opens Round) _ _ refl refl
    (sign_or b 41 (closes Round) _ _ refl refl
    (sign_or b 123 (opens Curly) _ _ refl refl
    (sign_or b 125 (closes Curly) _ _ refl refl
    (sign_or b 91 (opens Square) _ _ refl refl
    (sign_or b 93 (closes Square) _ _ refl refl
    (sign_or b 38 (operates And) _ _ refl (inr refl)
    (sign_or b 124 (operates Or) _ _ refl (inr refl)
    (sign_or b 59 ends wrong _ refl refl (inl refl)))))))))

text_or : (w text : List ℕ) (p q : Part) (t : Bool) → t ≡ is_text text w → Writes (plain text) p → Right (plain w) q → Right (plain w) (cond t p q)
text_or w text p q true is h k = inr (subst (λ (x : List ℕ). Writes (plain x) p) (sym (same_text w text is)) h)
text_or w text p q false is h k = k

macro_or : (w : List ℕ) (q : Part) (t : Bool) → t ≡ is_macro_name w → Right (plain w) q → Right (plain w) (cond t (names w) q)
macro_or w q true is k = inr (refl, macro_writes w (sym is))
macro_or w q false is k = k

cost_right : (w : List ℕ) (o : Option ℤ) → IsTrue (begins_number w) → ReadsCost w o → Right (plain w) (part_of_number o)
cost_right w None begins h = inr (w, refl, begins, h)
cost_right w (Some cost) begins h = inr (w, refl, h)

-- what the law of cost numbers says of reading them
abbrev pub ReadsAll : Type 0
ReadsAll = (w : List ℕ) → ReadsCost w (read_cost w)

number_or : ReadsAll → (w : List ℕ) (q : Part) (t : Bool) → t ≡ begins_number w → Right (plain w) q → Right (plain w) (cond t (part_of_number (read_cost w)) q)
number_or reads w q true is k = cost_right w (read_cost w) (sym is) (reads w)
number_or reads w q false is k = k

connector_right : (w : List ℕ) (o : Option Connector) → connector_of w ≡ o → Right (plain w) (part_of_connector o)
connector_right w None is = inl refl
connector_right w (Some c) is = inr (w, refl, connector_writes w c is)

word_right : ReadsAll → (w : List ℕ) → Right (plain w) (part_of_word w)
word_right reads w =
    text_or w (codes "or") (operates Or) _ _ refl (inl refl)
    (text_or w (codes "and") (operates And) _ _ refl (inl refl)
    (macro_or w _ _ refl
    (number_or reads w _ _ refl
    (connector_right w (connector_of w) refl))))

pub token_right : ReadsAll → (x : Lexeme) → Right x (part_of_lexeme x)
token_right reads (sign b) = sign_right b
token_right reads (quoted w) = inl refl
token_right reads (plain w) = word_right reads w
token_right reads broken = inl refl

-- ---- what a token writes, it is

-- by its first byte a word is no operator and no macro
abbrev IsOther : ℕ → Type 0
IsOther b = (b ≢ 60) × (b ≢ 97) × (b ≢ 111)

other_word : (b : ℕ) (w : List ℕ) → IsOther b → part_of_word (b ∷ w) ≡ cond (begins_number (b ∷ w)) (part_of_number (read_cost (b ∷ w))) (part_of_connector (connector_of (b ∷ w)))
other_word b w (m, a, o) =
    let no_or : is_text (codes "or") (b ∷ w) ≡ false = grind (arith, nat_tests) in
    let no_and : is_text (codes "and") (b ∷ w) ≡ false = grind (arith, nat_tests) in
    let no_macro : is_macro_name (b ∷ w) ≡ false = grind (arith, nat_tests) in
    let last : Part = cond (begins_number (b ∷ w)) (part_of_number (read_cost (b ∷ w))) (part_of_connector (connector_of (b ∷ w))) in
    λ i. cond (no_or i) (operates Or) (cond (no_and i) (operates And) (cond (no_macro i) (names (b ∷ w)) last))

number_byte : (b : ℕ) (w : List ℕ) → begins_number (b ∷ w) ≡ true → IsOther b
number_byte b w h = ((λ e. absurd (false≢true (ap (λ (x : ℕ). begins_number (x ∷ w)) (sym e) ∙ h))), (λ e. absurd (false≢true (ap (λ (x : ℕ). begins_number (x ∷ w)) (sym e) ∙ h))), (λ e. absurd (false≢true (ap (λ (x : ℕ). begins_number (x ∷ w)) (sym e) ∙ h))))

number_word : (w : List ℕ) → begins_number w ≡ true → part_of_word w ≡ part_of_number (read_cost w)
number_word [] h = absurd (false≢true h)
number_word (b ∷ w) h =
    other_word b w (number_byte b w h) ∙ ap (λ (x : Bool). cond x (part_of_number (read_cost (b ∷ w))) (part_of_connector (connector_of (b ∷ w)))) h

digits_begin : (most : ℕ) (w more : List ℕ) → AreDigits most w → begins_number (w ++ more) ≡ true
digits_begin most [] more h = absurd (omega (arith, h.0.0))
digits_begin most (b ∷ w) more h =
    let range = digit_at (b ∷ w) 0 h.0.1 (omega arith) in
    grind (arith, nat_tests, range.0, range.1)

form_begins : (w : List ℕ) (value : ℕ) → CostForm w value → begins_number w ≡ true
form_begins w value (Whole digits is) = ap begins_number (sym (append-nil w)) ∙ digits_begin 5 w [] digits
form_begins w value (WholeAndPart whole part split digits after is) = ap begins_number split ∙ digits_begin 5 whole (46 ∷ part) digits
form_begins w value (PartAlone part split digits is) = ap begins_number split

cost_begins : (w : List ℕ) (cost : ℤ) → IsCostNumber w cost → begins_number w ≡ true
cost_begins w cost (Plain size is e) = form_begins w size is.0
cost_begins w cost (Negated rest size split is e) = ap begins_number split

-- a connector begins with an `@` or a capital letter
letter_word : (b : ℕ) (w : List ℕ) → 64 ≤ b → b ≤ 90 → part_of_word (b ∷ w) ≡ part_of_connector (connector_of (b ∷ w))
letter_word b w low high =
    let no_number_begins : begins_number (b ∷ w) ≡ false = grind (arith, nat_tests) in
    other_word b w ((λ e. omega arith), (λ e. omega arith), (λ e. omega arith))
    ∙ ap (λ (x : Bool). cond x (part_of_number (read_cost (b ∷ w))) (part_of_connector (connector_of (b ∷ w)))) no_number_begins

connector_word : (multi : Bool) (caps rest : List ℕ) → 0 < length caps → list_all is_capital caps ≡ true → part_of_word (at_text multi ++ (caps ++ rest)) ≡ part_of_connector (connector_of (at_text multi ++ (caps ++ rest)))
connector_word true caps rest some all = letter_word 64 (caps ++ rest) (omega arith) (omega arith)
connector_word false [] rest some all = absurd (omega arith)
connector_word false (b ∷ caps) rest some all =
    let capital = (and_parts (is_capital b) (list_all is_capital caps) all).0 in
    letter_word b (caps ++ rest) (grind (arith, nat_tests)) (grind (arith, nat_tests))

connector_only : NamesAreWritten → (w : List ℕ) (c : Connector) → WritesConnector w c → part_of_word w ≡ connects c
connector_only laws w c h =
    let parts = laws h.caps h.subs h.written in
    ap part_of_word h.spells ∙ connector_word c.multi h.caps (h.subs ++ sign_text c.right) parts.some parts.capitals
    ∙ ap part_of_connector (ap connector_of (sym h.spells) ∙ connector_is laws w c h)

macro_only : (m : List ℕ) → IsMacroName m → part_of_word m ≡ names m
macro_only m h =
    let rest : Part = cond (begins_number m) (part_of_number (read_cost m)) (part_of_connector (connector_of m)) in
    let no_or : is_text (codes "or") m ≡ false = ap (is_text (codes "or")) h.2 in
    let no_and : is_text (codes "and") m ≡ false = ap (is_text (codes "and")) h.2 in
    λ i. cond (no_or i) (operates Or) (cond (no_and i) (operates And) (cond (macro_is m h i) (names m) rest))

pub token_only : HasOneReading → ReadsAll → NamesAreWritten → (x : Lexeme) (p : Part) → Writes x p → part_of_lexeme x ≡ p
token_only one reads laws x (connects c) (w, is, h) = ap part_of_lexeme is ∙ connector_only laws w c h
token_only one reads laws x (names m) (is, h) = ap part_of_lexeme is ∙ macro_only m h
token_only one reads laws x (operates And) (inl is) = ap part_of_lexeme is
token_only one reads laws x (operates And) (inr is) = ap part_of_lexeme is
token_only one reads laws x (operates Or) (inl is) = ap part_of_lexeme is
token_only one reads laws x (operates Or) (inr is) = ap part_of_lexeme is
token_only one reads laws x (opens Round) is = ap part_of_lexeme is
token_only one reads laws x (opens Curly) is = ap part_of_lexeme is
token_only one reads laws x (opens Square) is = ap part_of_lexeme is
token_only one reads laws x (closes Round) is = ap part_of_lexeme is
token_only one reads laws x (closes Curly) is = ap part_of_lexeme is
token_only one reads laws x (closes Square) is = ap part_of_lexeme is
token_only one reads laws x (number cost) (w, is, h) = ap part_of_lexeme is ∙ number_word w (cost_begins w cost h) ∙ ap part_of_number (one w (read_cost w) (Some cost) (reads w) h)
token_only one reads laws x no_number (w, is, begins, none) = ap part_of_lexeme is ∙ number_word w begins ∙ ap part_of_number (one w (read_cost w) None (reads w) none)
token_only one reads laws x ends is = ap part_of_lexeme is
token_only one reads laws x wrong h = absurd h
