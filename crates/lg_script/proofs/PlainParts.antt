-- No part of an expression that plain tokens spell has a line feed: no connector, and no macro's name.
use Rattle.std.proofs.Common.{◌≡◌, ◌≢◌, ℕ, zero, suc, ◌-◌, Bool, true, false, List, [], ◌∷◌, ◌++◌, length, map, take, drop, Option, Some, None, ℤ, refl, subst, arith, codes, ◌==◌, if◌then◌else◌}
use Rattle.std.specs.List.{AllByRecursion, prefix_len}
use Rattle.lg_base.specs.Costs.{read_cost}
use Rattle.lg_gram.specs.Connectors.{Connector, connector_text}
use Rattle.lg_gram.specs.Names.{is_capital, is_written, trimmed}
use Rattle.lg_gram.specs.RawTrees.{RawTree}
use Rattle.lg_lex.specs.Classes.{line_feed}
use Rattle.lg_lex.specs.Tokens.{is_text, Lexeme, sign, quoted, plain, broken, Token}
use Rattle.lg_expr.specs.declared.part.Bracket.TheVariants.{Round, Curly, Square}
use Rattle.lg_expr.specs.declared.part.Operator.TheVariants.{And, Or}
use Rattle.lg_expr.specs.Parts.{Part, connects, names, operates, opens, closes, number, no_number, ends, wrong}
use Rattle.lg_expr.specs.Classes.{is_macro_name, last_byte, without_last, connector_from, connector_without_sign, connector_of, part_of_number, part_of_connector, part_of_sign, part_of_lexeme}
use Rattle.lg_expr.specs.Words.{begins_number}
use Rattle.lg_expr.specs.Grammar.{spelled, Rules}
use Rattle.lg_expr.specs.Reading.{StandFor}
use Rattle.lg_expr.proofs.AllOf.{all_append, all_left}
use Rattle.lg_dictread.specs.Entries.{part}
use Rattle.lg_script.specs.SingleLines.{IsSingleLine}
use Rattle.lg_script.proofs.PlainTokens.{IsPlain, ArePlainTokens}

-- ---- a connector

module _ {A : Type 0} (P : A → Type 0) where
  pub all_take : (n : ℕ) (xs : List A) → AllByRecursion P xs → AllByRecursion P (take n xs)
  all_take zero xs h = tt
  all_take (suc n) [] h = tt
  all_take (suc n) (x ∷ xs) h = (h.0, all_take n xs h.1)

  pub all_drop : (n : ℕ) (xs : List A) → AllByRecursion P xs → AllByRecursion P (drop n xs)
  all_drop zero xs h = h
  all_drop (suc n) [] h = tt
  all_drop (suc n) (x ∷ xs) h = all_drop n xs h.1

abbrev NoFeed : ℕ → Type 0
NoFeed b = b ≢ line_feed

abbrev pub HasPlainText : Connector → Type 0
HasPlainText c = IsSingleLine (connector_text c)

text_single : (caps subs : List ℕ) (multi : Bool) → IsSingleLine caps → IsSingleLine subs → IsSingleLine (if multi then 64 ∷ caps ++ subs else caps ++ subs)
text_single caps subs true h k = ((λ is. omega (arith, is)), all_append NoFeed caps subs h k)
text_single caps subs false h k = all_append NoFeed caps subs h k

if_some : (b : Bool) (k c : Connector) → (if b then Some k else None) ≡ Some c → k ≡ c
if_some true k c e = cc
if_some false k c e = absurd (cc e)

from_single : (letters : List ℕ) (multi right : Bool) (c : Connector) → IsSingleLine letters → connector_from letters multi right ≡ Some c → HasPlainText c
from_single letters multi right c h e =
    let caps = take (prefix_len is_capital letters) letters in
    let subs = drop (prefix_len is_capital letters) letters in
    let same = if_some (is_written caps subs) (record { caps = caps; subs = trimmed subs; multi = multi; right = right }) c e in
    subst HasPlainText same (text_single caps (trimmed subs) multi (all_take NoFeed _ letters h) (all_take NoFeed _ subs (all_drop NoFeed _ letters h)))

sign_single : (letters : List ℕ) (right : Bool) (c : Connector) → IsSingleLine letters → connector_without_sign letters right ≡ Some c → HasPlainText c
sign_single [] right c h e = absurd (cc e)
sign_single (b ∷ bs) right c h e = by (b == 64) e
  where
    by : (m : Bool) → (if m then connector_from bs true right else connector_from (b ∷ bs) false right) ≡ Some c → HasPlainText c
    by true e = from_single bs true right c h.1 e
    by false e = from_single (b ∷ bs) false right c h e

connector_single : (w : List ℕ) (c : Connector) → IsSingleLine w → connector_of w ≡ Some c → HasPlainText c
connector_single w c h e = by (last_byte w == 43) (last_byte w == 45) e
  where
    letters : IsSingleLine (without_last w)
    letters = all_take NoFeed (length w - 1) w h

    by : (m n : Bool) → (if m then connector_without_sign (without_last w) true else (if n then connector_without_sign (without_last w) false else None)) ≡ Some c → HasPlainText c
    by true n e = sign_single (without_last w) true c letters e
    by false true e = sign_single (without_last w) false c letters e
    by false false e = absurd (cc e)

-- ---- a part

abbrev pub IsPlainPart : Part → Type 0
IsPlainPart (connects c) = HasPlainText c
IsPlainPart (names m) = IsSingleLine m
IsPlainPart (operates op) = Unit {0}
IsPlainPart (opens bracket) = Unit {0}
IsPlainPart (closes bracket) = Unit {0}
IsPlainPart (number cost) = Unit {0}
IsPlainPart no_number = Unit {0}
IsPlainPart ends = Unit {0}
IsPlainPart wrong = Unit {0}

signs : (a b c d e f g h i : Bool) → IsPlainPart (if a then opens Round else (if b then closes Round else (if c then opens Curly else (if d then closes Curly else (if e then opens Square
    else (if f then closes Square else (if g then operates And else (if h then operates Or else (if i then ends else wrong)))))))))
signs true b c d e f g h i = tt
signs false true c d e f g h i = tt
signs false false true d e f g h i = tt
signs false false false true e f g h i = tt
signs false false false false true f g h i = tt
signs false false false false false true g h i = tt
signs false false false false false false true h i = tt
signs false false false false false false false true i = tt
signs false false false false false false false false true = tt
signs false false false false false false false false false = tt

sign_plain : (b : ℕ) → IsPlainPart (part_of_sign b)
sign_plain b = signs (b == 40) (b == 41) (b == 123) (b == 125) (b == 91) (b == 93) (b == 38) (b == 124) (b == 59)

number_plain : (cost : Option ℤ) → IsPlainPart (part_of_number cost)
number_plain None = tt
number_plain (Some cost) = tt

connector_plain : (o : Option Connector) → ((c : Connector) → o ≡ Some c → HasPlainText c) → IsPlainPart (part_of_connector o)
connector_plain None h = tt
connector_plain (Some c) h = h c refl

words : (a b c d : Bool) (w : List ℕ) (p q : Part) → IsSingleLine w → IsPlainPart p → IsPlainPart q
    → IsPlainPart (if a then operates Or else (if b then operates And else (if c then names w else (if d then p else q))))
words true b c d w p q h k l = tt
words false true c d w p q h k l = tt
words false false true d w p q h k l = h
words false false false true w p q h k l = k
words false false false false w p q h k l = l

part_plain : (x : Lexeme) → IsPlain x → IsPlainPart (part_of_lexeme x)
part_plain (sign b) h = sign_plain b
part_plain (quoted w) h = tt
part_plain (plain w) h = words (is_text (codes "or") w) (is_text (codes "and") w) (is_macro_name w) (begins_number w) w (part_of_number (read_cost w)) (part_of_connector (connector_of w)) h
    (number_plain (read_cost w)) (connector_plain (connector_of w) (λ c. connector_single w c h))
part_plain broken h = tt

parts_plain : (ts : List Token) → ArePlainTokens ts → AllByRecursion IsPlainPart (map part ts)
parts_plain [] all = tt
parts_plain (t ∷ ts) all = (part_plain t.0 all.0, parts_plain ts all.1)

-- the parts of a derivation that plain tokens spell
pub spelled_plain : (r : Rules) (ts : List Token) (e : RawTree) (written : ℕ) (rest : List Token) (h : StandFor Token part r ts e written rest) → ArePlainTokens ts → AllByRecursion IsPlainPart (spelled h.derivation)
spelled_plain r ts e written rest h all =
    let front = all_left (λ (t : Token). IsPlain t.0) h.front rest (subst ArePlainTokens h.split all) in
    all_left IsPlainPart (spelled h.derivation) _ (subst (AllByRecursion IsPlainPart) h.spells (parts_plain h.front front))
