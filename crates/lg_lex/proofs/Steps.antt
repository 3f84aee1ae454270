-- One byte of the automaton, and what a class says of a byte.
use Rattle.std.proofs.Common.{◌≡◌, ◌≢◌, ℕ, List, [], ◌∷◌, ◌++◌, refl, arith}
use Rattle.std.proofs.lemmas.Bool.Decides.{nat_tests}
use Rattle.std.specs.List.{AllByRecursion}
use Rattle.lg_lex.specs.declared.marks.Class.{Class}
use Rattle.lg_lex.specs.declared.marks.Class.TheVariants.{LineEnd, Percent, Quote, Other}
use Rattle.lg_lex.specs.declared.marks.Marks.{Marks}
use Rattle.lg_lex.specs.declared.marks.Marks.TheVariants.{Dictionary, Knowledge}
use Rattle.lg_lex.specs.Classes.{line_feed, percent_sign, quotation_mark, class_of}
use Rattle.lg_lex.specs.Tokens.{plain}
use Rattle.lg_lex.specs.Lexing.{Rest, in_comment, in_quotes, begun, commented, plained, quoting}

pub All-push : {A : Type 0} (P : A → Type 0) (xs : List A) (x : A) → AllByRecursion P xs → P x → AllByRecursion P (xs ++ x ∷ [])
All-push P [] x h p = (p, tt)
All-push P (y ∷ xs) x h p = (h.0, All-push P xs x h.1 p)

pub push_not_nil : (w : List ℕ) (b : ℕ) → w ++ b ∷ [] ≢ []
push_not_nil [] b = λ e. cc
push_not_nil (c ∷ w) b = λ e. cc

-- the only byte of three of the classes
pub percent_is : (marks : Marks) (b : ℕ) → class_of marks b ≡ Percent → b ≡ percent_sign
percent_is Dictionary b e = grind (arith, nat_tests)
percent_is Knowledge b e = grind (arith, nat_tests)

pub quote_is : (marks : Marks) (b : ℕ) → class_of marks b ≡ Quote → b ≡ quotation_mark
quote_is Dictionary b e = grind (arith, nat_tests)
quote_is Knowledge b e = grind (arith, nat_tests)

pub line_end_is : (marks : Marks) (b : ℕ) → class_of marks b ≡ LineEnd → b ≡ line_feed
line_end_is Dictionary b e = grind (arith, nat_tests)
line_end_is Knowledge b e = grind (arith, nat_tests)

-- a comment goes on at any byte but a line feed
pub commented_on : (c : Class) (next : Rest) → c ≢ LineEnd → commented c next ≡ next in_comment
commented_on LineEnd next on = absurd (on refl)
commented_on c next on = refl

-- a plain token ends at a byte that is none of its own
pub plained_off : (c : Class) (b at start : ℕ) (w : List ℕ) (next : Rest) → c ≢ Other → plained start w c b at next ≡ (plain w, start) ∷ begun c b at next
plained_off Other b at start w next off = absurd (off refl)
plained_off c b at start w next off = refl

-- what stands in quotes goes on at any byte but a quote and a line feed
pub quoting_on : (c : Class) (b start : ℕ) (w : List ℕ) (next : Rest) → c ≢ Quote → c ≢ LineEnd → quoting start w c b next ≡ next (in_quotes start (w ++ b ∷ []))
quoting_on Quote b start w next unquoted in_line = absurd (unquoted refl)
quoting_on LineEnd b start w next unquoted in_line = absurd (in_line refl)
quoting_on c b start w next unquoted in_line = refl

pub percent_here : (marks : Marks) → class_of marks percent_sign ≡ Percent
percent_here Dictionary = refl
percent_here Knowledge = refl

pub line_feed_here : (marks : Marks) → class_of marks line_feed ≡ LineEnd
line_feed_here Dictionary = refl
line_feed_here Knowledge = refl
