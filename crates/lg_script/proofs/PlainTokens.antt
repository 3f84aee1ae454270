-- No token of a text has a line feed, and so no item of an entry.
use Rattle.std.proofs.Common.{◌≡◌, ◌≢◌, ℕ, ◌==◌, Bool, true, false, cond, List, [], ◌∷◌, map, drop, sym, ap, subst}
use Rattle.std.specs.List.{AllByRecursion}
use Rattle.lg_gram.specs.declared.entry.Item.{Item}
use Rattle.lg_gram.specs.declared.entry.ItemKind.TheVariants as kinds
use Rattle.lg_lex.specs.declared.marks.Class.{Class}
use Rattle.lg_lex.specs.declared.marks.Class.TheVariants.{LineEnd, Other}
use Rattle.lg_lex.specs.declared.marks.Marks.TheVariants.{Dictionary}
use Rattle.lg_lex.specs.Classes.{line_feed, class_of}
use Rattle.lg_lex.specs.Tokens.{Lexeme, sign, quoted, plain, broken, Token, Spells, AfterToken, AreTokens}
use Rattle.lg_expr.specs.Classes.{is_macro_name}
use Rattle.lg_dictread.specs.Items.{Head, item, colon, other, is_file_name, head_of}
use Rattle.lg_dictread.specs.Entries.{AreItems}
use Rattle.lg_script.specs.SingleLines.{IsSingleLine}

all_weaker : (P Q : ℕ → Type 0) → ((b : ℕ) → P b → Q b) → (bs : List ℕ) → AllByRecursion P bs → AllByRecursion Q bs
all_weaker P Q f [] all = tt
all_weaker P Q f (b ∷ bs) all = (f b all.0, all_weaker P Q f bs all.1)

feeds_end : (b : ℕ) → b ≡ line_feed → class_of Dictionary b ≡ LineEnd
feeds_end b is = ap (class_of Dictionary) is

no_feed : (b : ℕ) → class_of Dictionary b ≡ Other → b ≢ line_feed
no_feed b class is = let wrong : Other ≡ LineEnd = subst (λ (c : Class). c ≡ LineEnd) class (feeds_end b is) in absurd cc

-- what a token quotes, or what it is
abbrev pub IsPlain : Lexeme → Type 0
IsPlain (sign b) = Unit {0}
IsPlain (quoted w) = IsSingleLine w
IsPlain (plain w) = IsSingleLine w
IsPlain broken = Unit {0}

spells_plain : (x : Lexeme) (text rest : List ℕ) → Spells Dictionary x text rest → IsPlain x
spells_plain (sign b) text rest spells = tt
spells_plain (quoted w) text rest spells = all_weaker _ _ (λ b apart is. apart.1 (feeds_end b is)) w spells.2
spells_plain (plain w) text rest spells = all_weaker _ _ no_feed w spells.1
spells_plain broken text rest spells = tt

abbrev pub ArePlainTokens : List Token → Type 0
ArePlainTokens ts = AllByRecursion (λ (t : Token). IsPlain t.0) ts

after_plain : (x : Lexeme) (ts : List Token) (Goes : Type 0) → AfterToken x (ts ≡ []) Goes → (Goes → ArePlainTokens ts) → ArePlainTokens ts
after_plain (sign b) ts Goes h then_all = then_all h
after_plain (quoted w) ts Goes h then_all = then_all h
after_plain (plain w) ts Goes h then_all = then_all h
after_plain broken ts Goes h then_all = subst ArePlainTokens (sym h) tt

pub tokens_plain : (ts : List Token) (before : ℕ) (bytes : List ℕ) → AreTokens Dictionary ts before bytes → ArePlainTokens ts
tokens_plain [] before bytes are = tt
tokens_plain (t ∷ ts) before bytes (gap, text, rest, is_gap, spells, split, place, after) = (spells_plain t.0 text rest spells, after_plain t.0 ts _ after (λ h. tokens_plain ts _ rest h))

-- ---- items

abbrev text_in : Head → List ℕ
text_in (item i) = i.text
text_in colon = []
text_in other = []

no_item : (is_colon : Bool) (i : Item) → cond is_colon colon other ≡ item i → ⊥
no_item true i e = cc
no_item false i e = cc

without_first : (w : List ℕ) → IsSingleLine w → IsSingleLine (drop 1 w)
without_first [] single = tt
without_first (b ∷ w) single = single.1

plain_single : (w : List ℕ) → IsSingleLine w → (is_macro is_file : Bool)
    → IsSingleLine (cond {A = Item} is_macro (record { kind = kinds.Macro; text = w }) (cond {A = Item} is_file (record { kind = kinds.File; text = drop 1 w }) (record { kind = kinds.Word; text = w }))).text
plain_single w single true is_file = single
plain_single w single false true = without_first w single
plain_single w single false false = single

item_single : (x : Lexeme) (i : Item) → head_of x ≡ item i → IsPlain x → IsSingleLine i.text
item_single (sign b) i is h = absurd (no_item (b == 58) i is)
item_single (quoted w) i is h = subst IsSingleLine (ap text_in is) h
item_single (plain w) i is h = subst IsSingleLine (ap text_in is) (plain_single w h (is_macro_name w) (is_file_name w))
item_single broken i is h = absurd (no_item false i is)

pub items_single : (is : List (Item × ℕ)) (ts rest : List Token) → AreItems is ts rest → ArePlainTokens ts → AllByRecursion IsSingleLine (map (λ (i : Item). i.text) (map (λ (i : Item × ℕ). i.0) is))
items_single [] ts rest are all = tt
items_single (i ∷ is) [] rest are all = absurd are
items_single (i ∷ is) (t ∷ ts) rest are all = (item_single t.0 i.0 are.0 all.0, items_single is ts rest are.2 all.1)
