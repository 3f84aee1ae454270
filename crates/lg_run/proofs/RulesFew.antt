-- A knowledge text has no more rules than bytes.
use Rattle.std.proofs.Common.{◌≡◌, ◌≢◌, ℕ, suc, ◌+◌, refl, ◌≤◌, List, [], ◌∷◌, ◌++◌, length, drop, Result, Ok, sym, ap, ◌∙◌, arith, length-append}
use Rattle.std.specs.Prelude.{nat_eq}
use Rattle.std.specs.List.{flat_map, starts_with}
use Rattle.std.proofs.lemmas.Bool.{cond_both}
use Rattle.std.proofs.lemmas.List.{length-map, length-drop}
use Rattle.lg_lex.specs.Marked.{byte_order_mark, without_mark}
use Rattle.lg_lex.specs.Tokens.{Lexeme, sign, quoted, plain, broken, Token, Spells, AfterToken, AreTokens, gap_text}
use Rattle.lg_lex.specs.declared.marks.Marks.{Marks}
use Rattle.lg_lex.specs.declared.marks.Marks.TheVariants as marks
use Rattle.lg_knowread.specs.Reading.{lexeme, KnowledgeIs, stands, not_utf8, refused}
use Rattle.lg_knowread.specs.Statements.{Statement, starts, ignores, forbids, demands, bounds, cycles, spelled, all_spelled, rules_of, knowledge_of}
use Rattle.lg_knowread.specs.declared.fault.KnowError.{KnowError}
use Rattle.lg_knowread.specs.declared.knowledge.Knowledge.{Knowledge}

-- ---- tokens

some_bytes : (xs : List ℕ) → xs ≢ [] → 1 ≤ length xs
some_bytes [] h = absurd (h refl)
some_bytes (x ∷ xs) h = omega arith

token_some : (m : Marks) (l : Lexeme) (text rest : List ℕ) → Spells m l text rest → 1 ≤ length text
token_some m (sign b) text rest is = let one : length text ≡ 1 = ap length is.1 in omega arith
token_some m (quoted w) text rest is = let size : length text ≡ suc (length (w ++ 34 ∷ [])) = ap length is.3 in omega arith
token_some m (plain w) text rest is = let some = some_bytes w is.0 in let size : length text ≡ length w = ap length is.3 in omega arith
token_some m broken text rest is = let one : length text ≡ 1 = ap length is.2 in omega arith

rest_few : (m : Marks) (l : Lexeme) (ts : List Token) (n : ℕ) (rest : List ℕ) → (AreTokens m ts n rest → length ts ≤ length rest) → AfterToken l (ts ≡ []) (AreTokens m ts n rest) → length ts ≤ length rest
rest_few m (sign b) ts n rest few after = few after
rest_few m (quoted w) ts n rest few after = few after
rest_few m (plain w) ts n rest few after = few after
rest_few m broken ts n rest few after = let none : length ts ≡ 0 = ap length after in omega arith

tokens_few : (m : Marks) (ts : List Token) (before : ℕ) (bytes : List ℕ) → AreTokens m ts before bytes → length ts ≤ length bytes
tokens_few m [] before bytes are = omega arith
tokens_few m (t ∷ ts) before bytes (gap, text, rest, g, spells, is, at, after) =
    let some = token_some m t.0 text rest spells in
    let later = rest_few m t.0 ts (t.1 + length text) rest (λ are. tokens_few m ts (t.1 + length text) rest are) after in
    let size : length bytes ≡ length (gap_text gap) + (length text + length rest) = ap length is ∙ length-append (gap_text gap) (text ++ rest) ∙ ap (λ (n : ℕ). length (gap_text gap) + n) (length-append text rest) in
    omega arith

unmarked_few : (bytes : List ℕ) → length (without_mark bytes) ≤ length bytes
unmarked_few bytes = cond_both (starts_with nat_eq bytes byte_order_mark) (drop 3 bytes) bytes (λ (l : List ℕ). length l ≤ length bytes) (λ _. (let size = length-drop 3 bytes in omega arith)) (λ _. omega arith)

-- ---- rules

rules_one : (s : Statement) → length (rules_of s) ≤ length (spelled s)
rules_one (starts kind ps) = omega arith
rules_one (ignores ps) = omega arith
rules_one (forbids grouped p ps) = omega arith
rules_one (demands grouped p ps) = omega arith
rules_one (bounds kind) = omega arith
rules_one (cycles p) = omega arith

rules_all : (ss : List Statement) → length (flat_map rules_of ss) ≤ length (all_spelled ss)
rules_all [] = omega arith
rules_all (s ∷ ss) = let one = rules_one s in let more = rules_all ss in let a = length-append (rules_of s) (flat_map rules_of ss) in let b = length-append (spelled s) (all_spelled ss) in omega arith

few_by : (bytes : List ℕ) (x : Result Knowledge KnowError) (know : Knowledge) → KnowledgeIs bytes x → x ≡ Ok know → length know.rules ≤ length bytes
few_by bytes _ know (not_utf8 n is) e = absurd cc
few_by bytes _ know (stands ts ss text written) e =
    let same : knowledge_of ss ≡ know = cc in
    let tokens = tokens_few marks.Knowledge ts 0 (without_mark bytes) text.tokens in
    let unmarked = unmarked_few bytes in
    let rules = rules_all ss in
    let count : length ts ≡ length (all_spelled ss) = sym (length-map ts lexeme) ∙ ap length written.spells in
    let size : length know.rules ≡ length (flat_map rules_of ss) = ap (λ (k : Knowledge). length k.rules) (sym same) in
    omega arith
few_by bytes _ know (refused ts fault left text first) e = absurd cc

pub rules_few : (bytes : List ℕ) (know : Knowledge) → KnowledgeIs bytes (Ok know) → length know.rules ≤ length bytes
rules_few bytes know is = few_by bytes (Ok know) know is refl
