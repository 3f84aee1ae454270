-- Exactly one: a text says one thing, or has one first fault.
use Rattle.std.proofs.Common.{◌≡◌, ℕ, List, ◌⊎◌, inl, inr, Result, Ok, Err, refl, sym, ap, subst, ◌∙◌}
use Rattle.std.specs.Str.{IsUtf8, IsValidUpTo}
use Rattle.lg_lex.specs.declared.marks.Marks.TheVariants as marks
use Rattle.lg_lex.specs.Lexing.{between, lex}
use Rattle.lg_lex.specs.Marked.{without_mark}
use Rattle.lg_lex.specs.Tokens.{AreTokens, Token, IsText}
use Rattle.lg_gram.specs.Names.{NamesAreWritten}
use Rattle.lg_knowread.specs.declared.fault.KnowError.{KnowError}
use Rattle.lg_knowread.specs.declared.fault.KnowError.TheVariants.{NoMemory, NotUtf8, Syntax, UnknownSection, BadPattern, BadType}
use Rattle.lg_knowread.specs.declared.knowledge.Knowledge.{Knowledge}
use Rattle.lg_knowread.specs.Statements.{knowledge_of}
use Rattle.lg_knowread.specs.Reading.{KnowledgeIs, not_utf8, stands, refused, TellsKnowledge}
use Rattle.lg_knowread.specs.Automaton.{Answer, read, stopped, answer_of}
use Rattle.lg_knowread.specs.View.{result_of, TellsAnswer}
use Rattle.lg_knowread.proofs.Tokens.{AnswerIs, answer_is, one_answer}

-- ---- what an answer of the tokens makes of the text

text_is : (bytes : List ℕ) (ts : List Token) (a : Answer) → IsText marks.Knowledge bytes ts → AnswerIs ts a → KnowledgeIs bytes (result_of (without_mark bytes) a)
text_is bytes ts (read k) is (ss, written, says) = subst (λ (x : Knowledge). KnowledgeIs bytes (Ok x)) (sym says) (stands ts ss is written)
text_is bytes ts (stopped fault left) is h = refused ts fault left is h

-- the text is at fault before all else, or an answer of its tokens leads to the result
abbrev Led : List ℕ → Result Knowledge KnowError → Type 0
Led bytes x = ((n : ℕ) × IsValidUpTo bytes n × (x ≡ Err (NotUtf8 n)))
    ⊎ ((ts : List Token) × (a : Answer) × IsText marks.Knowledge bytes ts × AnswerIs ts a × (x ≡ result_of (without_mark bytes) a))

led : (bytes : List ℕ) (x : Result Knowledge KnowError) → KnowledgeIs bytes x → Led bytes x
led bytes x (not_utf8 n h) = inl (n, h, refl)
led bytes x (stands ts ss is written) = inr (ts, read (knowledge_of ss), is, (ss, written, refl), refl)
led bytes x (refused ts fault left is h) = inr (ts, stopped fault left, is, h, refl)

-- ---- what the reader tells

pub told_text : NamesAreWritten → (bytes : List ℕ) (ts : List Token) (x : Result Knowledge KnowError) → IsText marks.Knowledge bytes ts → TellsAnswer (without_mark bytes) (answer_of ts) x → TellsKnowledge bytes x
told_text laws bytes ts (Err NoMemory) is h = tt
told_text laws bytes ts (Ok k) is h = subst (KnowledgeIs bytes) (sym h) (text_is bytes ts (answer_of ts) is (answer_is laws ts))
told_text laws bytes ts (Err (NotUtf8 n)) is h = subst (KnowledgeIs bytes) (sym h) (text_is bytes ts (answer_of ts) is (answer_is laws ts))
told_text laws bytes ts (Err (Syntax line column)) is h = subst (KnowledgeIs bytes) (sym h) (text_is bytes ts (answer_of ts) is (answer_is laws ts))
told_text laws bytes ts (Err (UnknownSection line)) is h = subst (KnowledgeIs bytes) (sym h) (text_is bytes ts (answer_of ts) is (answer_is laws ts))
told_text laws bytes ts (Err (BadPattern line)) is h = subst (KnowledgeIs bytes) (sym h) (text_is bytes ts (answer_of ts) is (answer_is laws ts))
told_text laws bytes ts (Err (BadType line)) is h = subst (KnowledgeIs bytes) (sym h) (text_is bytes ts (answer_of ts) is (answer_is laws ts))

-- ---- exactly one, where a text has one list of tokens

module _ (laws : NamesAreWritten) (lexed : (bytes : List ℕ) → AreTokens marks.Knowledge (lex marks.Knowledge between 0 bytes) 0 bytes)
    (one_list : (ts : List Token) (bytes : List ℕ) → AreTokens marks.Knowledge ts 0 bytes → lex marks.Knowledge between 0 bytes ≡ ts)
    (utf8_or_fault : (bytes : List ℕ) → IsUtf8 bytes ⊎ ((n : ℕ) × IsValidUpTo bytes n))
    (one_fault : (bytes : List ℕ) (n m : ℕ) → IsValidUpTo bytes n → IsValidUpTo bytes m → n ≡ m)
    (fault_apart : (bytes : List ℕ) (n : ℕ) → IsValidUpTo bytes n → IsUtf8 bytes → ⊥) where
  some_of : (bytes : List ℕ) → IsUtf8 bytes ⊎ ((n : ℕ) × IsValidUpTo bytes n) → (x : Result Knowledge KnowError) × KnowledgeIs bytes x
  some_of bytes (inl utf8) =
      let ts = lex marks.Knowledge between 0 (without_mark bytes) in
      (result_of (without_mark bytes) (answer_of ts), text_is bytes ts (answer_of ts) (record { utf8 = utf8; tokens = lexed (without_mark bytes) }) (answer_is laws ts))
  some_of bytes (inr (n, h)) = (Err (NotUtf8 n), not_utf8 n h)

  pub some_text : (bytes : List ℕ) → (x : Result Knowledge KnowError) × KnowledgeIs bytes x
  some_text bytes = some_of bytes (utf8_or_fault bytes)

  one_led : (bytes : List ℕ) (x y : Result Knowledge KnowError) → Led bytes x → Led bytes y → x ≡ y
  one_led bytes x y (inl (n, h, xn)) (inl (m, k, ym)) = xn ∙ ap (λ (i : ℕ). Err (NotUtf8 i)) (one_fault bytes n m h k) ∙ sym ym
  one_led bytes x y (inl (n, h, xn)) (inr (us, b, is, k, leads)) = absurd (fault_apart bytes n h is.utf8)
  one_led bytes x y (inr (ts, a, is, h, leads)) (inl (m, k, ym)) = absurd (fault_apart bytes m k is.utf8)
  one_led bytes x y (inr (ts, a, is, h, x_leads)) (inr (us, b, are, k, y_leads)) =
      let same : us ≡ ts = sym (one_list us (without_mark bytes) are.tokens) ∙ one_list ts (without_mark bytes) is.tokens in
      let answers : a ≡ b = one_answer laws ts a b h (subst (λ (l : List Token). AnswerIs l b) same k) in
      x_leads ∙ ap (result_of (without_mark bytes)) answers ∙ sym y_leads

  pub one_text : (bytes : List ℕ) (x y : Result Knowledge KnowError) → KnowledgeIs bytes x → KnowledgeIs bytes y → x ≡ y
  one_text bytes x y h k = one_led bytes x y (led bytes x h) (led bytes y k)
