-- A dictionary file has one answer, and asks for one list of word files.
use Rattle.std.proofs.Common.{◌≡◌, ℕ, List, [], ◌⊎◌, inl, inr, refl, sym, ap, subst, ◌∙◌}
use Rattle.std.specs.Str.{IsUtf8, IsValidUpTo}
use Rattle.lg_base.specs.Contents.{Contents}
use Rattle.lg_lex.specs.declared.marks.Marks.TheVariants.{Dictionary}
use Rattle.lg_lex.specs.Lexing.{between, lex}
use Rattle.lg_lex.specs.Marked.{without_mark}
use Rattle.lg_lex.specs.Tokens.{AreTokens, Token}
use Rattle.lg_dictread.specs.declared.dict_error.DictError.TheVariants.{NotUtf8}
use Rattle.lg_dictread.specs.Texts.{nothing, TextAnswer, refuse, TextIs, DictionaryGives, not_utf8, text, DictionaryIs}
use Rattle.lg_dictread.specs.Findings.{Asked, names_of}
use Rattle.lg_dictread.proofs.ItemAnswers.{Laws, Agree, agree_self, agree_in}
use Rattle.lg_dictread.proofs.TextAnswers.{EntryLaws, some_text, one_text}

-- the laws of tokens
pub record TokenLaws : Type 0 where
  pub lexed : (bytes : List ℕ) → AreTokens Dictionary (lex Dictionary between 0 bytes) 0 bytes
  pub one : (ts : List Token) (bytes : List ℕ) → AreTokens Dictionary ts 0 bytes → lex Dictionary between 0 bytes ≡ ts

module _ (laws : Laws) (entry_laws : EntryLaws) (token_laws : TokenLaws) (bytes : List ℕ) where
  pub one_answer : (asked other : List Asked) (x y : TextAnswer) → DictionaryGives bytes asked x → DictionaryGives bytes other y → Agree asked other → (asked ≡ other) × (x ≡ y)
  one_answer asked other x y (not_utf8 n h) (not_utf8 m k) agree = (refl, ap (λ (i : ℕ). refuse (NotUtf8 i)) (laws.one_fault bytes n m h k))
  one_answer asked other x y (not_utf8 n h) (text us found answer is k) agree = absurd (laws.fault_apart bytes n h is.utf8)
  one_answer asked other x y (text ts found answer is h) (not_utf8 m k) agree = absurd (laws.fault_apart bytes m k is.utf8)
  one_answer asked other x y (text ts found answer is h) (text us others reply are k) agree =
      let same : us ≡ ts = sym (token_laws.one us (without_mark bytes) are.tokens) ∙ token_laws.one ts (without_mark bytes) is.tokens in
      one_text laws entry_laws (without_mark bytes) nothing ts found others answer reply h
      (subst (λ (l : List Token). TextIs (without_mark bytes) nothing l others reply) same k) agree

  -- by what is found
  pub one_found : (asked : List Asked) (x y : TextAnswer) → DictionaryGives bytes asked x → DictionaryGives bytes asked y → x ≡ y
  one_found asked x y h k = (one_answer asked asked x y h k (agree_self asked)).1

  module _ (contents : Contents) where
    some_of : IsUtf8 bytes ⊎ ((n : ℕ) × IsValidUpTo bytes n) → (names : List (List ℕ)) × (answer : TextAnswer) × DictionaryIs contents bytes names answer
    some_of (inl utf8) =
        let ts = lex Dictionary between 0 (without_mark bytes) in
        let h = some_text laws entry_laws (without_mark bytes) contents nothing ts in
        (names_of h.0, h.1, record { asked = h.0; names_are = refl; found = h.2; gives = text ts h.0 h.1 (record { utf8 = utf8; tokens = token_laws.lexed (without_mark bytes) }) h.3 })
    some_of (inr (n, h)) = ([], refuse (NotUtf8 n), record { asked = []; names_are = refl; found = tt; gives = not_utf8 n h })

    pub some_dictionary : (names : List (List ℕ)) × (answer : TextAnswer) × DictionaryIs contents bytes names answer
    some_dictionary = some_of (laws.utf8_or_fault bytes)

    -- by what files hold
    pub one_dictionary : (names other : List (List ℕ)) (x y : TextAnswer) → DictionaryIs contents bytes names x → DictionaryIs contents bytes other y → (names ≡ other) × (x ≡ y)
    one_dictionary names other x y h k =
        let q = one_answer h.asked k.asked x y h.gives k.gives (agree_in contents h.asked k.asked h.found k.found) in
        (h.names_are ∙ ap names_of q.0 ∙ sym k.names_are, q.1)
