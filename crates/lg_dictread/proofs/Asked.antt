-- What a call that reads a dictionary file asks for, where a file has one answer.
use Rattle.std.proofs.Common.{◌≡◌, ℕ, List, ◌++◌, Option, None, Some, Result, Ok, Err, IfOk, IfErr, ◌∙◌}
use Rattle.lg_base.specs.Contents.{Contents}
use Rattle.lg_dictread.specs.declared.dict_error.DictError.{DictError}
use Rattle.lg_dictread.specs.Findings.{names_of}
use Rattle.lg_dictread.specs.Telling.{Answers, AsksFront, ErrorTells}
use Rattle.lg_dictread.specs.Texts.{TextAnswer, refuse, DictionaryIs}
use Rattle.lg_dictread.specs.DictTexts.{DictionaryOf, AsksInFront}
use Rattle.lg_dictread.proofs.Found.{all_front, names_then}
use Rattle.lg_dictread.proofs.ErrorMaps.{error_any}

-- what the law of dictionaries says
abbrev pub OneDictionary : Type 0
OneDictionary = (contents : Contents) (bytes : List ℕ) (asked other : List (List ℕ)) (x y : TextAnswer) →
    DictionaryIs contents bytes asked x → DictionaryIs contents bytes other y → (asked ≡ other) × (x ≡ y)

module _ (law : OneDictionary) (bytes : List ℕ) (old new : List (List ℕ)) where
  -- a front part of what an answer asks for
  pub front_asks : (known : Option Contents) → AsksFront known (DictionaryOf bytes) old new → AsksInFront known bytes old new
  front_asks None h = tt
  front_asks (Some contents) h = λ names answer is.
      let all = names_of (h.front ++ h.rest) in
      let whole : DictionaryIs contents bytes all h.answer = record { asked = h.front ++ h.rest; names_are = λ i. all; found = h.found; gives = h.answers } in
      (names_of h.front, names_of h.rest, (law contents bytes names all answer h.answer is whole).0 ∙ names_then h.front h.rest, h.names)

  module _ (known : Option Contents) where
    -- where the answer is known, all its names were asked
    pub answered_asks : (answer : TextAnswer) → Answers known (DictionaryOf bytes) old new answer → AsksInFront known bytes old new
    answered_asks answer h = front_asks known (all_front known (DictionaryOf bytes) old new answer h)

    -- whatever the result is, a front part of the names was asked
    pub told_asks : {T : Type 0} → (stands : T → TextAnswer) (result : Result T DictError) → IfOk result (λ x. Answers known (DictionaryOf bytes) old new (stands x))
        → IfErr result (ErrorTells (AsksFront known (DictionaryOf bytes) old new) known (DictionaryOf bytes) refuse old new) → AsksInFront known bytes old new
    told_asks stands (Ok x) value fault = answered_asks (stands x) value
    told_asks stands (Err error) value fault =
        error_any (AsksFront known (DictionaryOf bytes) old new) (AsksInFront known bytes old new) known (DictionaryOf bytes) refuse old new (front_asks known) answered_asks error fault
