use Rattle.std.proofs.Common.{◌≡◌, [], ◌∷◌, map, string_bytes, None, Some}
use Rattle.std.proofs.lemmas.List.{nil_from_length}
use Rattle.lg_run.specs.Settings.{IsPlain, apart, joined}
use Rattle.lg_run.proofs.OptionWords.{cut_of, of_none, ends_early}
use Rattle.lg_run.proofs.options.word_and_value.Goals as goal

-- there is no second word
pub returns-in_err-value-in-None : goal.returns-in_err-value-in-None
returns-in_err-value-in-None c =
    let word = c.deref.result.now in
    let plain : IsPlain word = cut_of word None c.in-None.ensures.cases in
    let alone : map string_bytes c.args.words.now ≡ word ∷ [] =
    rw (c.in_ok-word.ensures.cases.0, nil_from_length c.in_ok-word.rest.now c.in_err-value-in-None.ensures.cases, c.deref.ensures) in
    of_none _ _ _ c.from_residual-in_err-value-in-None.ensures
    (λ name value behind h. ends_early word plain name value behind _ h alone)

-- a name and a value in one word
pub returns-in-Some : goal.returns-in-Some
returns-in-Some c =
    let cut = cut_of c.deref.result.now (Some (c.in-Some.name, c.in-Some.value)) c.in-Some.ensures.cases in
    rw (c.in_ok-word.ensures.cases.0, ← c.deref.ensures, cut.1) (joined cut.0)

-- and in two
pub returns-in_ok-value-in-None : goal.returns-in_ok-value-in-None
returns-in_ok-value-in-None c =
    let plain : IsPlain c.deref.result.now = cut_of c.deref.result.now None c.in-None.ensures.cases in
    rw (c.in_ok-word.ensures.cases.0, c.in_ok-value-in-None.ensures.cases.0, c.as_str.ensures.value, c.as_str-in-None.ensures.value)
    (apart (rw c.deref.ensures at plain))
