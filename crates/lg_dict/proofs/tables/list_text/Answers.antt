use Rattle.std.proofs.Common.{◌≡◌, ◌++◌, ◌∷◌, [], Some, None, if◌then◌else◌, arith, ap, sym, ◌∙◌}
use Rattle.std.proofs.lemmas.Result.{on_ok_weaker}
use Rattle.std.specs.Option.{option_map}
use Rattle.lg_dict.specs.Tables.{texts_at, key_of}
use Rattle.lg_dict.proofs.Lookups.{under_none, under_key}
use Rattle.lg_dict.proofs.tables.list_text.Goals as goal

-- nothing changes
pub returns-in_default-clause-listed : goal.returns-in_default-clause-listed
returns-in_default-clause-listed c = λ text.
    let none : key_of c.args.by c.args.word.now ≡ None = sym c.key_under.ensures ∙ ap (option_map (λ key. key.now)) c.in_default.is in
    ap (λ b. if b then texts_at c.args.lists.now text ++ c.args.word.now ∷ [] else texts_at c.args.lists.now text) (sym (under_none c.args.by text c.args.word.now none))

-- the word is added to those of its key
pub returns-clause-listed : goal.returns-clause-listed
returns-clause-listed c = on_ok_weaker c.push_text.result (λ pushed text.
    let found : key_of c.args.by c.args.word.now ≡ Some c.in-Some.key.now = sym c.key_under.ensures ∙ ap (option_map (λ key. key.now)) c.in-Some.is in
    let after = pushed text in
    let before = c.admit_key.ensures.same text in
    let word = c.in_ok-text.ensures in
    let under = under_key c.args.by text c.args.word.now c.in-Some.key.now found in
    grind (arith, after, before, word, under)) c.push_text.ensures.pushed
