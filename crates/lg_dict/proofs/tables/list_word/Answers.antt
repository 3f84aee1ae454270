use Rattle.std.proofs.Common.{◌≡◌, ◌++◌, ◌∷◌, [], Some, None, if◌then◌else◌, arith, ap, sym, ◌∙◌}
use Rattle.std.specs.Option.{option_map}
use Rattle.indexmap.specs.Entry.{map_with_value, entry_value}
use Rattle.lg_dict.specs.Tables.{numbers_at, key_of}
use Rattle.lg_dict.proofs.Lookups.{numbers-push, under_none, under_key}
use Rattle.lg_dict.proofs.tables.list_word.Goals as goal

-- nothing changes
pub returns-in_default : goal.returns-in_default
returns-in_default c = λ text.
    let none : key_of c.args.by c.args.word.now ≡ None = sym c.key_under.ensures ∙ ap (option_map (λ key. key.now)) c.in_default.is in
    ap (λ b. if b then numbers_at c.args.lists.now text ++ c.args.number ∷ [] else numbers_at c.args.lists.now text) (sym (under_none c.args.by text c.args.word.now none))

-- the new list of the key is the old one and the word
pub returns : goal.returns
returns c = λ text.
    let after = numbers-push c.args.lists.now (map_with_value c.in_ok-lists.field-0 c.push_tightly.new.list) c.in_ok-key.key c.push_tightly.new.list c.or_default.result.now (entry_value c.in_ok-lists.field-0) c.args.number
    (c.in_ok-lists.ensures.update.0 c.push_tightly.new.list) c.in_ok-lists.ensures.value c.or_default.ensures.value c.in_ok-push_tightly.ensures text in
    let found : key_of c.args.by c.args.word.now ≡ Some c.in-Some.key.now = sym c.key_under.ensures ∙ ap (option_map (λ key. key.now)) c.in-Some.is in
    let key = c.in_ok-key.ensures in
    let under = under_key c.args.by text c.args.word.now c.in-Some.key.now found in
    grind (arith, after, key, under)
