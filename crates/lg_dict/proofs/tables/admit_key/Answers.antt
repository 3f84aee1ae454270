use Rattle.std.proofs.Common.{◌≡◌, [], None, Some, ap, sym, ◌∙◌}
use Rattle.std.specs.Option.{option_map_or}
use Rattle.lg_dict.specs.Tables.{at_text, texts_at}
use Rattle.lg_dict.proofs.Lookups.{at_text-updates, texts-kept}
use Rattle.lg_dict.proofs.Admitted.{none_of}
use Rattle.lg_dict.proofs.tables.admit_key.Goals as goal

-- no texts were there, and none are
pub returns-clause-same : goal.returns-clause-same
returns-clause-same c =
    let lists = c.args.lists.now in
    let key = c.in_ok-copy.copy in
    let absent : at_text lists c.args.key.now ≡ None = none_of (at_text lists c.args.key.now) (sym c.contains_key.ensures ∙ c.if-contains_key.false) in
    let none : texts_at lists key.items ≡ [] = ap (texts_at lists) c.in_ok-copy.ensures ∙ ap (λ o. option_map_or (λ texts. texts.items) o []) absent in
    texts-kept lists c.insert.new.self key.items c.new.result (at_text-updates lists c.insert.new.self key (Some c.new.result) c.in_ok-insert.ensures.updates) (c.new.ensures.items ∙ sym none)
