use Rattle.std.proofs.Common.{◌≡◌, ◌||◌, map, sym, ap, ◌∙◌}
use Rattle.std.specs.List.{list_any}
use Rattle.lg_dict.specs.Tables.{text_at, text_keys, texts_at}
use Rattle.lg_dict.proofs.Missing.{has_none}
use Rattle.lg_dict.proofs.Viewed.{is_word, any_read, has_seen}
use Rattle.lg_dict.proofs.view.View.has.Goals as goal
use Rattle.lg_dict.proofs.view.View.has.Goals.{then-is_word, else-is_word}

pub returns-then-not-has_length : goal.returns-then-not-has_length
returns-then-not-has_length c = has_none c.args.self.now c.args.text.now (c.has_length.ensures c.if-not-has_length.true)

-- the text itself, or a word that is listed below
pub returns-then-has_number : goal.returns-then-has_number
returns-then-has_number c =
    let seen = c.args.self.now in
    let text = c.args.text.now in
    let below = map (λ number. text_at (text_keys c.with_stem.result.0.now) number) c.with_stem.result.1.now in
    let names = texts_at c.self.inside.changes.stems text in
    let first : (is_word seen text || list_any (is_word seen) below) ≡ c.if-is_word.value = elim c.if-is_word.branch [
      | then-is_word w ↦ ap (λ b. b || list_any (is_word seen) below) (sym c.is_word.ensures ∙ w.if-is_word.true) ∙ sym (w.value-is ∙ w.if-is_word.true)
      | else-is_word w ↦ ap (λ b. b || list_any (is_word seen) below) (sym c.is_word.ensures ∙ w.if-is_word.false) ∙ sym (w.value-is ∙ w.has_number.ensures ∙ any_read (is_word seen) (λ number. text_at (text_keys c.with_stem.result.0.now) number) c.with_stem.result.1.now)
    ] in
    has_seen c.self.inside.base.now seen c.self.inside.changes c.self.invariant.laid c.self.view_is text below c.with_stem.ensures c.if-is_word.value
    (ap (λ b. b || list_any (is_word seen) names) (first ∙ c.if-has_number.true) ∙ sym c.if-has_number.true)

-- or one among the changes
pub returns-else-has_number : goal.returns-else-has_number
returns-else-has_number c =
    let seen = c.args.self.now in
    let text = c.args.text.now in
    let below = map (λ number. text_at (text_keys c.with_stem.result.0.now) number) c.with_stem.result.1.now in
    let names = texts_at c.self.inside.changes.stems text in
    let first : (is_word seen text || list_any (is_word seen) below) ≡ c.if-is_word.value = elim c.if-is_word.branch [
      | then-is_word w ↦ ap (λ b. b || list_any (is_word seen) below) (sym c.is_word.ensures ∙ w.if-is_word.true) ∙ sym (w.value-is ∙ w.if-is_word.true)
      | else-is_word w ↦ ap (λ b. b || list_any (is_word seen) below) (sym c.is_word.ensures ∙ w.if-is_word.false) ∙ sym (w.value-is ∙ w.has_number.ensures ∙ any_read (is_word seen) (λ number. text_at (text_keys c.with_stem.result.0.now) number) c.with_stem.result.1.now)
    ] in
    has_seen c.self.inside.base.now seen c.self.inside.changes c.self.invariant.laid c.self.view_is text below c.with_stem.ensures c.has_text.result
    (ap (λ b. b || list_any (is_word seen) names) (first ∙ c.if-has_number.false) ∙ ap (list_any (is_word seen)) (sym c.texts_under.ensures) ∙ sym c.has_text.ensures)
