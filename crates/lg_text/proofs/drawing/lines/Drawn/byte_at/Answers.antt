use Rattle.std.proofs.Common.{◌-◌, ◌/◌, length, ap, ◌∙◌}
use Rattle.lg_text.proofs.Painting.{shows_letter, shows_dash}
use Rattle.lg_text.proofs.drawing.lines.Drawn.byte_at.Goals as goal

-- a letter of the label
pub returns-then-letter-letters : goal.returns-then-letter-letters
returns-then-letter-letters c =
    let letters = c.letters-letters.result.now in
    let view = c.self.view_is in
    shows_letter c.args.self.now letters c.args.column _ _ (c.letters-letters.ensures.value ∙ ap (λ d. d.label) view) c.requires
    (ap (λ d. c.args.column - d.from - 1) view) (ap (λ n. n / 2) (c.saturating_sub-dashes.ensures ∙ ap (λ d. d.to - d.from - 1 - length letters) view)) c.if-at-front.false c.if-letter-letters.true

-- a dash behind it
pub returns-else-letter-letters : goal.returns-else-letter-letters
returns-else-letter-letters c =
    let letters = c.letters-letters.result.now in
    let view = c.self.view_is in
    shows_dash c.args.self.now letters c.args.column _ _ (c.letters-letters.ensures.value ∙ ap (λ d. d.label) view) c.requires
    (ap (λ d. c.args.column - d.from - 1) view) (ap (λ n. n / 2) (c.saturating_sub-dashes.ensures ∙ ap (λ d. d.to - d.from - 1 - length letters) view)) c.if-at-front.false c.if-letter-letters.false
