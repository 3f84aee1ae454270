use Rattle.std.proofs.Common.{codes, sym, ◌∙◌, subst, true≢false}
use Rattle.std.proofs.lemmas.Bool.Decides.{Decides-eqb}
use Rattle.std.proofs.lemmas.Slice.Eq.{slice_eq-Decides}
use Rattle.lg_audit.specs.Pieces.{HasNoBlank}
use Rattle.lg_audit.proofs.Cuts.{step, has_blank, same_first}
use Rattle.lg_audit.proofs.Choices.{word_parts, no_use, null_read}
use Rattle.lg_audit.proofs.reading.word.Goals as goal

pub returns-in_default-first_piece : goal.returns-in_default-first_piece
returns-in_default-first_piece c = λ w form is.
    let one = step (codes "word ") _ _ _ _ w.position c.in-Some.ensures.bound form.position c.in-Some.ensures.value (is ∙ word_parts w) in
    has_blank w.text _ (subst HasNoBlank one c.in_default-first_piece.ensures)

pub returns-then-eq : goal.returns-then-eq
returns-then-eq c =
    let cut = c.in-Some-first_piece.ensures in
    let null = (slice_eq-Decides Decides-eqb _ _ _ c.eq.ensures).0 c.if-eq.true ∙ c.as_slice.ensures in
    null_read c.args.line.now c.in-Some.after_position.now c.in-Some-first_piece.text.now c.in-Some-first_piece.used.now c.in-Some.position
    c.requires c.in-Some.ensures.bound cut.0 c.in-Some.ensures.value cut.1 null

pub returns-in_default-choice_of : goal.returns-in_default-choice_of
returns-in_default-choice_of c = λ w form is.
    let one = step (codes "word ") _ _ _ _ w.position c.in-Some.ensures.bound form.position c.in-Some.ensures.value (is ∙ word_parts w) in
    let cut = c.in-Some-first_piece.ensures in
    let two = same_first _ w.text _ _ cut.0 form.text.solid (sym cut.1 ∙ one) in
    let same = slice_eq-Decides Decides-eqb _ _ _ c.eq.ensures in
    no_use _ (λ null. true≢false (sym (same.1 (null ∙ sym c.as_slice.ensures)) ∙ c.if-eq.false)) c.in_default-choice_of.ensures w.choice form.choice two.1
