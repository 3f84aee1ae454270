use Rattle.std.proofs.Common.{◌≡◌, length}
use Rattle.lg_check_texts.proofs.Forks.{three_are_printable}
use Rattle.lg_check_texts.proofs.text.a_page_is_printed.Goals as goal

-- each linkage of the page is good
pub page_text-requires : goal.page_text-requires
page_text-requires g c =
    let tokens = c.in_ok-tokens.tokens in
    let four : length tokens ≡ 4 = c.in_ok-tokens.ensures in
    three_are_printable tokens _ _ _ c.in_ok-three.field-0 c.in_ok-three.ensures
    (c.in_ok-stars.ensures tokens four) (c.in_ok-plain.ensures tokens four) (c.in_ok-plain-2.ensures tokens four)
