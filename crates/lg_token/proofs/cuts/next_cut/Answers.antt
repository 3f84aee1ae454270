use Rattle.std.proofs.Common.{true≢false, refl, sym, ◌∙◌}
use Rattle.lg_token.specs.Cuts.{known}
use Rattle.lg_token.proofs.Cutting.{closing_step, opening_step, possessive_answer, no_possessive}
use Rattle.lg_token.proofs.cuts.next_cut.Goals as goal

pub returns-then-branch : goal.returns-then-branch
returns-then-branch c = known c.args.chunk.now (c.in_ok-is_known.ensures.0 c.if-branch.true)

pub returns-in-Some : goal.returns-in-Some
returns-in-Some c = closing_step c.args.view.now c.args.initial c.args.chunk.now (λ k. true≢false (sym (c.in_ok-is_known.ensures.1 k) ∙ c.if-branch.false)) c.in-Some.off c.in-Some.ensures

pub returns-in-Some-opening_cut : goal.returns-in-Some-opening_cut
returns-in-Some-opening_cut c =
    opening_step c.args.view.now c.args.initial c.args.chunk.now (λ k. true≢false (sym (c.in_ok-is_known.ensures.1 k) ∙ c.if-branch.false)) c.in_default.ensures c.in-Some-opening_cut.off c.in-Some-opening_cut.ensures

pub returns-then-has : goal.returns-then-has
returns-then-has c =
    possessive_answer c.args.view.now c.args.initial c.args.chunk.now (λ k. true≢false (sym (c.in_ok-is_known.ensures.1 k) ∙ c.if-branch.false)) c.in_default.ensures c.in_default-opening_cut.ensures
    (c.if-has.ensures.0 refl) c.possessive_cut.result c.possessive_cut.ensures

pub returns : goal.returns
returns c =
    no_possessive c.args.view.now c.args.initial c.args.chunk.now (λ k. true≢false (sym (c.in_ok-is_known.ensures.1 k) ∙ c.if-branch.false)) c.in_default.ensures c.in_default-opening_cut.ensures
    (λ h. true≢false (sym (c.if-has.ensures.1 h)))
