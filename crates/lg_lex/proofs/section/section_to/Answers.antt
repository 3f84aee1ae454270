use Rattle.std.proofs.Common.{◌≡◌, ℕ, ◌+◌, ◌-◌, ◌≤◌, List, [], ◌∷◌, ◌++◌, length, get_or, drop, true, false, sym, ap, subst, ◌∙◌, arith, length-drop, rules}
use Rattle.std.specs.Prelude.{slice_range}
use Rattle.std.specs.List.{AllByRecursion}
use Rattle.std.proofs.lemmas.List.{append-nil, drop_all, drop_more, length-take-le}
use Rattle.std.proofs.lemmas.List.Folds.{drop_split}
use Rattle.lg_lex.specs.Sections.{is_bare}
use Rattle.lg_lex.proofs.Loops.{slice_range_more}
use Rattle.lg_lex.proofs.Sections.{IsBefore, before_bare, before_other, none_before, none_at_all}
use Rattle.lg_lex.proofs.Steps.{All-push}
use Rattle.lg_lex.proofs.section.section_to.Goals as goal

-- the bytes before the sign, and the sign
pub returns-then-text-last-clause-closed : goal.returns-then-text-last-clause-closed
returns-then-text-last-clause-closed c =
    let text = c.args.text.now in
    let before = slice_range text c.args.from c.loop-last.last in
    let is : get_or text c.loop-last.last 0 ≡ c.args.sign = search (rules, c.if-text-last.true) in
    record {
      front = before;
      last = c.args.sign;
      is = slice_range_more text c.args.from c.loop-last.last c.loop-last.invariant.from (omega arith) ∙ ap (λ (b : ℕ). before ++ b ∷ []) is;
      bare = before_bare c.args.marks c.args.sign before c.loop-last.invariant.before;
      sign = c.requires.sign;
    }

pub returns-then-text-last-clause-ends : goal.returns-then-text-last-clause-ends
returns-then-text-last-clause-ends c =
    let text = c.args.text.now in
    let before = slice_range text c.args.from c.loop-last.last in
    let is : get_or text c.loop-last.last 0 ≡ c.args.sign = search (rules, c.if-text-last.true) in (
      before,
      slice_range_more text c.args.from c.loop-last.last c.loop-last.invariant.from (omega arith) ∙ ap (λ (b : ℕ). before ++ b ∷ []) is,
      before_other c.args.marks c.args.sign before c.loop-last.invariant.before,
    )

pub returns-then-text-last-clause-stands : goal.returns-then-text-last-clause-stands
returns-then-text-last-clause-stands c =
    let text = c.args.text.now in
    let end = c.loop-last.last + 1 in
    let few : end - c.args.from ≤ length (drop c.args.from text) = omega (arith, length-drop c.args.from text) in
    let ends : end ≡ c.args.from + length (slice_range text c.args.from end) = omega (arith, length-take-le (end - c.args.from) (drop c.args.from text) few, c.loop-last.invariant.from) in
    drop_split text c.args.from end (omega (arith, c.loop-last.invariant.from)) ∙ ap (λ (n : ℕ). slice_range text c.args.from end ++ drop n text) ends

-- a comment or a quote begins before
pub returns-then-not-is_bare-clause-none : goal.returns-then-not-is_bare-clause-none
returns-then-not-is_bare-clause-none c =
    let text = c.args.text.now in
    let at = c.loop-last.last in
    let before = slice_range text c.args.from at in
    let marked : is_bare c.args.marks (get_or text at 0) ≡ false = search (rules, c.is_bare.ensures, c.if-not-is_bare.true) in
    let other : get_or text at 0 ≡ c.args.sign → ⊥ = λ e. search (rules, e, c.if-text-last.false) in
    let split = drop_split text c.args.from at c.loop-last.invariant.from ∙ ap (λ (l : List ℕ). before ++ l) (drop_more text at 0 (omega arith)) in
    λ front rest bare is. none_before c.args.marks c.args.sign (get_or text at 0) before (drop (at + 1) text) c.loop-last.invariant.before marked other front rest bare (sym split ∙ is)

pub loop-last-preserved : goal.loop-last-preserved
loop-last-preserved c =
    let text = c.args.text.now in
    let at = c.loop-last.last in
    let before = slice_range text c.args.from at in
    let bare : is_bare c.args.marks (get_or text at 0) ≡ true = search (rules, c.is_bare.ensures, c.if-not-is_bare.false) in
    let other : get_or text at 0 ≡ c.args.sign → ⊥ = λ e. search (rules, e, c.if-text-last.false) in
    record {
      from = omega (arith, c.loop-last.invariant.from);
      within = omega arith;
      before = subst (AllByRecursion (IsBefore c.args.marks c.args.sign)) (sym (slice_range_more text c.args.from at c.loop-last.invariant.from (omega arith)))
          (All-push (IsBefore c.args.marks c.args.sign) before (get_or text at 0) c.loop-last.invariant.before (bare, other));
    }

-- the text ends
pub returns-clause-none : goal.returns-clause-none
returns-clause-none c =
    let text = c.args.text.now in
    let at = c.loop-last.last in
    let before = slice_range text c.args.from at in
    let whole : drop c.args.from text ≡ before =
    drop_split text c.args.from at c.loop-last.invariant.from ∙ ap (λ (l : List ℕ). before ++ l) (drop_all at text (omega arith)) ∙ append-nil before in
    λ front rest bare is. none_at_all c.args.marks c.args.sign before c.loop-last.invariant.before front rest bare (sym whole ∙ is)
