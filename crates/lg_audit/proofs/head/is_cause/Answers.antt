-- Each test is that of one cause.
use Rattle.std.proofs.Common.{refl, ◌∙◌, ap, eqb, List, ℕ}
use Rattle.std.specs.Cmp.Lexicographic.{pointwise}
use Rattle.lg_audit.proofs.Causes.{unknown_macro, too_deep, too_many_nodes, too_many_choices, side_too_long, only_word}
use Rattle.lg_audit.proofs.head.is_cause.Goals as goal

pub returns-in-Some : goal.returns-in-Some
returns-in-Some c = (λ _. unknown_macro c.args.text.now _ c.requires c.in-Some.ensures, λ _. refl)

pub returns-in-Some-small_count : goal.returns-in-Some-small_count
returns-in-Some-small_count c = let told = c.in-Some-small_count.ensures in (λ _. too_deep c.args.text.now _ told.0 told.1, λ _. refl)

pub returns-in-Some-count : goal.returns-in-Some-count
returns-in-Some-count c = let told = c.in-Some-count.ensures in (λ _. too_many_nodes c.args.text.now _ told.0 told.1, λ _. refl)

pub returns-in-Some-count-2 : goal.returns-in-Some-count-2
returns-in-Some-count-2 c = let told = c.in-Some-count-2.ensures in (λ _. too_many_choices c.args.text.now _ told.0 told.1, λ _. refl)

pub returns-in-Some-small_count-2 : goal.returns-in-Some-small_count-2
returns-in-Some-small_count-2 c = let told = c.in-Some-small_count-2.ensures in (λ _. side_too_long c.args.text.now _ told.0 told.1, λ _. refl)

pub returns : goal.returns
returns c =
    only_word c.args.text.now c.in_default.ensures c.in_default-small_count.ensures c.in_default-count.ensures c.in_default-count-2.ensures c.in_default-small_count-2.ensures
    c.eq.result (c.eq.ensures ∙ ap (λ (word : List ℕ). pointwise eqb c.args.text.now word) c.as_slice.ensures)
