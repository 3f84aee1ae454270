use Rattle.lg_token.proofs.Choices.{is_beyond, is_listed}
use Rattle.lg_token.proofs.bound.listed_tokens.Goals as goal

pub returns-then-choices-gt-LISTED_CHOICES-clause-beyond : goal.returns-then-choices-gt-LISTED_CHOICES-clause-beyond
returns-then-choices-gt-LISTED_CHOICES-clause-beyond c =
    is_beyond c.args.view.now c.args.text.now (c.tokens_are_one_list.ensures.one c.args.view.now c.args.text.now) c.in_ok-count.count c.in_ok-count.ensures c.if-count.false c.in_ok-places.places.items c.in_ok-places.ensures
    c.in_ok-choices.choices (rw c.deref.ensures.value at c.in_ok-choices.ensures.choices) c.if-choices-gt-LISTED_CHOICES.true

pub returns-clause-listed : goal.returns-clause-listed
returns-clause-listed c =
    is_listed c.args.view.now c.args.text.now (c.tokens_are_one_list.ensures.one c.args.view.now c.args.text.now) c.in_ok-count.count c.in_ok-count.ensures c.if-count.false c.in_ok-places.places.items c.in_ok-places.ensures
    c.in_ok-choices.choices (rw c.deref.ensures.value at c.in_ok-choices.ensures.choices) c.if-choices-gt-LISTED_CHOICES.false c.in_ok-tokens.tokens (rw c.deref-2.ensures.value at c.in_ok-tokens.ensures)
