-- What is left gives all: one line more, the end, and where there are more lines or fewer.
use Rattle.std.proofs.Common.{drop, ◌+◌, arith}
use Rattle.std.proofs.lemmas.List.{drop_all}
use Rattle.lg_audit.proofs.Singles.{when_some}
use Rattle.lg_audit.proofs.ShownChoices.{gives_start, gives_more, all_found, as_many, read_at}
use Rattle.lg_audit.proofs.linkages.chosen.chosen_of.Goals as goal

pub loop-position-init : goal.loop-position-init
loop-position-init c = rw c.new-chosen.ensures.items (gives_start c.args.view.now c.args.tokens.now c.args.words.now)

pub loop-position-preserved : goal.loop-position-preserved
loop-position-preserved c =
    let tokens = c.args.tokens.now in
    let words = c.args.words.now in
    let at = c.loop-position.position in
    gives_more c.args.view.now tokens words at (drop at tokens) (drop (at + 1) tokens) (drop at words) (drop (at + 1) words) c.loop-position.chosen.items c.push.new.self.items
    c.index-tokens-position.result c.index-words-position.result c.in-Some.choice
    (read_at tokens at c.index-tokens-position.result c.loop-position-test.true c.index-tokens-position.is)
    (read_at words at c.index-words-position.result (omega arith) c.index-words-position.is) c.in_ok-push.ensures.items
    (when_some _ _ c.in_ok-choice.field-0 _ c.in-Some.is c.in_ok-choice.ensures) c.loop-position.invariant

pub returns : goal.returns
returns c =
    let tokens = c.args.tokens.now in
    let words = c.args.words.now in
    let at = c.loop-position.position in
    all_found c.args.view.now tokens words at (drop at tokens) (drop at words) c.loop-position.chosen.items (drop_all at tokens c.loop-position-test.false) (drop_all at words (omega arith))
    c.loop-position.invariant

pub returns-then-words-tokens : goal.returns-then-words-tokens
returns-then-words-tokens c = λ os h. c.if-words-tokens.true (as_many c.args.view.now c.args.tokens.now c.args.words.now 0 c.args.tokens.now c.args.words.now os h)
