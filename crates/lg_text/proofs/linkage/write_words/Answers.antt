use Rattle.std.proofs.Common.{◌∙◌, ◌++◌, sym, ap}
use Rattle.std.proofs.lemmas.Iterator.{YieldsList-from_slice, YieldsList-from_zip}
use Rattle.std.proofs.lemmas.Iterator.Consumers.{YieldsList-at, YieldsList-from_enumerate, YieldsList-end}
use Rattle.std.proofs.lemmas.List.Folds.{flat_map-map}
use Rattle.std.specs.List.{flat_map}
use Rattle.lg_text.specs.Texts.{word_line}
use Rattle.lg_text.proofs.linkage.write_words.Goals as goal

-- the loop has seen each token with its choice
pub returns : goal.returns
returns c =
    let seen = YieldsList-end
    (YieldsList-at c.into_iter-position-iterator.ensures.into_iter_gives
    (YieldsList-from_enumerate
    (YieldsList-at c.enumerate-position-items.ensures.source
    (YieldsList-from_zip {s = c.zip.result} (YieldsList-from_slice c.args.tokens.now cc) (YieldsList-from_slice c.args.choices.now cc))) cc))
    c.loop-position.yielded c.loop-position.position-iterator c.loop-position.yielded_by c.next.result c.next.new.self c.in-None.is c.next.ensures.steps in
    c.loop-position.invariant
    ∙ ap (λ text. c.args.out.now.items ++ text) (sym (flat_map-map word_line _ c.loop-position.yielded) ∙ ap (flat_map word_line) seen.0)
