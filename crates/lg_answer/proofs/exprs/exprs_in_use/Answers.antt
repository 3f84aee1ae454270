use Rattle.std.proofs.Common.{All, List, sym, subst}
use Rattle.lg_gram.specs.declared.listing.Token.{Token}
use Rattle.lg_answer.specs.Steps.{AreNamed, AreWordTreesFor, AreExprsInUse, behind}
use Rattle.lg_answer.proofs.Few.{few_words}
use Rattle.lg_answer.proofs.InUse.{plain_in_use, idioms_in_use}
use Rattle.lg_answer.proofs.exprs.exprs_in_use.Goals as goal

pub idioms-requires : goal.idioms-requires
idioms-requires c = few_words c.args.view.now c.args.tokens.now c.requires.listed.1.unbound

pub returns-then-not-with_idioms : goal.returns-then-not-with_idioms
returns-then-not-with_idioms c =
    let words = c.in_ok-words.words in
    let of = subst (λ (ts : List Token). AreWordTreesFor c.args.view.now ts words) c.items.ensures c.in_ok-words.ensures in
    subst (λ b. AreExprsInUse b c.args.view.now c.args.tokens.now words) (sym c.if-not-with_idioms.true) (plain_in_use c.args.view.now c.args.tokens.now words of)

pub returns : goal.returns
returns c =
    let dict = c.args.view.now in
    let tokens = c.args.tokens.now in
    let of = subst (λ (ts : List Token). AreWordTreesFor dict ts c.in_ok-words.words) c.items.ensures c.in_ok-words.ensures in
    let named = subst (All AreNamed) c.items-2.ensures c.see_positions.ensures in
    rw c.in_ok-all.ensures
    (subst (λ b. AreExprsInUse b dict tokens (behind c.in_ok-words.words c.in_ok-added.added)) (sym c.if-not-with_idioms.false) (idioms_in_use dict tokens c.in_ok-words.words c.in_ok-added.added of c.in_ok-added.ensures named))
