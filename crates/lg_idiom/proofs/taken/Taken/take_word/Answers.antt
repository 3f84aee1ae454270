use Rattle.std.proofs.Common.{◌≡◌, ◌+◌, ◌-◌, ◌<◌, ◌++◌, ◌∷◌, [], Some, length, ap, sym, subst, ◌∙◌, rules, arith}
use Rattle.std.specs.FinMap.{get}
use Rattle.std.specs.Option.{option_map}
use Rattle.lg_gram.specs.Trees.{tree_of}
use Rattle.lg_dict.specs.Compounds.{parts_of}
use Rattle.lg_idiom.specs.Idioms.{chain_choices, IsUsable}
use Rattle.lg_idiom.specs.Sentences.{chain_of}
use Rattle.lg_idiom.specs.Steps.{IsChainIf}
use Rattle.lg_idiom.proofs.Chains.{chain_seen}
use Rattle.lg_idiom.proofs.Choosing.{takes_none, takes_many, takes_one}
use Rattle.lg_idiom.proofs.taken.Taken.take_word.Goals as goal

-- the chain of the word, as it is seen, and its choices
pub returns-in_default : goal.returns-in_default
returns-in_default c =
    let has : get c.args.view.now.words c.args.word.now ≡ Some (tree_of c.unwrap-formula.result.now) = sym c.get.ensures ∙ ap (option_map (λ f. tree_of f.now)) c.unwrap-formula.ensures in
    let counted : length c.items-count.result.now ≡ length (parts_of c.args.word.now) = search rules in
    let seen = chain_seen c.args.view.now c.args.start c.args.rank _ c.args.word.now _ has counted in
    let choices = ap chain_choices seen in
    let many : c.args.self.now.left < (length c.items-count.result.now - 1) + c.choices.result = search rules in
    let is = c.choices.ensures.value in
    λ chains h. takes_many c.args.self.now chains (chain_of c.args.view.now c.args.start c.args.rank c.args.word.now) h (omega (arith, many, is, choices))

pub returns-in_default-2 : goal.returns-in_default-2
returns-in_default-2 c =
    let has : get c.args.view.now.words c.args.word.now ≡ Some (tree_of c.unwrap-formula.result.now) = sym c.get.ensures ∙ ap (option_map (λ f. tree_of f.now)) c.unwrap-formula.ensures in
    let counted : length c.items-count.result.now ≡ length (parts_of c.args.word.now) = search rules in
    let seen = chain_seen c.args.view.now c.args.start c.args.rank _ c.args.word.now _ has counted in
    let never = subst (IsChainIf _) c.in_default-2.is c.in_ok-chain.ensures in
    λ chains h. takes_none c.args.self.now chains (chain_of c.args.view.now c.args.start c.args.rank c.args.word.now) h (λ u. never (subst IsUsable (sym seen) u))

pub returns : goal.returns
returns c =
    let has : get c.args.view.now.words c.args.word.now ≡ Some (tree_of c.unwrap-formula.result.now) = sym c.get.ensures ∙ ap (option_map (λ f. tree_of f.now)) c.unwrap-formula.ensures in
    let counted : length c.items-count.result.now ≡ length (parts_of c.args.word.now) = search rules in
    let seen = chain_seen c.args.view.now c.args.start c.args.rank _ c.args.word.now _ has counted in
    let made = subst (IsChainIf _) c.in-Some-2.is c.in_ok-chain.ensures in
    let one = made.0 ∙ seen in
    let left : c.in-Some.left + ((length c.items-count.result.now - 1) + c.choices.result) ≡ c.args.self.now.left = search rules in
    let choices = ap chain_choices seen in
    let is = c.choices.ensures.value in
    λ chains h. takes_one c.args.self.now chains (chain_of c.args.view.now c.args.start c.args.rank c.args.word.now) h _ (subst IsUsable seen made.1)
    (c.in_ok-push.ensures.items ∙ ap (λ x. c.args.self.now.chains.items ++ x ∷ []) one) (omega (arith, left, is, choices))
