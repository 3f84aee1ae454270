use Rattle.std.proofs.Common.{◌≡◌, ℕ, List, Bor, Vec, Global, length, map, max, Contains, sym, ap, subst, ◌∙◌, rules}
use Rattle.std.specs.Map.Iter.{deref}
use Rattle.std.proofs.lemmas.List.{map_push}
use Rattle.std.proofs.lemmas.Map.Iter.{iter_end}
use Rattle.indexmap.specs.IndexMap.{keys}
use Rattle.lg_dict.specs.Dictionary.{IsLongest}
use Rattle.lg_dict.proofs.Gathered.{keys_read}
use Rattle.lg_dict.proofs.Longest.{ord_max_is, longest-more}
use Rattle.lg_dict.proofs.tables.longest_word.Goals as goal

pub loop-word-preserved : goal.loop-word-preserved
loop-word-preserved c =
    let read : Bor (Vec ℕ Global) → List ℕ = λ key. key.now.items in
    let word = c.in-Some.word in
    let larger : c.max-longest.result ≡ max c.loop-word.longest (length word.now.items) =
    c.max-longest.ensures ∙ ord_max_is c.loop-word.longest c.len.result ∙ ap (max c.loop-word.longest) (c.len.ensures ∙ word.now.ok.0) in
    subst (λ texts. IsLongest (Contains texts) c.max-longest.result) (sym (map_push read c.loop-word.yielded word))
    (longest-more (map read c.loop-word.yielded) word.now.items c.loop-word.longest c.max-longest.result larger c.loop-word.invariant)

-- all keys were yielded
pub returns : goal.returns
returns c =
    let all : map deref c.loop-word.yielded ≡ keys c.args.words.now = search (rules, iter_end) in
    subst (λ texts. IsLongest (Contains texts) c.loop-word.longest) (keys_read c.args.words.now c.loop-word.yielded all) c.loop-word.invariant
