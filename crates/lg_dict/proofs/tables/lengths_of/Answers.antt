use Rattle.std.proofs.Common.{◌≡◌, ℕ, List, Bor, Vec, Global, map, Contains, sym, subst, rules}
use Rattle.std.specs.Map.Iter.{deref}
use Rattle.std.proofs.lemmas.List.{map_push}
use Rattle.std.proofs.lemmas.Map.Iter.{iter_end}
use Rattle.indexmap.specs.IndexMap.{keys}
use Rattle.lg_dict.specs.Lengths.{HasLengths}
use Rattle.lg_dict.proofs.Gathered.{keys_read}
use Rattle.lg_dict.proofs.Lengthened.{has_more}
use Rattle.lg_dict.proofs.tables.lengths_of.Goals as goal

pub loop-word-preserved : goal.loop-word-preserved
loop-word-preserved c =
    let read : Bor (Vec ℕ Global) → List ℕ = λ key. key.now.items in
    let word = c.in-Some.word in
    subst (λ texts. (w : List ℕ) → Contains texts w → HasLengths c.add_word.new.self w) (sym (map_push read c.loop-word.yielded word))
    (has_more c.loop-word.lengths c.add_word.new.self (map read c.loop-word.yielded) word.now.items c.add_word.ensures.kept (subst (HasLengths c.add_word.new.self) c.as_slice.ensures.value c.in_ok-add_word.ensures.added) c.loop-word.invariant)

-- all keys were yielded
pub returns : goal.returns
returns c =
    let all : map deref c.loop-word.yielded ≡ keys c.args.words.now = search (rules, iter_end) in
    subst (λ texts. (w : List ℕ) → Contains texts w → HasLengths c.loop-word.lengths w) (keys_read c.args.words.now c.loop-word.yielded all) c.loop-word.invariant
