use Rattle.std.proofs.Common.{◌≡◌, ◌<◌, ◌≤◌, ◌∷◌, [], ℕ, List, All, length, take, take_all, get_or, max, sym, ap, subst, ◌∙◌, arith}
use Rattle.std.proofs.lemmas.Grind.{take_at_read}
use Rattle.std.proofs.lemmas.List.Elements.{All-append, All-cons, All-nil}
use Rattle.lg_dict.proofs.tables.longest_of.Goals as goal

-- one more word
pub loop-word-preserved : goal.loop-word-preserved
loop-word-preserved c =
    let words = c.args.words.now in
    let i = c.loop-word.word-index in
    let word = c.word-item.result in
    let here = get_or words i word in
    let within : i < length words = omega arith in
    let larger : c.max-longest.result ≡ max c.loop-word.longest (length here) =
    c.max-longest.ensures ∙ ap (λ (t : List ℕ). max c.loop-word.longest (length t)) (c.bytes.ensures ∙ c.word-item.is) in
    let fits : List ℕ → Type 0 = λ text. length text ≤ c.max-longest.result in
    record {
      above = let above = c.loop-word.invariant.above in omega arith;
      bounds = subst (All fits) (sym ((take_at_read words i word within).1))
          (All-append fits (take i words) (here ∷ []) (λ k d low. let short = c.loop-word.invariant.bounds k d low in omega arith) (All-cons fits here [] (omega arith) (All-nil fits)));
    }

pub returns-clause-bounds : goal.returns-clause-bounds
returns-clause-bounds c = subst (All (λ (word : List ℕ). length word ≤ c.loop-word.longest)) (take_all c.loop-word.word-index c.args.words.now c.loop-word-test.false) c.loop-word.invariant.bounds
