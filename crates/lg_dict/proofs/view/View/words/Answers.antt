use Rattle.std.proofs.Common.{◌≡◌, ◌↔◌, ◌++◌, List, ℕ, Bor, IsSome, Contains, map, filter, ap, sym, subst, ◌∙◌, rules}
use Rattle.std.proofs.lemmas.Fn.{filter_same}
use Rattle.std.specs.FinMap.{get}
use Rattle.lg_dict.specs.Tables.{text_keys}
use Rattle.lg_dict.proofs.Viewed.{is_word, words_known}
use Rattle.lg_dict.proofs.Words.{filter-map, keys_result}
use Rattle.lg_dict.proofs.view.View.words.Goals as goal

-- those below and those among the changes that are words
pub returns : goal.returns
returns c =
    let seen = c.args.self.now in
    let changes = c.self.inside.changes in
    let below = text_keys c.words.result.now in
    let read : List (Bor (List ℕ)) → List (List ℕ) = λ words. map (λ word. word.now) words in
    let before = c.add_keys-2.new.found.items in
    let all : read before ≡ below ++ text_keys changes.words =
    c.in_ok-add_keys-2.ensures ∙ ap (λ l. l ++ text_keys changes.words) (c.in_ok-add_keys.ensures ∙ ap (λ l. read l ++ below) c.new-found.ensures.items) in
    let left : c.retain.new.self.items ≡ filter (λ (word : Bor (List ℕ)). is_word seen word.now) before =
    filter_same _ (λ (word : Bor (List ℕ)). is_word seen word.now) _ (λ x b f k. search rules) _ _ c.retain.ensures.filtered in
    let kept : read c.retain.new.self.items ≡ filter (is_word seen) (below ++ text_keys changes.words) =
    ap read left ∙ filter-map (λ (word : Bor (List ℕ)). word.now) (is_word seen) before ∙ ap (filter (is_word seen)) all in
    keys_result c.sorted_texts.result seen.words (read c.retain.new.self.items)
    (λ word. subst (λ l. Contains l word ↔ IsSome (get seen.words word)) (sym kept) (words_known c.self.inside.base.now seen changes c.self.invariant.laid c.self.view_is below c.words.ensures word))
    c.sorted_texts.ensures.rise c.sorted_texts.ensures.same
