use Rattle.std.proofs.Common.{◌≡◌, ◌↔◌, ◌++◌, [], ◌∷◌, if◌then◌else◌, List, ℕ, map, filter, Bor, Contains, sym, ap, subst, ◌∙◌}
use Rattle.lg_dict.specs.Dictionary.{IsWordOf}
use Rattle.lg_dict.specs.Tables.{text_at, text_keys, texts_at}
use Rattle.lg_dict.proofs.Missing.{has_no_words}
use Rattle.lg_dict.proofs.Viewed.{is_word, words_among, Contains-seen}
use Rattle.lg_dict.proofs.Words.{words_result}
use Rattle.lg_dict.proofs.view.View.words_of.Goals as goal

pub returns-then-not-has_length : goal.returns-then-not-has_length
returns-then-not-has_length c =
    has_no_words c.args.self.now c.args.text.now (c.has_length.ensures c.if-not-has_length.true) c.of.result (c.of.ensures ∙ c.new.ensures.items)

-- the text itself, those that are listed below, and those among the changes
pub returns : goal.returns
returns c =
    let seen = c.args.self.now in
    let text = c.args.text.now in
    let below = map (λ number. text_at (text_keys c.with_stem.result.0.now) number) c.with_stem.result.1.now in
    let names = texts_at c.self.inside.changes.stems text in
    let read : List (Bor (List ℕ)) → List (List ℕ) = λ words. map (λ word. word.now) words in
    let found = read c.add_texts.new.found.items in
    let all : found ≡ words_among seen text below names =
    c.in_ok-add_texts.ensures
    ∙ ap (λ l. l ++ filter (is_word seen) c.texts_under.result.now) (c.in_ok-add_numbers.ensures ∙ ap (λ l. l ++ filter (is_word seen) below) c.in_ok-add_word.ensures)
    ∙ (λ i. ((read (c.new-found.ensures.items i) ++ (if is_word seen text then text ∷ [] else [])) ++ filter (is_word seen) below) ++ filter (is_word seen) (c.texts_under.ensures i)) in
    let exact : (word : List ℕ) → Contains found word ↔ IsWordOf seen text word =
    λ word.
    subst (λ l. Contains l word ↔ IsWordOf seen text word) (sym all)
    (Contains-seen c.self.inside.base.now seen c.self.inside.changes c.self.invariant.laid c.self.view_is text below c.with_stem.ensures word) in
    words_result c.sorted_texts.result seen text found exact c.sorted_texts.ensures.rise c.sorted_texts.ensures.same
