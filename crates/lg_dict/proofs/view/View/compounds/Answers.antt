use Rattle.std.proofs.Common.{◌≡◌, ◌↔◌, ◌++◌, List, ℕ, map, filter, Bor, Contains, IsSome, true, ap, sym, subst, ◌∙◌}
use Rattle.std.specs.FinMap.{get}
use Rattle.lg_dict.specs.Tables.{text_at, text_keys, texts_at, is_under}
use Rattle.lg_dict.specs.declared.tables.By.TheVariants.{First}
use Rattle.lg_dict.proofs.Viewed.{is_word, listed_are, compounds_are}
use Rattle.lg_dict.proofs.Words.{compounds_result}
use Rattle.lg_dict.proofs.view.View.compounds.Goals as goal

-- those that are listed below, and those among the changes
pub returns : goal.returns
returns c =
    let seen = c.args.self.now in
    let first = c.args.first.now in
    let changes = c.self.inside.changes in
    let below = map (λ number. text_at (text_keys c.with_first.result.0.now) number) c.with_first.result.1.now in
    let names = texts_at changes.firsts first in
    let read : List (Bor (List ℕ)) → List (List ℕ) = λ words. map (λ word. word.now) words in
    let found = read c.add_texts.new.found.items in
    let all : found ≡ filter (is_word seen) below ++ filter (is_word seen) names =
    c.in_ok-add_texts.ensures
    ∙ ap (λ l. l ++ filter (is_word seen) c.texts_under.result.now) c.in_ok-add_numbers.ensures
    ∙ (λ i. (read (c.new-found.ensures.items i) ++ filter (is_word seen) below) ++ filter (is_word seen) (c.texts_under.ensures i)) in
    let exact : (word : List ℕ) → Contains found word ↔ (IsSome (get seen.words word) × (is_under First first word ≡ true)) =
    λ word.
    subst (λ l. Contains l word ↔ (IsSome (get seen.words word) × (is_under First first word ≡ true))) (sym all)
    (listed_are c.self.inside.base.now seen changes c.self.invariant.laid c.self.view_is First changes.firsts c.self.invariant.laid.firsts first below c.with_first.ensures word) in
    compounds_result c.sorted_texts.result seen first found (compounds_are seen first found exact) c.sorted_texts.ensures.rise c.sorted_texts.ensures.same
