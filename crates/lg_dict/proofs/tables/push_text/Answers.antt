use Rattle.std.proofs.Common.{◌≡◌, ◌++◌, ◌∷◌, List, ℕ, [], cond, Some, ap, sym, ◌∙◌}
use Rattle.std.proofs.lemmas.Result.{on_ok_weaker, on_err_weaker}
use Rattle.std.specs.Option.{option_map_or, option_copied_mut}
use Rattle.lg_dict.specs.Tables.{at_text, texts_at, same_text}
use Rattle.lg_dict.proofs.Lookups.{at_text-written, texts-kept, texts-pushed}
use Rattle.lg_dict.proofs.tables.push_text.Goals as goal

-- what is written through the look-up stands at the key alone
pub returns-clause-unchanged : goal.returns-clause-unchanged
returns-clause-unchanged c =
    let lists = c.args.lists.now in
    let key = c.args.key.now in
    let list = c.push.new.words in
    let there : c.in-Some.words.now.items ≡ texts_at lists key = sym (ap (λ o. option_map_or (λ texts. texts.items) o []) (sym c.get_mut.ensures.value ∙ ap option_copied_mut c.in-Some.is)) in
    let set : (text : List ℕ) → at_text (c.get_mut.follows.lender list) text ≡ cond (same_text text key) (Some list) (at_text lists text) =
    at_text-written lists (c.get_mut.follows.lender list) key (Some list) ((c.get_mut.follows.holds list).3 c.requires) in
    on_err_weaker c.push.result (λ kept. texts-kept lists (c.get_mut.follows.lender list) key list set (kept ∙ there)) c.push.ensures.unchanged

pub returns-clause-pushed : goal.returns-clause-pushed
returns-clause-pushed c =
    let lists = c.args.lists.now in
    let key = c.args.key.now in
    let list = c.push.new.words in
    let there : c.in-Some.words.now.items ≡ texts_at lists key = sym (ap (λ o. option_map_or (λ texts. texts.items) o []) (sym c.get_mut.ensures.value ∙ ap option_copied_mut c.in-Some.is)) in
    let set : (text : List ℕ) → at_text (c.get_mut.follows.lender list) text ≡ cond (same_text text key) (Some list) (at_text lists text) =
    at_text-written lists (c.get_mut.follows.lender list) key (Some list) ((c.get_mut.follows.holds list).3 c.requires) in
    on_ok_weaker c.push.result (λ pushed. texts-pushed lists (c.get_mut.follows.lender list) key list set c.args.word (pushed ∙ ap (λ l. l ++ c.args.word ∷ []) there)) c.push.ensures.pushed
