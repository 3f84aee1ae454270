use Rattle.std.proofs.Common.{◌≡◌, inr, List, ℕ, cond, IsSome, None, Some, nat_eq, unwrap_or, refl, sym, ap, subst, ◌∙◌}
use lib.Pointwise.{pointwise}
use Rattle.std.specs.Map.{lookup}
use Rattle.lg_dict.specs.Changed.{HasSame, IsNamed}
use Rattle.lg_dict.specs.Tables.{at_text, same_text}
use Rattle.lg_dict.specs.declared.changes.Change.TheVariants.{Same}
use Rattle.lg_dict.specs.declared.changes.Changes.{Changes}
use Rattle.lg_dict.specs.declared.tables.By.TheVariants.{Stem, First}
use Rattle.lg_dict.proofs.Lookups.{at_text-updates}
use Rattle.lg_dict.proofs.Lengthened.{still_has}
use Rattle.lg_dict.proofs.Admitted.{lengths_named, lists_more, lists_kept, same_laid, named_same, named_before, named_still, none_of}
use Rattle.lg_dict.proofs.changes.Changes.admit.Goals as goal

-- the word is named now, and each table lists as before or the word more
pub returns-clause-laid : goal.returns-clause-laid
returns-clause-laid c =
    let old = c.args.self.now in
    let word = c.args.word.now in
    let new : Changes = record { words = c.insert.new.self; stems = c.list_text.new.lists; firsts = c.list_text-2.new.lists; macros = old.macros; lengths = c.add_word.new.self } in
    let absent : at_text old.words word ≡ None = none_of (at_text old.words word) (sym c.contains_key.ensures ∙ c.if-contains_key.false) in
    let set : (text : List ℕ) → at_text new.words text ≡ cond (same_text text word) (Some Same) (at_text old.words text) =
    λ text. at_text-updates old.words new.words c.in_ok-key.key (Some Same) c.in_ok-insert.ensures.updates text ∙ ap (λ k. cond (same_text text k) (Some Same) (at_text old.words text)) c.in_ok-key.ensures in
    let same : HasSame old new = record { words = named_same old new word absent set; macros = λ name. refl } in
    same_laid old new c.requires same
    (lists_more Stem (IsNamed old) (IsNamed new) old.stems new.stems c.requires.stems word c.in_ok-list_text.ensures.listed (named_before old new word absent set))
    (lists_more First (IsNamed old) (IsNamed new) old.firsts new.firsts c.requires.firsts word c.in_ok-list_text-2.ensures.listed (named_before old new word absent set))
    (lengths_named old.lengths new.lengths (IsNamed old) (IsNamed new) word c.add_word.ensures.kept c.in_ok-add_word.ensures.added c.requires.lengths (named_before old new word absent set))

pub returns-clause-same : goal.returns-clause-same
returns-clause-same c =
    let old = c.args.self.now in
    let word = c.args.word.now in
    let new : Changes = record { words = c.insert.new.self; stems = c.list_text.new.lists; firsts = c.list_text-2.new.lists; macros = old.macros; lengths = c.add_word.new.self } in
    let absent : at_text old.words word ≡ None = none_of (at_text old.words word) (sym c.contains_key.ensures ∙ c.if-contains_key.false) in
    let set : (text : List ℕ) → at_text new.words text ≡ cond (same_text text word) (Some Same) (at_text old.words text) =
    λ text. at_text-updates old.words new.words c.in_ok-key.key (Some Same) c.in_ok-insert.ensures.updates text ∙ ap (λ k. cond (same_text text k) (Some Same) (at_text old.words text)) c.in_ok-key.ensures in
    record { words = named_same old new word absent set; macros = λ name. refl }

pub returns-clause-names : goal.returns-clause-names
returns-clause-names c = λ text.
    let old = c.args.self.now in
    let word = c.args.word.now in
    let new : Changes = record { words = c.insert.new.self; stems = c.list_text.new.lists; firsts = c.list_text-2.new.lists; macros = old.macros; lengths = c.add_word.new.self } in
    let absent : at_text old.words word ≡ None = none_of (at_text old.words word) (sym c.contains_key.ensures ∙ c.if-contains_key.false) in
    let set : (text : List ℕ) → at_text new.words text ≡ cond (same_text text word) (Some Same) (at_text old.words text) =
    λ text. at_text-updates old.words new.words c.in_ok-key.key (Some Same) c.in_ok-insert.ensures.updates text ∙ ap (λ k. cond (same_text text k) (Some Same) (at_text old.words text)) c.in_ok-key.ensures in
    named_still old new word absent set text

-- the tables list the word, which is not named
pub returns-in_err-insert-clause-laid : goal.returns-in_err-insert-clause-laid
returns-in_err-insert-clause-laid c =
    let old = c.args.self.now in
    let word = c.args.word.now in
    let new : Changes = record { words = c.insert.new.self; stems = c.list_text.new.lists; firsts = c.list_text-2.new.lists; macros = old.macros; lengths = c.add_word.new.self } in
    let kept : (text : List ℕ) → at_text new.words text ≡ at_text old.words text = λ text. ap (lookup (λ k. pointwise nat_eq text k.items)) c.in_err-insert.ensures.err in
    let same : HasSame old new = record { words = λ text. ap (λ o. unwrap_or o Same) (kept text); macros = λ name. refl } in
    same_laid old new c.requires same
    (lists_more Stem (IsNamed old) (IsNamed new) old.stems new.stems c.requires.stems word c.in_ok-list_text.ensures.listed (λ text b is h. inr (subst IsSome (kept text) h)))
    (lists_more First (IsNamed old) (IsNamed new) old.firsts new.firsts c.requires.firsts word c.in_ok-list_text-2.ensures.listed (λ text b is h. inr (subst IsSome (kept text) h)))
    (λ w h. still_has old.lengths new.lengths w c.add_word.ensures.kept (c.requires.lengths w (subst IsSome (kept w) h)))

-- a stem lists the word alone, or nothing does
pub returns-in_err-list_text-clause-laid : goal.returns-in_err-list_text-clause-laid
returns-in_err-list_text-clause-laid c =
    let old = c.args.self.now in
    let new : Changes = record old { stems = c.list_text.new.lists; lengths = c.add_word.new.self } in
    same_laid old new c.requires (record { words = λ text. refl; macros = λ name. refl })
    (lists_kept Stem (IsNamed old) (IsNamed old) old.stems new.stems c.requires.stems c.in_err-list_text.ensures.unchanged (λ text h. h)) c.requires.firsts
    (λ w h. still_has old.lengths new.lengths w c.add_word.ensures.kept (c.requires.lengths w h))

pub returns-in_err-list_text-2-clause-laid : goal.returns-in_err-list_text-2-clause-laid
returns-in_err-list_text-2-clause-laid c =
    let old = c.args.self.now in
    let word = c.args.word.now in
    let new : Changes = record old { stems = c.list_text.new.lists; firsts = c.list_text-2.new.lists; lengths = c.add_word.new.self } in
    same_laid old new c.requires (record { words = λ text. refl; macros = λ name. refl })
    (lists_more Stem (IsNamed old) (IsNamed old) old.stems new.stems c.requires.stems word c.in_ok-list_text.ensures.listed (λ text b is h. inr h))
    (lists_kept First (IsNamed old) (IsNamed old) old.firsts new.firsts c.requires.firsts c.in_err-list_text-2.ensures.unchanged (λ text h. h))
    (λ w h. still_has old.lengths new.lengths w c.add_word.ensures.kept (c.requires.lengths w h))

-- more lengths are there
pub returns-in_err-add_word-clause-laid : goal.returns-in_err-add_word-clause-laid
returns-in_err-add_word-clause-laid c =
    let old = c.args.self.now in
    let new : Changes = record old { lengths = c.add_word.new.self } in
    same_laid old new c.requires (record { words = λ text. refl; macros = λ name. refl }) c.requires.stems c.requires.firsts
    (λ w h. still_has old.lengths new.lengths w c.add_word.ensures.kept (c.requires.lengths w h))
