-- An entry that is read from a text is within its bounds.
use Rattle.std.proofs.Common.{◌≡◌, ℕ, ◌^◌, ◌<◌, ◌≤◌, List, [], ◌∷◌, length, Result, Ok, refl, subst, ap, arith}
use Rattle.lg_gram.specs.declared.entry.Item.{Item}
use Rattle.lg_gram.specs.EntryBounds.{IsEntryInBounds}
use Rattle.lg_gram.specs.EntryViews.{EntryView}
use Rattle.lg_gram.specs.Limits.{LEVEL}
use Rattle.lg_lex.specs.declared.marks.Marks.TheVariants.{Dictionary}
use Rattle.lg_lex.specs.Tokens.{Token, AreTokens}
use Rattle.lg_expr.specs.Grammar.{Rules}
use Rattle.lg_expr.specs.Reading.{StandFor}
use Rattle.lg_dictread.specs.declared.entry_text.EntryError.{EntryError}
use Rattle.lg_dictread.specs.Entries.{part, AreItems}
use Rattle.lg_dictread.specs.EntryTexts.{free_rules, written_view, EntryTextIs, not_utf8, one, goes_on, faulty}
use Rattle.lg_dictread.specs.Limits.{FILE}

-- what follows some items
items_before : (is : List (Item × ℕ)) (ts rest : List Token) → AreItems is ts rest → length rest ≤ length ts
items_before [] ts rest h = omega (arith, ap length h)
items_before (i ∷ is) [] rest h = absurd h
items_before (i ∷ is) (t ∷ ts) rest h = let more = items_before is ts rest h.2 in omega arith

module _ (few_tokens : (ts : List Token) (before : ℕ) (bytes : List ℕ) → AreTokens Dictionary ts before bytes → length ts ≤ length bytes)
    (bounded : (r : Rules) (ts : List Token) (e : EntryView) (rest : List Token) → r.limit ≤ LEVEL → length ts < 2 ^ 32 → StandFor Token part r ts e.expr e.level rest → IsEntryInBounds e) where
  text_bounded : (bytes : List ℕ) (x : Result EntryView EntryError) (e : EntryView) → length bytes ≤ FILE → EntryTextIs bytes x → x ≡ Ok e → IsEntryInBounds e
  text_bounded bytes x e low (not_utf8 n h) same = absurd cc
  text_bounded bytes x e low (one ts w is h) same =
      let read : written_view bytes w ≡ e = cc in
      let few = few_tokens ts 0 bytes is.tokens in
      let left = items_before w.items ts (h.mark ∷ h.body) h.are_items in
      subst IsEntryInBounds read (bounded free_rules h.body (written_view bytes w) [] (omega arith) (omega arith) h.stands)
  text_bounded bytes x e low (goes_on ts w t rest error is h at) same = absurd cc
  text_bounded bytes x e low (faulty ts f left error is h at) same = absurd cc

  pub entry_text_bounded : (bytes : List ℕ) (e : EntryView) → length bytes ≤ FILE → EntryTextIs bytes (Ok e) → IsEntryInBounds e
  entry_text_bounded bytes e low h = text_bounded bytes (Ok e) e low h refl
