-- One more item is scanned and kept.
use Rattle.std.proofs.Common.{◌≡◌, ℕ, Bool, true, false, cond, eqb, List, [], ◌∷◌, ◌++◌, sym, ap, ◌∙◌}
use Rattle.std.proofs.lemmas.List.{map_push}
use Rattle.lg_gram.specs.declared.entry.Item.{Item}
use Rattle.lg_lex.specs.declared.token.Token as code_token
use Rattle.lg_lex.specs.declared.token.Token.TheVariants as tokens
use Rattle.lg_lex.specs.Found.{lexeme_of, following}
use Rattle.lg_lex.specs.declared.spot.Spot.{Spot}
use Rattle.lg_lex.specs.Tokens.{Token}
use Rattle.lg_lex.specs.Spots.{IsSpot}
use Rattle.lg_dictread.specs.Items.{Head, item, colon, other, head_of}
use Rattle.lg_dictread.specs.Scanning.{scan_step, scan}
use Rattle.lg_dictread.specs.Lines.{line_of}
use Rattle.lg_dictread.specs.View.{KeepsItems}

no_sign : (b : Bool) (i : Item) → item i ≡ cond b colon other → ⊥
no_sign true i e = cc
no_sign false i e = cc

-- an item is no broken token, so the tokens go on after it
item_goes_on : (t : code_token.Token) (i : Item) (more : List Token) → item i ≡ head_of (lexeme_of t) → following t more ≡ more
item_goes_on (tokens.Sign b) i more e = absurd (no_sign (eqb b 58) i e)
item_goes_on (tokens.Quoted w) i more e = λ k. more
item_goes_on (tokens.Plain w) i more e = λ k. more
item_goes_on tokens.Broken i more e = absurd cc

pub item_scanned : (t : code_token.Token) (i : Item) (n : ℕ) (is : List (Item × ℕ)) (left more : List Token) → item i ≡ head_of (lexeme_of t) → left ≡ (lexeme_of t, n) ∷ following t more
    → scan is left ≡ scan (is ++ (i, n) ∷ []) more
item_scanned t i n is left more e next =
    ap (scan is) (next ∙ ap (λ (l : List Token). (lexeme_of t, n) ∷ l) (item_goes_on t i more e))
    ∙ ap (λ (h : Head). scan_step h (λ js. scan js more) is (lexeme_of t, n) more) (sym e)

pub item_kept : (text : List ℕ) (is : List (Item × ℕ)) (items more_items : List Item) (lines more_lines : List ℕ) (i : Item) (s : Spot) → KeepsItems text is items lines → IsSpot text s
    → more_items ≡ items ++ i ∷ [] → more_lines ≡ lines ++ s.location.line ∷ [] → KeepsItems text (is ++ (i, s.at) ∷ []) more_items more_lines
item_kept text is items more_items lines more_lines i s kept here pushed line_pushed = record {
  items_are = pushed ∙ ap (λ (l : List Item). l ++ i ∷ []) kept.items_are ∙ sym (map_push (λ (x : Item × ℕ). x.0) is (i, s.at));
  lines_are = line_pushed ∙ (λ k. kept.lines_are k ++ (here.placed k).line ∷ []) ∙ sym (map_push (line_of text) is (i, s.at));
}
