-- A made script: its lines, and the command of each.
use Rattle.std.proofs.Common.{◌≡◌, ◌≢◌, ℕ, zero, suc, ◌+◌, ◌≤◌, true, false, List, [], ◌∷◌, ◌++◌, codes, length, refl, ap, sym, ◌∙◌, subst, arith, append_assoc, append-nil, true≢false, Ok}
use Rattle.std.specs.List.{list_all, All, AllByRecursion, join_with_byte}
use Rattle.std.proofs.lemmas.Bool.{and_parts, both_ways}
use Rattle.std.proofs.lemmas.List.Folds.{list_all-append}
use Rattle.std.proofs.lemmas.List.Elements.{All-nil, All-cons}
use Rattle.lg_lex.specs.declared.run.Separators.TheVariants.{Blanks}
use Rattle.lg_lex.specs.Classes.{line_feed, percent_sign}
use Rattle.lg_lex.specs.Runs.{is_separator}
use Rattle.lg_script.specs.Commands.{CommandView, parses, parse}
use Rattle.lg_script.specs.Lines.{AreLines, Says, plain, carriage_return, IsTrimmed, blank, IsCommand}
use Rattle.lg_script.specs.Scripts.{LinesGive, passed, command, ended, ScriptIs, lines}
use Rattle.lg_gen.specs.Made.{next, drawn, drawn_words, word_count, behind_sentence, sentence_lines}
use Rattle.lg_gen.specs.Accepted.{IsParse}
use Rattle.lg_gen.proofs.Bytes.{is_printed, drawn_are_printed, sentences_are_small, small_is_utf8}
use Rattle.lg_gen.proofs.Ends.{not_nil, last_same, EndsWhole, told_words, told_end}

-- ---- lines of printed bytes

no_line_feed : (xs : List ℕ) → list_all is_printed xs ≡ true → AllByRecursion (λ b. b ≢ line_feed) xs
no_line_feed [] all = tt
no_line_feed (x ∷ xs) all =
    let parts = and_parts (is_printed x) (list_all is_printed xs) all in
    ((λ e. both_ways (is_printed x) (ap is_printed e) parts.0), no_line_feed xs parts.1)

says_itself : (line : List ℕ) → list_all is_printed line ≡ true → Says line line
says_itself line all = plain (λ body e.
    let split = sym (list_all-append is_printed body (carriage_return ∷ [])) ∙ ap (list_all is_printed) (sym e) ∙ all in
    let parts = and_parts (list_all is_printed body) false split in
    true≢false (sym parts.1))

trimmed : (bytes : List ℕ) → EndsWhole (119 ∷ bytes) → IsTrimmed (119 ∷ bytes)
trimmed bytes ends = record {
  front = λ b rest e. let same : 119 ≡ b = cc in subst (λ (c : ℕ). is_separator Blanks c ≡ false) same refl;
  back = λ b rest e. subst (λ (c : ℕ). is_separator Blanks c ≡ false) (last_same ends.front rest ends.last b (sym ends.is ∙ e)) ends.whole;
}

joined_more : (line : List ℕ) (ls : List (List ℕ)) → ls ≢ [] → join_with_byte line_feed (line ∷ ls) ≡ line ++ line_feed ∷ join_with_byte line_feed ls
joined_more line [] some = absurd (some refl)
joined_more line (l ∷ ls) some = refl

-- ---- the lines of a script

module _ (words : ℕ) (some : 1 ≤ words) (few : words ≤ 100000) where
  -- the line of a sentence, without its end
  abbrev body : ℕ → List ℕ
  body state = codes "parse" ++ drawn_words words (word_count state) (next state)

  abbrev bodies : ℕ → ℕ → List (List ℕ)
  bodies zero state = [] ∷ []
  bodies (suc n) state = body state ∷ bodies n (behind_sentence state)

  bodies_some : (n state : ℕ) → bodies n state ≢ []
  bodies_some zero state e = cc
  bodies_some (suc n) state e = cc

  bodies_joined : (n state : ℕ) → sentence_lines words n state ≡ join_with_byte line_feed (bodies n state)
  bodies_joined zero state = refl
  bodies_joined (suc n) state =
      ap (λ (l : List ℕ). codes "parse" ++ l) (append_assoc (drawn_words words (word_count state) (next state)) (codes "\n") (sentence_lines words n (behind_sentence state)))
      ∙ ap (λ (l : List ℕ). body state ++ line_feed ∷ l) (bodies_joined n (behind_sentence state))
      ∙ sym (joined_more (body state) (bodies n (behind_sentence state)) (bodies_some n (behind_sentence state)))

  bodies_whole : (n state : ℕ) → AllByRecursion (AllByRecursion (λ b. b ≢ line_feed)) (bodies n state)
  bodies_whole zero state = (tt, tt)
  bodies_whole (suc n) state = (no_line_feed (body state) (drawn_are_printed words some few (word_count state) (next state)), bodies_whole n (behind_sentence state))

  -- its command, where so many words are told and one more
  told_command : (k state : ℕ) → IsCommand (codes "parse" ++ drawn_words words (suc k) state) (codes "parse") (told_words words k state)
  told_command k state = record {
    front = [];
    tail = drawn_words words (suc k) state;
    split = refl;
    blanks = tt;
    some = λ e. cc;
    inner = (refl, (refl, (refl, (refl, (refl, tt)))));
    no_comment = λ b e. let same : 112 ≡ percent_sign = cc in omega arith;
    ends = refl;
    trims = record {
      front = codes " ";
      back = [];
      split = ap (λ (l : List ℕ). codes " " ++ l) (sym (append-nil (told_words words k state)));
      blanks = ((refl, tt), tt);
      trimmed = trimmed _ (told_end words some few k state);
    };
  }

  abbrev Gives : ℕ → List (List ℕ) → ℕ → Type 0
  Gives line ls n = (cs : List CommandView) × LinesGive line ls (Ok cs) × (length cs ≡ n) × All IsParse cs

  lines_give : (n line state : ℕ) → Gives line (bodies n state) n
  lines_give zero line state = ([], passed line [] [] [] (Ok []) (plain (λ b e. not_nil b carriage_return e)) (blank tt) (ended (line + 1)), refl, All-nil IsParse)
  lines_give (suc n) line state =
      let (cs, gives, many, all) = lines_give n (line + 1) (behind_sentence state) in
      let k = 1 + drawn 7 (next state) in
      let count : suc k ≡ word_count state = omega arith in
      let is : IsCommand (body state) (codes "parse") (told_words words k (next state)) =
      subst (λ (m : ℕ). IsCommand (codes "parse" ++ drawn_words words m (next state)) (codes "parse") (told_words words k (next state))) count (told_command k (next state)) in
      let rest = told_words words k (next state) in
      let said = says_itself (body state) (drawn_are_printed words some few (word_count state) (next state)) in (
        parses rest ∷ cs,
        command line (body state) (body state) (codes "parse") rest (bodies n (behind_sentence state)) (parses rest) (Ok cs) said is (parse rest) gives,
        ap suc many,
        All-cons IsParse (parses rest) cs (rest, refl) all,
      )

  pub script_is : (n state : ℕ) → 1 ≤ n → (cs : List CommandView) × ScriptIs (sentence_lines words n state) (Ok cs) × (length cs ≡ n) × All IsParse cs
  script_is zero state h = absurd (omega arith)
  script_is (suc n) state h =
      let (cs, gives, many, all) = lines_give (suc n) 1 state in
      let are : AreLines (bodies (suc n) state) (sentence_lines words (suc n) state) = record { some = bodies_some (suc n) state; whole = bodies_whole (suc n) state; joined = bodies_joined (suc n) state } in
      (cs, lines (bodies (suc n) state) (Ok cs) (small_is_utf8 (sentence_lines words (suc n) state) (sentences_are_small words some few (suc n) state)) are gives, many, all)
