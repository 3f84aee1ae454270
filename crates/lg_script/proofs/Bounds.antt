-- The commands of a script keep their bounds: each part of a line is UTF-8, since blanks and line feeds are ASCII, and no longer than the script.
use Rattle.std.proofs.Common.{◌≡◌, ℕ, suc, ◌+◌, ◌≤◌, ◌<◌, true, false, cond, Bool, List, [], ◌∷◌, ◌++◌, length, drop, nat_eq, All, Ok, Err, subst, arith, length-append, length-drop}
use Rattle.std.specs.List.{AllByRecursion, join_with_byte, starts_with}
use Rattle.std.specs.Str.{IsUtf8}
use Rattle.std.proofs.lemmas.Bool.Decides.{nat_tests}
use Rattle.std.proofs.lemmas.List.{append-nil}
use Rattle.std.proofs.lemmas.List.Elements.{All-nil, All-cons}
use Rattle.std.proofs.lemmas.Str.{IsUtf8-nil}
use Rattle.lg_lex.specs.declared.run.Separators.TheVariants.{Blanks}
use Rattle.lg_lex.specs.Classes.{line_feed}
use Rattle.lg_lex.specs.Marked.{byte_order_mark, without_mark}
use Rattle.lg_lex.specs.Runs.{is_separator, AreSeparators, EndsRun}
use Rattle.lg_dictread.specs.EntryTexts.{EntryTextIs}
use Rattle.lg_dictread.specs.Limits.{FILE}
use Rattle.lg_gram.specs.EntryBounds.{IsEntryInBounds}
use Rattle.lg_gram.specs.EntryViews.{EntryView}
use Rattle.lg_script.specs.Bounds.{IsSentence, IsInBounds, AreInBounds}
use Rattle.lg_script.specs.Commands.{CommandView, IsListing, CommandIs, parse, list, more, version, set, macro, del}
use Rattle.lg_script.specs.Lines.{Says, returned, plain, carriage_return, IsCommand}
use Rattle.lg_script.specs.Scripts.{Outcome, with_command, LinesGive, ended, passed, command, fault, ScriptIs, lines}
use Rattle.lg_script.proofs.Listings.{gap_ends}

-- what the law of parts of a text says: it is UTF-8 after a byte order mark, and on each side of a byte of ASCII
module _ (after_mark : (text : List ℕ) → IsUtf8 text → IsUtf8 (without_mark text))
    (before_ascii : (a : List ℕ) (b : ℕ) (rest : List ℕ) → b < 128 → IsUtf8 (a ++ b ∷ rest) → IsUtf8 a × IsUtf8 (b ∷ rest))
    (after_ascii : (b : ℕ) (rest : List ℕ) → b < 128 → IsUtf8 (b ∷ rest) → IsUtf8 rest) where
  -- ---- parts of a text

  -- UTF-8, of at most as many bytes as a file
  record IsPart (text : List ℕ) : Type 0 where
    utf8 : IsUtf8 text
    short : length text ≤ FILE

  part_left : (a rest : List ℕ) → IsUtf8 a → IsPart (a ++ rest) → IsPart a
  part_left a rest is part = record { utf8 = is; short = omega (arith, length-append a rest, part.short) }

  part_right : (a rest : List ℕ) → IsUtf8 rest → IsPart (a ++ rest) → IsPart rest
  part_right a rest is part = record { utf8 = is; short = omega (arith, length-append a rest, part.short) }

  before : (a : List ℕ) (b : ℕ) (rest : List ℕ) → b < 128 → IsPart (a ++ b ∷ rest) → IsPart a
  before a b rest low part = part_left a (b ∷ rest) (before_ascii a b rest low part.utf8).0 part

  after : (a : List ℕ) (b : ℕ) (rest : List ℕ) → b < 128 → IsPart (a ++ b ∷ rest) → IsPart rest
  after a b rest low part =
      let behind = part_right a (b ∷ rest) (before_ascii a b rest low part.utf8).1 part in
      part_right (b ∷ []) rest (after_ascii b rest low behind.utf8) behind

  is_low : (b : ℕ) → is_separator Blanks b ≡ true → b < 128
  is_low b is = grind (arith, nat_tests)

  after_blanks : (front rest : List ℕ) → AreSeparators Blanks front → IsPart (front ++ rest) → IsPart rest
  after_blanks [] rest are part = part
  after_blanks (b ∷ front) rest are part = after_blanks front rest are.1 (after [] b (front ++ rest) (is_low b are.0) part)

  before_blank : (run rest : List ℕ) → EndsRun Blanks rest → IsPart (run ++ rest) → IsPart run
  before_blank run [] ends part = subst IsPart (append-nil run) part
  before_blank run (b ∷ rest) ends part = before run b rest (is_low b ends) part

  from_blank : (run rest : List ℕ) → EndsRun Blanks rest → IsPart (run ++ rest) → IsPart rest
  from_blank run [] ends part = part_right run [] IsUtf8-nil part
  from_blank run (b ∷ rest) ends part = part_right run (b ∷ rest) (before_ascii run b rest (is_low b ends) part.utf8).1 part

  blanks_end : (back : List ℕ) → AreSeparators Blanks back → EndsRun Blanks back
  blanks_end [] are = tt
  blanks_end (b ∷ back) are = are.0

  -- ---- lines

  lines_parts : (ls : List (List ℕ)) → IsPart (join_with_byte line_feed ls) → AllByRecursion IsPart ls
  lines_parts [] part = tt
  lines_parts (l ∷ []) part = (part, tt)
  lines_parts (l ∷ m ∷ ls) part =
      let rest = join_with_byte line_feed (m ∷ ls) in
      (before l line_feed rest (omega arith) part, lines_parts (m ∷ ls) (after l line_feed rest (omega arith) part))

  few_lines : (ls : List (List ℕ)) → length ls ≤ length (join_with_byte line_feed ls) + 1
  few_lines [] = omega arith
  few_lines (l ∷ []) = omega arith
  few_lines (l ∷ m ∷ ls) = omega (arith, few_lines (m ∷ ls), length-append l (line_feed ∷ join_with_byte line_feed (m ∷ ls)))

  body_part : (line body : List ℕ) → Says line body → IsPart line → IsPart body
  body_part line body (returned b split) part = before body carriage_return [] (omega arith) (subst IsPart split part)
  body_part line body (plain none) part = part

  rest_part : (body word rest : List ℕ) → IsCommand body word rest → IsPart body → IsPart rest
  rest_part body word rest is part =
      let t = is.trims in
      let run = after_blanks is.front (word ++ is.tail) is.blanks (subst IsPart is.split part) in
      let tail = from_blank word is.tail is.ends run in
      let inner = after_blanks t.front (rest ++ t.back) t.blanks.0 (subst IsPart t.split tail) in
      before_blank rest t.back (blanks_end t.back t.blanks.1) inner

  -- ---- commands

  sentence_of : (text : List ℕ) → IsPart text → IsSentence text
  sentence_of text part = record { utf8 = part.utf8; short = omega (arith, part.short) }

  listing_part : (rest : List ℕ) (from want : ℕ) (sentence : List ℕ) → IsListing rest from want sentence → IsPart rest → IsPart sentence
  listing_part rest from want sentence is part =
      let end = is.more ++ sentence in
      let gap = from_blank is.first (is.gap ++ (is.second ++ end)) (gap_ends is.gap (is.second ++ end) is.apart.0 is.apart.1) (subst IsPart is.split part) in
      let second = after_blanks is.gap (is.second ++ end) is.apart.1 gap in
      after_blanks is.more sentence is.apart.2 (from_blank is.second end is.ends second)

  -- so many commands at most, each within its bounds
  abbrev Fit : ℕ → Outcome → Type 0
  Fit n (Ok commands) = (length commands ≤ n) × All IsInBounds commands
  Fit n (Err error) = Unit {0}

  fit_more : (n : ℕ) (c : CommandView) (x : Outcome) → IsInBounds c → Fit n x → Fit (suc n) (with_command c x)
  fit_more n c (Ok cs) is fits = (omega (arith, fits.0), All-cons IsInBounds c cs is fits.1)
  fit_more n c (Err error) is fits = tt

  fit_longer : (n : ℕ) (x : Outcome) → Fit n x → Fit (suc n) x
  fit_longer n (Ok cs) fits = (omega (arith, fits.0), fits.1)
  fit_longer n (Err error) fits = tt

  marked_part : (bytes : List ℕ) → IsPart bytes → IsPart (without_mark bytes)
  marked_part bytes part = record { utf8 = after_mark bytes part.utf8; short = shorter (starts_with nat_eq bytes byte_order_mark) } where
    shorter : (marked : Bool) → length (cond marked (drop (length byte_order_mark) bytes) bytes) ≤ FILE
    shorter true = omega (arith, length-drop (length byte_order_mark) bytes, part.short)
    shorter false = part.short

  module _ (entries : (bytes : List ℕ) (e : EntryView) → length bytes ≤ FILE → EntryTextIs bytes (Ok e) → IsEntryInBounds e) where
    command_fits : (word rest : List ℕ) (c : CommandView) → CommandIs word rest (Ok c) → IsPart rest → IsInBounds c
    command_fits word rest c (parse r) part = sentence_of r part
    command_fits word rest c (list r from want sentence is) part = ((is.first_is.least, is.first_is.most), (is.second_is.least, is.second_is.most), sentence_of sentence (listing_part r from want sentence is part))
    command_fits word rest c more part = tt
    command_fits word rest c version part = tt
    command_fits word rest c (set r e is words) part = (words, entries r e part.short is)
    command_fits word rest c (macro r e is one) part = (one, entries r e part.short is)
    command_fits word rest c (del r some inner) part = (tt, tt)

    lines_fit : (n : ℕ) (ls : List (List ℕ)) (x : Outcome) → LinesGive n ls x → AllByRecursion IsPart ls → Fit (length ls) x
    lines_fit n ls x (ended m) parts = (omega arith, All-nil IsInBounds)
    lines_fit n ls x (passed m line body more_lines y says is gives) parts = fit_longer (length more_lines) y (lines_fit (m + 1) more_lines y gives parts.1)
    lines_fit n ls x (command m line body word rest more_lines c y says is means gives) parts =
        fit_more (length more_lines) c y (command_fits word rest c means (rest_part body word rest is (body_part line body says parts.0))) (lines_fit (m + 1) more_lines y gives parts.1)
    lines_fit n ls x (fault m line body word rest more_lines f says is means) parts = tt

    pub keeps_bounds : (bytes : List ℕ) (commands : List CommandView) → length bytes ≤ FILE → ScriptIs bytes (Ok commands) → AreInBounds commands
    keeps_bounds bytes commands small (lines ls x utf8 are gives) =
        let whole = marked_part bytes (record { utf8 = utf8; short = small }) in
        let text = subst IsPart are.joined whole in
        let fits = lines_fit 1 ls (Ok commands) gives (lines_parts ls text) in
        record { few = omega (arith, fits.0, few_lines ls, text.short); each = fits.1 }
