-- Texts line by line.
use Rattle.std.proofs.Common.{◌≡◌, ◌≢◌, ℕ, ◌+◌, true, false, List, [], ◌∷◌, ◌++◌, ◌⊎◌, inl, inr, map, min, Option, Some, None, MatchOption, Vec, Result, Ok, Err, refl, sym, ap, subst, ◌∙◌, arith, Bor}
use Rattle.std.specs.List.{AllByRecursion, join_with_byte}
use Rattle.std.specs.Str.{IsUtf8}
use Rattle.std.proofs.Math.Dec.{eqb}
use Rattle.std.proofs.lemmas.Bool.Decides.{eqb_tells}
use Rattle.std.proofs.lemmas.List.{map-append}
use Rattle.lg_lex.specs.Classes.{line_feed}
use Rattle.lg_lex.specs.Marked.{without_mark}
use Rattle.lg_script.specs.declared.command.Command.{Command}
use Rattle.lg_script.specs.declared.script_error.ScriptError.{ScriptError}
use Rattle.lg_script.specs.declared.script_error.ScriptError.TheVariants.{NoMemory, NotUtf8, UnknownCommand, BadNumber, BadEdit}
use Rattle.lg_script.specs.Lines.{AreLines, Says, IsPassedOver}
use Rattle.lg_script.specs.Commands.{CommandView, command_view, Fault, unknown_command, bad_number, bad_edit}
use Rattle.lg_script.specs.Scripts.{Outcome, LINES_COUNTED, with_command, LinesGive, ended, passed, command, fault, error_at, lines, TellsScript}
use Rattle.lg_script.specs.Telling.{GivesText, LineIs, TellsFault, TellsText, AddsLine}

-- with some commands in front
abbrev pub with_commands : List CommandView → Outcome → Outcome
with_commands [] x = x
with_commands (c ∷ cs) x = with_command c (with_commands cs x)

pub one_line : (line : List ℕ) → AllByRecursion (λ b. b ≢ line_feed) line → AreLines (line ∷ []) line
one_line line h = record { some = λ e. cc; whole = (h, tt); joined = refl }

joined_more : (line : List ℕ) (ls : List (List ℕ)) → ls ≢ [] → join_with_byte line_feed (line ∷ ls) ≡ line ++ line_feed ∷ join_with_byte line_feed ls
joined_more line [] some = absurd (some refl)
joined_more line (l ∷ ls) some = refl

pub more_lines : (line rest text : List ℕ) (ls : List (List ℕ)) → AllByRecursion (λ b. b ≢ line_feed) line → text ≡ line ++ line_feed ∷ rest → AreLines ls rest → AreLines (line ∷ ls) text
more_lines line rest text ls h split are = record {
  some = λ e. cc;
  whole = (h, are.whole);
  joined = split ∙ ap (λ (x : List ℕ). line ++ line_feed ∷ x) are.joined ∙ sym (joined_more line ls are.some);
}

-- ---- one line more

pub counted_more : (n : ℕ) (k : ℕ) → k ≡ min n LINES_COUNTED → min (k + 1) LINES_COUNTED ≡ min (n + 1) LINES_COUNTED
counted_more n k e = omega arith

with_commands-Ok : (cs : List CommandView) → with_commands cs (Ok []) ≡ Ok cs
with_commands-Ok [] = refl
with_commands-Ok (c ∷ cs) = ap (with_command c) (with_commands-Ok cs)

with_commands-Err : (cs : List CommandView) (e : ScriptError) → with_commands cs (Err e) ≡ Err e
with_commands-Err [] e = refl
with_commands-Err (c ∷ cs) e = ap (with_command c) (with_commands-Err cs e)

-- what is left of a text gives the rest of its answer
abbrev pub Leads : ℕ → List ℕ → List ℕ → List CommandView → Type 0
Leads n left text cs = (x : Outcome) → GivesText n left x → GivesText 1 text (with_commands cs x)

pub leads_start : (text : List ℕ) → Leads 1 text text []
leads_start text = λ x h. h

-- of the lines after a first one, what a line adds
abbrev pub Continues : ℕ → List ℕ → List CommandView → Type 0
Continues n line added = (ls : List (List ℕ)) (x : Outcome) → LinesGive (n + 1) ls x → LinesGive n (line ∷ ls) (with_commands added x)

pub adds_none : (n : ℕ) (line body : List ℕ) → Says line body → IsPassedOver body → Continues n line []
adds_none n line body says passes = λ ls x h. passed n line body ls x says passes h

pub adds_one : (n : ℕ) (line : List ℕ) (c : CommandView) → LineIs line (Ok c) → Continues n line (c ∷ [])
adds_one n line c is = λ ls x h. command n line is.body is.word is.rest ls c x is.says is.command is.is h

with_both : (cs added : List CommandView) (x : Outcome) → with_commands (cs ++ added) x ≡ with_commands cs (with_commands added x)
with_both [] added x = refl
with_both (c ∷ cs) added x = ap (with_command c) (with_both cs added x)

pub leads_on : (n : ℕ) (left text line rest : List ℕ) (cs added : List CommandView) → AllByRecursion (λ b. b ≢ line_feed) line → left ≡ line ++ line_feed ∷ rest → Continues n line added → Leads n left text cs → Leads (n + 1) rest text (cs ++ added)
leads_on n left text line rest cs added alone split adds leads = λ x h. subst (GivesText 1 text) (sym (with_both cs added x)) (leads (with_commands added x) (line ∷ h.0, more_lines line rest left h.0 alone split h.1, adds h.0 x h.2))

pub leads_end : (n : ℕ) (left text line : List ℕ) (cs added : List CommandView) → AllByRecursion (λ b. b ≢ line_feed) line → left ≡ line → Continues n line added → Leads n left text cs → GivesText 1 text (Ok (cs ++ added))
leads_end n left text line cs added alone same adds leads =
    subst (GivesText 1 text) (sym (with_both cs added (Ok [])) ∙ with_commands-Ok (cs ++ added))
    (leads (with_commands added (Ok [])) (line ∷ [], subst (AreLines (line ∷ [])) (sym same) (one_line line alone), adds [] (Ok []) (ended (n + 1))))

-- the command that is added
pub adds : {T : Type 0} (line : ℕ) (text : List ℕ) (old new : List Command) (x : T) (n : ℕ) → AddsLine line text old new (Ok x)
    → (added : List CommandView) × (map command_view new ≡ map command_view old ++ added) × Continues n text added
adds line text old new x n (None, grows, (body, says, passes)) = ([], ap (map command_view) grows ∙ map-append command_view old [], adds_none n text body says passes)
adds line text old new x n (Some c, grows, is) = (command_view c ∷ [], ap (map command_view) grows ∙ map-append command_view old (c ∷ []), adds_one n text (command_view c) is)

-- ---- a fault, and some lines behind it

first_longer : (b : ℕ) (l : List ℕ) (ls : List (List ℕ)) → b ∷ join_with_byte line_feed (l ∷ ls) ≡ join_with_byte line_feed ((b ∷ l) ∷ ls)
first_longer b l [] = refl
first_longer b l (m ∷ ls) = refl

byte_more : (b : ℕ) (bytes : List ℕ) (ls : List (List ℕ)) → ((eqb b line_feed ≡ true) × (b ≡ line_feed)) ⊎ ((eqb b line_feed ≡ false) × (b ≢ line_feed)) → AreLines ls bytes → (ms : List (List ℕ)) × AreLines ms (b ∷ bytes)
byte_more b bytes [] t are = absurd (are.some refl)
byte_more b bytes (l ∷ ls) (inl (t, e)) are = ([] ∷ l ∷ ls, more_lines [] bytes (b ∷ bytes) (l ∷ ls) tt (ap (λ (x : ℕ). x ∷ bytes) e) are)
byte_more b bytes (l ∷ ls) (inr (t, d)) are = (
  (b ∷ l) ∷ ls,
  record {
    some = λ e. cc;
    whole = ((d, are.whole.0), are.whole.1);
    joined = ap (λ (x : List ℕ). b ∷ x) are.joined ∙ first_longer b l ls;
  },
)

-- each text is some lines
pub lines_of : (bytes : List ℕ) → (ls : List (List ℕ)) × AreLines ls bytes
lines_of [] = ([] ∷ [], one_line [] tt)
lines_of (b ∷ bytes) = let more = lines_of bytes in byte_more b bytes more.0 (eqb_tells b line_feed) more.1

begun_by : (left line : List ℕ) (rest : Option (Bor (List ℕ))) → AllByRecursion (λ b. b ≢ line_feed) line → MatchOption rest (left ≡ line) (λ r. left ≡ line ++ line_feed ∷ r.now) → (ls : List (List ℕ)) × AreLines (line ∷ ls) left
begun_by left line None alone same = ([], subst (AreLines (line ∷ [])) (sym same) (one_line line alone))
begun_by left line (Some r) alone split = let more = lines_of r.now in (more.0, more_lines line r.now left more.0 alone split more.1)

faulty : (n number : ℕ) (left text line : List ℕ) (rest : Option (Bor (List ℕ))) (cs : List CommandView) (f : Fault) → AllByRecursion (λ b. b ≢ line_feed) line → MatchOption rest (left ≡ line) (λ r. left ≡ line ++ line_feed ∷ r.now)
    → number ≡ min n LINES_COUNTED → LineIs line (Err f) → Leads n left text cs → GivesText 1 text (Err (error_at number f))
faulty n number left text line rest cs f alone split counted is leads =
    let begun = begun_by left line rest alone split in
    subst (GivesText 1 text) (with_commands-Err cs (error_at number f))
    (leads (Err (error_at number f)) (
      line ∷ begun.0,
      begun.1,
      subst (λ (k : ℕ). LinesGive n (line ∷ begun.0) (Err (error_at k f))) (sym counted) (fault n line is.body is.word is.rest begun.0 f is.says is.command is.is),
    ))

pub leads_fault : (A : Type 0) (n number : ℕ) (left text line : List ℕ) (rest : Option (Bor (List ℕ))) (cs : List CommandView) (error : ScriptError) → AllByRecursion (λ b. b ≢ line_feed) line → MatchOption rest (left ≡ line) (λ r. left ≡ line ++ line_feed ∷ r.now)
    → number ≡ min n LINES_COUNTED → Leads n left text cs → TellsFault number (λ f. LineIs line (Err f)) error → TellsText {A = A} text (Err error)
leads_fault A n number left text line rest cs NoMemory alone split counted leads h = tt
leads_fault A n number left text line rest cs (NotUtf8 k) alone split counted leads h = absurd h
leads_fault A n number left text line rest cs (UnknownCommand k) alone split counted leads h =
    subst (λ (i : ℕ). GivesText 1 text (Err (UnknownCommand i))) (sym h.0) (faulty n number left text line rest cs unknown_command alone split counted h.1 leads)
leads_fault A n number left text line rest cs (BadNumber k) alone split counted leads h =
    subst (λ (i : ℕ). GivesText 1 text (Err (BadNumber i))) (sym h.0) (faulty n number left text line rest cs bad_number alone split counted h.1 leads)
leads_fault A n number left text line rest cs (BadEdit k) alone split counted leads h =
    subst (λ (i : ℕ). GivesText 1 text (Err (BadEdit i))) (sym h.0) (faulty n number left text line rest cs bad_edit alone split counted h.1 leads)

-- ---- what the reader tells of a whole text

pub told_script : {A : Type 0} (bytes text : List ℕ) (x : Result (Vec Command A) ScriptError) → IsUtf8 bytes → text ≡ without_mark bytes → TellsText text x → TellsScript bytes x
told_script bytes text (Ok cs) utf8 is (ls, are, gives) = lines ls (Ok (map command_view cs.items)) utf8 (subst (AreLines ls) is are) gives
told_script bytes text (Err NoMemory) utf8 is h = tt
told_script bytes text (Err (NotUtf8 k)) utf8 is h = absurd h
told_script bytes text (Err (UnknownCommand k)) utf8 is (ls, are, gives) = lines ls (Err (UnknownCommand k)) utf8 (subst (AreLines ls) is are) gives
told_script bytes text (Err (BadNumber k)) utf8 is (ls, are, gives) = lines ls (Err (BadNumber k)) utf8 (subst (AreLines ls) is are) gives
told_script bytes text (Err (BadEdit k)) utf8 is (ls, are, gives) = lines ls (Err (BadEdit k)) utf8 (subst (AreLines ls) is are) gives
