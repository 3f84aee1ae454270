-- What clap makes of words that are options.
use Rattle.std.proofs.Common.{◌≡◌, true, false, Bool, not, cond, ◌&&◌, ◌||◌, nat_eq, List, [], ◌∷◌, ◌++◌, map, codes, Option, None, Some, refl, sym, ap, subst, ◌∙◌, append-nil, append_assoc, bytes_eq}
use Rattle.std.specs.Prelude.{fold, find, is_some, slice_get, option_and_then}
use Rattle.std.specs.List.{AllByRecursion, list_all}
use Rattle.std.proofs.lemmas.Slice.Eq.{bytes_eq-Decides}
use Rattle.clap.specs.Words.{App, Rule, app_of, Text, Row, first_of, found_of, is_simple, matches_of, new_app, takes, with_rule, HasMatchesOf}
use Rattle.clap.specs.Lexer.{long_of, short_of}
use Rattle.clap.specs.Simple.{Shape, built, filled, entered, on_top, app_of_fields}
use Rattle.clap.specs.Takes.{turn_passes, walk_passes, settle_passes, react_passes, use_passes, entered_passes, default_passes, is_valid}
use Rattle.clap.specs.Walk.{Held, Walk, Waiting, idle, option, walked, walk_from, nothing_held, settled, reacted, finished, used, at_row, has_row, more_values, with_default, default_rows, reading_by, arg_by_long, arg_by_id}
use Rattle.clap.specs.declared.builder.command.Command.{Command}
use Rattle.clap.specs.declared.builder.command.Command.TheViews.{out-Command}
use Rattle.clap.specs.declared.builder.command.Command.TheOpen.{Command-F}
use Rattle.clap.specs.declared.parser.matches.ArgMatches.{ArgMatches}
use Rattle.clap.specs.declared.parser.matches.ValueSource.TheVariants.{CommandLine}
use Rattle.clap.proofs.OnLiterals.{clap_on_literals}
use Rattle.clap.proofs.WalkLemmas.{first_value-rows}
use Rattle.lg_run.specs.Words.{run_options, IsKnown, is_operand, value_of, AreOptions, none, apart, joined}
use Rattle.lg_run.specs.Matched.{option_rule, TellsSettings}
use Rattle.lg_run.specs.Settings.{name_of, value_kind, option_word}
use Rattle.lg_run.proofs.OptionWords.{all_settings, setting_by, value_is}
use Rattle.lg_run.specs.declared.options.Setting.{Setting}
use Rattle.lg_run.specs.declared.options.Setting.TheVariants.{Want, Examine, Nulls, Prune, Stats, Diagram, Workers, Idioms, Usage}

abbrev Settings : Type 0
Settings = List (Text × Text)

-- ---- the command

abbrev pub bare : App
bare = on_top (λ s. record s { no_binary_name = true; disable_help_flag = true }) (new_app (codes "options"))

abbrev pub app : App
app =
    let numbers = with_rule (with_rule bare (option_rule (codes "want"))) (option_rule (codes "examine")) in
    let switches = with_rule (with_rule (with_rule (with_rule numbers (option_rule (codes "nulls"))) (option_rule (codes "prune"))) (option_rule (codes "stats"))) (option_rule (codes "diagram")) in
    with_rule (with_rule (with_rule switches (option_rule (codes "workers"))) (option_rule (codes "idioms"))) (option_rule (codes "usage"))

-- a command that is called so, with these settings
pub bare_is : (a b c : Command) → app_of a ≡ new_app (codes "options") → out-Command b ≡ record (out-Command a) { no_binary_name = true } → out-Command c ≡ record (out-Command b) { disable_help_flag = true }
    → app_of c ≡ bare
bare_is a b c e f g = ap app_of_fields (g ∙ ap (λ (x : Command-F Command). record x { disable_help_flag = true }) f)
    ∙ ap (on_top (λ (s : Shape). record s { no_binary_name = true; disable_help_flag = true })) e

abbrev top : Shape
top = (built app).top

-- ---- a walk over words

-- between two options
abbrev at : Waiting → Held → Walk
at waiting h = record { held = h; waiting = waiting; position = 1; is_trailing = false; stopped = None }

record Goes (w : Walk) (words : List Text) (end : Walk) : Type 0 where
  pub passes : walk_passes top [] w words ≡ true
  pub goes : fold (walked top.rules []) w words ≡ end

stays : (w : Walk) → Goes w [] w
unfolding walk_passes
stays w = record { passes = refl; goes = refl }

steps : (w v end : Walk) (word : Text) (words : List Text) → turn_passes top [] w word ≡ true → walked top.rules [] w word ≡ v → Goes v words end → Goes w (word ∷ words) end
unfolding walk_passes
steps w v end word words p e g = record {
  passes = rw (p, e) g.passes;
  goes = ap (λ (x : Walk). fold (walked top.rules []) x words) e ∙ g.goes;
}

-- ---- the words of one option

-- the text is neither a flag nor `--`
abbrev IsValue : Text → Type 0
IsValue v = (bytes_eq v (45 ∷ 45 ∷ []) ≡ false) × (long_of v ≡ None) × (short_of v ≡ None)

-- the option as the built command has it
abbrev rule_by : Setting → Rule
rule_by s = filled (option_rule (name_of s))

-- the value of the option is awaited, and is there
abbrev awaits : Setting → Held → Held
awaits s h = record (settled top.rules h) { pending = Some (name_of s, []) }

abbrev holds : Setting → Text → Held → Held
holds s v h = record (settled top.rules h) { pending = Some (name_of s, v ∷ []) }

-- what clap finds of an option's word
record IsFound (s : Setting) : Type 0 where
  pub by_long : arg_by_long top.rules (name_of s) ≡ Some (rule_by s)
  pub by_id : arg_by_id top.rules (name_of s) ≡ Some (rule_by s)
  pub alone : long_of (option_word s) ≡ Some (name_of s, None)
  pub open_end : bytes_eq (option_word s) (45 ∷ 45 ∷ []) ≡ false
  pub with_value : (v : Text) → long_of (option_word s ++ 61 ∷ v) ≡ Some (name_of s, Some v)
  pub open_with : (v : Text) → bytes_eq (option_word s ++ 61 ∷ v) (45 ∷ 45 ∷ []) ≡ false

found : (s : Setting) → IsFound s
unfolding clap_on_literals
found Want = record { by_long = refl; by_id = refl; alone = refl; open_end = refl; with_value = λ v. refl; open_with = λ v. refl }
found Examine = record { by_long = refl; by_id = refl; alone = refl; open_end = refl; with_value = λ v. refl; open_with = λ v. refl }
found Nulls = record { by_long = refl; by_id = refl; alone = refl; open_end = refl; with_value = λ v. refl; open_with = λ v. refl }
found Prune = record { by_long = refl; by_id = refl; alone = refl; open_end = refl; with_value = λ v. refl; open_with = λ v. refl }
found Stats = record { by_long = refl; by_id = refl; alone = refl; open_end = refl; with_value = λ v. refl; open_with = λ v. refl }
found Diagram = record { by_long = refl; by_id = refl; alone = refl; open_end = refl; with_value = λ v. refl; open_with = λ v. refl }
found Workers = record { by_long = refl; by_id = refl; alone = refl; open_end = refl; with_value = λ v. refl; open_with = λ v. refl }
found Idioms = record { by_long = refl; by_id = refl; alone = refl; open_end = refl; with_value = λ v. refl; open_with = λ v. refl }
found Usage = record { by_long = refl; by_id = refl; alone = refl; open_end = refl; with_value = λ v. refl; open_with = λ v. refl }

name_passes : (s : Setting) (h : Held) → settle_passes top.rules false h ≡ true → turn_passes top [] (at idle h) (option_word s) ≡ true
unfolding clap_on_literals
name_passes s h p = let f = found s in rw (f.open_end, f.alone, f.by_long, p) refl

name_goes : (s : Setting) (h : Held) → walked top.rules [] (at idle h) (option_word s) ≡ at (option (name_of s)) (awaits s h)
unfolding clap_on_literals
name_goes s h = let f = found s in rw (f.open_end, f.alone, f.by_long) refl

value_passes : (s : Setting) (h : Held) (v : Text) → IsValue v → turn_passes top [] (at (option (name_of s)) h) v ≡ true
unfolding clap_on_literals
value_passes s h v is = rw (is.0, is.1, is.2) refl

same_name : (name : Text) → bytes_eq name name ≡ true
same_name name = (bytes_eq-Decides name name).1 refl

value_goes : (s : Setting) (h : Held) (v : Text) → IsValue v → walked top.rules [] (at (option (name_of s)) (awaits s h)) v ≡ at idle (holds s v h)
unfolding clap_on_literals
value_goes s h v is = let f = found s in rw (is.0, is.1, is.2, f.by_id, same_name (name_of s)) refl

joined_passes : (s : Setting) (h : Held) (v : Text) → react_passes top.rules false (rule_by s) (v ∷ []) h ≡ true → turn_passes top [] (at idle h) (option_word s ++ (codes "=" ++ v)) ≡ true
unfolding clap_on_literals
joined_passes s h v p = let f = found s in rw (f.open_with v, f.with_value v, f.by_long, p) refl

joined_goes : (s : Setting) (h : Held) (v : Text) → walked top.rules [] (at idle h) (option_word s ++ (codes "=" ++ v)) ≡ at idle (reacted top.rules (rule_by s) (v ∷ []) h)
unfolding clap_on_literals
joined_goes s h v = let f = found s in rw (f.open_with v, f.with_value v, f.by_long) refl

-- what is held of an option in two words
holds_rows : (s : Setting) (h : Held) (v : Text) → (settled top.rules (holds s v h)).rows ≡ used (rule_by s) (v ∷ []) (settled top.rules h).rows
unfolding clap_on_literals
holds_rows s h v = let f = found s in rw f.by_id refl

holds_passes : (s : Setting) (h : Held) (v : Text) → has_row (name_of s) (settled top.rules h).rows ≡ false → settle_passes top.rules false (holds s v h) ≡ true
unfolding clap_on_literals
holds_passes s h v new = let f = found s in rw (f.by_id, new) refl

use_passes_once : (s : Setting) (v : Text) (rows : List Row) → has_row (name_of s) rows ≡ false → use_passes false (rule_by s) (v ∷ []) rows ≡ true
use_passes_once s v rows new = rw new refl

-- ---- the rows

abbrev row : Text × Text → Row
row setting = record {
  id = setting.0;
  values = setting.1 ∷ [];
  count = None;
  source = Some CommandLine;
  reading = reading_by (filled (option_rule setting.0));
}

-- a row that is not there comes behind the others
added : (id : Text) (change : Row → List Row) (missing rows : List Row) → has_row id rows ≡ false → at_row id change missing rows ≡ rows ++ missing
added id change missing [] e = refl
added id change missing (r ∷ rows) e = by (bytes_eq r.id id) e (added id change missing rows) where
  by : (b : Bool) → b || has_row id rows ≡ false → (has_row id rows ≡ false → at_row id change missing rows ≡ rows ++ missing) → cond b (change r ++ rows) (r ∷ at_row id change missing rows) ≡ (r ∷ rows) ++ missing
  by true e more = cc
  by false e more = ap (λ (rs : List Row). r ∷ rs) (more e)

use_adds : (name v : Text) (rows : List Row) → has_row name rows ≡ false → used (filled (option_rule name)) (v ∷ []) rows ≡ rows ++ row (name, v) ∷ []
use_adds name v rows new =
    let same : at_row name (λ r. []) [] rows ≡ rows = added name (λ r. []) [] rows new ∙ append-nil rows in
    rw same (added name (more_values CommandLine (v ∷ [])) (row (name, v) ∷ []) rows new)

-- what is held after some options
record Follows (h : Held) (done : Settings) : Type 0 where
  pub rows : (settled top.rules h).rows ≡ map row done
  pub passes : settle_passes top.rules false h ≡ true

-- none of these names was given
abbrev AreNew : Settings → Settings → Type 0
AreNew done settings = AllByRecursion (λ (s : Text × Text). has_row s.0 (map row done) ≡ false) settings

-- names that differ from this one
differ : (name : Text) (settings : Settings) → value_of name settings ≡ None → AllByRecursion (λ (s : Text × Text). bytes_eq name s.0 ≡ false) settings
differ name [] e = tt
differ name (s ∷ settings) e = by (bytes_eq s.0 name) refl e (differ name settings) where
  swap : bytes_eq s.0 name ≡ false → bytes_eq name s.0 ≡ false
  swap e = other (bytes_eq name s.0) refl where
    other : (b : Bool) → bytes_eq name s.0 ≡ b → bytes_eq name s.0 ≡ false
    other false h = h
    other true h = let same = (bytes_eq-Decides name s.0).0 h in let there = (bytes_eq-Decides s.0 name).1 (sym same) in absurd cc

  by : (b : Bool) → bytes_eq s.0 name ≡ b → ◌≡◌ {A = Option Text} (cond b (Some s.1) (value_of name settings)) None → (value_of name settings ≡ None → AllByRecursion (λ (s : Text × Text). bytes_eq name s.0 ≡ false) settings)
      → (bytes_eq name s.0 ≡ false) × AllByRecursion (λ (s : Text × Text). bytes_eq name s.0 ≡ false) settings
  by true h e more = cc
  by false h e more = (swap h, more e)

has_row-append : (id : Text) (rows : List Row) (r : Row) → has_row id rows ≡ false → bytes_eq r.id id ≡ false → has_row id (rows ++ r ∷ []) ≡ false
has_row-append id [] r e f = rw f refl
has_row-append id (x ∷ rows) r e f = by (bytes_eq x.id id) e (λ e. has_row-append id rows r e f) where
  by : (b : Bool) → b || has_row id rows ≡ false → (has_row id rows ≡ false → has_row id (rows ++ r ∷ []) ≡ false) → b || has_row id (rows ++ r ∷ []) ≡ false
  by true e more = cc
  by false e more = more e

rows-more : (done : Settings) (s : Text × Text) → map row (done ++ s ∷ []) ≡ map row done ++ row s ∷ []
rows-more [] s = refl
rows-more (x ∷ done) s = ap (λ (rs : List Row). row x ∷ rs) (rows-more done s)

still_new : (done settings : Settings) (s : Text × Text) → AreNew done settings → AllByRecursion (λ (t : Text × Text). bytes_eq s.0 t.0 ≡ false) settings → AreNew (done ++ s ∷ []) settings
still_new done [] s new other = tt
still_new done (t ∷ settings) s new other = (rw (rows-more done s) (has_row-append t.0 (map row done) (row s) new.0 other.0), still_new done settings s new.1 other.1)

-- ---- options one after another

operand_value : (v : Text) → is_operand v ≡ true → IsValue v
operand_value [] h = (refl, refl, refl)
operand_value (b ∷ v) h = let e : nat_eq b 45 ≡ false = dash (nat_eq b 45) h in (rw e refl, rw e refl, rw e refl) where
  dash : (d : Bool) → not d ≡ true → d ≡ false
  dash true h = cc
  dash false h = refl

known_option : (name value : Text) → IsKnown run_options name value → (s : Setting) × (name ≡ name_of s) × IsValue value
known_option name value known = let s = setting_by all_settings name value known in (s.0, s.1, operand_value value (value_is (value_kind s.0) value s.3))

-- a walk over options ends so
record Reaches (h : Held) (words : List Text) (done : Settings) : Type 0 where
  pub end : Held
  pub goes : Goes (at idle h) words (at idle end)
  pub follows : Follows end done

one_more : (s : Setting) (v : Text) (done : Settings) (h after : Held) → Follows h done → has_row (name_of s) (map row done) ≡ false → (settled top.rules after).rows ≡ used (rule_by s) (v ∷ []) (settled top.rules h).rows
    → settle_passes top.rules false after ≡ true → Follows after (done ++ (name_of s, v) ∷ [])
one_more s v done h after f new same passes = record {
  rows = same ∙ ap (used (rule_by s) (v ∷ [])) f.rows ∙ use_adds (name_of s) v (map row done) new ∙ sym (rows-more done (name_of s, v));
  passes = passes;
}

apart_then : (s : Setting) (v : Text) (words : List Text) (done all : Settings) (h : Held) → IsValue v → Follows h done → has_row (name_of s) (map row done) ≡ false
    → ((after : Held) → Follows after (done ++ (name_of s, v) ∷ []) → Reaches after words all) → Reaches h (option_word s ∷ v ∷ words) all
apart_then s v words done all h is f new next =
    let new_here : has_row (name_of s) (settled top.rules h).rows ≡ false = rw f.rows new in
    let more = next (holds s v h) (one_more s v done h (holds s v h) f new (holds_rows s h v) (holds_passes s h v new_here)) in
    record {
      end = more.end;
      goes = steps _ _ _ (option_word s) (v ∷ words) (name_passes s h f.passes) (name_goes s h) (steps _ _ _ v words (value_passes s (awaits s h) v is) (value_goes s h v is) more.goes);
      follows = more.follows;
    }

joined_then : (s : Setting) (v : Text) (words : List Text) (done all : Settings) (h : Held) → Follows h done → has_row (name_of s) (map row done) ≡ false
    → ((after : Held) → Follows after (done ++ (name_of s, v) ∷ []) → Reaches after words all) → Reaches h ((option_word s ++ (codes "=" ++ v)) ∷ words) all
joined_then s v words done all h f new next =
    let new_here : has_row (name_of s) (settled top.rules h).rows ≡ false = rw f.rows new in
    let after = reacted top.rules (rule_by s) (v ∷ []) h in
    let more = next after (one_more s v done h after f new refl refl) in
    let passes : react_passes top.rules false (rule_by s) (v ∷ []) h ≡ true = rw (f.passes, use_passes_once s v (settled top.rules h).rows new_here) refl in
    record {
      end = more.end;
      goes = steps _ _ _ (option_word s ++ (codes "=" ++ v)) words (joined_passes s h v passes) (joined_goes s h v) more.goes;
      follows = more.follows;
    }

reaches : (words : List Text) (settings : Settings) → AreOptions run_options words settings → (done : Settings) (h : Held) → Follows h done → AreNew done settings → Reaches h words (done ++ settings)
reaches words settings none done h f new = record { end = h; goes = stays (at idle h); follows = subst (Follows h) (sym (append-nil done)) f }
reaches words settings (apart name value more others known single rest) done h f new =
    let k = known_option name value known in
    let left = still_new done others (name, value) new.1 (differ name others single) in
    subst (Reaches h ((codes "--" ++ name) ∷ value ∷ more)) (append_assoc done ((name, value) ∷ []) others)
    (subst (λ (n : Text). has_row n (map row done) ≡ false → ((after : Held) → Follows after (done ++ (n, value) ∷ []) → Reaches after more ((done ++ (name, value) ∷ []) ++ others)) → Reaches h ((codes "--" ++ n) ∷ value ∷ more) ((done ++ (name, value) ∷ []) ++ others)) (sym k.1)
    (λ fresh next. apart_then k.0 value more done _ h k.2 f fresh next)
    new.0 (λ after g. reaches more others rest (done ++ (name, value) ∷ []) after g left))
reaches words settings (joined name value more others known single rest) done h f new =
    let k = known_option name value known in
    let left = still_new done others (name, value) new.1 (differ name others single) in
    subst (Reaches h ((codes "--" ++ (name ++ (codes "=" ++ value))) ∷ more)) (append_assoc done ((name, value) ∷ []) others)
    (subst (λ (n : Text). has_row n (map row done) ≡ false → ((after : Held) → Follows after (done ++ (n, value) ∷ []) → Reaches after more ((done ++ (name, value) ∷ []) ++ others)) → Reaches h ((codes "--" ++ (n ++ (codes "=" ++ value))) ∷ more) ((done ++ (name, value) ∷ []) ++ others)) (sym k.1)
    (λ fresh next. joined_then k.0 value more done _ h f fresh next)
    new.0 (λ after g. reaches more others rest (done ++ (name, value) ∷ []) after g left))

all_new : (settings : Settings) → AreNew [] settings
all_new [] = tt
all_new (s ∷ settings) = (refl, all_new settings)

-- ---- what is read

-- options have no values of their own
no_default : (rows : List Row) (rules : List Rule) → AllByRecursion (λ (a : Rule). a.defaults ≡ []) rules → fold with_default rows rules ≡ rows
no_default rows [] all = refl
no_default rows (a ∷ rules) all = ap (λ (rs : List Row). fold with_default rs rules) (by (has_row a.id rows)) ∙ no_default rows rules all.1 where
  by : (b : Bool) → cond b rows (default_rows a.id (reading_by a) a.defaults rows) ≡ rows
  by true = refl
  by false = rw all.0 refl

first_row : (name : Text) (settings : Settings) → first_of name (map row settings) ≡ value_of name settings
first_row name [] = refl
first_row name (s ∷ settings) = by (bytes_eq s.0 name) (first_row name settings) where
  by : (b : Bool) → first_of name (map row settings) ≡ value_of name settings → option_and_then (λ (r : Row). slice_get r.values 0) (cond b (Some (row s)) (find (λ (r : Row). bytes_eq r.id name) (map row settings))) ≡ cond b (Some s.1) (value_of name settings)
  by true more = refl
  by false more = more

-- a walk over all the words
abbrev after : Walk → Bool → Bool
after w passes = is_simple app && (entered_passes (built app) w.stopped && (passes && (settle_passes top.rules top.args_override_self w.held && (list_all default_passes top.rules && is_valid top (finished top.rules w.held) (is_some (entered (built app) w.stopped))))))

opened : (words : List Text) → takes app words ≡ after (fold (walked top.rules []) (walk_from nothing_held) words) (walk_passes top [] (walk_from nothing_held) words)
opened words = refl

ends_well : (h : Held) → settle_passes top.rules false h ≡ true → after (at idle h) true ≡ true
ends_well h passes = rw passes refl

-- clap takes the words, and each name has its value
pub record Reads (words : List Text) (settings : Settings) : Type 0 where
  pub taken : takes app words ≡ true
  pub told : (name : Text) → first_of name (matches_of app words) ≡ value_of name settings

pub reads : (words : List Text) (settings : Settings) → AreOptions run_options words settings → Reads words settings
reads words settings are =
    let r = reaches words settings are [] nothing_held (record { rows = refl; passes = refl }) (all_new settings) in
    record {
      taken = opened words ∙ ap (λ (x : Walk). after x (walk_passes top [] (walk_from nothing_held) words)) r.goes.goes ∙ ap (after (at idle r.end)) r.goes.passes ∙ ends_well r.end r.follows.passes;
      told = λ name. ap (λ (x : Walk). first_of name (finished top.rules x.held)) r.goes.goes
          ∙ ap (first_of name) (no_default (settled top.rules r.end).rows top.rules (refl, (refl, (refl, (refl, (refl, (refl, (refl, (refl, (refl, tt))))))))) ∙ r.follows.rows) ∙ first_row name settings;
    }

-- the matches tell the options
pub matches_tell : (a : App) (words : List Text) (settings : Settings) (matches : ArgMatches) → a ≡ app → AreOptions run_options words settings → HasMatchesOf a words matches → TellsSettings matches settings
matches_tell a words settings matches same are h =
    let r = reads words settings are in
    let rows = (subst (λ (x : App). HasMatchesOf x words matches) same h refl).0 in
    λ name. first_value-rows (found_of matches) name ∙ ap (first_of name) rows ∙ r.told name
