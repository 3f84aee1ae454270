-- The task that words are.
use Rattle.std.proofs.Common.{◌≡◌, ℕ, Bool, true, false, cond, ◌≤◌, ◌==◌, List, [], ◌∷◌, ◌++◌, length, map, All, get_or, codes, bytes_eq, IsTrue, Option, None, Some, IfSome, refl, sym, ap, subst, ◌∙◌, arith}
use Rattle.std.specs.List.{list_all}
use Rattle.std.proofs.lemmas.Bool.Decides.{nat_tests}
use Rattle.std.proofs.lemmas.Slice.Eq.{bytes_eq-Decides}
use Rattle.std.proofs.lemmas.List.Folds.{list_all-map}
use Rattle.std.proofs.lemmas.List.Sums.{AllPass-from_list_all, list_all-from_AllPass}
use Rattle.lg_answer.specs.Pages.{default_options}
use Rattle.lg_answer.specs.declared.options.Nulls.{Nulls as Unlinked}
use Rattle.lg_answer.specs.declared.options.Nulls.TheVariants.{First, Passing}
use Rattle.lg_forest.specs.Forests.{AreWorkers}
use Rattle.lg_run.specs.declared.setup.Setup.{Setup}
use Rattle.lg_script.specs.Bounds.{IsCount}
use Rattle.lg_script.specs.Commands.{IsNumber, written_number}
use Rattle.lg_run.specs.Words.{Task, One, Run, Gen, Export, Audit, HasForm, one_options, run_options, IsKnown, WritesNulls, first, passing, WritesSwitch, on, off, WritesWorkers, value_of, AreOptions, none, apart, joined, GivesNumber, GivesNulls, GivesSwitch, GivesWorkers, Gives, default_look, OptionsAre, is_operand, SENTENCE, SCRIPTS, WritesNumber, IsSeed, IsMadeCount, IsEditCount, TaskIs, one, run, gen, export, audit, AreInRange}
use Rattle.lg_run.specs.Settings.{name_of, value_kind, named, operand, IsCut}
use Rattle.lg_run.specs.declared.options.Kind.{Kind}
use Rattle.lg_run.specs.declared.options.Setting.{Setting}
use Rattle.lg_run.specs.declared.options.Setting.TheVariants.{Want, Examine, Nulls, Prune, Stats, Diagram, Workers, Idioms, Usage}
use Rattle.lg_run.specs.Commands.{option_words, task, IsCommand}
use Rattle.lg_run.specs.declared.command.Command.{Command}
use Rattle.lg_run.proofs.OptionWords.{Settings, one_settings, all_settings, more_known, setting_by, same_setting, same_cut}

-- ---- what options give

-- the value that is given to an option is in its form
form_first : (known : List Setting) (s : Setting) (b : Bool) (name value : List ℕ) (o : Option (List ℕ)) → bytes_eq name (name_of s) ≡ b → IsKnown (named known) name value → IfSome o (HasForm (value_kind s)) → IfSome (cond b (Some value) o) (HasForm (value_kind s))
form_first known s true name value o e is more =
    let f = setting_by known name value is in
    let same : name_of f.0 ≡ name_of s = sym f.1 ∙ (bytes_eq-Decides name (name_of s)).0 e in
    subst (λ (t : Setting). HasForm (value_kind t) value) (same_setting f.0 s (ap (λ (n : List ℕ). codes "--" ++ n) same)) f.3
form_first known s false name value o e is more = more

form_given : (known : List Setting) (s : Setting) (words : List (List ℕ)) (settings : Settings) → AreOptions (named known) words settings → IfSome (value_of (name_of s) settings) (HasForm (value_kind s))
form_given known s words settings none = tt
form_given known s words settings (apart other value more others is new read) = form_first known s (bytes_eq other (name_of s)) other value (value_of (name_of s) others) refl is (form_given known s more others read)
form_given known s words settings (joined other value more others is new read) = form_first known s (bytes_eq other (name_of s)) other value (value_of (name_of s) others) refl is (form_given known s more others read)

-- a number from 1 to 1,000,000
number_given : (o : Option (List ℕ)) (usual : ℕ) → IsCount usual → IfSome o (λ value. (n : ℕ) × IsNumber value n) → (n : ℕ) × GivesNumber o usual n × IsCount n
number_given None usual u h = (usual, refl, u)
number_given (Some value) usual u h = (h.0, h.1, (h.1.least, h.1.most))

nulls_given : (o : Option (List ℕ)) (usual : Unlinked) → IfSome o (λ value. (n : Unlinked) × WritesNulls value n) → (n : Unlinked) × GivesNulls o usual n
nulls_given None usual h = (usual, refl)
nulls_given (Some value) usual h = (h.0, h.1)

switch_given : (o : Option (List ℕ)) (usual : Bool) → IfSome o (λ value. (b : Bool) × WritesSwitch value b) → (b : Bool) × GivesSwitch o usual b
switch_given None usual h = (usual, refl)
switch_given (Some value) usual h = (h.0, h.1)

-- a number from 1 to 16
workers_given : (o : Option (List ℕ)) (usual : ℕ) → AreWorkers usual → IfSome o (λ value. (n : ℕ) × WritesWorkers value n) → (n : ℕ) × GivesWorkers o usual n × AreWorkers n
workers_given None usual u h = (usual, refl, u)
workers_given (Some value) usual u h = (h.0, h.1, h.1.few)

gives_some : (known : List Setting) (words : List (List ℕ)) (settings : Settings) → AreOptions (named known) words settings → (setup : Setup) × Gives settings setup × AreInRange setup
gives_some known words settings read =
    let w = number_given (value_of (codes "want") settings) default_options.want (omega arith, omega arith) (form_given known Want words settings read) in
    let x = number_given (value_of (codes "examine") settings) default_options.examine (omega arith, omega arith) (form_given known Examine words settings read) in
    let v = nulls_given (value_of (codes "nulls") settings) default_options.nulls (form_given known Nulls words settings read) in
    let p = switch_given (value_of (codes "prune") settings) default_options.prune (form_given known Prune words settings read) in
    let s = switch_given (value_of (codes "stats") settings) default_look.stats (form_given known Stats words settings read) in
    let d = switch_given (value_of (codes "diagram") settings) default_look.diagram (form_given known Diagram words settings read) in
    let j = switch_given (value_of (codes "idioms") settings) default_options.idioms (form_given known Idioms words settings read) in
    let u = switch_given (value_of (codes "usage") settings) false (form_given known Usage words settings read) in
    let k = workers_given (value_of (codes "workers") settings) default_options.workers (omega arith, omega arith) (form_given known Workers words settings read) in (
      record { listing = record { want = w.0; examine = x.0; nulls = v.0; prune = p.0; count = s.0; workers = k.0; idioms = j.0 }; look = record { diagram = d.0; stats = s.0 }; usage = u.0 },
      record { want = w.1; examine = x.1; nulls = v.1; prune = p.1; stats = s.1; diagram = d.1; workers = k.1; idioms = j.1; usage = u.1; count = refl },
      record { want = w.2; examine = x.2; workers = k.2 },
    )

one_number : (o : Option (List ℕ)) (usual n m : ℕ) → GivesNumber o usual n → GivesNumber o usual m → n ≡ m
one_number None usual n m h k = h ∙ sym k
one_number (Some value) usual n m h k = h.value ∙ sym k.value

-- what a word says of unlinked words
abbrev said : List ℕ → Unlinked
said value = cond (bytes_eq value (codes "first")) First Passing

said_is : (value : List ℕ) (n : Unlinked) → WritesNulls value n → n ≡ said value
said_is value n first = refl
said_is value n passing = refl

pub one_nulls : (o : Option (List ℕ)) (usual n m : Unlinked) → GivesNulls o usual n → GivesNulls o usual m → n ≡ m
one_nulls None usual n m h k = h ∙ sym k
one_nulls (Some value) usual n m h k = said_is value n h ∙ sym (said_is value m k)

-- whether a word says that something is done
abbrev switched : List ℕ → Bool
switched value = bytes_eq value (codes "on")

switched_is : (value : List ℕ) (b : Bool) → WritesSwitch value b → b ≡ switched value
switched_is value b on = refl
switched_is value b off = refl

pub one_switch : (o : Option (List ℕ)) (usual b c : Bool) → GivesSwitch o usual b → GivesSwitch o usual c → b ≡ c
one_switch None usual b c h k = h ∙ sym k
one_switch (Some value) usual b c h k = switched_is value b h ∙ sym (switched_is value c k)

pub one_workers : (o : Option (List ℕ)) (usual n m : ℕ) → GivesWorkers o usual n → GivesWorkers o usual m → n ≡ m
one_workers None usual n m h k = h ∙ sym k
one_workers (Some value) usual n m h k = h.number.value ∙ sym k.number.value

-- setups with the same values
pub same_values : (x y : Setup) → x.listing.want ≡ y.listing.want → x.listing.examine ≡ y.listing.examine → x.listing.nulls ≡ y.listing.nulls → x.listing.prune ≡ y.listing.prune
    → x.listing.count ≡ y.listing.count → x.listing.workers ≡ y.listing.workers → x.listing.idioms ≡ y.listing.idioms → x.look.diagram ≡ y.look.diagram → x.look.stats ≡ y.look.stats → x.usage ≡ y.usage → x ≡ y
same_values x y w e n p c k j d s u = λ i. record {
  listing = record { want = w i; examine = e i; nulls = n i; prune = p i; count = c i; workers = k i; idioms = j i };
  look = record { diagram = d i; stats = s i };
  usage = u i;
}

pub same_gives : (settings : Settings) (x y : Setup) → Gives settings x → Gives settings y → x ≡ y
same_gives settings x y h k =
    let stats = one_switch _ _ x.look.stats y.look.stats h.stats k.stats in
    same_values x y (one_number _ _ x.listing.want y.listing.want h.want k.want) (one_number _ _ x.listing.examine y.listing.examine h.examine k.examine)
    (one_nulls _ _ x.listing.nulls y.listing.nulls h.nulls k.nulls) (one_switch _ _ x.listing.prune y.listing.prune h.prune k.prune)
    (h.count ∙ stats ∙ sym k.count) (one_workers _ _ x.listing.workers y.listing.workers h.workers k.workers)
    (one_switch _ _ x.listing.idioms y.listing.idioms h.idioms k.idioms)
    (one_switch _ _ x.look.diagram y.look.diagram h.diagram k.diagram) stats (one_switch _ _ x.usage y.usage h.usage k.usage)

-- ---- the task

-- each word is an operand
abbrev pub AreOperands : List (List ℕ) → Type 0
AreOperands words = All (λ word. IsTrue (is_operand word)) words

-- what holds of a task of the word `one`, by the words behind it
pub record IsOneOf (words : List (List ℕ)) (task : Task) : Type 0 where
  pub front : List (List ℕ)
  pub setup : Setup
  pub dictionary : List ℕ
  pub sentence : List ℕ
  pub same : task ≡ One setup dictionary sentence
  pub split : words ≡ front ++ dictionary ∷ sentence ∷ []
  pub are : OptionsAre one_options front setup
  pub dictionary_is : IsTrue (is_operand dictionary)
  pub sentence_is : IsTrue (is_operand sentence)
  pub short : length sentence ≤ SENTENCE

-- and of the word `run`
pub record IsRunOf (words : List (List ℕ)) (task : Task) : Type 0 where
  pub front : List (List ℕ)
  pub setup : Setup
  pub dictionary : List ℕ
  pub knowledge : List ℕ
  pub scripts : List (List ℕ)
  pub same : task ≡ Run setup dictionary knowledge scripts
  pub split : words ≡ front ++ dictionary ∷ knowledge ∷ scripts
  pub are : OptionsAre run_options front setup
  pub operands : AreOperands (dictionary ∷ knowledge ∷ scripts)
  pub some : 1 ≤ length scripts
  pub few : length scripts ≤ SCRIPTS

-- and of the word `gen`
pub record IsGenOf (words : List (List ℕ)) (task : Task) : Type 0 where
  pub seed_word : List ℕ
  pub made_word : List ℕ
  pub count_word : List ℕ
  pub seed : ℕ
  pub made : ℕ
  pub sentences : ℕ
  pub same : task ≡ Gen seed made sentences
  pub split : words ≡ seed_word ∷ made_word ∷ count_word ∷ []
  pub is_seed : IsSeed seed_word seed
  pub is_made : IsMadeCount made_word made
  pub are_sentences : IsMadeCount count_word sentences

-- and of the word `export`
pub record IsExportOf (words : List (List ℕ)) (task : Task) : Type 0 where
  pub dictionary : List ℕ
  pub script : List ℕ
  pub digits : List ℕ
  pub number : ℕ
  pub same : task ≡ Export dictionary script number
  pub split : words ≡ dictionary ∷ script ∷ digits ∷ []
  pub dictionary_is : IsTrue (is_operand dictionary)
  pub script_is : IsTrue (is_operand script)
  pub is_count : IsEditCount digits number

-- and of the word `audit`
pub record IsAuditOf (words : List (List ℕ)) (task : Task) : Type 0 where
  pub dictionary : List ℕ
  pub knowledge : List ℕ
  pub document : List ℕ
  pub scripts : List (List ℕ)
  pub same : task ≡ Audit dictionary knowledge document scripts
  pub split : words ≡ dictionary ∷ knowledge ∷ document ∷ scripts
  pub operands : AreOperands words
  pub some : 1 ≤ length scripts
  pub few : length scripts ≤ SCRIPTS

one_is_not_run : codes "one" ≡ codes "run" → ⊥
one_is_not_run e = let same : ◌≡◌ {A = ℕ} 111 114 = ap (λ (w : List ℕ). get_or w 0 0) e in absurd (omega arith)

one_is_not_gen : codes "one" ≡ codes "gen" → ⊥
one_is_not_gen e = let same : ◌≡◌ {A = ℕ} 111 103 = ap (λ (w : List ℕ). get_or w 0 0) e in absurd (omega arith)

run_is_not_gen : codes "run" ≡ codes "gen" → ⊥
run_is_not_gen e = let same : ◌≡◌ {A = ℕ} 114 103 = ap (λ (w : List ℕ). get_or w 0 0) e in absurd (omega arith)

one_is_not_export : codes "one" ≡ codes "export" → ⊥
one_is_not_export e = let same : ◌≡◌ {A = ℕ} 111 101 = ap (λ (w : List ℕ). get_or w 0 0) e in absurd (omega arith)

run_is_not_export : codes "run" ≡ codes "export" → ⊥
run_is_not_export e = let same : ◌≡◌ {A = ℕ} 114 101 = ap (λ (w : List ℕ). get_or w 0 0) e in absurd (omega arith)

gen_is_not_export : codes "gen" ≡ codes "export" → ⊥
gen_is_not_export e = let same : ◌≡◌ {A = ℕ} 103 101 = ap (λ (w : List ℕ). get_or w 0 0) e in absurd (omega arith)

one_is_not_audit : codes "one" ≡ codes "audit" → ⊥
one_is_not_audit e = let same : ◌≡◌ {A = ℕ} 111 97 = ap (λ (w : List ℕ). get_or w 0 0) e in absurd (omega arith)

run_is_not_audit : codes "run" ≡ codes "audit" → ⊥
run_is_not_audit e = let same : ◌≡◌ {A = ℕ} 114 97 = ap (λ (w : List ℕ). get_or w 0 0) e in absurd (omega arith)

gen_is_not_audit : codes "gen" ≡ codes "audit" → ⊥
gen_is_not_audit e = let same : ◌≡◌ {A = ℕ} 103 97 = ap (λ (w : List ℕ). get_or w 0 0) e in absurd (omega arith)

export_is_not_audit : codes "export" ≡ codes "audit" → ⊥
export_is_not_audit e = let same : ◌≡◌ {A = ℕ} 101 97 = ap (λ (w : List ℕ). get_or w 0 0) e in absurd (omega arith)

is_one : (words : List (List ℕ)) (task : Task) → TaskIs words task → (rest : List (List ℕ)) → words ≡ codes "one" ∷ rest → IsOneOf rest task
is_one words task (one front setup dictionary sentence are d s short) rest e = record {
  front = front;
  setup = setup;
  dictionary = dictionary;
  sentence = sentence;
  same = refl;
  split = cc;
  are = are;
  dictionary_is = d;
  sentence_is = s;
  short = short;
}
is_one words task (run front setup dictionary knowledge scripts are operands some few) rest e = absurd (one_is_not_run cc)
is_one words task (gen a b c seed n m is_seed is_n is_m) rest e = absurd (one_is_not_gen cc)
is_one words task (export dictionary script digits n d s is_n) rest e = absurd (one_is_not_export cc)
is_one words task (audit dictionary knowledge document scripts operands some few) rest e = absurd (one_is_not_audit cc)

is_run : (words : List (List ℕ)) (task : Task) → TaskIs words task → (rest : List (List ℕ)) → words ≡ codes "run" ∷ rest → IsRunOf rest task
is_run words task (run front setup dictionary knowledge scripts are operands some few) rest e = record {
  front = front;
  setup = setup;
  dictionary = dictionary;
  knowledge = knowledge;
  scripts = scripts;
  same = refl;
  split = cc;
  are = are;
  operands = operands;
  some = some;
  few = few;
}
is_run words task (one front setup dictionary sentence are d s short) rest e = absurd (one_is_not_run cc)
is_run words task (gen a b c seed n m is_seed is_n is_m) rest e = absurd (run_is_not_gen cc)
is_run words task (export dictionary script digits n d s is_n) rest e = absurd (run_is_not_export cc)
is_run words task (audit dictionary knowledge document scripts operands some few) rest e = absurd (run_is_not_audit cc)

is_gen : (words : List (List ℕ)) (task : Task) → TaskIs words task → (rest : List (List ℕ)) → words ≡ codes "gen" ∷ rest → IsGenOf rest task
is_gen words task (gen a b c seed n m is_seed is_n is_m) rest e = record {
  seed_word = a;
  made_word = b;
  count_word = c;
  seed = seed;
  made = n;
  sentences = m;
  same = refl;
  split = cc;
  is_seed = is_seed;
  is_made = is_n;
  are_sentences = is_m;
}
is_gen words task (one front setup dictionary sentence are d s short) rest e = absurd (one_is_not_gen cc)
is_gen words task (run front setup dictionary knowledge scripts are operands some few) rest e = absurd (run_is_not_gen cc)
is_gen words task (export dictionary script digits n d s is_n) rest e = absurd (gen_is_not_export cc)
is_gen words task (audit dictionary knowledge document scripts operands some few) rest e = absurd (gen_is_not_audit cc)

is_export : (words : List (List ℕ)) (task : Task) → TaskIs words task → (rest : List (List ℕ)) → words ≡ codes "export" ∷ rest → IsExportOf rest task
is_export words task (export dictionary script digits n d s is_n) rest e = record {
  dictionary = dictionary;
  script = script;
  digits = digits;
  number = n;
  same = refl;
  split = cc;
  dictionary_is = d;
  script_is = s;
  is_count = is_n;
}
is_export words task (one front setup dictionary sentence are d s short) rest e = absurd (one_is_not_export cc)
is_export words task (run front setup dictionary knowledge scripts are operands some few) rest e = absurd (run_is_not_export cc)
is_export words task (gen a b c seed n m is_seed is_n is_m) rest e = absurd (gen_is_not_export cc)
is_export words task (audit dictionary knowledge document scripts operands some few) rest e = absurd (export_is_not_audit cc)

is_audit : (words : List (List ℕ)) (task : Task) → TaskIs words task → (rest : List (List ℕ)) → words ≡ codes "audit" ∷ rest → IsAuditOf rest task
is_audit words task (audit dictionary knowledge document scripts operands some few) rest e =
    let split : dictionary ∷ knowledge ∷ document ∷ scripts ≡ rest = cc in
    record {
      dictionary = dictionary;
      knowledge = knowledge;
      document = document;
      scripts = scripts;
      same = refl;
      split = sym split;
      operands = subst AreOperands split operands;
      some = some;
      few = few;
    }
is_audit words task (one front setup dictionary sentence are d s short) rest e = absurd (one_is_not_audit cc)
is_audit words task (run front setup dictionary knowledge scripts are operands some few) rest e = absurd (run_is_not_audit cc)
is_audit words task (gen a b c seed n m is_seed is_n is_m) rest e = absurd (gen_is_not_audit cc)
is_audit words task (export dictionary script digits n d s is_n) rest e = absurd (export_is_not_audit cc)

first_operand : (word : List ℕ) (words : List (List ℕ)) → AreOperands (word ∷ words) → IsTrue (is_operand word)
first_operand word words operands = operands 0 [] (omega arith)

one_cut : (words : List (List ℕ)) (task : Task) → (is : IsOneOf words task) → IsCut one_options words is.front (is.dictionary ∷ is.sentence ∷ [])
one_cut words task is = record { settings = is.are.settings; split = is.split; read = is.are.read; ends = operand is.dictionary (is.sentence ∷ []) is.dictionary_is }

run_cut : (words : List (List ℕ)) (task : Task) → (is : IsRunOf words task) → IsCut run_options words is.front (is.dictionary ∷ is.knowledge ∷ is.scripts)
run_cut words task is = record { settings = is.are.settings; split = is.split; read = is.are.read; ends = operand is.dictionary (is.knowledge ∷ is.scripts) (first_operand is.dictionary (is.knowledge ∷ is.scripts) is.operands) }

cut_once : (known : List Setting) (words front other behind rest : List (List ℕ)) → (x : IsCut (named known) words front behind) → (y : IsCut (named known) words other rest) → (x.settings ≡ y.settings) × (behind ≡ rest)
cut_once known words front other behind rest x y = same_cut known front x.settings x.read behind x.ends other y.settings y.read rest y.ends (sym x.split ∙ y.split)

-- ---- words that are no task

pub not_both : (b : Bool) → false ≡ b → IsTrue b → ⊥
not_both b e h = let clash : false ≡ true = e ∙ h in cc

pub no_cut_one : (words : List (List ℕ)) → ((front behind : List (List ℕ)) → IsCut one_options words front behind → ⊥) → (task : Task) → TaskIs (codes "one" ∷ words) task → ⊥
no_cut_one words never task h = let is = is_one (codes "one" ∷ words) task h words refl in never is.front _ (one_cut words task is)

pub no_cut_run : (words : List (List ℕ)) → ((front behind : List (List ℕ)) → IsCut run_options words front behind → ⊥) → (task : Task) → TaskIs (codes "run" ∷ words) task → ⊥
no_cut_run words never task h = let is = is_run (codes "run" ∷ words) task h words refl in never is.front _ (run_cut words task is)

-- words with these operands
module _ (words front behind : List (List ℕ)) (cut : IsCut one_options words front behind) where
  pub no_one : ((dictionary sentence : List ℕ) → behind ≡ dictionary ∷ sentence ∷ [] → IsTrue (is_operand dictionary) → IsTrue (is_operand sentence) → length sentence ≤ SENTENCE → ⊥)
      → (task : Task) → TaskIs (codes "one" ∷ words) task → ⊥
  no_one nowhere task h =
      let is = is_one (codes "one" ∷ words) task h words refl in
      nowhere is.dictionary is.sentence (cut_once one_settings words front is.front behind _ cut (one_cut words task is)).1 is.dictionary_is is.sentence_is is.short

module _ (words front behind : List (List ℕ)) (cut : IsCut run_options words front behind) where
  pub no_run : ((dictionary knowledge : List ℕ) (scripts : List (List ℕ)) → behind ≡ dictionary ∷ knowledge ∷ scripts → AreOperands (dictionary ∷ knowledge ∷ scripts) → 1 ≤ length scripts → length scripts ≤ SCRIPTS → ⊥)
      → (task : Task) → TaskIs (codes "run" ∷ words) task → ⊥
  no_run nowhere task h =
      let is = is_run (codes "run" ∷ words) task h words refl in
      nowhere is.dictionary is.knowledge is.scripts (cut_once all_settings words front is.front behind _ cut (run_cut words task is)).1 is.operands is.some is.few

-- words that are no two operands and a number in form
pub no_export : (words : List (List ℕ)) → ((d s c : List ℕ) (n : ℕ) → words ≡ d ∷ s ∷ c ∷ [] → IsTrue (is_operand d) → IsTrue (is_operand s) → IsEditCount c n → ⊥)
    → (task : Task) → TaskIs (codes "export" ∷ words) task → ⊥
no_export words nowhere task h =
    let is = is_export (codes "export" ∷ words) task h words refl in
    nowhere is.dictionary is.script is.digits is.number is.split is.dictionary_is is.script_is is.is_count

-- words that are no operands, or are too few or too many
pub no_audit : (words : List (List ℕ)) → ((d k o : List ℕ) (ss : List (List ℕ)) → words ≡ d ∷ k ∷ o ∷ ss → AreOperands words → 1 ≤ length ss → length ss ≤ SCRIPTS → ⊥)
    → (task : Task) → TaskIs (codes "audit" ∷ words) task → ⊥
no_audit words nowhere task h =
    let is = is_audit (codes "audit" ∷ words) task h words refl in
    nowhere is.dictionary is.knowledge is.document is.scripts is.split is.operands is.some is.few

pub first_three : (a b c d e f : List ℕ) → a ∷ b ∷ c ∷ [] ≡ d ∷ e ∷ f ∷ [] → (a ≡ d) × (b ≡ e) × (c ≡ f)
first_three a b c d e f h = (cc, cc, cc)

pub first_two : (a b c d : List ℕ) → a ∷ b ∷ [] ≡ c ∷ d ∷ [] → (a ≡ c) × (b ≡ d)
first_two a b c d e = (cc, cc)

pub first_and_rest : (a b d e : List ℕ) (c f : List (List ℕ)) → a ∷ b ∷ c ≡ d ∷ e ∷ f → (a ≡ d) × (b ≡ e) × (c ≡ f)
first_and_rest a b d e c f h = (cc, cc, cc)

pub three_and_rest : (a b c e f g : List ℕ) (d h : List (List ℕ)) → a ∷ b ∷ c ∷ d ≡ e ∷ f ∷ g ∷ h → (a ≡ e) × (b ≡ f) × (c ≡ g) × (d ≡ h)
three_and_rest a b c e f g d h s = (cc, cc, cc, cc)

-- by the test that there is none
pub is_none : (n : ℕ) → true ≡ (n == 0) → n ≡ 0
is_none n e = grind (arith, nat_tests)

pub is_some : (n : ℕ) → false ≡ (n == 0) → 1 ≤ n
is_some n e = grind (arith, nat_tests)

-- each is an operand by the test of all
module _ {A : Type 0} (text : A → List ℕ) (words : List A) where
  pub operands_by : true ≡ list_all (λ word. is_operand (text word)) words → AreOperands (map text words)
  operands_by e = AllPass-from_list_all is_operand (map text words) (list_all-map is_operand text words ∙ sym e)

  pub operands_not : false ≡ list_all (λ word. is_operand (text word)) words → AreOperands (map text words) → ⊥
  operands_not e h = let clash : false ≡ true = e ∙ sym (list_all-map is_operand text words) ∙ list_all-from_AllPass is_operand (map text words) h in cc

-- ---- a command

-- `run` knows the options of `one`
known_to_run : (words : List (List ℕ)) (settings : Settings) → AreOptions one_options words settings → AreOptions run_options words settings
known_to_run words settings none = none
known_to_run words settings (apart name value more others is new read) = apart name value more others (more_known name value is) new (known_to_run more others read)
known_to_run words settings (joined name value more others is new read) = joined name value more others (more_known name value is) new (known_to_run more others read)

pub is_one_command : (words : List (List ℕ)) (command : Command) (dictionary sentence : List ℕ) → ((setup : Setup) → task setup command ≡ One setup dictionary sentence)
    → IsCut one_options words (option_words command) (dictionary ∷ sentence ∷ []) → IsTrue (is_operand dictionary) → IsTrue (is_operand sentence) → length sentence ≤ SENTENCE → IsCommand (codes "one" ∷ words) command
is_one_command words command dictionary sentence task_is cut d s short =
    let g = gives_some one_settings (option_words command) cut.settings cut.read in
    let are : OptionsAre one_options (option_words command) g.0 = record { settings = cut.settings; read = cut.read; given = g.1 } in
    record {
      setup = g.0;
      are_options = record { settings = cut.settings; read = known_to_run (option_words command) cut.settings cut.read; given = g.1 };
      is_task = rw (task_is g.0, cut.split) (one (option_words command) g.0 dictionary sentence are d s short);
      range = g.2;
      short = rw (task_is g.0) short;
    }

pub is_run_command : (words : List (List ℕ)) (command : Command) (dictionary knowledge : List ℕ) (scripts : List (List ℕ)) → ((setup : Setup) → task setup command ≡ Run setup dictionary knowledge scripts)
    → IsCut run_options words (option_words command) (dictionary ∷ knowledge ∷ scripts) → AreOperands (dictionary ∷ knowledge ∷ scripts) → 1 ≤ length scripts → length scripts ≤ SCRIPTS → IsCommand (codes "run" ∷ words) command
is_run_command words command dictionary knowledge scripts task_is cut operands some few =
    let g = gives_some all_settings (option_words command) cut.settings cut.read in
    let are : OptionsAre run_options (option_words command) g.0 = record { settings = cut.settings; read = cut.read; given = g.1 } in
    record {
      setup = g.0;
      are_options = are;
      is_task = rw (task_is g.0, cut.split) (run (option_words command) g.0 dictionary knowledge scripts are operands some few);
      range = g.2;
      short = rw (task_is g.0) (some, few);
    }

pub is_gen_command : (words : List (List ℕ)) (command : Command) (a b c : List ℕ) (seed n m : ℕ) → ((setup : Setup) → task setup command ≡ Gen seed n m) → option_words command ≡ []
    → words ≡ a ∷ b ∷ c ∷ [] → IsSeed a seed → IsMadeCount b n → IsMadeCount c m → IsCommand (codes "gen" ∷ words) command
is_gen_command words command a b c seed n m task_is no_options split is_seed is_n is_m =
    let g = gives_some all_settings [] [] none in
    record {
      setup = g.0;
      are_options = rw no_options (record { settings = []; read = none; given = g.1 });
      is_task = rw (task_is g.0, split) (gen a b c seed n m is_seed is_n is_m);
      range = g.2;
      short = rw (task_is g.0) (is_seed.small, is_n.made, is_m.made);
    }

pub is_export_command : (words : List (List ℕ)) (command : Command) (d s c : List ℕ) (n : ℕ) → ((setup : Setup) → task setup command ≡ Export d s n) → option_words command ≡ []
    → words ≡ d ∷ s ∷ c ∷ [] → IsTrue (is_operand d) → IsTrue (is_operand s) → IsEditCount c n → IsCommand (codes "export" ∷ words) command
is_export_command words command d s c n task_is no_options split is_d is_s is_n =
    let g = gives_some all_settings [] [] none in
    record {
      setup = g.0;
      are_options = rw no_options (record { settings = []; read = none; given = g.1 });
      is_task = rw (task_is g.0, split) (export d s c n is_d is_s is_n);
      range = g.2;
      short = rw (task_is g.0) is_n.few;
    }

pub is_audit_command : (words : List (List ℕ)) (command : Command) (d k o : List ℕ) (ss : List (List ℕ)) → ((setup : Setup) → task setup command ≡ Audit d k o ss) → option_words command ≡ []
    → words ≡ d ∷ k ∷ o ∷ ss → AreOperands words → 1 ≤ length ss → length ss ≤ SCRIPTS → IsCommand (codes "audit" ∷ words) command
is_audit_command words command d k o ss task_is no_options split operands some few =
    let g = gives_some all_settings [] [] none in
    record {
      setup = g.0;
      are_options = rw no_options (record { settings = []; read = none; given = g.1 });
      is_task = rw (task_is g.0, split) (audit d k o ss (subst AreOperands split operands) some few);
      range = g.2;
      short = rw (task_is g.0) (some, few);
    }

-- ---- a task is the only one

-- digits write one number
one_writes : (most : ℕ) (a b : List ℕ) (n m : ℕ) → a ≡ b → WritesNumber most a n → WritesNumber most b m → n ≡ m
one_writes most a b n m e h k = h.value ∙ ap (written_number 0) e ∙ sym k.value

same_gen : (a b c d e f : ℕ) → a ≡ d → b ≡ e → c ≡ f → Gen a b c ≡ Gen d e f
same_gen a b c d e f g h i = rw (g, h, i) refl

same_export : (d e s t : List ℕ) (n m : ℕ) → d ≡ e → s ≡ t → n ≡ m → Export d s n ≡ Export e t m
same_export d e s t n m f g h = rw (f, g, h) refl

same_audit : (d e k l o p : List ℕ) (s t : List (List ℕ)) → d ≡ e → k ≡ l → o ≡ p → s ≡ t → Audit d k o s ≡ Audit e l p t
same_audit d e k l o p s t f g h i = rw (f, g, h, i) refl

-- options are given in one way
same_setup : (known : List (List ℕ × Kind)) (front other : List (List ℕ)) (x y : Setup) → (h : OptionsAre known front x) → (k : OptionsAre known other y) → h.settings ≡ k.settings → x ≡ y
same_setup known front other x y h k e = same_gives h.settings x y h.given (rw e k.given)

same_one : (x y : Setup) (d e s t : List ℕ) → x ≡ y → d ≡ e → s ≡ t → One x d s ≡ One y e t
same_one x y d e s t f g h = rw (f, g, h) refl

same_run : (x y : Setup) (d e k l : List ℕ) (s t : List (List ℕ)) → x ≡ y → d ≡ e → k ≡ l → s ≡ t → Run x d k s ≡ Run y e l t
same_run x y d e k l s t f g h i = rw (f, g, h, i) refl

pub one_task : (words : List (List ℕ)) (x y : Task) → TaskIs words x → TaskIs words y → x ≡ y
one_task words x y (one front setup dictionary sentence are d s short) k =
    let rest = front ++ dictionary ∷ sentence ∷ [] in
    let own : IsCut one_options rest front (dictionary ∷ sentence ∷ []) = record { settings = are.settings; split = refl; read = are.read; ends = operand dictionary (sentence ∷ []) d } in
    let is = is_one words y k rest refl in
    let that : IsCut one_options rest is.front (is.dictionary ∷ is.sentence ∷ []) = record { settings = is.are.settings; split = is.split; read = is.are.read; ends = operand is.dictionary (is.sentence ∷ []) is.dictionary_is } in
    let cut = cut_once one_settings rest front is.front _ _ own that in
    let words_same = first_two _ _ _ _ cut.1 in
    same_one setup is.setup dictionary is.dictionary sentence is.sentence (same_setup _ front is.front setup is.setup are is.are cut.0) words_same.0 words_same.1 ∙ sym is.same
one_task words x y (run front setup dictionary knowledge scripts are operands some few) k =
    let rest = front ++ dictionary ∷ knowledge ∷ scripts in
    let own : IsCut run_options rest front (dictionary ∷ knowledge ∷ scripts) = record { settings = are.settings; split = refl; read = are.read; ends = operand dictionary (knowledge ∷ scripts) (first_operand dictionary (knowledge ∷ scripts) operands) } in
    let is = is_run words y k rest refl in
    let that : IsCut run_options rest is.front (is.dictionary ∷ is.knowledge ∷ is.scripts) = record { settings = is.are.settings; split = is.split; read = is.are.read; ends = operand is.dictionary (is.knowledge ∷ is.scripts) (first_operand is.dictionary (is.knowledge ∷ is.scripts) is.operands) } in
    let cut = cut_once all_settings rest front is.front _ _ own that in
    let words_same = first_and_rest _ _ _ _ _ _ cut.1 in
    same_run setup is.setup dictionary is.dictionary knowledge is.knowledge scripts is.scripts (same_setup _ front is.front setup is.setup are is.are cut.0) words_same.0 words_same.1 words_same.2 ∙ sym is.same
one_task words x y (gen a b c seed n m is_seed is_n is_m) k =
    let is = is_gen words y k (a ∷ b ∷ c ∷ []) refl in
    let same = first_three _ _ _ _ _ _ is.split in
    same_gen seed n m is.seed is.made is.sentences (one_writes 10 _ _ _ _ same.0 is_seed.writes is.is_seed.writes) (one_writes 6 _ _ _ _ same.1 is_n.writes is.is_made.writes) (one_writes 6 _ _ _ _ same.2 is_m.writes is.are_sentences.writes)
    ∙ sym is.same
one_task words x y (export dictionary script digits n d s is_n) k =
    let is = is_export words y k (dictionary ∷ script ∷ digits ∷ []) refl in
    let same = first_three _ _ _ _ _ _ is.split in
    same_export dictionary is.dictionary script is.script n is.number same.0 same.1 (one_writes 6 _ _ _ _ same.2 is_n.writes is.is_count.writes) ∙ sym is.same
one_task words x y (audit dictionary knowledge document scripts operands some few) k =
    let is = is_audit words y k (dictionary ∷ knowledge ∷ document ∷ scripts) refl in
    let same = three_and_rest _ _ _ _ _ _ _ _ is.split in
    same_audit dictionary is.dictionary knowledge is.knowledge document is.document scripts is.scripts same.0 same.1 same.2 same.3 ∙ sym is.same
