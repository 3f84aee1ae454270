-- Words that begin with options.
use Rattle.std.specs.List.{list_any}
use Rattle.std.proofs.lemmas.List.Elements.{Contains-append_left}
use Rattle.std.proofs.lemmas.List.Folds.{list_any-append}
use Rattle.std.proofs.lemmas.Bool.{ne_eqb}
use Rattle.clap.proofs.WalkLemmas.{list_any-map}
use Rattle.std.proofs.Common.{◌||◌, Contains, ◌≡◌, ◌≢◌, ◌⊎◌, cond, ℕ, zero, suc, ◌<◌, ◌≤◌, Bool, true, false, not, ◌&&◌, nat_eq, bytes_eq, List, [], map, take, drop, ◌∷◌, ◌++◌, length, get_or, codes, Option, None, Some, MatchOption, inl, inr, Bor, ◌↔◌, refl, sym, ap, subst, ◌∙◌, arith, append_assoc}
use Rattle.std.proofs.lemmas.Bool.{and_parts}
use Rattle.std.proofs.lemmas.List.{length-append, length-map, map-append, take-append-drop}
use Rattle.std.proofs.lemmas.Slice.Eq.{bytes_eq-Decides}
use Rattle.std.proofs.lemmas.Bool.Decides.{nat_tests}
use Rattle.std.proofs.lemmas.Str.Pattern.{IsSplitOnceResult, split_parts}
use Rattle.lg_answer.specs.declared.options.Nulls.{Nulls as Unlinked}
use Rattle.lg_script.specs.Commands.{IsNumber}
use Rattle.lg_run.specs.Words.{HasForm, one_options, run_options, IsKnown, WritesNulls, first, passing, WritesSwitch, on, off, value_of, AreOptions, none, is_operand}
use Rattle.lg_run.specs.Words as forms
use Rattle.lg_run.specs.Settings.{name_of, value_kind, named, option_word, IsPlain, Begins, apart, joined, BeginsWith, front_of, is_given, Ends, nothing, operand, Cuts, IsCut}
use Rattle.lg_run.specs.declared.options.Setting.{Setting}
use Rattle.lg_run.specs.declared.options.Setting.TheVariants.{Want, Examine, Nulls, Prune, Stats, Diagram, Workers, Idioms, Usage}
use Rattle.lg_run.specs.declared.options.Kind.{Kind}
use Rattle.lg_run.specs.declared.options.Kind.TheVariants as kinds

abbrev pub Settings : Type 0
Settings = List (List ℕ × List ℕ)

-- the options of `one`, and all that there are
abbrev pub one_settings : List Setting
one_settings = Want ∷ Examine ∷ Nulls ∷ Prune ∷ Stats ∷ Diagram ∷ Workers ∷ Idioms ∷ []

abbrev pub all_settings : List Setting
all_settings = one_settings ++ Usage ∷ []

-- ---- names and values

pub plain_of : (name : List ℕ) → ((i : ℕ) → i < length name → get_or name i 0 ≢ 61) → IsPlain name
plain_of [] h = tt
plain_of (b ∷ name) h = (h 0 (omega arith), plain_of name (λ i small. h (suc i) (omega arith)))

-- what `split_once` says of a word
pub cut_of : (word : List ℕ) (r : Option (Bor (List ℕ) × Bor (List ℕ))) → IsSplitOnceResult 61 word r
    → MatchOption r (IsPlain word) (λ x. IsPlain x.0.now × (word ≡ x.0.now ++ 61 ∷ x.1.now))
cut_of word r h = by r (split_parts 61 word r h (omega arith)) where
  by : (r : Option (Bor (List ℕ) × Bor (List ℕ))) → MatchOption r ((i : ℕ) → i < length word → get_or word i 0 ≢ 61) (λ x. (word ≡ x.0.now ++ (61 ∷ x.1.now)) × ((i : ℕ) → i < length x.0.now → get_or x.0.now i 0 ≢ 61))
      → MatchOption r (IsPlain word) (λ x. IsPlain x.0.now × (word ≡ x.0.now ++ 61 ∷ x.1.now))
  by None h = plain_of word h
  by (Some x) h = (plain_of x.0.now h.1, h.0)

not_plain : (name value : List ℕ) → IsPlain (name ++ 61 ∷ value) → ⊥
not_plain [] value h = h.0 refl
not_plain (b ∷ name) value h = not_plain name value h.1

one_cut : (a b v w : List ℕ) → IsPlain a → IsPlain b → a ++ 61 ∷ v ≡ b ++ 61 ∷ w → (a ≡ b) × (v ≡ w)
one_cut [] [] v w p q e = (refl, cc)
one_cut [] (c ∷ b) v w p q e = let same : c ≡ 61 = cc in absurd (q.0 same)
one_cut (c ∷ a) [] v w p q e = let same : c ≡ 61 = cc in absurd (p.0 same)
one_cut (c ∷ a) (d ∷ b) v w p q e = let same = one_cut a b v w p.1 q.1 cc in (cc (same.0), same.1)

-- words begin with one name and one value
same_beginning : (n v m w : List ℕ) (b c words others : List (List ℕ)) → Begins n v b words → Begins m w c others → words ≡ others → (n ≡ m) × (v ≡ w) × (b ≡ c)
same_beginning n v m w b c words others (apart p) (apart q) e = (cc, cc, cc)
same_beginning n v m w b c words others (apart p) (joined q) e = let same : n ≡ m ++ 61 ∷ w = cc in absurd (not_plain m w (subst IsPlain same p))
same_beginning n v m w b c words others (joined p) (apart q) e = let same : m ≡ n ++ 61 ∷ v = cc in absurd (not_plain n v (subst IsPlain same q))
same_beginning n v m w b c words others (joined p) (joined q) e = let same = one_cut n m v w p q cc in (same.0, same.1, cc)

-- what is known where nothing is answered
pub of_none : {T : Type 0} (r : Option T) (P : Type 0) (Q : T → Type 0) → r ≡ None → P → MatchOption r P Q
of_none {T = T} r P Q e h = subst (λ (o : Option T). MatchOption o P Q) (sym e) h

-- no name where the words end behind the first, and that has no equals sign
pub ends_early : (word : List ℕ) → IsPlain word → (name value : List ℕ) (behind words : List (List ℕ)) → Begins name value behind words → words ≡ word ∷ [] → ⊥
ends_early word plain name value behind words (apart p) e = cc
ends_early word plain name value behind words (joined p) e = let same : word ≡ name ++ 61 ∷ value = cc in not_plain name value (subst IsPlain same plain)

-- ---- one option

plain_test : List ℕ → Bool
plain_test [] = true
plain_test (b ∷ name) = not (nat_eq b 61) && plain_test name

plain_tested : (name : List ℕ) → plain_test name ≡ true → IsPlain name
unfolding plain_test
plain_tested [] h = tt
plain_tested (b ∷ name) h = let parts = and_parts (not (nat_eq b 61)) (plain_test name) h in (differs parts.0, plain_tested name parts.1) where
  differs : not (nat_eq b 61) ≡ true → b ≢ 61
  differs k = grind (arith, nat_tests)

plain_word : (s : Setting) → IsPlain (option_word s)
unfolding plain_test
plain_word Want = plain_tested (option_word Want) refl
plain_word Examine = plain_tested (option_word Examine) refl
plain_word Nulls = plain_tested (option_word Nulls) refl
plain_word Prune = plain_tested (option_word Prune) refl
plain_word Stats = plain_tested (option_word Stats) refl
plain_word Diagram = plain_tested (option_word Diagram) refl
plain_word Workers = plain_tested (option_word Workers) refl
plain_word Idioms = plain_tested (option_word Idioms) refl
plain_word Usage = plain_tested (option_word Usage) refl

-- a known name is that of an option
listed_by : (known : List Setting) (o : List ℕ × Kind) → Contains (named known) o → (s : Setting) × Contains known s × ((name_of s, value_kind s) ≡ o)
listed_by [] o (k, small, is) = absurd (omega (arith, small))
listed_by (s ∷ known) o (zero, small, is) = (s, (0, omega arith, refl), is)
listed_by (s ∷ known) o (suc k, small, is) = let m = listed_by known o (k, omega (arith, small), is) in (m.0, later m.1, m.2) where
  later : {t : Setting} → Contains known t → Contains (s ∷ known) t
  later (k, small, is) = (suc k, omega (arith, small), is)

listed : (known : List Setting) (s : Setting) → Contains known s → Contains (named known) (name_of s, value_kind s)
listed [] s (k, small, is) = absurd (omega (arith, small))
listed (t ∷ known) s (zero, small, is) = (0, omega arith, ap (λ (x : Setting). (name_of x, value_kind x)) is)
listed (t ∷ known) s (suc k, small, is) = let m = listed known s (k, omega (arith, small), is) in (suc m.0, omega (arith, m.1), m.2)

pub setting_by : (known : List Setting) (name value : List ℕ) → IsKnown (named known) name value → (s : Setting) × (name ≡ name_of s) × Contains known s × HasForm (value_kind s) value
setting_by known name value is =
    let s = listed_by known (name, is.kind) is.listed in
    (s.0, sym (ap (λ (o : List ℕ × Kind). o.0) s.2), s.1, subst (λ (k : Kind). HasForm k value) (sym (ap (λ (o : List ℕ × Kind). o.1) s.2)) is.form)

known_so : (known : List Setting) (s : Setting) (value : List ℕ) → Contains known s → HasForm (value_kind s) value → IsKnown (named known) (name_of s) value
known_so known s value there form = record { kind = value_kind s; listed = listed known s there; form = form }

-- `run` knows the options of `one`
pub more_known : (name value : List ℕ) → IsKnown one_options name value → IsKnown run_options name value
more_known name value is = record { kind = is.kind; listed = Contains-append_left one_options ((codes "usage", kinds.Switch) ∷ []) (name, is.kind) is.listed; form = is.form }

-- the first of these that begins with a word
abbrev begun : List Setting → List ℕ → Setting
begun [] word = Want
begun (s ∷ settings) word = cond (bytes_eq word (option_word s)) s (begun settings word)

begun_is : (s : Setting) → begun all_settings (option_word s) ≡ s
begun_is Want = refl
begun_is Examine = refl
begun_is Nulls = refl
begun_is Prune = refl
begun_is Stats = refl
begun_is Diagram = refl
begun_is Workers = refl
begun_is Idioms = refl
begun_is Usage = refl

pub same_setting : (s t : Setting) → option_word s ≡ option_word t → s ≡ t
same_setting s t e = sym (begun_is s) ∙ ap (begun all_settings) e ∙ begun_is t

-- ---- what is given

-- no value begins with a dash
number_value : (v : List ℕ) (n : ℕ) → IsNumber v n → is_operand v ≡ true
number_value [] n is = refl
number_value (b ∷ v) n is = let e : nat_eq b 45 ≡ false = ne_eqb b 45 (λ same. let low : 48 ≤ b = is.all_digits.0.0 in omega arith) in rw e refl

nulls_value : (v : List ℕ) (n : Unlinked) → WritesNulls v n → is_operand v ≡ true
nulls_value v n first = refl
nulls_value v n passing = refl

switch_value : (v : List ℕ) (b : Bool) → WritesSwitch v b → is_operand v ≡ true
switch_value v b on = refl
switch_value v b off = refl

pub value_is : (kind : Kind) (v : List ℕ) → HasForm kind v → is_operand v ≡ true
value_is kinds.Number v form = number_value v form.0 form.1
value_is kinds.Nulls v form = nulls_value v form.0 form.1
value_is kinds.Switch v form = switch_value v form.0 form.1
value_is kinds.Workers v form = number_value v form.0 form.1.number

-- what stands before the equals sign
pub front_plain : (word : List ℕ) → IsPlain word → front_of word ≡ word
front_plain [] p = refl
front_plain (b ∷ word) p = let e : nat_eq b 61 ≡ false = ne_eqb b 61 p.0 in rw (e, front_plain word p.1) refl

pub front_joined : (word value : List ℕ) → IsPlain word → front_of (word ++ 61 ∷ value) ≡ word
front_joined [] value p = refl
front_joined (b ∷ word) value p = let e : nat_eq b 61 ≡ false = ne_eqb b 61 p.0 in rw (e, front_joined word value p.1) refl

-- and what `split_once` says of it
pub front_cut : (word : List ℕ) (r : Option (Bor (List ℕ) × Bor (List ℕ))) → IsSplitOnceResult 61 word r → MatchOption r (front_of word ≡ word) (λ x. front_of word ≡ x.0.now)
front_cut word r h = by r (cut_of word r h) where
  by : (r : Option (Bor (List ℕ) × Bor (List ℕ))) → MatchOption r (IsPlain word) (λ x. IsPlain x.0.now × (word ≡ x.0.now ++ 61 ∷ x.1.now)) → MatchOption r (front_of word ≡ word) (λ x. front_of word ≡ x.0.now)
  by None h = front_plain word h
  by (Some x) h = ap front_of h.1 ∙ front_joined x.0.now x.1.now h.0

no_dash : (dash : Bool) → not dash ≡ true → dash ≡ false
no_dash true h = cc
no_dash false h = refl

value_front : (v word : List ℕ) → is_operand v ≡ true → bytes_eq (front_of v) (45 ∷ word) ≡ false
value_front [] word h = refl
value_front (b ∷ v) word h = by (nat_eq b 61) where
  by : (equals : Bool) → bytes_eq (cond equals [] (b ∷ front_of v)) (45 ∷ word) ≡ false
  by true = refl
  by false = rw (no_dash (nat_eq b 45) h) refl

same_name : (name : List ℕ) → bytes_eq name name ≡ true
same_name name = (bytes_eq-Decides name name).1 refl

or_nothing : (b : Bool) → b || (false || false) ≡ b
or_nothing true = refl
or_nothing false = refl

or_none : (b : Bool) → b || false ≡ b
or_none true = refl
or_none false = refl

-- the words of an option give it alone
pub record IsTaken (word : List ℕ) (behind words : List (List ℕ)) : Type 0 where
  pub taken : List (List ℕ)
  pub split : words ≡ taken ++ behind
  pub gives : (t : Setting) → is_given (option_word t) taken ≡ bytes_eq word (option_word t)

pub taken_by : (word value : List ℕ) (behind words : List (List ℕ)) → is_operand value ≡ true → Begins word value behind words → IsTaken word behind words
taken_by word value behind words h (apart p) = record {
  taken = word ∷ value ∷ [];
  split = refl;
  gives = λ t. rw (front_plain word p, value_front value (codes "-" ++ name_of t) h) (or_nothing (bytes_eq word (option_word t)));
}
taken_by word value behind words h (joined p) = record {
  taken = (word ++ 61 ∷ value) ∷ [];
  split = refl;
  gives = λ t. rw (front_joined word value p) (or_none (bytes_eq word (option_word t)));
}

value_behind : (name other value : List ℕ) (more : Settings) → value_of name ((other, value) ∷ more) ≡ None → value_of name more ≡ None
value_behind name other value more = by (bytes_eq other name) where
  by : (b : Bool) → ◌≡◌ {A = Option (List ℕ)} (cond b (Some value) (value_of name more)) None → value_of name more ≡ None
  by true e = cc
  by false e = e

value_there : (name value : List ℕ) (more : Settings) → value_of name ((name, value) ∷ more) ≡ None → ⊥
value_there name value more e = let same = same_name name in cc

-- ---- options one after another

-- words with an option in front
record Opens (known : List Setting) (words front : List (List ℕ)) (settings : Settings) (behind : List (List ℕ)) : Type 0 where
  pub setting : Setting
  pub value : List ℕ
  pub more : List (List ℕ)
  pub others : Settings
  pub begins : BeginsWith known words setting value (more ++ behind)
  pub is : settings ≡ (name_of setting, value) ∷ others
  pub new : value_of (name_of setting) others ≡ None
  pub read : AreOptions (named known) more others

module _ (known : List Setting) where
  opens : (front : List (List ℕ)) (settings : Settings) (behind : List (List ℕ)) → AreOptions (named known) front settings → (Ends (front ++ behind) → ⊥) → Ends behind → Opens known (front ++ behind) front settings behind
  opens front settings behind none never ends = absurd (never ends)
  opens front settings behind (forms.apart name value words more is new read) never ends =
      let s = setting_by known name value is in
      subst (λ (n : List ℕ). value_of n more ≡ None → Opens known ((codes "--" ++ n) ∷ value ∷ (words ++ behind)) ((codes "--" ++ n) ∷ value ∷ words) ((n, value) ∷ more) behind) (sym s.1)
      (λ new. record { setting = s.0; value = value; more = words; others = more; begins = record { there = s.2; form = s.3; begins = apart (plain_word s.0) }; is = refl; new = new; read = read }) new
  opens front settings behind (forms.joined name value words more is new read) never ends =
      let s = setting_by known name value is in
      subst (λ (n : List ℕ). value_of n more ≡ None → Opens known ((codes "--" ++ (n ++ (codes "=" ++ value))) ∷ (words ++ behind)) ((codes "--" ++ (n ++ (codes "=" ++ value))) ∷ words) ((n, value) ∷ more) behind) (sym s.1)
      (λ new. record { setting = s.0; value = value; more = words; others = more; begins = record { there = s.2; form = s.3; begins = joined (plain_word s.0) }; is = refl; new = new; read = read }) new

  -- an option begins with a dash
  no_end : (s : Setting) (value : List ℕ) (behind words : List (List ℕ)) → Begins (option_word s) value behind words → Ends words → ⊥
  no_end s value behind words (apart plain) (operand w ws is) = cc
  no_end s value behind words (joined plain) (operand w ws is) = cc

  -- words that are cut so from here on
  pub record CutOn (done words behind : List (List ℕ)) : Type 0 where
    pub front : List (List ℕ)
    pub settings : Settings
    pub cuts : Cuts known done words front settings behind

  open_of : (done words behind : List (List ℕ)) → (c : CutOn done words behind) → (Ends words → ⊥) → Opens known words c.front c.settings behind
  open_of done words behind c never =
      subst (λ (w : List (List ℕ)). Opens known w c.front c.settings behind) (sym c.cuts.split)
      (opens c.front c.settings behind c.cuts.read (λ e. never (subst Ends (sym c.cuts.split) e)) c.cuts.ends)

  -- words that begin with a dash and with no option are not cut
  pub no_options : (done words behind : List (List ℕ)) → (Ends words → ⊥) → ((s : Setting) (value : List ℕ) (behind : List (List ℕ)) → BeginsWith known words s value behind → ⊥) → CutOn done words behind → ⊥
  no_options done words behind never nowhere c =
      let o = open_of done words behind c never in
      nowhere o.setting o.value (o.more ++ behind) o.begins

  module _ (done words : List (List ℕ)) (s : Setting) (value : List ℕ) (rest : List (List ℕ)) (h : BeginsWith known words s value rest) (behind : List (List ℕ)) where
    -- the option in front is this one
    here : (c : CutOn done words behind) → (o : Opens known words c.front c.settings behind) × (o.setting ≡ s) × (o.more ++ behind ≡ rest)
    here c =
        let o = open_of done words behind c (no_end s value rest words h.begins) in
        let same = same_beginning (option_word o.setting) o.value (option_word s) value (o.more ++ behind) rest words words o.begins.begins h.begins refl in
        (o, same_setting o.setting s same.0, same.2)

    pub given_twice : is_given (option_word s) done ≡ true → CutOn done words behind → ⊥
    given_twice twice c =
        let x = here c in
        let gone = c.cuts.new s twice in
        value_there (name_of s) x.0.value x.0.others (subst (λ (t : Setting). value_of (name_of s) ((name_of t, x.0.value) ∷ x.0.others) ≡ None) x.1 (rw x.0.is at gone))

    module _ (taken : List (List ℕ)) (gives : (t : Setting) → is_given (option_word t) taken ≡ bytes_eq (option_word s) (option_word t)) where
      given_now : (t : Setting) → is_given (option_word t) (done ++ taken) ≡ is_given (option_word t) done || bytes_eq (option_word s) (option_word t)
      given_now t = list_any-append (λ (other : List ℕ). bytes_eq (front_of other) (option_word t)) done taken ∙ ap (λ (b : Bool). is_given (option_word t) done || b) (gives t)

      was_given : (t : Setting) → is_given (option_word t) (done ++ taken) ≡ true → (t ≡ s) ⊎ (is_given (option_word t) done ≡ true)
      was_given t e = by (is_given (option_word t) done) (bytes_eq (option_word s) (option_word t)) refl (sym (given_now t) ∙ e) where
        by : (b o : Bool) → bytes_eq (option_word s) (option_word t) ≡ o → b || o ≡ true → (t ≡ s) ⊎ (b ≡ true)
        by true o same e = inr refl
        by false true same e = inl (sym (same_setting s t ((bytes_eq-Decides (option_word s) (option_word t)).0 same)))
        by false false same e = cc

      stays_given : (t : Setting) → is_given (option_word t) done ≡ true → is_given (option_word t) (done ++ taken) ≡ true
      stays_given t e = given_now t ∙ ap (λ (b : Bool). b || bytes_eq (option_word s) (option_word t)) e

      is_given_now : is_given (option_word s) (done ++ taken) ≡ true
      is_given_now = given_now s ∙ by (is_given (option_word s) done) where
        by : (b : Bool) → b || bytes_eq (option_word s) (option_word s) ≡ true
        by true = refl
        by false = same_name (option_word s)

      pub goes_behind : CutOn done words behind → CutOn (done ++ taken) rest behind
      goes_behind c =
          let x = here c in
          record {
            front = x.0.more;
            settings = x.0.others;
            cuts = record {
              split = sym x.2;
              read = x.0.read;
              ends = c.cuts.ends;
              new = λ t k. new_behind x.0 x.1 t (was_given t k);
            };
          } where
            new_behind : (o : Opens known words c.front c.settings behind) → o.setting ≡ s → (t : Setting) → (t ≡ s) ⊎ (is_given (option_word t) done ≡ true) → value_of (name_of t) o.others ≡ None
            new_behind o same t (inl e) = subst (λ (r : Setting). value_of (name_of r) o.others ≡ None) (same ∙ sym e) o.new
            new_behind o same t (inr e) = let gone = c.cuts.new t e in value_behind (name_of t) (name_of o.setting) o.value o.others (rw o.is at gone)

      pub goes_before : is_given (option_word s) done ≡ false → CutOn (done ++ taken) rest behind → CutOn done words behind
      goes_before free c = by words h.begins where
        differs : (t : Setting) → is_given (option_word t) done ≡ true → (b : Bool) → bytes_eq (name_of s) (name_of t) ≡ b → b ≡ false
        differs t e true same =
            let one = same_setting s t (ap (λ (name : List ℕ). codes "--" ++ name) ((bytes_eq-Decides (name_of s) (name_of t)).0 same)) in
            sym e ∙ ap (λ (r : Setting). is_given (option_word r) done) (sym one) ∙ free
        differs t e false same = refl

        new_before : (t : Setting) → is_given (option_word t) done ≡ true → value_of (name_of t) ((name_of s, value) ∷ c.settings) ≡ None
        new_before t k = rw (differs t k (bytes_eq (name_of s) (name_of t)) refl) (c.cuts.new t (stays_given t k))

        is : IsKnown (named known) (name_of s) value
        is = known_so known s value h.there h.form

        by : (words : List (List ℕ)) → Begins (option_word s) value rest words → CutOn done words behind
        by words (apart plain) = record {
          front = option_word s ∷ value ∷ c.front;
          settings = (name_of s, value) ∷ c.settings;
          cuts = record {
            split = ap (λ (w : List (List ℕ)). option_word s ∷ value ∷ w) c.cuts.split;
            read = forms.apart (name_of s) value c.front c.settings is (c.cuts.new s is_given_now) c.cuts.read;
            ends = c.cuts.ends;
            new = new_before;
          };
        }
        by words (joined plain) = record {
          front = (option_word s ++ 61 ∷ value) ∷ c.front;
          settings = (name_of s, value) ∷ c.settings;
          cuts = record {
            split = ap (λ (w : List (List ℕ)). (option_word s ++ 61 ∷ value) ∷ w) c.cuts.split;
            read = forms.joined (name_of s) value c.front c.settings is (c.cuts.new s is_given_now) c.cuts.read;
            ends = c.cuts.ends;
            new = new_before;
          };
        }

  -- before the first word, and at the end
  pub at_start : (words behind : List (List ℕ)) → ((front : List (List ℕ)) × IsCut (named known) words front behind) ↔ CutOn [] words behind
  at_start words behind = (
    λ h. record { front = h.0; settings = h.1.settings; cuts = record { split = h.1.split; read = h.1.read; ends = h.1.ends; new = λ s e. absurd cc } },
    λ c. (c.front, record { settings = c.settings; split = c.cuts.split; read = c.cuts.read; ends = c.cuts.ends }),
  )

  pub at_end : (done words : List (List ℕ)) → Ends words → CutOn done words words
  at_end done words ends = record { front = []; settings = []; cuts = record { split = refl; read = none; ends = ends; new = λ s e. refl } }

-- ---- one word and a value

-- words begin with one option
pub same_option : (known : List Setting) (words : List (List ℕ)) (word value : List ℕ) (behind : List (List ℕ)) (s : Setting) (v : List ℕ) (others : List (List ℕ)) → Begins word value behind words → BeginsWith known words s v others
    → (word ≡ option_word s) × Contains known s × HasForm (value_kind s) value
same_option known words word value behind s v others h k =
    let same = same_beginning word value (option_word s) v behind others words words h k.begins refl in
    (same.0, k.there, subst (HasForm (value_kind s)) (sym same.1) k.form)

-- ---- a first word that is no option

pub operand_by : (b o : Bool) → b ≡ o → not b ≡ false → o ≡ true
operand_by true o e n = sym e
operand_by false o e n = cc

pub ends_empty : {X : Type 0} (f : X → List ℕ) (xs : List X) → length xs < 1 → Ends (map f xs)
ends_empty f [] few = nothing
ends_empty f (x ∷ xs) few = absurd (omega (arith, few))

pub ends_first : {X : Type 0} (f : X → List ℕ) (xs : List X) (x : X) → 1 ≤ length xs → x ≡ get_or xs 0 x → is_operand (f x) ≡ true → Ends (map f xs)
ends_first f [] x some is h = absurd (omega (arith, some))
ends_first {X = X} f (y ∷ xs) x some is h = operand (f y) (map f xs) (subst (λ (z : X). is_operand (f z) ≡ true) is h)

-- ---- words cut in two

pub shorter : (word value : List ℕ) (behind words : List (List ℕ)) → Begins word value behind words → length behind < length words
shorter word value behind words (apart plain) = omega arith
shorter word value behind words (joined plain) = omega arith

-- lists that end in as much are cut at one place
same_tails : {X : Type 0} (a b c d : List X) → a ++ b ≡ c ++ d → length b ≡ length d → (a ≡ c) × (b ≡ d)
same_tails [] b [] d e n = (refl, e)
same_tails [] b (x ∷ c) d e n = let more = length-append c d in let whole = ap length e in absurd (omega arith)
same_tails (x ∷ a) b [] d e n = let more = length-append a b in let whole = ap length e in absurd (omega arith)
same_tails (x ∷ a) b (y ∷ c) d e n = let same = same_tails a b c d (cc) n in let first : x ≡ y = cc in (cc (same.0), same.1)

-- one option more is done
pub done_more : (all done taken behind words front back : List (List ℕ)) → all ≡ done ++ words → words ≡ taken ++ behind → all ≡ front ++ back → length back ≡ length behind → (front ≡ done ++ taken) × (back ≡ behind)
done_more all done taken behind words front back whole split cut long =
    same_tails front back (done ++ taken) behind (sym cut ∙ whole ∙ ap (λ (w : List (List ℕ)). done ++ w) split ∙ sym (append_assoc done taken behind)) long

pub cut_there : (known : List Setting) (all done rest front : List (List ℕ)) → all ≡ done ++ rest → IsCut (named known) all front rest → IsCut (named known) all done rest
cut_there known all done rest front whole is =
    let same = same_tails done rest front rest (sym whole ∙ is.split) refl in
    record { settings = is.settings; split = whole; read = rw same.0 is.read; ends = is.ends }

-- words in two parts
pub parted : {X : Type 0} (f : X → List ℕ) (xs fronts backs : List X) (n : ℕ) → fronts ≡ take n xs → backs ≡ drop n xs → map f xs ≡ map f fronts ++ map f backs
parted {X = X} f xs fronts backs n before after =
    let whole : fronts ++ backs ≡ xs = rw (before, after) (take-append-drop n xs) in
    ap (map f) (sym whole) ∙ map-append f fronts backs

-- fewer words are left behind an option
pub fewer_left : {X : Type 0} (f : X → List ℕ) (all done words rest : List X) → map f all ≡ map f done ++ map f words → (word value : List ℕ) → Begins word value (map f rest) (map f words) → (length rest ≤ length all) × (length rest < length words)
fewer_left f all done words rest whole word value h =
    let fewer = shorter word value (map f rest) (map f words) h in
    let sum = ap length whole ∙ length-append (map f done) (map f words) in
    let a = length-map all f in
    let b = length-map words f in
    let c = length-map rest f in
    (omega arith, omega arith)

-- whether an option is given, as the test says
pub given_so : {X : Type 0} (f : X → List ℕ) (done : List X) (word other : List ℕ) (r b : Bool) → r ≡ list_any (λ (x : X). bytes_eq (front_of (f x)) word) done → r ≡ b → word ≡ other → is_given other (map f done) ≡ b
given_so f done word other r b e test same =
    subst (λ (w : List ℕ). is_given w (map f done) ≡ b) same (sym (list_any-map (λ (o : List ℕ). bytes_eq (front_of o) word) f done) ∙ sym e ∙ test)

-- where what comes of all words comes of those that are left, and the next begin with an option that is new, it comes of those behind it
pub cut_step : (known : List Setting) (all done words : List (List ℕ)) (s : Setting) (value : List ℕ) (rest front back : List (List ℕ)) → BeginsWith known words s value rest → is_given (option_word s) done ≡ false
    → all ≡ done ++ words → all ≡ front ++ back → length back ≡ length rest → ((behind : List (List ℕ)) → ((f : List (List ℕ)) × IsCut (named known) all f behind) ↔ CutOn known done words behind)
    → (behind : List (List ℕ)) → ((f : List (List ℕ)) × IsCut (named known) all f behind) ↔ CutOn known front back behind
cut_step known all done words s value rest front back h free whole cut long before behind =
    let t = taken_by (option_word s) value rest words (value_is (value_kind s) value h.form) h.begins in
    let more = done_more all done t.taken rest words front back whole t.split cut long in (
      λ is. subst (λ (d : List (List ℕ)). CutOn known d back behind) (sym more.0)
          (subst (λ (w : List (List ℕ)). CutOn known (done ++ t.taken) w behind) (sym more.1) (goes_behind known done words s value rest h behind t.taken t.gives ((before behind).0 is))),
      λ goes. (before behind).1 (goes_before known done words s value rest h behind t.taken t.gives free
          (subst (λ (w : List (List ℕ)). CutOn known (done ++ t.taken) w behind) more.1 (subst (λ (d : List (List ℕ)). CutOn known d back behind) more.0 goes))),
    )

-- ---- words are cut at one place

dash_ends : (word : List ℕ) (words w : List (List ℕ)) → Ends w → w ≡ (45 ∷ word) ∷ words → ⊥
dash_ends word words w nothing e = cc
dash_ends word words w (operand v vs is) e = let same : v ≡ 45 ∷ word = cc in let dash : is_operand (45 ∷ word) ≡ true = subst (λ (x : List ℕ). is_operand x ≡ true) same is in cc

no_front : (known : List Setting) (front : List (List ℕ)) (settings : Settings) (behind : List (List ℕ)) → AreOptions (named known) front settings → Ends (front ++ behind) → (settings ≡ []) × (front ≡ [])
no_front known front settings behind none ends = (refl, refl)
no_front known front settings behind (forms.apart name value words more is new read) ends = absurd (dash_ends _ _ _ ends refl)
no_front known front settings behind (forms.joined name value words more is new read) ends = absurd (dash_ends _ _ _ ends refl)

module _ (known : List Setting) (other : List (List ℕ)) (others : Settings) (rest : List (List ℕ)) (also : AreOptions (named known) other others) (last : Ends rest) where
  -- the other options begin with this one
  opens_so : (s : Setting) (value : List ℕ) (words w : List (List ℕ)) → Begins (option_word s) value words w → w ≡ other ++ rest
      → (o : Opens known (other ++ rest) other others rest) × (o.setting ≡ s) × (o.value ≡ value) × (o.more ++ rest ≡ words)
  opens_so s value words w h e =
      let o = opens known other others rest also (λ ends. no_end known s value words w h (subst Ends (sym e) ends)) last in
      let same = same_beginning (option_word o.setting) o.value (option_word s) value (o.more ++ rest) words (other ++ rest) w o.begins.begins h (sym e) in
      (o, same_setting o.setting s same.0, same.1, same.2)

begins_apart : (name value : List ℕ) (words : List (List ℕ)) (s : Setting) → name ≡ name_of s → Begins (option_word s) value words ((codes "--" ++ name) ∷ value ∷ words)
begins_apart name value words s e = rw e (apart (plain_word s))

begins_joined : (name value : List ℕ) (words : List (List ℕ)) (s : Setting) → name ≡ name_of s → Begins (option_word s) value words ((codes "--" ++ (name ++ (codes "=" ++ value))) ∷ words)
begins_joined name value words s e = rw e (joined (plain_word s))

same_settings : (name value : List ℕ) (more : Settings) (s : Setting) (t : Setting) (v : List ℕ) (others all : Settings) → name ≡ name_of s → t ≡ s → v ≡ value → more ≡ others → all ≡ (name_of t, v) ∷ others → (name, value) ∷ more ≡ all
same_settings name value more s t v others all e f g h is = rw (is, e, f, g, h) refl

pub same_cut : (known : List Setting) (front : List (List ℕ)) (settings : Settings) → AreOptions (named known) front settings → (behind : List (List ℕ)) → Ends behind → (other : List (List ℕ)) (others : Settings) → AreOptions (named known) other others → (rest : List (List ℕ)) → Ends rest
    → front ++ behind ≡ other ++ rest → (settings ≡ others) × (behind ≡ rest)
same_cut known front settings none behind ends other others also rest last e =
    let gone = no_front known other others rest also (subst Ends e ends) in
    (sym gone.0, e ∙ ap (λ (w : List (List ℕ)). w ++ rest) gone.1)
same_cut known front settings (forms.apart name value words more is new read) behind ends other others also rest last e =
    let s = setting_by known name value is in
    let x = opens_so known other others rest also last s.0 value (words ++ behind) _ (begins_apart name value (words ++ behind) s.0 s.1) e in
    let same = same_cut known words more read behind ends x.0.more x.0.others x.0.read rest last (sym x.3) in
    (same_settings name value more s.0 x.0.setting x.0.value x.0.others others s.1 x.1 x.2 same.0 x.0.is, same.1)
same_cut known front settings (forms.joined name value words more is new read) behind ends other others also rest last e =
    let s = setting_by known name value is in
    let x = opens_so known other others rest also last s.0 value (words ++ behind) _ (begins_joined name value (words ++ behind) s.0 s.1) e in
    let same = same_cut known words more read behind ends x.0.more x.0.others x.0.read rest last (sym x.3) in
    (same_settings name value more s.0 x.0.setting x.0.value x.0.others others s.1 x.1 x.2 same.0 x.0.is, same.1)
