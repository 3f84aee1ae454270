-- Items have one answer, and ask for one list of word files.
use Rattle.std.proofs.Common.{◌≡◌, ℕ, List, [], ◌∷◌, ◌++◌, map, ◌⊎◌, inl, inr, refl, sym, ap, subst, ◌∙◌}
use Rattle.std.specs.Str.{IsUtf8, IsValidUpTo}
use Rattle.lg_base.specs.Contents.{Contents, file}
use Rattle.lg_gram.specs.declared.entry.Item.{Item}
use Rattle.lg_gram.specs.declared.entry.ItemKind.{ItemKind}
use Rattle.lg_gram.specs.declared.entry.ItemKind.TheVariants as kinds
use Rattle.lg_lex.specs.declared.run.Separators.TheVariants.{WhiteSpace}
use Rattle.lg_lex.specs.Marked.{without_mark}
use Rattle.lg_lex.specs.Runs.{AreRuns, outside, runs_of}
use Rattle.lg_dictread.specs.declared.dict_error.DictError.TheVariants.{WordFile}
use Rattle.lg_dictread.specs.declared.dict_error.WordFileError.TheVariants.{Failed, TooLong, NotUtf8}
use Rattle.lg_dictread.specs.declared.dict_error.WordFileError.{WordFileError}
use Rattle.lg_dictread.specs.Findings.{Found, not_read, too_long, has_bytes, Asked, found_of, AreIn}
use Rattle.lg_dictread.specs.Definitions.{IsTwice, Defined, none_defined, both, Given, gives, fails, FileGives, missing, long, at_fault, runs, KindGives, ItemGives, on_line, defined_as, of_kind, ItemsAnswer, define, refuse_items, with_defined, ItemsGive, no_item, defines, twice, unread}
use Rattle.lg_dictread.proofs.Found.{in_then}
use Rattle.lg_dictread.proofs.NewNames.{NewOrTwice, new_or_twice, apart, one_twice}

-- the laws of runs and of UTF-8
pub record Laws : Type 0 where
  pub cut : (bytes : List ℕ) → AreRuns WhiteSpace (runs_of WhiteSpace outside 0 bytes) 0 bytes
  pub one_cut : (rs : List (List ℕ × ℕ)) (bytes : List ℕ) → AreRuns WhiteSpace rs 0 bytes → runs_of WhiteSpace outside 0 bytes ≡ rs
  pub utf8_or_fault : (bytes : List ℕ) → IsUtf8 bytes ⊎ ((n : ℕ) × IsValidUpTo bytes n)
  pub one_fault : (bytes : List ℕ) (n m : ℕ) → IsValidUpTo bytes n → IsValidUpTo bytes m → n ≡ m
  pub fault_apart : (bytes : List ℕ) (n : ℕ) → IsValidUpTo bytes n → IsUtf8 bytes → ⊥

-- ---- where two calls asked for the same, they found the same

abbrev pub Agree : List Asked → List Asked → Type 0
Agree [] g = Unit {0}
Agree (a ∷ f) [] = Unit {0}
Agree (a ∷ f) (b ∷ g) = a.name ≡ b.name → (a.found ≡ b.found) × Agree f g

pub agree_self : (f : List Asked) → Agree f f
agree_self [] = tt
agree_self (a ∷ f) = λ e. (refl, agree_self f)

pub agree_in : (contents : Contents) (f g : List Asked) → AreIn contents f → AreIn contents g → Agree f g
agree_in contents [] g h k = tt
agree_in contents (a ∷ f) [] h k = tt
agree_in contents (a ∷ f) (b ∷ g) h k = λ e. (h.0 ∙ ap (λ (name : List ℕ). found_of (file contents name)) e ∙ sym k.0, agree_in contents f g h.1 k.1)

pub agree_left : (a b g : List Asked) → Agree (a ++ b) g → Agree a g
agree_left [] b g h = tt
agree_left (x ∷ a) b [] h = tt
agree_left (x ∷ a) b (y ∷ g) h = λ e. let p = h e in (p.0, agree_left a b g p.1)

pub agree_right : (f c d : List Asked) → Agree f (c ++ d) → Agree f c
agree_right [] c d h = tt
agree_right (x ∷ f) [] d h = tt
agree_right (x ∷ f) (y ∷ c) d h = λ e. let p = h e in (p.0, agree_right f c d p.1)

pub agree_rest : (a b d : List Asked) → Agree (a ++ b) (a ++ d) → Agree b d
agree_rest [] b d h = h
agree_rest (x ∷ a) b d h = agree_rest a b d (h refl).1

module _ (laws : Laws) where
  -- ---- what an item gives

  abbrev pub Checked : List ℕ → Type 0
  Checked bytes = IsUtf8 bytes ⊎ ((n : ℕ) × IsValidUpTo bytes n)

  abbrev pub given_checked : (bytes : List ℕ) → Checked bytes → Given
  given_checked bytes (inl utf8) = gives (map (λ r. r.0) (runs_of WhiteSpace outside 0 (without_mark bytes)))
  given_checked bytes (inr (n, h)) = fails (NotUtf8 n)

  abbrev pub given_of : Found → Given
  given_of not_read = fails Failed
  given_of too_long = fails TooLong
  given_of (has_bytes bytes) = given_checked bytes (laws.utf8_or_fault bytes)

  checked_gives : (bytes : List ℕ) (checked : Checked bytes) → FileGives (has_bytes bytes) (given_checked bytes checked)
  checked_gives bytes (inl utf8) = runs bytes (runs_of WhiteSpace outside 0 (without_mark bytes)) utf8 (laws.cut (without_mark bytes))
  checked_gives bytes (inr (n, h)) = at_fault bytes n h

  file_gives : (found : Found) → FileGives found (given_of found)
  file_gives not_read = missing
  file_gives too_long = long
  file_gives (has_bytes bytes) = checked_gives bytes (laws.utf8_or_fault bytes)

  runs_checked : (bytes : List ℕ) (rs : List (List ℕ × ℕ)) (checked : Checked bytes) → IsUtf8 bytes → AreRuns WhiteSpace rs 0 (without_mark bytes) → given_checked bytes checked ≡ gives (map (λ r. r.0) rs)
  runs_checked bytes rs (inl utf8) is are = ap (λ (l : List (List ℕ × ℕ)). gives (map (λ r. r.0) l)) (laws.one_cut rs (without_mark bytes) are)
  runs_checked bytes rs (inr (n, wrong)) is are = absurd (laws.fault_apart bytes n wrong is)

  fault_checked : (bytes : List ℕ) (n : ℕ) (checked : Checked bytes) → IsValidUpTo bytes n → given_checked bytes checked ≡ fails (NotUtf8 n)
  fault_checked bytes n (inl utf8) wrong = absurd (laws.fault_apart bytes n wrong utf8)
  fault_checked bytes n (inr (m, other)) wrong = ap (λ (k : ℕ). fails (NotUtf8 k)) (laws.one_fault bytes m n other wrong)

  is_given : (found : Found) (g : Given) → FileGives found g → given_of found ≡ g
  is_given found g missing = refl
  is_given found g long = refl
  is_given found g (at_fault bytes n wrong) = fault_checked bytes n (laws.utf8_or_fault bytes) wrong
  is_given found g (runs bytes rs is are) = runs_checked bytes rs (laws.utf8_or_fault bytes) is are

  -- what items ask for and give is one, where the same is found
  one_given : (kind : ItemKind) (text : List ℕ) (asked other : List Asked) (g h : Given) → KindGives kind text asked g → KindGives kind text other h → Agree asked other → (asked ≡ other) × (g ≡ h)
  one_given kinds.Word text asked other g h p q agree = (p.0 ∙ sym q.0, p.1 ∙ sym q.1)
  one_given kinds.Macro text asked other g h p q agree = (p.0 ∙ sym q.0, p.1 ∙ sym q.1)
  one_given kinds.File text asked other g h (u, is, yields) (v, also, hands) agree =
      let one : Found → List Asked = λ f. record { name = text; found = f } ∷ [] in
      let same : u ≡ v = (subst (λ (l : List Asked). Agree (one u) l) also (subst (λ (l : List Asked). Agree l other) is agree) refl).0 in
      (is ∙ ap one same ∙ sym also, sym (is_given u g yields) ∙ ap given_of same ∙ is_given v h hands)

  same_names : (a b : List (List ℕ)) → gives a ≡ gives b → a ≡ b
  same_names a b h = cc

  same_cause : (a b : WordFileError) → fails a ≡ fails b → a ≡ b
  same_cause a b h = cc

  not_both : (a : List (List ℕ)) (b : WordFileError) → gives a ≡ fails b → ⊥
  not_both a b h = cc

  -- ---- items have one answer

  pub one_items : (earlier : Defined) (items : List (Item × ℕ)) (asked other : List Asked) (x y : ItemsAnswer) → ItemsGive earlier items asked x → ItemsGive earlier items other y → Agree asked other → (asked ≡ other) × (x ≡ y)
  one_items earlier items asked other x y (no_item e) (no_item f) agree = (refl, refl)
  one_items earlier items asked other x y (defines e item line more names here rest answer given new h) (defines f i l further words there others reply handed fresh k) agree =
      let q = one_given item.kind item.text here there (gives names) (gives words) given handed (agree_right here there others (agree_left here rest (there ++ others) agree)) in
      let same = same_names names words q.1 in
      let tail = one_items (both e (defined_as item.kind (on_line line names))) more rest others answer reply h
      (subst (λ (ns : List (List ℕ)). ItemsGive (both e (defined_as item.kind (on_line line ns))) more others reply) (sym same) k)
      (agree_rest here rest others (subst (λ (l : List Asked). Agree (here ++ rest) (l ++ others)) (sym q.0) agree)) in
      ((λ i. q.0 i ++ tail.0 i), (λ i. with_defined (defined_as item.kind (on_line line (same i))) (tail.1 i)))
  one_items earlier items asked other x y (defines e item line more names here rest answer given new h) (twice f i l further words there error handed again) agree =
      let q = one_given item.kind item.text here there (gives names) (gives words) given handed (agree_left here rest there agree) in
      absurd (apart (of_kind item.kind e) (on_line line names) error new (subst (λ (ns : List (List ℕ)). IsTwice (of_kind item.kind e) (on_line line ns) error) (sym (same_names names words q.1)) again))
  one_items earlier items asked other x y (defines e item line more names here rest answer given new h) (unread f i l further there cause handed) agree =
      absurd (not_both names cause (one_given item.kind item.text here there (gives names) (fails cause) given handed (agree_left here rest there agree)).1)
  one_items earlier items asked other x y (twice e item line more names here error given again) (defines f i l further words there others reply handed fresh k) agree =
      let q = one_given item.kind item.text here there (gives names) (gives words) given handed (agree_right here there others agree) in
      absurd (apart (of_kind item.kind e) (on_line line words) error fresh (subst (λ (ns : List (List ℕ)). IsTwice (of_kind item.kind e) (on_line line ns) error) (same_names names words q.1) again))
  one_items earlier items asked other x y (twice e item line more names here error given again) (twice f i l further words there wrong handed also) agree =
      let q = one_given item.kind item.text here there (gives names) (gives words) given handed agree in
      (q.0, ap refuse_items (one_twice (of_kind item.kind e) (on_line line names) error wrong again (subst (λ (ns : List (List ℕ)). IsTwice (of_kind item.kind e) (on_line line ns) wrong) (sym (same_names names words q.1)) also)))
  one_items earlier items asked other x y (twice e item line more names here error given again) (unread f i l further there cause handed) agree =
      absurd (not_both names cause (one_given item.kind item.text here there (gives names) (fails cause) given handed agree).1)
  one_items earlier items asked other x y (unread e item line more here cause given) (defines f i l further words there others reply handed fresh k) agree =
      absurd (not_both words cause (sym (one_given item.kind item.text here there (fails cause) (gives words) given handed (agree_right here there others agree)).1))
  one_items earlier items asked other x y (unread e item line more here cause given) (twice f i l further words there error handed again) agree =
      absurd (not_both words cause (sym (one_given item.kind item.text here there (fails cause) (gives words) given handed agree).1))
  one_items earlier items asked other x y (unread e item line more here cause given) (unread f i l further there other_cause handed) agree =
      let q = one_given item.kind item.text here there (fails cause) (fails other_cause) given handed agree in
      (q.0, ap (λ (c : WordFileError). refuse_items (WordFile line item.text c)) (same_cause cause other_cause q.1))

  -- ---- and some answer

  module _ (contents : Contents) where
    abbrev pub SomeItems : Defined → List (Item × ℕ) → Type 0
    SomeItems earlier items = (asked : List Asked) × (answer : ItemsAnswer) × AreIn contents asked × ItemsGive earlier items asked answer

    abbrev SomeGiven : ItemKind → List ℕ → Type 0
    SomeGiven kind text = (asked : List Asked) × (g : Given) × AreIn contents asked × KindGives kind text asked g

    some_given : (kind : ItemKind) (text : List ℕ) → SomeGiven kind text
    some_given kinds.Word text = ([], gives (text ∷ []), tt, (refl, refl))
    some_given kinds.Macro text = ([], gives (text ∷ []), tt, (refl, refl))
    some_given kinds.File text =
        let found = found_of (file contents text) in
        (record { name = text; found = found } ∷ [], given_of found, (refl, tt), (found, refl, file_gives found))

    new_some : (earlier : Defined) (item : Item) (line : ℕ) (items : List (Item × ℕ)) (names : List (List ℕ)) (here : List Asked) → NewOrTwice (of_kind item.kind earlier) (on_line line names) → AreIn contents here → ItemGives item here (gives names)
        → SomeItems (both earlier (defined_as item.kind (on_line line names))) items → SomeItems earlier ((item, line) ∷ items)
    new_some earlier item line items names here (inl new) found given (asked, answer, known, h) =
        (here ++ asked, with_defined (defined_as item.kind (on_line line names)) answer, in_then contents here asked found known, defines earlier item line items names here asked answer given new h)
    new_some earlier item line items names here (inr (error, again)) found given more = (here, refuse_items error, found, twice earlier item line items names here error given again)

    given_some : (earlier : Defined) (item : Item) (line : ℕ) (items : List (Item × ℕ)) (here : List Asked) (g : Given) → AreIn contents here → ItemGives item here g
        → ((names : List (List ℕ)) → SomeItems (both earlier (defined_as item.kind (on_line line names))) items) → SomeItems earlier ((item, line) ∷ items)
    given_some earlier item line items here (fails cause) found given more = (here, refuse_items (WordFile line item.text cause), found, unread earlier item line items here cause given)
    given_some earlier item line items here (gives names) found given more =
        new_some earlier item line items names here (new_or_twice (on_line line names) (of_kind item.kind earlier)) found given (more names)

    pub some_items : (items : List (Item × ℕ)) (earlier : Defined) → SomeItems earlier items
    some_items [] earlier = ([], define none_defined, tt, no_item earlier)
    some_items (i ∷ items) earlier =
        let g = some_given i.0.kind i.0.text in
        given_some earlier i.0 i.1 items g.0 g.1 g.2 g.3 (λ names. some_items items (both earlier (defined_as i.0.kind (on_line i.1 names))))
