-- A text has one answer, and asks for one list of word files.
use Rattle.std.proofs.Common.{◌≡◌, ◌≢◌, ℕ, zero, suc, ◌+◌, ◌<◌, ◌≤◌, List, [], ◌∷◌, ◌++◌, length, map, inl, inr, refl, sym, ap, subst, ◌∙◌, arith, length-append}
use Rattle.std.proofs.lemmas.List.{append-nil}
use Rattle.lg_base.specs.Contents.{Contents}
use Rattle.lg_gram.specs.declared.entry.Item.{Item}
use Rattle.lg_gram.specs.Filled.{filled}
use Rattle.lg_lex.specs.declared.location.Location.{Location}
use Rattle.lg_lex.specs.Tokens.{Token}
use Rattle.lg_lex.specs.Spots.{location_left}
use Rattle.lg_expr.specs.declared.fault.Fault as expr_fault
use Rattle.lg_expr.specs.declared.fault.Fault.TheVariants as faults
use Rattle.lg_expr.specs.Grammar.{Rules}
use Rattle.lg_expr.specs.Parts.{Part, names}
use Rattle.lg_expr.specs.Reading.{FirstFault}
use Rattle.lg_dictread.specs.declared.dict_error.DictError.{DictError}
use Rattle.lg_dictread.specs.declared.dict_error.DictError.TheVariants.{Syntax, UnknownMacro, CostForm, TooDeep}
use Rattle.lg_dictread.specs.Entries.{part, Written, AreItems, EntryStands, EntryFault, in_items, in_expression, EntryAnswer, entry, fault, EntryIs}
use Rattle.lg_dictread.specs.Scanning as scanning
use Rattle.lg_dictread.specs.Lines.{part_left, line_of, entry_line}
use Rattle.lg_dictread.specs.Definitions.{Defined, ItemsAnswer, define, refuse_items, ItemsGive}
use Rattle.lg_dictread.specs.Texts as texts
use Rattle.lg_dictread.specs.Texts.{Earlier, rules_after, Meaning, meaning_of, then_entry, IsSmall, IsLarge, IsErrorOf, EntryOutcome, means, fails, EntryGives, whole, at_fault, large, at_items, TextAnswer, stands, refuse, with_meaning, TextIs, ended}
use Rattle.lg_dictread.specs.Findings.{Asked, AreIn}
use Rattle.lg_dictread.proofs.Found.{in_then}
use Rattle.lg_dictread.proofs.ItemAnswers.{Laws, Agree, agree_left, agree_right, agree_rest, one_items, SomeItems, some_items}
use Rattle.lg_dictread.proofs.Measured.{SmallOrLarge, small_or_large, not_large, one_large}

-- ---- the error of a fault

named_part : (r : Rules) (body left : List Token) → FirstFault Token part r body faults.UnknownMacro left → (m : List ℕ) × (part_left left ≡ names m)
named_part r body [] h = absurd h.stops
named_part r body (t ∷ rest) h = (h.stops.0, h.stops.1)

pub named : (r : Rules) (ts : List Token) (f : expr_fault.Fault) (left : List Token) → EntryFault r ts f left → f ≡ faults.UnknownMacro → (m : List ℕ) × (part_left left ≡ names m)
named r ts f left (in_items is are stops) e = absurd cc
named r ts f left (in_expression is mark body any are c h) e = named_part r body left (subst (λ (x : expr_fault.Fault). FirstFault Token part r body x left) e h)

pub error_at : (p : Location) (q : Part) (f : expr_fault.Fault) → (f ≡ faults.UnknownMacro → (m : List ℕ) × (q ≡ names m)) → (error : DictError) × IsErrorOf p q f error
error_at p q faults.Syntax has_name = (Syntax p.line p.column, refl)
error_at p q faults.CostForm has_name = (CostForm p.line, refl)
error_at p q faults.UnknownMacro has_name = let m = has_name refl in (UnknownMacro p.line m.0, (m.0, m.1, refl))
error_at p q faults.TooDeep has_name = (TooDeep p.line, refl)

pub same_error : (p : Location) (q : Part) (f : expr_fault.Fault) (d e : DictError) → IsErrorOf p q f d → IsErrorOf p q f e → d ≡ e
same_error p q faults.Syntax d e h k = h ∙ sym k
same_error p q faults.CostForm d e h k = h ∙ sym k
same_error p q faults.UnknownMacro d e (m, is, h) (n, also, k) = let same : m ≡ n = cc in h ∙ ap (UnknownMacro p.line) same ∙ sym k
same_error p q faults.TooDeep d e h k = h ∙ sym k

-- ---- an entry is not empty

items_shorter : (is : List (Item × ℕ)) (ts rest : List Token) → AreItems is ts rest → length rest ≤ length ts
items_shorter [] ts rest h = omega (arith, ap length h)
items_shorter (i ∷ is) [] rest h = absurd h
items_shorter (i ∷ is) (t ∷ ts) rest h = let shorter = items_shorter is ts rest h.2 in omega arith

pub shorter : (r : Rules) (ts : List Token) (e : Written) (rest : List Token) → EntryStands r ts e rest → length rest < length ts
shorter r ts e rest h =
    let items = items_shorter e.items ts (h.mark ∷ h.body) h.are_items in
    omega (arith, items, ap length h.stands.split, length-append h.stands.front rest)

-- the laws of entries
pub record EntryLaws : Type 0 where
  pub some : (r : Rules) (ts : List Token) → EntryIs r ts (scanning.answer_of r ts)
  pub one : (r : Rules) (ts : List Token) (x y : EntryAnswer) → EntryIs r ts x → EntryIs r ts y → x ≡ y

module _ (laws : Laws) (entry_laws : EntryLaws) (bytes : List ℕ) where
  abbrev lined : Written → List (Item × ℕ)
  lined e = map (λ i. (i.0, line_of bytes i)) e.items

  module _ (earlier : Earlier) where
    -- ---- an entry has one outcome

    abbrev by_items : Written → List Token → ItemsAnswer → EntryOutcome
    by_items e rest (define new) = means (meaning_of bytes earlier e new) new rest
    by_items e rest (refuse_items error) = fails error

    -- what is found and the outcome, by the measures of the entry
    abbrev Stood : (e : Written) → List Token → List Asked → EntryOutcome → SmallOrLarge (filled earlier.formulas e.expr) (entry_line bytes e.items) → Type 0
    Stood e rest asked o (inl small) = (x : ItemsAnswer) × ItemsGive earlier.defined (lined e) asked x × (o ≡ by_items e rest x)
    Stood e rest asked o (inr (error, h)) = (asked ≡ []) × (o ≡ fails error)

    abbrev Sized : (e : Written) → List Token → List Asked → EntryOutcome → Type 0
    Sized e rest asked o = Stood e rest asked o (small_or_large (filled earlier.formulas e.expr) (entry_line bytes e.items))

    abbrev ByAnswer : (ts : List Token) (a : EntryAnswer) → EntryIs (rules_after earlier) ts a → List Asked → EntryOutcome → Type 0
    ByAnswer ts (entry e rest) h asked o = Sized e rest asked o
    ByAnswer ts (fault f left) h asked o = (asked ≡ []) × (o ≡ fails (error_at (location_left bytes left) (part_left left) f (named (rules_after earlier) ts f left h)).0)

    abbrev IsOutcome : List Token → List Asked → EntryOutcome → Type 0
    IsOutcome ts asked o = ByAnswer ts (scanning.answer_of (rules_after earlier) ts) (entry_laws.some (rules_after earlier) ts) asked o

    small_stood : (e : Written) (rest : List Token) (asked : List Asked) (x : ItemsAnswer) (s : SmallOrLarge (filled earlier.formulas e.expr) (entry_line bytes e.items)) → IsSmall (filled earlier.formulas e.expr)
        → ItemsGive earlier.defined (lined e) asked x → Stood e rest asked (by_items e rest x) s
    small_stood e rest asked x (inl small) is give = (x, give, refl)
    small_stood e rest asked x (inr (error, h)) is give = absurd (not_large (filled earlier.formulas e.expr) (entry_line bytes e.items) error is h)

    large_stood : (e : Written) (rest : List Token) (error : DictError) (s : SmallOrLarge (filled earlier.formulas e.expr) (entry_line bytes e.items)) → IsLarge (filled earlier.formulas e.expr) (entry_line bytes e.items) error
        → Stood e rest [] (fails error) s
    large_stood e rest error (inl small) is = absurd (not_large (filled earlier.formulas e.expr) (entry_line bytes e.items) error small is)
    large_stood e rest error (inr (other, h)) is = (refl, ap fails (sym (one_large (filled earlier.formulas e.expr) (entry_line bytes e.items) other error h is)))

    stood : (ts : List Token) (a : EntryAnswer) (h : EntryIs (rules_after earlier) ts a) (e : Written) (rest : List Token) (asked : List Asked) (o : EntryOutcome) → a ≡ entry e rest → Sized e rest asked o → ByAnswer ts a h asked o
    stood ts (entry d us) h e rest asked o same is =
        let written : e ≡ d = cc in
        let left : rest ≡ us = cc in
        subst (λ (w : Written). Sized w us asked o) written (subst (λ (l : List Token). Sized e l asked o) left is)
    stood ts (fault f left) h e rest asked o same is = absurd cc

    faulted : (ts : List Token) (a : EntryAnswer) (h : EntryIs (rules_after earlier) ts a) (f : expr_fault.Fault) (left : List Token) (error : DictError) → a ≡ fault f left → IsErrorOf (location_left bytes left) (part_left left) f error
        → ByAnswer ts a h [] (fails error)
    faulted ts (entry d us) h f left error same is = absurd cc
    faulted ts (fault g us) h f left error same is =
        let fault_same : f ≡ g = cc in
        let left_same : left ≡ us = cc in
        let d = error_at (location_left bytes us) (part_left us) g (named (rules_after earlier) ts g us h) in (
          refl,
          ap fails (sym (same_error (location_left bytes us) (part_left us) g d.0 error d.1
              (subst (λ (x : List Token). IsErrorOf (location_left bytes x) (part_left x) g error) left_same (subst (λ (x : expr_fault.Fault). IsErrorOf (location_left bytes left) (part_left left) x error) fault_same is)))),
        )

    entry_is : (ts : List Token) (e : Written) (rest : List Token) (asked : List Asked) (o : EntryOutcome) → EntryStands (rules_after earlier) ts e rest → Sized e rest asked o → IsOutcome ts asked o
    entry_is ts e rest asked o h is =
        let r = rules_after earlier in
        stood ts (scanning.answer_of r ts) (entry_laws.some r ts) e rest asked o (entry_laws.one r ts (scanning.answer_of r ts) (entry e rest) (entry_laws.some r ts) h) is

    small_is : (ts : List Token) (e : Written) (rest : List Token) (asked : List Asked) (x : ItemsAnswer) → EntryStands (rules_after earlier) ts e rest → IsSmall (filled earlier.formulas e.expr)
        → ItemsGive earlier.defined (lined e) asked x → IsOutcome ts asked (by_items e rest x)
    small_is ts e rest asked x h small give =
        entry_is ts e rest asked (by_items e rest x) h (small_stood e rest asked x (small_or_large (filled earlier.formulas e.expr) (entry_line bytes e.items)) small give)

    is_outcome : (ts : List Token) (asked : List Asked) (o : EntryOutcome) → EntryGives bytes earlier ts asked o → IsOutcome ts asked o
    is_outcome ts asked o (whole e rest given new h small give) = small_is ts e rest given (define new) h small give
    is_outcome ts asked o (at_fault f left error h is) =
        let r = rules_after earlier in
        faulted ts (scanning.answer_of r ts) (entry_laws.some r ts) f left error (entry_laws.one r ts (scanning.answer_of r ts) (fault f left) (entry_laws.some r ts) h) is
    is_outcome ts asked o (large e rest error h is) =
        entry_is ts e rest [] (fails error) h (large_stood e rest error (small_or_large (filled earlier.formulas e.expr) (entry_line bytes e.items)) is)
    is_outcome ts asked o (at_items e rest given error h small give) = small_is ts e rest given (refuse_items error) h small give

    one_stood : (e : Written) (rest : List Token) (s : SmallOrLarge (filled earlier.formulas e.expr) (entry_line bytes e.items)) (asked other : List Asked) (o p : EntryOutcome) → Stood e rest asked o s → Stood e rest other p s → Agree asked other → (asked ≡ other) × (o ≡ p)
    one_stood e rest (inl small) asked other o p (x, give, is) (y, yield, also) agree =
        let q = one_items laws earlier.defined (lined e) asked other x y give yield agree in
        (q.0, is ∙ ap (by_items e rest) q.1 ∙ sym also)
    one_stood e rest (inr (error, passed)) asked other o p h k agree = (h.0 ∙ sym k.0, h.1 ∙ sym k.1)

    one_answer : (ts : List Token) (a : EntryAnswer) (is : EntryIs (rules_after earlier) ts a) (asked other : List Asked) (o p : EntryOutcome) → ByAnswer ts a is asked o → ByAnswer ts a is other p → Agree asked other → (asked ≡ other) × (o ≡ p)
    one_answer ts (entry e rest) is asked other o p h k agree = one_stood e rest (small_or_large (filled earlier.formulas e.expr) (entry_line bytes e.items)) asked other o p h k agree
    one_answer ts (fault f left) is asked other o p h k agree = (h.0 ∙ sym k.0, h.1 ∙ sym k.1)

    pub one_outcome : (ts : List Token) (asked other : List Asked) (o p : EntryOutcome) → EntryGives bytes earlier ts asked o → EntryGives bytes earlier ts other p → Agree asked other → (asked ≡ other) × (o ≡ p)
    one_outcome ts asked other o p h k agree =
        one_answer ts (scanning.answer_of (rules_after earlier) ts) (entry_laws.some (rules_after earlier) ts) asked other o p (is_outcome ts asked o h) (is_outcome ts other p k) agree

    -- ---- and some outcome

    module _ (contents : Contents) where
      abbrev pub SomeOutcome : List Token → Type 0
      SomeOutcome ts = (asked : List Asked) × (o : EntryOutcome) × AreIn contents asked × EntryGives bytes earlier ts asked o

      items_some : (ts : List Token) (e : Written) (rest : List Token) → EntryStands (rules_after earlier) ts e rest → IsSmall (filled earlier.formulas e.expr) → SomeItems laws contents earlier.defined (lined e) → SomeOutcome ts
      items_some ts e rest h small (asked, define new, found, give) = (asked, means (meaning_of bytes earlier e new) new rest, found, whole e rest asked new h small give)
      items_some ts e rest h small (asked, refuse_items error, found, give) = (asked, fails error, found, at_items e rest asked error h small give)

      sized_some : (ts : List Token) (e : Written) (rest : List Token) → SmallOrLarge (filled earlier.formulas e.expr) (entry_line bytes e.items) → EntryStands (rules_after earlier) ts e rest → SomeOutcome ts
      sized_some ts e rest (inl small) h = items_some ts e rest h small (some_items laws contents (lined e) earlier.defined)
      sized_some ts e rest (inr (error, is)) h = ([], fails error, tt, large e rest error h is)

      answer_some : (ts : List Token) (a : EntryAnswer) → EntryIs (rules_after earlier) ts a → SomeOutcome ts
      answer_some ts (entry e rest) h = sized_some ts e rest (small_or_large (filled earlier.formulas e.expr) (entry_line bytes e.items)) h
      answer_some ts (fault f left) h =
          let d = error_at (location_left bytes left) (part_left left) f (named (rules_after earlier) ts f left h) in
          ([], fails d.0, tt, at_fault f left d.0 h d.1)

      pub some_outcome : (ts : List Token) → SomeOutcome ts
      some_outcome ts = answer_some ts (scanning.answer_of (rules_after earlier) ts) (entry_laws.some (rules_after earlier) ts)

  -- ---- texts

  -- an entry leaves fewer tokens
  rest_shorter : (earlier : Earlier) (ts : List Token) (asked : List Asked) (o : EntryOutcome) (m : Meaning) (new : Defined) (rest : List Token) → o ≡ means m new rest → EntryGives bytes earlier ts asked o → length rest < length ts
  rest_shorter earlier ts asked o m new rest same (whole e left given d h small give) = let is : left ≡ rest = cc in subst (λ (l : List Token). length l < length ts) is (shorter (rules_after earlier) ts e left h)
  rest_shorter earlier ts asked o m new rest same (at_fault f left error h is) = absurd cc
  rest_shorter earlier ts asked o m new rest same (large e left error h is) = absurd cc
  rest_shorter earlier ts asked o m new rest same (at_items e left given error h small give) = absurd cc

  module _ (contents : Contents) where
    abbrev pub SomeText : Earlier → List Token → Type 0
    SomeText earlier ts = (asked : List Asked) × (answer : TextAnswer) × AreIn contents asked × TextIs bytes earlier ts asked answer

    -- what may come after the outcome of an entry
    abbrev pub SomeMore : Earlier → List Token → List Asked → Type 0
    SomeMore earlier ts asked = (more : List Asked) × (answer : TextAnswer) × AreIn contents more × TextIs bytes earlier ts (asked ++ more) answer

    after_outcome : (earlier : Earlier) (ts : List Token) (asked : List Asked) (o : EntryOutcome) → ts ≢ [] → EntryGives bytes earlier ts asked o
        → ((next : Earlier) (rest : List Token) → length rest < length ts → SomeText next rest) → SomeMore earlier ts asked
    after_outcome earlier ts asked (means m new rest) some h next =
        let more = next (then_entry earlier new m) rest (rest_shorter earlier ts asked (means m new rest) m new rest refl h) in
        (more.0, with_meaning m more.1, more.2, texts.entry earlier ts rest asked more.0 m new more.1 some h more.3)
    after_outcome earlier ts asked (fails error) some h next =
        ([], refuse error, tt, subst (λ (l : List Asked). TextIs bytes earlier ts l (refuse error)) (sym (append-nil asked)) (texts.fault earlier ts asked error some h))

    some_within : (n : ℕ) (earlier : Earlier) (ts : List Token) → length ts < n → SomeText earlier ts
    some_within zero earlier ts low = absurd (omega arith)
    some_within (suc n) earlier [] low = ([], stands [], tt, ended earlier)
    some_within (suc n) earlier (t ∷ ts) low =
        let o = some_outcome earlier contents (t ∷ ts) in
        let more = after_outcome earlier (t ∷ ts) o.0 o.1 (λ q. cc) o.3 (λ next rest less. some_within n next rest (omega arith)) in
        (o.0 ++ more.0, more.1, in_then contents o.0 more.0 o.2 more.2, more.3)

    pub some_text : (earlier : Earlier) (ts : List Token) → SomeText earlier ts
    some_text earlier ts = some_within (length ts + 1) earlier ts (omega arith)

    pub some_more : (earlier : Earlier) (ts : List Token) (asked : List Asked) (o : EntryOutcome) → ts ≢ [] → EntryGives bytes earlier ts asked o → SomeMore earlier ts asked
    some_more earlier ts asked o some h = after_outcome earlier ts asked o some h (λ next rest less. some_text next rest)

  pub one_text : (earlier : Earlier) (ts : List Token) (asked other : List Asked) (x y : TextAnswer) → TextIs bytes earlier ts asked x → TextIs bytes earlier ts other y → Agree asked other → (asked ≡ other) × (x ≡ y)
  one_text earlier ts asked other x y (ended e) (ended f) agree = (refl, refl)
  one_text earlier ts asked other x y (ended e) (texts.entry f us rest given more m new answer any h next) agree = absurd (any refl)
  one_text earlier ts asked other x y (ended e) (texts.fault f us given error any h) agree = absurd (any refl)
  one_text earlier ts asked other x y (texts.entry e us rest given more m new answer any h next) (ended f) agree = absurd (any refl)
  one_text earlier ts asked other x y (texts.entry e us rest given more m new answer any h next) (texts.entry f vs left handed others n also reply some k further) agree =
      let q = one_outcome e us given handed (means m new rest) (means n also left) h k (agree_right given handed others (agree_left given more (handed ++ others) agree)) in
      let meanings : n ≡ m = let same = q.1 in cc in
      let names_same : also ≡ new = let same = q.1 in cc in
      let left_same : left ≡ rest = let same = q.1 in cc in
      let tail = one_text (then_entry e new m) rest more others answer reply next
      (subst (λ (l : List Token). TextIs bytes (then_entry e new m) l others reply) left_same
      (subst (λ (d : Defined). TextIs bytes (then_entry e d m) left others reply) names_same
      (subst (λ (j : Meaning). TextIs bytes (then_entry e also j) left others reply) meanings further)))
      (agree_rest given more others (subst (λ (l : List Asked). Agree (given ++ more) (l ++ others)) (sym q.0) agree)) in
      ((λ i. q.0 i ++ tail.0 i), (λ i. with_meaning (sym meanings i) (tail.1 i)))
  one_text earlier ts asked other x y (texts.entry e us rest given more m new answer any h next) (texts.fault f vs handed error some k) agree =
      let q = (one_outcome e us given handed (means m new rest) (fails error) h k (agree_left given more handed agree)).1 in absurd cc
  one_text earlier ts asked other x y (texts.fault e us given error any h) (ended f) agree = absurd (any refl)
  one_text earlier ts asked other x y (texts.fault e us given error any h) (texts.entry f vs left handed others n also reply some k further) agree =
      let q = (one_outcome e us given handed (fails error) (means n also left) h k (agree_right given handed others agree)).1 in absurd cc
  one_text earlier ts asked other x y (texts.fault e us given error any h) (texts.fault f vs handed wrong some k) agree =
      let q = one_outcome e us given handed (fails error) (fails wrong) h k agree in
      let errors : error ≡ wrong = let same = q.1 in cc in
      (q.0, ap refuse errors)
