-- Things of one kind read one after another, each by its number and its key.
use Rattle.std.proofs.Common.{◌≡◌, ℕ, suc, ◌+◌, ◌<◌, ◌≤◌, List, [], ◌∷◌, ◌++◌, length, map, drop, get_or, refl, ap, sym, ◌∙◌, subst, arith}
use Rattle.std.specs.List.{flat_map}
use Rattle.std.specs.declared.vec.Vec.{Vec}
use Rattle.std.proofs.Math.Seq.{drop-cons}
use Rattle.std.proofs.Math.ListN.{length-drop}
use Rattle.std.proofs.lemmas.List.{append_assoc, append-nil}
use Rattle.lg_text.specs.Shown.{closed}
use Rattle.lg_audit.specs.Fronts.{Leaves, HasNone, IsRead, Anything, AreFormed, numbered_lines}
use Rattle.lg_audit.specs.declared.shown.ShownReply.{ShownReply as Reply}
use Rattle.lg_audit.specs.Answers.{reply_of, replies_of}
use Rattle.lg_audit.proofs.Singles.{joined, pushed}

-- all for these keys stand at the front of the text, before s
pub record HasAll {C X : Type 0} (Form : C → X → Type 0) (lines : ℕ → C → X → List (List ℕ)) (n : ℕ) (cs : List C) (text s : List ℕ) : Type 0 where
  pub xs : List X
  pub form : AreFormed Form cs xs
  pub is : Leaves (numbered_lines lines n cs xs) text s

-- The keys from number n on are left, and the text behind what was read: all in the text gives what is left, and what is left gives all.
pub record IsChain {C X : Type 0} (Form : C → X → Type 0) (lines : ℕ → C → X → List (List ℕ)) (keys : List C) (text : List ℕ) (n : ℕ) (cs : List C) (done : List X) (left : List ℕ) : Type 0 where
  pub gives : (s : List ℕ) → HasAll Form lines 1 keys text s → HasAll Form lines n cs left s
  pub owes : (xs : List X) (s : List ℕ) → AreFormed Form cs xs → Leaves (numbered_lines lines n cs xs) left s → AreFormed Form keys (done ++ xs) × Leaves (numbered_lines lines 1 keys (done ++ xs)) text s

module _ {C X : Type 0} (Form : C → X → Type 0) (lines : ℕ → C → X → List (List ℕ)) (keys : List C) (text : List ℕ) where
  pub begun : IsChain Form lines keys text 1 keys [] text
  begun = record { gives = λ s has. has; owes = λ xs s form is. (form, is) }

  module _ (n : ℕ) (cs : List C) (done : List X) (left : List ℕ) (chain : IsChain Form lines keys text n cs done left) where
    module _ (c : C) (cs' : List C) (split : cs ≡ c ∷ cs') where
      pub next : (m : ℕ) (done' : List X) (x : X) (rest : List ℕ) → m ≡ n + 1 → done' ≡ done ++ x ∷ [] → IsRead (Form c) (lines n c) Anything left x rest
          → IsChain Form lines keys text m cs' done' rest
      next m done' x rest m_is pushed read = record {
        gives = λ s has. let h = chain.gives s has in by s h.xs (subst (λ (ds : List C). AreFormed Form ds h.xs) split h.form) (h.is ∙ ap (λ (ds : List C). flat_map closed (numbered_lines lines n ds h.xs) ++ s) split);
        owes = λ xs s form is.
            let all_lines : Leaves (numbered_lines lines n (c ∷ cs') (x ∷ xs)) left s =
            read.is ∙ ap (λ (t : List ℕ). flat_map closed (lines n c x) ++ t) (is ∙ ap (λ (k : ℕ). flat_map closed (numbered_lines lines k cs' xs) ++ s) m_is)
            ∙ sym (joined (lines n c x) (numbered_lines lines (n + 1) cs' xs) s) in
            let owed = chain.owes (x ∷ xs) s (subst (λ (ds : List C). AreFormed Form ds (x ∷ xs)) (sym split) (read.form, form))
            (all_lines ∙ ap (λ (ds : List C). flat_map closed (numbered_lines lines n ds (x ∷ xs)) ++ s) (sym split)) in
            let same : done ++ x ∷ xs ≡ done' ++ xs = sym (append_assoc done (x ∷ []) xs) ∙ ap (λ (d : List X). d ++ xs) (sym pushed) in
            (subst (AreFormed Form keys) same owed.0, owed.1 ∙ ap (λ (d : List X). flat_map closed (numbered_lines lines 1 keys d) ++ s) same);
      }
        where
          by : (s : List ℕ) (xs : List X) → AreFormed Form (c ∷ cs') xs → left ≡ flat_map closed (numbered_lines lines n (c ∷ cs') xs) ++ s → HasAll Form lines m cs' rest s
          by s [] form is = absurd form
          by s (y ∷ ys) form is = record {
            xs = ys;
            form = form.1;
            is =
                sym (read.only y (flat_map closed (numbered_lines lines (n + 1) cs' ys) ++ s) form.0 tt (is ∙ joined (lines n c y) (numbered_lines lines (n + 1) cs' ys) s))
                ∙ ap (λ (k : ℕ). flat_map closed (numbered_lines lines k cs' ys) ++ s) (sym m_is);
          }

      pub broken : HasNone (Form c) (lines n c) left → HasNone (AreFormed Form keys) (numbered_lines lines 1 keys) text
      broken lacks = record {
        none = λ xs s form is.
            let h = chain.gives s (record { xs = xs; form = form; is = is }) in
            by s h.xs (subst (λ (ds : List C). AreFormed Form ds h.xs) split h.form) (h.is ∙ ap (λ (ds : List C). flat_map closed (numbered_lines lines n ds h.xs) ++ s) split);
      }
        where
          by : (s : List ℕ) (xs : List X) → AreFormed Form (c ∷ cs') xs → left ≡ flat_map closed (numbered_lines lines n (c ∷ cs') xs) ++ s → ⊥
          by s [] form is = form
          by s (y ∷ ys) form is = lacks.none y _ form.0 (is ∙ joined (lines n c y) (numbered_lines lines (n + 1) cs' ys) s)

    pub ended : cs ≡ [] → IsRead (AreFormed Form keys) (numbered_lines lines 1 keys) Anything text done left
    ended end =
        let owed = chain.owes [] left (subst (λ (ds : List C). AreFormed Form ds []) (sym end) tt) (ap (λ (ds : List C). flat_map closed (numbered_lines lines n ds []) ++ left) (sym end)) in record {
          form = subst (AreFormed Form keys) (append-nil done) owed.0;
          is = owed.1 ∙ ap (λ (d : List X). flat_map closed (numbered_lines lines 1 keys d) ++ left) (append-nil done);
          only = λ xs s form any is.
              let h = chain.gives s (record { xs = xs; form = form; is = is }) in
              sym (h.is ∙ ap (λ (ds : List C). flat_map closed (numbered_lines lines n ds h.xs) ++ s) end);
        }

-- ---- keys by their places

pub split_at_place : {A C : Type 0} (f : A → C) (xs : List A) (i : ℕ) (x : A) → i < length xs → x ≡ get_or xs i x → map f (drop i xs) ≡ f x ∷ map f (drop (i + 1) xs)
split_at_place f xs i x within is =
    let next : suc i ≡ i + 1 = omega arith in
    ap (map f) (drop-cons xs i x within) ∙ ap (λ y. f y ∷ map f (drop (suc i) xs)) (sym is) ∙ ap (λ (n : ℕ). f x ∷ map f (drop n xs)) next

pub none_left : {A C : Type 0} (f : A → C) (xs : List A) (i : ℕ) → length xs ≤ i → map f (drop i xs) ≡ []
none_left f xs i past = ap (map f) (empty (drop i xs) (omega (arith, length-drop i xs)))
  where
    empty : {A : Type 0} (ys : List A) → length ys ≡ 0 → ys ≡ []
    empty [] e = refl
    empty (y ∷ ys) e = absurd (omega (arith, e))

pub replies_pushed : {A : Type 0} (new old : List (Vec Reply A)) (x : Vec Reply A) → new ≡ old ++ x ∷ [] → replies_of new ≡ replies_of old ++ map reply_of x.items ∷ []
replies_pushed {A} new old x is = pushed (λ (rs : Vec Reply A). map reply_of rs.items) new old x is
