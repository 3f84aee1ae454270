-- The notes of a session as they grow.
use Rattle.std.proofs.Common.{◌≡◌, ◌≢◌, ◌==◌, ℕ, suc, ◌+◌, ◌≤◌, ◌⊎◌, inl, inr, ⊎_elim, Bool, true, false, cond, List, [], ◌∷◌, ◌++◌, length, count_by, All, AllPairs, Option, Some, None, refl, ap, sym, subst, ◌∙◌, arith, append_assoc, append-nil, length-append, eq-eqb, ne_eqb}
use Rattle.std.proofs.lemmas.List.Elements.{filter-append, All-head, All-tail, All-push, All-nil, All-cons}
use Rattle.std.proofs.lemmas.List.Kept.{AllPairs-cons}
use Rattle.std.proofs.lemmas.List.Sums.{sum_by-append}
use Rattle.lg_core.specs.declared.note.Note.{Note}
use Rattle.lg_core.specs.declared.note.NoteKind.{NoteKind}
use Rattle.lg_core.specs.declared.note.NoteKind.TheVariants.{Listed, Beyond, Paged, NoListing, Published, Refused, At}
use Rattle.lg_core.specs.declared.state.Hold.{Hold}
use Rattle.lg_core.specs.Lawful.{notes_of, is_published, is_listing, is_paged, rises, Leaves}

-- ---- lists with one element more

module _ {A : Type 0} where
  -- a part of a longer list ends with the last element, or is a part of the list before it
  pub split_last : (xs : List A) (x : A) (before : List A) (y : A) (after : List A) → xs ++ x ∷ [] ≡ before ++ y ∷ after
      → ((after ≡ []) × (before ≡ xs) × (y ≡ x)) ⊎ ((rest : List A) × (after ≡ rest ++ x ∷ []) × (xs ≡ before ++ y ∷ rest))
  split_last [] x [] y after e = inl (cc e, refl, cc e)
  split_last [] x (b ∷ bs) y after e = let long = ap length e in absurd (omega (arith, length-append bs (y ∷ after)))
  split_last (z ∷ zs) x [] y after e = inr (zs, cc e, cc e)
  split_last (z ∷ zs) x (b ∷ bs) y after e =
      ⊎_elim
      (λ h. inl (h.0, cc (h.1, e), h.2))
      (λ h. inr (h.0, h.1, cc (h.2, e)))
      (split_last zs x bs y after (cc e))

  pub all_at : (P : A → Type 0) (before : List A) (x : A) (after : List A) → All P (before ++ x ∷ after) → P x
  all_at P [] x after h = All-head P x after h
  all_at P (b ∷ bs) x after h = all_at P bs x after (All-tail P b (bs ++ x ∷ after) h)

  heads : (R : A → A → Type 0) (y : A) (ys : List A) → AllPairs R (y ∷ ys) → All (R y) ys
  heads R y ys all k d h = all 0 (suc k) d (omega arith) (omega (arith, h))

  tails : (R : A → A → Type 0) (y : A) (ys : List A) → AllPairs R (y ∷ ys) → AllPairs R ys
  tails R y ys all i j d a b = all (suc i) (suc j) d (omega (arith, a)) (omega (arith, b))

  pub pairs_push : (R : A → A → Type 0) (xs : List A) (x : A) → AllPairs R xs → All (λ y. R y x) xs → AllPairs R (xs ++ x ∷ [])
  pairs_push R [] x all below = λ i j d a b. absurd (omega arith)
  pairs_push R (y ∷ ys) x all below =
      AllPairs-cons R y (ys ++ x ∷ []) (All-push (R y) ys x (heads R y ys all) (All-head (λ z. R z x) y ys below))
      (pairs_push R ys x (tails R y ys all) (All-tail (λ z. R z x) y ys below))

-- ---- the notes of one session

pub own_more : (s : ℕ) (notes : List Note) (n : Note) → n.session ≡ s → notes_of s (notes ++ n ∷ []) ≡ notes_of s notes ++ n ∷ []
own_more s notes n is = filter-append (λ m. m.session == s) notes (n ∷ []) ∙ ap (λ b. notes_of s notes ++ cond b (n ∷ []) []) (eq-eqb n.session s is)

pub others_same : (s : ℕ) (notes : List Note) (n : Note) → n.session ≢ s → notes_of s (notes ++ n ∷ []) ≡ notes_of s notes
others_same s notes n apart = filter-append (λ m. m.session == s) notes (n ∷ []) ∙ ap (λ b. notes_of s notes ++ cond b (n ∷ []) []) (ne_eqb n.session s apart) ∙ append-nil (notes_of s notes)

-- ---- the listing that is left

abbrev pub Holds : List Note → Option Hold → Type 0
Holds notes None = (hold : Hold) → Leaves notes hold → ⊥
Holds notes (Some hold) = Leaves notes hold

abbrev is_listed : NoteKind → Bool
is_listed Listed = true
is_listed _ = false

not_listed : (kind : NoteKind) → is_listing kind ≡ false → kind ≡ Listed → ⊥
not_listed kind plain is = let e : true ≡ false = sym (ap is_listing is) ∙ plain in absurd (cc e)

-- a note that is no listing
goes_on_by : (notes : List Note) (n : Note) (hold : Hold) → is_listing n.kind ≡ false → Leaves notes hold → Leaves (notes ++ n ∷ []) (record hold { mores = hold.mores + cond (is_paged n.kind) 1 0 })
goes_on_by notes n hold plain left =
    let one : 0 + cond (is_paged n.kind) 1 0 ≡ cond (is_paged n.kind) 1 0 = omega arith in
    let counted : count_by (λ m. is_paged m.kind) (left.after ++ n ∷ []) ≡ count_by (λ m. is_paged m.kind) left.after + cond (is_paged n.kind) 1 0 =
    sum_by-append (λ m. cond (is_paged m.kind) 1 0) left.after (n ∷ []) ∙ ap (λ k. count_by (λ m. is_paged m.kind) left.after + k) one in record {
      before = left.before;
      note = left.note;
      after = left.after ++ n ∷ [];
      parts = ap (λ (l : List Note). l ++ n ∷ []) left.parts ∙ append_assoc left.before (left.note ∷ left.after) (n ∷ []);
      listed = left.listed;
      last = All-push (λ m. is_listing m.kind ≡ false) left.after n left.last plain;
      version = left.version;
      command = left.command;
      mores = ap (λ k. k + cond (is_paged n.kind) 1 0) left.mores ∙ sym counted;
    }

none_before : (notes : List Note) (n : Note) → is_listing n.kind ≡ false → ((hold : Hold) → Leaves notes hold → ⊥) → (hold : Hold) → Leaves (notes ++ n ∷ []) hold → ⊥
none_before notes n plain none hold left =
    ⊎_elim
    (λ h. not_listed n.kind plain (ap (λ (m : Note). m.kind) (sym h.2) ∙ left.listed))
    (λ h. none (record hold { mores = count_by (λ m. is_paged m.kind) h.0 }) (record {
      before = left.before;
      note = left.note;
      after = h.0;
      parts = h.2;
      listed = left.listed;
      last = all_front h.0 (subst (All (λ m. is_listing m.kind ≡ false)) h.1 left.last);
      version = left.version;
      command = left.command;
      mores = refl;
    }))
    (split_last notes n left.before left.note left.after left.parts)
  where
    all_front : (rest : List Note) → All (λ m. is_listing m.kind ≡ false) (rest ++ n ∷ []) → All (λ m. is_listing m.kind ≡ false) rest
    all_front [] h = All-nil (λ m. is_listing m.kind ≡ false)
    all_front (m ∷ ms) h = All-cons (λ m. is_listing m.kind ≡ false) m ms (All-head (λ m. is_listing m.kind ≡ false) m (ms ++ n ∷ []) h) (all_front ms (All-tail (λ m. is_listing m.kind ≡ false) m (ms ++ n ∷ []) h))

-- a note that is neither a listing nor a page
pub holds_same : (notes : List Note) (n : Note) (held : Option Hold) → is_listing n.kind ≡ false → is_paged n.kind ≡ false → Holds notes held → Holds (notes ++ n ∷ []) held
holds_same notes n None plain no_page h = none_before notes n plain h
holds_same notes n (Some hold) plain no_page h =
    let same : hold.mores + cond (is_paged n.kind) 1 0 ≡ hold.mores = ap (λ b. hold.mores + cond b 1 0) no_page ∙ omega arith in
    subst (λ (k : ℕ). Leaves (notes ++ n ∷ []) (record hold { mores = k })) same (goes_on_by notes n hold plain h)

pub holds_page : (notes : List Note) (n : Note) (hold : Hold) → is_listing n.kind ≡ false → is_paged n.kind ≡ true → Holds notes (Some hold) → Holds (notes ++ n ∷ []) (Some (record hold { mores = hold.mores + 1 }))
holds_page notes n hold plain page h = subst (λ (b : Bool). Leaves (notes ++ n ∷ []) (record hold { mores = hold.mores + cond b 1 0 })) page (goes_on_by notes n hold plain h)

pub holds_new : (notes : List Note) (n : Note) → n.kind ≡ Listed → Holds (notes ++ n ∷ []) (Some (record { version = n.version; command = n.command; mores = 0 }))
holds_new notes n listed = record { before = notes; note = n; after = []; parts = refl; listed = listed; last = All-nil (λ m. is_listing m.kind ≡ false); version = refl; command = refl; mores = refl }

pub holds_none : (notes : List Note) (n : Note) → n.kind ≡ Beyond → Holds (notes ++ n ∷ []) None
holds_none notes n beyond = λ hold left.
    ⊎_elim
    (λ h. let e : Listed ≡ Beyond = sym left.listed ∙ ap (λ (m : Note). m.kind) h.2 ∙ beyond in let b : true ≡ false = ap is_listed e in absurd (cc b))
    (λ h. let e : is_listing n.kind ≡ false = all_at (λ m. is_listing m.kind ≡ false) h.0 n [] (subst (All (λ m. is_listing m.kind ≡ false)) h.1 left.last) in
    let b : true ≡ false = sym (ap is_listing beyond) ∙ e in absurd (cc b))
    (split_last notes n left.before left.note left.after left.parts)

pub holds_at_start : Holds [] None
holds_at_start = λ hold left. let long : length {A = Note} [] ≡ length (left.before ++ left.note ∷ left.after) = ap length left.parts in absurd (omega (arith, long, length-append left.before (left.note ∷ left.after)))

-- ---- versions

pub rises_from : (kind : NoteKind) (old new : ℕ) → is_published kind ≡ false → old ≤ new → rises kind old new
rises_from Listed old new plain le = le
rises_from Beyond old new plain le = le
rises_from (Paged hold) old new plain le = le
rises_from NoListing old new plain le = le
rises_from Published old new plain le = absurd (cc plain)
rises_from (Refused cause) old new plain le = le
rises_from At old new plain le = le
