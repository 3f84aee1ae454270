-- Connectors of one direction that the order does not tell apart are one.
use Rattle.std.proofs.Common.{◌≡◌, ℕ, ◌≤◌, Bool, true, false, List, [], ◌∷◌, ◌++◌, refl, sym, subst, ap, ◌∙◌, cond, arith, append-nil}
use Rattle.std.specs.List.{list_all}
use Rattle.std.proofs.lemmas.Bool.{false≢true, and_parts}
use Rattle.std.proofs.lemmas.Bool.Decides.{nat_tests}
use Rattle.std.proofs.lemmas.Map.Lookups.{exact_bytes}
use Rattle.lg_gram.specs.Names.{Name, IsName, IsJoint, by_letters, by_joint, joint_text, is_capital, is_subscript, is_written}
use Rattle.lg_gram.specs.Connectors.{name_of, connector_text, ConnectorsToldApart}
use Rattle.lg_gram.proofs.Names.{written_parts, Starts, name_starts}

not_both : (b : ℕ) → is_capital b ≡ true → is_subscript b ≡ true → ⊥
not_both b p q = let e : 1 ≤ 0 = grind (arith, nat_tests) in omega (arith, e)

-- capital letters and then subscripts can be parted in one way
parted : (a b x y : List ℕ) → list_all is_capital a ≡ true → list_all is_capital b ≡ true → list_all is_subscript x ≡ true → list_all is_subscript y ≡ true →
    a ++ x ≡ b ++ y → (a ≡ b) × (x ≡ y)
parted [] [] x y p q r s h = (refl, h)
parted [] (c ∷ b) [] y p q r s h = cc
parted [] (c ∷ b) (d ∷ x) y p q r s h =
    let same : d ≡ c = cc in
    absurd (not_both d (subst (λ n. is_capital n ≡ true) (sym same) (and_parts (is_capital c) (list_all is_capital b) q).0) (and_parts (is_subscript d) (list_all is_subscript x) r).0)
parted (c ∷ a) [] x [] p q r s h = cc
parted (c ∷ a) [] x (d ∷ y) p q r s h =
    let same : c ≡ d = cc in
    absurd (not_both d (subst (λ n. is_capital n ≡ true) same (and_parts (is_capital c) (list_all is_capital a) p).0) (and_parts (is_subscript d) (list_all is_subscript y) s).0)
parted (c ∷ a) (d ∷ b) x y p q r s h =
    let first : c ≡ d = cc in
    let others : a ++ x ≡ b ++ y = cc in
    let parts = parted a b x y (and_parts (is_capital c) (list_all is_capital a) p).1 (and_parts (is_capital d) (list_all is_capital b) q).1 r s others in
    (λ i. first i ∷ parts.0 i, parts.1)

-- the sign of a connector with `@` is no byte that a name begins with
no_sign : (a xs ys : List ℕ) → Starts a → a ++ xs ≡ 64 ∷ ys → ⊥
no_sign a xs ys s h =
    let begins : s.first ∷ (s.rest ++ xs) ≡ 64 ∷ ys = subst (λ (t : List ℕ). t ++ xs ≡ 64 ∷ ys) s.is h in
    let sign : s.first ≡ 64 = cc in
    omega (arith, s.above, sign)

same_text : (m n : Bool) (a x b y : List ℕ) → Starts a → Starts b → cond m (64 ∷ a ++ x) (a ++ x) ≡ cond n (64 ∷ b ++ y) (b ++ y) → (m ≡ n) × (a ++ x ≡ b ++ y)
same_text true true a x b y f g h = let others : a ++ x ≡ b ++ y = cc in (refl, others)
same_text false false a x b y f g h = (refl, h)
same_text true false a x b y f g h = absurd (no_sign b y (a ++ x) g (sym h))
same_text false true a x b y f g h = absurd (no_sign a x (b ++ y) f h)

-- no text that begins with a capital letter begins as a joint does
no_capital : (a x b y : List ℕ) → is_written a x ≡ true → IsJoint b → a ++ x ≡ b ++ y → ⊥
no_capital [] x b y p is h = let parts = written_parts [] x p in absurd (omega (arith, parts.some))
no_capital (c ∷ a) x b y p is h =
    let parts = written_parts (c ∷ a) x p in
    let begins : c ∷ (a ++ x) ≡ joint_text is.rank is.start is.joint ++ y = subst (λ (t : List ℕ). c ∷ (a ++ x) ≡ t ++ y) is.spelled h in
    let small : c ≡ 105 = cc in
    let capital : is_capital 105 ≡ true = subst (λ n. is_capital n ≡ true) small (and_parts (is_capital c) (list_all is_capital a) parts.capitals).0 in
    false≢true capital

-- the letters of a name can be parted in one way
parted_names : (m n : Name) → IsName m → IsName n → m.caps ++ m.subs ≡ n.caps ++ n.subs → (m.caps ≡ n.caps) × (m.subs ≡ n.subs)
parted_names m n (by_letters p _) (by_letters q _) h =
    let k = written_parts m.caps m.subs p in
    let l = written_parts n.caps n.subs q in
    parted m.caps n.caps m.subs n.subs k.capitals l.capitals k.subscripts l.subscripts h
parted_names m n (by_letters p _) (by_joint is _) h = absurd (no_capital m.caps m.subs n.caps n.subs p is h)
parted_names m n (by_joint is _) (by_letters q _) h = absurd (no_capital n.caps n.subs m.caps m.subs q is (sym h))
parted_names m n (by_joint _ e) (by_joint _ f) h =
    let first : m.caps ++ m.subs ≡ m.caps = ap (λ t. m.caps ++ t) e ∙ append-nil m.caps in
    let second : n.caps ++ n.subs ≡ n.caps = ap (λ t. n.caps ++ t) f ∙ append-nil n.caps in
    (sym first ∙ h ∙ second, e ∙ sym f)

pub connectors_told_apart : ConnectorsToldApart
connectors_told_apart a b p q sides h =
    let texts = exact_bytes (connector_text a) (connector_text b) h in
    let signs = same_text a.multi b.multi a.caps a.subs b.caps b.subs (name_starts (name_of a) p) (name_starts (name_of b) q) texts in
    let parts = parted_names (name_of a) (name_of b) p q signs.1 in
    λ i. record { caps = parts.0 i; subs = parts.1 i; multi = signs.0 i; right = sides i }
