-- What `==` says of connectors and of disjuncts.
use Rattle.std.proofs.Common.{◌≡◌, ℕ, List, refl, ap, ◌&&◌, Bool, true, false, ◌==◌, ◌∙◌, sym}
use Rattle.std.specs.Bool.{Decides}
use Rattle.std.specs.Ordering.{int_eq}
use Rattle.std.specs.Cmp.{booleans_Decides, signed_Decides}
use Rattle.std.specs.Cmp.Lexicographic.{pointwise, same_text, other_text}
use Rattle.std.proofs.lemmas.Bool.Decides.{Decides-eqb, Decides-and}
use Rattle.std.proofs.lemmas.Slice.Eq.{slice_eq-Decides}
use Rattle.lg_gram.specs.Names.{Name}
use Rattle.lg_gram.specs.Stored.{named, stored, stored_named, IsStored}
use Rattle.lg_gram.specs.Connectors.{Connector, connector_eq, name_eq}
use Rattle.lg_gram.specs.declared.disjunct.Disjunct.{Disjunct}
use Rattle.lg_gram.specs.declared.label.Label.TheInside.{Inside}

numbers_Decides : (xs ys : List ℕ) → Decides (pointwise ◌==◌ xs ys) (xs ≡ ys)
numbers_Decides xs ys = slice_eq-Decides Decides-eqb xs ys _ refl

pub name_Decides : (a b : Name) → Decides (name_eq a b) (a ≡ b)
name_Decides a b =
    let parts = Decides-and _ _ (numbers_Decides a.caps b.caps) (numbers_Decides a.subs b.subs) in (
      λ h. let p = parts.0 h in λ i. record { caps = p.0 i; subs = p.1 i },
      λ e. parts.1 (ap (λ n. n.caps) e, ap (λ n. n.subs) e),
    )

pub connector_Decides : (a b : Connector) → Decides (connector_eq a b) (a ≡ b)
connector_Decides a b =
    let parts = Decides-and _ _ (Decides-and _ _ (booleans_Decides a.multi b.multi) (booleans_Decides a.right b.right))
    (Decides-and _ _ (numbers_Decides a.caps b.caps) (numbers_Decides a.subs b.subs)) in (
      λ h. let p = parts.0 h in λ i. record { caps = p.1.0 i; subs = p.1.1 i; multi = p.0.0 i; right = p.0.1 i },
      λ e. parts.1 ((ap (λ c. c.multi) e, ap (λ c. c.right) e), (ap (λ c. c.caps) e, ap (λ c. c.subs) e)),
    )

connectors_Decides : (xs ys : List Connector) → Decides (pointwise connector_eq xs ys) (xs ≡ ys)
connectors_Decides xs ys = slice_eq-Decides connector_Decides xs ys _ refl

pub disjunct_Decides : (a b : Disjunct) (r : Bool) →
    r ≡ (pointwise ◌==◌ a.word b.word && (pointwise connector_eq a.left b.left && (pointwise connector_eq a.right b.right && int_eq a.cost b.cost))) →
    Decides r (a ≡ b)
disjunct_Decides a b r is =
    let parts = Decides-and _ _ (numbers_Decides a.word b.word) (Decides-and _ _ (connectors_Decides a.left b.left)
    (Decides-and _ _ (connectors_Decides a.right b.right) (signed_Decides a.cost b.cost))) in (
      λ h. let p = parts.0 (sym is ∙ h) in λ i. record { word = p.0 i; left = p.1.0 i; right = p.1.1.0 i; cost = p.1.1.1 i },
      λ e. is ∙ parts.1 (ap (λ d. d.word) e, (ap (λ d. d.left) e, (ap (λ d. d.right) e, ap (λ d. d.cost) e))),
    )

none_equal : (b : Bool) → (b ≡ true → ⊥) → false ≡ b
none_equal true other = absurd (other refl)
none_equal false other = refl

-- names are equal where what is kept of them is
pub kept_alike : (a b : Inside) → IsStored a → IsStored b → a.caps_len ≡ b.caps_len → a.len ≡ b.len → (r : Bool) → r ≡ pointwise ◌==◌ a.letters b.letters → r ≡ name_eq (named a) (named b)
kept_alike a b is_a is_b caps len true e =
    let letters = same_text a.letters b.letters e in
    sym ((name_Decides (named a) (named b)).1 (ap named (λ i. record { letters = letters i; caps_len = caps i; len = len i })))
kept_alike a b is_a is_b caps len false e =
    let same : named a ≡ named b → a ≡ b = λ n. sym (stored_named a is_a) ∙ ap stored n ∙ stored_named b is_b in
    none_equal (name_eq (named a) (named b)) (λ t. other_text a.letters b.letters e (ap (λ (x : Inside). x.letters) (same ((name_Decides (named a) (named b)).0 t))))
