-- The text of a side tells its connectors apart, and each of them stands between its commas.
use Rattle.std.proofs.Common.{◌≡◌, ℕ, ◌<◌, ◌≤◌, Bool, true, false, eqb, eqb-true, List, [], ◌∷◌, ◌++◌, map, length, codes, decimal, Contains, Less, Equal, Greater, refl, ap, sym, ◌∙◌, subst, inl, inr, arith, true≢false, if◌then◌else◌}
use Rattle.std.specs.Int.{IsInRange}
use Rattle.std.specs.Cmp.Lexicographic.{pointwise, slice_cmp}
use Rattle.std.specs.Ordering.{nat_cmp, ordering_reverse}
use Rattle.std.specs.declared.cmp.Ordering.{Ordering}
use Rattle.std.specs.List.{list_any, list_all, join_with_byte, AllByRecursion}
use Rattle.std.proofs.lemmas.Bool.{leb-true, or_left, or_right, and_parts, and_from, or_from, both_ways, false_from_ne_true}
use Rattle.std.proofs.lemmas.List.Folds.{list_any-append}
use Rattle.std.proofs.lemmas.Cmp.{nat_list_cmp_total}
use Rattle.std.proofs.lemmas.Slice.Eq.{bytes_eq-Decides}
use Rattle.lg_base.proofs.Elements.{contains_cases, contains_none, contains_here, contains_later}
use Rattle.lg_gram.specs.Names.{IsName, by_letters, by_joint, NamesAreWritten, is_capital, is_subscript, joint_fits, joint_text}
use Rattle.lg_gram.specs.Connectors.{Connector, connector_text, name_of, ConnectorsToldApart}
use Rattle.lg_text.specs.Texts.{side_text}
use Rattle.lg_audit.specs.Pieces.{Lacks}
use Rattle.lg_audit.specs.Printed.{ArePieces, is_among}
use Rattle.lg_audit.proofs.Cuts.{decimal_lacks, same_cut, has_one}

lacks_both : (c : ℕ) (xs ys : List ℕ) → Lacks c xs → Lacks c ys → Lacks c (xs ++ ys)
lacks_both c xs ys e f = list_any-append (eqb c) xs ys ∙ or_from (list_any (eqb c) xs) (list_any (eqb c) ys) e f

-- where each byte passes a test, there is none that fails it
lacks_from : (p : ℕ → Bool) (c : ℕ) → p c ≡ false → (xs : List ℕ) → list_all p xs ≡ true → Lacks c xs
lacks_from p c fails [] all = refl
lacks_from p c fails (x ∷ xs) all =
    let parts = and_parts (p x) (list_all p xs) all in
    or_from (eqb c x) (list_any (eqb c) xs)
    (false_from_ne_true (eqb c x) (λ e. both_ways (p c) fails (ap p (eqb-true c x e) ∙ parts.0)))
    (lacks_from p c fails xs parts.1)

-- a byte that no name has, beside the `@` in front
record IsOutside (c : ℕ) : Type 0 where
  capital : is_capital c ≡ false
  subscript : is_subscript c ≡ false
  at : eqb c 64 ≡ false
  point : Lacks c (codes ".")
  id : Lacks c (codes "id")
  digit : IsInRange 48 57 c → ⊥

comma : IsOutside 44
comma = record { capital = refl; subscript = refl; at = refl; point = refl; id = refl; digit = λ range. omega arith }

dash : IsOutside 45
dash = record { capital = refl; subscript = refl; at = refl; point = refl; id = refl; digit = λ range. omega arith }

module _ (written : NamesAreWritten) (c : ℕ) (out : IsOutside c) where
  number_lacks : (n : ℕ) → n ≤ 999999 → Lacks c (decimal n)
  number_lacks n small = decimal_lacks c n (omega arith) out.digit

  joint_lacks : (rank start joint : ℕ) → joint_fits rank start joint ≡ true → Lacks c (joint_text rank start joint)
  joint_lacks rank start joint fits =
      let a = and_parts _ _ fits in
      let b = and_parts _ _ a.1 in
      lacks_both c (codes "id") _ out.id
      (lacks_both c (decimal rank) _ (number_lacks rank (leb-true rank 999999 a.0))
      (lacks_both c (codes ".") _ out.point
      (lacks_both c (decimal start) _ (number_lacks start (let few = leb-true start 999 b.0 in omega arith))
      (lacks_both c (codes ".") _ out.point (number_lacks joint (let few = leb-true joint 999 b.1 in omega arith))))))

  name_lacks : (x : Connector) → IsName (name_of x) → Lacks c (x.caps ++ x.subs)
  name_lacks x (by_letters is trimmed) =
      let parts = written x.caps x.subs is in
      lacks_both c x.caps x.subs (lacks_from is_capital c out.capital x.caps parts.capitals) (lacks_from is_subscript c out.subscript x.subs parts.subscripts)
  name_lacks x (by_joint joint none) =
      lacks_both c x.caps x.subs (subst (Lacks c) (sym joint.spelled) (joint_lacks joint.rank joint.start joint.joint joint.fits)) (subst (Lacks c) (sym none) refl)

  text_by : (x : Connector) → Lacks c (x.caps ++ x.subs) → (multi : Bool) → Lacks c (if multi then 64 ∷ x.caps ++ x.subs else x.caps ++ x.subs)
  text_by x lacks true = or_from (eqb c 64) (list_any (eqb c) (x.caps ++ x.subs)) out.at lacks
  text_by x lacks false = lacks

  text_lacks : (x : Connector) → IsName (name_of x) → Lacks c (connector_text x)
  text_lacks x named = text_by x (name_lacks x named) x.multi

-- ---- pieces that are joined in two ways are the same

same_pieces : (p : List ℕ) (ps : List (List ℕ)) (q : List ℕ) (qs : List (List ℕ)) → AllByRecursion (Lacks 44) (p ∷ ps) → AllByRecursion (Lacks 44) (q ∷ qs)
    → join_with_byte 44 (p ∷ ps) ≡ join_with_byte 44 (q ∷ qs) → ◌≡◌ {A = List (List ℕ)} (p ∷ ps) (q ∷ qs)
same_pieces p [] q [] a b e = ap (λ (x : List ℕ). x ∷ []) e
same_pieces p [] q (r ∷ qs) a b e = absurd (has_one 44 q (join_with_byte 44 (r ∷ qs)) (subst (Lacks 44) e a.0))
same_pieces p (r ∷ ps) q [] a b e = absurd (has_one 44 p (join_with_byte 44 (r ∷ ps)) (subst (Lacks 44) (sym e) b.0))
same_pieces p (r ∷ ps) q (s ∷ qs) a b e =
    let first = same_cut 44 p q (join_with_byte 44 (r ∷ ps)) (join_with_byte 44 (s ∷ qs)) a.0 b.0 e in
    let others = same_pieces r ps s qs a.1 b.1 first.1 in
    (λ i. first.0 i ∷ others i)

-- a connector of this direction, with a name
pub record IsOn (right : Bool) (c : Connector) : Type 0 where
  pub named : IsName (name_of c)
  pub side : c.right ≡ right

module _ (written : NamesAreWritten) where
  texts_lack : (right : Bool) (cs : List Connector) → AllByRecursion (IsOn right) cs → AllByRecursion (Lacks 44) (map connector_text cs)
  texts_lack right [] all = tt
  texts_lack right (c ∷ cs) all = (text_lacks written 44 comma c all.0.named, texts_lack right cs all.1)

  no_dash : (right : Bool) (c : Connector) (cs : List Connector) → AllByRecursion (IsOn right) (c ∷ cs) → codes "-" ≡ join_with_byte 44 (map connector_text (c ∷ cs)) → ⊥
  no_dash right c cs all e =
      let same = same_pieces (codes "-") [] (connector_text c) (map connector_text cs) (refl, tt) (texts_lack right (c ∷ cs) all) e in
      let text : codes "-" ≡ connector_text c = ap first same in
      true≢false (subst (Lacks 45) (sym text) (text_lacks written 45 dash c all.0.named))
    where
      first : List (List ℕ) → List ℕ
      first [] = []
      first (x ∷ xs) = x

  module _ (apart : ConnectorsToldApart) (right : Bool) where
    same_text : (a b : Connector) → IsOn right a → IsOn right b → connector_text a ≡ connector_text b → a ≡ b
    same_text a b p q e = apart a b p.named q.named (p.side ∙ sym q.side) (ap (λ (t : List ℕ). slice_cmp nat_cmp t (connector_text b)) e ∙ itself (connector_text b))
      where
        alike : (o : Ordering) → o ≡ ordering_reverse o → o ≡ Equal
        alike Less h = let bad : ⊥ = cc in absurd bad
        alike Equal h = refl
        alike Greater h = let bad : ⊥ = cc in absurd bad

        itself : (t : List ℕ) → slice_cmp nat_cmp t t ≡ Equal
        itself t = alike (slice_cmp nat_cmp t t) (nat_list_cmp_total.antisymm t t)

    same_texts : (cs ds : List Connector) → AllByRecursion (IsOn right) cs → AllByRecursion (IsOn right) ds → map connector_text cs ≡ map connector_text ds → cs ≡ ds
    same_texts [] [] p q e = refl
    same_texts [] (d ∷ ds) p q e = let bad : ⊥ = cc in absurd bad
    same_texts (c ∷ cs) [] p q e = let bad : ⊥ = cc in absurd bad
    same_texts (c ∷ cs) (d ∷ ds) p q e =
        let first : connector_text c ≡ connector_text d = cc in
        let others : map connector_text cs ≡ map connector_text ds = cc in
        let one = same_text c d p.0 q.0 first in
        let rest = same_texts cs ds p.1 q.1 others in
        (λ i. one i ∷ rest i)

    -- two sides with one text are one
    pub same_side : (cs ds : List Connector) → AllByRecursion (IsOn right) cs → AllByRecursion (IsOn right) ds → side_text cs ≡ side_text ds → cs ≡ ds
    same_side [] [] p q e = refl
    same_side [] (d ∷ ds) p q e = absurd (no_dash right d ds q e)
    same_side (c ∷ cs) [] p q e = absurd (no_dash right c cs p (sym e))
    same_side (c ∷ cs) (d ∷ ds) p q e =
        same_texts (c ∷ cs) (d ∷ ds) p q
        (same_pieces (connector_text c) (map connector_text cs) (connector_text d) (map connector_text ds) (texts_lack right (c ∷ cs) p) (texts_lack right (d ∷ ds) q) e)

  -- ---- each connector of a side is among its pieces

  has_letter : (xs ys : List ℕ) → 0 < length xs → [] ≡ xs ++ ys → ⊥
  has_letter [] ys some e = omega arith
  has_letter (x ∷ xs) ys some e = let bad : ⊥ = cc in bad

  named_text : (c : Connector) → IsName (name_of c) → [] ≡ c.caps ++ c.subs → ⊥
  named_text c (by_letters is trimmed) e = has_letter c.caps c.subs (written c.caps c.subs is).some e
  named_text c (by_joint joint none) e = has_letter c.caps c.subs (subst (λ (t : List ℕ). 0 < length t) (sym joint.spelled) (omega arith)) e

  has_text : (c : Connector) → IsName (name_of c) → (multi : Bool) → [] ≡ (if multi then 64 ∷ c.caps ++ c.subs else c.caps ++ c.subs) → ⊥
  has_text c named true e = let bad : ⊥ = cc in bad
  has_text c named false e = named_text c named e

  empty_text : (first : List ℕ) (rest : List (List ℕ)) → ([] ≡ first → ⊥) → join_with_byte 44 (first ∷ rest) ≡ [] → ⊥
  empty_text first [] some e = some (sym e)
  empty_text [] (p ∷ rest) some e = some refl
  empty_text (x ∷ first) (p ∷ rest) some e = let bad : ⊥ = cc in bad

  all_among : (cs : List Connector) (pieces : List (List ℕ)) → pieces ≡ map connector_text cs → list_all (is_among pieces) cs ≡ true
  all_among cs pieces is = subst (λ (ps : List (List ℕ)). list_all (is_among ps) cs ≡ true) (sym is) (own cs (map connector_text cs) (λ c h. among cs c h))
    where
      itself : (t : List ℕ) → pointwise eqb t t ≡ true
      itself t = (bytes_eq-Decides t t).1 refl

      among : (cs : List Connector) (c : Connector) → Contains cs c → is_among (map connector_text cs) c ≡ true
      among [] c h = absurd (contains_none c h)
      among (d ∷ cs) c h =
          elim (contains_cases d cs c h) [
            | inl same ↦ or_left (pointwise eqb (connector_text d) (connector_text c)) (is_among (map connector_text cs) c) (subst (λ (z : Connector). pointwise eqb (connector_text d) (connector_text z) ≡ true) same (itself (connector_text d)))
            | inr later ↦ or_right (pointwise eqb (connector_text d) (connector_text c)) (is_among (map connector_text cs) c) (among cs c later)
          ]

      own : (cs : List Connector) (ps : List (List ℕ)) → ((c : Connector) → Contains cs c → is_among ps c ≡ true) → list_all (is_among ps) cs ≡ true
      own [] ps h = refl
      own (c ∷ cs) ps h = and_from (is_among ps c) (list_all (is_among ps) cs) (h c (contains_here c cs)) (own cs ps (λ d m. h d (contains_later c cs d m)))

  pub side_among : (right : Bool) (cs : List Connector) (text : List ℕ) (pieces : List (List ℕ)) → AllByRecursion (IsOn right) cs → side_text cs ≡ text → ArePieces text pieces
      → list_all (is_among pieces) cs ≡ true
  side_among right [] text pieces on e are = refl
  side_among right (c ∷ cs) text [] on e are = absurd (empty_text (connector_text c) (map connector_text cs) (has_text c on.0.named c.multi) (e ∙ are.joined))
  side_among right (c ∷ cs) text (p ∷ ps) on e are =
      all_among (c ∷ cs) (p ∷ ps) (same_pieces p ps (connector_text c) (map connector_text cs) are.cut (texts_lack right (c ∷ cs) on) (sym are.joined ∙ sym e))
