-- A part is two parts side by side, where no link passes over the word between them.
use Rattle.std.proofs.Common.{◌≡◌, ℕ, ◌<◌, ◌≤◌, ◌↔◌, ◌⊎◌, inl, inr, refl, sym, subst, min, max, List, arith}
use Rattle.lg_gram.specs.Connectors.{Connector}
use Rattle.lg_gram.specs.Walks.{Walk}
use Rattle.lg_gram.specs.Walks.Walk.{stay, forth}
use Rattle.lg_gram.specs.declared.linkage.Link.{Link}
use Rattle.lg_region.specs.Parts.{EdgeWith}
use Rattle.lg_region.proofs.Fits.{Fits}
use Rattle.lg_region.proofs.Walks.{walk_then, walk_back, walk_map}
use Rattle.std.proofs.lemmas.Bool.{cases_lt}

-- no link passes over W
abbrev pub Splits : ℕ → (Link → Type 0) → Type 0
Splits W G = (l : Link) → G l → (l.right ≤ W) ⊎ (W ≤ l.left)

-- A has the links of G up to W, B those from W on
abbrev pub LeftOf : ℕ → (Link → Type 0) → (Link → Type 0) → Type 0
LeftOf W G A = (l : Link) → A l ↔ (G l × (l.right ≤ W))

abbrev pub RightOf : ℕ → (Link → Type 0) → (Link → Type 0) → Type 0
RightOf W G B = (l : Link) → B l ↔ (G l × (W ≤ l.left))

walk_at : (F : ℕ → ℕ → Type 0) (a b x y : ℕ) → Walk F a b → a ≡ x → b ≡ y → Walk F x y
walk_at F a b x y w e f = subst (λ z. Walk F x z) f (subst (λ z. Walk F z b) e w)

abbrev pub Within : ℕ → ℕ → (Link → Type 0) → Type 0
Within L R G = (l : Link) → G l → (L ≤ l.left) × (l.left < l.right) × (l.right ≤ R)

edge_left : (L R W : ℕ) (G A : Link → Type 0) → L < W → W ≤ R → Within L R G → Splits W G → LeftOf W G A → (a b : ℕ) → EdgeWith L R G a b → Walk (EdgeWith L W A) (min a W) (min b W)
edge_left L R W G A lw wr within splits left a b (inl (l, g, el, er)) =
    let w = within l g in
    elim (splits l g) [
      | inl h ↦ walk_at (EdgeWith L W A) l.left l.right (min a W) (min b W) (forth l.left l.right l.right (inl (l, (left l).1 (g, h), refl, refl)) (stay l.right)) (omega arith) (omega arith)
      | inr h ↦ walk_at (EdgeWith L W A) W W (min a W) (min b W) (stay W) (omega arith) (omega arith)
    ]
edge_left L R W G A lw wr within splits left a b (inr (ea, eb)) =
    walk_at (EdgeWith L W A) L W (min a W) (min b W) (forth L W W (inr (refl, refl)) (stay W)) (omega arith) (omega arith)

walk_left : (L R W : ℕ) (G A : Link → Type 0) → L < W → W ≤ R → Within L R G → Splits W G → LeftOf W G A → (i : ℕ) → i ≤ W → Walk (EdgeWith L R G) L i → Walk (EdgeWith L W A) L i
walk_left L R W G A lw wr within splits left i h w =
    walk_at (EdgeWith L W A) (min L W) (min i W) L i
    (walk_map (EdgeWith L R G) (EdgeWith L W A) (λ x. min x W) (edge_left L R W G A lw wr within splits left) L i w) (omega arith) (omega arith)

edge_right : (L R W : ℕ) (G B : Link → Type 0) → L ≤ W → W < R → Within L R G → Splits W G → RightOf W G B → (a b : ℕ) → EdgeWith L R G a b → Walk (EdgeWith W R B) (max a W) (max b W)
edge_right L R W G B lw wr within splits right a b (inl (l, g, el, er)) =
    let w = within l g in
    elim (splits l g) [
      | inl h ↦ walk_at (EdgeWith W R B) W W (max a W) (max b W) (stay W) (omega arith) (omega arith)
      | inr h ↦ walk_at (EdgeWith W R B) l.left l.right (max a W) (max b W) (forth l.left l.right l.right (inl (l, (right l).1 (g, h), refl, refl)) (stay l.right)) (omega arith) (omega arith)
    ]
edge_right L R W G B lw wr within splits right a b (inr (ea, eb)) =
    walk_at (EdgeWith W R B) W R (max a W) (max b W) (forth W R R (inr (refl, refl)) (stay R)) (omega arith) (omega arith)

-- from the other end: the walk from L goes over W, since W is joined to L
walk_right : (L R W : ℕ) (G B : Link → Type 0) → L ≤ W → W < R → Within L R G → Splits W G → RightOf W G B → (i : ℕ) → W ≤ i → Walk (EdgeWith L R G) L i → Walk (EdgeWith W R B) W i
walk_right L R W G B lw wr within splits right i h w =
    walk_at (EdgeWith W R B) (max L W) (max i W) W i
    (walk_map (EdgeWith L R G) (EdgeWith W R B) (λ x. max x W) (edge_right L R W G B lw wr within splits right) L i w) (omega arith) (omega arith)

-- the part up to W
pub fits_left : (L R W : ℕ) (rights lefts : ℕ → List Connector) (Linked : ℕ → Type 0) (G A : Link → Type 0) → L < W → W ≤ R → Splits W G → LeftOf W G A → Fits L R rights lefts Linked G → Fits L W rights lefts Linked A
fits_left L R W rights lefts Linked G A lw wr splits left f = record {
  within = λ l a. let w = f.within l ((left l).0 a).0 in (w.0, w.1, ((left l).0 a).1);
  matched = λ l a. f.matched l ((left l).0 a).0;
  served_right = λ i p c li iw at. let s = f.served_right i p c li (omega arith) at in record {
    some = (s.some.0, (left s.some.0).1 (s.some.1, (let h = splits s.some.0 s.some.1 in let e : s.some.0.left ≡ i = s.some.2 in elim h [ inl x ↦ x | inr y ↦ absurd (omega arith) ])), s.some.2, s.some.3);
    one = λ m k l ak al. s.one m k l ((left k).0 ak).0 ((left l).0 al).0;
  };
  served_left = λ j q c lj jw at. let s = f.served_left j q c lj (omega arith) at in record {
    some = (s.some.0, (left s.some.0).1 (s.some.1, (let e : s.some.0.right ≡ j = s.some.2 in omega arith)), s.some.2, s.some.3);
    one = λ m k l ak al. s.one m k l ((left k).0 ak).0 ((left l).0 al).0;
  };
  planar = λ k l ak al. f.planar k l ((left k).0 ak).0 ((left l).0 al).0;
  ordered_right = λ k l ak al. f.ordered_right k l ((left k).0 ak).0 ((left l).0 al).0;
  ordered_left = λ k l ak al. f.ordered_left k l ((left k).0 ak).0 ((left l).0 al).0;
  exclusive = λ k l ak al. f.exclusive k l ((left k).0 ak).0 ((left l).0 al).0;
  connected = λ i li iw is. walk_left L R W G A lw wr f.within splits left i iw (f.connected i li (omega arith) is);
}

-- the part from W on
pub fits_right : (L R W : ℕ) (rights lefts : ℕ → List Connector) (Linked : ℕ → Type 0) (G B : Link → Type 0) → L ≤ W → W < R → Splits W G → RightOf W G B → Fits L R rights lefts Linked G → Fits W R rights lefts Linked B
fits_right L R W rights lefts Linked G B lw wr splits right f = record {
  within = λ l b. let w = f.within l ((right l).0 b).0 in (((right l).0 b).1, w.1, w.2);
  matched = λ l b. f.matched l ((right l).0 b).0;
  served_right = λ i p c li iw at. let s = f.served_right i p c (omega arith) iw at in record {
    some = (s.some.0, (right s.some.0).1 (s.some.1, (let e : s.some.0.left ≡ i = s.some.2 in omega arith)), s.some.2, s.some.3);
    one = λ m k l bk bl. s.one m k l ((right k).0 bk).0 ((right l).0 bl).0;
  };
  served_left = λ j q c lj jw at. let s = f.served_left j q c (omega arith) jw at in record {
    some = (s.some.0, (right s.some.0).1 (s.some.1, (let h = splits s.some.0 s.some.1 in let e : s.some.0.right ≡ j = s.some.2 in elim h [ inl x ↦ absurd (omega arith) | inr y ↦ y ])), s.some.2, s.some.3);
    one = λ m k l bk bl. s.one m k l ((right k).0 bk).0 ((right l).0 bl).0;
  };
  planar = λ k l bk bl. f.planar k l ((right k).0 bk).0 ((right l).0 bl).0;
  ordered_right = λ k l bk bl. f.ordered_right k l ((right k).0 bk).0 ((right l).0 bl).0;
  ordered_left = λ k l bk bl. f.ordered_left k l ((right k).0 bk).0 ((right l).0 bl).0;
  exclusive = λ k l bk bl. f.exclusive k l ((right k).0 bk).0 ((right l).0 bl).0;
  connected = λ i wi ir is. walk_right L R W G B lw wr f.within splits right i wi (f.connected i (omega arith) ir is);
}

-- two links of G lie on one side, or one on each
data Sides (W : ℕ) (A B : Link → Type 0) (k l : Link) : Type 0 where
  both_left : A k → A l → Sides W A B k l
  both_right : B k → B l → Sides W A B k l
  rising : k.right ≤ W → W ≤ l.left → Sides W A B k l
  falling : W ≤ k.left → l.right ≤ W → Sides W A B k l

sides : (W : ℕ) (G A B : Link → Type 0) → Splits W G → LeftOf W G A → RightOf W G B → (k l : Link) → G k → G l → Sides W A B k l
sides W G A B splits left right k l gk gl =
    elim (splits k gk) [
      | inl x ↦ elim (splits l gl) [ inl y ↦ both_left ((left k).1 (gk, x)) ((left l).1 (gl, y)) | inr y ↦ rising x y ]
      | inr x ↦ elim (splits l gl) [ inl y ↦ falling x y | inr y ↦ both_right ((right k).1 (gk, x)) ((right l).1 (gl, y)) ]
    ]

edge_from_left : (L R W : ℕ) (G A : Link → Type 0) → LeftOf W G A → Walk (EdgeWith L R G) L W → (a b : ℕ) → EdgeWith L W A a b → Walk (EdgeWith L R G) a b
edge_from_left L R W G A left join a b (inl (l, x, el, er)) = forth a b b (inl (l, ((left l).0 x).0, el, er)) (stay b)
edge_from_left L R W G A left join a b (inr (ea, eb)) = walk_at (EdgeWith L R G) L W a b join (sym ea) (sym eb)

edge_from_right : (L R W : ℕ) (G B : Link → Type 0) → RightOf W G B → Walk (EdgeWith L R G) L W → (a b : ℕ) → EdgeWith W R B a b → Walk (EdgeWith L R G) a b
edge_from_right L R W G B right join a b (inl (l, x, el, er)) = forth a b b (inl (l, ((right l).0 x).0, el, er)) (stay b)
edge_from_right L R W G B right join a b (inr (ea, eb)) =
    walk_at (EdgeWith L R G) W R a b (walk_then (EdgeWith L R G) W L R (walk_back (EdgeWith L R G) L W join) (forth L R R (inr (refl, refl)) (stay R))) (sym ea) (sym eb)

walk_either : (L R W : ℕ) (Linked : ℕ → Type 0) (G A B : Link → Type 0) → LeftOf W G A → RightOf W G B → Walk (EdgeWith L R G) L W
    → ((i : ℕ) → L ≤ i → i ≤ W → Linked i → Walk (EdgeWith L W A) L i) → ((i : ℕ) → W ≤ i → i ≤ R → Linked i → Walk (EdgeWith W R B) W i)
    → (i : ℕ) → L ≤ i → i ≤ R → Linked i → Walk (EdgeWith L R G) L i
walk_either L R W Linked G A B left right join fa fb i li ir is =
    elim (cases_lt i W) [
      | inl h ↦ walk_map (EdgeWith L W A) (EdgeWith L R G) (λ x. x) (edge_from_left L R W G A left join) L i (fa i li (omega arith) is)
      | inr h ↦ walk_then (EdgeWith L R G) L W i join (walk_map (EdgeWith W R B) (EdgeWith L R G) (λ x. x) (edge_from_right L R W G B right join) W i (fb i h ir is))
    ]

-- two parts side by side are one, where the word between them is joined to an end
pub fits_together : (L R W : ℕ) (rights lefts : ℕ → List Connector) (Linked : ℕ → Type 0) (G A B : Link → Type 0) → L < W → W < R → Splits W G → LeftOf W G A → RightOf W G B
    → Walk (EdgeWith L R G) L W → Fits L W rights lefts Linked A → Fits W R rights lefts Linked B → Fits L R rights lefts Linked G
fits_together L R W rights lefts Linked G A B lw wr splits left right join fa fb =
    let two : (k l : Link) → G k → G l → Sides W A B k l = sides W G A B splits left right in
    let in_a : (l : Link) → G l → l.right ≤ W → A l = λ l g h. (left l).1 (g, h) in
    let in_b : (l : Link) → G l → W ≤ l.left → B l = λ l g h. (right l).1 (g, h) in
    let within : Within L R G = λ l g. elim (splits l g) [
      | inl h ↦ (let w = fa.within l (in_a l g h) in (w.0, w.1, omega arith))
      | inr h ↦ (let w = fb.within l (in_b l g h) in (omega arith, w.1, w.2))
    ] in
    record {
      within = within;
      matched = λ l g. elim (splits l g) [ inl h ↦ fa.matched l (in_a l g h) | inr h ↦ fb.matched l (in_b l g h) ];
      served_right = λ i p c li ir at. elim (cases_lt i W) [
        | inl h ↦ (let s = fa.served_right i p c li h at in record {
          some = (s.some.0, ((left s.some.0).0 s.some.1).0, s.some.2, s.some.3);
          one = λ m k l gk gl ek pk el pl. elim (two k l gk gl) [
            | both_left x y ↦ s.one m k l x y ek pk el pl
            | both_right x y ↦ (let b = fb.within k x in absurd (omega arith))
            | rising x y ↦ absurd (omega arith)
            | falling x y ↦ absurd (omega arith)
          ];
        })
        | inr h ↦ (let s = fb.served_right i p c h ir at in record {
          some = (s.some.0, ((right s.some.0).0 s.some.1).0, s.some.2, s.some.3);
          one = λ m k l gk gl ek pk el pl. elim (two k l gk gl) [
            | both_left x y ↦ (let b = fa.within k x in absurd (omega arith))
            | both_right x y ↦ s.one m k l x y ek pk el pl
            | rising x y ↦ (let b = within k gk in absurd (omega arith))
            | falling x y ↦ (let b = within l gl in absurd (omega arith))
          ];
        })
      ];
      served_left = λ j q c lj jr at. elim (cases_lt W j) [
        | inr h ↦ (let s = fa.served_left j q c lj h at in record {
          some = (s.some.0, ((left s.some.0).0 s.some.1).0, s.some.2, s.some.3);
          one = λ m k l gk gl ek pk el pl. elim (two k l gk gl) [
            | both_left x y ↦ s.one m k l x y ek pk el pl
            | both_right x y ↦ (let b = fb.within k x in absurd (omega arith))
            | rising x y ↦ (let b = within l gl in absurd (omega arith))
            | falling x y ↦ (let b = within k gk in absurd (omega arith))
          ];
        })
        | inl h ↦ (let s = fb.served_left j q c h jr at in record {
          some = (s.some.0, ((right s.some.0).0 s.some.1).0, s.some.2, s.some.3);
          one = λ m k l gk gl ek pk el pl. elim (two k l gk gl) [
            | both_left x y ↦ (let b = fa.within k x in absurd (omega arith))
            | both_right x y ↦ s.one m k l x y ek pk el pl
            | rising x y ↦ (let b = within k gk in absurd (omega arith))
            | falling x y ↦ (let b = within l gl in absurd (omega arith))
          ];
        })
      ];
      planar = λ k l gk gl a b c. elim (two k l gk gl) [
        | both_left x y ↦ fa.planar k l x y a b c
        | both_right x y ↦ fb.planar k l x y a b c
        | rising x y ↦ omega arith
        | falling x y ↦ omega arith
      ];
      ordered_right = λ k l gk gl e p. elim (two k l gk gl) [
        | both_left x y ↦ fa.ordered_right k l x y e p
        | both_right x y ↦ fb.ordered_right k l x y e p
        | rising x y ↦ (let b = within k gk in absurd (omega arith))
        | falling x y ↦ (let b = within l gl in absurd (omega arith))
      ];
      ordered_left = λ k l gk gl e p. elim (two k l gk gl) [
        | both_left x y ↦ fa.ordered_left k l x y e p
        | both_right x y ↦ fb.ordered_left k l x y e p
        | rising x y ↦ (let b = within l gl in absurd (omega arith))
        | falling x y ↦ (let b = within k gk in absurd (omega arith))
      ];
      exclusive = λ k l gk gl e h. elim (two k l gk gl) [
        | both_left x y ↦ fa.exclusive k l x y e h
        | both_right x y ↦ fb.exclusive k l x y e h
        | rising x y ↦ (let b = within k gk in absurd (omega arith))
        | falling x y ↦ (let b = within l gl in absurd (omega arith))
      ];
      connected = walk_either L R W Linked G A B left right join fa.connected fb.connected;
    }
