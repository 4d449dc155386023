-- Euler's inequality: a chart of n vertices that refusals 6 to 10 do not meet has at most 6n - 12 half-edges and 2n - 4 faces. Every half-edge gets a number of its own
-- below 6n, and twelve numbers are left. Assumes nothing.
use Rattle.std.specs.Prelude.{◌≡◌, ◌⊎◌, Bool, false, cond, List, [], ◌∷◌, T}
use Rattle.std.proofs.Math.Path.{refl, sym, subst, ap}
use Rattle.std.proofs.Common.{◌∙◌, inl, inr, eqb-true}
use Rattle.std.proofs.Math.Bool.{true}
use Prim.Native.Nat.{ℕ, zero, suc, ◌+◌, ◌*◌, ◌%◌, ◌/◌, ◌<◌, ◌≤◌}
use native.Mathlib.Omega.{arith}
use Rattle.std.proofs.Math.Decide.{ℕ_discrete}
use Rattle.std.proofs.Math.Dec.{eqb}
use lib.IntN.{ℤ, pos, neg_ℤ, ◌+ℤ◌, ◌*ℤ◌, +ℤ_idl}
use Rattle.std.proofs.lemmas.Bool.{eqb-false}
use Rattle.whole.specs.Bound.{sub_in}
use Rattle.whole.specs.Poly.{con, ◌⊕◌, ◌⊖◌, ◌⊗◌, env, agree, solve! }
use Rattle.geometry.specs.declared.Place.{Place}
use Rattle.geometry.specs.Plane.{cross_of, side}
use Rattle.signs.specs.Signs.{S, below, nil, above, sg, flip, ◌⊙◌, Fm, up, dn, ze, lo, ne, ◌⇒◌, ◌&◌, ◌or◌, ev, Is, Pos, Neg, Zero, Low, High, Off, fire, left, right, either, test2, test3, every2, every3, eq-zero, zero-eq, bal, bal-sum, bal-mul3, sg-neg}
use Rattle.signs.specs.Order.{pos-sg, pos-zero, neg-zero, off-cases, neg-ne, neg-pos, neg-neg, pos-low, neg-high, pos-high, zero_high, low-high, neg-or-high, add-pos, neg-hi}
use Rattle.cells.specs.Points.{dots, ray, ray-base, o_e, r_e}
use Rattle.cells.specs.Corner.{Apart, sq-high, sq_pos, not-flat}
use Rattle.cells.specs.Line.{on-first}
use Rattle.cells.specs.Tilt.{ray-self}
use Rattle.cells.specs.Rays.{steep, steep-off, reach, reach-in, counter, ray-counter}
use Rattle.chart.specs.Chart.{Chart}
use Rattle.sound.specs.Sound.{Sound}
use Rattle.nearby.specs.Chart as Ch
use Rattle.nearby.specs.Rim as Ri
use Rattle.nearby.specs.Vertex.{one_way}
use Rattle.euler.specs.Pigeons.{fit, fit-extra, Extra, None}

-- ---- the ray's numbers
ray-back : (ρ u v : Place) → ray ρ v u ≡ neg_ℤ (ray ρ u v)
unfolding ray agree
ray-back ρ u v =
    solve! (env (ρ.x ∷ ρ.y ∷ u.x ∷ u.y ∷ v.x ∷ v.y ∷ [])) (r_e 0 2 1) (con (pos 0) ⊖ r_e 0 1 2) tt ∙ +ℤ_idl (neg_ℤ (ray ρ u v))

ray-via : (ρ u v z : Place) → ray ρ u v ≡ ray ρ u z +ℤ ray ρ z v
unfolding ray agree
ray-via ρ u v z = solve! (env (ρ.x ∷ ρ.y ∷ u.x ∷ u.y ∷ v.x ∷ v.y ∷ z.x ∷ z.y ∷ [])) (r_e 0 1 2) (r_e 0 1 3 ⊕ r_e 0 3 2) tt

ray-round : (ρ u v z : Place) → ray ρ u v +ℤ ray ρ v z +ℤ ray ρ z u +ℤ pos 0 ≡ pos 0
unfolding ray agree
ray-round ρ u v z = solve! (env (ρ.x ∷ ρ.y ∷ u.x ∷ u.y ∷ v.x ∷ v.y ∷ z.x ∷ z.y ∷ [])) (r_e 0 1 2 ⊕ r_e 0 2 3 ⊕ r_e 0 3 1 ⊕ con (pos 0)) (con (pos 0)) tt

-- ---- a least one
least : (r : ℕ → ℕ → ℤ) → ((u : ℕ) → r u u ≡ pos 0) → ((u v : ℕ) → r v u ≡ neg_ℤ (r u v)) → ((u v z : ℕ) → r u v ≡ r u z +ℤ r z v) → (n : ℕ) → (l : ℕ) × (l < suc n) × ((v : ℕ) → v < suc n → High (r l v))
least r same back via zero = (0, omega arith, λ v h. subst (λ (k : ℕ). High (r 0 k)) (let e : 0 ≡ v = omega arith in e) (zero_high (eq-zero (same 0))))
least r same back via (suc n) = pick (least r same back via n)
  where
    next : (l : ℕ) → l < suc n → ((v : ℕ) → v < suc n → High (r l v)) → Neg (r l (suc n)) ⊎ High (r l (suc n)) → (l : ℕ) × (l < suc (suc n)) × ((v : ℕ) → v < suc (suc n) → High (r l v))
    next l i h (inr k) = (l, omega arith, λ v j. by v j (ℕ_discrete v (suc n)))
      where
        by : (v : ℕ) → v < suc (suc n) → Dec (v ≡ suc n) → High (r l v)
        by v j (yes e) = subst (λ (x : ℕ). High (r l x)) (sym e) k
        by v j (no e) = h v (omega arith)
    next l i h (inl k) = (suc n, omega arith, λ v j. by v j (ℕ_discrete v (suc n)))
      where
        by : (v : ℕ) → v < suc (suc n) → Dec (v ≡ suc n) → High (r (suc n) v)
        by v j (yes e) = subst (λ (x : ℕ). High (r (suc n) x)) (sym e) (zero_high (eq-zero (same (suc n))))
        by v j (no e) = subst High (sym (via (suc n) v l)) (pos-high (add-pos (neg-neg (back l (suc n)) k) (h v (omega arith))))

    pick : (l : ℕ) × (l < suc n) × ((v : ℕ) → v < suc n → High (r l v)) → (l : ℕ) × (l < suc (suc n)) × ((v : ℕ) → v < suc (suc n) → High (r l v))
    pick t = next t.0 t.1 t.2 (neg-or-high (r t.0 (suc n)))

zero-off : {z : ℤ} → Zero z → Off z → ⊥
zero-off {z} h k = pick (off-cases k)
  where
    pick : Neg z ⊎ Pos z → ⊥
    pick (inl n) = neg-zero n h
    pick (inr p) = pos-zero p h

-- ---- a middle one of three
abbrev Mid : S → S → Fm
Mid a b = dn a & up b or up a & dn b

some-mid : (a b d : S) → Is (bal a b d nil ⇒ ne a ⇒ ne b ⇒ ne d ⇒ Mid a (flip d) or (Mid b (flip a) or Mid d (flip b)))
unfolding test3 flip
some-mid = every3 (λ a b d. bal a b d nil ⇒ ne a ⇒ ne b ⇒ ne d ⇒ Mid a (flip d) or (Mid b (flip a) or Mid d (flip b))) tt

bit : S → ℕ
unfolding ev
bit s = cond (ev (up s)) 1 0

bit-low : (s : S) → bit s < 2
unfolding bit ev
bit-low below = omega arith
bit-low nil = omega arith
bit-low above = omega arith

bit-one : (s : S) → bit s ≡ 1 → Is (up s)
unfolding bit ev
bit-one below e = absurd (omega arith)
bit-one nil e = absurd (omega arith)
bit-one above e = record { is = tt }

bit-zero : (s : S) → bit s ≡ 0 → Is (lo s)
unfolding bit ev
bit-zero below e = record { is = tt }
bit-zero nil e = record { is = tt }
bit-zero above e = absurd (omega arith)

mid-up : (a b : S) → Is (Mid a b ⇒ up a ⇒ dn b)
unfolding test2
mid-up = every2 (λ a b. Mid a b ⇒ up a ⇒ dn b) tt

mid-lo : (a b : S) → Is (Mid a b ⇒ lo a ⇒ dn a & up b)
unfolding test2
mid-lo = every2 (λ a b. Mid a b ⇒ lo a ⇒ dn a & up b) tt

two : (n : ℕ) → n < 2 → (n ≡ 0) ⊎ (n ≡ 1)
two zero h = inl refl
two (suc zero) h = inr refl
two (suc (suc n)) h = absurd (omega arith)

-- ---- a ray from m into the triangle m x y is right of a side from m that x and y are right of or on
wedge : (ρ m x y b : Place) → side m x y *ℤ ray ρ m b +ℤ ray ρ m y *ℤ side m b x +ℤ ray ρ x m *ℤ side m b y ≡ pos 0
unfolding side cross_of ray agree
wedge ρ m x y b =
    solve! (env (ρ.x ∷ ρ.y ∷ m.x ∷ m.y ∷ x.x ∷ x.y ∷ y.x ∷ y.y ∷ b.x ∷ b.y ∷ []))
    (o_e 1 2 3 ⊗ r_e 0 1 4 ⊕ r_e 0 1 3 ⊗ o_e 1 4 2 ⊕ r_e 0 2 1 ⊗ o_e 1 4 3) (con (pos 0)) tt

right_of : (ρ m x y b : Place) → Apart b m → Pos (side m x y) → Neg (ray ρ m x) → Pos (ray ρ m y) → Low (side m b x) → Low (side m b y) → Pos (ray ρ m b)
unfolding test3 ◌⊙◌ flip
right_of ρ m x y b n d k l u v =
    let s : Is (bal (sg (ray ρ m b)) (sg (side m b x)) (sg (side m b y)) nil) =
    rw (pos-sg d, pos-sg l, pos-sg (neg-neg (ray-back ρ m x) k)) at (bal-mul3 (side m x y) (ray ρ m b) (ray ρ m y) (side m b x) (ray ρ x m) (side m b y) (wedge ρ m x y b)) in
    pick (either (fire (fire (fire (every3 (λ r u v. bal r u v nil ⇒ lo u ⇒ lo v ⇒ up r or ze u & ze v) tt
    (sg (ray ρ m b)) (sg (side m b x)) (sg (side m b y))) s) u.is) v.is))
  where
    pick : Is (up (sg (ray ρ m b))) ⊎ Is (ze (sg (side m b x)) & ze (sg (side m b y))) → Pos (ray ρ m b)
    pick (inl r) = record { is = r }
    pick (inr z) = absurd (not-flat m b m x y (sq_pos b m n) d (on-first m b) (record { is = left z }) (record { is = right z }))

module _ (c : Chart) (snd : Sound c) where
  abbrev P : ℕ → Place
  P = c.place

  m : ℕ
  m = reach (λ v. (c.place v).y) c.vertices

  ρ : Place
  ρ = steep (m + m)

  r : ℕ → ℕ → ℤ
  r u v = ray ρ (P u) (P v)

  off : (u v : ℕ) → u < c.vertices → v < c.vertices → (u ≡ v → ⊥) → Off (r u v)
  unfolding ρ r m
  off u v i j n =
      steep-off (reach (λ v. (c.place v).y) c.vertices + reach (λ v. (c.place v).y) c.vertices) (P u) (P v)
      (sub_in (reach-in (λ v. (c.place v).y) c.vertices v j) (reach-in (λ v. (c.place v).y) c.vertices u i)) (Ch.places-apart c snd v u j i (λ e. n (sym e)))

  back : (u v : ℕ) → r v u ≡ neg_ℤ (r u v)
  unfolding r
  back u v = ray-back ρ (P u) (P v)

  -- no two vertices are alike to ρ, nor to the ray the other way
  Parted : Place → Type 0
  Parted σ = (u v : ℕ) → u < c.vertices → v < c.vertices → (u ≡ v → ⊥) → Off (ray σ (P u) (P v))

  parted : Parted ρ
  unfolding Parted r
  parted = off

  parted' : Parted (counter ρ)
  unfolding Parted r
  parted' u v i j n = neg-ne (ray-counter ρ (P u) (P v)) (off u v i j n)

  -- h starts at a vertex from which σ goes into its face
  record Points (σ : Place) (h : ℕ) : Type 0 where
    there : h < c.half_edges
    inner : c.face h ≡ 0 → ⊥
    right : Neg (ray σ (P (c.origin h)) (P (c.origin (c.next h))))
    left : Pos (ray σ (P (c.origin h)) (P (c.origin (c.prev h))))

  -- into one face at most from a vertex
  points-one : (σ : Place) → Parted σ → (h g : ℕ) → Points σ h → Points σ g → c.origin h ≡ c.origin g → g ≡ h
  unfolding Parted
  points-one σ d h g p r e =
      one_way c snd h p.there p.inner σ (λ v w l m n. subst Off (ray-base σ (P (c.origin h)) (P w) (P v)) (d w v m l (λ q. n (sym q)))) p.right p.left g r.there r.inner (sym e)
      (subst (λ (v : ℕ). Neg (ray σ (P v) (P (c.origin (c.next g))))) (sym e) r.right) (subst (λ (v : ℕ). Pos (ray σ (P v) (P (c.origin (c.prev g))))) (sym e) r.left)

  -- an outer half-edge that leaves it goes to the left of the ray
  outer-left : (σ : Place) (h o : ℕ) → Points σ h → o < c.half_edges → c.face o ≡ 0 → c.origin o ≡ c.origin h → Pos (ray σ (P (c.origin h)) (P (c.origin (c.next o))))
  outer-left σ h o p l f e =
      right_of σ (P (c.origin h)) (P (c.origin (c.next h))) (P (c.origin (c.prev h))) (P (c.origin (c.next o)))
      (subst (λ (v : ℕ). Apart (P (c.origin (c.next o))) (P v)) e (Ch.apart-ends c snd o l)) (Ch.left-turn c snd h p.there p.inner) p.right p.left
      (low (c.next h) (snd.range.nexts h p.there)) (low (c.prev h) (snd.range.prevs h p.there))
    where
      low : (k : ℕ) → k < c.half_edges → Low (side (P (c.origin h)) (P (c.origin (c.next o))) (P (c.origin k)))
      low k m = subst (λ (v : ℕ). Low (side (P v) (P (c.origin (c.next o))) (P (c.origin k)))) e (Ch.hull c snd o (c.origin k) l (snd.range.origins k m) f)

  -- ---- the number of a vertex and a direction
  turn_s : ℕ → S
  turn_s h = sg (r (c.origin h) (c.origin (c.next h)))

  back_s : ℕ → S
  back_s h = sg (r (c.origin h) (c.origin (c.prev h)))

  code : ℕ → ℕ
  code h = 2 * c.origin h + bit (turn_s h)

  code-low : (h : ℕ) → h < c.half_edges → code h < 2 * c.vertices
  unfolding code
  code-low h l = let a = snd.range.origins h l in let b = bit-low (turn_s h) in omega arith

  -- a half-edge at a middle corner
  record MidAt (h : ℕ) : Type 0 where
    there : h < c.half_edges
    inner : c.face h ≡ 0 → ⊥
    mid : Is (Mid (turn_s h) (back_s h))

  record Same (h g : ℕ) : Type 0 where
    origins : c.origin h ≡ c.origin g
    bits : bit (turn_s h) ≡ bit (turn_s g)

  same : (h g : ℕ) → code h ≡ code g → Same h g
  unfolding code
  same h g e =
      let a = bit-low (turn_s h) in
      let b = bit-low (turn_s g) in
      record { origins = omega arith; bits = omega arith }

  up-points : (h : ℕ) → MidAt h → bit (turn_s h) ≡ 0 → Points ρ h
  unfolding turn_s back_s r
  up-points h p e =
      let t = fire (fire (mid-lo (turn_s h) (back_s h)) p.mid) (bit-zero (turn_s h) e) in
      record { there = p.there; inner = p.inner; right = record { is = left t }; left = record { is = right t } }

  down-points : (h : ℕ) → MidAt h → bit (turn_s h) ≡ 1 → Points (counter ρ) h
  unfolding turn_s back_s r
  down-points h p e =
      let u = bit-one (turn_s h) e in
      let t = fire (fire (mid-up (turn_s h) (back_s h)) p.mid) u in
      record {
        there = p.there;
        inner = p.inner;
        right = neg-pos (ray-counter ρ (P (c.origin h)) (P (c.origin (c.next h)))) (record { is = u });
        left = neg-neg (ray-counter ρ (P (c.origin h)) (P (c.origin (c.prev h)))) (record { is = t });
      }

  mid-mid : (h g : ℕ) → MidAt h → MidAt g → code h ≡ code g → h ≡ g
  mid-mid h g p q e = go (two (bit (turn_s h)) (bit-low (turn_s h)))
    where
      s : Same h g
      s = same h g e

      go : (bit (turn_s h) ≡ 0) ⊎ (bit (turn_s h) ≡ 1) → h ≡ g
      go (inl z) = sym (points-one ρ parted h g (up-points h p z) (up-points g q (sym s.bits ∙ z)) s.origins)
      go (inr z) = sym (points-one (counter ρ) parted' h g (down-points h p z) (down-points g q (sym s.bits ∙ z)) s.origins)

  mid-out : (h o : ℕ) → MidAt h → o < c.half_edges → c.face o ≡ 0 → code h ≡ code o → ⊥
  unfolding turn_s r
  mid-out h o p l f e = go (two (bit (turn_s h)) (bit-low (turn_s h)))
    where
      s : Same h o
      s = same h o e

      to : (t : Place) → ray t (P (c.origin h)) (P (c.origin (c.next o))) ≡ ray t (P (c.origin o)) (P (c.origin (c.next o)))
      to t = λ i. ray t (P (s.origins i)) (P (c.origin (c.next o)))

      go : (bit (turn_s h) ≡ 0) ⊎ (bit (turn_s h) ≡ 1) → ⊥
      go (inl z) =
          pos-low (subst Pos (to ρ) (outer-left ρ h o (up-points h p z) l f (sym s.origins)))
          (record { is = bit-zero (turn_s o) (sym s.bits ∙ z) })
      go (inr z) =
          Rattle.signs.specs.Order.pos-neg (subst Pos (to (counter ρ)) (outer-left (counter ρ) h o (down-points h p z) l f (sym s.origins)))
          (neg-pos (ray-counter ρ (P (c.origin o)) (P (c.origin (c.next o)))) (record { is = bit-one (turn_s o) (sym s.bits ∙ z) }))

  out-out : (o u : ℕ) → o < c.half_edges → u < c.half_edges → c.face o ≡ 0 → c.face u ≡ 0 → code o ≡ code u → o ≡ u
  out-out o u l i f g e = snd.lone o u (l, f) (i, g) (same o u e).origins

  -- ---- the lowest and the highest vertex
  nv-some : (n : ℕ) → c.vertices ≡ suc n → (l : ℕ) × (l < c.vertices) × ((v : ℕ) → v < c.vertices → High (r l v))
  unfolding r
  nv-some n e = subst (λ (k : ℕ). (l : ℕ) × (l < k) × ((v : ℕ) → v < k → High (ray ρ (P l) (P v)))) (sym e) (least (λ u v. ray ρ (P u) (P v)) (λ u. zero-eq (ray-self ρ (P u))) (λ u v. ray-back ρ (P u) (P v)) (λ u v z. ray-via ρ (P u) (P v) (P z)) n)

  via-back : (u v z : ℕ) → ray ρ (P v) (P u) ≡ ray ρ (P z) (P u) +ℤ ray ρ (P v) (P z)
  via-back u v z = ray-via ρ (P v) (P u) (P z) ∙ lib.IntN.+ℤ_comm (ray ρ (P v) (P z)) (ray ρ (P z) (P u))

  nv-most : (n : ℕ) → c.vertices ≡ suc n → (l : ℕ) × (l < c.vertices) × ((v : ℕ) → v < c.vertices → High (r v l))
  unfolding r
  nv-most n e = subst (λ (k : ℕ). (l : ℕ) × (l < k) × ((v : ℕ) → v < k → High (ray ρ (P v) (P l)))) (sym e) (least (λ u v. ray ρ (P v) (P u)) (λ u. zero-eq (ray-self ρ (P u))) (λ u v. ray-back ρ (P v) (P u)) via-back n)

  h₀ : ℕ
  h₀ = c.adjacent 0

  l₀ : h₀ < c.half_edges
  unfolding h₀
  l₀ = snd.range.adjacents 0 (let z = snd.faces-two in omega arith)

  f₀ : c.face h₀ ≡ 0
  unfolding h₀
  f₀ = snd.adjacent-face 0 (let z = snd.faces-two in omega arith)

  positive : (n : ℕ) → (x : ℕ) → x < n → (j : ℕ) × (n ≡ suc j)
  positive zero x h = absurd (omega arith)
  positive (suc n) x h = (n, refl)

  least-one : (l : ℕ) × (l < c.vertices) × ((v : ℕ) → v < c.vertices → High (r l v))
  least-one = let p = positive c.vertices (c.origin h₀) (snd.range.origins h₀ l₀) in nv-some p.0 p.1

  most-one : (l : ℕ) × (l < c.vertices) × ((v : ℕ) → v < c.vertices → High (r v l))
  most-one = let p = positive c.vertices (c.origin h₀) (snd.range.origins h₀ l₀) in nv-most p.0 p.1

  Lo : ℕ
  Lo = least-one.0

  Hi : ℕ
  Hi = most-one.0

  lo_at : (v : ℕ) → v < c.vertices → High (r Lo v)
  unfolding Lo
  lo_at = least-one.2

  hi_at : (v : ℕ) → v < c.vertices → Low (r Hi v)
  unfolding Hi
  hi_at v l = neg-hi (back v most-one.0) (most-one.2 v l)

  record At (h a x : ℕ) : Type 0 where
    origin : c.origin h ≡ a
    turned : bit (turn_s h) ≡ x

  at_code : (h a x : ℕ) → x < 2 → code h ≡ 2 * a + x → At h a x
  unfolding code
  at_code h a x i e = let b = bit-low (turn_s h) in record { origin = omega arith; turned = omega arith }

  end-in : (h : ℕ) → h < c.half_edges → c.origin (c.next h) < c.vertices
  end-in h l = snd.range.origins (c.next h) (snd.range.nexts h l)

  mid-lowest : (h : ℕ) → MidAt h → code h ≡ 2 * Lo + 0 → ⊥
  unfolding turn_s r
  mid-lowest h p e =
      let a = at_code h Lo 0 (omega arith) e in
      neg-high (up-points h p a.turned).right (subst (λ (v : ℕ). High (ray ρ (P v) (P (c.origin (c.next h))))) (sym a.origin) (lo_at (c.origin (c.next h)) (end-in h p.there)))

  mid-highest : (h : ℕ) → MidAt h → code h ≡ 2 * Hi + 1 → ⊥
  unfolding turn_s r
  mid-highest h p e =
      let a = at_code h Hi 1 (omega arith) e in
      pos-low (record { is = bit-one (turn_s h) a.turned }) (subst (λ (v : ℕ). Low (ray ρ (P v) (P (c.origin (c.next h))))) (sym a.origin) (hi_at (c.origin (c.next h)) (end-in h p.there)))

  out-lowest : (h : ℕ) → h < c.half_edges → code h ≡ 2 * Lo + 0 → ⊥
  unfolding turn_s r
  out-lowest h l e =
      let a = at_code h Lo 0 (omega arith) e in
      zero-off
      (low-high (record { is = bit-zero (turn_s h) a.turned }) (subst (λ (v : ℕ). High (ray ρ (P v) (P (c.origin (c.next h))))) (sym a.origin) (lo_at (c.origin (c.next h)) (end-in h l))))
      (off (c.origin h) (c.origin (c.next h)) (snd.range.origins h l) (end-in h l) (λ q. snd.ends-differ h l (q ∙ snd.next_start h l)))

  out-highest : (h : ℕ) → h < c.half_edges → code h ≡ 2 * Hi + 1 → ⊥
  unfolding turn_s r
  out-highest h l e =
      let a = at_code h Hi 1 (omega arith) e in
      pos-low (record { is = bit-one (turn_s h) a.turned }) (subst (λ (v : ℕ). Low (ray ρ (P v) (P (c.origin (c.next h))))) (sym a.origin) (hi_at (c.origin (c.next h)) (end-in h l)))

  -- ---- the middle corner of a face, and where a half-edge stands from it
  is_mid : ℕ → Bool
  unfolding ev
  is_mid h = ev (Mid (turn_s h) (back_s h))

  rep : ℕ → ℕ
  rep h = cond (eqb (c.face h) 0) h (cond (is_mid h) h (cond (is_mid (c.next h)) (c.next h) (c.prev h)))

  stand : ℕ → ℕ
  stand h = cond (eqb (c.face h) 0) 0 (cond (is_mid h) 0 (cond (is_mid (c.next h)) 1 2))

  data Kind (h : ℕ) : Type 0 where
    out : c.face h ≡ 0 → rep h ≡ h → stand h ≡ 0 → Kind h
    in₀ : MidAt h → rep h ≡ h → stand h ≡ 0 → Kind h
    in₁ : MidAt (c.next h) → rep h ≡ c.next h → stand h ≡ 1 → Kind h
    in₂ : MidAt (c.prev h) → rep h ≡ c.prev h → stand h ≡ 2 → Kind h

  sign-back : (u v : ℕ) → sg (r v u) ≡ flip (sg (r u v))
  sign-back u v = ap sg (back u v) ∙ sg-neg (r u v)

  round : (a x y : ℕ) → r a x +ℤ r x y +ℤ r y a +ℤ pos 0 ≡ pos 0
  unfolding r
  round a x y = ray-round ρ (P a) (P x) (P y)

  -- one of the three corners is the middle one
  mids : (h : ℕ) → h < c.half_edges → (c.face h ≡ 0 → ⊥) → Is (Mid (turn_s h) (back_s h) or (Mid (turn_s (c.next h)) (back_s (c.next h)) or Mid (turn_s (c.prev h)) (back_s (c.prev h))))
  unfolding turn_s back_s sg
  mids h l i =
      let a = c.origin h in
      let x = c.origin (c.next h) in
      let y = c.origin (c.prev h) in
      let nl = snd.range.nexts h l in
      let pl = snd.range.prevs h l in
      let ai = snd.range.origins h l in
      let xi = snd.range.origins (c.next h) nl in
      let yi = snd.range.origins (c.prev h) pl in
      let e₁ : c.origin (c.next (c.next h)) ≡ y = ap c.origin (snd.next-next h (l, i)) in
      let e₂ : c.origin (c.prev (c.next h)) ≡ a = ap c.origin (snd.prev-next h l) in
      let e₃ : c.origin (c.next (c.prev h)) ≡ a = ap c.origin (snd.next-prev h l) in
      let e₄ : c.origin (c.prev (c.prev h)) ≡ x = ap c.origin (ap c.prev (sym (snd.next-next h (l, i))) ∙ snd.prev-next (c.next h) nl) in
      let d₁ : a ≡ x → ⊥ = λ q. snd.ends-differ h l (q ∙ snd.next_start h l) in
      let d₂ : x ≡ y → ⊥ = λ q. snd.ends-differ (c.next h) nl (q ∙ sym e₁ ∙ snd.next_start (c.next h) nl) in
      let d₃ : y ≡ a → ⊥ = λ q. snd.ends-differ (c.prev h) pl (q ∙ sym e₃ ∙ snd.next_start (c.prev h) pl) in
      let b = bal-sum (r a x) (r x y) (r y a) (pos 0) (round a x y) in
      let t : Is (Mid (sg (r a x)) (flip (sg (r y a))) or (Mid (sg (r x y)) (flip (sg (r a x))) or Mid (sg (r y a)) (flip (sg (r x y))))) =
      fire (fire (fire (fire (some-mid (sg (r a x)) (sg (r x y)) (sg (r y a))) b) (off a x ai xi d₁).is) (off x y xi yi d₂).is) (off y a yi ai d₃).is in
      rw (e₁, e₂, e₃, e₄, sign-back y a, sign-back a x, sign-back x y) t

  kind : (h : ℕ) → h < c.half_edges → Kind h
  unfolding rep stand is_mid
  kind h l = pick (eqb (c.face h) 0) refl (is_mid h) refl (is_mid (c.next h)) refl
    where
      pick : (a : Bool) → eqb (c.face h) 0 ≡ a → (b : Bool) → is_mid h ≡ b → (d : Bool) → is_mid (c.next h) ≡ d → Kind h
      pick true p b q d s = out (eqb-true (c.face h) 0 p) rep_o stand_o
        where
          rep_o : rep h ≡ h
          rep_o = rw (rep, p)

          stand_o : stand h ≡ 0
          stand_o = rw (stand, p)
      pick false p true q d s = in₀ (record { there = l; inner = eqb-false (c.face h) 0 p; mid = is-mid }) rep₀ stand₀
        where
          is-mid : Is (Mid (turn_s h) (back_s h))
          is-mid = record { is = subst T (sym q) tt }

          rep₀ : rep h ≡ h
          rep₀ = rw (rep, p, q)

          stand₀ : stand h ≡ 0
          stand₀ = rw (stand, p, q)
      pick false p false q true s = in₁ (record { there = snd.range.nexts h l; inner = Ch.next-inner c snd h l (eqb-false (c.face h) 0 p); mid = is-mid }) rep₁ stand₁
        where
          is-mid : Is (Mid (turn_s (c.next h)) (back_s (c.next h)))
          is-mid = record { is = subst T (sym s) tt }

          rep₁ : rep h ≡ c.next h
          rep₁ = rw (rep, p, q, s)

          stand₁ : stand h ≡ 1
          stand₁ = rw (stand, p, q, s)
      pick false p false q false s = in₂ (record { there = snd.range.prevs h l; inner = Ch.prev-inner c snd h l (eqb-false (c.face h) 0 p); mid = is-mid (either (mids h l (eqb-false (c.face h) 0 p))) }) rep₂ stand₂
        where
          gone : (f : Fm) → ev f ≡ false → Is f → ⊥
          gone f e i = subst T e i.is

          last : Is (Mid (turn_s (c.next h)) (back_s (c.next h))) ⊎ Is (Mid (turn_s (c.prev h)) (back_s (c.prev h))) → Is (Mid (turn_s (c.prev h)) (back_s (c.prev h)))
          last (inl i) = absurd (gone (Mid (turn_s (c.next h)) (back_s (c.next h))) s i)
          last (inr i) = i

          is-mid : Is (Mid (turn_s h) (back_s h)) ⊎ Is (Mid (turn_s (c.next h)) (back_s (c.next h)) or Mid (turn_s (c.prev h)) (back_s (c.prev h))) → Is (Mid (turn_s (c.prev h)) (back_s (c.prev h)))
          is-mid (inl i) = absurd (gone (Mid (turn_s h) (back_s h)) q i)
          is-mid (inr i) = last (either i)

          rep₂ : rep h ≡ c.prev h
          rep₂ = rw (rep, p, q, s)

          stand₂ : stand h ≡ 2
          stand₂ = rw (stand, p, q, s)

  number : ℕ → ℕ
  number h = 3 * code (rep h) + stand h

  record Apart3 (a b i j : ℕ) : Type 0 where
    base : a ≡ b
    rest : i ≡ j

  thirds : (a b i j : ℕ) → i < 3 → j < 3 → 3 * a + i ≡ 3 * b + j → Apart3 a b i j
  thirds a b i j p q e = record { base = omega arith; rest = omega arith }

  stand-low : (h : ℕ) → Kind h → stand h < 3
  stand-low h (out f e s) = subst (λ (k : ℕ). k < 3) (sym s) (omega arith)
  stand-low h (in₀ f e s) = subst (λ (k : ℕ). k < 3) (sym s) (omega arith)
  stand-low h (in₁ f e s) = subst (λ (k : ℕ). k < 3) (sym s) (omega arith)
  stand-low h (in₂ f e s) = subst (λ (k : ℕ). k < 3) (sym s) (omega arith)

  rep_in : (h : ℕ) → h < c.half_edges → Kind h → rep h < c.half_edges
  rep_in h l (out f e s) = subst (λ (k : ℕ). k < c.half_edges) (sym e) l
  rep_in h l (in₀ f e s) = subst (λ (k : ℕ). k < c.half_edges) (sym e) l
  rep_in h l (in₁ f e s) = subst (λ (k : ℕ). k < c.half_edges) (sym e) f.there
  rep_in h l (in₂ f e s) = subst (λ (k : ℕ). k < c.half_edges) (sym e) f.there

  number-low : (h : ℕ) → h < c.half_edges → number h < 6 * c.vertices
  unfolding number
  number-low h l =
      let a = code-low (rep h) (rep_in h l (kind h l)) in
      let b = stand-low h (kind h l) in
      omega arith

  one_number : (h g : ℕ) → h < c.half_edges → g < c.half_edges → number h ≡ number g → h ≡ g
  unfolding number
  one_number h g l j e =
      let t = thirds (code (rep h)) (code (rep g)) (stand h) (stand g) (stand-low h (kind h l)) (stand-low g (kind g j)) e in
      by (kind h l) (kind g j) t.base t.rest
    where
      cd : (x y x' y' : ℕ) → x ≡ x' → y ≡ y' → code x ≡ code y → code x' ≡ code y'
      cd x y x' y' p q s = ap code (sym p) ∙ s ∙ ap code q

      by : Kind h → Kind g → code (rep h) ≡ code (rep g) → stand h ≡ stand g → h ≡ g
      by (out f a s) (out f' a' s') q u = out-out h g l j f f' (cd _ _ _ _ a a' q)
      by (out f a s) (in₀ f' a' s') q u = absurd (mid-out g h f' l f (sym (cd _ _ _ _ a a' q)))
      by (out f a s) (in₁ f' a' s') q u = absurd (mid-out (c.next g) h f' l f (sym (cd _ _ _ _ a a' q)))
      by (out f a s) (in₂ f' a' s') q u = absurd (mid-out (c.prev g) h f' l f (sym (cd _ _ _ _ a a' q)))
      by (in₀ f a s) (out f' a' s') q u = absurd (mid-out h g f j f' (cd _ _ _ _ a a' q))
      by (in₁ f a s) (out f' a' s') q u = absurd (mid-out (c.next h) g f j f' (cd _ _ _ _ a a' q))
      by (in₂ f a s) (out f' a' s') q u = absurd (mid-out (c.prev h) g f j f' (cd _ _ _ _ a a' q))
      by (in₀ f a s) (in₀ f' a' s') q u = mid-mid h g f f' (cd _ _ _ _ a a' q)
      by (in₀ f a s) (in₁ f' a' s') q u = absurd (let z : 0 ≡ 1 = sym s ∙ u ∙ s' in omega arith)
      by (in₀ f a s) (in₂ f' a' s') q u = absurd (let z : 0 ≡ 2 = sym s ∙ u ∙ s' in omega arith)
      by (in₁ f a s) (in₀ f' a' s') q u = absurd (let z : 1 ≡ 0 = sym s ∙ u ∙ s' in omega arith)
      by (in₁ f a s) (in₁ f' a' s') q u = sym (snd.prev-next h l) ∙ ap c.prev (mid-mid (c.next h) (c.next g) f f' (cd _ _ _ _ a a' q)) ∙ snd.prev-next g j
      by (in₁ f a s) (in₂ f' a' s') q u = absurd (let z : 1 ≡ 2 = sym s ∙ u ∙ s' in omega arith)
      by (in₂ f a s) (in₀ f' a' s') q u = absurd (let z : 2 ≡ 0 = sym s ∙ u ∙ s' in omega arith)
      by (in₂ f a s) (in₁ f' a' s') q u = absurd (let z : 2 ≡ 1 = sym s ∙ u ∙ s' in omega arith)
      by (in₂ f a s) (in₂ f' a' s') q u = sym (snd.next-prev h l) ∙ ap c.next (mid-mid (c.prev h) (c.prev g) f f' (cd _ _ _ _ a a' q)) ∙ snd.next-prev g j

  -- ---- three outer half-edges
  no-two : (h : ℕ) → h < c.half_edges → c.next (c.next h) ≡ h → ⊥
  no-two h l e = pick (ℕ_discrete (c.face h) 0)
    where
      nl : c.next h < c.half_edges
      nl = snd.range.nexts h l

      pick : Dec (c.face h ≡ 0) → ⊥
      pick (no i) = snd.ends-differ h l (ap c.origin (sym (ap c.next (snd.next-next h (l, i)) ∙ snd.next-prev h l) ∙ ap c.next e) ∙ snd.next_start h l)
      pick (yes o) =
          let back-there : c.origin (c.next (c.next h)) ≡ c.origin h = ap c.origin e in
          neg-high
          (subst (λ (v : ℕ). Neg (dots (P (c.origin h)) (P v) (P (c.origin (c.next h))))) back-there
          (Ri.onward c snd h (c.next h) l nl o (snd.next-face h l ∙ o) refl
          (subst (λ (v : ℕ). Zero (side (P (c.origin h)) (P (c.origin (c.next h))) (P v))) (sym back-there) (on-first (P (c.origin h)) (P (c.origin (c.next h)))))))
          (sq-high (P (c.origin h)) (P (c.origin (c.next h))))

  h₁ : ℕ
  h₁ = c.next h₀

  h₂ : ℕ
  h₂ = c.next h₁

  l₁ : h₁ < c.half_edges
  unfolding h₁
  l₁ = snd.range.nexts h₀ l₀

  l₂ : h₂ < c.half_edges
  unfolding h₂
  l₂ = snd.range.nexts h₁ l₁

  f₁ : c.face h₁ ≡ 0
  unfolding h₁
  f₁ = snd.next-face h₀ l₀ ∙ f₀

  f₂ : c.face h₂ ≡ 0
  unfolding h₂
  f₂ = snd.next-face h₁ l₁ ∙ f₁

  no_one : (h : ℕ) → h < c.half_edges → c.next h ≡ h → ⊥
  no_one h l e = snd.ends-differ h l (ap c.origin (sym e) ∙ snd.next_start h l)

  d₀₁ : h₀ ≡ h₁ → ⊥
  unfolding h₁
  d₀₁ e = no_one h₀ l₀ (sym e)

  d₁₂ : h₁ ≡ h₂ → ⊥
  unfolding h₂
  d₁₂ e = no_one h₁ l₁ (sym e)

  d₀₂ : h₀ ≡ h₂ → ⊥
  unfolding h₁ h₂
  d₀₂ e = no-two h₀ l₀ (sym e)

  -- the numbers left over
  spare-out : (o x : ℕ) → o < c.half_edges → c.face o ≡ 0 → x < 3 → (x ≡ 0 → ⊥) → (h : ℕ) → h < c.half_edges → number h ≡ 3 * code o + x → ⊥
  unfolding number
  spare-out o x ol oz xl xn h l e = by (kind h l)
    where
      t : Apart3 (code (rep h)) (code o) (stand h) x
      t = thirds (code (rep h)) (code o) (stand h) x (stand-low h (kind h l)) xl e

      by : Kind h → ⊥
      by (out f a s) = xn (sym t.rest ∙ s)
      by (in₀ f a s) = mid-out h o f ol oz (ap code (sym a) ∙ t.base)
      by (in₁ f a s) = mid-out (c.next h) o f ol oz (ap code (sym a) ∙ t.base)
      by (in₂ f a s) = mid-out (c.prev h) o f ol oz (ap code (sym a) ∙ t.base)

  spare-lo : (x : ℕ) → x < 3 → (h : ℕ) → h < c.half_edges → number h ≡ 3 * (2 * Lo + 0) + x → ⊥
  unfolding number
  spare-lo x xl h l e = by (kind h l)
    where
      t : Apart3 (code (rep h)) (2 * Lo + 0) (stand h) x
      t = thirds (code (rep h)) (2 * Lo + 0) (stand h) x (stand-low h (kind h l)) xl e

      by : Kind h → ⊥
      by (out f a s) = out-lowest h l (ap code (sym a) ∙ t.base)
      by (in₀ f a s) = mid-lowest h f (ap code (sym a) ∙ t.base)
      by (in₁ f a s) = mid-lowest (c.next h) f (ap code (sym a) ∙ t.base)
      by (in₂ f a s) = mid-lowest (c.prev h) f (ap code (sym a) ∙ t.base)

  spare-hi : (x : ℕ) → x < 3 → (h : ℕ) → h < c.half_edges → number h ≡ 3 * (2 * Hi + 1) + x → ⊥
  unfolding number
  spare-hi x xl h l e = by (kind h l)
    where
      t : Apart3 (code (rep h)) (2 * Hi + 1) (stand h) x
      t = thirds (code (rep h)) (2 * Hi + 1) (stand h) x (stand-low h (kind h l)) xl e

      by : Kind h → ⊥
      by (out f a s) = out-highest h l (ap code (sym a) ∙ t.base)
      by (in₀ f a s) = mid-highest h f (ap code (sym a) ∙ t.base)
      by (in₁ f a s) = mid-highest (c.next h) f (ap code (sym a) ∙ t.base)
      by (in₂ f a s) = mid-highest (c.prev h) f (ap code (sym a) ∙ t.base)

  differ : (a b i j : ℕ) → i < 3 → j < 3 → (a ≡ b → ⊥) → 3 * a + i ≡ 3 * b + j → ⊥
  differ a b i j p q n e = n (thirds a b i j p q e).base

  shift : (a i j : ℕ) → (i ≡ j → ⊥) → 3 * a + i ≡ 3 * a + j → ⊥
  shift a i j n e = n (omega arith)

  Lo-in : Lo < c.vertices
  unfolding Lo
  Lo-in = least-one.1

  Hi-in : Hi < c.vertices
  unfolding Hi
  Hi-in = most-one.1

  under-six : (a i : ℕ) → a < 2 * c.vertices → i < 3 → 3 * a + i < 6 * c.vertices
  under-six a i p q = omega arith

  n₀₁ : code h₀ ≡ code h₁ → ⊥
  n₀₁ e = d₀₁ (out-out h₀ h₁ l₀ l₁ f₀ f₁ e)

  n₀₂ : code h₀ ≡ code h₂ → ⊥
  n₀₂ e = d₀₂ (out-out h₀ h₂ l₀ l₂ f₀ f₂ e)

  n₁₂ : code h₁ ≡ code h₂ → ⊥
  n₁₂ e = d₁₂ (out-out h₁ h₂ l₁ l₂ f₁ f₂ e)

  n-lh : 2 * Lo + 0 ≡ 2 * Hi + 1 → ⊥
  n-lh e = omega arith

  spares : List ℕ
  spares = (3 * code h₀ + 1) ∷ (3 * code h₀ + 2) ∷ (3 * code h₁ + 1) ∷ (3 * code h₁ + 2) ∷ (3 * code h₂ + 1) ∷ (3 * code h₂ + 2) ∷ (3 * (2 * Lo + 0) + 0) ∷ (3 * (2 * Lo + 0) + 1) ∷ (3 * (2 * Lo + 0) + 2) ∷ (3 * (2 * Hi + 1) + 0) ∷ (3 * (2 * Hi + 1) + 1) ∷ (3 * (2 * Hi + 1) + 2) ∷ []

  extra : Extra c.half_edges (6 * c.vertices) number spares
  unfolding spares
  extra =
      Extra.cons (under-six (code h₀) 1 (code-low h₀ l₀) (omega arith)) (spare-out h₀ 1 l₀ f₀ (omega arith) (λ q. omega arith)) (None.cons (shift (code h₀) 1 2 (λ q. omega arith)) (None.cons (differ (code h₀) (code h₁) 1 1 (omega arith) (omega arith) n₀₁) (None.cons (differ (code h₀) (code h₁) 1 2 (omega arith) (omega arith) n₀₁) (None.cons (differ (code h₀) (code h₂) 1 1 (omega arith) (omega arith) n₀₂) (None.cons (differ (code h₀) (code h₂) 1 2 (omega arith) (omega arith) n₀₂) (None.cons (differ (code h₀) (2 * Lo + 0) 1 0 (omega arith) (omega arith) (out-lowest h₀ l₀)) (None.cons (differ (code h₀) (2 * Lo + 0) 1 1 (omega arith) (omega arith) (out-lowest h₀ l₀)) (None.cons (differ (code h₀) (2 * Lo + 0) 1 2 (omega arith) (omega arith) (out-lowest h₀ l₀)) (None.cons (differ (code h₀) (2 * Hi + 1) 1 0 (omega arith) (omega arith) (out-highest h₀ l₀)) (None.cons (differ (code h₀) (2 * Hi + 1) 1 1 (omega arith) (omega arith) (out-highest h₀ l₀)) (None.cons (differ (code h₀) (2 * Hi + 1) 1 2 (omega arith) (omega arith) (out-highest h₀ l₀)) None.nil)))))))))))
      (Extra.cons (under-six (code h₀) 2 (code-low h₀ l₀) (omega arith)) (spare-out h₀ 2 l₀ f₀ (omega arith) (λ q. omega arith)) (None.cons (differ (code h₀) (code h₁) 2 1 (omega arith) (omega arith) n₀₁) (None.cons (differ (code h₀) (code h₁) 2 2 (omega arith) (omega arith) n₀₁) (None.cons (differ (code h₀) (code h₂) 2 1 (omega arith) (omega arith) n₀₂) (None.cons (differ (code h₀) (code h₂) 2 2 (omega arith) (omega arith) n₀₂) (None.cons (differ (code h₀) (2 * Lo + 0) 2 0 (omega arith) (omega arith) (out-lowest h₀ l₀)) (None.cons (differ (code h₀) (2 * Lo + 0) 2 1 (omega arith) (omega arith) (out-lowest h₀ l₀)) (None.cons (differ (code h₀) (2 * Lo + 0) 2 2 (omega arith) (omega arith) (out-lowest h₀ l₀)) (None.cons (differ (code h₀) (2 * Hi + 1) 2 0 (omega arith) (omega arith) (out-highest h₀ l₀)) (None.cons (differ (code h₀) (2 * Hi + 1) 2 1 (omega arith) (omega arith) (out-highest h₀ l₀)) (None.cons (differ (code h₀) (2 * Hi + 1) 2 2 (omega arith) (omega arith) (out-highest h₀ l₀)) None.nil))))))))))
      (Extra.cons (under-six (code h₁) 1 (code-low h₁ l₁) (omega arith)) (spare-out h₁ 1 l₁ f₁ (omega arith) (λ q. omega arith)) (None.cons (shift (code h₁) 1 2 (λ q. omega arith)) (None.cons (differ (code h₁) (code h₂) 1 1 (omega arith) (omega arith) n₁₂) (None.cons (differ (code h₁) (code h₂) 1 2 (omega arith) (omega arith) n₁₂) (None.cons (differ (code h₁) (2 * Lo + 0) 1 0 (omega arith) (omega arith) (out-lowest h₁ l₁)) (None.cons (differ (code h₁) (2 * Lo + 0) 1 1 (omega arith) (omega arith) (out-lowest h₁ l₁)) (None.cons (differ (code h₁) (2 * Lo + 0) 1 2 (omega arith) (omega arith) (out-lowest h₁ l₁)) (None.cons (differ (code h₁) (2 * Hi + 1) 1 0 (omega arith) (omega arith) (out-highest h₁ l₁)) (None.cons (differ (code h₁) (2 * Hi + 1) 1 1 (omega arith) (omega arith) (out-highest h₁ l₁)) (None.cons (differ (code h₁) (2 * Hi + 1) 1 2 (omega arith) (omega arith) (out-highest h₁ l₁)) None.nil)))))))))
      (Extra.cons (under-six (code h₁) 2 (code-low h₁ l₁) (omega arith)) (spare-out h₁ 2 l₁ f₁ (omega arith) (λ q. omega arith)) (None.cons (differ (code h₁) (code h₂) 2 1 (omega arith) (omega arith) n₁₂) (None.cons (differ (code h₁) (code h₂) 2 2 (omega arith) (omega arith) n₁₂) (None.cons (differ (code h₁) (2 * Lo + 0) 2 0 (omega arith) (omega arith) (out-lowest h₁ l₁)) (None.cons (differ (code h₁) (2 * Lo + 0) 2 1 (omega arith) (omega arith) (out-lowest h₁ l₁)) (None.cons (differ (code h₁) (2 * Lo + 0) 2 2 (omega arith) (omega arith) (out-lowest h₁ l₁)) (None.cons (differ (code h₁) (2 * Hi + 1) 2 0 (omega arith) (omega arith) (out-highest h₁ l₁)) (None.cons (differ (code h₁) (2 * Hi + 1) 2 1 (omega arith) (omega arith) (out-highest h₁ l₁)) (None.cons (differ (code h₁) (2 * Hi + 1) 2 2 (omega arith) (omega arith) (out-highest h₁ l₁)) None.nil))))))))
      (Extra.cons (under-six (code h₂) 1 (code-low h₂ l₂) (omega arith)) (spare-out h₂ 1 l₂ f₂ (omega arith) (λ q. omega arith)) (None.cons (shift (code h₂) 1 2 (λ q. omega arith)) (None.cons (differ (code h₂) (2 * Lo + 0) 1 0 (omega arith) (omega arith) (out-lowest h₂ l₂)) (None.cons (differ (code h₂) (2 * Lo + 0) 1 1 (omega arith) (omega arith) (out-lowest h₂ l₂)) (None.cons (differ (code h₂) (2 * Lo + 0) 1 2 (omega arith) (omega arith) (out-lowest h₂ l₂)) (None.cons (differ (code h₂) (2 * Hi + 1) 1 0 (omega arith) (omega arith) (out-highest h₂ l₂)) (None.cons (differ (code h₂) (2 * Hi + 1) 1 1 (omega arith) (omega arith) (out-highest h₂ l₂)) (None.cons (differ (code h₂) (2 * Hi + 1) 1 2 (omega arith) (omega arith) (out-highest h₂ l₂)) None.nil)))))))
      (Extra.cons (under-six (code h₂) 2 (code-low h₂ l₂) (omega arith)) (spare-out h₂ 2 l₂ f₂ (omega arith) (λ q. omega arith)) (None.cons (differ (code h₂) (2 * Lo + 0) 2 0 (omega arith) (omega arith) (out-lowest h₂ l₂)) (None.cons (differ (code h₂) (2 * Lo + 0) 2 1 (omega arith) (omega arith) (out-lowest h₂ l₂)) (None.cons (differ (code h₂) (2 * Lo + 0) 2 2 (omega arith) (omega arith) (out-lowest h₂ l₂)) (None.cons (differ (code h₂) (2 * Hi + 1) 2 0 (omega arith) (omega arith) (out-highest h₂ l₂)) (None.cons (differ (code h₂) (2 * Hi + 1) 2 1 (omega arith) (omega arith) (out-highest h₂ l₂)) (None.cons (differ (code h₂) (2 * Hi + 1) 2 2 (omega arith) (omega arith) (out-highest h₂ l₂)) None.nil))))))
      (Extra.cons (under-six (2 * Lo + 0) 0 (let z = Lo-in in omega arith) (omega arith)) (spare-lo 0 (omega arith)) (None.cons (shift (2 * Lo + 0) 0 1 (λ q. omega arith)) (None.cons (shift (2 * Lo + 0) 0 2 (λ q. omega arith)) (None.cons (differ (2 * Lo + 0) (2 * Hi + 1) 0 0 (omega arith) (omega arith) n-lh) (None.cons (differ (2 * Lo + 0) (2 * Hi + 1) 0 1 (omega arith) (omega arith) n-lh) (None.cons (differ (2 * Lo + 0) (2 * Hi + 1) 0 2 (omega arith) (omega arith) n-lh) None.nil)))))
      (Extra.cons (under-six (2 * Lo + 0) 1 (let z = Lo-in in omega arith) (omega arith)) (spare-lo 1 (omega arith)) (None.cons (shift (2 * Lo + 0) 1 2 (λ q. omega arith)) (None.cons (differ (2 * Lo + 0) (2 * Hi + 1) 1 0 (omega arith) (omega arith) n-lh) (None.cons (differ (2 * Lo + 0) (2 * Hi + 1) 1 1 (omega arith) (omega arith) n-lh) (None.cons (differ (2 * Lo + 0) (2 * Hi + 1) 1 2 (omega arith) (omega arith) n-lh) None.nil))))
      (Extra.cons (under-six (2 * Lo + 0) 2 (let z = Lo-in in omega arith) (omega arith)) (spare-lo 2 (omega arith)) (None.cons (differ (2 * Lo + 0) (2 * Hi + 1) 2 0 (omega arith) (omega arith) n-lh) (None.cons (differ (2 * Lo + 0) (2 * Hi + 1) 2 1 (omega arith) (omega arith) n-lh) (None.cons (differ (2 * Lo + 0) (2 * Hi + 1) 2 2 (omega arith) (omega arith) n-lh) None.nil)))
      (Extra.cons (under-six (2 * Hi + 1) 0 (let z = Hi-in in omega arith) (omega arith)) (spare-hi 0 (omega arith)) (None.cons (shift (2 * Hi + 1) 0 1 (λ q. omega arith)) (None.cons (shift (2 * Hi + 1) 0 2 (λ q. omega arith)) None.nil))
      (Extra.cons (under-six (2 * Hi + 1) 1 (let z = Hi-in in omega arith) (omega arith)) (spare-hi 1 (omega arith)) (None.cons (shift (2 * Hi + 1) 1 2 (λ q. omega arith)) None.nil)
      (Extra.cons (under-six (2 * Hi + 1) 2 (let z = Hi-in in omega arith) (omega arith)) (spare-hi 2 (omega arith)) None.nil
      Extra.nil)))))))))))

  -- ---- the half-edges, and the numbers left over, are fewer than 6n
  pub half-edges-few : c.half_edges + 12 ≤ 6 * c.vertices
  unfolding spares
  half-edges-few = fit-extra spares c.half_edges (6 * c.vertices) number number-low one_number extra

  -- ---- the faces, three half-edges each
  stepped : ℕ → ℕ → ℕ
  stepped zero a = a
  stepped (suc zero) a = c.next a
  stepped (suc (suc j)) a = c.next (c.next a)

  stepped-in : (j a : ℕ) → a < c.half_edges → (stepped j a < c.half_edges) × (c.face (stepped j a) ≡ c.face a)
  unfolding stepped
  stepped-in zero a l = (l, refl)
  stepped-in (suc zero) a l = (snd.range.nexts a l, snd.next-face a l)
  stepped-in (suc (suc j)) a l = (snd.range.nexts (c.next a) (snd.range.nexts a l), snd.next-face (c.next a) (snd.range.nexts a l) ∙ snd.next-face a l)

  stepped-one : (i j a : ℕ) → i < 3 → j < 3 → a < c.half_edges → stepped i a ≡ stepped j a → i ≡ j
  unfolding stepped
  stepped-one zero zero a p q l e = refl
  stepped-one zero (suc zero) a p q l e = absurd (no_one a l (sym e))
  stepped-one zero (suc (suc j)) a p q l e = absurd (no-two a l (sym e))
  stepped-one (suc zero) zero a p q l e = absurd (no_one a l e)
  stepped-one (suc zero) (suc zero) a p q l e = refl
  stepped-one (suc zero) (suc (suc j)) a p q l e = absurd (no_one (c.next a) (snd.range.nexts a l) (sym e))
  stepped-one (suc (suc i)) zero a p q l e = absurd (no-two a l e)
  stepped-one (suc (suc i)) (suc zero) a p q l e = absurd (no_one (c.next a) (snd.range.nexts a l) e)
  stepped-one (suc (suc i)) (suc (suc j)) a p q l e = omega arith

  edge_of : ℕ → ℕ
  edge_of i = stepped (i % 3) (c.adjacent (i / 3))

  face-in : (i : ℕ) → i < 3 * c.faces → i / 3 < c.faces
  face-in i l = omega arith

  edge-face : (i : ℕ) → i < 3 * c.faces → c.face (edge_of i) ≡ i / 3
  unfolding edge_of
  edge-face i l = (stepped-in (i % 3) (c.adjacent (i / 3)) (snd.range.adjacents (i / 3) (face-in i l))).1 ∙ snd.adjacent-face (i / 3) (face-in i l)

  pub faces-few : 3 * c.faces ≤ c.half_edges
  unfolding edge_of
  faces-few =
      fit (3 * c.faces) c.half_edges edge_of (λ i l. (stepped-in (i % 3) (c.adjacent (i / 3)) (snd.range.adjacents (i / 3) (face-in i l))).0)
      (λ i j l p e.
      let f : i / 3 ≡ j / 3 = sym (edge-face i l) ∙ ap c.face e ∙ edge-face j p in
      let s : i % 3 ≡ j % 3 = stepped-one (i % 3) (j % 3) (c.adjacent (i / 3)) (omega arith) (omega arith) (snd.range.adjacents (i / 3) (face-in i l)) (e ∙ ap (λ (k : ℕ). stepped (j % 3) (c.adjacent k)) (sym f)) in
      omega arith)
