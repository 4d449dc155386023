-- The rim crosses the line of a ray downwards once at most: two half-edges that did would lie on one line, and then they would meet. Assumes nothing.
use Rattle.std.specs.Prelude.{◌≡◌, refl, ◌⊎◌, Bool, [], ◌∷◌, ℕ, zero, suc, ◌+◌, ◌<◌, ℤ, ◌+ℤ◌, ◌-ℤ◌}
use Rattle.std.proofs.Common.{sym, subst, ap, ◌∙◌, inl, inr, arith}
use Rattle.std.proofs.Math.Decide.{ℕ_discrete}
use Rattle.std.proofs.Math.IntN.{+ℤ_invr}
use Rattle.whole.specs.Poly.{var, ◌⊕◌, ◌⊖◌, env, agree, solve! }
use Rattle.signs.specs.Signs.{sg, Fm, dn, ev, Pos, Neg, Zero, Low, Off, holds, tests, fails, eq-zero}
use Rattle.signs.specs.Count.{count, count_less}
use Rattle.signs.specs.Order.{neg-neg, neg-pos, neg_low, neg-zero, pos-high, pos-zero, add-neg, add-pos, off-cases, sub-flip}
use Rattle.geometry.specs.declared.Place.{Place}
use Rattle.geometry.specs.Plane.{side}
use Rattle.cells.specs.Points.{ray}
use Rattle.cells.specs.Corner.{Apart}
use Rattle.cells.specs.Rays.{no-lowest}
use Rattle.cells.specs.Line.{on-first, on-second, collinear, one-line-both, goes_on}
use Rattle.chart.specs.Chart.{Chart}
use Rattle.sound.specs.Sound.{Sound}
use Rattle.nearby.specs.Chart as Ch
use Rattle.nearby.specs.Rim as R

-- ---- order by differences
join : (x y z : ℤ) → (x -ℤ y) +ℤ (y -ℤ z) ≡ x -ℤ z
unfolding agree
join x y z = solve! (env (x ∷ y ∷ z ∷ [])) (var 0 ⊖ var 1 ⊕ (var 1 ⊖ var 2)) (var 0 ⊖ var 2) tt

neg-trans : (x y z : ℤ) → Neg (x -ℤ y) → Neg (y -ℤ z) → Neg (x -ℤ z)
neg-trans x y z h k = subst Neg (join x y z) (add-neg h (neg_low k))

pos-trans : (x y z : ℤ) → Pos (x -ℤ y) → Pos (y -ℤ z) → Pos (x -ℤ z)
pos-trans x y z h k = subst Pos (join x y z) (add-pos h (pos-high k))

turn-neg : (x y : ℤ) → Pos (x -ℤ y) → Neg (y -ℤ x)
turn-neg x y h = neg-pos (sub-flip x y) h

turn-pos : (x y : ℤ) → Neg (x -ℤ y) → Pos (y -ℤ x)
turn-pos x y h = neg-neg (sub-flip x y) h

pos-gap : (x y : ℤ) → Pos x → Neg y → Pos (x -ℤ y)
pos-gap x y h k = add-pos h (pos-high (neg-neg refl k))

module _ (c : Chart) (snd : Sound c) (q : Place) where
  abbrev A : ℕ → Place
  A = Ch.A c snd

  abbrev B : ℕ → Place
  B = Ch.B c snd

  -- no two vertices are alike to the ray
  abbrev pub Differ : Place → Type 0
  Differ ρ = (v w : ℕ) → v < c.vertices → w < c.vertices → (v ≡ w → ⊥) → Off (ray ρ q (c.place v) -ℤ ray ρ q (c.place w))

  module _ (ρ : Place) (dif : Differ ρ) where
    -- what the origin of h is to the ray: above 0 on the left of its line, below 0 on the right
    abbrev pub al : ℕ → ℤ
    al h = ray ρ q (c.place (c.origin h))

    -- how many vertices lie farther along the ray's line than the origin of h
    farther_f : ℕ → ℕ → Fm
    farther_f h v = dn (sg (ray ρ q (c.place v) -ℤ al h))

    farther : ℕ → ℕ → Bool
    unfolding farther_f
    farther h v = ev (farther_f h v)

    pub size : ℕ → ℕ
    unfolding farther
    size h = count (farther h) c.vertices

    pub falls : (h k : ℕ) → k < c.half_edges → Neg (al k -ℤ al h) → size k < size h
    unfolding size farther farther_f
    falls h k l n =
        count_less (farther k) (farther h) c.vertices (c.origin k) (snd.range.origins k l)
        (fails (farther_f k (c.origin k)) (λ f. neg-zero {z = al k -ℤ al k} (record { is = f }) (eq-zero (+ℤ_invr (al k)))))
        (tests (farther_f h (c.origin k)) n.is)
        (λ v e. let f : Neg (ray ρ q (c.place v) -ℤ al k) = record { is = holds (farther_f k v) e } in
        tests (farther_f h v) (neg-trans (ray ρ q (c.place v)) (al k) (al h) f n).is)

    -- ---- k starts on the line of h between its ends, and goes the same way
    record Over (h k : ℕ) : Type 0 where
      pub h-in : h < c.half_edges
      pub k-in : k < c.half_edges
      pub h-out : c.face h ≡ 0
      pub k-out : c.face k ≡ 0
      pub on-A : Zero (side (A h) (B h) (A k))
      pub on-B : Zero (side (A h) (B h) (B k))
      pub after : Pos (al h -ℤ al k)
      pub before : Pos (al k -ℤ al (c.next h))
      pub onward : Pos (al k -ℤ al (c.next k))

    -- where a vertex lies farther on the line of h, the rim goes on along it
    module _ (h z : ℕ) (l : h < c.half_edges) (o : c.face h ≡ 0) (zl : z < c.vertices) (on : Zero (side (A h) (B h) (c.place z))) (dn : Pos (al h -ℤ al (c.next h))) (far : Pos (al (c.next h) -ℤ ray ρ q (c.place z))) where
      nl : c.next h < c.half_edges
      nl = snd.range.nexts h l

      n-out : c.face (c.next h) ≡ 0
      n-out = snd.next-face h l ∙ o

      nnl : c.next (c.next h) < c.half_edges
      nnl = snd.range.nexts (c.next h) nl

      on-next : Zero (side (A h) (B h) (B (c.next h)))
      on-next =
          goes_on ρ q (A h) (B h) (B (c.next h)) (c.place z) (turn-neg (al h) (al (c.next h)) dn) far on
          (Ch.hull c snd h (c.origin (c.next (c.next h))) l (snd.range.origins (c.next (c.next h)) nnl) o) (Ch.hull c snd (c.next h) z nl zl n-out)

      next_down : Pos (al (c.next h) -ℤ al (c.next (c.next h)))
      next_down = pick (off-cases (dif (c.origin (c.next h)) (c.origin (c.next (c.next h))) (snd.range.origins (c.next h) nl) (snd.range.origins (c.next (c.next h)) nnl) (λ e. snd.ends-differ (c.next h) nl (e ∙ snd.next_start (c.next h) nl))))
        where
          pick : Neg (al (c.next h) -ℤ al (c.next (c.next h))) ⊎ Pos (al (c.next h) -ℤ al (c.next (c.next h))) → Pos (al (c.next h) -ℤ al (c.next (c.next h)))
          pick (inr s) = s
          pick (inl s) =
              absurd
              (no-lowest ρ q (A h) (B h) (B (c.next h)) (Ch.ends-apart c snd h l) (turn-neg (al h) (al (c.next h)) dn) (turn-pos (al (c.next h)) (al (c.next (c.next h))) s) on-next
              (R.onward c snd h (c.next h) l nl o n-out refl on-next))

    step : (h k : ℕ) → Over h k → ((h' k' : ℕ) → Over h' k' → size h' + size k' < size h + size k → ⊥) → ⊥
    step h k v rec = pick (ℕ_discrete (c.origin (c.next h)) (c.origin (c.next k)))
      where
        hl : h < c.half_edges
        hl = v.h-in

        kl : k < c.half_edges
        kl = v.k-in

        hn : c.next h < c.half_edges
        hn = snd.range.nexts h hl

        kn : c.next k < c.half_edges
        kn = snd.range.nexts k kl

        hno : c.face (c.next h) ≡ 0
        hno = snd.next-face h hl ∙ v.h-out

        kno : c.face (c.next k) ≡ 0
        kno = snd.next-face k kl ∙ v.k-out

        ap-h : Apart (B h) (A h)
        ap-h = Ch.apart-ends c snd h hl

        ap-k : Apart (B k) (A k)
        ap-k = Ch.apart-ends c snd k kl

        -- the ends of h on the line of k
        back-A : Zero (side (A k) (B k) (A h))
        back-A = collinear (A h) (B h) (A k) (B k) (A h) ap-h v.on-A v.on-B (on-first (A h) (B h))

        back-B : Zero (side (A k) (B k) (B h))
        back-B = collinear (A h) (B h) (A k) (B k) (B h) ap-h v.on-A v.on-B (on-second (A h) (B h))

        h-down : Pos (al h -ℤ al (c.next h))
        h-down = pos-trans (al h) (al k) (al (c.next h)) v.after v.before

        ends : Neg (al (c.next h) -ℤ al (c.next k)) ⊎ Pos (al (c.next h) -ℤ al (c.next k)) → ⊥
        -- h ends first: k and the next of h
        ends (inr s) =
            let z = c.origin (c.next k) in
            let zl : z < c.vertices = snd.range.origins (c.next k) kn in
            rec k (c.next h)
            (record {
              h-in = kl;
              k-in = hn;
              h-out = v.k-out;
              k-out = hno;
              on-A = back-B;
              on-B = collinear (A h) (B h) (A k) (B k) (B (c.next h)) ap-h v.on-A v.on-B (on-next h z hl v.h-out zl v.on-B h-down s);
              after = v.before;
              before = s;
              onward = next_down h z hl v.h-out zl v.on-B h-down s;
            })
            (let f = falls h (c.next h) hn (turn-neg (al h) (al (c.next h)) h-down) in omega (arith, f))
        -- k ends first: h and the next of k
        ends (inl s) =
            let t : Pos (al (c.next k) -ℤ al (c.next h)) = turn-pos (al (c.next h)) (al (c.next k)) s in
            let z = c.origin (c.next h) in
            let zl : z < c.vertices = snd.range.origins (c.next h) hn in
            rec h (c.next k)
            (record {
              h-in = hl;
              k-in = kn;
              h-out = v.h-out;
              k-out = kno;
              on-A = v.on-B;
              on-B = collinear (A k) (B k) (A h) (B h) (B (c.next k)) ap-k back-A back-B (on-next k z kl v.k-out zl back-B v.onward t);
              after = pos-trans (al h) (al k) (al (c.next k)) v.after v.onward;
              before = t;
              onward = next_down k z kl v.k-out zl back-B v.onward t;
            })
            (let f = falls k (c.next k) kn (turn-neg (al k) (al (c.next k)) v.onward) in omega (arith, f))

        pick : Dec (c.origin (c.next h) ≡ c.origin (c.next k)) → ⊥
        pick (yes e) =
            let n : c.next h ≡ c.next k = snd.lone (c.next h) (c.next k) (hn, hno) (kn, kno) e in
            let m : h ≡ k = sym (snd.prev-next h hl) ∙ ap c.prev n ∙ snd.prev-next k kl in
            pos-zero v.after (eq-zero (ap (λ (i : ℕ). al h -ℤ al i) (sym m) ∙ +ℤ_invr (al h)))
        pick (no e) =
            ends (off-cases (dif (c.origin (c.next h)) (c.origin (c.next k)) (snd.range.origins (c.next h) hn) (snd.range.origins (c.next k) kn) e))

    go : (n h k : ℕ) → Over h k → size h + size k < n → ⊥
    go zero h k v b = omega arith
    go (suc n) h k v b = step h k v (λ h' k' w s. go n h' k' w (omega arith))

    -- ---- two that cross it downwards are one
    higher : (h k : ℕ) → h < c.half_edges → k < c.half_edges → c.face h ≡ 0 → c.face k ≡ 0 → Pos (al h) → Neg (al (c.next h)) → Pos (al k) → Neg (al (c.next k)) → Pos (al h -ℤ al k) → ⊥
    higher h k l m oh ok ph nh pk nk d =
        go (suc (size h + size k)) h k
        (record {
          h-in = l;
          k-in = m;
          h-out = oh;
          k-out = ok;
          on-A = on.0;
          on-B = on.1;
          after = d;
          before = pos-gap (al k) (al (c.next h)) pk nh;
          onward = pos-gap (al k) (al (c.next k)) pk nk;
        })
        (omega arith)
      where
        hin : (v k : ℕ) → v < c.half_edges → k < c.half_edges → c.face v ≡ 0 → Low (side (A v) (B v) (A k))
        hin v k vl kl e = Ch.hull c snd v (c.origin k) vl (snd.range.origins k kl) e

        on : Zero (side (A h) (B h) (A k)) × Zero (side (A h) (B h) (B k))
        on =
            one-line-both ρ q (A h) (B h) (A k) (B k) ph nh pk nk (hin h (c.next k) l (snd.range.nexts k m) oh) (hin h k l m oh) (hin k (c.next h) m (snd.range.nexts h l) ok) (hin k h m l ok)

    pub at_most_one : (h k : ℕ) → h < c.half_edges → k < c.half_edges → c.face h ≡ 0 → c.face k ≡ 0 → Pos (al h) → Neg (al (c.next h)) → Pos (al k) → Neg (al (c.next k)) → h ≡ k
    at_most_one h k l m oh ok ph nh pk nk = pick (ℕ_discrete (c.origin h) (c.origin k))
      where
        apart : Neg (al h -ℤ al k) ⊎ Pos (al h -ℤ al k) → ⊥
        apart (inl s) = higher k h m l ok oh pk nk ph nh (neg-neg (sub-flip (al h) (al k)) s)
        apart (inr s) = higher h k l m oh ok ph nh pk nk s

        pick : Dec (c.origin h ≡ c.origin k) → h ≡ k
        pick (yes e) = snd.lone h k (l, oh) (m, ok) e
        pick (no e) = absurd (apart (off-cases (dif (c.origin h) (c.origin k) (snd.range.origins h l) (snd.range.origins k m) e)))
