-- The ring of listed edges passes no vertex twice. At each moment its sides are a fan about the load: the ray from the load to a vertex meets one of them at
-- most. Of every sound chart. Assumes nothing.
use Rattle.std.specs.Prelude.{◌≡◌, ◌⊎◌, Bool, true, false, ℕ, ◌+◌, ◌<◌, ◌≤◌, eqb, ℤ}
use Rattle.std.proofs.Math.Path.{refl, subst}
use Rattle.std.proofs.Common.{sym, inl, inr, arith, eqb-true}
use mathlib.Core.List.{List, [], ◌∷◌, map, reverse}
use Rattle.faceset.specs.Set.{one}
use Rattle.geometry.specs.declared.Place.{Place}
use Rattle.geometry.specs.Plane.{side}
use Rattle.chart.specs.Chart.{Chart, partner}
use Rattle.sound.specs.Sound.{Sound, Inner}
use Rattle.neighbors.specs.Counting.{All}
use Rattle.signs.specs.Signs.{ev, holds, tests, Pos, Zero, Low, High}
use Rattle.signs.specs.Order.{low-or-pos, low-high}
use Rattle.cells.specs.Fan.{facing, Faced, faced, facing-of, strict-pair, flat-pair, split-first, split-second, own-end}
use Rattle.nearby.specs.Chart as Ch
use Rattle.nearby.specs.Rim as R
use Rattle.neighbourhood.specs.Rings.{how_many, times, many-reverse, many-map, many-less}
use Rattle.nearby.specs.Windows as Wn
use Rattle.neighbourhood.specs.Seat.{Seat}

-- ---- tests of which at most one passes
one_at_most : (b : Bool) → one b ≤ 1
one_at_most true = omega arith
one_at_most false = omega arith

two-in-one : (p r s : Bool) → (p ≡ true → s ≡ true) → (r ≡ true → s ≡ true) → (p ≡ true → r ≡ true → ⊥) → one p + one r ≤ one s
two-in-one true true s f g n = absurd (n refl refl)
two-in-one true false s f g n = rw (f refl) (omega arith)
two-in-one false true s f g n = rw (g refl) (omega arith)
two-in-one false false s f g n = omega arith

three-at-most : (p r s : Bool) → (p ≡ true → r ≡ true → ⊥) → (p ≡ true → s ≡ true → ⊥) → (r ≡ true → s ≡ true → ⊥) → one p + (one r + (one s + 0)) ≤ 1
three-at-most true true s f g h = absurd (f refl refl)
three-at-most true false true f g h = absurd (g refl refl)
three-at-most true false false f g h = omega arith
three-at-most false true true f g h = absurd (h refl refl)
three-at-most false true false f g h = omega arith
three-at-most false false s f g h = omega (arith, one_at_most s)

module _ (c : Chart) (snd : Sound c) (q : Place) where
  abbrev A : ℕ → Place
  A = Ch.A c snd

  abbrev B : ℕ → Place
  B = Ch.B c snd

  abbrev C : ℕ → Place
  C = Ch.C c snd

  abbrev sd : ℕ → ℤ
  sd = Wn.sd c snd q

  -- vertex v is faced by the side x
  pub faces : ℕ → ℕ → Bool
  faces v x = ev (facing q (A x) (B x) (c.place v))

  -- the same by the places where x starts and ends
  to-faced : (v x : ℕ) (s t : Place) → A x ≡ s → B x ≡ t → faces v x ≡ true → Faced q s t (c.place v)
  unfolding faces
  to-faced v x s t e f h =
      subst (λ (p : Place). Faced q p t (c.place v)) e (subst (λ (p : Place). Faced q (A x) p (c.place v)) f (faced q (A x) (B x) (c.place v) (holds (facing q (A x) (B x) (c.place v)) h)))

  of-faced : (v x : ℕ) (s t : Place) → A x ≡ s → B x ≡ t → Faced q s t (c.place v) → faces v x ≡ true
  unfolding faces
  of-faced v x s t e f h =
      tests (facing q (A x) (B x) (c.place v))
      (facing-of q (A x) (B x) (c.place v) (subst (λ (p : Place). Faced q (A x) p (c.place v)) (sym f) (subst (λ (p : Place). Faced q p t (c.place v)) (sym e) h)))

  -- ---- a fan: of each vertex at most one side faces it
  pub record Fan (l : List ℕ) : Type 0 where
    pub once : (v : ℕ) → v < c.vertices → how_many (faces v) l ≤ 1

  pub fan-reverse : (l : List ℕ) → Fan l → Fan (reverse l)
  fan-reverse l f = record { once = λ v vl. omega (arith, many-reverse (faces v) l, f.once v vl) }

  -- a side split in two
  pub split : (e : ℕ) → Inner c e → High (sd (partner e)) → Pos (sd (c.next e)) → Pos (sd (c.prev e)) → (v : ℕ) → one (faces v (c.prev e)) + one (faces v (c.next e)) ≤ one (faces v (partner e))
  split e i h x y v =
      two-in-one (faces v (c.prev e)) (faces v (c.next e)) (faces v (partner e))
      (λ p. of-faced v (partner e) (B e) (A e) ta tb (split-second q (B e) (A e) (C e) (c.place v) h' x' y' (to-faced v (c.prev e) (C e) (A e) refl pb p)))
      (λ p. of-faced v (partner e) (B e) (A e) ta tb (split-first q (B e) (A e) (C e) (c.place v) h' x' y' (to-faced v (c.next e) (B e) (C e) refl nb p)))
      (λ p r. strict-pair q (B e) (C e) (A e) (c.place v) x' (to-faced v (c.next e) (B e) (C e) refl nb r) (to-faced v (c.prev e) (C e) (A e) refl pb p))
    where
      ta : A (partner e) ≡ B e
      ta = Ch.twin-A c snd e i.0

      tb : B (partner e) ≡ A e
      tb = Ch.twin-B c snd e i.0

      nb : B (c.next e) ≡ C e
      nb = Ch.B-next c snd e i.0 i.1

      pb : B (c.prev e) ≡ A e
      pb = Ch.B-prev c snd e i.0

      h' : High (side (B e) (A e) q)
      h' = subst (λ (p : Place). High (side p (A e) q)) ta (subst (λ (p : Place). High (side (A (partner e)) p q)) tb h)

      x' : Pos (side (B e) (C e) q)
      x' = subst (λ (p : Place). Pos (side (B e) p q)) nb x

      y' : Pos (side (C e) (A e) q)
      y' = subst (λ (p : Place). Pos (side (C e) p q)) pb y

  module _ (g : ℕ) where
    -- ---- it is there at the start
    pub first_fan : Seat c snd q g → Fan (c.prev g ∷ c.next g ∷ g ∷ [])
    unfolding how_many
    first_fan seat =
        record {
          once = λ v vl.
              three-at-most (faces v (c.prev g)) (faces v (c.next g)) (faces v g)
              (λ x y. strict-pair q (B g) (C g) (A g) (c.place v) n' (to-faced v (c.next g) (B g) (C g) refl nb y) (to-faced v (c.prev g) (C g) (A g) refl pb x))
              (λ x y. strict-pair q (C g) (A g) (B g) (c.place v) p' (to-faced v (c.prev g) (C g) (A g) refl pb x) (to-faced v g (A g) (B g) refl refl y))
              (λ x y. at_g v (to-faced v g (A g) (B g) refl refl y) (to-faced v (c.next g) (B g) (C g) refl nb x) (low-or-pos (sd g)));
        }
      where
        nb : B (c.next g) ≡ C g
        nb = Ch.B-next c snd g seat.there seat.inner

        pb : B (c.prev g) ≡ A g
        pb = Ch.B-prev c snd g seat.there

        n' : Pos (side (B g) (C g) q)
        n' = subst (λ (p : Place). Pos (side (B g) p q)) nb seat.second

        p' : Pos (side (C g) (A g) q)
        p' = subst (λ (p : Place). Pos (side (C g) p q)) pb seat.third

        at_g : (v : ℕ) → Faced q (A g) (B g) (c.place v) → Faced q (B g) (C g) (c.place v) → Low (sd g) ⊎ Pos (sd g) → ⊥
        at_g v x y (inr s) = strict-pair q (A g) (B g) (C g) (c.place v) s x y
        at_g v x y (inl s) =
            let z : Zero (sd g) = low-high s seat.first in
            flat-pair q (A g) (B g) (C g) (c.place v) z (R.sides-open c snd g q seat.there seat.inner z seat.second seat.third) x y

    -- ---- of the edges of a fan no two start at one vertex
    pub origins-once : Seat c snd q g → (l : List ℕ) → Fan l → All c l → (v : ℕ) → v < c.vertices → times v (map c.origin l) ≤ 1
    origins-once seat l f r v vl =
        omega (arith, many-map (eqb v) c.origin l, many-less {P = λ x. x < c.half_edges} (λ x. eqb v (c.origin x)) (faces v) own r, f.once v vl)
      where
        -- an edge that starts at v faces it
        own : (x : ℕ) → x < c.half_edges → eqb v (c.origin x) ≡ true → faces v x ≡ true
        own x xl e =
            of-faced v x (A x) (B x) refl refl
            (subst (λ (u : ℕ). Faced q (A x) (B x) (c.place u)) (sym (eqb-true v (c.origin x) e)) (own-end q (A x) (B x) (seat.bare (c.origin x) (snd.range.origins x xl))))
