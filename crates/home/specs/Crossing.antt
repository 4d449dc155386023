-- A ray from a place that is strictly left of no outer half-edge crosses the rim downwards: were no outer half-edge to go down, the rim's corners would lie all
-- on one side of the ray's line. Assumes nothing.
use Rattle.std.specs.Prelude.{◌≡◌, ◌⊎◌, cond, ℕ, ◌<◌, eqb, ℤ, ◌+ℤ◌, ◌-ℤ◌}
use Rattle.std.proofs.Common.{sym, subst, ◌∙◌, inl, inr, eq-eqb, ne_eqb}
use Rattle.std.proofs.Math.Path.{ap}
use Rattle.std.proofs.Math.Decide.{ℕ_discrete}
use Rattle.std.proofs.Math.IntN.{pos, neg_ℤ, neg_ℤ-neg_ℤ, neg_ℤ-+ℤ, +ℤ_invr}
use Rattle.signs.specs.Signs.{S, below, nil, above, sg, up, dn, ze, hi, ne, fail, ◌⇒◌, ◌&◌, Is, Pos, Neg, Zero, Low, High, Off, fire, left, right, failed, test2, every2, eq-zero}
use Rattle.signs.specs.Order.{neg-pos, neg-neg, neg-ne, zero_high, pos-neg, off-cases}
use Rattle.signs.specs.Sum.{sum, sum-add, sum-neg, sum-perm, sum-none}
use Rattle.geometry.specs.declared.Place.{Place}
use Rattle.cells.specs.Points.{ray}
use Rattle.cells.specs.Rays.{counter, ray-counter}
use Rattle.chart.specs.Chart.{Chart}
use Rattle.sound.specs.Sound.{Sound}
use Rattle.nearby.specs.Chart as Ch
use Rattle.nearby.specs.Line.{Differ}
use Rattle.nearby.specs.Once.{Down, down-or-none}
use Rattle.home.specs.Lowest.{none_above}

-- 1 above 0, else 0
unfoldable is_up : S → ℤ
is_up below = pos 0
is_up nil = pos 0
is_up above = pos 1

step-up : (a b : S) → Is (ne a ⇒ ne b ⇒ (up a & dn b ⇒ fail) ⇒ hi (sg (is_up b -ℤ is_up a)) & (ze (sg (is_up b -ℤ is_up a)) ⇒ (up a ⇒ up b) & (up b ⇒ up a)))
unfolding test2 is_up sg
step-up = every2 (λ a b. ne a ⇒ ne b ⇒ (up a & dn b ⇒ fail) ⇒ hi (sg (is_up b -ℤ is_up a)) & (ze (sg (is_up b -ℤ is_up a)) ⇒ (up a ⇒ up b) & (up b ⇒ up a))) tt

neg-sub : (a b : ℤ) → neg_ℤ a -ℤ neg_ℤ b ≡ neg_ℤ (a -ℤ b)
neg-sub a b = sym (neg_ℤ-+ℤ a (neg_ℤ b))

module _ (c : Chart) (snd : Sound c) (q ρ : Place) (dif : Differ c snd q ρ) (low : (h : ℕ) → h < c.half_edges → c.face h ≡ 0 → Low (Ch.sd c snd h q)) (off : (v : ℕ) → v < c.vertices → Off (ray ρ q (c.place v))) where
  abbrev al : ℕ → ℤ
  al h = ray ρ q (c.place (c.origin h))

  off-al : (h : ℕ) → h < c.half_edges → Off (al h)
  off-al h l = off (c.origin h) (snd.range.origins h l)

  -- ---- where none goes down none goes up, as the rim is closed
  module _ (still : (h : ℕ) → Down c snd q ρ dif low h → ⊥) where
    g : ℕ → ℤ
    g h = cond (eqb (c.face h) 0) (is_up (sg (al h))) (pos 0)

    g-out : (h : ℕ) → c.face h ≡ 0 → g h ≡ is_up (sg (al h))
    unfolding g
    g-out h e = rw (eq-eqb (c.face h) 0 e)

    g-in : (h : ℕ) → (c.face h ≡ 0 → ⊥) → g h ≡ pos 0
    unfolding g
    g-in h e = rw (ne_eqb (c.face h) 0 e)

    rise : ℕ → ℤ
    rise h = g (c.next h) -ℤ g h

    test : (h : ℕ) → h < c.half_edges → c.face h ≡ 0 → Is (hi (sg (is_up (sg (al (c.next h))) -ℤ is_up (sg (al h)))) & (ze (sg (is_up (sg (al (c.next h))) -ℤ is_up (sg (al h)))) ⇒ (up (sg (al h)) ⇒ up (sg (al (c.next h)))) & (up (sg (al (c.next h))) ⇒ up (sg (al h)))))
    test h l o =
        fire (fire (fire (step-up (sg (al h)) (sg (al (c.next h)))) (off-al h l).is) (off-al (c.next h) (snd.range.nexts h l)).is)
        (failed (λ p. still h (record { there = l; outer = o; from_up = record { is = left p }; to-down = record { is = right p } })))

    rise-out : (h : ℕ) → h < c.half_edges → c.face h ≡ 0 → rise h ≡ is_up (sg (al (c.next h))) -ℤ is_up (sg (al h))
    unfolding rise
    rise-out h l o =
        ap (λ (x : ℤ). x -ℤ g h) (g-out (c.next h) (snd.next-face h l ∙ o)) ∙ ap (λ (x : ℤ). is_up (sg (al (c.next h))) -ℤ x) (g-out h o)

    rise-in : (h : ℕ) → h < c.half_edges → (c.face h ≡ 0 → ⊥) → rise h ≡ pos 0
    unfolding rise
    rise-in h l i =
        ap (λ (x : ℤ). x -ℤ g h) (g-in (c.next h) (Ch.next-inner c snd h l i)) ∙ ap (λ (x : ℤ). pos 0 -ℤ x) (g-in h i)

    rise-high : (h : ℕ) → h < c.half_edges → High (rise h)
    rise-high h l = pick (ℕ_discrete (c.face h) 0)
      where
        pick : Dec (c.face h ≡ 0) → High (rise h)
        pick (yes o) = subst High (sym (rise-out h l o)) (record { is = left (test h l o) })
        pick (no i) = zero_high (eq-zero (rise-in h l i))

    rise-sum : sum rise c.half_edges ≡ pos 0
    unfolding rise
    rise-sum =
        sum-add (λ h. g (c.next h)) (λ h. neg_ℤ (g h)) c.half_edges
        ∙ ap (λ (x : ℤ). x +ℤ sum (λ h. neg_ℤ (g h)) c.half_edges) (sum-perm g c.next c.prev c.half_edges snd.range.nexts snd.range.prevs snd.prev-next snd.next-prev)
        ∙ ap (λ (x : ℤ). sum g c.half_edges +ℤ x) (sum-neg g c.half_edges)
        ∙ +ℤ_invr (sum g c.half_edges)

    same : (h : ℕ) → h < c.half_edges → c.face h ≡ 0 → (Pos (al h) → Pos (al (c.next h))) × (Pos (al (c.next h)) → Pos (al h))
    same h l o =
        let z : Zero (is_up (sg (al (c.next h))) -ℤ is_up (sg (al h))) =
        subst Zero (rise-out h l o) (sum-none rise c.half_edges rise-high rise-sum h l) in
        let t = fire (right (test h l o)) z.is in
        (λ p. record { is = fire (left t) p.is }, λ p. record { is = fire (right t) p.is })

    -- ---- the same seen along the ray of the other direction
    dif' : Differ c snd q (counter ρ)
    dif' v w l m n =
        neg-ne
        (ap (λ (x : ℤ). x -ℤ ray (counter ρ) q (c.place w)) (ray-counter ρ q (c.place v))
        ∙ ap (λ (x : ℤ). neg_ℤ (ray ρ q (c.place v)) -ℤ x) (ray-counter ρ q (c.place w))
        ∙ neg-sub (ray ρ q (c.place v)) (ray ρ q (c.place w)))
        (dif v w l m n)

    back-up : (v : ℕ) → Neg (ray ρ q (c.place v)) → Pos (ray (counter ρ) q (c.place v))
    back-up v n = neg-neg (ray-counter ρ q (c.place v)) n

    back-dn : (v : ℕ) → Pos (ray (counter ρ) q (c.place v)) → Neg (ray ρ q (c.place v))
    back-dn v p = neg-pos (sym (ap neg_ℤ (ray-counter ρ q (c.place v)) ∙ neg_ℤ-neg_ℤ (ray ρ q (c.place v)))) p

    not-up : (h : ℕ) → h < c.half_edges → (Pos (al h) → ⊥) → Neg (al h)
    not-up h l n = pick (off-cases (off-al h l))
      where
        pick : Neg (al h) ⊎ Pos (al h) → Neg (al h)
        pick (inl x) = x
        pick (inr x) = absurd (n x)

    same' : (h : ℕ) → h < c.half_edges → c.face h ≡ 0 → (Pos (ray (counter ρ) q (Ch.A c snd h)) → Pos (ray (counter ρ) q (Ch.B c snd h))) × (Pos (ray (counter ρ) q (Ch.B c snd h)) → Pos (ray (counter ρ) q (Ch.A c snd h)))
    same' h l o = (
      λ p. back-up (c.origin (c.next h)) (not-up (c.next h) (snd.range.nexts h l) (λ x. pos-neg ((same h l o).1 x) (back-dn (c.origin h) p))),
      λ p. back-up (c.origin h) (not-up h l (λ x. pos-neg ((same h l o).0 x) (back-dn (c.origin (c.next h)) p))),
    )

    never-still : ⊥
    never-still = let h = c.adjacent 0 in pick h snd.outer_one.0 snd.outer_one.1 (off-cases (off-al h snd.outer_one.0))
      where
        pick : (h : ℕ) → h < c.half_edges → c.face h ≡ 0 → Neg (al h) ⊎ Pos (al h) → ⊥
        pick h l o (inl x) = none_above c snd q (counter ρ) dif' low same' h l o (back-up (c.origin h) x)
        pick h l o (inr x) = none_above c snd q ρ dif low same h l o x

  -- some outer half-edge goes down
  pub crossing : (h : ℕ) × Down c snd q ρ dif low h
  crossing = pick (down-or-none c snd q ρ dif low)
    where
      pick : ((h : ℕ) × Down c snd q ρ dif low h) ⊎ ((h : ℕ) → Down c snd q ρ dif low h → ⊥) → (h : ℕ) × Down c snd q ρ dif low h
      pick (inl r) = r
      pick (inr n) = absurd (never-still n)
