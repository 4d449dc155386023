-- What a chart gives that refusals 6 to 10 do not meet, per half-edge, vertex and face: all of an accepted one but the empty circles. Assumes nothing.
use Rattle.std.specs.Prelude.{◌≡◌, ◌⊎◌, ℕ, ◌<◌}
use Rattle.std.proofs.Common.{sym, subst, ap, ◌∙◌, inl, inr, arith, eqb-true}
use Rattle.std.proofs.lemmas.Bool.{eqb-false, not-true}
use Rattle.signs.specs.Signs.{Pos}
use Rattle.geometry.specs.declared.Place.{Place}
use Rattle.geometry.specs.Plane.{side}
use Rattle.geometry.specs.Laws.{side-turn}
use Rattle.chart.specs.Chart.{Chart, partner, InRange, corner₂}
use Rattle.sound.specs.Tests.{Passed, above_zero, links-at, out_at, adjacent-at, lone-at, place_at, turn_at, rim-at, three-at, of-face-at}
use Rattle.sound.specs.Sound.{start, end, apex, Inner, Sound}

module _ (c : Chart) (n : 1 < c.faces) (r : InRange c) (p : Passed c) where
  starts : (h : ℕ) → h < c.half_edges → c.origin (c.next h) ≡ c.origin (partner h)
  starts h l = eqb-true (c.origin (c.next h)) (c.origin (partner h)) (links-at c p h l).starts

  back : (h : ℕ) → h < c.half_edges → c.prev (c.next h) ≡ h
  back h l = eqb-true (c.prev (c.next h)) h (links-at c p h l).back

  forth : (h : ℕ) → h < c.half_edges → c.next (c.prev h) ≡ h
  forth h l = eqb-true (c.next (c.prev h)) h (links-at c p h l).forth

  keeps : (h : ℕ) → h < c.half_edges → c.face (c.next h) ≡ c.face h
  keeps h l = eqb-true (c.face (c.next h)) (c.face h) (links-at c p h l).keeps

  prev-keeps : (h : ℕ) → h < c.half_edges → c.face (c.prev h) ≡ c.face h
  prev-keeps h l = sym (keeps (c.prev h) (r.prevs h l)) ∙ ap c.face (forth h l)

  apart : (h : ℕ) → h < c.half_edges → c.origin h ≡ c.origin (partner h) → ⊥
  apart h l = eqb-false (c.origin h) (c.origin (partner h)) (not-true _ (links-at c p h l).ends)

  twice : (h : ℕ) → Inner c h → c.next (c.next h) ≡ c.prev h
  twice h (l, i) = sym (back (c.next (c.next h)) (r.nexts (c.next h) (r.nexts h l))) ∙ ap c.prev (three-at c p h l i)

  next-inner : (h : ℕ) → Inner c h → Inner c (c.next h)
  next-inner h (l, i) = (r.nexts h l, λ e. i (sym (keeps h l) ∙ e))

  -- ---- the corners seen from the next half-edge
  next-end : (h : ℕ) → Inner c h → end c (c.next h) ≡ apex c h
  next-end h (l, i) = ap c.place (sym (starts (c.next h) (r.nexts h l)) ∙ ap c.origin (twice h (l, i)))

  next-start-place : (h : ℕ) → h < c.half_edges → start c (c.next h) ≡ end c h
  next-start-place h l = ap c.place (starts h l)

  next-apex : (h : ℕ) → h < c.half_edges → apex c (c.next h) ≡ start c h
  next-apex h l = ap (λ (k : ℕ). c.place (c.origin k)) (back h l)

  side-next : (h : ℕ) → Inner c h → side (start c (c.next h)) (end c (c.next h)) (apex c (c.next h)) ≡ side (start c h) (end c h) (apex c h)
  side-next h (l, i) =
      ap (λ (x : Place). side x (end c (c.next h)) (apex c (c.next h))) (next-start-place h l)
      ∙ ap (λ (x : Place). side (end c h) x (apex c (c.next h))) (next-end h (l, i))
      ∙ ap (λ (x : Place). side (end c h) (apex c h) x) (next-apex h l)
      ∙ sym (side-turn (start c h) (end c h) (apex c h))

  -- a fact that goes round a face and holds at its adjacent half-edge holds at every half-edge of it
  around : (P : ℕ → Type 0) → ((f : ℕ) → 0 < f → f < c.faces → P (c.adjacent f)) → ((h : ℕ) → Inner c h → P h → P (c.next h)) → (h : ℕ) → Inner c h → P h
  around P base step h (l, i) = pick (of-face-at c p h l i)
    where
      f : ℕ
      f = c.face h

      f-in : f < c.faces
      f-in = r.face-numbers h l

      inner : Inner c (c.adjacent f)
      inner = (r.adjacents f f-in, λ e. i (sym (adjacent-at c p f f-in) ∙ e))

      zeroth : P (c.adjacent f)
      zeroth = base f (above_zero f i) f-in

      once : P (c.next (c.adjacent f))
      once = step (c.adjacent f) inner zeroth

      pick : (h ≡ c.adjacent f) ⊎ ((h ≡ c.next (c.adjacent f)) ⊎ (h ≡ c.prev (c.adjacent f))) → P h
      pick (inl e) = subst P (sym e) zeroth
      pick (inr (inl e)) = subst P (sym e) once
      pick (inr (inr e)) = subst P (sym (e ∙ sym (twice (c.adjacent f) inner))) (step (c.next (c.adjacent f)) (next-inner (c.adjacent f) inner) once)

  -- the corners of a face, from its adjacent half-edge
  corner₂-end : (f : ℕ) → f < c.faces → c.place (corner₂ c f) ≡ end c (c.adjacent f)
  corner₂-end f l = ap c.place (starts (c.adjacent f) (r.adjacents f l))

  left-turn : (h : ℕ) → Inner c h → Pos (side (start c h) (end c h) (apex c h))
  left-turn =
      around (λ h. Pos (side (start c h) (end c h) (apex c h)))
      (λ f z l.
      subst Pos
      (ap (λ (x : Place). side (apex c (c.adjacent f)) (start c (c.adjacent f)) x) (corner₂-end f l)
      ∙ side-turn (apex c (c.adjacent f)) (start c (c.adjacent f)) (end c (c.adjacent f)))
      (turn_at c p f z l))
      (λ h i a. subst Pos (sym (side-next h i)) a)

  next-other : (h : ℕ) → h < c.half_edges → c.next h ≡ h → ⊥
  next-other h l e = apart h l (ap c.origin (sym e) ∙ starts h l)

  pub sound : Sound c
  sound =
      let zero_in : 0 < c.faces = omega arith in
      record {
        faces-two = n;
        range = r;
        next_start = starts;
        prev-next = back;
        next-prev = forth;
        next-face = keeps;
        prev-face = prev-keeps;
        next-next = twice;
        turns-left = left-turn;
        hull = λ h z o m. rim-at c p h z o.0 m o.1;
        one_place = place_at c p;
        ends-differ = apart;
        lone = λ h k o q e. lone-at c p h k o.0 q.0 o.1 q.1 e;
        adjacent-face = adjacent-at c p;
        outer_one = (r.adjacents 0 zero_in, adjacent-at c p 0 zero_in);
        inner-one = (r.adjacents 1 n, λ e. one_not_zero (sym (adjacent-at c p 1 n) ∙ e));
        of-face = λ h i. of-face-at c p h i.0 i.1;
        next-differs = next-other;
        prev-differs = λ h l e. next-other h l (ap c.next (sym e) ∙ forth h l);
        next-prev-differ = λ h i e. next-other (c.next h) (r.nexts h i.0) (twice h i ∙ sym e);
        out-start = out_at c p;
      }
    where
      one_not_zero : ◌≡◌ {A = ℕ} 1 0 → ⊥
      one_not_zero e = omega arith
