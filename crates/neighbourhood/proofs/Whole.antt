-- Where a search ends on an accepted chart: every face whose circle strictly holds the load is opened, and the load is strictly left of each border. Assumes nothing.
use Rattle.std.specs.Prelude.{◌≡◌, ◌⊎◌, true, false, [], ℕ, zero, suc, ◌+◌, ◌<◌, ℤ}
use Rattle.std.proofs.Common.{sym, subst, ap, ◌∙◌, inl, inr, ⊎_elim, append-nil, arith}
use Rattle.std.proofs.lemmas.Bool.{false≢true}
use Rattle.std.proofs.Math.Decide.{ℕ_discrete}
use Rattle.faceset.specs.Set.{one}
use Rattle.faceset.specs.Laws.{cases}
use Rattle.geometry.specs.declared.Place.{Place}
use Rattle.geometry.specs.Plane.{circle}
use Rattle.chart.specs.Chart.{Chart, partner, partner-twice, partner-in}
use Rattle.sound.specs.Sound.{Sound, Inner}
use Rattle.accepted.specs.Accepted.{Accepted}
use Rattle.flips.specs.Search.{Found}
use Rattle.signs.specs.Signs.{Pos, Neg, Low, High}
use Rattle.signs.specs.Order.{not-pos, low-or-pos, neg-or-high, neg_low, neg-lo, neg-high, neg-neg, pos-neg, pos-high}
use Rattle.nearby.specs.Chart as Ch
use Rattle.nearby.specs.Windows as Wn
use Rattle.neighbourhood.specs.Rings.{times, each-times}
use Rattle.neighbourhood.specs.Seat.{Seat}
use Rattle.neighbourhood.specs.Opening.{border, border-yes, circ-face}
use Rattle.neighbourhood.specs.Moment.{Moment, Shut}

module _ (c : Chart) (acc : Accepted c) (q : Place) where
  abbrev snd : Sound c
  snd = acc.sound

  abbrev sd : ℕ → ℤ
  sd = Wn.sd c snd q

  abbrev circ : ℕ → ℤ
  circ = Wn.circ c snd q

  -- no vertex is strictly inside the circle of h's face: the one place where refusal 11 is used
  empty : (h z : ℕ) → h < c.half_edges → z < c.vertices → (c.face h ≡ 0 → ⊥) → Low (circle (Ch.A c snd h) (Ch.B c snd h) (Ch.C c snd h) (c.place z))
  empty h z l m i =
      subst (λ (v : ℕ). Low (circle (Ch.A c snd h) (c.place v) (Ch.C c snd h) (c.place z))) (sym (snd.next_start h l)) (not-pos (acc.empty-circle h z (l, i) m))

  -- so behind a side that q is on or right of, the next circle holds q too
  step : (h : ℕ) → h < c.half_edges → (c.face h ≡ 0 → ⊥) → (c.face (partner h) ≡ 0 → ⊥) → Low (sd h) → Pos (circ h) → Pos (circ (partner h))
  step h l i j x p =
      let t = partner h in
      Wn.step c snd q h l i j (empty h (c.origin (c.prev t)) l (snd.range.origins (c.prev t) (snd.range.prevs t (partner-in snd.range h l))) i) x p

  -- ---- nothing waits any more
  module _ (g : ℕ) (seat : Seat c snd q g) (w : Found) (m : Moment c snd q g [] w) where
    pub listed-times : (x : ℕ) → x < c.half_edges → times x w.listed ≡ one (border c w.opened x)
    listed-times x l = ap (times x) (sym (append-nil w.listed)) ∙ m.counted x l

    -- behind a border of the opened faces no circle holds q
    border-shut : (x : ℕ) → x < c.half_edges → w.opened (c.face x) ≡ true → w.opened (c.face (partner x)) ≡ false → Shut c snd q g x
    border-shut x l u v =
        let b : one (border c w.opened x) ≡ 1 = ap one (border-yes (w.opened (c.face x)) (w.opened (c.face (partner x))) u v) in
        let t = listed-times x l in
        each-times x m.shut (omega arith)

    -- the faces where the load lies are opened
    root-open : (h : ℕ) → Inner c h → Pos (circ h) → (c.face h ≡ c.face g) ⊎ (c.face h ≡ c.face (partner g)) → w.opened (c.face h) ≡ true
    root-open h i p (inl e) = ap w.opened e ∙ m.begun
    root-open h i p (inr e) =
        ⊎_elim (λ (u : w.opened (c.face (partner g)) ≡ true). ap w.opened e ∙ u)
        (λ (u : w.opened (c.face (partner g)) ≡ false).
        absurd (border-shut g seat.there m.begun u (λ z. i.1 (e ∙ z)) (subst Pos (sym (circ-face c snd q h (partner g) i (partner-in snd.range g seat.there) (sym e))) p)))
        (cases (w.opened (c.face (partner g))))

    -- a face without a window is opened
    no-window : (h : ℕ) → Inner c h → Pos (circ h) → High (sd h) → High (sd (c.next h)) → High (sd (c.prev h)) → w.opened (c.face h) ≡ true
    no-window h i p x y z = root-open h i p (seat.root h i.0 i.1 p x y z)

    next-inner : (h : ℕ) → Inner c h → Inner c (c.next h)
    next-inner h i = (snd.range.nexts h i.0, Ch.next-inner c snd h i.0 i.1)

    prev-inner : (h : ℕ) → Inner c h → Inner c (c.prev h)
    prev-inner h i = (snd.range.prevs h i.0, Ch.prev-inner c snd h i.0 i.1)

    -- through its window a face that is not opened leads to another one, with a larger cone
    climb : (n h : ℕ) → Inner c h → Pos (circ h) → w.opened (c.face h) ≡ false → Neg (sd h) → c.vertices < n + Wn.size c snd q h → ⊥
    climb zero h i p o x k = omega (arith, Wn.size-most c snd q h)
    climb (suc n) h i p o x k =
        let t = partner h in
        let tl : t < c.half_edges = partner-in snd.range h i.0 in
        let st : Pos (sd t) = neg-neg (Ch.twin-side c snd h q i.0) x in
        let it : Inner c t = (tl, λ z. pos-neg st (seat.rim t tl z)) in
        let pt : Pos (circ t) = step h i.0 i.1 it.1 (neg_low x) p in
        let ot : w.opened (c.face t) ≡ false =
        ⊎_elim
        (λ (u : w.opened (c.face t) ≡ true).
        let e : partner t ≡ h = partner-twice h in
        absurd (border-shut t tl u (ap (λ (y : ℕ). w.opened (c.face y)) e ∙ o) (λ z. i.1 (ap c.face (sym e) ∙ z)) (subst (λ (y : ℕ). Pos (circ y)) (sym e) p)))
        (λ (u : w.opened (c.face t) ≡ false). u) (cases (w.opened (c.face t))) in
        ⊎_elim
        (λ (y : Neg (sd (c.next t))).
        let r = Wn.one-window-at c snd q (c.next t) (next-inner t it).0 (next-inner t it).1 (subst Pos (sym (Wn.circ-next c snd q t tl it.1)) pt) (neg_low y) in
        let z : Pos (sd (c.prev t)) = subst (λ (v : ℕ). Pos (sd v)) (snd.next-next t it) r.0 in
        climb n (c.next t) (next-inner t it) (subst Pos (sym (Wn.circ-next c snd q t tl it.1)) pt) (ap w.opened (snd.next-face t tl) ∙ ot) y
        (omega (arith, Wn.grows-next c snd q h i.0 it.1 x y z)))
        (λ (y : High (sd (c.next t))).
        ⊎_elim
        (λ (z : Neg (sd (c.prev t))).
        let r = Wn.one-window-at c snd q (c.prev t) (prev-inner t it).0 (prev-inner t it).1 (subst Pos (sym (Wn.circ-prev c snd q t tl it.1)) pt) (neg_low z) in
        let e : c.prev (c.prev t) ≡ c.next t = sym (ap c.prev (snd.next-next t it)) ∙ snd.prev-next (c.next t) (next-inner t it).0 in
        let v : Pos (sd (c.next t)) = subst (λ (u : ℕ). Pos (sd u)) e r.1 in
        climb n (c.prev t) (prev-inner t it) (subst Pos (sym (Wn.circ-prev c snd q t tl it.1)) pt) (ap w.opened (snd.prev-face t tl) ∙ ot) z
        (omega (arith, Wn.grows-prev c snd q h i.0 it.1 x z v)))
        (λ (z : High (sd (c.prev t))). false≢true (sym ot ∙ no-window t it pt (pos-high st) y z))
        (neg-or-high (sd (c.prev t))))
        (neg-or-high (sd (c.next t)))

    no-climb : (h : ℕ) → Inner c h → Pos (circ h) → w.opened (c.face h) ≡ false → Neg (sd h) → ⊥
    no-climb h i p o x = climb (suc c.vertices) h i p o x (omega arith)

    -- so every face whose circle holds q is opened
    pub all-opened : (h : ℕ) → Inner c h → Pos (circ h) → w.opened (c.face h) ≡ true
    all-opened h i p =
        ⊎_elim (λ (u : w.opened (c.face h) ≡ true). u) (λ (u : w.opened (c.face h) ≡ false). absurd (one u (neg-or-high (sd h)) (neg-or-high (sd (c.next h))) (neg-or-high (sd (c.prev h)))))
        (cases (w.opened (c.face h)))
      where
        one : w.opened (c.face h) ≡ false → Neg (sd h) ⊎ High (sd h) → Neg (sd (c.next h)) ⊎ High (sd (c.next h)) → Neg (sd (c.prev h)) ⊎ High (sd (c.prev h)) → ⊥
        one o (inl x) y z = no-climb h i p o x
        one o (inr x) (inl y) z = no-climb (c.next h) (next-inner h i) (subst Pos (sym (Wn.circ-next c snd q h i.0 i.1)) p) (ap w.opened (snd.next-face h i.0) ∙ o) y
        one o (inr x) (inr y) (inl z) = no-climb (c.prev h) (prev-inner h i) (subst Pos (sym (Wn.circ-prev c snd q h i.0 i.1)) p) (ap w.opened (snd.prev-face h i.0) ∙ o) z
        one o (inr x) (inr y) (inr z) = false≢true (sym o ∙ no-window h i p x y z)

    -- and q is strictly left of each border: on it, it would be inside the circle behind it
    pub strictly : (x : ℕ) → x < c.half_edges → w.opened (c.face x) ≡ true → w.opened (c.face (partner x)) ≡ false → Pos (sd x)
    strictly x l u v = pick (low-or-pos (sd x))
      where
        r : (c.face x ≡ 0 → ⊥) × Pos (circ x)
        r = m.holes x l u

        t : ℕ
        t = partner x

        tl : t < c.half_edges
        tl = partner-in snd.range x l

        back : Low (sd x) → Dec (c.face t ≡ 0) → ⊥
        back s (yes e) = neg-high (seat.rim t tl e) (neg-lo (Ch.twin-side c snd x q l) s)
        back s (no e) = false≢true (sym v ∙ all-opened t (tl, e) (step x l r.0 e s r.1))

        pick : Low (sd x) ⊎ Pos (sd x) → Pos (sd x)
        pick (inl s) = absurd (back s (ℕ_discrete (c.face t) 0))
        pick (inr s) = s
