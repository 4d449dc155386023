-- The crossings of a ray from q with all half-edges add up to 0: outer and inner ones apart, and the inner ones face by face. Assumes nothing.
use Rattle.std.specs.Prelude.{◌≡◌, refl, Bool, true, false, [], ◌∷◌, ℕ, ◌<◌, eqb, ℤ, pos, neg_ℤ, ◌+ℤ◌, ◌-ℤ◌}
use Rattle.std.proofs.Math.Path.{sym, ap}
use Rattle.std.proofs.Common.{subst, ◌∙◌, eq-eqb, ne_eqb}
use Rattle.std.proofs.Math.Bool.{cond}
use Rattle.std.proofs.Math.IntN.{+ℤ_idl, +ℤ_idr, -ℤ-+ℤ_cancel}
use Rattle.whole.specs.Poly.{var, ◌⊕◌, env, agree, solve! }
use Rattle.signs.specs.Signs.{S, sg, up, ze, hi, ◌⇒◌, Is, Pos, Zero, High, fire, left, right, both, zero-eq, sg-neg}
use Rattle.signs.specs.Sum.{sum, sum-ext, sum-add, sum-neg, sum-perm, self-neg}
use Rattle.geometry.specs.declared.Place.{Place}
use Rattle.geometry.specs.Plane.{side}
use Rattle.cells.specs.Points.{ray}
use Rattle.cells.specs.Rays.{kap, kap-back, om, Wound}
use Rattle.chart.specs.Chart.{Chart, partner, partner-twice, partner-in}
use Rattle.sound.specs.Sound.{Sound}
use Rattle.nearby.specs.Chart as Ch

split : (b : Bool) (x : ℤ) → x ≡ cond b x (pos 0) +ℤ cond b (pos 0) x
split true x = sym (+ℤ_idr x)
split false x = sym (+ℤ_idl x)

join : (b : Bool) (x y z : ℤ) → cond b (pos 0) (x +ℤ y +ℤ z) ≡ cond b (pos 0) x +ℤ cond b (pos 0) y +ℤ cond b (pos 0) z
join true x y z = refl
join false x y z = refl

turn3 : (x y z : ℤ) → y +ℤ z +ℤ x ≡ x +ℤ y +ℤ z
unfolding agree
turn3 x y z = solve! (env (x ∷ y ∷ z ∷ [])) (var 1 ⊕ var 2 ⊕ var 0) (var 0 ⊕ var 1 ⊕ var 2) tt

module _ (c : Chart) (snd : Sound c) (q ρ : Place) where
  abbrev A : ℕ → Place
  A = Ch.A c snd

  abbrev B : ℕ → Place
  B = Ch.B c snd

  abbrev C : ℕ → Place
  C = Ch.C c snd

  abbrev sd : ℕ → ℤ
  sd h = Ch.sd c snd h q

  abbrev al : ℕ → ℤ
  al h = ray ρ q (c.place (c.origin h))

  -- the crossing of one half-edge
  unfoldable pub cr : ℕ → ℤ
  cr h = kap (sg (al h)) (sg (al (c.next h))) (sg (sd h))

  cr-twin : (h : ℕ) → h < c.half_edges → cr (partner h) ≡ neg_ℤ (cr h)
  unfolding cr
  cr-twin h l =
      ap (λ (p : Place). kap (sg (ray ρ q p)) (sg (al (c.next (partner h)))) (sg (sd (partner h)))) (Ch.twin-A c snd h l)
      ∙ ap (λ (p : Place). kap (sg (al (c.next h))) (sg (ray ρ q p)) (sg (sd (partner h)))) (Ch.twin-B c snd h l)
      ∙ ap (λ (s : S). kap (sg (al (c.next h))) (sg (al h)) s) (ap sg (Ch.twin-side c snd h q l) ∙ sg-neg (sd h))
      ∙ kap-back (sg (al h)) (sg (al (c.next h))) (sg (sd h))

  all-zero : Zero (sum cr c.half_edges)
  all-zero =
      self-neg (sum cr c.half_edges)
      (sym (sum-perm cr partner partner c.half_edges ((λ h l. partner-in snd.range h l)) ((λ h l. partner-in snd.range h l)) (λ i l. partner-twice i) (λ i l. partner-twice i))
      ∙ sum-ext (λ h. cr (partner h)) (λ h. neg_ℤ (cr h)) c.half_edges cr-twin
      ∙ sum-neg cr c.half_edges)

  -- outer and inner half-edges apart
  unfoldable pub outs : ℕ → ℤ
  outs h = cond (eqb (c.face h) 0) (cr h) (pos 0)

  unfoldable pub ins : ℕ → ℤ
  ins h = cond (eqb (c.face h) 0) (pos 0) (cr h)

  pub balanced : sum outs c.half_edges +ℤ sum ins c.half_edges ≡ pos 0
  unfolding outs ins
  balanced =
      sym (sum-ext cr (λ h. outs h +ℤ ins h) c.half_edges (λ h l. split (eqb (c.face h) 0) (cr h)) ∙ sum-add outs ins c.half_edges) ∙ zero-eq all-zero

  -- what the face of h adds, at h: its three crossings
  unfoldable pub tri : ℕ → ℤ
  tri h = cond (eqb (c.face h) 0) (pos 0) (cr h +ℤ cr (c.next h) +ℤ cr (c.prev h))

  same-face : (h k : ℕ) → c.face k ≡ c.face h → ins k ≡ cond (eqb (c.face h) 0) (pos 0) (cr k)
  unfolding ins
  same-face h k e = ap (λ (f : ℕ). cond (eqb f 0) (pos 0) (cr k)) e

  tri-parts : (h : ℕ) → h < c.half_edges → tri h ≡ ins h +ℤ ins (c.next h) +ℤ ins (c.prev h)
  unfolding tri ins
  tri-parts h l =
      join (eqb (c.face h) 0) (cr h) (cr (c.next h)) (cr (c.prev h))
      ∙ ap (λ (x : ℤ). ins h +ℤ x +ℤ cond (eqb (c.face h) 0) (pos 0) (cr (c.prev h))) (sym (same-face h (c.next h) (snd.next-face h l)))
      ∙ ap (λ (x : ℤ). ins h +ℤ ins (c.next h) +ℤ x) (sym (same-face h (c.prev h) (snd.prev-face h l)))

  -- over all half-edges, each inner one is met three times
  pub tri-sum : sum tri c.half_edges ≡ sum ins c.half_edges +ℤ sum ins c.half_edges +ℤ sum ins c.half_edges
  tri-sum =
      sum-ext tri (λ h. ins h +ℤ ins (c.next h) +ℤ ins (c.prev h)) c.half_edges tri-parts
      ∙ sum-add (λ h. ins h +ℤ ins (c.next h)) (λ h. ins (c.prev h)) c.half_edges
      ∙ ap (λ (x : ℤ). x +ℤ sum (λ h. ins (c.prev h)) c.half_edges) (sum-add ins (λ h. ins (c.next h)) c.half_edges)
      ∙ ap (λ (x : ℤ). sum ins c.half_edges +ℤ x +ℤ sum (λ h. ins (c.prev h)) c.half_edges) (sum-perm ins c.next c.prev c.half_edges snd.range.nexts snd.range.prevs snd.prev-next snd.next-prev)
      ∙ ap (λ (x : ℤ). sum ins c.half_edges +ℤ sum ins c.half_edges +ℤ x) (sum-perm ins c.prev c.next c.half_edges snd.range.prevs snd.range.nexts snd.next-prev snd.prev-next)

  -- what a face adds, by the signs at its corners
  abbrev pub omega_at : ℕ → ℤ
  omega_at h = om (sg (ray ρ q (A h))) (sg (ray ρ q (B h))) (sg (ray ρ q (C h))) (sg (side (B h) (C h) q)) (sg (side (C h) (A h) q)) (sg (side (A h) (B h) q))

  pub tri-om : (h : ℕ) → h < c.half_edges → (c.face h ≡ 0 → ⊥) → tri h ≡ omega_at h
  unfolding tri cr
  tri-om h l i =
      ap (λ (b : Bool). cond b (pos 0) (cr h +ℤ cr (c.next h) +ℤ cr (c.prev h))) (ne_eqb (c.face h) 0 i)
      ∙ ap (λ (p : Place). cr h +ℤ kap (sg (al (c.next h))) (sg (ray ρ q p)) (sg (side (B h) p q)) +ℤ cr (c.prev h)) (Ch.B-next c snd h l i)
      ∙ ap (λ (p : Place). cr h +ℤ kap (sg (ray ρ q (B h))) (sg (ray ρ q (C h))) (sg (side (B h) (C h) q)) +ℤ kap (sg (ray ρ q (C h))) (sg (ray ρ q p)) (sg (side (C h) p q))) (Ch.B-prev c snd h l)

  pub tri-out : (h : ℕ) → c.face h ≡ 0 → tri h ≡ pos 0
  unfolding tri
  tri-out h o = rw (eq-eqb (c.face h) 0 o)

  -- the same from every half-edge of the face
  pub tri-next : (h : ℕ) → h < c.half_edges → (c.face h ≡ 0 → ⊥) → tri (c.next h) ≡ tri h
  tri-next h l i =
      tri-parts (c.next h) (snd.range.nexts h l)
      ∙ ap (λ (k : ℕ). ins (c.next h) +ℤ ins k +ℤ ins (c.prev (c.next h))) (snd.next-next h (l, i))
      ∙ ap (λ (k : ℕ). ins (c.next h) +ℤ ins (c.prev h) +ℤ ins k) (snd.prev-next h l)
      ∙ turn3 (ins h) (ins (c.next h)) (ins (c.prev h))
      ∙ sym (tri-parts h l)

  pub tri-prev : (h : ℕ) → h < c.half_edges → (c.face h ≡ 0 → ⊥) → tri (c.prev h) ≡ tri h
  tri-prev h l i =
      sym (tri-next (c.prev h) (snd.range.prevs h l) (Ch.prev-inner c snd h l i)) ∙ ap tri (snd.next-prev h l)

  -- ---- what a face adds is 0 or 1
  pub record Adds (h : ℕ) : Type 0 where
    pub least : High (tri h)
    pub most : Pos (tri h) → tri h ≡ pos 1

  pub adds-of : (h : ℕ) → h < c.half_edges → (c.face h ≡ 0 → ⊥) → Is (hi (sg (omega_at h))) → Is (up (sg (omega_at h)) ⇒ ze (sg (omega_at h -ℤ pos 1))) → Adds h
  adds-of h l i x y =
      record {
        least = subst High (sym (tri-om h l i)) (record { is = x });
        most = λ p.
            let u : Pos (omega_at h) = subst Pos (tri-om h l i) p in
            let z : Zero (omega_at h -ℤ pos 1) = record { is = fire y u.is } in
            tri-om h l i ∙ sym (-ℤ-+ℤ_cancel (omega_at h) (pos 1)) ∙ ap (λ (x : ℤ). x +ℤ pos 1) (zero-eq z);
      }

  -- ---- a face with no corner on the ray's line
  abbrev pub WoundAt : ℕ → Type 0
  WoundAt h = Is (Wound (sg (ray ρ q (A h))) (sg (ray ρ q (B h))) (sg (ray ρ q (C h))) (sg (side (B h) (C h) q)) (sg (side (C h) (A h) q)) (sg (side (A h) (B h) q)))

  pub adds-wound : (h : ℕ) → h < c.half_edges → (c.face h ≡ 0 → ⊥) → WoundAt h → Adds h
  adds-wound h l i w = adds-of h l i (left w) (left (right w))

  -- it adds something where it holds q strictly
  pub held-adds : (h : ℕ) → h < c.half_edges → (c.face h ≡ 0 → ⊥) → WoundAt h → Pos (sd h) → Pos (sd (c.next h)) → Pos (sd (c.prev h)) → Pos (tri h)
  held-adds h l i w x y z =
      let y' : Pos (side (B h) (C h) q) = subst Pos (Ch.side-next c snd h q l i) y in
      let z' : Pos (side (C h) (A h) q) = subst Pos (Ch.side-prev c snd h q l) z in
      subst Pos (sym (tri-om h l i)) (record { is = fire (left (right (right (right w)))) (both y'.is (both z'.is x.is)) })

  -- and where it has q on an open edge that starts left of the ray
  pub edge-adds : (h : ℕ) → h < c.half_edges → (c.face h ≡ 0 → ⊥) → WoundAt h → Zero (sd h) → Pos (sd (c.next h)) → Pos (sd (c.prev h)) → Pos (al h) → Pos (tri h)
  edge-adds h l i w x y z a =
      let y' : Pos (side (B h) (C h) q) = subst Pos (Ch.side-next c snd h q l i) y in
      let z' : Pos (side (C h) (A h) q) = subst Pos (Ch.side-prev c snd h q l) z in
      subst Pos (sym (tri-om h l i)) (record { is = fire (fire (right (right (right (right w)))) (both x.is (both y'.is z'.is))) a.is })
