-- `split_edge`: the two faces at an inner edge are divided in four about a new vertex on it, as four triangles written in. Assumes nothing.
use Rattle.std.specs.Prelude.{◌≡◌, refl, ◌⊎◌, Bool, true, false, cond, List, [], ◌∷◌, ℕ, ◌+◌, ◌<◌, eqb, ℤ}
use Rattle.std.proofs.Math.Path.{sym, ap}
use Rattle.std.proofs.Common.{subst, ◌∙◌, inl, inr, arith, eqb-true}
use Rattle.std.proofs.lemmas.Bool.{eqb-false}
use Rattle.geometry.specs.declared.Place.{Place}
use Rattle.chart.specs.Chart.{Chart, partner, partner-twice}
use Rattle.sound.specs.Sound.{Inner}
use Rattle.patches.specs.declared.Row.{Row}
use Rattle.patches.specs.Rows.{turn, row_at, Hit, none, hit, hit_of, face_hit, cases, at_key, at_rest, at-nil, face-rest, face-nil, Missed, missed, face-missed, Distinct, Throughout, throughout, hit-key, hit-next}
use Rattle.patches.specs.Wired.{Wired, prev-face, partner-below, next-differs, prev-differs, next-prev-differ, prev-end, next-end, same-face, faces-differ}
use Rattle.patches.specs.Patch.{from_by, RowIn, Patch}
use Rattle.patches.specs.Insert.{over, at-end, six, two-more}
use Rattle.patches.specs.Split.{split_row₀, split_row₁, split_row₂, split_row₃, split_rows, end_out, split}

module _ (c : Chart) (w : Wired c) (e : ℕ) (ie : Inner c e) (it : Inner c (partner e)) (q : Place) (z : ℤ) where
  abbrev H : ℕ
  H = c.half_edges

  abbrev t : ℕ
  t = partner e

  abbrev d : Chart
  d = split c e q z

  pt : partner t ≡ e
  pt = partner-twice e

  abbrev r₀ : Row
  r₀ = split_row₀ (row_at c e) c.vertices H

  abbrev r₁ : Row
  r₁ = split_row₁ (row_at c e) (row_at c t) c.vertices H

  abbrev r₂ : Row
  r₂ = split_row₂ (row_at c t) c.vertices H c.faces

  abbrev r₃ : Row
  r₃ = split_row₃ (row_at c e) (row_at c t) c.vertices H c.faces

  abbrev rs : List Row
  rs = split_rows c e t

  differ-faces : c.face e ≡ c.face t → ⊥
  differ-faces p = faces-differ c w e ie it (sym p)

  across : (x y : ℕ) → c.face x ≡ c.face e → c.face y ≡ c.face t → x ≡ y → ⊥
  across x y p g j = differ-faces (sym p ∙ ap c.face j ∙ g)

  l-en : c.next e < H
  l-en = w.nexts e ie.0

  l-ep : c.prev e < H
  l-ep = w.prevs e ie.0

  l-tn : c.next t < H
  l-tn = w.nexts t it.0

  l-tp : c.prev t < H
  l-tp = w.prevs t it.0

  f-en : c.face (c.next e) ≡ c.face e
  f-en = w.next-face e ie.0

  f-ep : c.face (c.prev e) ≡ c.face e
  f-ep = prev-face c w e ie.0

  f-tn : c.face (c.next t) ≡ c.face t
  f-tn = w.next-face t it.0

  f-tp : c.face (c.prev t) ≡ c.face t
  f-tp = prev-face c w t it.0

  g₀ : c.face e < c.faces
  g₀ = w.face-numbers e ie.0

  g₁ : c.face t < c.faces
  g₁ = w.face-numbers t it.0

  en-start : c.origin (c.next e) ≡ c.origin t
  en-start = w.next_start e ie.0

  tn-start : c.origin (c.next t) ≡ c.origin e
  tn-start = w.next_start t it.0 ∙ ap c.origin pt

  apart : Distinct rs
  apart =
      Distinct.cons {r = r₀}
      (record {
        next-key = (λ p. (over 5 ie.0) (sym p));
        prev-key = (prev-differs c w e ie.0);
        prev-next = (over 5 l-ep);
        key-out = at_rest r₁ (r₂ ∷ r₃ ∷ []) e (at-end ie.0) (across e t refl refl) (across e (c.next t) refl f-tn)
            ∙ at_rest r₂ (r₃ ∷ []) e (over 2 ie.0) (over 1 ie.0) (across e (c.prev t) refl f-tp)
            ∙ at_rest r₃ [] e (over 4 ie.0) (over 3 ie.0) (λ p. (next-differs c w e ie.0) (sym p))
            ∙ at-nil e;
        next-out = at_rest r₁ (r₂ ∷ r₃ ∷ []) (H + 5) (λ p. omega arith) (λ p. (over 5 it.0) (sym p)) (λ p. (over 5 l-tn) (sym p))
            ∙ at_rest r₂ (r₃ ∷ []) (H + 5) (λ p. omega arith) (λ p. omega arith) (λ p. (over 5 l-tp) (sym p))
            ∙ at_rest r₃ [] (H + 5) (λ p. omega arith) (λ p. omega arith) (λ p. (over 5 l-en) (sym p))
            ∙ at-nil (H + 5);
        prev-out = at_rest r₁ (r₂ ∷ r₃ ∷ []) (c.prev e) (at-end l-ep) (across (c.prev e) t f-ep refl) (across (c.prev e) (c.next t) f-ep f-tn)
            ∙ at_rest r₂ (r₃ ∷ []) (c.prev e) (over 2 l-ep) (over 1 l-ep) (across (c.prev e) (c.prev t) f-ep f-tp)
            ∙ at_rest r₃ [] (c.prev e) (over 4 l-ep) (over 3 l-ep) (λ p. (next-prev-differ c w e ie) (sym p))
            ∙ at-nil (c.prev e);
        face-out = face-rest r₁ (r₂ ∷ r₃ ∷ []) (c.face e) differ-faces ∙ face-rest r₂ (r₃ ∷ []) (c.face e) (at-end g₀) ∙ face-rest r₃ [] (c.face e) (over 1 g₀) ∙ face-nil (c.face e);
      })
      (Distinct.cons {r = r₁}
      (record {
        next-key = (at-end it.0);
        prev-key = (at-end l-tn);
        prev-next = (next-differs c w t it.0);
        key-out = at_rest r₂ (r₃ ∷ []) H (λ p. omega arith) (λ p. omega arith) (λ p. (at-end l-tp) (sym p))
            ∙ at_rest r₃ [] H (λ p. omega arith) (λ p. omega arith) (λ p. (at-end l-en) (sym p))
            ∙ at-nil H;
        next-out = at_rest r₂ (r₃ ∷ []) t (over 2 it.0) (over 1 it.0) (λ p. (prev-differs c w t it.0) (sym p))
            ∙ at_rest r₃ [] t (over 4 it.0) (over 3 it.0) (λ p. across (c.next e) t f-en refl (sym p))
            ∙ at-nil t;
        prev-out = at_rest r₂ (r₃ ∷ []) (c.next t) (over 2 l-tn) (over 1 l-tn) (next-prev-differ c w t it)
            ∙ at_rest r₃ [] (c.next t) (over 4 l-tn) (over 3 l-tn) (λ p. across (c.next e) (c.next t) f-en f-tn (sym p))
            ∙ at-nil (c.next t);
        face-out = face-rest r₂ (r₃ ∷ []) (c.face t) (at-end g₁) ∙ face-rest r₃ [] (c.face t) (over 1 g₁) ∙ face-nil (c.face t);
      })
      (Distinct.cons {r = r₂}
      (record {
        next-key = (λ p. omega arith);
        prev-key = (over 2 l-tp);
        prev-next = (over 1 l-tp);
        key-out = at_rest r₃ [] (H + 2) (λ p. omega arith) (λ p. omega arith) (λ p. (over 2 l-en) (sym p))
            ∙ at-nil (H + 2);
        next-out = at_rest r₃ [] (H + 1) (λ p. omega arith) (λ p. omega arith) (λ p. (over 1 l-en) (sym p))
            ∙ at-nil (H + 1);
        prev-out = at_rest r₃ [] (c.prev t) (over 4 l-tp) (over 3 l-tp) (λ p. across (c.next e) (c.prev t) f-en f-tp (sym p))
            ∙ at-nil (c.prev t);
        face-out = face-rest r₃ [] c.faces (λ p. omega arith) ∙ face-nil c.faces;
      })
      (Distinct.cons {r = r₃}
      (record {
        next-key = (λ p. omega arith);
        prev-key = (over 4 l-en);
        prev-next = (over 3 l-en);
        key-out = at-nil (H + 4);
        next-out = at-nil (H + 3);
        prev-out = at-nil (c.next e);
        face-out = face-nil (c.faces + 1);
      })
      Distinct.nil)))

  hit₀ : hit_of rs e ≡ hit r₀
  hit₀ =
      at_key r₀ (r₁ ∷ r₂ ∷ r₃ ∷ [])

  hit₁ : hit_of rs H ≡ hit r₁
  hit₁ =
      at_rest r₀ (r₁ ∷ r₂ ∷ r₃ ∷ []) H (λ p. (at-end ie.0) (sym p)) (λ p. omega arith) (λ p. (at-end l-ep) (sym p))
      ∙ at_key r₁ (r₂ ∷ r₃ ∷ [])

  hit₂ : hit_of rs (H + 2) ≡ hit r₂
  hit₂ =
      at_rest r₀ (r₁ ∷ r₂ ∷ r₃ ∷ []) (H + 2) (λ p. (over 2 ie.0) (sym p)) (λ p. omega arith) (λ p. (over 2 l-ep) (sym p))
      ∙ at_rest r₁ (r₂ ∷ r₃ ∷ []) (H + 2) (λ p. omega arith) (λ p. (over 2 it.0) (sym p)) (λ p. (over 2 l-tn) (sym p))
      ∙ at_key r₂ (r₃ ∷ [])

  hit₃ : hit_of rs (H + 4) ≡ hit r₃
  hit₃ =
      at_rest r₀ (r₁ ∷ r₂ ∷ r₃ ∷ []) (H + 4) (λ p. (over 4 ie.0) (sym p)) (λ p. omega arith) (λ p. (over 4 l-ep) (sym p))
      ∙ at_rest r₁ (r₂ ∷ r₃ ∷ []) (H + 4) (λ p. omega arith) (λ p. (over 4 it.0) (sym p)) (λ p. (over 4 l-tn) (sym p))
      ∙ at_rest r₂ (r₃ ∷ []) (H + 4) (λ p. omega arith) (λ p. omega arith) (λ p. (over 4 l-tp) (sym p))
      ∙ at_key r₃ []

  from_at : (k : ℕ) (x : Row) → hit_of rs k ≡ hit x → d.origin k ≡ x.from
  from_at k x p = ap (λ (y : Hit). from_by y (c.origin k)) p

  -- ---- the origins of old half-edges stay, but for t
  Stays : Row → Type 0
  Stays r = r.key < H → (r.key ≡ t → ⊥) → r.from ≡ c.origin r.key

  stays : Throughout Stays rs
  unfolding Stays
  stays =
      Throughout.cons {r = r₀} (λ l n. refl) (λ l n. absurd (over 5 l refl)) (λ l n. refl)
      (Throughout.cons {r = r₁} (λ l n. absurd (at-end l refl)) (λ l n. absurd (n refl)) (λ l n. sym tn-start)
      (Throughout.cons {r = r₂} (λ l n. absurd (over 2 l refl)) (λ l n. absurd (over 1 l refl)) (λ l n. refl)
      (Throughout.cons {r = r₃} (λ l n. absurd (over 4 l refl)) (λ l n. absurd (over 3 l refl)) (λ l n. sym en-start)
      Throughout.nil)))

  pub kept : (k : ℕ) → k < H → (k ≡ t → ⊥) → d.origin k ≡ c.origin k
  unfolding Stays
  kept k l n =
      cases (hit_of rs k) (d.origin k ≡ c.origin k) (λ p. ap (λ (y : Hit). from_by y (c.origin k)) p)
      (λ x p. let y = hit-key rs k x p in from_at k x p ∙ throughout Stays rs k x stays p (subst (λ (j : ℕ). j < H) (sym y) l) (λ j. n (sym y ∙ j)) ∙ ap c.origin y)

  old-end : (k : ℕ) → k < H → (k ≡ e → ⊥) → d.origin (partner k) ≡ c.origin (partner k)
  old-end k l n = kept (partner k) (partner-below c w k l) (λ p. n (sym (partner-twice k) ∙ ap partner p ∙ pt))

  p0 : partner H ≡ H + 1
  p0 = let x = w.pairs in omega arith

  p1 : partner (H + 1) ≡ H
  p1 = let x = w.pairs in omega arith

  p2 : partner (H + 2) ≡ H + 3
  p2 = let x = w.pairs in omega arith

  p3 : partner (H + 3) ≡ H + 2
  p3 = let x = w.pairs in omega arith

  p4 : partner (H + 4) ≡ H + 5
  p4 = let x = w.pairs in omega arith

  p5 : partner (H + 5) ≡ H + 4
  p5 = let x = w.pairs in omega arith

  old-vertex : (k : ℕ) → k < H → c.origin k < c.vertices + 1
  old-vertex k l = let o = w.origins k l in omega arith

  not_new : (k : ℕ) → k < H → c.origin k ≡ c.vertices → ⊥
  not_new k l p = at-end (w.origins k l) p

  fit : Throughout (RowIn d) rs
  fit =
      let i₀ : c.face e < c.faces + 2 = omega (arith, g₀) in
      let i₁ : c.face t < c.faces + 2 = omega (arith, g₁) in
      let v-in : c.vertices < c.vertices + 1 = omega arith in
      let n₂ : c.faces ≡ 0 → ⊥ = λ p. omega (arith, g₀, p) in
      let n₃ : c.faces + 1 ≡ 0 → ⊥ = λ p. omega (arith, g₀, p) in
      let old : (k : ℕ) → k < H → k < H + 6 = λ k p. omega arith in
      Throughout.cons {r = r₀}
      (record { key_in = old e ie.0; face-in = i₀; inner = ie.1; from_in = old-vertex e ie.0; differ = not_new e ie.0; ends = from_at t (turn r₁) (hit-next rs H r₁ apart hit₁) })
      (record { key_in = omega arith; face-in = i₀; inner = ie.1; from_in = v-in; differ = λ p. not_new (c.prev e) l-ep (sym p); ends = ap d.origin p5 ∙ from_at (H + 4) r₃ hit₃ })
      (record { key_in = old (c.prev e) l-ep; face-in = i₀; inner = ie.1; from_in = old-vertex (c.prev e) l-ep; differ = λ p. w.ends-differ (c.prev e) l-ep (p ∙ sym (prev-end c w e ie.0)); ends = old-end (c.prev e) l-ep (prev-differs c w e ie.0) ∙ prev-end c w e ie.0 })
      (Throughout.cons {r = r₁}
      (record { key_in = omega arith; face-in = i₁; inner = it.1; from_in = old-vertex (c.prev t) l-tp; differ = not_new (c.prev t) l-tp; ends = ap d.origin p0 ∙ from_at (H + 1) (turn r₂) (hit-next rs (H + 2) r₂ apart hit₂) })
      (record { key_in = old t it.0; face-in = i₁; inner = it.1; from_in = v-in; differ = λ p. not_new e ie.0 (sym p); ends = ap d.origin pt ∙ from_at e r₀ hit₀ })
      (record { key_in = old (c.next t) l-tn; face-in = i₁; inner = it.1; from_in = old-vertex e ie.0; differ = λ p. w.ends-differ (c.next t) l-tn (tn-start ∙ p ∙ sym (next-end c w t it)); ends = old-end (c.next t) l-tn (λ p. across e (c.next t) refl f-tn (sym p)) ∙ next-end c w t it })
      (Throughout.cons {r = r₂}
      (record { key_in = omega arith; face-in = omega arith; inner = n₂; from_in = old-vertex t it.0; differ = not_new t it.0; ends = ap d.origin p2 ∙ from_at (H + 3) (turn r₃) (hit-next rs (H + 4) r₃ apart hit₃) })
      (record { key_in = omega arith; face-in = omega arith; inner = n₂; from_in = v-in; differ = λ p. not_new (c.prev t) l-tp (sym p); ends = ap d.origin p1 ∙ from_at H r₁ hit₁ })
      (record { key_in = old (c.prev t) l-tp; face-in = omega arith; inner = n₂; from_in = old-vertex (c.prev t) l-tp; differ = λ p. w.ends-differ (c.prev t) l-tp (p ∙ sym (prev-end c w t it.0)); ends = old-end (c.prev t) l-tp (λ p. across e (c.prev t) refl f-tp (sym p)) ∙ prev-end c w t it.0 })
      (Throughout.cons {r = r₃}
      (record { key_in = omega arith; face-in = omega arith; inner = n₃; from_in = old-vertex (c.prev e) l-ep; differ = not_new (c.prev e) l-ep; ends = ap d.origin p4 ∙ from_at (H + 5) (turn r₀) (hit-next rs e r₀ apart hit₀) })
      (record { key_in = omega arith; face-in = omega arith; inner = n₃; from_in = v-in; differ = λ p. not_new t it.0 (sym p); ends = ap d.origin p3 ∙ from_at (H + 2) r₂ hit₂ })
      (record { key_in = old (c.next e) l-en; face-in = omega arith; inner = n₃; from_in = old-vertex t it.0; differ = λ p. w.ends-differ (c.next e) l-en (en-start ∙ p ∙ sym (next-end c w e ie)); ends = old-end (c.next e) l-en (next-differs c w e ie.0) ∙ next-end c w e ie })
      Throughout.nil)))

  -- ---- whole faces
  record Missing (h : ℕ) : Type 0 where
    m₀ : Missed r₀ (r₁ ∷ r₂ ∷ r₃ ∷ []) h
    m₁ : Missed r₁ (r₂ ∷ r₃ ∷ []) h
    m₂ : Missed r₂ (r₃ ∷ []) h
    m₃ : Missed r₃ [] h

  missing : (h : ℕ) → hit_of rs h ≡ none → Missing h
  missing h p =
      let a = missed r₀ (r₁ ∷ r₂ ∷ r₃ ∷ []) h p in
      let b = missed r₁ (r₂ ∷ r₃ ∷ []) h a.rest in
      let g = missed r₂ (r₃ ∷ []) h b.rest in
      record { m₀ = a; m₁ = b; m₂ = g; m₃ = missed r₃ [] h g.rest }

  whole : (h : ℕ) → h < H → hit_of rs h ≡ none → face_hit rs (c.face h) ≡ none
  whole h l p =
      let g = w.face-numbers h l in
      face-rest r₀ (r₁ ∷ r₂ ∷ r₃ ∷ []) (c.face h) (λ x. in_e (missing h p) (same-face c w e h ie (l, λ y. ie.1 (sym x ∙ y)) x))
      ∙ face-rest r₁ (r₂ ∷ r₃ ∷ []) (c.face h) (λ x. in-t (missing h p) (same-face c w t h it (l, λ y. it.1 (sym x ∙ y)) x))
      ∙ face-rest r₂ (r₃ ∷ []) (c.face h) (at-end g) ∙ face-rest r₃ [] (c.face h) (over 1 g) ∙ face-nil (c.face h)
    where
      in_e : Missing h → (h ≡ e) ⊎ ((h ≡ c.next e) ⊎ (h ≡ c.prev e)) → ⊥
      in_e m (inl x) = m.m₀.key x
      in_e m (inr (inl x)) = m.m₃.prev x
      in_e m (inr (inr x)) = m.m₀.prev x

      in-t : Missing h → (h ≡ t) ⊎ ((h ≡ c.next t) ⊎ (h ≡ c.prev t)) → ⊥
      in-t m (inl x) = m.m₁.next x
      in-t m (inr (inl x)) = m.m₁.prev x
      in-t m (inr (inr x)) = m.m₂.prev x

  whole_back : (h : ℕ) → h < H → face_hit rs (c.face h) ≡ none → hit_of rs h ≡ none
  whole_back h l p =
      let a = face-missed r₀ (r₁ ∷ r₂ ∷ r₃ ∷ []) (c.face h) p in
      let b = (face-missed r₁ (r₂ ∷ r₃ ∷ []) (c.face h) a.1).0 in
      at_rest r₀ (r₁ ∷ r₂ ∷ r₃ ∷ []) h (λ x. a.0 (ap c.face x)) (over 5 l) (λ x. a.0 (ap c.face x ∙ f-ep))
      ∙ at_rest r₁ (r₂ ∷ r₃ ∷ []) h (at-end l) (λ x. b (ap c.face x)) (λ x. b (ap c.face x ∙ f-tn))
      ∙ at_rest r₂ (r₃ ∷ []) h (over 2 l) (over 1 l) (λ x. b (ap c.face x ∙ f-tp))
      ∙ at_rest r₃ [] h (over 4 l) (over 3 l) (λ x. a.0 (ap c.face x ∙ f-en))
      ∙ at-nil h

  out_at : (v : ℕ) → v < c.vertices + 1 → (d.out v < H + 6) × (d.origin (d.out v) ≡ v)
  out_at v l = go (eqb v (c.origin t)) refl (eqb v c.vertices) refl
    where
      go : (a : Bool) → eqb v (c.origin t) ≡ a → (b : Bool) → eqb v c.vertices ≡ b → (cond a (end_out c t) (cond b t (c.out v)) < H + 6) × (d.origin (cond a (end_out c t) (cond b t (c.out v))) ≡ v)
      go true k b p = (omega arith, from_at (H + 2) r₂ hit₂ ∙ sym (eqb-true v (c.origin t) k))
      go false k true p = (let x = it.0 in omega arith, from_at t (turn r₁) (hit-next rs H r₁ apart hit₁) ∙ sym (eqb-true v c.vertices p))
      go false k false p =
          let m : v < c.vertices = let n = eqb-false v c.vertices p in omega arith in
          let o = w.outs v m in
          (omega arith, kept (c.out v) o (λ x. eqb-false v (c.origin t) k (sym (w.out-start v m) ∙ ap c.origin x)) ∙ w.out-start v m)

  pub split-patch : Patch c (split_rows c e t) (split c e q z)
  split-patch =
      record {
        written = record { origin-is = λ h. refl; next-is = λ h. refl; prev-is = λ h. refl; face-is = λ h. refl; adjacent-is = λ f. refl };
        vertices-more = omega arith;
        edges_more = omega arith;
        faces-more = omega arith;
        pairs = let x = w.pairs in omega arith;
        apart = apart;
        fit = fit;
        new-edges =
            λ h l p.
            let m = missing h p in six h H l m.m₁.key m.m₂.next m.m₂.key m.m₃.next m.m₃.key m.m₀.next;
        new-faces =
            λ f l p.
            let a = face-missed r₀ (r₁ ∷ r₂ ∷ r₃ ∷ []) f p in
            let b = face-missed r₁ (r₂ ∷ r₃ ∷ []) f a.1 in
            let g = face-missed r₂ (r₃ ∷ []) f b.1 in
            two-more f c.faces l g.0 (face-missed r₃ [] f g.1).0;
        whole = whole;
        whole_back = whole_back;
        ends-kept = λ h l p. old-end h l (missing h p).m₀.key;
        outs = λ v l. (out_at v l).0;
        out-start = λ v l. (out_at v l).1;
      }
