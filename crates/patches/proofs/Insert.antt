-- `insert_into_triangle`: a face is divided in three about a new vertex, as three triangles written in. Assumes nothing.
use Rattle.std.specs.Prelude.{◌≡◌, refl, ◌⊎◌, Bool, true, false, cond, List, [], ◌∷◌, ℕ, ◌+◌, ◌<◌, eqb, ℤ}
use Rattle.std.proofs.Common.{sym, subst, ◌∙◌, inl, inr, arith, eqb-true}
use Rattle.std.proofs.Math.Path.{ap}
use Rattle.std.proofs.lemmas.Bool.{eqb-false}
use Rattle.geometry.specs.declared.Place.{Place}
use Rattle.chart.specs.Chart.{Chart, partner}
use Rattle.sound.specs.Sound.{Inner}
use Rattle.patches.specs.declared.Row.{Row}
use Rattle.patches.specs.Rows.{turn, row_at, Hit, none, hit, hit_of, face_hit, cases, at_key, at_rest, at-nil, face-rest, face-nil, Missed, missed, face-missed, Distinct, Throughout, throughout, hit-key, hit-next, hit-prev}
use Rattle.patches.specs.Wired.{Wired, prev-face, partner-below, next-differs, prev-differs, next-prev-differ, prev-end, next-end, same-face}
use Rattle.patches.specs.Patch.{from_by, RowIn, Patch}
use Rattle.patches.specs.Insert.{insert_row₀, insert_row₁, insert_row₂, insert_rows, new_out, inserted, over, at-end, two-more, six}

module _ (c : Chart) (w : Wired c) (e : ℕ) (ie : Inner c e) (q : Place) (z : ℤ) where
  abbrev H : ℕ
  H = c.half_edges

  abbrev d : Chart
  d = inserted c e q z

  abbrev r₀ : Row
  r₀ = insert_row₀ (row_at c e) c.vertices H

  abbrev r₁ : Row
  r₁ = insert_row₁ (row_at c e) c.vertices H c.faces

  abbrev r₂ : Row
  r₂ = insert_row₂ (row_at c e) c.vertices H c.faces

  abbrev rs : List Row
  rs = insert_rows c e

  l₁ : c.next e < H
  l₁ = w.nexts e ie.0

  l₂ : c.prev e < H
  l₂ = w.prevs e ie.0

  f-in : c.face e < c.faces
  f-in = w.face-numbers e ie.0

  in₂ : (h : ℕ) → (h ≡ c.prev e → ⊥) → (h ≡ H + 4 → ⊥) → (h ≡ H + 3 → ⊥) → hit_of (r₂ ∷ []) h ≡ none
  in₂ h x y u = at_rest r₂ [] h x y u ∙ at-nil h

  in₁ : (h : ℕ) → (h ≡ c.next e → ⊥) → (h ≡ H + 2 → ⊥) → (h ≡ H + 1 → ⊥) → hit_of (r₂ ∷ []) h ≡ none → hit_of (r₁ ∷ r₂ ∷ []) h ≡ none
  in₁ h x y u k = at_rest r₁ (r₂ ∷ []) h x y u ∙ k

  apart : Distinct rs
  apart =
      let l = ie.0 in
      Distinct.cons
      (record {
        next-key = λ p. at-end l (sym p);
        prev-key = λ p. over 5 l (sym p);
        prev-next = λ p. omega arith;
        key-out = in₁ e (λ p. next-differs c w e l (sym p)) (over 2 l) (over 1 l) (in₂ e (λ p. prev-differs c w e l (sym p)) (over 4 l) (over 3 l));
        next-out = in₁ H (λ p. at-end l₁ (sym p)) (λ p. omega arith) (λ p. omega arith) (in₂ H (λ p. at-end l₂ (sym p)) (λ p. omega arith) (λ p. omega arith));
        prev-out = in₁ (H + 5) (λ p. over 5 l₁ (sym p)) (λ p. omega arith) (λ p. omega arith) (in₂ (H + 5) (λ p. over 5 l₂ (sym p)) (λ p. omega arith) (λ p. omega arith));
        face-out = face-rest r₁ (r₂ ∷ []) (c.face e) (at-end f-in) ∙ face-rest r₂ [] (c.face e) (over 1 f-in) ∙ face-nil (c.face e);
      })
      (Distinct.cons
      (record {
        next-key = λ p. over 2 l₁ (sym p);
        prev-key = λ p. over 1 l₁ (sym p);
        prev-next = λ p. omega arith;
        key-out = in₂ (c.next e) (next-prev-differ c w e ie) (over 4 l₁) (over 3 l₁);
        next-out = in₂ (H + 2) (λ p. over 2 l₂ (sym p)) (λ p. omega arith) (λ p. omega arith);
        prev-out = in₂ (H + 1) (λ p. over 1 l₂ (sym p)) (λ p. omega arith) (λ p. omega arith);
        face-out = face-rest r₂ [] c.faces (λ p. omega arith) ∙ face-nil c.faces;
      })
      (Distinct.cons
      (record {
        next-key = λ p. over 4 l₂ (sym p);
        prev-key = λ p. over 3 l₂ (sym p);
        prev-next = λ p. omega arith;
        key-out = at-nil (c.prev e);
        next-out = at-nil (H + 4);
        prev-out = at-nil (H + 3);
        face-out = face-nil (c.faces + 1);
      })
      Distinct.nil))

  -- ---- the rows by their half-edges
  hit₀ : hit_of rs e ≡ hit r₀
  hit₀ = at_key r₀ (r₁ ∷ r₂ ∷ [])

  hit₁ : hit_of rs (c.next e) ≡ hit r₁
  hit₁ = at_rest r₀ (r₁ ∷ r₂ ∷ []) (c.next e) (next-differs c w e ie.0) (at-end l₁) (over 5 l₁) ∙ at_key r₁ (r₂ ∷ [])

  hit₂ : hit_of rs (c.prev e) ≡ hit r₂
  hit₂ =
      at_rest r₀ (r₁ ∷ r₂ ∷ []) (c.prev e) (prev-differs c w e ie.0) (at-end l₂) (over 5 l₂)
      ∙ at_rest r₁ (r₂ ∷ []) (c.prev e) (λ p. next-prev-differ c w e ie (sym p)) (over 2 l₂) (over 1 l₂) ∙ at_key r₂ []

  from_at : (k : ℕ) (x : Row) → hit_of rs k ≡ hit x → d.origin k ≡ x.from
  from_at k x p = ap (λ (t : Hit). from_by t (c.origin k)) p

  -- ---- the origins of old half-edges stay
  Stays : Row → Type 0
  Stays r = r.key < H → r.from ≡ c.origin r.key

  stays : Throughout Stays rs
  unfolding Stays
  stays =
      Throughout.cons (λ l. refl) (λ l. absurd (at-end l refl)) (λ l. absurd (over 5 l refl))
      (Throughout.cons (λ l. refl) (λ l. absurd (over 2 l refl)) (λ l. absurd (over 1 l refl))
      (Throughout.cons (λ l. refl) (λ l. absurd (over 4 l refl)) (λ l. absurd (over 3 l refl)) Throughout.nil))

  pub kept : (k : ℕ) → k < H → d.origin k ≡ c.origin k
  unfolding Stays
  kept k l =
      cases (hit_of rs k) (d.origin k ≡ c.origin k) (λ p. ap (λ (t : Hit). from_by t (c.origin k)) p)
      (λ x p. let y = hit-key rs k x p in from_at k x p ∙ throughout Stays rs k x stays p (subst (λ (j : ℕ). j < H) (sym y) l) ∙ ap c.origin y)

  old-end : (k : ℕ) → k < H → d.origin (partner k) ≡ c.origin (partner k)
  old-end k l = kept (partner k) (partner-below c w k l)

  -- the partners of the new ones
  p₀ : partner H ≡ H + 1
  p₀ = let x = w.pairs in omega arith

  p₁ : partner (H + 1) ≡ H
  p₁ = let x = w.pairs in omega arith

  p₂ : partner (H + 2) ≡ H + 3
  p₂ = let x = w.pairs in omega arith

  p₃ : partner (H + 3) ≡ H + 2
  p₃ = let x = w.pairs in omega arith

  p₄ : partner (H + 4) ≡ H + 5
  p₄ = let x = w.pairs in omega arith

  p₅ : partner (H + 5) ≡ H + 4
  p₅ = let x = w.pairs in omega arith

  old-vertex : (k : ℕ) → k < H → c.origin k < c.vertices + 1
  old-vertex k l = let o = w.origins k l in omega arith

  not_new : (k : ℕ) → k < H → c.origin k ≡ c.vertices → ⊥
  not_new k l p = at-end (w.origins k l) p

  fit : Throughout (RowIn d) rs
  fit =
      let l = ie.0 in
      let fi : c.face e < c.faces + 2 = omega (arith, f-in) in
      let up : (i : ℕ) → i < 6 → H + i < H + 6 = λ i p. omega arith in
      let v-in : c.vertices < c.vertices + 1 = omega arith in
      let f₁ : c.faces ≡ 0 → ⊥ = λ p. omega (arith, f-in, p) in
      let f₂ : c.faces + 1 ≡ 0 → ⊥ = λ p. omega (arith, f-in, p) in
      let old : (k : ℕ) → k < H → k < H + 6 = λ k p. omega arith in
      Throughout.cons {r = r₀}
      (record { key_in = old e l; face-in = fi; inner = ie.1; from_in = old-vertex e l; differ = λ p. w.ends-differ e l (p ∙ w.next_start e l); ends = old-end e l ∙ sym (w.next_start e l) })
      (record { key_in = omega arith; face-in = fi; inner = ie.1; from_in = old-vertex (c.next e) l₁; differ = not_new (c.next e) l₁; ends = ap d.origin p₀ ∙ from_at (H + 1) (turn (turn r₁)) (hit-prev rs (c.next e) r₁ apart hit₁) })
      (record { key_in = omega arith; face-in = fi; inner = ie.1; from_in = v-in; differ = λ p. not_new e l (sym p); ends = ap d.origin p₅ ∙ from_at (H + 4) (turn r₂) (hit-next rs (c.prev e) r₂ apart hit₂) })
      (Throughout.cons {r = r₁}
      (record { key_in = old (c.next e) l₁; face-in = omega arith; inner = f₁; from_in = old-vertex (c.next e) l₁; differ = λ p. w.ends-differ (c.next e) l₁ (p ∙ sym (next-end c w e ie)); ends = old-end (c.next e) l₁ ∙ next-end c w e ie })
      (record { key_in = omega arith; face-in = omega arith; inner = f₁; from_in = old-vertex (c.prev e) l₂; differ = not_new (c.prev e) l₂; ends = ap d.origin p₂ ∙ from_at (H + 3) (turn (turn r₂)) (hit-prev rs (c.prev e) r₂ apart hit₂) })
      (record { key_in = omega arith; face-in = omega arith; inner = f₁; from_in = v-in; differ = λ p. not_new (c.next e) l₁ (sym p); ends = ap d.origin p₁ ∙ from_at H (turn r₀) (hit-next rs e r₀ apart hit₀) })
      (Throughout.cons {r = r₂}
      (record { key_in = old (c.prev e) l₂; face-in = omega arith; inner = f₂; from_in = old-vertex (c.prev e) l₂; differ = λ p. w.ends-differ (c.prev e) l₂ (p ∙ sym (prev-end c w e l)); ends = old-end (c.prev e) l₂ ∙ prev-end c w e l })
      (record { key_in = omega arith; face-in = omega arith; inner = f₂; from_in = old-vertex e l; differ = not_new e l; ends = ap d.origin p₄ ∙ from_at (H + 5) (turn (turn r₀)) (hit-prev rs e r₀ apart hit₀) })
      (record { key_in = omega arith; face-in = omega arith; inner = f₂; from_in = v-in; differ = λ p. not_new (c.prev e) l₂ (sym p); ends = ap d.origin p₃ ∙ from_at (H + 2) (turn r₁) (hit-next rs (c.next e) r₁ apart hit₁) })
      Throughout.nil))

  -- ---- whole faces
  record Missing (h : ℕ) : Type 0 where
    m₀ : Missed r₀ (r₁ ∷ r₂ ∷ []) h
    m₁ : Missed r₁ (r₂ ∷ []) h
    m₂ : Missed r₂ [] h

  missing : (h : ℕ) → hit_of rs h ≡ none → Missing h
  missing h p =
      let a = missed r₀ (r₁ ∷ r₂ ∷ []) h p in
      let b = missed r₁ (r₂ ∷ []) h a.rest in
      record { m₀ = a; m₁ = b; m₂ = missed r₂ [] h b.rest }

  whole : (h : ℕ) → h < H → hit_of rs h ≡ none → face_hit rs (c.face h) ≡ none
  whole h l p =
      let g = w.face-numbers h l in
      face-rest r₀ (r₁ ∷ r₂ ∷ []) (c.face h) (λ x. go (missing h p) (same-face c w e h ie (l, λ y. ie.1 (sym x ∙ y)) x))
      ∙ face-rest r₁ (r₂ ∷ []) (c.face h) (at-end g) ∙ face-rest r₂ [] (c.face h) (over 1 g) ∙ face-nil (c.face h)
    where
      go : Missing h → (h ≡ e) ⊎ ((h ≡ c.next e) ⊎ (h ≡ c.prev e)) → ⊥
      go m (inl x) = m.m₀.key x
      go m (inr (inl x)) = m.m₁.key x
      go m (inr (inr x)) = m.m₂.key x

  whole_back : (h : ℕ) → h < H → face_hit rs (c.face h) ≡ none → hit_of rs h ≡ none
  whole_back h l p =
      let n = (face-missed r₀ (r₁ ∷ r₂ ∷ []) (c.face h) p).0 in
      at_rest r₀ (r₁ ∷ r₂ ∷ []) h (λ x. n (ap c.face x)) (at-end l) (over 5 l)
      ∙ in₁ h (λ x. n (ap c.face x ∙ w.next-face e ie.0)) (over 2 l) (over 1 l)
      (in₂ h (λ x. n (ap c.face x ∙ prev-face c w e ie.0)) (over 4 l) (over 3 l))

  out_at : (v : ℕ) → v < c.vertices + 1 → (d.out v < H + 6) × (d.origin (d.out v) ≡ v)
  out_at v l = go (eqb v c.vertices) refl
    where
      go : (a : Bool) → eqb v c.vertices ≡ a → (cond a (new_out c) (c.out v) < H + 6) × (d.origin (cond a (new_out c) (c.out v)) ≡ v)
      go true p = (omega arith, from_at (H + 1) (turn (turn r₁)) (hit-prev rs (c.next e) r₁ apart hit₁) ∙ sym (eqb-true v c.vertices p))
      go false p =
          let m : v < c.vertices = let n = eqb-false v c.vertices p in omega arith in
          let o = w.outs v m in
          (omega arith, kept (c.out v) o ∙ w.out-start v m)

  pub insert-patch : Patch c (insert_rows c e) (inserted c e q z)
  insert-patch =
      record {
        written = record { origin-is = λ h. refl; next-is = λ h. refl; prev-is = λ h. refl; face-is = λ h. refl; adjacent-is = λ f. refl };
        vertices-more = omega arith;
        edges_more = omega arith;
        faces-more = omega arith;
        pairs = let x = w.pairs in omega arith;
        apart = apart;
        fit = fit;
        new-edges =
            λ h l p.
            let m = missing h p in six h H l m.m₀.next m.m₁.prev m.m₁.next m.m₂.prev m.m₂.next m.m₀.prev;
        new-faces =
            λ f l p.
            let a = face-missed r₀ (r₁ ∷ r₂ ∷ []) f p in
            let b = face-missed r₁ (r₂ ∷ []) f a.1 in
            two-more f c.faces l b.0 (face-missed r₂ [] f b.1).0;
        whole = whole;
        whole_back = whole_back;
        ends-kept = λ h l p. old-end h l;
        outs = λ v l. (out_at v l).0;
        out-start = λ v l. (out_at v l).1;
      }
