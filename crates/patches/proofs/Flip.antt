-- `flip_cw`: the edge between two triangles is turned about, as two triangles written in. Assumes nothing.
use Rattle.std.specs.Prelude.{◌≡◌, refl, ◌⊎◌, Bool, true, false, cond, [], ◌∷◌, ℕ, ◌<◌, eqb}
use Rattle.std.proofs.Math.Path.{sym, ap}
use Rattle.std.proofs.Common.{◌∙◌, inl, inr, le_refl, eqb-true}
use Rattle.std.proofs.lemmas.Bool.{eqb-false}
use Rattle.chart.specs.Chart.{Chart, partner, partner-twice}
use Rattle.sound.specs.Sound.{Inner}
use Rattle.patches.specs.Rows
use Rattle.patches.specs.declared.Row.{Row}
use Rattle.patches.specs.Rows.{Hit, none, hit_of, face_hit, cases, at_key, at_rest, at-nil, face-rest, face-nil, missed, face-missed, Distinct, Throughout, throughout, hit-key}
use Rattle.patches.specs.Wired.{Wired, prev-face, next-differs, prev-differs, next-prev-differ, same-face, faces-differ}
use Rattle.patches.specs.Patch.{from_by, RowIn, Patch, patched}
use Rattle.patches.specs.Flip.{flip_row, flip_rows, flip_out, flipped, first, second, third}

module _ (c : Chart) (w : Wired c) (e : ℕ) (ie : Inner c e) (it : Inner c (partner e)) (tips : c.origin (c.prev e) ≡ c.origin (c.prev (partner e)) → ⊥) where
  abbrev t : ℕ
  t = partner e

  abbrev d : Chart
  d = flipped c e

  abbrev r₁ : Row
  r₁ = flip_row c e t

  abbrev r₂ : Row
  r₂ = flip_row c t e

  pt : partner t ≡ e
  pt = partner-twice e

  differ-faces : c.face e ≡ c.face t → ⊥
  differ-faces q = faces-differ c w e ie it (sym q)

  -- half-edges of the two faces differ
  across : (x y : ℕ) → c.face x ≡ c.face e → c.face y ≡ c.face t → x ≡ y → ⊥
  across x y p q z = differ-faces (sym p ∙ ap c.face z ∙ q)

  l-en : c.next e < c.half_edges
  l-en = w.nexts e ie.0

  l-tp : c.prev t < c.half_edges
  l-tp = w.prevs t it.0

  f-en : c.face (c.next e) ≡ c.face e
  f-en = w.next-face e ie.0

  f-ep : c.face (c.prev e) ≡ c.face e
  f-ep = prev-face c w e ie.0

  f-tn : c.face (c.next t) ≡ c.face t
  f-tn = w.next-face t it.0

  f-tp : c.face (c.prev t) ≡ c.face t
  f-tp = prev-face c w t it.0

  r₂-misses : (h : ℕ) → (h ≡ t → ⊥) → (h ≡ c.prev e → ⊥) → (h ≡ c.next t → ⊥) → hit_of (r₂ ∷ []) h ≡ none
  r₂-misses h a b g = at_rest r₂ [] h a b g ∙ at-nil h

  apart : Distinct (r₁ ∷ r₂ ∷ [])
  apart =
      Distinct.cons
      (record {
        next-key = λ q. across e (c.prev t) refl f-tp (sym q);
        prev-key = next-differs c w e ie.0;
        prev-next = across (c.next e) (c.prev t) f-en f-tp;
        key-out = r₂-misses e (across e t refl refl) (λ q. prev-differs c w e ie.0 (sym q)) (across e (c.next t) refl f-tn);
        next-out =
            r₂-misses (c.prev t) (prev-differs c w t it.0) (λ q. across (c.prev e) (c.prev t) f-ep f-tp (sym q))
            (λ q. next-prev-differ c w t it (sym q));
        prev-out =
            r₂-misses (c.next e) (across (c.next e) t f-en refl) (next-prev-differ c w e ie) (across (c.next e) (c.next t) f-en f-tn);
        face-out = face-rest r₂ [] (c.face e) differ-faces ∙ face-nil (c.face e);
      })
      (Distinct.cons
      (record {
        next-key = across (c.prev e) t f-ep refl;
        prev-key = next-differs c w t it.0;
        prev-next = λ q. across (c.prev e) (c.next t) f-ep f-tn (sym q);
        key-out = at-nil t;
        next-out = at-nil (c.prev e);
        prev-out = at-nil (c.next t);
        face-out = face-nil (c.face t);
      })
      Distinct.nil)

  -- origins change at e and t only
  Stays : Row → Type 0
  Stays r = (r.key ≡ e → ⊥) → (r.key ≡ t → ⊥) → r.from ≡ c.origin r.key

  stays : Throughout Stays (r₁ ∷ r₂ ∷ [])
  unfolding Stays
  stays =
      Throughout.cons (λ n m. absurd (n refl)) (λ n m. refl) (λ n m. sym (w.next_start e ie.0))
      (Throughout.cons (λ n m. absurd (m refl)) (λ n m. refl) (λ n m. sym (w.next_start t it.0 ∙ ap c.origin pt)) Throughout.nil)

  pub kept : (k : ℕ) → (k ≡ e → ⊥) → (k ≡ t → ⊥) → d.origin k ≡ c.origin k
  unfolding Stays
  kept k n m =
      cases (hit_of (r₁ ∷ r₂ ∷ []) k) (d.origin k ≡ c.origin k) (λ q. ap (λ (x : Hit). from_by x (c.origin k)) q)
      (λ x q.
      let y = hit-key (r₁ ∷ r₂ ∷ []) k x q in
      ap (λ (x : Hit). from_by x (c.origin k)) q ∙ throughout Stays (r₁ ∷ r₂ ∷ []) k x stays q (λ z. n (sym y ∙ z)) (λ z. m (sym y ∙ z)) ∙ ap c.origin y)

  pub e-start : d.origin e ≡ c.origin (c.prev e)
  e-start = ap (λ (x : Hit). from_by x (c.origin e)) (at_key r₁ (r₂ ∷ []))

  pub t-start : d.origin t ≡ c.origin (c.prev t)
  t-start =
      ap (λ (x : Hit). from_by x (c.origin t))
      (at_rest r₁ (r₂ ∷ []) t (λ q. across e t refl refl (sym q)) (λ q. prev-differs c w t it.0 (sym q)) (λ q. across (c.next e) t f-en refl (sym q)) ∙ at_key r₂ [])

  fit : Throughout (RowIn d) (r₁ ∷ r₂ ∷ [])
  fit =
      let k : (k : ℕ) → k < c.half_edges → (k ≡ e → ⊥) → (k ≡ t → ⊥) → d.origin k ≡ c.origin k = λ k l n m. kept k n m in
      let k' : (k : ℕ) → k < c.half_edges → (k ≡ t → ⊥) → (k ≡ e → ⊥) → d.origin k ≡ c.origin k = λ k l n m. kept k m n in
      Throughout.cons (first c d w e t refl pt ie it refl refl refl tips k t-start) (second c d w e t refl pt ie it refl refl refl tips k t-start) (third c d w e t refl pt ie it refl refl refl tips k t-start)
      (Throughout.cons (first c d w t e pt refl it ie refl refl refl (λ q. tips (sym q)) k' e-start) (second c d w t e pt refl it ie refl refl refl (λ q. tips (sym q)) k' e-start) (third c d w t e pt refl it ie refl refl refl (λ q. tips (sym q)) k' e-start) Throughout.nil)

  -- ---- whole faces
  whole : (h : ℕ) → h < c.half_edges → hit_of (r₁ ∷ r₂ ∷ []) h ≡ none → face_hit (r₁ ∷ r₂ ∷ []) (c.face h) ≡ none
  whole h l q =
      let m = missed r₁ (r₂ ∷ []) h q in
      let n = missed r₂ [] h m.rest in
      face-rest r₁ (r₂ ∷ []) (c.face h) (λ z. in-first m n (same-face c w e h ie (l, λ x. ie.1 (sym z ∙ x)) z))
      ∙ face-rest r₂ [] (c.face h) (λ z. in-second m n (same-face c w t h it (l, λ x. it.1 (sym z ∙ x)) z))
      ∙ face-nil (c.face h)
    where
      in-first : Rows.Missed r₁ (r₂ ∷ []) h → Rows.Missed r₂ [] h → (h ≡ e) ⊎ ((h ≡ c.next e) ⊎ (h ≡ c.prev e)) → ⊥
      in-first m n (inl x) = m.key x
      in-first m n (inr (inl x)) = m.prev x
      in-first m n (inr (inr x)) = n.next x

      in-second : Rows.Missed r₁ (r₂ ∷ []) h → Rows.Missed r₂ [] h → (h ≡ t) ⊎ ((h ≡ c.next t) ⊎ (h ≡ c.prev t)) → ⊥
      in-second m n (inl x) = n.key x
      in-second m n (inr (inl x)) = n.prev x
      in-second m n (inr (inr x)) = m.next x

  whole_back : (h : ℕ) → h < c.half_edges → face_hit (r₁ ∷ r₂ ∷ []) (c.face h) ≡ none → hit_of (r₁ ∷ r₂ ∷ []) h ≡ none
  whole_back h l q =
      let m = face-missed r₁ (r₂ ∷ []) (c.face h) q in
      let n = face-missed r₂ [] (c.face h) m.1 in
      at_rest r₁ (r₂ ∷ []) h (λ z. m.0 (ap c.face z)) (λ z. n.0 (ap c.face z ∙ f-tp)) (λ z. m.0 (ap c.face z ∙ f-en))
      ∙ r₂-misses h (λ z. n.0 (ap c.face z)) (λ z. m.0 (ap c.face z ∙ f-ep)) (λ z. n.0 (ap c.face z ∙ f-tn))

  ends-kept : (h : ℕ) → h < c.half_edges → hit_of (r₁ ∷ r₂ ∷ []) h ≡ none → d.origin (partner h) ≡ c.origin (partner h)
  ends-kept h l q =
      let m = missed r₁ (r₂ ∷ []) h q in
      let n = missed r₂ [] h m.rest in
      kept (partner h) (λ z. n.key (sym (partner-twice h) ∙ ap partner z)) (λ z. m.key (sym (partner-twice h) ∙ ap partner z ∙ pt))

  -- ---- out half-edges
  out_at : (v : ℕ) → v < c.vertices → (flip_out c e v < c.half_edges) × (d.origin (flip_out c e v) ≡ v)
  out_at v l = go (eqb v (c.origin t)) refl (eqb v (c.origin e)) refl
    where
      Good : ℕ → Type 0
      Good k = (k < c.half_edges) × (d.origin k ≡ v)

      go : (a : Bool) → eqb v (c.origin t) ≡ a → (b : Bool) → eqb v (c.origin e) ≡ b → (cond a (c.next e) (cond b (c.next t) (c.out v)) < c.half_edges) × (d.origin (cond a (c.next e) (cond b (c.next t) (c.out v))) ≡ v)
      go true p b q =
          (l-en, kept (c.next e) (next-differs c w e ie.0) (across (c.next e) t f-en refl) ∙ w.next_start e ie.0 ∙ sym (eqb-true v (c.origin t) p))
      go false p true q = (
        w.nexts t it.0,
        kept (c.next t) (λ z. across e (c.next t) refl f-tn (sym z)) (next-differs c w t it.0) ∙ w.next_start t it.0 ∙ ap c.origin pt ∙ sym (eqb-true v (c.origin e) q),
      )
      go false p false q = (
        w.outs v l,
        kept (c.out v) (λ z. eqb-false v (c.origin e) q (sym (w.out-start v l) ∙ ap c.origin z)) (λ z. eqb-false v (c.origin t) p (sym (w.out-start v l) ∙ ap c.origin z))
            ∙ w.out-start v l,
      )

  pub flip-patch : Patch c (flip_rows c e) (flipped c e)
  flip-patch =
      record {
        written = record { origin-is = λ h. refl; next-is = λ h. refl; prev-is = λ h. refl; face-is = λ h. refl; adjacent-is = λ f. refl };
        vertices-more = le_refl c.vertices;
        edges_more = le_refl c.half_edges;
        faces-more = le_refl c.faces;
        pairs = w.pairs;
        apart = apart;
        fit = fit;
        new-edges = λ h l q. l;
        new-faces = λ f l q. l;
        whole = whole;
        whole_back = whole_back;
        ends-kept = ends-kept;
        outs = λ v l. (out_at v l).0;
        out-start = λ v l. (out_at v l).1;
      }

  pub flip-wired : Wired (flipped c e)
  flip-wired = patched c (flipped c e) (flip_rows c e) w flip-patch
