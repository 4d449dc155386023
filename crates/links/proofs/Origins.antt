-- The set kept beside the scan of the last clause: a vertex is in it where an outer half-edge passed so far leaves it. Assumes nothing.
use mathlib.Core.Path.{◌≡◌, sym, subst, ap, ◌∙◌}
use mathlib.Core.Bool.{Bool, true, false, ◌&&◌}
use mathlib.Core.List.{List}
use Prim.Native.Nat.{ℕ, ◌+◌, ◌<◌}
use native.Mathlib.Nat.{not-suc-le-zero}
use native.Mathlib.Omega.{arith}
use native.Mathlib.Decide.{ℕ_discrete}
use lib.Dec.{eqb}
use lib.ListN.{length, get_or, set, replicate, length-replicate, get_or-replicate, length-set}
use lib.Seq.{get_or-set_same, get_or-set_other}
use borrow.Author.Count.{below_more}
use borrow.Author.Tests.{eq-eqb, ne_eqb}
use Rattle.whole.specs.First.{some, some_at, some-none, some-skip}
use Rattle.chart.specs.Chart.{Chart, outer}
use Rattle.links.specs.Links.{leaves, leaves_again}

pub record Met (c : Chart) (met : List Bool) (h : ℕ) : Type 0 where
  pub size : length met ≡ 128
  pub seen : (v : ℕ) → v < 128 → get_or met v false ≡ some (leaves c v) h
  pub none : (k : ℕ) → k < h → leaves_again c k ≡ false

module _ (c : Chart) where
  pub met-none : Met c (replicate 128 false) 0
  met-none =
      record {
        size = length-replicate 128 false;
        seen = λ v l. get_or-replicate 128 v false false l ∙ sym (some-none (leaves c v) 0 (λ k m. absurd (not-suc-le-zero m)));
        none = λ k m. absurd (not-suc-le-zero m);
      }

  -- an inner half-edge leaves the set as it is
  pub met-inner : (met : List Bool) (h : ℕ) → Met c met h → outer c h ≡ false → Met c met (h + 1)
  met-inner met h s i =
      record {
        size = s.size;
        seen = λ v l. s.seen v l ∙ sym (some-skip (leaves c v) h (ap (λ (b : Bool). b && eqb (c.origin h) v) i));
        none = below_more _ _ s.none (ap (λ (b : Bool). b && some (leaves c (c.origin h)) h) i);
      }

  module _ (met : List Bool) (h : ℕ) (s : Met c met h) (o : outer c h ≡ true) (l : c.origin h < 128) where
    again : leaves_again c h ≡ get_or met (c.origin h) false
    again = ap (λ (b : Bool). b && some (leaves c (c.origin h)) h) o ∙ sym (s.seen (c.origin h) l)

    -- the origin of an outer half-edge is in the set already
    met-again : get_or met (c.origin h) false ≡ true → leaves_again c h ≡ true
    met-again e = again ∙ e

    -- or is added to it
    met-outer : get_or met (c.origin h) false ≡ false → Met c (set met (c.origin h) true) (h + 1)
    met-outer e =
        record {
          size = length-set met (c.origin h) true ∙ s.size;
          seen = λ v m. at v m (ℕ_discrete v (c.origin h));
          none = below_more _ _ s.none (again ∙ e);
        }
      where
        at : (v : ℕ) → v < 128 → Dec (v ≡ c.origin h) → get_or (set met (c.origin h) true) v false ≡ some (leaves c v) (h + 1)
        at v m (yes d) =
            ap (λ (w : ℕ). get_or (set met (c.origin h) true) w false) d
            ∙ get_or-set_same met (c.origin h) true false (rw s.size l)
            ∙ sym (some_at (leaves c v) (h + 1) h (omega arith) (ap (λ (b : Bool). b && eqb (c.origin h) v) o ∙ eq-eqb (c.origin h) v (sym d)))
        at v m (no d) =
            get_or-set_other met (c.origin h) v true false d
            ∙ s.seen v m
            ∙ sym (some-skip (leaves c v) h (ap (λ (b : Bool). b && eqb (c.origin h) v) o ∙ ne_eqb (c.origin h) v (λ e. d (sym e))))

  -- the same of the origin as it was read
  module _ (met : List Bool) (h v : ℕ) (s : Met c met h) (o : outer c h ≡ true) (e : v ≡ c.origin h) (l : v < 128) where
    pub read_again : get_or met v false ≡ true → leaves_again c h ≡ true
    read_again t = met-again met h s o (subst (λ (w : ℕ). w < 128) e l) (subst (λ (w : ℕ). get_or met w false ≡ true) e t)

    pub read-outer : get_or met v false ≡ false → Met c (set met v true) (h + 1)
    read-outer t =
        subst (λ (w : ℕ). Met c (set met w true) (h + 1)) (sym e)
        (met-outer met h s o (subst (λ (w : ℕ). w < 128) e l) (subst (λ (w : ℕ). get_or met w false ≡ false) e t))
